-- What a power loss may leave of a card.
use Rattle.std.proofs.Common.{◌≡◌, ℕ, List, ◌∷◌, Some, refl, sym, subst, inl, arith}
use Rattle.eeprom.specs.Chip.{Chip, Becomes, RisesAtMost}
use Rattle.eeprom.specs.StoreOf.{front_size, image_size}
use Rattle.eeprom.proofs.Moments.{throughout-same, throughout-weaker}
use Rattle.eeprom.proofs.SameFrom.{drop-from}
use Rattle.record_store.specs.Recovery.{KeepsStore}
use Rattle.scql_model.specs.Database.{Database, IsValid}
use Rattle.scql_model.specs.Machine.{Machine}
use Rattle.card.specs.Card.{Kept, StandsOver, HoldsMachine}
use Rattle.record_table.specs.AtRest.{LeavesOneOf}
use Rattle.card.specs.Behind.{KeepsBehind, own_cells}
pub use Rattle.card.specs.CardLaws.{Opens-held, Opens-at}

-- an opening writes the front alone
pub behind-opened : (old new : Chip) → KeepsStore old new → KeepsBehind own_cells old new
behind-opened old new keeps = throughout-weaker old new _ _ keeps.rest (λ g left during. (
  during.1,
  during.2,
  drop-from (front_size (own_cells during.1)) (image_size (own_cells during.1)) left during.1 (omega arith) during.3.rest.cells,
))

pub rises-none : (most : ℕ) (old new : Chip) → new ≡ old → Becomes (RisesAtMost most) old.written new.written
rises-none most old new same = λ after told. (after, subst (λ (chip : Chip). chip.written ≡ Some after) same told, omega arith)

-- and so does the database
pub unwritten_leaves : (card : Kept) (old new : Chip) (m : Machine) (more : List Database) → StandsOver card old → HoldsMachine card old m → IsValid m.committed → new ≡ old → LeavesOneOf (m.committed ∷ more) old new
unwritten_leaves card old new m more ready held valid same =
    subst (λ (chip : Chip). LeavesOneOf (m.committed ∷ more) old chip) (sym same)
    (throughout-same old _ (λ image told. (refl, inl (Opens-held card old m ready held valid image told))))
