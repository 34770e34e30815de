-- An index follows where a slot is emptied.
use Rattle.std.proofs.Common.{◌≡◌, ℕ, ◌<◌, true, List, Option, Some, refl, sym, subst, arith}
use Rattle.std.specs.Prelude.{IfSome}
use Rattle.eeprom.specs.Chip.{Chip}
use Rattle.eeprom.specs.StoreOf.{Slots}
use Rattle.record_store.specs.Held.{Held, StandsFor}
use Rattle.record_store.specs.declared.side.Side.TheVariants.{Working}
use Rattle.record_table.specs.Changed.{IsEmptied, Rewrites}
use Rattle.record_table.specs.Listed.{slots_of}
use Rattle.row_index.specs.Index.{ChangesWorking, HasRows, Index, Indexes}
use Rattle.row_index.specs.SideRows.{SideRows, without_slot}
use Rattle.row_index.proofs.ChangedPlaces.{HasRows-removed}
use Rattle.row_index.proofs.Standing.{Indexes-rewritten}

-- a row is taken out
pub Indexes-removed : (index next : Index) (old new : Held) (chip : Chip) (slot : ℕ) → IfSome chip.image (StandsFor old) → new.chains.cells ≡ old.chains.cells → slot < old.chains.cells
    → ((image : List ℕ) → StandsFor old image → Rewrites (IsEmptied slot) old new image image) → ChangesWorking index next → IfSome (slots_of old Working chip) (λ _. next.working ≡ without_slot slot index.working) → Indexes index old chip
    → Indexes next new chip
Indexes-removed index next old new chip slot stands cells there removed changes left is =
    Indexes-rewritten index next old new chip chip (IsEmptied slot) is stands cells changes.cells
    (λ image told. (image, told, removed image (subst (λ o. IfSome o (StandsFor old)) told stands)))
    (λ committed working after told_committed told_working has_committed has_working emptied.
    (let rows : next.working ≡ without_slot slot index.working = subst (λ (o : Option Slots). IfSome o (λ _. next.working ≡ without_slot slot index.working)) told_working left in
    (rw (changes.cells, changes.committed) has_committed, rw (changes.cells, rows) (HasRows-removed index.cells index.working slot working after has_working emptied (omega (arith, there, is.cells))))))
