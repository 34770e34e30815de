-- A store has as many slots as cells.
use Rattle.std.proofs.Common.{◌≡◌, ℕ, List, length, Option, Some, None, sym, ap, subst, ◌∙◌}
use Rattle.record_store.specs.declared.side.Side.TheVariants.{Committed}
use Rattle.std.specs.Prelude.{IfSome}
use Rattle.eeprom.proofs.Chains.{length-slots_at}
use Rattle.eeprom.proofs.Places.{length-numbers_at}
use Rattle.record_store.specs.Held.{Held, StandsFor, contents}
use Rattle.card.specs.Card.{committed_slots}

pub length-committed : (store : Held) (image : List ℕ) → StandsFor store image → IfSome (contents store Committed image) (λ slots. length slots ≡ store.chains.cells)
length-committed store image stands =
    let firsts : length store.committed ≡ store.chains.cells = ap length (sym stands.begins.directory) ∙ length-numbers_at image 32 store.chains.cells in
    subst (λ (n : ℕ). IfSome (contents store Committed image) (λ slots. length slots ≡ n)) firsts (length-slots_at image store.chains.cells store.committed)

pub length-committed_slots : (store : Held) (image : Option (List ℕ)) → IfSome image (StandsFor store) → IfSome (committed_slots store image) (λ slots. length slots ≡ store.chains.cells)
unfolding committed_slots
length-committed_slots store None stands = tt
length-committed_slots store (Some image) stands = length-committed store image stands
