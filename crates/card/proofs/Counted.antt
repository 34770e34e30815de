-- A card counts the records of its committed database.
use Rattle.std.proofs.Common.{◌≡◌, ℕ, List, Option, Some, None, sym, ap, subst, ◌∙◌, refl}
use Rattle.std.specs.Prelude.{IfSome}
use Rattle.std.proofs.lemmas.Option.{none-some}
use Rattle.eeprom.specs.Chip.{Chip}
use Rattle.eeprom.specs.StoreOf.{Slots}
use Rattle.record_store.specs.Held.{StandsFor, contents}
use Rattle.record_store.specs.declared.side.Side.TheVariants.{Committed}
use Rattle.scql_model.specs.Database.{Database}
use Rattle.scql_model.specs.Machine.{Machine}
use Rattle.scql_model.specs.Opens.{Holds}
use Rattle.card.specs.declared.counting.Counts.{Counts}
use Rattle.card.specs.Card.{Kept, IsAt, StandsOver, committed_slots}
use Rattle.card.specs.Counting.{counts_of}

pub counted-at : (card : Kept) (chip : Chip) (m : Machine) (counts : Counts) → StandsOver card chip → IsAt card chip m
    → ((image : List ℕ) (slots : Slots) (db : Database) → StandsFor card.store image → contents card.store Committed image ≡ Some slots → Holds slots db → counts ≡ counts_of db) → counts ≡ counts_of m.committed
unfolding committed_slots
counted-at card chip m counts ready at each = of chip.image refl
  where
    of : (o : Option (List ℕ)) → chip.image ≡ o → counts ≡ counts_of m.committed
    of None told = absurd (none-some at.held.slots (ap (committed_slots card.store) (sym told) ∙ at.held.committed))
    of (Some image) told =
        each image at.held.slots m.committed (subst (λ (o : Option (List ℕ)). IfSome o (StandsFor card.store)) told ready.over.stands)
        (subst (λ (o : Option (List ℕ)). committed_slots card.store o ≡ Some at.held.slots) told at.held.committed) at.held.holds
