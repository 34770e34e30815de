-- Each database that is committed a power loss may leave: the last once all is done, and the one before it where VERIFY commits two.
use Rattle.std.proofs.Common.{◌≡◌, ◌≤◌, ◌∙◌, ℕ, List, [], ◌∷◌, length, Option, Some, None, refl, sym, ap, subst, arith}
use Rattle.std.proofs.lemmas.Option.{none-some}
use Rattle.eeprom.specs.Chip.{Chip, MayBeLeftSince}
use Rattle.eeprom.proofs.Moments.{left-now}
use Rattle.record_table.specs.AtRest.{LeavesOnce, LeavesOneOf}
use Rattle.scql_model.specs.Database.{Database, IsValid}
use Rattle.scql_model.specs.Heard.{after_commits}
use Rattle.scql_model.specs.Machine.{Machine}
use Rattle.scql_model.specs.Step.{Answer}
use Rattle.card.specs.Answering.{LeavesEach, LeavesFirstOfTwo}
use Rattle.card.specs.Card.{Kept, StandsOver, HoldsMachine, committed_slots}
use Rattle.card.proofs.Leaving.{Opens-held}

-- the image of a card that holds a machine is told
told-held : (card : Kept) (chip : Chip) (m : Machine) → HoldsMachine card chip m → (image : List ℕ) × (chip.image ≡ Some image)
unfolding committed_slots
told-held card chip m at = of chip.image refl
  where
    of : (o : Option (List ℕ)) → chip.image ≡ o → (image : List ℕ) × (chip.image ≡ Some image)
    of (Some image) told = (image, told)
    of None told = absurd (none-some at.slots (ap (committed_slots card.store) (sym told) ∙ at.committed))

-- what it holds may be left
leaves-held : (card : Kept) (old new : Chip) (m : Machine) (dbs : List Database) → LeavesOneOf dbs old new → StandsOver card new → HoldsMachine card new m → IsValid m.committed → LeavesOnce m.committed old new
leaves-held card old new m dbs leaves ready at valid =
    let image = told-held card new m at in
    record {
      left = image.0;
      opens = Opens-held card new m ready at valid image.0 image.1;
      moment = subst (λ (mark : ℕ). MayBeLeftSince new old.clock mark image.0) (leaves.now image.0 image.1).0 (left-now new old.clock image.0 image.1);
    }

pub leaves-each : (card : Kept) (old new : Chip) (m : Machine) (answer : Answer) → LeavesOneOf (m.committed ∷ answer.commits) old new → StandsOver card new → HoldsMachine card new answer.machine → IsValid answer.machine.committed
    → after_commits m.committed answer.commits (length answer.commits) ≡ answer.machine.committed → length answer.commits ≤ 2 → LeavesFirstOfTwo answer old new → LeavesEach answer.commits old new
leaves-each card old new m answer leaves ready at valid last two lowered =
    each answer.commits last two lowered
  where
    ended : LeavesOnce answer.machine.committed old new
    ended = leaves-held card old new answer.machine (m.committed ∷ answer.commits) leaves ready at valid

    each : (commits : List Database) → after_commits m.committed commits (length commits) ≡ answer.machine.committed → length commits ≤ 2
        → ((first second : Database) (rest : List Database) → commits ≡ first ∷ second ∷ rest → LeavesOnce first old new) → LeavesEach commits old new
    each [] last two lowered = tt
    each (db ∷ []) last two lowered = (subst (λ (db : Database). LeavesOnce db old new) (sym last) ended, tt)
    each (first ∷ second ∷ []) last two lowered = (lowered first second [] refl, (subst (λ (db : Database). LeavesOnce db old new) (sym last) ended, tt))
    each (first ∷ second ∷ third ∷ rest) last two lowered = absurd (omega (arith, two))
