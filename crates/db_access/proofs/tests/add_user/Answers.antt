-- A store whose transaction begins is over the same EEPROM.
use Rattle.std.proofs.Common.{rules, List, ℕ, Option, Some, None}
use Rattle.std.specs.Prelude.{IfSome}
use Rattle.db_access.proofs.tests.add_user.Goals as goal

still : (P Q : List ℕ → Type 0) (o : Option (List ℕ)) → ((image : List ℕ) → P image → Q image) → IfSome o P → IfSome o Q
still P Q None each there = tt
still P Q (Some image) each there = each image there

pub add-requires-clause-open : goal.add-requires-clause-open
add-requires-clause-open g c = record {
  begun = search rules;
  over = record {
    room = rw c.begin.ensures.begun c.requires.rests.over.room;
    stands = still _ _ (g.B.Eeprom.chip c.args.bench.now).image c.begin.ensures.stands c.requires.rests.over.stands;
  };
}
