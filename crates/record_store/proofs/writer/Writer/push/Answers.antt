use Rattle.std.proofs.Common.{refl, arith, rules}
use Rattle.record_store.proofs.Appending.{Appends-pushed}
use Rattle.record_store.proofs.writer.Writer.push.Goals as goal

pub returns-in_err-make_room : goal.returns-in_err-make_room
returns-in_err-make_room g c = record {
  appends = search rules;
  behind = search rules;
  front = c.make_room.ensures.appends.front;
  after = λ limit inside. c.make_room.ensures.appends.after limit (omega (arith, inside));
  cause = search rules;
}

pub returns : goal.returns
returns g c = record {
  appends = Appends-pushed _ _ _ _ _ _ c.in_ok-make_room.ensures.appends.appends refl c.push.ensures.items;
  behind = search rules;
  front = c.make_room.ensures.appends.front;
  after = λ limit inside. c.make_room.ensures.appends.after limit (omega (arith, inside));
  cause = search rules;
}
