-- What was found is the one object of the cursor's stamp, and else that is looked for.
use Rattle.std.proofs.Common.{rules, sym, ◌∙◌}
use Rattle.views.proofs.Stamped.{stamped-held}
use Rattle.record_table.proofs.Asking.{SameSide-refl}
use Rattle.db_write.proofs.FoundThrough.{found-object}
use Rattle.db_write.proofs.reaching.find_object.Goals as goal

pub returns-clause-asks : goal.returns-clause-asks
returns-clause-asks g c = record {
  answers = λ db held actor right.
      stamped-held c.args.reader.now.store.now c.args.reader.now.side (g.B.Eeprom.chip c.args.reader.now.bench.now) db c.args.cursor.now.object c.find_stamp_into.new.place held c.in_ok-find_stamp_into.ensures.found;
  goes_on = search rules;
  frame = search rules;
}

pub returns-then-is_some-clause-asks : goal.returns-then-is_some-clause-asks
returns-then-is_some-clause-asks g c = record {
  answers = λ db held actor right. found-object db actor c.args.cursor.now c.args.choice.now held.valid (rw c.if-is_found.true at right) (sym c.is_some.ensures ∙ c.if-is_some.true);
  goes_on = SameSide-refl;
  frame = search rules;
}
