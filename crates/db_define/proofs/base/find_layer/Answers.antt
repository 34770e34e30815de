-- The object of the stamp is the database's.
use Rattle.std.proofs.Common.{rules, Some, None, ap, ◌∙◌}
use Rattle.db_define.specs.Layers.{layer_found}
use Rattle.db_define.proofs.Layers.{stamped-held}
use Rattle.db_define.proofs.base.find_layer.Goals as goal

pub returns-in-Some : goal.returns-in-Some
returns-in-Some g c = record {
  answers = λ db held.
      c.layer_of.ensures ∙ ap layer_found (stamped-held c.args.reader.now.store.now c.args.reader.now.side (g.B.Eeprom.chip c.args.reader.now.bench.now) db c.args.stamp (Some c.in-Some.found) held (rw c.in-Some.is at c.in_ok-find_stamp_into.ensures.found));
  goes_on = search rules;
  frame = search rules;
}

pub returns-in-None : goal.returns-in-None
returns-in-None g c = record {
  answers = λ db held. ap layer_found (stamped-held c.args.reader.now.store.now c.args.reader.now.side (g.B.Eeprom.chip c.args.reader.now.bench.now) db c.args.stamp None held (rw c.in-None.is at c.in_ok-find_stamp_into.ensures.found));
  goes_on = search rules;
  frame = search rules;
}
