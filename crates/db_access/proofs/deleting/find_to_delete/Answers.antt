-- The user of the name, or the first refusal.
use Rattle.std.proofs.Common.{rules, sym, ap, ◌∙◌}
use Rattle.std.specs.Prelude.{option_map}
use Rattle.record_table.proofs.Asking.{same-held}
use Rattle.db_access.proofs.NamedUser.{named-held}
use Rattle.db_access.proofs.UserDeleted.{deletes, deletes-foreign, deletes-needed, deletes-none}
use Rattle.db_access.proofs.deleting.find_to_delete.Goals as goal

pub returns-in_default-clause-asks : goal.returns-in_default-clause-asks
returns-in_default-clause-asks g c = record {
  answers = λ db held.
      let named = named-held c.args.reader.now.store.now c.args.reader.now.side (g.B.Eeprom.chip c.args.reader.now.bench.now) db c.args.name _ held c.in_ok-user.ensures.first in
      rw c.refused.ensures (deletes-none db c.args.actor c.args.name (named ∙ ap (option_map (λ found. found.value)) c.in_default.is));
  goes_on = search rules;
  frame = search rules;
}

pub returns-then-not-is_owned_by-clause-asks : goal.returns-then-not-is_owned_by-clause-asks
returns-then-not-is_owned_by-clause-asks g c = record {
  answers = λ db held.
      let named = named-held c.args.reader.now.store.now c.args.reader.now.side (g.B.Eeprom.chip c.args.reader.now.bench.now) db c.args.name _ held c.in_ok-user.ensures.first in
      rw c.refused-then-not-is_owned_by.ensures
      (deletes-foreign db c.args.actor c.args.name c.in-Some.user.value (named ∙ ap (option_map (λ found. found.value)) c.in-Some.is) (sym c.is_owned_by.ensures ∙ c.if-not-is_owned_by.true));
  goes_on = search rules;
  frame = search rules;
}

pub returns-then-branch-clause-asks : goal.returns-then-branch-clause-asks
returns-then-branch-clause-asks g c = record {
  answers = λ db held.
      let named = named-held c.args.reader.now.store.now c.args.reader.now.side (g.B.Eeprom.chip c.args.reader.now.bench.now) db c.args.name _ held c.in_ok-user.ensures.first in
      let still = same-held c.in_ok-user.ensures.goes_on c.in_ok-user.ensures.frame.same held in
      rw c.refused-then-branch.ensures
      (deletes-needed db c.args.actor c.args.name c.in-Some.user.value (named ∙ ap (option_map (λ found. found.value)) c.in-Some.is) (sym c.is_owned_by.ensures ∙ c.if-not-is_owned_by.false)
      (sym (c.in_ok-is_needed.ensures.answers db still) ∙ c.if-branch.true));
  goes_on = search rules;
  frame = search rules;
}

pub returns-clause-asks : goal.returns-clause-asks
returns-clause-asks g c = record {
  answers = λ db held.
      let named = named-held c.args.reader.now.store.now c.args.reader.now.side (g.B.Eeprom.chip c.args.reader.now.bench.now) db c.args.name _ held c.in_ok-user.ensures.first in
      let still = same-held c.in_ok-user.ensures.goes_on c.in_ok-user.ensures.frame.same held in
      deletes db c.args.actor c.args.name c.in-Some.user.value (named ∙ ap (option_map (λ found. found.value)) c.in-Some.is) (sym c.is_owned_by.ensures ∙ c.if-not-is_owned_by.false)
      (sym (c.in_ok-is_needed.ensures.answers db still) ∙ c.if-branch.false);
  goes_on = search rules;
  frame = search rules;
}

pub returns-clause-named : goal.returns-clause-named
returns-clause-named g c = λ db held. named-held c.args.reader.now.store.now c.args.reader.now.side (g.B.Eeprom.chip c.args.reader.now.bench.now) db c.args.name _ held c.in_ok-user.ensures.first ∙ ap (option_map (λ found. found.value)) c.in-Some.is
