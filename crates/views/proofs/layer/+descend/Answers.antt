-- The base of a view is a table, or a view whose base is reached first.
use Rattle.std.proofs.Common.{rules, ◌≡◌, ℕ, suc, ◌-◌, Some, refl, sym, subst, ◌∙◌, arith}
use Rattle.std.proofs.lemmas.Bool.{false≢true}
use Rattle.scql_model.specs.Resolving.{resolved_below}
use Rattle.record_table.specs.Asking.{slots_asked}
use Rattle.record_table.proofs.Asking.{same-held, same-slots}
use Rattle.record_table.proofs.ReadingCosts.{falls-both}
use Rattle.views.specs.Below.{cells_below}
use Rattle.views.proofs.Below.{ReadsAtMost, below-both, below-first, object-read}
use Rattle.views.proofs.Reached.{below-found, below-none, below-nothing, dictionary-none, table-reached, view-passes}
use Rattle.views.proofs.Stamped.{stamped-held}
use Rattle.views.proofs.layer.+descend.Goals as goal

pub returns-in_default-clause-reached : goal.returns-in_default-clause-reached
returns-in_default-clause-reached g t c = λ db r held is known.
    let place = c.find_stamp_into.new.place in
    let at = stamped-held c.args.reader.now.store.now c.args.reader.now.side (g.B.Eeprom.chip c.args.reader.now.bench.now) db c.args.base place held c.in_ok-find_stamp_into.ensures.found in
    absurd (false≢true (below-none db.objects c.args.most c.args.base place r at c.in_default.is is))

pub returns-in-Table-clause-reached : goal.returns-in-Table-clause-reached
returns-in-Table-clause-reached g t c = λ db r held is known.
    let place = c.find_stamp_into.new.place in
    let o = c.in-Some.object in
    let at = stamped-held c.args.reader.now.store.now c.args.reader.now.side (g.B.Eeprom.chip c.args.reader.now.bench.now) db c.args.base place held c.in_ok-find_stamp_into.ensures.found in
    let over = below-found db.objects c.args.most c.args.base place o r at c.in-Some.is is in
    (refl, table-reached (resolved_below c.args.most db.objects) o o.kind c.in-Table.columns c.reach.new.resolved r c.in-Table.is over c.reach.ensures.table c.reach.ensures.all c.reach.ensures.filters)

pub returns-then-most-eq0-clause-reached : goal.returns-then-most-eq0-clause-reached
returns-then-most-eq0-clause-reached g t c = λ db r held is known.
    let place = c.find_stamp_into.new.place in
    let o = c.in-Some.object in
    let at = stamped-held c.args.reader.now.store.now c.args.reader.now.side (g.B.Eeprom.chip c.args.reader.now.bench.now) db c.args.base place held c.in_ok-find_stamp_into.ensures.found in
    let over = below-found db.objects c.args.most c.args.base place o r at c.in-Some.is is in
    let passes = view-passes (resolved_below c.args.most db.objects) o o.kind c.in-View.base c.in-View.columns c.in-View.conditions r c.in-View.is over known in
    absurd (false≢true (below-nothing db.objects c.args.most c.in-View.base passes.under c.if-most-eq0.true passes.at))

pub returns-then-not-branch-clause-reached : goal.returns-then-not-branch-clause-reached
returns-then-not-branch-clause-reached g t c = λ db r held is known.
    let place = c.find_stamp_into.new.place in
    let o = c.in-Some.object in
    let at = stamped-held c.args.reader.now.store.now c.args.reader.now.side (g.B.Eeprom.chip c.args.reader.now.bench.now) db c.args.base place held c.in_ok-find_stamp_into.ensures.found in
    let over = below-found db.objects c.args.most c.args.base place o r at c.in-Some.is is in
    let passes = view-passes (resolved_below c.args.most db.objects) o o.kind c.in-View.base c.in-View.columns c.in-View.conditions r c.in-View.is over known in
    let some = c.if-most-eq0.false in
    let one_less : suc (c.args.most - 1) ≡ c.args.most = omega (arith, some) in
    let under = subst (λ (n : ℕ). resolved_below n db.objects c.in-View.base ≡ Some passes.under) (sym one_less) passes.at in
    let there = c.in_ok-descend-in-View.ensures.reached db passes.under (same-held c.in_ok-find_stamp_into.ensures.goes_on c.in_ok-find_stamp_into.ensures.frame.same held) under passes.filters in
    absurd (false≢true (sym c.if-not-branch.true ∙ there.0))

pub returns-else-not-branch-clause-reached : goal.returns-else-not-branch-clause-reached
returns-else-not-branch-clause-reached g t c = λ db r held is known.
    let place = c.find_stamp_into.new.place in
    let o = c.in-Some.object in
    let at = stamped-held c.args.reader.now.store.now c.args.reader.now.side (g.B.Eeprom.chip c.args.reader.now.bench.now) db c.args.base place held c.in_ok-find_stamp_into.ensures.found in
    let over = below-found db.objects c.args.most c.args.base place o r at c.in-Some.is is in
    let passes = view-passes (resolved_below c.args.most db.objects) o o.kind c.in-View.base c.in-View.columns c.in-View.conditions r c.in-View.is over known in
    let some = c.if-most-eq0.false in
    let one_less : suc (c.args.most - 1) ≡ c.args.most = omega (arith, some) in
    let under = subst (λ (n : ℕ). resolved_below n db.objects c.in-View.base ≡ Some passes.under) (sym one_less) passes.at in
    let there = c.in_ok-descend-in-View.ensures.reached db passes.under (same-held c.in_ok-find_stamp_into.ensures.goes_on c.in_ok-find_stamp_into.ensures.frame.same held) under passes.filters in
    let passed = c.pass.ensures.passed passes.under there.1 passes.known in
    (passed.0, passes.reaches c.pass.new.resolved passed.1)

pub returns-in-Dictionary-clause-reached : goal.returns-in-Dictionary-clause-reached
returns-in-Dictionary-clause-reached g t c = λ db r held is known.
    let place = c.find_stamp_into.new.place in
    let o = c.in-Some.object in
    let at = stamped-held c.args.reader.now.store.now c.args.reader.now.side (g.B.Eeprom.chip c.args.reader.now.bench.now) db c.args.base place held c.in_ok-find_stamp_into.ensures.found in
    let over = below-found db.objects c.args.most c.args.base place o r at c.in-Some.is is in
    absurd (false≢true (dictionary-none (resolved_below c.args.most db.objects) o o.kind c.in-Dictionary.subject r c.in-Dictionary.is over))

pub returns-in_default-clause-reads : goal.returns-in_default-clause-reads
returns-in_default-clause-reads g t c = record {
  octets_read = λ db held.
      below-first c.args.most db.objects c.args.base _ _ (object-read c.args.reader.now.store.now c.args.reader.now.side (g.B.Eeprom.chip c.args.reader.now.bench.now) db c.args.base _ _ held c.in_ok-find_stamp_into.ensures.octets_read);
  rises = c.in_ok-find_stamp_into.ensures.rises;
  goes_on = c.in_ok-find_stamp_into.ensures.goes_on;
  frame = search rules;
}

pub returns-in-Table-clause-reads : goal.returns-in-Table-clause-reads
returns-in-Table-clause-reads g t c = record {
  octets_read = λ db held.
      below-first c.args.most db.objects c.args.base _ _ (object-read c.args.reader.now.store.now c.args.reader.now.side (g.B.Eeprom.chip c.args.reader.now.bench.now) db c.args.base _ _ held c.in_ok-find_stamp_into.ensures.octets_read);
  rises = c.in_ok-find_stamp_into.ensures.rises;
  goes_on = c.in_ok-find_stamp_into.ensures.goes_on;
  frame = search rules;
}

pub returns-then-most-eq0-clause-reads : goal.returns-then-most-eq0-clause-reads
returns-then-most-eq0-clause-reads g t c = record {
  octets_read = λ db held.
      below-first c.args.most db.objects c.args.base _ _ (object-read c.args.reader.now.store.now c.args.reader.now.side (g.B.Eeprom.chip c.args.reader.now.bench.now) db c.args.base _ _ held c.in_ok-find_stamp_into.ensures.octets_read);
  rises = c.in_ok-find_stamp_into.ensures.rises;
  goes_on = c.in_ok-find_stamp_into.ensures.goes_on;
  frame = search rules;
}

pub returns-then-not-branch-clause-reads : goal.returns-then-not-branch-clause-reads
returns-then-not-branch-clause-reads g t c = record {
  octets_read = λ db held.
      let place = c.find_stamp_into.new.place in
      let chip = g.B.Eeprom.chip c.args.reader.now.bench.now in
      let at = stamped-held c.args.reader.now.store.now c.args.reader.now.side chip db c.args.base place held c.in_ok-find_stamp_into.ensures.found in
      let some = c.if-most-eq0.false in
      let one_less : suc (c.args.most - 1) ≡ c.args.most = omega (arith, some) in
      let under = c.in_ok-descend-in-View.ensures.reads.octets_read db (same-held c.in_ok-find_stamp_into.ensures.goes_on c.in_ok-find_stamp_into.ensures.frame.same held) in
      below-both c.args.most db.objects c.args.base c.in-Some.object c.in-View.base c.in-View.columns c.in-View.conditions _ _ _ (sym at ∙ c.in-Some.is) c.in-View.is
      (object-read c.args.reader.now.store.now c.args.reader.now.side chip db c.args.base _ _ held c.in_ok-find_stamp_into.ensures.octets_read)
      (subst (λ (n : ℕ). ReadsAtMost (cells_below n db.objects c.in-View.base) (g.B.Eeprom.octets_read c.find_stamp_into.new.reader.bench.now) (g.B.Eeprom.octets_read c.descend.new.reader.bench.now)) one_less under);
  rises = falls-both (slots_asked c.args.reader.now) _ _ _ c.in_ok-find_stamp_into.ensures.rises (rw (same-slots c.in_ok-find_stamp_into.ensures.goes_on c.in_ok-find_stamp_into.ensures.frame.same) at c.in_ok-descend-in-View.ensures.reads.rises);
  goes_on = search rules;
  frame = search rules;
}

pub returns-else-not-branch-clause-reads : goal.returns-else-not-branch-clause-reads
returns-else-not-branch-clause-reads g t c = record {
  octets_read = λ db held.
      let place = c.find_stamp_into.new.place in
      let chip = g.B.Eeprom.chip c.args.reader.now.bench.now in
      let at = stamped-held c.args.reader.now.store.now c.args.reader.now.side chip db c.args.base place held c.in_ok-find_stamp_into.ensures.found in
      let some = c.if-most-eq0.false in
      let one_less : suc (c.args.most - 1) ≡ c.args.most = omega (arith, some) in
      let under = c.in_ok-descend-in-View.ensures.reads.octets_read db (same-held c.in_ok-find_stamp_into.ensures.goes_on c.in_ok-find_stamp_into.ensures.frame.same held) in
      below-both c.args.most db.objects c.args.base c.in-Some.object c.in-View.base c.in-View.columns c.in-View.conditions _ _ _ (sym at ∙ c.in-Some.is) c.in-View.is
      (object-read c.args.reader.now.store.now c.args.reader.now.side chip db c.args.base _ _ held c.in_ok-find_stamp_into.ensures.octets_read)
      (subst (λ (n : ℕ). ReadsAtMost (cells_below n db.objects c.in-View.base) (g.B.Eeprom.octets_read c.find_stamp_into.new.reader.bench.now) (g.B.Eeprom.octets_read c.descend.new.reader.bench.now)) one_less under);
  rises = falls-both (slots_asked c.args.reader.now) _ _ _ c.in_ok-find_stamp_into.ensures.rises (rw (same-slots c.in_ok-find_stamp_into.ensures.goes_on c.in_ok-find_stamp_into.ensures.frame.same) at c.in_ok-descend-in-View.ensures.reads.rises);
  goes_on = search rules;
  frame = search rules;
}

pub returns-in-Dictionary-clause-reads : goal.returns-in-Dictionary-clause-reads
returns-in-Dictionary-clause-reads g t c = record {
  octets_read = λ db held.
      below-first c.args.most db.objects c.args.base _ _ (object-read c.args.reader.now.store.now c.args.reader.now.side (g.B.Eeprom.chip c.args.reader.now.bench.now) db c.args.base _ _ held c.in_ok-find_stamp_into.ensures.octets_read);
  rises = c.in_ok-find_stamp_into.ensures.rises;
  goes_on = c.in_ok-find_stamp_into.ensures.goes_on;
  frame = search rules;
}
