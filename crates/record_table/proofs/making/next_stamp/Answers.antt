-- There is a counter, and it is the database's.
use Rattle.std.proofs.Common.{rules, ◌≡◌, None, refl, sym, ap, ◌∙◌}
use Rattle.std.specs.Prelude.{option_map}
use Rattle.std.specs.Result.{result_ok}
use Rattle.std.proofs.lemmas.Option.{none-some, same_Some}
use Rattle.record_table.proofs.Stamping.{counter-held, stamps_ended}
use Rattle.record_table.proofs.making.next_stamp.Goals as goal

pub returns-in_err-counter-clause-none : goal.returns-in_err-counter-clause-none
returns-in_err-counter-clause-none g c = λ db edits held takes.
    let none : c.in_ok-find_by.field-0 ≡ None = c.ok_or.ensures.ok_part ∙ ap result_ok c.in_err-counter.was in
    let there = counter-held c.args.store.now (g.B.Eeprom.chip c.args.bench.now) db _ held c.in_ok-find_by.ensures.found in
    absurd (none-some _ (sym (ap (option_map (λ found. found.value)) none) ∙ there))

pub returns-then-counter-clause-none : goal.returns-then-counter-clause-none
returns-then-counter-clause-none g c = λ db edits held takes.
    let some = c.ok_or.ensures.ok_part ∙ ap result_ok (c.in_ok-counter.was) in
    let there = counter-held c.args.store.now (g.B.Eeprom.chip c.args.bench.now) db _ held c.in_ok-find_by.ensures.found in
    let next = same_Some _ _ (sym (ap (option_map (λ found. found.value)) some) ∙ there) in
    (stamps_ended db edits takes (sym next ∙ (ap (λ counter. counter.value) (sym c.counter.view_is) ∙ c.if-counter.true)), refl, search rules)

pub returns-clause-finds : goal.returns-clause-finds
returns-clause-finds g c = record {
  counter = search rules;
  next = λ db held.
      let some = c.ok_or.ensures.ok_part ∙ ap result_ok (c.in_ok-counter.was) in
      let there = counter-held c.args.store.now (g.B.Eeprom.chip c.args.bench.now) db _ held c.in_ok-find_by.ensures.found in
      same_Some _ _ (sym (ap (option_map (λ found. found.value)) some) ∙ there);
  frame = search rules;
}
