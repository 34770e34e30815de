-- The name is free, and so the object is made, if a stamp is left.
use Rattle.std.proofs.Common.{rules, ◌≡◌, Result, Ok, Err, refl, sym, subst, ◌∙◌}
use Rattle.std.specs.Prelude.{IfErr, IfOk}
use Rattle.record_store.specs.declared.side.Side.TheVariants.{Working}
use Rattle.scql_model.specs.Edits.{making}
use Rattle.scql_model.specs.Records.{of_object}
use Rattle.record_table.specs.Making.{Ends, IsHeld}
use Rattle.db_define.proofs.ObjectMade.{names, names-again}
use Rattle.db_define.proofs.making.find_new_stamp.Goals as goal

-- what holds in any case
of-any : {T E P : Type 0} (result : Result T E) → P → IfOk result (λ x. P)
of-any (Ok x) holds = holds
of-any (Err error) holds = tt

pub returns-then-branch-clause-refused : goal.returns-then-branch-clause-refused
returns-then-branch-clause-refused g c = λ db o held named.
    let taken = rw c.copy.ensures at (sym (c.in_ok-is_taken.ensures.answers db held) ∙ c.if-branch.true) in
    rw c.refused.ensures (names-again db o (rw named taken), refl, search rules)

pub returns-clause-finds : goal.returns-clause-finds
returns-clause-finds g c =
    let still : g.B.Eeprom.chip c.next_stamp.new.bench ≡ g.B.Eeprom.chip c.args.bench.now = search rules in
    record {
      counter = rw (sym c.next_stamp.ensures.finds.frame.same ∙ still) at c.next_stamp.ensures.finds.counter;
      next = λ db held. c.next_stamp.ensures.finds.next db (subst (λ chip. IsHeld c.args.store.now Working chip db) (search rules) held);
      frame = search rules;
    }

pub returns-clause-free : goal.returns-clause-free
returns-clause-free g c = λ db held. of-any c.next_stamp.result (rw c.copy.ensures at (sym (c.in_ok-is_taken.ensures.answers db held) ∙ c.if-branch.false))

pub returns-clause-refused : goal.returns-clause-refused
returns-clause-refused g c = λ db o held named.
    let free = rw c.copy.ensures at (sym (c.in_ok-is_taken.ensures.answers db held) ∙ c.if-branch.false) in
    let still : g.B.Eeprom.chip c.next_stamp.new.bench ≡ g.B.Eeprom.chip c.args.bench.now = search rules in
    let before = sym c.next_stamp.ensures.finds.frame.same ∙ still in
    let there = subst (λ chip. IsHeld c.args.store.now Working chip db) (sym before) held in
    let none = rw before at (c.next_stamp.ensures.none db (making db (of_object o)) there refl) in
    subst (λ outcome. IfErr c.next_stamp.result (λ stop. Ends {T = Unit {0}} db outcome (Err stop) c.args.store.now c.args.store.now (g.B.Eeprom.chip c.args.bench.now) (g.B.Eeprom.chip c.next_stamp.new.bench)))
    (sym (names db o (rw named free))) none
