-- What a view rests on, test by test.
use Rattle.std.proofs.Common.{◌≡◌, None, rules, sym, ◌∙◌}
use Rattle.card.specs.Founded.{own_columns}
use Rattle.card.specs.KeptRecords.{objects_in}
use Rattle.card.proofs.Founding.{rests, rests-nowhere, too-deep, too-young}
use Rattle.card.proofs.founded.rests_on.Goals as goal

pub returns-in_default : goal.returns-in_default
returns-in_default c =
    let none : own_columns c.args.base.now.kind ≡ None = search rules in
    sym (rests-nowhere (objects_in c.args.records.now.items) c.args.view.now c.args.columns.now c.args.conditions.now c.args.base.now c.requires.there none)

pub returns-then-not-stands_before : goal.returns-then-not-stands_before
returns-then-not-stands_before c =
    sym (too-young (objects_in c.args.records.now.items) c.args.view.now c.args.columns.now c.args.conditions.now c.args.base.now (sym c.stands_before.ensures ∙ c.if-not-stands_before.true))

pub returns-then-not-may_have_view : goal.returns-then-not-may_have_view
returns-then-not-may_have_view c =
    sym (too-deep (objects_in c.args.records.now.items) c.args.view.now c.args.columns.now c.args.conditions.now c.args.base.now (sym c.may_have_view.ensures ∙ c.if-not-may_have_view.true))

pub returns : goal.returns
returns c =
    c.are_named_among.ensures
    ∙ sym (rests (objects_in c.args.records.now.items) c.args.view.now c.args.columns.now c.args.conditions.now c.args.base.now c.in-Some.all.now (sym c.in-Some.ensures)
    (sym c.stands_before.ensures ∙ c.if-not-stands_before.false) (sym c.may_have_view.ensures ∙ c.if-not-may_have_view.false))
