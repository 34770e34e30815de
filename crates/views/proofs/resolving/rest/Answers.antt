-- An object is a table, or a view whose base is reached first.
use Rattle.std.proofs.Common.{rules, refl, sym, ◌∙◌}
use Rattle.std.proofs.lemmas.Bool.{false≢true}
use Rattle.scql_model.specs.Resolving.{resolved_below}
use Rattle.views.proofs.Reached.{dictionary-none, of-object, table-reached, view-passes}
use Rattle.views.proofs.resolving.rest.Goals as goal
use Rattle.record_table.proofs.ReadingCosts.{ReadsDatabase-none}

pub returns-in-Table-clause-reached : goal.returns-in-Table-clause-reached
returns-in-Table-clause-reached g c = λ db r held at is known.
    let o = c.args.object.now in (
      refl,
      table-reached (resolved_below 4 db.objects) o o.kind c.in-Table.columns c.reach.new.resolved r c.in-Table.is (of-object db.objects o r at is) c.reach.ensures.table c.reach.ensures.all c.reach.ensures.filters,
    )

pub returns-then-not-branch-clause-reached : goal.returns-then-not-branch-clause-reached
returns-then-not-branch-clause-reached g c = λ db r held at is known.
    let o = c.args.object.now in
    let passes = view-passes (resolved_below 4 db.objects) o o.kind c.in-View.base c.in-View.columns c.in-View.conditions r c.in-View.is (of-object db.objects o r at is) known in
    let there = c.in_ok-descend-in-View.ensures.reached db passes.under held passes.at passes.filters in
    absurd (false≢true (sym c.if-not-branch.true ∙ there.0))

pub returns-else-not-branch-clause-reached : goal.returns-else-not-branch-clause-reached
returns-else-not-branch-clause-reached g c = λ db r held at is known.
    let o = c.args.object.now in
    let passes = view-passes (resolved_below 4 db.objects) o o.kind c.in-View.base c.in-View.columns c.in-View.conditions r c.in-View.is (of-object db.objects o r at is) known in
    let there = c.in_ok-descend-in-View.ensures.reached db passes.under held passes.at passes.filters in
    let passed = c.pass.ensures.passed passes.under there.1 passes.known in
    (passed.0, passes.reaches c.pass.new.resolved passed.1)

pub returns-in-Dictionary-clause-reached : goal.returns-in-Dictionary-clause-reached
returns-in-Dictionary-clause-reached g c = λ db r held at is known.
    let o = c.args.object.now in
    absurd (false≢true (dictionary-none (resolved_below 4 db.objects) o o.kind c.in-Dictionary.subject r c.in-Dictionary.is (of-object db.objects o r at is)))

pub returns-in-Table-clause-reads : goal.returns-in-Table-clause-reads
returns-in-Table-clause-reads g c = ReadsDatabase-none

pub returns-then-not-branch-clause-reads : goal.returns-then-not-branch-clause-reads
returns-then-not-branch-clause-reads g c = record {
  octets_read = λ db held. rw c.in-View.is (c.in_ok-descend-in-View.ensures.reads.octets_read db held);
  rises = c.in_ok-descend-in-View.ensures.reads.rises;
  goes_on = search rules;
  frame = search rules;
}

pub returns-else-not-branch-clause-reads : goal.returns-else-not-branch-clause-reads
returns-else-not-branch-clause-reads g c = record {
  octets_read = λ db held. rw c.in-View.is (c.in_ok-descend-in-View.ensures.reads.octets_read db held);
  rises = c.in_ok-descend-in-View.ensures.reads.rises;
  goes_on = search rules;
  frame = search rules;
}

pub returns-in-Dictionary-clause-reads : goal.returns-in-Dictionary-clause-reads
returns-in-Dictionary-clause-reads g c = ReadsDatabase-none
