-- In a valid database a table or a view rests on a table, and all names are known.
use Rattle.std.proofs.Common.{◌≡◌, true, sym, subst, ◌∙◌}
use Rattle.std.proofs.lemmas.Bool.{false≢true}
use Rattle.scql_model.specs.Database.{are_among}
use Rattle.scql_model.specs.Matching.{Columns}
use Rattle.scql_model.specs.Objects.{columns_of}
use Rattle.scql_model.proofs.KnownNames.{IsKnown-resolved_of, columns-resolved, resolved-valid}
use Rattle.views.proofs.resolving.resolve_into.Goals.{else-branch-via-then-branch+else-show, else-branch-via-else-branch}
use Rattle.views.proofs.resolving.resolve_into.Goals as goal
use Rattle.record_table.proofs.ReadingCosts.{ReadsDatabase-told}

pub returns-then-show-clause-resolved : goal.returns-then-show-clause-resolved
returns-then-show-clause-resolved g c = λ db held at is.
    let o = c.args.object.now in
    let r = resolved-valid db o held.valid at is in
    let known = IsKnown-resolved_of db o.stamp r.0 held.valid r.1 in
    let there = c.in_ok-rest.ensures.reached db r.0 held at r.1 known.filters in
    record { is = r.0; resolved = r.1; stands = c.show.ensures.stands r.0 there.1 (columns-resolved db o r.0 held.valid at r.1) c.if-show.true }

pub returns-clause-resolved : goal.returns-clause-resolved
returns-clause-resolved g c = λ db held at is.
    let o = c.args.object.now in
    let r = resolved-valid db o held.valid at is in
    let known = IsKnown-resolved_of db o.stamp r.0 held.valid r.1 in
    let there = c.in_ok-rest.ensures.reached db r.0 held at r.1 known.filters in
    let shown = subst (λ (columns : Columns). are_among columns r.0.all ≡ true) (columns-resolved db o r.0 held.valid at r.1) known.within in
    let within = subst (λ (all : Columns). are_among (columns_of o.kind) all ≡ true) (sym there.1.all) shown in
    elim c.else-branch.branch [
      | else-branch-via-then-branch+else-show w ↦ absurd (false≢true (sym w.if-show.false ∙ w.show.ensures.there is within))
      | else-branch-via-else-branch w ↦ absurd (false≢true (sym w.if-branch.false ∙ there.0))
    ]

pub returns-then-show-clause-reads : goal.returns-then-show-clause-reads
returns-then-show-clause-reads g c = ReadsDatabase-told c.in_ok-rest.ensures.reads

pub returns-clause-reads : goal.returns-clause-reads
returns-clause-reads g c = ReadsDatabase-told c.in_ok-rest.ensures.reads
