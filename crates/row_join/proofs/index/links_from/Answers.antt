use Rattle.std.proofs.Common.{◌∙◌, ap, sym, append-nil, List, ◌++◌, []}
use Rattle.std.specs.List.{cons_option}
use Rattle.row_join.specs.declared.column.Column.{Column}
use Rattle.row_join.specs.declared.column.Equality.{Equality}
use Rattle.row_join.specs.declared.link.Link.{Link}
use Rattle.row_join.proofs.Indexes.{links_of-more}
use Rattle.row_join.proofs.index.links_from.Goals as goal
use Rattle.row_join.proofs.index.links_from.Goals.{in-Some+in_ok-push, in_default}

pub loop-equality-preserved : goal.loop-equality-preserved
loop-equality-preserved c =
    let none : Column = record { object = 0; place = 0 } in
    let nothing : Equality = record { left = none; right = none } in
    let old : List Link = c.loop-equality.links.items in
    let more = links_of-more c.args.object c.args.equalities.now c.loop-equality.equality-index nothing c.link.result old c.loop-equality-test.true c.loop-equality.invariant c.link.ensures in
    elim c.match-link.branch [
      | in-Some+in_ok-push w ↦ rw w.links-is (w.in_ok-push.ensures.items ∙ ap (λ o. old ++ cons_option o []) (sym w.in-Some.is) ∙ more)
      | in_default w ↦ let h = w.in_default.is in let g = w.in_default.not-Some in rw w.links-is (sym (append-nil old) ∙ ap (λ o. old ++ cons_option o []) (sym w.in_default.is) ∙ more)
    ]
