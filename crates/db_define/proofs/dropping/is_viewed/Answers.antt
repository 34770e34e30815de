-- A view is found where the database has one.
use Rattle.std.proofs.Common.{rules, ap, ◌∙◌}
use Rattle.std.specs.List.{list_any}
use Rattle.scql_base.specs.declared.records.Object.{Object}
use Rattle.db_define.specs.Dependent.{is_view_on}
use Rattle.db_define.proofs.dropping.is_viewed.Goals as goal

pub returns : goal.returns
returns g c = record {
  answers = λ db held.
      let there = rw held.told at c.in_ok-find_into.ensures.some in
      c.is_some.ensures ∙ (there ∙ ap (list_any (λ (o : Object). is_view_on c.args.stamp o.kind)) held.holds.objects);
  goes_on = search rules;
  frame = search rules;
}
