-- On what the view rests is the model's, or the first refusal.
use Rattle.std.proofs.Common.{rules, sym, ap, ◌∙◌}
use Rattle.scql_base.specs.declared.records.ObjectKind.TheVariants.{View}
use Rattle.scql_model.specs.Database.{are_named_among}
use Rattle.scql_model.specs.Defining.{named_anew, new_object}
use Rattle.scql_model.specs.ReadingCommands.{wanted_of}
use Rattle.record_table.proofs.Asking.{Holds-then}
use Rattle.db_define.specs.Layers.{reaches_table}
use Rattle.db_define.proofs.Layers.{may-reach}
use Rattle.db_define.proofs.ViewMade.{stops-unowned, views, views-deep, views-not, views-unknown}
use Rattle.db_define.proofs.view.find_view_base.Goals as goal

pub returns-then-not-makes_objects : goal.returns-then-not-makes_objects
returns-then-not-makes_objects g c = record {
  answers = λ db held name. rw c.refused.ensures (views-not db c.args.actor name c.args.base c.args.columns.now c.args.conditions.now (sym c.makes_objects.ensures ∙ c.if-not-makes_objects.true));
  goes_on = search rules;
  frame = search rules;
}

pub returns-in_err-base : goal.returns-in_err-base
returns-in_err-base g c = record {
  answers = λ db held name.
      let may = sym c.makes_objects.ensures ∙ c.if-not-makes_objects.false in
      stops-unowned _ db c.args.actor name c.args.base c.args.columns.now c.args.conditions.now c.from_residual.result c.in_err-base.field-0.0 c.from_residual.ensures.1 may (c.in_err-base.ensures.answers db held);
  goes_on = search rules;
  frame = search rules;
}

pub returns-then-not-branch : goal.returns-then-not-branch
returns-then-not-branch g c = record {
  answers = λ db held name.
      let may = sym c.makes_objects.ensures ∙ c.if-not-makes_objects.false in
      let base = c.in_ok-base.ensures.answers db held in
      let there = Holds-then c.in_ok-base.ensures held in
      let deep = sym (may-reach db.objects base.object base.there) ∙ ap (reaches_table 3 db.objects) (sym base.layer) ∙ sym (c.in_ok-is_shallow.ensures.answers db there) ∙ c.if-not-branch.true in
      rw c.refused-then-not-branch.ensures (views-deep db c.args.actor name c.args.base c.args.columns.now c.args.conditions.now base.object may base.owned deep);
  goes_on = search rules;
  frame = search rules;
}

pub returns-then-not-has_columns : goal.returns-then-not-has_columns
returns-then-not-has_columns g c = record {
  answers = λ db held name.
      let may = sym c.makes_objects.ensures ∙ c.if-not-makes_objects.false in
      let base = c.in_ok-base.ensures.answers db held in
      let there = Holds-then c.in_ok-base.ensures held in
      let shallow = sym (may-reach db.objects base.object base.there) ∙ ap (reaches_table 3 db.objects) (sym base.layer) ∙ sym (c.in_ok-is_shallow.ensures.answers db there) ∙ c.if-not-branch.false in
      let unknown = ap (λ all. are_named_among all c.args.columns.now c.args.conditions.now) (sym base.columns) ∙ sym c.has_columns.ensures ∙ c.if-not-has_columns.true in
      rw c.refused-then-not-has_columns.ensures (views-unknown db c.args.actor name c.args.base c.args.columns.now c.args.conditions.now base.object may base.owned shallow unknown);
  goes_on = search rules;
  frame = search rules;
}

pub returns : goal.returns
returns g c = record {
  answers = λ db held name.
      let may = sym c.makes_objects.ensures ∙ c.if-not-makes_objects.false in
      let base = c.in_ok-base.ensures.answers db held in
      let there = Holds-then c.in_ok-base.ensures held in
      let shallow = sym (may-reach db.objects base.object base.there) ∙ ap (reaches_table 3 db.objects) (sym base.layer) ∙ sym (c.in_ok-is_shallow.ensures.answers db there) ∙ c.if-not-branch.false in
      let known = ap (λ all. are_named_among all c.args.columns.now c.args.conditions.now) (sym base.columns) ∙ sym c.has_columns.ensures ∙ c.if-not-has_columns.false in
      let same = ap (λ stamp. View stamp (wanted_of c.in_ok-base.base.columns c.args.columns.now) c.args.conditions.now) base.stamp
      ∙ ap (λ all. View base.object.stamp (wanted_of all c.args.columns.now) c.args.conditions.now) base.columns in
      ap (λ kind. named_anew db (new_object db c.args.actor name kind)) same
      ∙ views db c.args.actor name c.args.base c.args.columns.now c.args.conditions.now base.object may base.owned shallow known;
  goes_on = search rules;
  frame = search rules;
}
