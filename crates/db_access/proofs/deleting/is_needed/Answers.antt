-- A user is needed who is OWNER, or owns a user or an object.
use Rattle.std.proofs.Common.{rules, ◌≡◌, Bool, sym, subst, ◌∙◌}
use Rattle.std.specs.Prelude.{IfOk}
use Rattle.record_table.proofs.Asking.{Holds-then}
use Rattle.db_access.proofs.UserDeleted.{needed-objects, needed-users}
use Rattle.db_access.proofs.deleting.is_needed.Goals as goal

pub returns-then-branch : goal.returns-then-branch
returns-then-branch g c = record {
  answers = λ db held. needed-users db c.args.user.now (sym (c.in_ok-owns_users.ensures.answers db held) ∙ c.if-branch.true);
  goes_on = search rules;
  frame = search rules;
}

pub returns : goal.returns
returns g c = record {
  answers = λ db held.
      let still = Holds-then c.in_ok-owns_users.ensures held in
      subst (λ (b : Bool). IfOk c.owns_objects.result (λ needed. needed ≡ b)) (needed-objects db c.args.user.now (sym c.is_db_o.ensures ∙ c.if-is_db_o.false) (sym (c.in_ok-owns_users.ensures.answers db held) ∙ c.if-branch.false))
      (c.owns_objects.ensures.answers db still);
  goes_on = search rules;
  frame = search rules;
}
