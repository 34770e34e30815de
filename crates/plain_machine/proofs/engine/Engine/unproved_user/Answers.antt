-- The user that is found by a stamp has it.
use Rattle.std.proofs.Common.{◌≡◌, Option, Some, None, subst, sym}
use Rattle.std.specs.Prelude.{IfSome, option_copied}
use denote.Bor.{Bor}
use Rattle.std.proofs.Common.{List, ℕ}
use Rattle.scql_base.specs.declared.records.User.{User}
use Rattle.scql_model.specs.Database.{user_stamped}
use Rattle.scql_model.specs.Machine.{Machine}
use Rattle.plain_machine.proofs.FoundUsers.{stamped-again}
use Rattle.plain_machine.proofs.engine.Engine.unproved_user.Goals as goal

found-again : (users : List User) (stamp : ℕ) (found : Option (Bor User)) → option_copied found ≡ user_stamped users stamp → IfSome found (λ u. user_stamped users u.now.stamp ≡ Some u.now)
found-again users stamp None is = tt
found-again users stamp (Some u) is = stamped-again users stamp u.now (sym is)

pub returns-else-user-clause-stamped : goal.returns-else-user-clause-stamped
returns-else-user-clause-stamped c =
    subst (λ (m : Machine). IfSome c.user_stamped.result (λ u. user_stamped m.committed.users u.now.stamp ≡ Some u.now)) c.self.view_is
    (found-again c.self.inside.committed.users c.in_ok-user.user.stamp c.user_stamped.result (rw c.as_valid.ensures at c.user_stamped.ensures))
