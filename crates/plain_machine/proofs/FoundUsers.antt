-- A user that is found by a stamp has it.
use Rattle.std.proofs.Common.{◌≡◌, ◌==◌, ℕ, List, Some, subst, sym}
use Rattle.std.proofs.lemmas.Bool.{eqb-true}
use Rattle.scql_base.specs.declared.records.User.{User}
use Rattle.scql_model.specs.Database.{user_stamped}
use Rattle.scql_model.proofs.LongerLists.{find-passes}

pub stamped-again : (users : List User) (stamp : ℕ) (u : User) → user_stamped users stamp ≡ Some u → user_stamped users u.stamp ≡ Some u
stamped-again users stamp u is =
    subst (λ (stamp : ℕ). user_stamped users stamp ≡ Some u) (sym (eqb-true u.stamp stamp (find-passes (λ (u : User). u.stamp == stamp) users u is))) is
