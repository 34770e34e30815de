-- A wrong secret lowers the tries of the user who is presented.
use Rattle.std.proofs.Common.{◌≡◌, ℕ, ◌-◌, ◌==◌, true, Some, option_map, refl, ap, ◌∙◌, arith}
use Rattle.std.proofs.lemmas.Bool.{eq-eqb, eqb-true, lt-ltb}
use Rattle.scql_base.specs.declared.records.User.{User}
use Rattle.scql_model.specs.Accepting.{CostsTry}
use Rattle.scql_model.specs.Database.{Database, user_stamped}
use Rattle.scql_model.specs.Machine.{Machine}
use Rattle.scql_model.specs.Step.{Answer, with_tries}
use Rattle.scql_model.specs.Tries.{LowersPresented, tries_of}
use Rattle.scql_model.proofs.FoundUsers.{find-replaced}
use Rattle.scql_model.proofs.LongerLists.{find-passes}

-- the tries of a user that was found, behind a change of them
tries-changed : (db : Database) (stamp : ℕ) (u : User) (tries : ℕ) → user_stamped db.users stamp ≡ Some u → u.stamp ≡ stamp → tries_of (with_tries db u tries) stamp ≡ Some tries
tries-changed db stamp u tries found same =
    let own : (u.stamp == u.stamp) ≡ true = eq-eqb u.stamp u.stamp refl in
    ap (option_map (λ (v : User). v.tries)) (find-replaced (λ (v : User). v.stamp) (record u { tries = tries }) stamp db.users) ∙ rw (found, own) refl

pub costs-lowers : (m : Machine) (channel : ℕ) (answer : Answer) → CostsTry m channel answer → LowersPresented m channel answer.commits
costs-lowers m channel answer costs =
    let user : User = costs.user in
    let stamp : ℕ = costs.who.stamp in
    let same : user.stamp ≡ stamp = eqb-true user.stamp stamp (find-passes (λ (u : User). u.stamp == stamp) m.committed.users user costs.stored) in
    let after : tries_of (with_tries m.committed user (user.tries - 1)) stamp ≡ Some (user.tries - 1) = tries-changed m.committed stamp user (user.tries - 1) costs.stored same in
    let before : tries_of m.committed stamp ≡ Some user.tries = ap (option_map (λ (u : User). u.tries)) costs.stored in
    record {
      who = costs.who;
      presented = costs.presented;
      after = with_tries m.committed user (user.tries - 1);
      commit = costs.commits;
      fewer = rw (after, before) (lt-ltb (user.tries - 1) user.tries (omega (arith, costs.had_tries)));
    }
