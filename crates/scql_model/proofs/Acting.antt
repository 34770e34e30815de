-- Who acts for a channel is PUBLIC or a user of what the channel reads.
use Rattle.std.proofs.Common.{◌≡◌, ℕ, ◌==◌, Bool, true, false, Option, Some, None, if◌then◌else◌, refl, ap, ◌∙◌}
use Rattle.std.specs.Prelude.{option_map, option_and_then}
use Rattle.std.specs.Option.{option_map_or}
use Rattle.std.proofs.lemmas.Bool.{eqb-true}
use Rattle.scql_base.specs.declared.words.Actor.TheVariants.{Public, User as a_user}
use Rattle.scql_base.specs.declared.records.User.{User}
use Rattle.scql_model.specs.Database.{Database, user_stamped}
use Rattle.scql_base.specs.declared.cursor.PresentedUser.{PresentedUser}
use Rattle.scql_model.specs.Machine.{Machine, Session, actor, actor_of, base, session_of}
use Rattle.scql_model.specs.Creating.{IsActorOf}
use Rattle.scql_model.proofs.LongerLists.{find-passes}

of_proved : (db : Database) (stamp : ℕ) (o : Option User) → user_stamped db.users stamp ≡ o → IsActorOf db (option_map_or (λ (u : User). a_user u.stamp u.profile) o Public)
of_proved db stamp None found = tt
of_proved db stamp (Some u) found =
    let same = eqb-true u.stamp stamp (find-passes (λ (v : User). v.stamp == stamp) db.users u found) in
    ap (option_map (λ (v : User). v.profile)) (ap (user_stamped db.users) same ∙ found)

-- the user of a stamp acts, or PUBLIC where there is none
pub IsActorOf-stamped : (db : Database) (stamp : ℕ) → IsActorOf db (option_map_or (λ (u : User). a_user u.stamp u.profile) (user_stamped db.users stamp) Public)
IsActorOf-stamped db stamp = of_proved db stamp (user_stamped db.users stamp) refl

of_presented : (db : Database) (stamp : ℕ) (proved : Bool) → IsActorOf db (if proved then option_map_or (λ (u : User). a_user u.stamp u.profile) (user_stamped db.users stamp) Public else Public)
of_presented db stamp true = IsActorOf-stamped db stamp
of_presented db stamp false = tt

of_session : (db : Database) (o : Option PresentedUser) → IsActorOf db (option_map_or (actor_of db) o Public)
of_session db None = tt
of_session db (Some p) = of_presented db p.stamp p.proved

pub IsActorOf-actor : (m : Machine) (channel : ℕ) → IsActorOf (base m channel) (actor m channel)
IsActorOf-actor m channel = of_session (base m channel) (option_and_then (λ (s : Session). s.user) (session_of m channel))
