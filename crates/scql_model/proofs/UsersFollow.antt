-- What a command's edits do to users. After a change whoever had a secret has one still, or is gone; and a stamp that was given out is no
-- new user's.
use Rattle.std.proofs.Common.{◌≡◌, ℕ, ◌+◌, ◌<◌, ◌==◌, Bool, true, false, List, [], ◌∷◌, ◌++◌, Option, if◌then◌else◌, refl, ap, sym, subst, ◌∙◌, inl, inr, arith}
use Rattle.std.specs.Prelude.{IfSome}
use Rattle.std.specs.List.{list_all}
use Rattle.std.proofs.lemmas.Bool.{cases_Bool, and_parts, ne_eqb, eqb-true}
use Rattle.scql_base.specs.declared.records.TheConstants.User.{ALL_TRIES}
use Rattle.scql_base.specs.declared.records.User.{User}
use Rattle.scql_model.specs.Records.{AnyRecord, of_counter, of_user, of_object, of_grant, of_row}
use Rattle.scql_model.specs.Rules.{user_stamped}
use Rattle.scql_model.specs.Database.{Database}
use Rattle.scql_model.specs.Edits.{Action, Edit, edited, applied, takes_stamp}
use Rattle.eeprom.specs.Slots.{replaced, without}
use Rattle.scql_base.specs.declared.cursor.PresentedUser.{PresentedUser}
use Rattle.scql_model.specs.Step.{with_tries}
use Rattle.scql_model.specs.ValidMachine.{HasSecret, IsPresentedIn}
use Rattle.scql_model.proofs.ChangedLists.{find-without}
use Rattle.scql_model.proofs.FoundUsers.{find-gone}
use Rattle.scql_model.proofs.RightEdits.{AreRight, next-right}

-- Users are left as they are; one more is made, who takes the next stamp and has all tries; or one is taken away.
pub data OfUsers (db new : Database) : Type 0 where
  leaving : new.users ≡ db.users → OfUsers db new
  making_one : (u : User) → u.stamp ≡ db.next → u.tries ≡ ALL_TRIES → new.next ≡ db.next + 1 → new.users ≡ db.users ++ u ∷ [] → OfUsers db new
  taking_one : (stamp : ℕ) → new.users ≡ without (λ (v : User). v.stamp) stamp db.users → OfUsers db new

abbrev pub DoesTo : Database → List Edit → Type 0
DoesTo db edits = OfUsers db (applied db edits)

-- edits of other records leave users
abbrev pub leaves_users : AnyRecord → Bool
leaves_users (of_user u) = false
leaves_users r = true

edited-users : (action : Action) (r : AnyRecord) (db : Database) → leaves_users r ≡ true → (edited action r db).users ≡ db.users
edited-users action (of_counter next) db leaves = refl
edited-users action (of_user u) db leaves = absurd cc
edited-users action (of_object o) db leaves = refl
edited-users action (of_grant g) db leaves = refl
edited-users action (of_row r) db leaves = refl

pub applied-users : (db : Database) (edits : List Edit) → list_all (λ (e : Edit). leaves_users e.entry) edits ≡ true → (applied db edits).users ≡ db.users
applied-users db [] leave = refl
applied-users db (e ∷ edits) leave =
    let parts = and_parts (leaves_users e.entry) (list_all (λ (e : Edit). leaves_users e.entry) edits) leave in
    applied-users (edited e.action e.entry db) edits parts.1 ∙ edited-users e.action e.entry db parts.0

pub leaving-all : (db : Database) (edits : List Edit) → list_all (λ (e : Edit). leaves_users e.entry) edits ≡ true → DoesTo db edits
leaving-all db edits leave = leaving (applied-users db edits leave)

-- CREATE USER: the new user has a stamp that wasn't given out
secret-added : (users : List User) (u : User) (stamp : ℕ) → stamp < u.stamp → IfSome (user_stamped users stamp) HasSecret → IfSome (user_stamped (users ++ u ∷ []) stamp) HasSecret
secret-added [] u stamp less has = rw (ne_eqb u.stamp stamp (λ (e : u.stamp ≡ stamp). omega arith)) tt
secret-added (v ∷ users) u stamp less has =
    elim (cases_Bool (v.stamp == stamp)) [
      | inl t ↦ rw t (rw t at has)
      | inr f ↦ rw f (secret-added users u stamp less (rw f at has))
    ]

-- DELETE USER: who is left is as before
secret-left : (users : List User) (gone stamp : ℕ) → IfSome (user_stamped users stamp) HasSecret → IfSome (user_stamped (without (λ (v : User). v.stamp) gone users) stamp) HasSecret
secret-left users gone stamp has =
    elim (cases_Bool (stamp == gone)) [
      | inl t ↦ subst (λ (found : Option User). IfSome found HasSecret) (sym (find-gone (λ (v : User). v.stamp) gone stamp users (eqb-true stamp gone t))) tt
      | inr f ↦ subst (λ (found : Option User). IfSome found HasSecret) (sym (find-without (λ (v : User). v.stamp) gone stamp users f)) has
    ]

-- so who had a secret before a command has one behind it
secret-follows : (db new : Database) (stamp : ℕ) → OfUsers db new → stamp < db.next → IfSome (user_stamped db.users stamp) HasSecret → IfSome (user_stamped new.users stamp) HasSecret
secret-follows db new stamp (leaving same) given has = subst (λ (users : List User). IfSome (user_stamped users stamp) HasSecret) (sym same) has
secret-follows db new stamp (making_one u is all next same) given has =
    subst (λ (users : List User). IfSome (user_stamped users stamp) HasSecret) (sym same) (secret-added db.users u stamp (omega arith) has)
secret-follows db new stamp (taking_one gone same) given has =
    subst (λ (users : List User). IfSome (user_stamped users stamp) HasSecret) (sym same) (secret-left db.users gone stamp has)

-- Where edits change a database, whoever was presented in it is presented in the new one.
pub presented-applied : (db : Database) (edits : List Edit) (p : PresentedUser) → AreRight db edits → DoesTo db edits → IsPresentedIn db p → IsPresentedIn (applied db edits) p
presented-applied db edits p right users is = record {
  stamp = more (takes_stamp edits) (next-right db edits right);
  secret = λ unproved. secret-follows db (applied db edits) p.stamp users is.stamp (is.secret unproved);
}
  where
    more : (b : Bool) → (applied db edits).next ≡ (if b then db.next + 1 else db.next) → p.stamp < (applied db edits).next
    more true next = let less = is.stamp in omega arith
    more false next = let less = is.stamp in omega arith

-- VERIFY: the secret stays
secret-replaced : (users : List User) (u : User) (stamp : ℕ) → HasSecret u → IfSome (user_stamped users stamp) HasSecret → IfSome (user_stamped (replaced (λ (v : User). v.stamp) u users) stamp) HasSecret
secret-replaced [] u stamp secret has = tt
secret-replaced (v ∷ users) u stamp secret has =
    elim (cases_Bool (v.stamp == u.stamp)) [
      | inl t ↦ elim (cases_Bool (u.stamp == stamp)) [
        | inl s ↦ rw (t, s) secret
        | inr f ↦ (let other : (v.stamp == stamp) ≡ false = ap (λ (n : ℕ). n == stamp) (eqb-true v.stamp u.stamp t) ∙ f in rw (t, f) (secret-replaced users u stamp secret (rw other at has)))
      ]
      | inr e ↦ elim (cases_Bool (v.stamp == stamp)) [
        | inl s ↦ rw (e, s) (rw s at has)
        | inr f ↦ rw (e, f) (secret-replaced users u stamp secret (rw f at has))
      ]
    ]

pub presented-with_tries : (db : Database) (u : User) (tries : ℕ) (p : PresentedUser) → HasSecret u → IsPresentedIn db p → IsPresentedIn (with_tries db u tries) p
presented-with_tries db u tries p secret is =
    record { stamp = is.stamp; secret = λ unproved. secret-replaced db.users (record u { tries = tries }) p.stamp secret (is.secret unproved) }
