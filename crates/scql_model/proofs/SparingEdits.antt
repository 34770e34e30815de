-- A command's edits leave a user no more tries to lose than before, and so restore none.
use Rattle.std.proofs.Common.{◌≡◌, ℕ, ◌+◌, ◌-◌, ◌<◌, ◌≤◌, ◌==◌, ◌&&◌, Bool, true, false, List, [], ◌∷◌, Option, Some, None, option_map, Ok, if◌then◌else◌, refl, sym, ap, subst, ◌∙◌, inl, inr, arith}
use Rattle.std.specs.Prelude.{IfSome, nat_lt}
use Rattle.std.specs.Option.{option_or}
use Rattle.std.proofs.lemmas.Bool.{cases_Bool, eq-eqb, eqb-true, ne_eqb, ltb-true, lt-ltb, le-ltb}
use Rattle.std.proofs.lemmas.List.Folds.{find-append}
use Rattle.scql_base.specs.declared.words.Actor.{Actor}
use Rattle.scql_base.specs.declared.cursor.Cursor.{Cursor}
use Rattle.scql_base.specs.declared.records.TheConstants.User.{ALL_TRIES}
use Rattle.scql_base.specs.declared.records.User.{User}
use Rattle.scql_base.specs.declared.operation.Operation.{Operation}
use Rattle.scql_model.specs.Database.{Database, user_stamped}
use Rattle.scql_model.specs.Edits.{Edit, applied, takes_stamp}
use Rattle.scql_model.specs.Changing.{edits_of, with_edits}
use Rattle.scql_model.specs.Step.{with_tries}
use Rattle.scql_model.specs.Tries.{tries_of, are_fewer, are_all, restores, to_lose, may_lose, IsGuarded, IsSpared}
use Rattle.scql_model.proofs.ChangeLaws.{AreMade-with_edits}
use Rattle.scql_model.proofs.ChangedLists.{find-without}
use Rattle.scql_model.proofs.FoundUsers.{find-gone, find-replaced}
use Rattle.scql_model.proofs.LongerLists.{find-passes}
use Rattle.scql_model.proofs.OperationLaws.{edits_of-proper, edits_of-next}
use Rattle.scql_model.proofs.UsersFollow.{OfUsers, leaving, making_one, taking_one}

-- A database that follows another leaves the user of a stamp no more to lose.
pub record Spares (stamp : ℕ) (db new : Database) : Type 0 where
  pub guarded : IsGuarded stamp new
  pub spared : may_lose stamp new ≤ may_lose stamp db

-- A commit that leaves no more to lose restores nothing.
pub spared-unrestored : (stamp : ℕ) (before after : Database) → may_lose stamp after ≤ may_lose stamp before → restores stamp before after ≡ false
spared-unrestored stamp before after = go (tries_of before stamp) (tries_of after stamp)
  where
    go : (first later : Option ℕ) → to_lose stamp later after.next ≤ to_lose stamp first before.next → (are_fewer first later && are_all later) ≡ false
    go None later less = refl
    go (Some n) None less = refl
    go (Some n) (Some k) less = rw (le-ltb n k less) refl

-- the tries, and the next stamp, of which a database is guarded
abbrev Guards : ℕ → Option ℕ → ℕ → Type 0
Guards stamp tries next = IfSome tries (λ n. (stamp < next) × (n ≤ ALL_TRIES))

-- once more stamps are given out
guards-later : (stamp : ℕ) (tries : Option ℕ) (next later : ℕ) → next ≤ later → Guards stamp tries next → Guards stamp tries later
guards-later stamp None next later more guards = tt
guards-later stamp (Some n) next later more guards = let given = guards.0 in (omega arith, guards.1)

none-later : (stamp next later : ℕ) → next ≤ later → to_lose stamp None later ≤ to_lose stamp None next
none-later stamp next later more =
    elim (cases_Bool (nat_lt stamp next)) [
      | inl t ↦ (let given = ltb-true stamp next t in rw (t, lt-ltb stamp later (omega arith)) (omega arith))
      | inr f ↦ rw f (either (nat_lt stamp later))
    ]
  where
    either : (b : Bool) → (if b then 0 else ALL_TRIES) ≤ ALL_TRIES
    either true = omega arith
    either false = omega arith

lose-later : (stamp : ℕ) (tries : Option ℕ) (next later : ℕ) → next ≤ later → to_lose stamp tries later ≤ to_lose stamp tries next
lose-later stamp None next later more = none-later stamp next later more
lose-later stamp (Some n) next later more = omega arith

module _ (stamp : ℕ) (db new : Database) (guarded : IsGuarded stamp db) (more : db.next ≤ new.next) where
  -- the user is as before
  spares-same : tries_of new stamp ≡ tries_of db stamp → Spares stamp db new
  spares-same same = record {
    guarded = subst (λ (tries : Option ℕ). Guards stamp tries new.next) (sym same) (guards-later stamp (tries_of db stamp) db.next new.next more guarded);
    spared = subst (λ (tries : Option ℕ). to_lose stamp tries new.next ≤ may_lose stamp db) (sym same) (lose-later stamp (tries_of db stamp) db.next new.next more);
  }

  -- the user is gone
  spares-gone : tries_of new stamp ≡ None → Spares stamp db new
  spares-gone gone = record {
    guarded = subst (λ (tries : Option ℕ). Guards stamp tries new.next) (sym gone) tt;
    spared = subst (λ (tries : Option ℕ). to_lose stamp tries new.next ≤ may_lose stamp db) (sym gone) (go (tries_of db stamp) guarded);
  }
    where
      go : (tries : Option ℕ) → Guards stamp tries db.next → to_lose stamp None new.next ≤ to_lose stamp tries db.next
      go None guards = none-later stamp db.next new.next more
      go (Some n) guards = let given = guards.0 in rw (lt-ltb stamp new.next (omega arith)) (omega arith)

  -- the user is made, with the next stamp and all tries
  spares-made : tries_of new stamp ≡ Some ALL_TRIES → tries_of db stamp ≡ None → stamp ≡ db.next → db.next < new.next → Spares stamp db new
  spares-made made none is taken = record {
    guarded = subst (λ (tries : Option ℕ). Guards stamp tries new.next) (sym made) (omega arith, omega arith);
    spared = subst (λ (tries : Option ℕ). to_lose stamp tries new.next ≤ may_lose stamp db) (sym made)
        (subst (λ (tries : Option ℕ). ALL_TRIES ≤ to_lose stamp tries db.next) (sym none) (rw (le-ltb stamp db.next (omega arith)) (omega arith)));
  }

  spares-users : OfUsers db new → Spares stamp db new
  spares-users (leaving same) = spares-same (ap (λ (users : List User). option_map (λ (u : User). u.tries) (user_stamped users stamp)) same)
  spares-users (making_one u is all next same) = go (user_stamped db.users stamp) refl
    where
      found : user_stamped new.users stamp ≡ option_or (user_stamped db.users stamp) (user_stamped (u ∷ []) stamp)
      found = ap (λ (users : List User). user_stamped users stamp) same ∙ find-append (λ (v : User). v.stamp == stamp) db.users (u ∷ [])

      go : (before : Option User) → user_stamped db.users stamp ≡ before → Spares stamp db new
      go (Some v) was = spares-same (rw (found, was) refl)
      go None was =
          elim (cases_Bool (u.stamp == stamp)) [
            | inl t ↦ (let here = eqb-true u.stamp stamp t in spares-made (rw (found, was, t) (ap Some all)) (rw was refl) (omega arith) (omega arith))
            | inr f ↦ spares-same (rw (found, was, f) refl)
          ]
  spares-users (taking_one gone same) =
      let found = ap (λ (users : List User). user_stamped users stamp) same in
      elim (cases_Bool (stamp == gone)) [
        | inl t ↦ spares-gone (rw (found, find-gone (λ (v : User). v.stamp) gone stamp db.users (eqb-true stamp gone t)) refl)
        | inr f ↦ spares-same (rw (found, find-without (λ (v : User). v.stamp) gone stamp db.users f) refl)
      ]

-- A command's edits.
spares-edits_of : (stamp : ℕ) (db : Database) (actor : Actor) (cursor : Option Cursor) (operation : Operation) (edits : List Edit) → edits_of db actor cursor operation ≡ Ok edits → IsGuarded stamp db
    → Spares stamp db (applied db edits)
spares-edits_of stamp db actor cursor operation edits made guarded =
    spares-users stamp db (applied db edits) guarded (more (takes_stamp edits) (edits_of-next db actor cursor operation edits made)) (edits_of-proper db actor cursor operation edits made).users
  where
    more : (b : Bool) → (applied db edits).next ≡ (if b then db.next + 1 else db.next) → db.next ≤ (applied db edits).next
    more true next = omega arith
    more false next = omega arith

pub spares-with_edits : (stamp : ℕ) (db : Database) (actor : Actor) (cursor : Option Cursor) (operation : Operation) (edits : List Edit) (new : Database) → edits_of db actor cursor operation ≡ Ok edits
    → with_edits db edits ≡ Ok new → IsGuarded stamp db → Spares stamp db new
spares-with_edits stamp db actor cursor operation edits new made ok guarded =
    subst (Spares stamp db) (sym (AreMade-with_edits db edits new ok).is) (spares-edits_of stamp db actor cursor operation edits made guarded)

-- VERIFY: the user has these tries, and all others have as many as before.
tries-others : (db : Database) (u : User) (tries stamp : ℕ) → (u.stamp == stamp) ≡ false → tries_of (with_tries db u tries) stamp ≡ tries_of db stamp
tries-others db u tries stamp other =
    ap (option_map (λ (v : User). v.tries)) (find-replaced (λ (v : User). v.stamp) new stamp db.users) ∙ go (user_stamped db.users stamp) refl
  where
    new : User
    new = record u { tries = tries }

    go : (found : Option User) → user_stamped db.users stamp ≡ found
        → option_map (λ (v : User). v.tries) (option_map (λ (v : User). if v.stamp == u.stamp then new else v) found) ≡ option_map (λ (v : User). v.tries) found
    go None is = refl
    go (Some v) is =
        let here = eqb-true v.stamp stamp (find-passes (λ (w : User). w.stamp == stamp) db.users v is) in
        rw (ne_eqb v.stamp u.stamp (λ (same : v.stamp ≡ u.stamp). let wrong = eq-eqb u.stamp stamp (omega arith) in cc)) refl

tries-of_user : (db : Database) (u v : User) (tries : ℕ) → user_stamped db.users u.stamp ≡ Some v → tries_of (with_tries db u tries) u.stamp ≡ Some tries
tries-of_user db u v tries is =
    let here = find-passes (λ (w : User). w.stamp == u.stamp) db.users v is in
    rw (find-replaced (λ (w : User). w.stamp) (record u { tries = tries }) u.stamp db.users, is, here) refl

-- It lowers them,
pub spares-lowered : (stamp : ℕ) (db : Database) (u : User) (tries : ℕ) → user_stamped db.users u.stamp ≡ Some u → tries ≤ u.tries → IsGuarded stamp db → Spares stamp db (with_tries db u tries)
spares-lowered stamp db u tries stored fewer guarded =
    elim (cases_Bool (u.stamp == stamp)) [
      | inl t ↦ subst (λ (stamp : ℕ). IsGuarded stamp db → Spares stamp db (with_tries db u tries)) (eqb-true u.stamp stamp t) here guarded
      | inr f ↦ spares-same stamp db (with_tries db u tries) guarded (omega arith) (tries-others db u tries stamp f)
    ]
  where
    had : tries_of db u.stamp ≡ Some u.tries
    had = ap (option_map (λ (v : User). v.tries)) stored

    here : IsGuarded u.stamp db → Spares u.stamp db (with_tries db u tries)
    here guarded =
        let guards = subst (λ (o : Option ℕ). Guards u.stamp o db.next) had guarded in
        let has = tries-of_user db u u tries stored in
        record {
          guarded = subst (λ (o : Option ℕ). Guards u.stamp o db.next) (sym has) (guards.0, (let most = guards.1 in omega arith));
          spared = subst (λ (o : Option ℕ). to_lose u.stamp o db.next ≤ may_lose u.stamp db) (sym has) (subst (λ (o : Option ℕ). tries ≤ to_lose u.stamp o db.next) (sym had) fewer);
        }

-- or restores those of this user alone, who has one less by then.
pub record Restores (stamp : ℕ) (u : User) (before after : Database) : Type 0 where
  pub guarded : IsGuarded stamp after
  pub spared : IsSpared stamp before after
  pub other : (u.stamp == stamp) ≡ false → may_lose stamp after ≤ may_lose stamp before

pub restores-user : (stamp : ℕ) (db : Database) (u : User) → user_stamped db.users u.stamp ≡ Some u → IsGuarded stamp db → Restores stamp u (with_tries db u (u.tries - 1)) (with_tries db u ALL_TRIES)
restores-user stamp db u stored guarded =
    elim (cases_Bool (u.stamp == stamp)) [
      | inl t ↦ subst (λ (stamp : ℕ). IsGuarded stamp db → Restores stamp u (with_tries db u (u.tries - 1)) (with_tries db u ALL_TRIES)) (eqb-true u.stamp stamp t) here guarded
      | inr f ↦ record { guarded = guarded_still f; spared = inr (as_many f); other = λ _. as_many f }
    ]
  where
    guarded_still : (u.stamp == stamp) ≡ false → IsGuarded stamp (with_tries db u ALL_TRIES)
    guarded_still f = subst (λ (o : Option ℕ). Guards stamp o db.next) (sym (tries-others db u ALL_TRIES stamp f)) guarded

    as_many : (u.stamp == stamp) ≡ false → may_lose stamp (with_tries db u ALL_TRIES) ≤ may_lose stamp (with_tries db u (u.tries - 1))
    as_many f = rw (tries-others db u ALL_TRIES stamp f, tries-others db u (u.tries - 1) stamp f) (omega arith)

    here : IsGuarded u.stamp db → Restores u.stamp u (with_tries db u (u.tries - 1)) (with_tries db u ALL_TRIES)
    here guarded =
        let guards = subst (λ (o : Option ℕ). Guards u.stamp o db.next) (ap (option_map (λ (v : User). v.tries)) stored) guarded in
        let most : u.tries ≤ ALL_TRIES = guards.1 in
        record {
          guarded = subst (λ (o : Option ℕ). Guards u.stamp o db.next) (sym (tries-of_user db u u ALL_TRIES stored)) (guards.0, omega arith);
          spared = inl (rw (tries-of_user db u u (u.tries - 1) stored, tries-of_user db u u ALL_TRIES stored, lt-ltb (u.tries - 1) ALL_TRIES (omega arith)) refl);
          other = λ f. absurd (let t = eq-eqb u.stamp u.stamp refl in cc);
        }
