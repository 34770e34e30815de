-- GRANT and REVOKE end by proper edits or a refusal, and keep a database valid.
use Rattle.std.proofs.Common.{◌≡◌, ℕ, ◌≤◌, ◌^◌, ◌==◌, ◌&&◌, ◌||◌, Bool, true, false, not, List, [], ◌∷◌, Option, Some, None, option_map, if◌then◌else◌, refl, sym, subst, inl, inr, arith}
use Rattle.std.specs.Prelude.{nat_le, nat_lt, bit_or}
use Rattle.std.specs.List.{find, list_any, list_all}
use Rattle.std.specs.Str.{bytes_eq}
use Rattle.std.proofs.lemmas.Bool.{cases_Bool, and_parts, and_from, eqb-true, eqb-false, eq-eqb, le-leb, leb-true}
use Rattle.std.proofs.lemmas.Nat.{or_lt, le_or_l}
use Rattle.std.proofs.lemmas.Option.{none-some, same_Some}
use Rattle.scql_base.specs.Words.{not_found}
use Rattle.scql_base.specs.declared.words.Actor.{Actor}
use Rattle.scql_base.specs.declared.records.User.{User}
use Rattle.scql_base.specs.declared.records.Object.{Object}
use Rattle.scql_base.specs.declared.records.Grant.{Grant}
use Rattle.scql_model.specs.Records.{of_grant, is_privileges, grant_record, user_record}
use Rattle.scql_model.specs.Refusals.{or_refused}
use Rattle.scql_model.specs.Rules.{is_of_pair, is_named, user_named, public_name}
use Rattle.scql_model.specs.Database.{Database, IsValid}
use Rattle.scql_model.specs.Rights.{all_privileges, has_bit, seen_named}
use Rattle.scql_model.specs.Defining.{owned_by}
use Rattle.scql_model.specs.Granting.{grantee_named, is_granted_to, grant_to, more_granted, privileges_granted, privileges_left, less_granted, privileges_revoked}
use Rattle.scql_model.specs.Edits.{has_record, making, changing, removing}
use Rattle.scql_model.proofs.ChangedGrants.{IsValid-with_grant, IsValid-with_privileges, IsValid-with_grants_left}
use Rattle.scql_model.proofs.FoundAgain.{any-find}
use Rattle.scql_model.proofs.LongerLists.{find-all}
use Rattle.scql_model.proofs.RightEdits.{Yields, bound-yields, done-yields, owned-there, has_record-grant, found-there}
use Rattle.scql_model.proofs.FormedCommands.{not_refused}
use Rattle.scql_model.proofs.Outcomes.{AreProper, proper-sparing, proper-making, IsOutcome, outcome-done, outcome-bound, outcome-there, outcome-owned}
use Rattle.scql_model.proofs.Keeping.{HasRoomFor, Keeps, next-making, IsThere, IsThere-found}

-- a grant that is found is there
granted-there : (db : Database) (o : Object) (grantee : ℕ) (g : Grant) → grant_to db o grantee ≡ Some g → has_record db g.stamp ≡ true
granted-there db o grantee g found = has_record-grant db g.stamp (found-there (λ (h : Grant). h.stamp) _ db.grants g found)

pub granted-outcome : (db : Database) (actor : Actor) (privileges : ℕ) (name grantee_name : List ℕ) → IsOutcome (AreProper db) (privileges_granted db actor privileges name grantee_name)
unfolding privileges_granted
granted-outcome db actor privileges name grantee_name =
    outcome-bound (owned_by actor (seen_named db actor name)) _ (outcome-owned actor (seen_named db actor name)) λ o _.
    outcome-there (grantee_named db grantee_name) not_found _ refl λ grantee _.
    outcome-done (more_granted db o grantee privileges (grant_to db o grantee)) (more o grantee (grant_to db o grantee) refl)
  where
    more : (o : Object) (grantee : ℕ) (found : Option Grant) → grant_to db o grantee ≡ found → AreProper db (more_granted db o grantee privileges found)
    more o grantee None is = proper-making db (of_grant (record { stamp = db.next; object = o.stamp; grantee = grantee; privileges = privileges })) refl refl refl
    more o grantee (Some g) is = proper-sparing db (more_granted db o grantee privileges (Some g)) (rw (granted-there db o grantee g is) refl) refl

pub revoked-outcome : (db : Database) (actor : Actor) (privileges : ℕ) (name grantee_name : List ℕ) → IsOutcome (AreProper db) (privileges_revoked db actor privileges name grantee_name)
unfolding privileges_revoked
revoked-outcome db actor privileges name grantee_name =
    outcome-bound (owned_by actor (seen_named db actor name)) _ (outcome-owned actor (seen_named db actor name)) λ o _.
    outcome-there (grantee_named db grantee_name) not_found _ refl λ grantee _.
    outcome-there (grant_to db o grantee) not_found _ refl λ g is.
    outcome-done (less_granted g privileges) (less g (privileges_left g.privileges privileges == 0) (granted-there db o grantee g is))
  where
    less : (g : Grant) (none : Bool) → has_record db g.stamp ≡ true
        → AreProper db (if none then removing (of_grant g) ∷ [] else changing (of_grant (record g { privileges = privileges_left g.privileges privileges })) ∷ [])
    less g true there = proper-sparing db (removing (of_grant g) ∷ []) (rw there refl) refl
    less g false there = proper-sparing db (changing (of_grant (record g { privileges = privileges_left g.privileges privileges })) ∷ []) (rw there refl) refl

-- a grantee is PUBLIC or a user, and so its stamp is a number
record IsGrantee (db : Database) (grantee : ℕ) : Type 0 where
  fits : nat_lt grantee (2 ^ 32) ≡ true
  there : ((grantee == 0) || list_any (λ (u : User). u.stamp == grantee) db.users) ≡ true

IsGrantee-named : (db : Database) (name : List ℕ) (grantee : ℕ) → IsValid db → grantee_named db name ≡ Some grantee → IsGrantee db grantee
IsGrantee-named db name grantee valid is = go (bytes_eq name public_name) (user_named db.users name) refl is
  where
    or_there : (a b : Bool) → b ≡ true → (a || b) ≡ true
    or_there true b is = refl
    or_there false b is = is

    user : (found : Option User) → user_named db.users name ≡ found → option_map (λ (u : User). u.stamp) found ≡ Some grantee → IsGrantee db grantee
    user None found is = absurd (none-some grantee is)
    user (Some u) found is =
        let same : u.stamp ≡ grantee = same_Some u.stamp grantee is in
        let fits = find-all user_record.fits (is_named name) db.users u valid.users.limits found in
        record {
          fits = subst (λ (n : ℕ). nat_lt n (2 ^ 32) ≡ true) same (and_parts (nat_lt u.stamp (2 ^ 32)) _ fits).0;
          there = or_there (grantee == 0) (list_any (λ (u : User). u.stamp == grantee) db.users)
              (any-find (is_named name) (λ (v : User). v.stamp == grantee) db.users u found (eq-eqb u.stamp grantee same));
        }

    go : (public : Bool) (found : Option User) → user_named db.users name ≡ found → (if public then Some 0 else option_map (λ (u : User). u.stamp) found) ≡ Some grantee → IsGrantee db grantee
    go true found there is = let same : 0 ≡ grantee = same_Some 0 grantee is in subst (IsGrantee db) same (record { fits = refl; there = refl })
    go false found there is = user found there is

-- where there is no grant of a pair, a new one is of no other's
none-pair : (g : Grant) (o : Object) (grants : List Grant) → g.object ≡ o.stamp → find (is_granted_to o g.grantee) grants ≡ None → list_any (is_of_pair g) grants ≡ false
none-pair g o [] same none = refl
none-pair g o (h ∷ grants) same none =
    elim (cases_Bool (is_granted_to o g.grantee h)) [
      | inl t ↦ absurd (none-some h (sym (rw t at none)))
      | inr f ↦ rw (pair (h.object == o.stamp) refl f, none-pair g o grants same (rw f at none)) refl
    ]
  where
    pair : (b : Bool) → (h.object == o.stamp) ≡ b → (b && (h.grantee == g.grantee)) ≡ false → is_of_pair g h ≡ false
    pair b is f = grind (arith, eqb-true, eqb-false, eq-eqb)

-- privileges are one to all of the four bits
privileges-range : (bits : ℕ) → is_privileges bits ≡ true → (1 ≤ bits) × (bits ≤ 15)
privileges-range bits is = let parts = and_parts (nat_le 1 bits) (nat_le bits 15) is in (leb-true 1 bits parts.0, leb-true bits 15 parts.1)

privileges-from : (bits : ℕ) → 1 ≤ bits → bits ≤ 15 → is_privileges bits ≡ true
privileges-from bits some few = and_from (nat_le 1 bits) (nat_le bits 15) (le-leb 1 bits some) (le-leb bits 15 few)

more-privileges : (held given : ℕ) → is_privileges held ≡ true → is_privileges given ≡ true → is_privileges (bit_or held given) ≡ true
more-privileges held given old new =
    let a = privileges-range held old in
    let b = privileges-range given new in
    let least = le_or_l held given in
    let most = or_lt 4 held given (omega arith) (omega arith) in
    privileges-from (bit_or held given) (omega arith) (omega arith)

less-privileges : (held taken : ℕ) → is_privileges held ≡ true → (privileges_left held taken == 0) ≡ false → is_privileges (privileges_left held taken) ≡ true
less-privileges held taken old some =
    let a = privileges-range held old in
    let b = eqb-false (privileges_left held taken) 0 some in
    privileges-from (privileges_left held taken) (positive (privileges_left held taken) b) (omega arith)
  where
    positive : (n : ℕ) → (n ≡ 0 → ⊥) → 1 ≤ n
    positive n some = omega (arith, some)

held-privileges : (db : Database) (q : Grant → Bool) (g : Grant) → IsValid db → find q db.grants ≡ Some g → is_privileges g.privileges ≡ true
held-privileges db q g valid found =
    let fits = find-all grant_record.fits q db.grants g valid.grants.limits found in
    let a = and_parts (nat_lt g.stamp (2 ^ 32)) (nat_lt g.object (2 ^ 32) && (nat_lt g.grantee (2 ^ 32) && is_privileges g.privileges)) fits in
    let b = and_parts (nat_lt g.object (2 ^ 32)) (nat_lt g.grantee (2 ^ 32) && is_privileges g.privileges) a.1 in
    (and_parts (nat_lt g.grantee (2 ^ 32)) (is_privileges g.privileges) b.1).1

-- GRANT: a new grant, or more privileges of one
more_granted-keeps : (db : Database) (o : Object) (grantee privileges : ℕ) (found : Option Grant) → IsValid db → IsThere db o → IsGrantee db grantee → is_privileges privileges ≡ true
    → grant_to db o grantee ≡ found → Keeps db (more_granted db o grantee privileges found)
more_granted-keeps db o grantee privileges None valid there to some none =
    let g : Grant = record { stamp = db.next; object = o.stamp; grantee = grantee; privileges = privileges } in
    λ (room : HasRoomFor db (making db (of_grant g))).
    IsValid-with_grant db g valid (record { fits = rw (valid.counter, there.fits, to.fits, some) refl; parties = rw (there.among, to.there) refl }) (none-pair g o db.grants refl none) refl room.room
    (next-making db (of_grant g) valid room)
more_granted-keeps db o grantee privileges (Some g) valid there to some is =
    let new : Grant = record g { privileges = bit_or g.privileges privileges } in
    λ (room : HasRoomFor db (changing (of_grant new) ∷ [])).
    IsValid-with_privileges db (is_granted_to o grantee) g (bit_or g.privileges privileges) valid is
    (more-privileges g.privileges privileges (held-privileges db (is_granted_to o grantee) g valid is) some) room.room

pub granted-keeps : (db : Database) (actor : Actor) (privileges : ℕ) (name grantee_name : List ℕ) → IsValid db → is_privileges privileges ≡ true
    → Yields (Keeps db) (privileges_granted db actor privileges name grantee_name)
unfolding privileges_granted
granted-keeps db actor privileges name grantee_name valid some =
    bound-yields (Keeps db) (owned_by actor (seen_named db actor name)) _ λ o is.
    bound-yields (Keeps db) (or_refused (grantee_named db grantee_name) not_found) _ λ grantee to.
    done-yields (Keeps db) (more_granted db o grantee privileges (grant_to db o grantee))
    (more_granted-keeps db o grantee privileges (grant_to db o grantee) valid (IsThere-found db _ o valid ((owned-there actor _).each o is))
    (IsGrantee-named db grantee_name grantee valid (not_refused (grantee_named db grantee_name) not_found grantee to)) some refl)

-- REVOKE: a grant goes, or has fewer privileges
less_granted-keeps : (db : Database) (q : Grant → Bool) (g : Grant) (privileges : ℕ) → IsValid db → find q db.grants ≡ Some g → Keeps db (less_granted g privileges)
less_granted-keeps db q g privileges valid found = go (privileges_left g.privileges privileges == 0) refl
  where
    go : (none : Bool) → (privileges_left g.privileges privileges == 0) ≡ none
        → Keeps db (if none then removing (of_grant g) ∷ [] else changing (of_grant (record g { privileges = privileges_left g.privileges privileges })) ∷ [])
    go true is = λ room. IsValid-with_grants_left db (λ (h : Grant). not (h.stamp == g.stamp)) valid
    go false is =
        λ (room : HasRoomFor db (changing (of_grant (record g { privileges = privileges_left g.privileges privileges })) ∷ [])).
        IsValid-with_privileges db q g (privileges_left g.privileges privileges) valid found (less-privileges g.privileges privileges (held-privileges db q g valid found) is) room.room

pub revoked-keeps : (db : Database) (actor : Actor) (privileges : ℕ) (name grantee_name : List ℕ) → IsValid db
    → Yields (Keeps db) (privileges_revoked db actor privileges name grantee_name)
unfolding privileges_revoked
revoked-keeps db actor privileges name grantee_name valid =
    bound-yields (Keeps db) (owned_by actor (seen_named db actor name)) _ λ o _.
    bound-yields (Keeps db) (or_refused (grantee_named db grantee_name) not_found) _ λ grantee _.
    bound-yields (Keeps db) (or_refused (grant_to db o grantee) not_found) _ λ g is.
    done-yields (Keeps db) (less_granted g privileges) (less_granted-keeps db (is_granted_to o grantee) g privileges valid (not_refused (grant_to db o grantee) not_found g is))

-- GRANT adds the privileges that it names and no others, and REVOKE takes those, of all that there are
abbrev numbers : List ℕ
numbers = 0 ∷ 1 ∷ 2 ∷ 3 ∷ 4 ∷ 5 ∷ 6 ∷ 7 ∷ 8 ∷ 9 ∷ 10 ∷ 11 ∷ 12 ∷ 13 ∷ 14 ∷ 15 ∷ []

abbrev for_all : (ℕ → ℕ → ℕ → Bool) → Bool
for_all test = list_all (λ a. list_all (λ b. list_all (test a b) all_privileges) numbers) numbers

abbrev alike : Bool → Bool → Bool
alike a b = if a then b else not b

more_bits : for_all (λ held more bit. alike (has_bit bit (bit_or held more)) (has_bit bit held || has_bit bit more)) ≡ true
more_bits = refl

fewer_bits : for_all (λ held taken bit. alike (has_bit bit (privileges_left held taken)) (has_bit bit held && not (has_bit bit taken))) ≡ true
fewer_bits = refl
