-- A valid database stays valid where a grant is added, where other privileges are granted by one, and where grants are removed.
use Rattle.std.proofs.Common.{◌≡◌, ℕ, ◌+◌, ◌<◌, ◌≤◌, Bool, true, false, List, [], ◌∷◌, ◌++◌, map, filter, Some, eqb, refl, sym, ap, subst, ◌∙◌, inl, inr, arith}
use Rattle.std.specs.Prelude.{◌==◌, ◌&&◌, ◌^◌, nat_lt}
use Rattle.std.specs.List.{list_any, find, AllByRecursion}
use Rattle.std.proofs.lemmas.Bool.{cases_Bool, and_parts, and_from, false≢true, eqb-true, eq-eqb}
use Rattle.eeprom.specs.Slots.{replaced}
use Rattle.scql_base.specs.declared.records.User.{User}
use Rattle.scql_base.specs.declared.records.Object.{Object}
use Rattle.scql_base.specs.declared.records.Grant.{Grant}
use Rattle.scql_model.specs.Records.{is_privileges, counter_record, grant_record}
use Rattle.scql_model.specs.Rules.{AreGrants, are_apart_by, has_object_and_grantee, is_of_pair}
use Rattle.scql_model.specs.Database.{Database, IsValid, weight, stored_grant}
use Rattle.scql_model.proofs.LongerLists.{all-added, rises-added, find-all}
use Rattle.scql_model.proofs.ChangedLists.{Rises-replaced, Rises-filter, list_all-replaced, list_all-filter, map-replaced, found-only}
use Rattle.scql_model.proofs.Apart.{apart_by-added, apart_by-filter, apart_by-map}
use Rattle.scql_model.proofs.RecordLengths.{storable-grant}
use Rattle.scql_model.proofs.RecordsOf.{before_grants, behind_grants, records_of-grants}
use Rattle.scql_model.proofs.Stored.{IsStored-added, IsStored-changed, IsStored-removed, below-of_kind}

abbrev stamp_of : Grant → ℕ
stamp_of g = g.stamp

-- object and grantee of a grant, and whether two of these are the same
abbrev pair_of : Grant → ℕ × ℕ
pair_of g = (g.object, g.grantee)

abbrev is_pair : ℕ × ℕ → ℕ × ℕ → Bool
is_pair p q = (p.0 == q.0) && (p.1 == q.1)

pairs_apart : (grants : List Grant) → are_apart_by is_pair (map pair_of grants) ≡ are_apart_by is_of_pair grants
pairs_apart grants = apart_by-map is_pair pair_of grants

is_of_pair-turned : (g h : Grant) → is_of_pair g h ≡ false → is_of_pair h g ≡ false
is_of_pair-turned g h other =
    elim (cases_Bool (is_of_pair h g)) [
      | inl t ↦ (let parts = and_parts (eqb h.object g.object) (eqb h.grantee g.grantee) t in
          absurd (false≢true (sym other ∙ and_from (eqb g.object h.object) (eqb g.grantee h.grantee) (eq-eqb g.object h.object (sym (eqb-true h.object g.object parts.0)))
          (eq-eqb g.grantee h.grantee (sym (eqb-true h.grantee g.grantee parts.1))))))
      | inr f ↦ f
    ]

-- a grant that may stand among these users and objects
pub record IsGrantOf (users : List User) (objects : List Object) (g : Grant) : Type 0 where
  pub fits : grant_record.fits g ≡ true
  pub parties : has_object_and_grantee users objects g ≡ true

-- the grants' own rules
AreGrants-added : (users : List User) (objects : List Object) (grants : List Grant) (g : Grant) → AreGrants users objects grants → IsGrantOf users objects g → list_any (is_of_pair g) grants ≡ false
    → AllByRecursion (λ h. stamp_of h < stamp_of g) grants → AreGrants users objects (grants ++ g ∷ [])
AreGrants-added users objects grants g are is none below = record {
  rises = rises-added stamp_of grants g are.rises below;
  limits = all-added grant_record.fits grants g are.limits is.fits;
  parties = all-added (has_object_and_grantee users objects) grants g are.parties is.parties;
  pairs = apart_by-added is_of_pair grants g is_of_pair-turned are.pairs none;
}

AreGrants-replaced : (users : List User) (objects : List Object) (grants : List Grant) (g : Grant) → AreGrants users objects grants → IsGrantOf users objects g
    → AllByRecursion (λ h. stamp_of h ≡ stamp_of g → pair_of h ≡ pair_of g) grants → AreGrants users objects (replaced stamp_of g grants)
AreGrants-replaced users objects grants g are is same = record {
  rises = Rises-replaced stamp_of g grants are.rises;
  limits = list_all-replaced grant_record.fits stamp_of g grants is.fits are.limits;
  parties = list_all-replaced (has_object_and_grantee users objects) stamp_of g grants is.parties are.parties;
  pairs = sym (pairs_apart (replaced stamp_of g grants)) ∙ ap (are_apart_by is_pair) (map-replaced pair_of stamp_of g grants same) ∙ pairs_apart grants ∙ are.pairs;
}

AreGrants-filter : (users : List User) (objects : List Object) (grants : List Grant) (stays : Grant → Bool) → AreGrants users objects grants → AreGrants users objects (filter stays grants)
AreGrants-filter users objects grants stays are = record {
  rises = Rises-filter stays stamp_of grants are.rises;
  limits = list_all-filter stays grant_record.fits grants are.limits;
  parties = list_all-filter stays (has_object_and_grantee users objects) grants are.parties;
  pairs = apart_by-filter is_of_pair stays grants are.pairs;
}

-- the database with the grant behind all others, with it in the place of that of its stamp, and with the grants that stay
abbrev pub with_grant : Database → Grant → Database
with_grant db g = record db { next = db.next + 1; grants = db.grants ++ g ∷ [] }

abbrev pub with_grant_changed : Database → Grant → Database
with_grant_changed db g = record db { grants = replaced stamp_of g db.grants }

abbrev pub with_grants_left : Database → (Grant → Bool) → Database
with_grants_left db stays = record db { grants = filter stays db.grants }

pub IsValid-with_grant : (db : Database) (g : Grant) → IsValid db → IsGrantOf db.users db.objects g → list_any (is_of_pair g) db.grants ≡ false → g.stamp ≡ db.next → weight (with_grant db g) ≤ db.cells
    → counter_record.fits (db.next + 1) ≡ true → IsValid (with_grant db g)
IsValid-with_grant db g valid is none stamp room next =
    let low = valid.next in
    let below = below-of_kind stored_grant (before_grants db) (behind_grants db) db.grants (records_of-grants db) valid.stored in
    record {
      cells = valid.cells;
      limit = valid.limit;
      next = omega arith;
      counter = next;
      stored = IsStored-added stored_grant (before_grants db) (behind_grants db) db.grants g (records_of-grants db) (records_of-grants (with_grant db g)) valid.stored stamp (omega arith) (storable-grant g) room;
      users = valid.users;
      objects = valid.objects;
      grants = AreGrants-added db.users db.objects db.grants g valid.grants is none (subst (λ n. AllByRecursion (λ h. stamp_of h < n) db.grants) (sym stamp) below);
      rows = valid.rows;
    }

-- a grant that is there may grant other privileges
pub IsValid-with_privileges : (db : Database) (q : Grant → Bool) (g : Grant) (privileges : ℕ) → IsValid db → find q db.grants ≡ Some g → is_privileges privileges ≡ true
    → weight (with_grant_changed db (record g { privileges = privileges })) ≤ db.cells → IsValid (with_grant_changed db (record g { privileges = privileges }))
IsValid-with_privileges db q g privileges valid found some room =
    let new : Grant = record g { privileges = privileges } in
    record {
      cells = valid.cells;
      limit = valid.limit;
      next = valid.next;
      counter = valid.counter;
      stored = IsStored-changed stored_grant (before_grants db) (behind_grants db) db.grants new (records_of-grants db) (records_of-grants (with_grant_changed db new)) valid.stored (storable-grant new) room;
      users = valid.users;
      objects = valid.objects;
      grants = AreGrants-replaced db.users db.objects db.grants new valid.grants (record {
        fits = fits g privileges (find-all grant_record.fits q db.grants g valid.grants.limits found) some;
        parties = find-all (has_object_and_grantee db.users db.objects) q db.grants g valid.grants.parties found;
      })
          (pairs db.grants g (found-only stamp_of q db.grants g valid.grants.rises found));
      rows = valid.rows;
    }
  where
    fits : (g : Grant) (privileges : ℕ) → grant_record.fits g ≡ true → is_privileges privileges ≡ true → grant_record.fits (record g { privileges = privileges }) ≡ true
    fits g privileges fit some =
        let a = and_parts (nat_lt g.stamp (2 ^ 32)) (nat_lt g.object (2 ^ 32) && (nat_lt g.grantee (2 ^ 32) && is_privileges g.privileges)) fit in
        let b = and_parts (nat_lt g.object (2 ^ 32)) (nat_lt g.grantee (2 ^ 32) && is_privileges g.privileges) a.1 in
        let c = and_parts (nat_lt g.grantee (2 ^ 32)) (is_privileges g.privileges) b.1 in
        rw (a.0, b.0, c.0, some) refl

    pairs : (grants : List Grant) (g : Grant) → AllByRecursion (λ h. stamp_of h ≡ stamp_of g → h ≡ g) grants → AllByRecursion (λ h. stamp_of h ≡ stamp_of g → pair_of h ≡ pair_of g) grants
    pairs [] g only = tt
    pairs (h ∷ grants) g only = (λ same. ap pair_of (only.0 same), pairs grants g only.1)

pub IsValid-with_grants_left : (db : Database) (stays : Grant → Bool) → IsValid db → IsValid (with_grants_left db stays)
IsValid-with_grants_left db stays valid = record {
  cells = valid.cells;
  limit = valid.limit;
  next = valid.next;
  counter = valid.counter;
  stored = IsStored-removed stored_grant (before_grants db) (behind_grants db) db.grants stays (records_of-grants db) (records_of-grants (with_grants_left db stays)) valid.stored;
  users = valid.users;
  objects = valid.objects;
  grants = AreGrants-filter db.users db.objects db.grants stays valid.grants;
  rows = valid.rows;
}
