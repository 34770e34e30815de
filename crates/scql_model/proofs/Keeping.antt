-- What keeps a database valid: edits for which there is room. What was found in a valid database is what its stamp names.
use Rattle.std.proofs.Common.{◌≡◌, ℕ, ◌+◌, ◌<◌, ◌≤◌, ◌^◌, ◌==◌, Bool, true, false, List, [], ◌∷◌, Option, Some, None, refl, ap, subst, inl, inr, arith}
use Rattle.std.specs.Prelude.{nat_lt}
use Rattle.std.specs.List.{find, list_any}
use Rattle.std.proofs.lemmas.Bool.{cases_Bool, eq-eqb, ne_eqb, lt-ltb, ltb-true}
use Rattle.std.proofs.lemmas.Option.{none-some, same_Some}
use Rattle.eeprom.specs.Slots.{Rises}
use Rattle.scql_base.specs.declared.records.Object.{Object}
use Rattle.scql_base.specs.declared.records.ObjectKind.{ObjectKind}
use Rattle.scql_model.specs.Rules.{object_stamped}
use Rattle.scql_model.specs.Database.{Database, IsValid, weight, stored_object}
use Rattle.scql_model.specs.Defining.{of_kind}
use Rattle.scql_model.specs.Edits.{AnyRecord, Edit, applied, making, takes_stamp, stamps_end}
use Rattle.scql_model.proofs.ChangedLists.{found-each}
use Rattle.scql_model.proofs.Creating.{next_fits}
use Rattle.scql_model.proofs.FoundAgain.{any-find}
use Rattle.scql_model.proofs.RecordsOf.{before_objects, behind_objects, records_of-objects}
use Rattle.scql_model.proofs.Stored.{below-of_kind}

-- a stamp is left where one is taken, and the records have room
pub record HasRoomFor (db : Database) (edits : List Edit) : Type 0 where
  pub stamps_left : takes_stamp edits ≡ true → (db.next == stamps_end) ≡ false
  pub room : weight (applied db edits) ≤ (applied db edits).cells

abbrev pub Keeps : Database → List Edit → Type 0
Keeps db edits = HasRoomFor db edits → IsValid (applied db edits)

-- where a record is made the counter counts on
pub next-making : (db : Database) (r : AnyRecord) → IsValid db → HasRoomFor db (making db r) → nat_lt (db.next + 1) (2 ^ 32) ≡ true
next-making db r valid room = next_fits db.next valid.counter (room.stamps_left refl)

-- where keys rise, what is found is what its key names
pub key-found : {X : Type 0} (key : X → ℕ) (q : X → Bool) (xs : List X) (x : X) → Rises key xs → find q xs ≡ Some x → find (λ y. key y == key x) xs ≡ Some x
key-found key q [] x rises found = absurd (none-some x found)
key-found key q (y ∷ ys) x rises found =
    elim (cases_Bool (q y)) [
      | inl t ↦ (let same : y ≡ x = same_Some y x (rw t at found) in rw (eq-eqb (key y) (key x) (ap key same)) (ap Some same))
      | inr f ↦ (let later : find q ys ≡ Some x = rw f at found in
          let above : key y < key x = found-each (λ z. key y < key z) q ys x rises.0 later in
          rw (ne_eqb (key y) (key x) (λ (e : key y ≡ key x). omega arith)) (key-found key q ys x rises.1 later))
    ]

-- an object that is among those of a database
pub record IsThere (db : Database) (o : Object) : Type 0 where
  pub stamped : object_stamped db.objects o.stamp ≡ Some o
  pub among : list_any (λ (p : Object). p.stamp == o.stamp) db.objects ≡ true
  pub older : nat_lt o.stamp db.next ≡ true
  pub fits : nat_lt o.stamp (2 ^ 32) ≡ true

pub IsThere-found : (db : Database) (q : Object → Bool) (o : Object) → IsValid db → find q db.objects ≡ Some o → IsThere db o
IsThere-found db q o valid found =
    let below : o.stamp < db.next = found-each (λ (p : Object). p.stamp < db.next) q db.objects o
    (below-of_kind stored_object (before_objects db) (behind_objects db) db.objects (records_of-objects db) valid.stored) found in
    let last = ltb-true db.next (2 ^ 32) valid.counter in
    record {
      stamped = key-found (λ (p : Object). p.stamp) q db.objects o valid.objects.rises found;
      among = any-find q (λ (p : Object). p.stamp == o.stamp) db.objects o found (eq-eqb o.stamp o.stamp refl);
      older = lt-ltb o.stamp db.next below;
      fits = lt-ltb o.stamp (2 ^ 32) (omega arith);
    }

-- an object of a kind
pub of_kind-parts : (test : ObjectKind → Bool) (found : Option Object) (o : Object) → of_kind test found ≡ Some o → (found ≡ Some o) × (test o.kind ≡ true)
of_kind-parts test None o is = absurd (none-some o is)
of_kind-parts test (Some p) o is =
    elim (cases_Bool (test p.kind)) [
      | inl t ↦ (let same : p ≡ o = same_Some p o (rw t at is) in (ap Some same, subst (λ (o : Object). test o.kind ≡ true) same t))
      | inr f ↦ absurd (none-some o (rw f at is))
    ]
