-- A new record that takes the next stamp, and the counter that counts on: the database then, and whether it has room.
use Rattle.std.proofs.Common.{◌≡◌, ◌≢◌, ℕ, ◌+◌, ◌*◌, ◌^◌, ◌<◌, ◌≤◌, ◌==◌, ◌||◌, Bool, true, false, List, [], ◌∷◌, ◌++◌, length, Option, Some, None, Err, get_or, refl, sym, ap, subst, ◌∙◌, arith}
use Rattle.std.specs.List.{list_all, AllByRecursion}
use Rattle.std.proofs.lemmas.Bool.{and_parts, eq-eqb, lt-ltb, le-ltb, ne_eqb}
use Rattle.std.proofs.lemmas.Option.{none-some}
use Rattle.std.proofs.lemmas.List.Folds.{list_all-append}
use Rattle.std.proofs.lemmas.List.Sums.{sum_by-set}
use Rattle.eeprom.specs.StoreOf.{Slots, cells_for, cells_of, weight_of}
use Rattle.eeprom.specs.Slots.{in_slot}
use Rattle.cell_store.specs.Chains.{is_among}
use Rattle.record_store.specs.Held.{Held}
use Rattle.record_store.specs.Put.{weight_with}
use Rattle.record_store.specs.Transaction.{ChangesOnly}
use Rattle.record_store.proofs.Emptying.{weight-more}
use Rattle.scql_base.specs.Words.{no_space}
use Rattle.scql_model.specs.Records.{AnyRecord, of_counter, of_user, of_object, of_grant, of_row, counter_record, counter_in, record_stamp}
use Rattle.scql_model.specs.Database.{Database, IsValid, weight}
use Rattle.scql_model.specs.Edits.{applied, cells_of_record, cells_written, edited, is_counter, is_overfull, lacks_room, making, octets_for_cells, stamps_end, to_add, touched, with_edits}
use Rattle.scql_model.proofs.EditLaws.{applied-cells, own_cells, weight-making}
use Rattle.scql_model.proofs.Room.{cells-filled}
use Rattle.scql_model.proofs.SpellingLengths.{length-counter_in}
use Rattle.scql_model.specs.Opens.{Holds, counter_stamp}
use Rattle.catalog_codec.specs.Kinds.{Kind, IsKind}
use Rattle.catalog_codec.specs.Catalog.{counter_kind}
use Rattle.catalog_codec.specs.CatalogLaws.{IsKind-counter}
use Rattle.record_table.specs.Changed.{IsAdded}
use Rattle.record_table.specs.EditableLaws.{named-counter}
use Rattle.record_table.specs.Listed.{at_slot}
use Rattle.record_table.specs.Touching.{Touches}
use Rattle.record_table.specs.Editable.{IsEditable}
use Rattle.record_table.specs.Making.{IsMade, IsValidWith}
use Rattle.record_table.proofs.ListedChanges.{at_slot-other}
use Rattle.record_table.proofs.ChangedDatabase.{Holds-added, Holds-counted}
use Rattle.record_table.proofs.TouchedSlots.{Touches-added, Touches-changed, Touches-then}

either_way : (b : Bool) → b || true ≡ true
either_way true = refl
either_way false = refl

-- a record that is no counter weighs what its spelling takes
own-record : (r : AnyRecord) → is_counter r ≡ false → own_cells r ≡ cells_of_record r
own-record (of_counter next) other = absurd cc
own-record (of_user u) other = refl
own-record (of_object o) other = refl
own-record (of_grant g) other = refl
own-record (of_row r) other = refl

-- the last of a list passes a test that all pass
all-last : {X : Type 0} (p : X → Bool) (xs : List X) (x : X) → list_all p (xs ++ x ∷ []) ≡ true → p x ≡ true
all-last p xs x all = (and_parts (p x) true (and_parts (list_all p xs) (list_all p (x ∷ [])) (sym (list_all-append p xs (x ∷ [])) ∙ all)).1).0

-- a slot with a counter takes as many cells as any counter
counter-cells : (slots : Slots) (slot was next : ℕ) → at_slot counter_kind slot slots ≡ Some was → cells_of (get_or slots slot None) ≡ cells_for (length (counter_record.spell next))
counter-cells slots slot was next at = of_slot (get_or slots slot None) at
  where
    of_slot : (v : Option (List ℕ)) → in_slot counter_in v ≡ Some was → cells_of v ≡ cells_for (length (counter_record.spell next))
    of_slot None none = absurd (none-some was none)
    of_slot (Some octets) read = ap cells_for (length-counter_in octets was read)

-- so the counter always has room
pub counter-room : (slots : Slots) (slot was next : ℕ) → slot < length slots → at_slot counter_kind slot slots ≡ Some was → weight_with slot (counter_record.spell next) slots ≡ weight_of slots
counter-room slots slot was next within at =
    omega (arith, sum_by-set cells_of slots slot (Some (counter_record.spell next)) None within, counter-cells slots slot was next at)

-- a slot with a counter is not an empty one
pub other_slot : (slots : Slots) (counter slot was : ℕ) → at_slot counter_kind counter slots ≡ Some was → get_or slots slot None ≡ None → counter ≢ slot
other_slot slots counter slot was at empty same = none-some was (ap (in_slot counter_in) (sym empty ∙ ap (λ i. get_or slots i None) (sym same)) ∙ at)

-- and the counter is where it was once another slot has a record
counter-still : {X : Type 0} (kind : Kind X) (x : X) (slot counter next : ℕ) (was between : Slots) → at_slot counter_kind counter was ≡ Some next → IsAdded kind x slot was between → at_slot counter_kind counter between ≡ Some next
counter-still kind x slot counter next was between at added =
    ap (at_slot counter_kind counter) added.is ∙ (at_slot-other counter_kind was slot counter (Some (kind.form.spell x)) (other_slot was counter slot next at added.empty) ∙ at)

-- the next stamp has a spelling
next-fits : (next : ℕ) → next < stamps_end → counter_record.fits (next + 1) ≡ true
next-fits next left = lt-ltb (next + 1) (2 ^ 32) (omega (arith, left))

module _ {X : Type 0} (kind : Kind X) (any : X → AnyRecord) (is : IsKind kind) (edits : IsEditable kind any) where
  -- how many cells the record takes
  pub cells-any : (x : X) → cells_of_record (any x) ≡ cells_for (length (kind.form.spell x))
  cells-any x = ap (λ octets. cells_for (length octets)) (edits.spells x)

  -- the weight of the new database by the slots
  weight-made : (db : Database) (x : X) (slots : Slots) → Holds slots db → weight (applied db (making db (any x))) ≡ weight_of slots + cells_for (length (kind.form.spell x))
  weight-made db x slots holds = omega (arith, weight-making db (any x), own-record (any x) (edits.no_counter x), cells-any x, cells-filled slots db holds)

  -- where the record has no room the model has none
  pub full-made : (db : Database) (x : X) (slots : Slots) → Holds slots db → db.cells < weight_of slots + cells_for (length (kind.form.spell x)) → with_edits db (making db (any x)) ≡ Err no_space
  full-made db x slots holds full =
      let new = applied db (making db (any x)) in
      let over : is_overfull new ≡ true = lt-ltb new.cells (weight new) (omega (arith, weight-made db x slots holds, applied-cells db (making db (any x)), full)) in
      let lacks : lacks_room db (making db (any x)) ≡ true = rw over (either_way (db.next == stamps_end)) in
      rw lacks refl

  -- where it has room so has the model
  room-made : (db : Database) (x : X) (slots : Slots) → Holds slots db → db.next < stamps_end → weight_of slots + cells_for (length (kind.form.spell x)) ≤ db.cells → lacks_room db (making db (any x)) ≡ false
  room-made db x slots holds left room =
      let new = applied db (making db (any x)) in
      let over : is_overfull new ≡ false = le-ltb new.cells (weight new) (omega (arith, weight-made db x slots holds, applied-cells db (making db (any x)), room)) in
      let last : (db.next == stamps_end) ≡ false = ne_eqb db.next stamps_end (λ (e : db.next ≡ stamps_end). omega (arith, left, e)) in
      rw (over, last) refl

  -- the record is within the limits of its kind, where the new database is valid
  pub fits-made : (db : Database) (x : X) → IsValid (applied db (making db (any x))) → kind.form.fits x ≡ true
  fits-made db x valid =
      all-last kind.form.fits (edits.records (record db { next = db.next + 1 })) x
      (subst (λ xs. list_all kind.form.fits xs ≡ true) (edits.after to_add x (record db { next = db.next + 1 })) (edits.limits (applied db (making db (any x))) valid))

  -- What is made of a database that slots hold.
  pub record IsMadeOf (db : Database) (x : X) (now : Slots) : Type 0 where
    pub room : lacks_room db (making db (any x)) ≡ false
    pub valid : IsValid (applied db (making db (any x)))
    pub holds : Holds now (applied db (making db (any x)))

  pub IsMadeOf-slots : (db : Database) (x : X) (slot counter : ℕ) (was now : Slots) → Holds was db → IsValid db → kind.key x ≡ db.next → db.next < stamps_end → slot < length was
      → at_slot counter_kind counter was ≡ Some db.next → IsMade kind x slot counter (db.next + 1) was now → weight_with slot (kind.form.spell x) was ≤ db.cells
      → IsValidWith db (making db (any x)) → IsMadeOf db x now
  IsMadeOf-slots db x slot counter was now holds valid key left within at made weighs with =
      let more = weight-more was slot (kind.form.spell x) within made.added.empty in
      let room = room-made db x was holds left (omega (arith, more, weighs)) in
      let new_valid = with room in
      let fits = fits-made db x new_valid in
      let below : AllByRecursion (λ y. kind.key y < kind.key x) (edits.records db) = subst (λ n. AllByRecursion (λ y. kind.key y < n) (edits.records db)) (sym key) (edits.below db valid) in
      let between = Holds-added kind any is edits x slot was made.between db holds below fits within made.added in
      let still = counter-still kind x slot counter db.next was made.between at made.added in
      let counted = Holds-counted db.next (db.next + 1) counter made.between now (edited to_add (any x) db) between (next-fits db.next left) still made.counted in
      record {
        room = room;
        valid = new_valid;
        holds = subst (Holds now) (sym (edits.counts to_add x (db.next + 1) db)) counted;
      }

  -- the octets that are written
  pub octets-made : (db : Database) (x : X) → octets_for_cells (cells_written (making db (any x))) ≡ 32 * (cells_for (length (counter_record.spell (db.next + 1))) + cells_for (length (kind.form.spell x)))
  octets-made db x = ap (λ n. 32 * (cells_for (length (counter_record.spell (db.next + 1))) + n)) (cells-any x)

  -- the record and the counter are touched, in their slots
  pub Touches-made : (db : Database) (x : X) (slot counter : ℕ) (was now : Slots) (old mid new : Held) → kind.key x ≡ db.next → db.next < stamps_end → slot < length was → at_slot counter_kind counter was ≡ Some db.next
      → IsMade kind x slot counter (db.next + 1) was now → IsValid (applied db (making db (any x))) → ChangesOnly slot old mid → ChangesOnly counter mid new → Touches (touched (making db (any x))) db.next was now old new
  Touches-made db x slot counter was now old mid new key left within at made valid first second =
      let stamps = touched (making db (any x)) in
      let still = counter-still kind x slot counter db.next was made.between at made.added in
      Touches-then stamps stamps stamps db.next was made.between now old mid new
      (Touches-added kind kind.key edits.named is stamps db.next slot x was made.between old mid within made.added (fits-made db x valid) (omega (arith, key)) (among-second 0 (kind.key x) (record_stamp (any x)) (edits.stamps x)) first)
      (Touches-changed counter_kind counter_stamp named-counter IsKind-counter stamps db.next counter db.next (db.next + 1) made.between now mid new still refl made.counted (next-fits db.next left) refl second) (λ stamp among. among) (λ stamp among. among)
    where
      among-second : (a b c : ℕ) → c ≡ b → is_among b (a ∷ c ∷ []) ≡ true
      among-second a b c same = rw (eq-eqb b c (sym same)) (either_way (b == a))
