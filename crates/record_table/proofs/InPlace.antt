-- A record takes the place of the one of its stamp, or is removed: the database then, and whether it has room.
use Rattle.std.proofs.Common.{◌≡◌, ℕ, ◌<◌, ◌≤◌, Bool, true, false, List, [], ◌∷◌, ◌++◌, length, eqb, count_by, suc, take, drop, Option, Some, None, Err, get_or, refl, sym, ap, subst, ◌∙◌, inl, inr, arith}
use Rattle.std.specs.List.{find, filter_map, cons_option, list_all}
use Rattle.std.proofs.lemmas.Bool.{cases_Bool, and_parts, eq-eqb, lt-ltb, le-ltb}
use Rattle.std.proofs.lemmas.Option.{none-some}
use Rattle.std.proofs.lemmas.List.Sums.{sum_by-set}
use Rattle.eeprom.specs.StoreOf.{Slots, cells_for, cells_of}
use Rattle.eeprom.specs.Slots.{Rises, has, in_slot, replaced}
use Rattle.eeprom.proofs.InOrder.{AreApart-rising, counts, counts_not}
use Rattle.eeprom.proofs.Kept.{kept-split}
use Rattle.cell_store.specs.Chains.{is_among}
use Rattle.record_store.specs.Held.{Held}
use Rattle.record_store.specs.Put.{weight_with}
use Rattle.record_store.specs.Transaction.{ChangesOnly}
use Rattle.scql_base.specs.Words.{no_space}
use Rattle.scql_model.specs.Records.{AnyRecord, record_stamp}
use Rattle.scql_model.specs.Database.{Database, IsValid, weight}
use Rattle.scql_model.specs.Edits.{Edit, applied, changing, edited, is_overfull, lacks_room, removing, takes_stamp, to_change, to_remove, touched, with_edits}
use Rattle.scql_model.specs.Opens.{Holds}
use Rattle.scql_model.proofs.EditLaws.{IsAmong, applied-cells, sum-removed, sum-replaced}
use Rattle.scql_model.proofs.Room.{cells-filled}
use Rattle.catalog_codec.specs.Kinds.{Kind, IsKind, read_as}
use Rattle.record_table.specs.Listed.{at_slot, listed}
use Rattle.record_table.specs.Changed.{IsChanged, IsEmptied}
use Rattle.record_table.specs.Editable.{IsEditable}
use Rattle.record_table.specs.Making.{IsValidWith}
use Rattle.record_table.specs.Touching.{Touches}
use Rattle.record_table.proofs.ListedChanges.{within-at}
use Rattle.record_table.proofs.ListedSearches.{AreApart-in_slots, stamped-listed}
use Rattle.record_table.proofs.ChangedDatabase.{Holds-changed, Holds-removed}
use Rattle.record_table.proofs.TouchedSlots.{Touches-changed, Touches-removed}

-- an element is found by its key, where it is the only one that has it
find-middle : {X : Type 0} (key : X → ℕ) (x : X) (before behind : List X) → count_by (has key (key x)) (before ++ x ∷ behind) ≤ 1 → find (has key (key x)) (before ++ x ∷ behind) ≡ Some x
find-middle key x [] behind one = let same : eqb (key x) (key x) ≡ true = eq-eqb (key x) (key x) refl in rw same refl
find-middle key x (b ∷ before) behind one =
    elim (cases_Bool (eqb (key b) (key x))) [
      | inl t ↦ let a = counts (has key (key x)) b (before ++ x ∷ behind) t in
          absurd (none-there before (omega (arith, a, one)))
      | inr f ↦ let a = counts_not (has key (key x)) b (before ++ x ∷ behind) f in
          rw f (find-middle key x before behind (omega (arith, a, one)))
    ]
  where
    none-there : (before : List _) → count_by (has key (key x)) (before ++ x ∷ behind) ≤ 0 → ⊥
    none-there [] none = let a = counts (has key (key x)) x behind (eq-eqb (key x) (key x) refl) in omega (arith, a, none)
    none-there (c ∷ before) none =
        elim (cases_Bool (eqb (key c) (key x))) [
          | inl t ↦ let a = counts (has key (key x)) c (before ++ x ∷ behind) t in omega (arith, a, none)
          | inr f ↦ let a = counts_not (has key (key x)) c (before ++ x ∷ behind) f in none-there before (omega (arith, a, none))
        ]

-- what takes the place of an element passes a test that all pass
all-replaced : {X : Type 0} (key : X → ℕ) (p : X → Bool) (x y : X) (xs : List X) → find (has key (key y)) xs ≡ Some x → list_all p (replaced key y xs) ≡ true → p y ≡ true
all-replaced key p x y [] found all = absurd (let wrong : None ≡ Some x = found in cc)
all-replaced key p x y (z ∷ zs) found all =
    elim (cases_Bool (eqb (key z) (key y))) [
      | inl t ↦ (and_parts (p y) (list_all p (replaced key y zs)) (rw t at all)).0
      | inr f ↦ all-replaced key p x y zs (rw f at found) (and_parts (p z) (list_all p (replaced key y zs)) (rw f at all)).1
    ]

-- the record of a slot is the one of its stamp in the list of its kind
pub found-at : {X : Type 0} (kind : Kind X) (slots : Slots) (slot : ℕ) (x : X) → Rises kind.key (listed kind slots) → at_slot kind slot slots ≡ Some x → find (has kind.key (kind.key x)) (listed kind slots) ≡ Some x
found-at kind slots slot x rises at =
    let f = in_slot (read_as kind) in
    let before = filter_map f (take slot slots) in
    let behind = filter_map f (drop (suc slot) slots) in
    let split : filter_map f slots ≡ before ++ x ∷ behind = kept-split f slots slot (within-at kind slots slot x at) ∙ ap (λ o. before ++ cons_option o behind) at in
    let one = subst (λ xs. count_by (has kind.key (kind.key x)) xs ≤ 1) split (AreApart-in_slots kind slots rises (kind.key x)) in
    let found = subst (λ xs. find (has kind.key (kind.key x)) xs ≡ Some x) (sym split) (find-middle kind.key x before behind one) in
    sym (stamped-listed kind (kind.key x) slots rises) ∙ found

module _ {X : Type 0} (kind : Kind X) (any : X → AnyRecord) (is : IsKind kind) (edits : IsEditable kind any) where
  -- the record of a slot is the one of its stamp that the database has
  pub among-slots : (slots : Slots) (slot : ℕ) (x : X) (db : Database) → Holds slots db → Rises kind.key (edits.records db) → at_slot kind slot slots ≡ Some x → IsAmong kind.key x (edits.records db)
  among-slots slots slot x db holds rises at =
      let list = edits.held slots db holds in
      (ap (find (has kind.key (kind.key x))) (sym list) ∙ found-at kind slots slot x (subst (Rises kind.key) (sym list) rises) at, AreApart-rising kind.key (edits.records db) rises (kind.key x))

  -- a record in a slot takes the cells of its spelling
  cells-at : (slots : Slots) (slot : ℕ) (x : X) → at_slot kind slot slots ≡ Some x → cells_of (get_or slots slot None) ≡ cells_for (length (kind.form.spell x))
  cells-at slots slot x at = of_slot (get_or slots slot None) at
    where
      of_slot : (v : Option (List ℕ)) → in_slot (read_as kind) v ≡ Some x → cells_of v ≡ cells_for (length (kind.form.spell x))
      of_slot None none = absurd (none-some x none)
      of_slot (Some octets) read = ap cells_for (edits.lengths octets x read)

  -- the weight with another record in its place, by the slots
  weight-changed : (slots : Slots) (slot : ℕ) (x y : X) (db : Database) → Holds slots db → IsValid db → at_slot kind slot slots ≡ Some x → kind.key x ≡ kind.key y
      → weight (edited to_change (any y) db) ≡ weight_with slot (kind.form.spell y) slots
  weight-changed slots slot x y db holds valid at same =
      let there = among-slots slots slot x db holds (edits.rises db valid) at in
      omega (
        arith,
        edits.weights to_change y db,
        sum-replaced kind.key (λ z. cells_for (length (kind.form.spell z))) y x (edits.records db) (sym same) there.0 there.1,
        sum_by-set cells_of slots slot (Some (kind.form.spell y)) None (within-at kind slots slot x at),
        cells-at slots slot x at,
        cells-filled slots db holds,
      )

  -- where the record has no room in its place the model has none
  pub full-changed : (slots : Slots) (slot : ℕ) (x y : X) (db : Database) → Holds slots db → IsValid db → at_slot kind slot slots ≡ Some x → kind.key x ≡ kind.key y
      → db.cells < weight_with slot (kind.form.spell y) slots → with_edits db (changing (any y) ∷ []) ≡ Err no_space
  full-changed slots slot x y db holds valid at same full =
      let new = edited to_change (any y) db in
      let over : is_overfull new ≡ true = lt-ltb new.cells (weight new) (omega (arith, weight-changed slots slot x y db holds valid at same, applied-cells db (changing (any y) ∷ []), full)) in
      let none : takes_stamp (changing (any y) ∷ []) ≡ false = rw (edits.no_counter y) refl in
      rw (none, over) refl

  -- What is made of a database that slots hold.
  pub record IsEditedTo (db : Database) (change : List Edit) (now : Slots) : Type 0 where
    pub room : lacks_room db change ≡ false
    pub valid : IsValid (applied db change)
    pub holds : Holds now (applied db change)

  -- what takes its place is within the limits of its kind, where the new database is valid
  pub fits-changed : (slots : Slots) (slot : ℕ) (x y : X) (db : Database) → Holds slots db → IsValid db → at_slot kind slot slots ≡ Some x → kind.key x ≡ kind.key y → IsValid (applied db (changing (any y) ∷ [])) → kind.form.fits y ≡ true
  fits-changed slots slot x y db holds valid at same new_valid =
      let there = among-slots slots slot x db holds (edits.rises db valid) at in
      let found = subst (λ k. find (has kind.key k) (edits.records db) ≡ Some x) same there.0 in
      all-replaced kind.key kind.form.fits x y (edits.records db) found (subst (λ xs. list_all kind.form.fits xs ≡ true) (edits.after to_change y db) (edits.limits (edited to_change (any y) db) new_valid))

  pub IsEditedTo-changed : (slots now : Slots) (slot : ℕ) (x y : X) (db : Database) → Holds slots db → IsValid db → at_slot kind slot slots ≡ Some x → kind.key x ≡ kind.key y
      → weight_with slot (kind.form.spell y) slots ≤ db.cells → IsChanged kind y slot slots now → IsValidWith db (changing (any y) ∷ []) → IsEditedTo db (changing (any y) ∷ []) now
  IsEditedTo-changed slots now slot x y db holds valid at same weighs changed with =
      let new = edited to_change (any y) db in
      let none : takes_stamp (changing (any y) ∷ []) ≡ false = rw (edits.no_counter y) refl in
      let over : is_overfull new ≡ false = le-ltb new.cells (weight new) (omega (arith, weight-changed slots slot x y db holds valid at same, applied-cells db (changing (any y) ∷ []), weighs)) in
      let room : lacks_room db (changing (any y) ∷ []) ≡ false = rw (none, over) refl in
      let fits = fits-changed slots slot x y db holds valid at same (with room) in
      record { room = room; valid = with room; holds = Holds-changed kind any is edits x y slot slots now db holds (edits.rises db valid) fits at same changed }

  pub IsEditedTo-removed : (slots now : Slots) (slot : ℕ) (x : X) (db : Database) → Holds slots db → IsValid db → at_slot kind slot slots ≡ Some x → IsEmptied slot slots now
      → IsValidWith db (removing (any x) ∷ []) → IsEditedTo db (removing (any x) ∷ []) now
  IsEditedTo-removed slots now slot x db holds valid at removed with =
      let new = edited to_remove (any x) db in
      let none : takes_stamp (removing (any x) ∷ []) ≡ false = rw (edits.no_counter x) refl in
      let there = among-slots slots slot x db holds (edits.rises db valid) at in
      let less = sum-removed kind.key (λ z. cells_for (length (kind.form.spell z))) x (edits.records db) there.0 there.1 in
      let over : is_overfull new ≡ false = le-ltb new.cells (weight new) (omega (arith, edits.weights to_remove x db, less, valid.stored.room, applied-cells db (removing (any x) ∷ []))) in
      let room : lacks_room db (removing (any x) ∷ []) ≡ false = rw (none, over) refl in
      record { room = room; valid = with room; holds = Holds-removed kind any is edits x slot slots now db holds (edits.rises db valid) at removed }

  -- the record is touched in its slot
  among-one : (x : X) → is_among (kind.key x) (record_stamp (any x) ∷ []) ≡ true
  among-one x = rw (eq-eqb (kind.key x) (record_stamp (any x)) (sym (edits.stamps x))) refl

  pub Touches-in_place : (slots now : Slots) (slot : ℕ) (x y : X) (db : Database) (old new : Held) → Holds slots db → IsValid db → at_slot kind slot slots ≡ Some x → kind.key x ≡ kind.key y → IsChanged kind y slot slots now
      → IsValid (applied db (changing (any y) ∷ [])) → ChangesOnly slot old new → Touches (touched (changing (any y) ∷ [])) db.next slots now old new
  Touches-in_place slots now slot x y db old new holds valid at same changed new_valid only =
      Touches-changed kind kind.key edits.named is (record_stamp (any y) ∷ []) db.next slot x y slots now old new at same changed (fits-changed slots slot x y db holds valid at same new_valid) (among-one y) only

  pub Touches-taken_out : (slots now : Slots) (slot : ℕ) (x : X) (db : Database) (old new : Held) → at_slot kind slot slots ≡ Some x → IsEmptied slot slots now → ChangesOnly slot old new
      → Touches (touched (removing (any x) ∷ [])) db.next slots now old new
  Touches-taken_out slots now slot x db old new at emptied only = Touches-removed kind kind.key edits.named (record_stamp (any x) ∷ []) db.next slot x slots now old new at emptied (among-one x) only
