-- A change of one slot, and the database that the slots hold then.
use Rattle.std.proofs.Common.{◌≡◌, ℕ, ◌<◌, Bool, true, List, [], ◌∷◌, ◌++◌, length, Option, Some, None, get_or, zero, suc, refl, sym, ap, subst, ◌∙◌}
use Rattle.std.proofs.Math.ListN.{set}
use Rattle.std.specs.List.{list_all, AllByRecursion}
use Rattle.std.proofs.lemmas.Bool.{and_parts}
use Rattle.std.proofs.lemmas.List.{length-set}
use Rattle.eeprom.specs.StoreOf.{Slots}
use Rattle.eeprom.specs.Slots.{Rises, kept, in_slot, replaced, without}
use Rattle.eeprom.proofs.Kept.{kept-other, kept-changed}
use Rattle.scql_model.specs.Records.{AnyRecord, counter_record, counter_in}
use Rattle.scql_model.specs.Database.{Database}
use Rattle.scql_model.specs.Edits.{edited, to_add, to_change, to_remove}
use Rattle.catalog_codec.specs.Kinds.{Kind, IsKind}
use Rattle.catalog_codec.specs.KindLaws.{HaveOtherMarks-sym}
use Rattle.catalog_codec.specs.Catalog.{counter_kind, user_kind, object_kind, grant_kind, row_kind}
use Rattle.catalog_codec.specs.CatalogLaws.{IsKind-counter, IsKind-user, IsKind-object, IsKind-grant, IsKind-row, HaveOtherMarks-counter-user, HaveOtherMarks-counter-object, HaveOtherMarks-counter-grant, HaveOtherMarks-row-counter}
use Rattle.record_table.specs.Listed.{at_slot}
use Rattle.record_table.specs.Changed.{IsAdded, IsChanged, IsEmptied}
use Rattle.record_table.specs.Editable.{IsEditable, LeavesOthers}
use Rattle.record_table.specs.EditableLaws.{spelled-counter}
use Rattle.scql_model.specs.Opens.{Holds, is_spelled, counter_stamp}
use Rattle.record_table.proofs.ListedChanges.{is_of, is_of-read, listed-other, listed-added, listed-changed, listed-removed, no_other, within-at}

all-set : {X : Type 0} (p : X → Bool) (xs : List X) (i : ℕ) (v : X) → list_all p xs ≡ true → p v ≡ true → list_all p (set xs i v) ≡ true
all-set p [] i v all one = refl
all-set p (x ∷ xs) zero v all one = let parts = and_parts (p x) (list_all p xs) all in rw one parts.1
all-set p (x ∷ xs) (suc i) v all one = let parts = and_parts (p x) (list_all p xs) all in rw parts.0 (all-set p xs i v parts.1 one)

-- one slot of a kind is given a record of it, or is emptied
pub LeavesOthers-set : {X : Type 0} (kind : Kind X) (slots : Slots) (slot : ℕ) (entry : Option (List ℕ)) → slot < length slots → list_all is_spelled slots ≡ true
    → is_of kind (get_or slots slot None) ≡ true → is_of kind entry ≡ true → is_spelled entry ≡ true → LeavesOthers kind slots (set slots slot entry)
LeavesOthers-set kind slots slot entry within spelled was now is = record {
  cells = length-set slots slot entry;
  spelled = all-set is_spelled slots slot entry spelled is;
  counter = λ apart. kept-other counter_stamp (in_slot counter_in) slots slot entry within (no_other kind counter_kind (get_or slots slot None) IsKind-counter apart was) (no_other kind counter_kind entry IsKind-counter apart now);
  users = λ apart. listed-other kind user_kind slots slot entry IsKind-user apart within was now;
  objects = λ apart. listed-other kind object_kind slots slot entry IsKind-object apart within was now;
  grants = λ apart. listed-other kind grant_kind slots slot entry IsKind-grant apart within was now;
  rows = λ apart. listed-other kind row_kind slots slot entry IsKind-row apart within was now;
}

module _ {X : Type 0} (kind : Kind X) (any : X → AnyRecord) (is : IsKind kind) (edits : IsEditable kind any) where
  -- a record is added, whose key is above all others of its kind
  pub Holds-added : (x : X) (slot : ℕ) (old new : Slots) (db : Database) → Holds old db → AllByRecursion (λ y. kind.key y < kind.key x) (edits.records db) → kind.form.fits x ≡ true
      → slot < length old → IsAdded kind x slot old new → Holds new (edited to_add (any x) db)
  Holds-added x slot old new db holds above fits within added =
      let others = LeavesOthers-set kind old slot (Some (kind.form.spell x)) within holds.spelled (ap (is_of kind) added.empty) (is.begins x) (edits.spelled x fits) in
      let list = edits.held old db holds in
      edits.holds to_add x old new db holds (subst (LeavesOthers kind old) (sym added.is) others)
      (listed-added kind is x slot old new within added fits (subst (AllByRecursion (λ y. kind.key y < kind.key x)) (sym list) above) ∙ ap (λ xs. xs ++ x ∷ []) list)

  -- a record takes the place of the one that has its key
  pub Holds-changed : (x y : X) (slot : ℕ) (old new : Slots) (db : Database) → Holds old db → Rises kind.key (edits.records db) → kind.form.fits y ≡ true
      → at_slot kind slot old ≡ Some x → kind.key x ≡ kind.key y → IsChanged kind y slot old new → Holds new (edited to_change (any y) db)
  Holds-changed x y slot old new db holds rises fits at same changed =
      let others = LeavesOthers-set kind old slot (Some (kind.form.spell y)) (within-at kind old slot x at) holds.spelled (is_of-read kind (get_or old slot None) x is at) (is.begins y) (edits.spelled y fits) in
      let list = edits.held old db holds in
      edits.holds to_change y old new db holds (subst (LeavesOthers kind old) (sym changed) others)
      (listed-changed kind is x y slot old new changed fits at same (subst (Rises kind.key) (sym list) rises) ∙ ap (replaced kind.key y) list)

  -- a record is removed
  pub Holds-removed : (x : X) (slot : ℕ) (old new : Slots) (db : Database) → Holds old db → Rises kind.key (edits.records db) → at_slot kind slot old ≡ Some x
      → IsEmptied slot old new → Holds new (edited to_remove (any x) db)
  Holds-removed x slot old new db holds rises at removed =
      let others = LeavesOthers-set kind old slot None (within-at kind old slot x at) holds.spelled (is_of-read kind (get_or old slot None) x is at) refl refl in
      let list = edits.held old db holds in
      edits.holds to_remove x old new db holds (subst (LeavesOthers kind old) (sym removed) others)
      (listed-removed kind is x slot old new removed at (subst (Rises kind.key) (sym list) rises) ∙ ap (without kind.key (kind.key x)) list)

-- the counter counts on
pub Holds-counted : (was next slot : ℕ) (old new : Slots) (db : Database) → Holds old db → counter_record.fits next ≡ true → at_slot counter_kind slot old ≡ Some was
    → IsChanged counter_kind next slot old new → Holds new (record db { next = next })
Holds-counted was next slot old new db holds fits at changed =
    let within = within-at counter_kind old slot was at in
    let spelled : is_spelled (Some (counter_record.spell next)) ≡ true = spelled-counter (counter_record.spell next) next (IsKind-counter.again next fits) in
    let others : LeavesOthers counter_kind old new =
    subst (LeavesOthers counter_kind old) (sym changed) (LeavesOthers-set counter_kind old slot (Some (counter_record.spell next)) within holds.spelled (is_of-read counter_kind (get_or old slot None) was IsKind-counter at) (IsKind-counter.begins next) spelled) in
    record {
      cells = others.cells ∙ holds.cells;
      spelled = others.spelled;
      counter = ap (kept counter_stamp counter_in) changed
          ∙ (kept-changed counter_stamp (in_slot counter_in) old slot (Some (counter_record.spell next)) was next within at (IsKind-counter.again next fits) refl (subst (Rises counter_stamp) (sym holds.counter) (tt, tt))
          ∙ ap (replaced counter_stamp next) holds.counter);
      users = others.users HaveOtherMarks-counter-user ∙ holds.users;
      objects = others.objects HaveOtherMarks-counter-object ∙ holds.objects;
      grants = others.grants HaveOtherMarks-counter-grant ∙ holds.grants;
      rows = others.rows (HaveOtherMarks-sym row_kind counter_kind HaveOtherMarks-row-counter) ∙ holds.rows;
    }
