-- What is left where an object is dropped, with the grants on it.
use Rattle.std.proofs.Common.{◌≡◌, ℕ, ◌+◌, ◌≤◌, not, List, length, count_by, Option, Some, None, refl, sym, subst, ◌∙◌}
use Rattle.std.specs.Prelude.{IfSome}
use Rattle.std.specs.List.{filter}
use Rattle.std.proofs.Math.ListN.{set}
use Rattle.std.proofs.lemmas.List.{length-map, length-set}
use Rattle.std.proofs.lemmas.Option.{none-some}
use Rattle.eeprom.specs.Chip.{Chip}
use Rattle.eeprom.specs.StoreOf.{Slots}
use Rattle.record_store.specs.Held.{Held, StandsFor}
use Rattle.record_store.specs.Transaction.{ChangesWhere, entries}
use Rattle.record_store.specs.declared.side.Side.TheVariants.{Committed, Working}
use Rattle.scql_base.specs.declared.words.Actor.{Actor}
use Rattle.scql_base.specs.declared.records.Grant.{Grant}
use Rattle.scql_base.specs.declared.records.Object.{Object}
use Rattle.scql_model.specs.Database.{Database, IsValid}
use Rattle.scql_model.specs.Defining.{removing_object, view_dropped}
use Rattle.scql_model.specs.Edits.{edited, to_remove, touched}
use Rattle.scql_model.specs.Opens.{Holds}
use Rattle.scql_model.specs.Records.{of_object}
use Rattle.scql_model.proofs.KeepsObjects.{view_dropped-keeps}
use Rattle.scql_model.proofs.Removing.{applied-removing_object}
use Rattle.catalog_codec.specs.Catalog.{object_kind, grant_kind, row_kind}
use Rattle.catalog_codec.specs.CatalogLaws.{IsKind-object, HaveOtherMarks-row-object}
use Rattle.catalog_codec.specs.KindLaws.{HaveOtherMarks-sym}
use Rattle.record_table.specs.EditableLaws.{IsEditable-object}
use Rattle.record_table.specs.Listed.{at_slot, slots_of}
use Rattle.record_table.specs.Making.{IsHeld, KeepsRows, Makes}
use Rattle.record_table.specs.Swept.{has_passing, without_passing}
use Rattle.record_table.specs.Touching.{Touches}
use Rattle.record_table.proofs.Steps.{unless-told}
use Rattle.row_index.specs.Index.{HasRows, Index, Indexes}
use Rattle.row_index.proofs.IndexLaws.{Indexes-kept}
use Rattle.row_table.specs.WithGrants.{goes_with_grants, left_with_grants, most_with_grants}
use Rattle.row_table.proofs.GrantsLeft.{Holds-with_grants, KeepsRows-with_grants, Makes-with_grants, Touches-with_grants, count-with_grants}
use Rattle.db_define.specs.Dependent.{is_on}
use Rattle.db_define.specs.Dropped.{IsToDrop}
use Rattle.db_define.specs.declared.dropped.Dropped.{Dropped}
use Rattle.db_define.specs.declared.dropped.Dropped.TheVariants.{View}
use Rattle.db_define.specs.declared.dropped.ToDrop.{ToDrop}

module _ (db : Database) (o : Object) (slot : ℕ) (slots : Slots) (holds : Holds slots db) (valid : IsValid db) (at : at_slot object_kind slot slots ≡ Some o) where
  pub Holds-granted : Holds (left_with_grants slot (is_on o.stamp) slots) (record (edited to_remove (of_object o) db) { grants = filter (λ (g : Grant). not (is_on o.stamp g)) db.grants })
  Holds-granted = Holds-with_grants object_kind of_object IsKind-object IsEditable-object (is_on o.stamp) o slot slots db holds valid at refl

  pub count-grants : count_by (has_passing grant_kind (is_on o.stamp)) (set slots slot None) ≡ length (filter (is_on o.stamp) db.grants)
  count-grants = count-with_grants object_kind of_object IsKind-object IsEditable-object (is_on o.stamp) o slot slots db holds valid at refl

  pub Touches-granted : (old new : Held) → ChangesWhere (goes_with_grants slot (is_on o.stamp) slots) old new → Touches (touched (removing_object db o)) db.next slots (left_with_grants slot (is_on o.stamp) slots) old new
  Touches-granted old new changes = Touches-with_grants object_kind of_object IsKind-object IsEditable-object (is_on o.stamp) o slot slots db holds valid at refl old new changes

-- All rows stay in their slots,
pub KeepsRows-granted : (way : Dropped) (actor : Actor) (name : List ℕ) (found : ToDrop) (old new : Held) (chip : Chip) → IfSome chip.image (StandsFor old) → IfSome (slots_of old Working chip) (IsToDrop way old chip actor name found)
    → IfSome (slots_of old Working chip) (λ slots. slots_of new Working chip ≡ Some (left_with_grants found.slot (is_on found.stamp) slots)) → KeepsRows (slots_of old Working chip) (slots_of new Working chip)
KeepsRows-granted way actor name found old new chip stands there left =
    KeepsRows-with_grants object_kind (is_on found.stamp) found.slot old new chip IsKind-object (HaveOtherMarks-sym row_kind object_kind HaveOtherMarks-row-object) stands (object (slots_of old Working chip) there) left
  where
    object : (o : Option Slots) → IfSome o (IsToDrop way old chip actor name found) → IfSome o (λ slots. (x : Object) × (at_slot object_kind found.slot slots ≡ Some x))
    object None there = tt
    object (Some slots) there = (there.object, there.at)

-- and so the index stands.
pub Indexes-granted : (index : Index) (way : Dropped) (actor : Actor) (name : List ℕ) (found : ToDrop) (old new : Held) (chip : Chip) → IfSome chip.image (StandsFor old) → Indexes index old chip
    → IfSome (slots_of old Working chip) (IsToDrop way old chip actor name found) → IfSome (slots_of old Working chip) (λ slots. slots_of new Working chip ≡ Some (left_with_grants found.slot (is_on found.stamp) slots))
    → new.chains.cells ≡ old.chains.cells → slots_of new Committed chip ≡ slots_of old Committed chip → Indexes index new chip
Indexes-granted index way actor name found old new chip stands is there left cells committed =
    Indexes-kept index old new chip chip is cells committed (many (slots_of old Working chip) refl is.working left) (KeepsRows-granted way actor name found old new chip stands there left)
  where
    many : (o : Option Slots) → slots_of old Working chip ≡ o → IfSome o (HasRows index.cells index.working) → IfSome o (λ slots. slots_of new Working chip ≡ Some (left_with_grants found.slot (is_on found.stamp) slots))
        → IfSome (slots_of new Working chip) (λ slots. length slots ≡ new.chains.cells)
    many None none has_rows left =
        subst (λ o. IfSome o (λ slots. length slots ≡ new.chains.cells)) (sym (unless-told old new Working chip chip stands refl (λ slots some. none-some slots (sym none ∙ some)) ∙ none)) tt
    many (Some slots) some has_rows left =
        rw left (length-map (set slots found.slot None) (without_passing grant_kind (is_on found.stamp)) ∙ length-set slots found.slot None ∙ has_rows.all ∙ is.cells ∙ sym cells)

-- A store from which a view or a dictionary was taken, with the grants on it, has made the edits.
pub Makes-view_dropped : (db : Database) (actor : Actor) (name : List ℕ) (found : ToDrop) (old new : Held) (chip : Chip) (held : IsHeld old Working chip db) (there : IsToDrop View old chip actor name found held.slots)
    → IfSome (slots_of old Working chip) (λ slots. slots_of new Working chip ≡ Some (left_with_grants found.slot (is_on found.stamp) slots))
    → new.chains.cells ≡ old.chains.cells → new.row_limit ≡ old.row_limit → slots_of new Committed chip ≡ slots_of old Committed chip
    → IfSome (slots_of old Working chip) (λ slots. entries new ≤ entries old + most_with_grants found.slot (is_on found.stamp) slots)
    → IfSome (slots_of old Working chip) (λ slots. ChangesWhere (goes_with_grants found.slot (is_on found.stamp) slots) old new)
    → Makes db (removing_object db there.object) old new chip chip
Makes-view_dropped db actor name found old new chip held there left cells limit committed few only =
    let o = there.object in
    Makes-with_grants object_kind of_object (is_on o.stamp) o found.slot db (view_dropped db actor name) old new chip held IsKind-object IsEditable-object there.at refl (applied-removing_object db o held.valid.grants.rises)
    (view_dropped-keeps db actor name held.valid) (there.drops db held)
    (rw (sym there.stamp) at left) cells limit committed (rw (sym there.stamp) at few) (rw (sym there.stamp) at only)
