-- DELETE USER: whom it deletes, or the first refusal, and what is left without the user and the grants to it.
use Rattle.std.proofs.Common.{◌≡◌, ℕ, ◌+◌, ◌≤◌, ◌||◌, Bool, true, false, List, Option, Some, None, Ok, Err, refl, sym}
use Rattle.std.specs.Prelude.{IfSome}
use Rattle.std.specs.List.{list_any}
use Rattle.eeprom.specs.Chip.{Chip}
use Rattle.eeprom.specs.StoreOf.{Slots}
use Rattle.record_store.specs.Held.{Held, StandsFor}
use Rattle.record_store.specs.Transaction.{ChangesWhere, entries}
use Rattle.record_store.specs.declared.side.Side.TheVariants.{Committed, Working}
use Rattle.scql_base.specs.Words.{conditions_not_satisfied, not_found, security_not_satisfied}
use Rattle.scql_base.specs.declared.words.Actor.{Actor}
use Rattle.scql_base.specs.declared.records.User.{User}
use Rattle.scql_model.specs.Creating.{is_owned_by}
use Rattle.scql_model.specs.Database.{Database, is_db_o, user_named}
use Rattle.scql_model.specs.Records.{of_user}
use Rattle.scql_model.specs.Users.{is_needed, removing_user, user_deleted}
use Rattle.scql_model.proofs.KeepsUsers.{user_deleted-keeps}
use Rattle.scql_model.proofs.Removing.{applied-removing_user}
use Rattle.catalog_codec.specs.Catalog.{row_kind, user_kind}
use Rattle.catalog_codec.specs.CatalogLaws.{IsKind-user, HaveOtherMarks-row-user}
use Rattle.catalog_codec.specs.KindLaws.{HaveOtherMarks-sym}
use Rattle.record_table.specs.EditableLaws.{IsEditable-user}
use Rattle.record_table.specs.Listed.{at_slot, slots_of}
use Rattle.record_table.specs.Making.{IsHeld, KeepsRows, Makes}
use Rattle.record_table.proofs.MadeLeft.{of-told}
use Rattle.row_table.specs.WithGrants.{goes_with_grants, left_with_grants, most_with_grants}
use Rattle.row_table.proofs.GrantsLeft.{KeepsRows-with_grants, Makes-with_grants}
use Rattle.db_access.specs.Depending.{is_for, is_object_of, is_user_of}

-- a user who owns a user is needed
pub needed-users : (db : Database) (u : User) → list_any (is_user_of u.stamp) db.users ≡ true → true ≡ is_needed db u
needed-users db u owns = go (is_db_o u) (list_any (is_user_of u.stamp) db.users) (list_any (is_object_of u.stamp) db.objects) owns
  where
    go : (a b c : Bool) → b ≡ true → true ≡ (a || b || c)
    go true b c is = refl
    go false b c is = rw is refl

-- one who isn't OWNER, and owns no user, where it owns an object
pub needed-objects : (db : Database) (u : User) → is_db_o u ≡ false → list_any (is_user_of u.stamp) db.users ≡ false → list_any (is_object_of u.stamp) db.objects ≡ is_needed db u
needed-objects db u other none = go (is_db_o u) (list_any (is_user_of u.stamp) db.users) (list_any (is_object_of u.stamp) db.objects) other none
  where
    go : (a b c : Bool) → a ≡ false → b ≡ false → c ≡ (a || b || c)
    go a b c is also = rw (is, also) refl

-- whom it deletes, or the first refusal
module _ (db : Database) (actor : Actor) (name : List ℕ) where
  pub deletes-none : user_named db.users name ≡ None → user_deleted db actor name ≡ Err not_found
  unfolding user_deleted
  deletes-none none = rw none refl

  pub deletes-foreign : (u : User) → user_named db.users name ≡ Some u → is_owned_by actor u.owner ≡ false → user_deleted db actor name ≡ Err security_not_satisfied
  unfolding user_deleted
  deletes-foreign u found foreign = rw (found, foreign) refl

  pub deletes-needed : (u : User) → user_named db.users name ≡ Some u → is_owned_by actor u.owner ≡ true → is_needed db u ≡ true → user_deleted db actor name ≡ Err conditions_not_satisfied
  unfolding user_deleted
  deletes-needed u found owned needed = rw (found, owned, needed) refl

  pub deletes : (u : User) → user_named db.users name ≡ Some u → is_owned_by actor u.owner ≡ true → is_needed db u ≡ false → user_deleted db actor name ≡ Ok (removing_user db u)
  unfolding user_deleted
  deletes u found owned free = rw (found, owned, free) refl

-- A store from which a user was taken, with the grants to it, has made the edits.
pub Makes-user_deleted : (db : Database) (actor : Actor) (name : List ℕ) (u : User) (slot : ℕ) (old new : Held) (chip : Chip) → IsHeld old Working chip db → user_deleted db actor name ≡ Ok (removing_user db u)
    → IfSome (slots_of old Working chip) (λ slots. Some u ≡ at_slot user_kind slot slots)
    → IfSome (slots_of old Working chip) (λ slots. slots_of new Working chip ≡ Some (left_with_grants slot (is_for u.stamp) slots))
    → new.chains.cells ≡ old.chains.cells → new.row_limit ≡ old.row_limit → slots_of new Committed chip ≡ slots_of old Committed chip
    → IfSome (slots_of old Working chip) (λ slots. entries new ≤ entries old + most_with_grants slot (is_for u.stamp) slots)
    → IfSome (slots_of old Working chip) (λ slots. ChangesWhere (goes_with_grants slot (is_for u.stamp) slots) old new)
    → Makes db (removing_user db u) old new chip chip
Makes-user_deleted db actor name u slot old new chip held is found left cells limit committed few only =
    Makes-with_grants user_kind of_user (is_for u.stamp) u slot db (user_deleted db actor name) old new chip held IsKind-user IsEditable-user (sym (of-told old chip held.slots (λ slots. Some u ≡ at_slot user_kind slot slots) held.told found)) refl
    (applied-removing_user db u held.valid.grants.rises) (user_deleted-keeps db actor name held.valid) is left cells limit committed few only

-- and all rows stay
pub KeepsRows-user_deleted : (u : User) (slot : ℕ) (old new : Held) (chip : Chip) → IfSome chip.image (StandsFor old) → IfSome (slots_of old Working chip) (λ slots. Some u ≡ at_slot user_kind slot slots)
    → IfSome (slots_of old Working chip) (λ slots. slots_of new Working chip ≡ Some (left_with_grants slot (is_for u.stamp) slots)) → KeepsRows (slots_of old Working chip) (slots_of new Working chip)
KeepsRows-user_deleted u slot old new chip stands found left =
    KeepsRows-with_grants user_kind (is_for u.stamp) slot old new chip IsKind-user (HaveOtherMarks-sym row_kind user_kind HaveOtherMarks-row-user) stands (user (slots_of old Working chip) found) left
  where
    user : (o : Option Slots) → IfSome o (λ slots. Some u ≡ at_slot user_kind slot slots) → IfSome o (λ slots. (x : User) × (at_slot user_kind slot slots ≡ Some x))
    user None at = tt
    user (Some slots) at = (u, sym at)
