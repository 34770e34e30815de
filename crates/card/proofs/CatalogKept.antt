-- Where rows change, the catalog stays.
use Rattle.std.proofs.Common.{◌≡◌, ℕ, Bool, true, false, List, Option, Some, None, is_some, Result, Ok, Err, if◌then◌else◌, refl, sym, ap, ◌∙◌}
use Rattle.std.specs.Prelude.{IfSome}
use Rattle.std.proofs.lemmas.Bool.{false≢true}
use Rattle.std.proofs.lemmas.Option.{same_Some}
use Rattle.eeprom.specs.Chip.{Chip}
use Rattle.record_store.specs.Held.{Held}
use Rattle.record_store.specs.declared.side.Side.{Side}
use Rattle.record_store.specs.declared.side.Side.TheVariants.{Committed}
use Rattle.scql_base.specs.declared.cursor.Cursor.{Cursor}
use Rattle.scql_base.specs.declared.operation.Operation.{Operation}
use Rattle.scql_base.specs.declared.operation.Operation.TheVariants.{Insert, Update, Delete}
use Rattle.scql_base.specs.declared.words.Actor.{Actor}
use Rattle.scql_base.specs.Words.{no_space}
use Rattle.scql_base.specs.declared.words.StatusWord.{StatusWord}
use Rattle.scql_model.specs.Changing.{edits_of}
use Rattle.scql_model.specs.Database.{Database}
use Rattle.scql_model.specs.Edits.{Edit, applied, lacks_room}
use Rattle.scql_model.specs.Operations.{kind_of}
use Rattle.scql_model.specs.Writing.{Assignment, row_deleted, row_inserted, row_updated}
use Rattle.scql_model.proofs.RightEdits.{Yields, bound-yields, done-yields}
use Rattle.catalog_codec.specs.Catalog.{grant_kind, object_kind, user_kind}
use Rattle.record_table.specs.AtRest.{IsAtRest}
use Rattle.record_table.specs.Listed.{listed, slots_of}
use Rattle.record_table.specs.Making.{IsHeld}
use Rattle.record_table.proofs.Steps.{told-image}
use Rattle.card.specs.Card.{HoldsSome}
use Rattle.card.specs.Changing.{Concludes, HaveSameCatalog, KeepsCatalog, changes_rows, new_of}

-- these edits leave the catalog
abbrev LeaveCatalog : Database → List Edit → Type 0
LeaveCatalog db edits = HaveSameCatalog db (applied db edits)

leaving : (db : Database) (edits : List Edit) → (applied db edits).users ≡ db.users → (applied db edits).objects ≡ db.objects → (applied db edits).grants ≡ db.grants → LeaveCatalog db edits
leaving db edits users objects grants = record { users = users; objects = objects; grants = grants }

ruleset leaving_catalog = (bound-yields, done-yields, leaving)

inserted : (db : Database) (actor : Actor) (name : List ℕ) (values : List (List ℕ)) → Yields (LeaveCatalog db) (row_inserted db actor name values)
unfolding row_inserted
inserted db actor name values = search leaving_catalog

updated : (db : Database) (actor : Actor) (cursor : Option Cursor) (assignments : List Assignment) → Yields (LeaveCatalog db) (row_updated db actor cursor assignments)
unfolding row_updated
updated db actor cursor assignments = search leaving_catalog depth 8

deleted : (db : Database) (actor : Actor) (cursor : Option Cursor) → Yields (LeaveCatalog db) (row_deleted db actor cursor)
unfolding row_deleted
deleted db actor cursor = search leaving_catalog

leaves : (db : Database) (actor : Actor) (cursor : Option Cursor) (operation : Operation) → changes_rows (kind_of operation) ≡ true → Yields (LeaveCatalog db) (edits_of db actor cursor operation)
unfolding edits_of
leaves db actor cursor (Insert table row) rows = inserted db actor table row
leaves db actor cursor (Update assignments) rows = updated db actor cursor assignments
leaves db actor cursor Delete rows = deleted db actor cursor
leaves db actor cursor operation rows = absurd (false≢true rows)

-- sides with the same slots hold databases with the same catalog
pub same-catalog : (store other : Held) (side from : Side) (chip old : Chip) (a b : Database) → slots_of store side chip ≡ slots_of other from old → IsHeld store side chip a → IsHeld other from old b → HaveSameCatalog a b
same-catalog store other side from chip old a b same held was =
    let slots : was.slots ≡ held.slots = same_Some was.slots held.slots (sym was.told ∙ (sym same ∙ held.told)) in
    record {
      users = sym was.holds.users ∙ (ap (listed user_kind) slots ∙ held.holds.users);
      objects = sym was.holds.objects ∙ (ap (listed object_kind) slots ∙ held.holds.objects);
      grants = sym was.holds.grants ∙ (ap (listed grant_kind) slots ∙ held.holds.grants);
    }

pub catalog-through : (a b c : Database) → HaveSameCatalog a b → HaveSameCatalog b c → HaveSameCatalog a c
catalog-through a b c first later = record { users = later.users ∙ first.users; objects = later.objects ∙ first.objects; grants = later.grants ∙ first.grants }

-- what is held after the edits of an operation that changes rows has the catalog of before,
pub catalog-made : (store : Held) (side : Side) (chip : Chip) (db next : Database) (actor : Actor) (cursor : Option Cursor) (operation : Operation) (edits : List Edit) → changes_rows (kind_of operation) ≡ true
    → edits_of db actor cursor operation ≡ Ok edits → IsHeld store side chip (applied db edits) → IsHeld store side chip next → HaveSameCatalog db next
catalog-made store side chip db next actor cursor operation edits rows made held after =
    catalog-through db (applied db edits) next ((leaves db actor cursor operation rows).each edits made) (same-catalog store store side side chip chip (applied db edits) next refl held after)

-- and so has what is held when it is concluded
pub catalog-concluded : (store : Held) (chip : Chip) (db next : Database) (actor : Actor) (cursor : Option Cursor) (operation : Operation) (word : StatusWord) → changes_rows (kind_of operation) ≡ true
    → Concludes db (new_of db (edits_of db actor cursor operation)) word store chip → IsAtRest store chip next → HaveSameCatalog db next
catalog-concluded store chip db next actor cursor operation word rows concludes after = each (edits_of db actor cursor operation) (leaves db actor cursor operation rows) concludes
  where
    with_room : (edits : List Edit) (lacks : Bool) → LeaveCatalog db edits → Concludes db (if lacks then Err no_space else Ok (applied db edits)) word store chip → HaveSameCatalog db next
    with_room edits true leave concluded = same-catalog store store Committed Committed chip chip db next refl concluded.1 after
    with_room edits false leave concluded = catalog-through db (applied db edits) next leave (same-catalog store store Committed Committed chip chip (applied db edits) next refl concluded.1 after)

    each : (edited : Result (List Edit) StatusWord) → Yields (LeaveCatalog db) edited → Concludes db (new_of db edited) word store chip → HaveSameCatalog db next
    each (Ok edits) leave concluded = with_room edits (lacks_room db edits) (leave.each edits refl) concluded
    each (Err refused) leave concluded = same-catalog store store Committed Committed chip chip db next refl concluded.1 after

-- A side keeps its catalog that holds some database before, where each before and after have the same.
pub catalog-kept : (store other : Held) (side : Side) (new old : Chip) → HoldsSome other side old → is_some new.image ≡ is_some old.image
    → ((db next : Database) → IsHeld other side old db → IsHeld store side new next → HaveSameCatalog db next) → KeepsCatalog side other store old new
catalog-kept store other side new old holds told each = λ next after.
    let now = told-image store side new after.slots after.told in
    of old.image holds (sym told ∙ ap is_some now.1) next after
  where
    of : (was : Option (List ℕ)) → IfSome was (λ image. (db : Database) × IsHeld other side old db) → is_some was ≡ true → (next : Database) → IsHeld store side new next
        → (db : Database) × IsHeld other side old db × HaveSameCatalog db next
    of None some there next after = absurd (false≢true there)
    of (Some image) some there next after = (some.0, some.1, each some.0 next some.1 after)
