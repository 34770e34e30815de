-- What is read of the objects under an object, in cells of a database that the store holds.
use Rattle.std.proofs.Common.{◌≡◌, ℕ, suc, ◌*◌, List, Option, Some, refl, subst, arith}
use Rattle.std.specs.Prelude.{IfSome}
use Rattle.std.specs.Option.{option_map_or}
use Rattle.eeprom.specs.Chip.{Becomes, Chip, RisesAtMost}
use Rattle.eeprom.specs.StoreOf.{Slots, cell_size}
use Rattle.record_store.specs.Held.{Held}
use Rattle.record_store.specs.declared.side.Side.{Side}
use Rattle.record_store.specs.declared.tags.Tag.TheVariants.{Stamp}
use Rattle.scql_base.specs.declared.condition.Condition.{Condition}
use Rattle.scql_base.specs.declared.records.Object.{Object}
use Rattle.scql_base.specs.declared.records.ObjectKind.TheVariants.{View}
use Rattle.scql_model.specs.Database.{Database, object_stamped}
use Rattle.scql_model.specs.Matching.{Columns}
use Rattle.catalog_codec.specs.Catalog.{object_kind}
use Rattle.record_table.specs.Listed.{slots_of}
use Rattle.record_table.specs.Making.{IsHeld}
use Rattle.record_table.specs.Tagged.{cells_tagged}
use Rattle.record_table.proofs.TaggedCosts.{object-of_stamp}
use Rattle.views.specs.Below.{cells_below, cells_of_base, object_cells}

-- as many octets at most as so many cells have
abbrev pub ReadsAtMost : ℕ → Option ℕ → Option ℕ → Type 0
ReadsAtMost cells before after = Becomes (RisesAtMost (cell_size * cells)) before after

pub object-read : (store : Held) (side : Side) (chip : Chip) (db : Database) (stamp : ℕ) (a b : Option ℕ) → IsHeld store side chip db
    → IfSome (slots_of store side chip) (λ slots. ReadsAtMost (cells_tagged object_kind (Some (Stamp stamp)) slots) a b) → ReadsAtMost (object_cells db.objects stamp) a b
object-read store side chip db stamp a b held read = λ after told.
    let here = subst (λ (o : Option Slots). IfSome o (λ slots. ReadsAtMost (cells_tagged object_kind (Some (Stamp stamp)) slots) a b)) held.told read in
    let own = here after told in
    (own.0, own.1, omega (arith, own.2, object-of_stamp stamp held.slots db held.holds))

-- an object alone
pub below-first : (n : ℕ) (objects : List Object) (stamp : ℕ) (a b : Option ℕ) → ReadsAtMost (object_cells objects stamp) a b → ReadsAtMost (cells_below (suc n) objects stamp) a b
below-first n objects stamp a b read = λ after told. let own = read after told in (own.0, own.1, omega (arith, own.2))

-- and with it those under a view
pub below-both : (n : ℕ) (objects : List Object) (stamp : ℕ) (o : Object) (base : ℕ) (columns : Columns) (conditions : List Condition) (a b c : Option ℕ) → object_stamped objects stamp ≡ Some o → o.kind ≡ View base columns conditions
    → ReadsAtMost (object_cells objects stamp) a b → ReadsAtMost (cells_below n objects base) b c → ReadsAtMost (cells_below (suc n) objects stamp) a c
below-both n objects stamp o base columns conditions a b c at kind first under = λ after told.
    let behind = under after told in
    let own = first behind.0 behind.1 in
    let here : option_map_or (λ (o : Object). cells_of_base (cells_below n objects) o.kind) (object_stamped objects stamp) 0 ≡ cells_below n objects base = rw (at, kind) refl in
    (own.0, own.1, omega (arith, here, own.2, behind.2))
