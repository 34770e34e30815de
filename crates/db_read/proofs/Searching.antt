-- What the searches for an object read, in cells of a database that the store holds.
use Rattle.std.proofs.Common.{◌≡◌, ℕ, ◌+◌, List, Option, Some, Result, Err, sym, subst, arith}
use Rattle.std.specs.Prelude.{IfSome}
use Rattle.eeprom.specs.Chip.{Chip}
use Rattle.record_store.specs.Held.{Held}
use Rattle.record_store.specs.Tags.{name_tag}
use Rattle.record_store.specs.declared.side.Side.{Side}
use Rattle.record_store.specs.declared.tags.Tag.TheVariants.{Name}
use Rattle.scql_base.specs.declared.records.Object.{Object}
use Rattle.scql_base.specs.declared.words.Actor.{Actor}
use Rattle.scql_base.specs.declared.words.StatusWord.{StatusWord}
use Rattle.scql_model.specs.Creating.{actor_stamp}
use Rattle.scql_model.specs.Database.{Database}
use Rattle.catalog_codec.specs.Catalog.{object_kind}
use Rattle.privilege_table.specs.Granted.{cells_granted}
use Rattle.privilege_table.proofs.Seen.{told-held}
use Rattle.record_table.specs.Listed.{slots_of}
use Rattle.record_table.specs.Making.{IsHeld}
use Rattle.record_table.specs.Tagged.{cells_tagged}
use Rattle.record_table.specs.declared.stop.Stop.{Stop}
use Rattle.record_table.specs.declared.stop.Stop.TheVariants.{Refused}
use Rattle.record_table.proofs.TaggedCosts.{grants-of_pair, objects-of_name}
use Rattle.views.proofs.Below.{ReadsAtMost}
use Rattle.db_read.specs.Answered.{WhereRead}
use Rattle.db_read.specs.Searched.{objects_alike, rights_cells}

module _ (store : Held) (side : Side) (chip : Chip) (db : Database) (held : IsHeld store side chip db) where
  pub named-read : (name : List ℕ) (a b : Option ℕ) → IfSome (slots_of store side chip) (λ slots. ReadsAtMost (cells_tagged object_kind (Some (Name (name_tag name))) slots) a b) → ReadsAtMost (objects_alike db.objects name) a b
  named-read name a b read = λ after told.
      let own = told-held store side chip db (λ slots. ReadsAtMost (cells_tagged object_kind (Some (Name (name_tag name))) slots) a b) held read after told in
      (own.0, own.1, omega (arith, own.2, objects-of_name name held.slots db held.holds))

  pub rights-read : (actor : Actor) (o : Object) (a b : Option ℕ) → IfSome (slots_of store side chip) (λ slots. ReadsAtMost (cells_granted o.stamp (actor_stamp actor) slots) a b) → ReadsAtMost (rights_cells db actor (Some o)) a b
  rights-read actor o a b read = λ after told.
      let own = told-held store side chip db (λ slots. ReadsAtMost (cells_granted o.stamp (actor_stamp actor) slots) a b) held read after told in
      (own.0, own.1, omega (arith, own.2, grants-of_pair o.stamp 0 held.slots db held.holds, grants-of_pair o.stamp (actor_stamp actor) held.slots db held.holds))

-- one search behind another
pub reads-then : (first second : ℕ) (a b c : Option ℕ) → ReadsAtMost first a b → ReadsAtMost second b c → ReadsAtMost (first + second) a c
reads-then first second a b c one two = λ after told.
    let behind = two after told in
    let before = one behind.0 behind.1 in
    (before.0, before.1, omega (arith, behind.2, before.2))

-- what is said of a refusal
pub where-refused : {T : Type 0} (word : StatusWord) (said : Type 0) (result : Result T Stop) → result ≡ Err (Refused word) → said → WhereRead result said
where-refused {T} word said result is holds = subst (λ (r : Result T Stop). WhereRead r said) (sym is) holds
