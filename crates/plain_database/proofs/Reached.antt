-- What a cursor is over, and the table of a row.
use Rattle.std.proofs.Common.{◌≡◌, ℕ, true, false, length, Option, Some, None, refl, sym, subst, ◌∙◌}
use Rattle.std.specs.Prelude.{◌==◌, ◌&&◌, nat_lt, if◌then◌else◌}
use Rattle.std.specs.List.{find}
use Rattle.std.specs.Option.{option_map_or}
use Rattle.std.proofs.lemmas.Bool.{and_parts, eqb-true, false≢true}
use Rattle.std.proofs.lemmas.Option.{none-some, same_Some}
use Rattle.scql_base.specs.declared.records.Object.{Object}
use Rattle.scql_base.specs.declared.records.ObjectKind.{ObjectKind}
use Rattle.scql_base.specs.declared.records.ObjectKind.TheVariants.{Table, View, Dictionary}
use Rattle.scql_base.specs.declared.records.RowRecord.{RowRecord}
use Rattle.scql_model.specs.Database.{Database, IsValid, is_table, object_stamped}
use Rattle.scql_model.specs.Defining.{is_table_or_view}
use Rattle.scql_model.specs.Objects.{columns_of}
use Rattle.scql_model.specs.Resolving.{resolved_of}
use Rattle.scql_model.specs.Rules.{fits_table, has_table}
use Rattle.scql_model.specs.Writing.{columns_of_row}
use Rattle.scql_model.proofs.KnownNames.{resolved-valid}
use Rattle.scql_model.proofs.LongerLists.{find-all, find-passes}

-- a table or a view is resolved
pub is_resolved : (db : Database) (stamp : ℕ) (o : Object) → IsValid db → object_stamped db.objects stamp ≡ Some o → is_table_or_view o.kind ≡ true → resolved_of db.objects stamp ≡ None → ⊥
is_resolved db stamp o valid found kind none =
    let same : o.stamp ≡ stamp = eqb-true o.stamp stamp (find-passes (λ (p : Object). p.stamp == stamp) db.objects o found) in
    let there = resolved-valid db o valid (subst (λ n. object_stamped db.objects n ≡ Some o) (sym same) found) kind in
    none-some there.0 (sym none ∙ subst (λ n. resolved_of db.objects n ≡ Some there.0) same there.1)

-- the table of a row
pub record HasTable (db : Database) (r : RowRecord) : Type 0 where
  pub table : Object
  pub there : object_stamped db.objects r.table ≡ Some table
  pub is : is_table table.kind ≡ true
  pub many : length (columns_of table.kind) ≡ length r.row

pub has_its_table : (db : Database) (r : RowRecord) → IsValid db → find (λ (s : RowRecord). s.stamp == r.stamp) db.rows ≡ Some r → HasTable db r
has_its_table db r valid found = go (object_stamped db.objects r.table) refl (find-all (has_table db.objects) (λ (s : RowRecord). s.stamp == r.stamp) db.rows r valid.rows.tables found)
  where
    go : (table : Option Object) → object_stamped db.objects r.table ≡ table → option_map_or (fits_table r) table false ≡ true → HasTable db r
    go None is fits = absurd (false≢true fits)
    go (Some o) is fits =
        let whole = and_parts (is_table o.kind && nat_lt o.stamp r.stamp) (length (columns_of o.kind) == length r.row) fits in
        let parts = and_parts (is_table o.kind) (nat_lt o.stamp r.stamp) whole.0 in
        record { table = o; there = is; is = parts.0; many = eqb-true (length (columns_of o.kind)) (length r.row) whole.1 }

-- it has the columns of the row
pub own-columns : (db : Database) (r : RowRecord) (o : Object) → HasTable db r → Some o ≡ object_stamped db.objects r.table
    → (if is_table_or_view o.kind then Some (columns_of o.kind) else None) ≡ Some (columns_of_row db r)
own-columns db r o has found = rw (← found) (stored o.kind (subst (λ (p : Object). is_table p.kind ≡ true) (same_Some has.table o (sym (found ∙ has.there))) has.is))
  where
    stored : (kind : ObjectKind) → is_table kind ≡ true → (if is_table_or_view kind then Some (columns_of kind) else None) ≡ Some (columns_of kind)
    stored (Table columns) is = refl
    stored (View base columns conditions) is = refl
    stored (Dictionary subject) is = absurd (false≢true is)
