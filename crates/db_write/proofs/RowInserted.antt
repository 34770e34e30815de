-- INSERT: which row it makes, or the first refusal.
use Rattle.std.proofs.Common.{◌≡◌, ℕ, true, false, List, length, Some, None, Ok, Err, refl, sym}
use Rattle.std.proofs.lemmas.Bool.{eq-eqb, le-leb, ltb-false, ne_eqb}
use Rattle.scql_base.specs.Row.{row_size}
use Rattle.scql_base.specs.Words.{not_found, security_not_satisfied, wrong_data}
use Rattle.scql_base.specs.declared.operation.Operation.TheVariants.{Insert}
use Rattle.scql_base.specs.declared.records.Object.{Object}
use Rattle.scql_base.specs.declared.words.Actor.{Actor}
use Rattle.scql_model.specs.Database.{Database, IsValid, is_table, weight}
use Rattle.scql_model.specs.Edits.{Edit, applied, making}
use Rattle.scql_model.specs.Matching.{Values}
use Rattle.scql_model.specs.Objects.{columns_of}
use Rattle.scql_model.specs.Records.{of_row}
use Rattle.scql_model.specs.Rights.{holds, insert_privilege, seen_named}
use Rattle.scql_model.specs.WellFormed.{FitsCard, HasForm}
use Rattle.scql_model.specs.Writing.{row_inserted}
use Rattle.scql_model.proofs.ChangeLaws.{AreMade-with_edits}
use Rattle.scql_model.proofs.KeepsRows.{inserted-keeps}
use Rattle.record_table.specs.Making.{IsValidWith}

pub inserts-none : (db : Database) (actor : Actor) (name : List ℕ) (values : Values) → None ≡ seen_named db actor name → row_inserted db actor name values ≡ Err not_found
unfolding row_inserted
inserts-none db actor name values seen = rw (sym seen) refl

pub inserts-other : (db : Database) (actor : Actor) (name : List ℕ) (values : Values) (o : Object) → Some o ≡ seen_named db actor name → is_table o.kind ≡ false → row_inserted db actor name values ≡ Err not_found
unfolding row_inserted
inserts-other db actor name values o seen other = rw (sym seen, other) refl

pub inserts-foreign : (db : Database) (actor : Actor) (name : List ℕ) (values : Values) (o : Object) → Some o ≡ seen_named db actor name → is_table o.kind ≡ true → holds db actor o insert_privilege ≡ false
    → row_inserted db actor name values ≡ Err security_not_satisfied
unfolding row_inserted
inserts-foreign db actor name values o seen table foreign = rw (sym seen, table, foreign) refl

pub inserts-misfit : (db : Database) (actor : Actor) (name : List ℕ) (values : Values) (o : Object) → Some o ≡ seen_named db actor name → is_table o.kind ≡ true → holds db actor o insert_privilege ≡ true
    → (length values ≡ length (columns_of o.kind) → ⊥) → row_inserted db actor name values ≡ Err wrong_data
unfolding row_inserted
inserts-misfit db actor name values o seen table may misfit = rw (sym seen, table, may, ne_eqb (length values) (length (columns_of o.kind)) misfit) refl

-- nothing refuses it but want of room
pub inserts : (db : Database) (actor : Actor) (name : List ℕ) (values : Values) (o : Object) → Some o ≡ seen_named db actor name → is_table o.kind ≡ true → holds db actor o insert_privilege ≡ true
    → length values ≡ length (columns_of o.kind) → row_inserted db actor name values ≡ Ok (making db (of_row (record { stamp = db.next; table = o.stamp; row = values })))
unfolding row_inserted
inserts db actor name values o seen table may fits = rw (sym seen, table, may, eq-eqb (length values) (length (columns_of o.kind)) fits) refl

-- the database with the row is valid, where there is room
pub valid-inserted : (db : Database) (actor : Actor) (name : List ℕ) (values : Values) (edits : List Edit) → IsValid db → HasForm (Insert name values) → FitsCard db.limit (Insert name values)
    → row_inserted db actor name values ≡ Ok edits → IsValidWith db edits
valid-inserted db actor name values edits valid form fits is = λ room.
    let new = applied db edits in
    let made = AreMade-with_edits db edits new (rw room refl) in
    (inserted-keeps db actor name values valid form.1 (le-leb (row_size values) db.limit fits)).each edits is (record { stamps_left = made.stamps_left; room = ltb-false new.cells (weight new) made.room })
