-- DECLARE CURSOR: which cursor it makes, or the first refusal.
use Rattle.std.proofs.Common.{◌≡◌, ℕ, true, false, List, Ok, Err, Result, refl, sym, ◌∙◌}
use Rattle.scql_base.specs.Words.{done, not_found}
use Rattle.scql_base.specs.declared.condition.Condition.{Condition}
use Rattle.scql_base.specs.declared.cursor.Place.TheVariants.{NotOpen}
use Rattle.scql_base.specs.declared.records.Object.{Object}
use Rattle.scql_base.specs.declared.words.Actor.{Actor}
use Rattle.scql_base.specs.declared.words.StatusWord.{StatusWord}
use Rattle.scql_model.specs.Contents.{Contents}
use Rattle.scql_model.specs.Database.{Database, IsValid, are_named_among}
use Rattle.scql_model.specs.Machine.{Reading}
use Rattle.scql_model.specs.Matching.{Columns}
use Rattle.scql_model.specs.Moves.{moved, moved_to}
use Rattle.scql_model.specs.Objects.{columns_of}
use Rattle.scql_model.specs.ReadingCommands.{Move, declare, named_among, wanted_of}
use Rattle.scql_model.specs.Refusals.{◌>>=◌}
use Rattle.scql_model.specs.Rights.{seen_named}
use Rattle.db_read.specs.Answered.{selectable}
use Rattle.db_read.proofs.Sighted.{asked-Ok, contents-columns, object-named, selectable-parts}

-- the cursor that is declared on an object
abbrev pub on_object : Columns → List Condition → Object → Contents → Result (Move Reading) StatusWord
on_object columns conditions o contents =
    named_among contents.columns columns conditions >>= λ _. Ok (moved_to NotOpen (record { object = o.stamp; columns = wanted_of contents.columns columns; conditions = conditions; place = NotOpen }) done)

pub declares-unnamed : (db : Database) (actor : Actor) (before : Reading) (name : List ℕ) (columns : Columns) (conditions : List Condition) (o : Object) (all : Columns) → IsValid db → selectable db actor (seen_named db actor name) ≡ Ok o
    → all ≡ columns_of o.kind → false ≡ are_named_among all columns conditions → moved db actor before (declare name columns conditions) ≡ Err not_found
declares-unnamed db actor before name columns conditions o all valid is same unnamed =
    let at = object-named db actor name o valid (selectable-parts db actor (seen_named db actor name) o is).0 in
    asked-Ok db actor (seen_named db actor name) (on_object columns conditions) o is ∙ rw (contents-columns db o.stamp o at, sym same, sym unnamed) refl

pub declares : (db : Database) (actor : Actor) (before : Reading) (name : List ℕ) (columns : Columns) (conditions : List Condition) (o : Object) (all wanted : Columns) (copied : List Condition) → IsValid db
    → selectable db actor (seen_named db actor name) ≡ Ok o → all ≡ columns_of o.kind → true ≡ are_named_among all columns conditions → wanted ≡ wanted_of all columns → copied ≡ conditions
    → moved db actor before (declare name columns conditions) ≡ Ok (moved_to NotOpen (record { object = o.stamp; columns = wanted; conditions = copied; place = NotOpen }) done)
declares db actor before name columns conditions o all wanted copied valid is same named wants copies =
    let at = object-named db actor name o valid (selectable-parts db actor (seen_named db actor name) o is).0 in
    asked-Ok db actor (seen_named db actor name) (on_object columns conditions) o is ∙ rw (wants, copies, contents-columns db o.stamp o at, sym same, sym named) refl
