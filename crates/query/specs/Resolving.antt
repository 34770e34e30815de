-- What the names of a line stand for, each looked up in the line's order. The first that stands for nothing is at fault.
use Rattle.std.specs.Prelude.{ℕ, nat_lt, Bool, List, [], ◌∷◌, ◌++◌, length, map, Option, Some, None, Result, Ok, Err, slice_index_or, slice_set, if◌then◌else◌}
use Rattle.std.specs.List.{list_any, position}
use Rattle.std.specs.Str.{bytes_eq}
use Rattle.scql_base.specs.declared.name_list.TheConstants.NameList.{MOST}
use Rattle.row_join.specs.declared.column.Column.{Column}
use Rattle.row_join.specs.declared.column.Equality.{Equality}
use Rattle.query.specs.declared.query.AskedObject.{AskedObject}
use Rattle.query.specs.declared.written.Named.{Named}
use Rattle.query.specs.declared.written.Source.{Source}
use Rattle.query.specs.declared.written.Pair.{Pair}
use Rattle.query.specs.declared.written.NameFault.{NameFault}
use Rattle.query.specs.Asked.{Asked}
use Rattle.query.specs.Written.{Written}

-- Names are looked up with FROM's objects, each with the different columns that the line names of it before; more columns may come to these.
abbrev pub Resolving : Type 0 → Type 0
Resolving A = List AskedObject → Result (A × List AskedObject) NameFault

abbrev pub gives : {A : Type 0} → A → Resolving A
gives x = λ objects. Ok (x, objects)

abbrev pub continued : {A B : Type 0} → (A → Resolving B) → Result (A × List AskedObject) NameFault → Result (B × List AskedObject) NameFault
continued reads (Err fault) = Err fault
continued reads (Ok found) = reads found.0 found.1

infixl 10 ◌>>=◌
abbrev pub ◌>>=◌ : {A B : Type 0} → Resolving A → (A → Resolving B) → Resolving B
first >>= second = λ objects. continued second (first objects)

-- one thing after the other, behind those that are found
unfoldable pub in_turn : {A B : Type 0} → (A → Resolving B) → List B → List A → Resolving (List B)
in_turn resolve found [] = gives found
in_turn resolve found (x ∷ rest) = resolve x >>= λ y. in_turn resolve (found ++ y ∷ []) rest

-- the place of a name among names: the last one, where it is new and there is room
abbrev pub place_or_last : List ℕ → List (List ℕ) → Option ℕ → Option (ℕ × List (List ℕ))
place_or_last name names (Some place) = Some (place, names)
place_or_last name names None = if nat_lt (length names) MOST then Some (length names, names ++ name ∷ []) else None

abbrev pub placed : List ℕ → List (List ℕ) → Option (ℕ × List (List ℕ))
placed name names = place_or_last name names (position (bytes_eq name) names)

-- the object of this name
abbrev pub is_of : List ℕ → AskedObject → Bool
is_of name asked = bytes_eq asked.object name

abbrev pub object_at : List AskedObject → ℕ → AskedObject
object_at objects object = slice_index_or objects object (record { object = []; columns = [] })

-- the object's columns, and among them the column's place
abbrev pub with_place : ℕ → Named → List AskedObject → Option (ℕ × List (List ℕ)) → Result (Column × List AskedObject) NameFault
with_place object named objects None = Err (record { left = named.left })
with_place object named objects (Some found) =
    Ok (record { object = object; place = found.0 }, slice_set objects object (record { object = (object_at objects object).object; columns = found.1 }))

abbrev pub with_object : Named → List AskedObject → Option ℕ → Result (Column × List AskedObject) NameFault
with_object named objects None = Err (record { left = named.left })
with_object named objects (Some object) = with_place object named objects (placed named.column (object_at objects object).columns)

-- A column's object has to be one of FROM's, and a 16th different column of one object is at fault.
unfoldable pub column : Named → Resolving Column
column named = λ objects. with_object named objects (position (is_of named.object) objects)

unfoldable pub equality : Pair → Resolving Equality
equality pair = do
  left ← column pair.first
  right ← column pair.second
  gives (record { left = left; right = right })

-- No name stands in FROM twice.
abbrev pub has_source : List ℕ → List Source → Bool
has_source name sources = list_any (λ source. bytes_eq source.object name) sources

unfoldable pub repeated : List Source → List Source → Option NameFault
repeated before [] = None
repeated before (source ∷ rest) = if has_source source.object before then Some (record { left = source.left }) else repeated (before ++ source ∷ []) rest

abbrev pub or_fault : Option NameFault → Resolving (Unit {0})
or_fault None = gives tt
or_fault (Some fault) = λ objects. Err fault

-- what is asked in the end, of the objects as they are then
abbrev pub asked : List Column → List Equality → List Column → Resolving Asked
asked selected equalities order = λ objects. Ok (record { objects = objects; selected = selected; equalities = equalities; order = order }, objects)

-- all names of a line in its order: SELECT's columns, FROM's objects, WHERE's columns, ORDER BY's
unfoldable pub names : Written → Resolving Asked
names written = do
  selected ← in_turn column [] written.selected
  _ ← or_fault (repeated [] written.sources)
  equalities ← in_turn equality [] written.pairs
  order ← in_turn column [] written.order
  asked selected equalities order

-- no column of an object is named yet
abbrev pub unnamed : Source → AskedObject
unnamed source = record { object = source.object; columns = [] }

abbrev pub resolved : Written → Result (Asked × List AskedObject) NameFault
resolved written = names written (map unnamed written.sources)
