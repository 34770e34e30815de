-- What a join gives, and how it is extended object by object.
use Rattle.std.specs.Prelude.{◌≡◌, ℕ, ◌<◌, ◌≤◌, List, [], length, Option, Some, None, Result, IsErrOf, OnOk, nat_lt, slice_index_or, take, drop, if◌then◌else◌}
use Rattle.scql_model.specs.Matching.{Values}
use Rattle.row_join.specs.declared.column.Equality.{Equality}
use Rattle.row_join.specs.declared.combination.Combination.{Combination as Places}
use Rattle.row_join.specs.declared.index.Index.{Index}
use Rattle.row_join.specs.declared.join.Joined.{Joined}
use Rattle.row_join.specs.declared.join.Joined.TheVariants.{Kept, TooMany}
use Rattle.row_join.specs.declared.join.Stop.{Stop}
use Rattle.row_join.specs.declared.join.Stop.TheVariants as stops
use Rattle.row_join.specs.declared.join.TheConstants.{MOST_KEPT}
use Rattle.row_join.specs.Joins.{Combination, kept}
use Rattle.row_join.specs.Links.{AreWithin, kept_from}
use Rattle.row_join.specs.Places.{IsIndex, all_rows, rows_of}

-- Tables may be joined by these equalities.
pub record MayJoin (equalities : List Equality) (tables : List (List Values)) : Type 0 where
  -- They are at most three,
  pub few : length tables ≤ 3
  -- and each equality is of two of them.
  pub within : AreWithin (length tables) equalities

-- the combinations that are kept, unless they are too many
abbrev pub joined : List Equality → List (List Values) → Option (List Combination)
joined equalities tables = if nat_lt MOST_KEPT (length (kept equalities tables)) then None else Some (kept equalities tables)

-- the rows that an answer stands for
abbrev pub rows_joined : List (List Values) → Joined → Option (List Combination)
rows_joined tables (Kept combinations) = Some (all_rows tables combinations.items)
rows_joined tables TooMany = None

-- the combinations that are kept and have, in the objects before this one, the rows at these places
abbrev pub kept_after : ℕ → List Equality → List (List Values) → List ℕ → List Combination
kept_after object equalities tables places = kept_from object equalities (rows_of (take object tables) places) (drop object tables)

-- each object has its index
pub record AreIndexes (equalities : List Equality) (tables : List (List Values)) (indexes : List Index) : Type 0 where
  pub count : length indexes ≡ length tables
  pub each : (object : ℕ) (none : Index) → object < length indexes
      → IsIndex object equalities (slice_index_or tables object []) (slice_index_or indexes object none).links.items (slice_index_or indexes object none).places.items

-- A combination of the objects before this one may be extended, with these indexes of the objects, beside those that are kept.
pub record MayExtend (equalities : List Equality) (tables : List (List Values)) (those : List Index) (this : ℕ) (kept : List Places) : Type 0 where
  -- The tables are at most three,
  pub few : length tables ≤ 3
  -- each equality is of two of them,
  pub within : AreWithin (length tables) equalities
  -- and each has its index.
  pub indexes : AreIndexes equalities tables those
  -- There is this object, or all were joined.
  pub object : this ≤ length tables
  -- No more are kept than may be.
  pub room : length kept ≤ MOST_KEPT

-- Combinations were to be added to those that are kept.
pub record Keeps (result : Result (Unit {0}) Stop) (now : List Places) (all over : Type 0) : Type 0 where
  -- They are all kept,
  pub kept : OnOk result all
  -- and no more than may be;
  pub few : OnOk result (length now ≤ MOST_KEPT)
  -- or they would be too many.
  pub many : IsErrOf result stops.TooMany → over
