-- The join of one object after the other: each equality is looked at where the later one of its objects is joined.
use Rattle.std.specs.Prelude.{ℕ, ◌<◌, ◌==◌, Bool, not, List, [], ◌++◌, map, Option, Some, None, nat_lt, slice_index_or, if◌then◌else◌, ◌&&◌, ◌||◌}
use Rattle.std.specs.List.{AllByRecursion, filter, filter_map, list_all}
use Rattle.std.specs.Ordering.{is_eq}
use Rattle.std.specs.Str.{bytes_eq}
use Rattle.scql_model.specs.Matching.{Values}
use Rattle.row_join.specs.declared.column.Equality.{Equality}
use Rattle.row_join.specs.declared.link.Link.{Link}
use Rattle.row_join.specs.Joins.{Combination, value_at, combinations, is_met, compare_values}

-- each equality is of two of the first `count` objects
abbrev pub AreWithin : ℕ → List Equality → Type 0
AreWithin count equalities = AllByRecursion (λ equality. (equality.left.object < count) × (equality.right.object < count)) equalities

-- an equality of two objects before this one
abbrev pub is_before : ℕ → Equality → Bool
is_before object equality = nat_lt equality.left.object object && nat_lt equality.right.object object

-- an equality of two columns of this object
abbrev pub is_own : ℕ → Equality → Bool
is_own object equality = (equality.left.object == object) && (equality.right.object == object)

-- an equality of a column of this object and one of an object before it
abbrev pub link_of : ℕ → Equality → Option Link
link_of object equality =
    if nat_lt equality.left.object object && (equality.right.object == object) then Some (record { place = equality.right.place; other = equality.left })
    else (if nat_lt equality.right.object object && (equality.left.object == object) then Some (record { place = equality.left.place; other = equality.right }) else None)

abbrev pub links_of : ℕ → List Equality → List Link
links_of object equalities = filter_map (link_of object) equalities

-- a row's value at a place
abbrev pub value_in : Values → ℕ → List ℕ
value_in row place = slice_index_or row place []

-- a row of this object meets an equality, or the equality isn't its own
abbrev pub holds_in : ℕ → Values → Equality → Bool
holds_in object row equality = not (is_own object equality) || bytes_eq (value_in row equality.left.place) (value_in row equality.right.place)

abbrev pub meets_own : ℕ → List Equality → Values → Bool
meets_own object equalities row = list_all (holds_in object row) equalities

-- a row's values in the linked columns
abbrev pub key_of : List Link → Values → Values
key_of links row = map (λ link. value_in row link.place) links

-- the values that they are to have, in the rows of the objects before
abbrev pub probe_of : List Link → Combination → Values
probe_of links rows = map (λ link. value_at rows link.other) links

-- a row has these values in the linked columns
abbrev pub has_key : List Link → Values → Values → Bool
has_key links probe row = is_eq (compare_values (key_of links row) probe)

-- a row of this object goes with the rows of the objects before
abbrev pub joins : ℕ → List Equality → Combination → Values → Bool
joins object equalities rows row = meets_own object equalities row && has_key (links_of object equalities) (probe_of (links_of object equalities) rows) row

-- a combination meets the equalities that are not of objects before this one
abbrev pub are_met_from : ℕ → List Equality → Combination → Bool
are_met_from object equalities rows = list_all (λ equality. is_before object equality || is_met rows equality) equalities

-- the combinations that begin with these rows and meet the equalities that are left
abbrev pub kept_from : ℕ → List Equality → Combination → List (List Values) → List Combination
kept_from object equalities rows tables = filter (are_met_from object equalities) (map (λ rest. rows ++ rest) (combinations tables))
