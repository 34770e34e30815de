-- The grammar of a query.
use Rattle.std.specs.Prelude.{ℕ, List, [], ◌∷◌, ◌++◌, Some, if◌then◌else◌, codes}
use Rattle.script.specs.Reading.{left_of, is_end, Rule, gives, fault, ◌>>=◌, after, the, listed}
use Rattle.script.specs.Grammar.{name}
use Rattle.query.specs.declared.query.TheConstants.Query.{MOST_COLUMNS, MOST_EQUALITIES}
use Rattle.query.specs.declared.written.Named.{Named}
use Rattle.query.specs.declared.written.Source.{Source}
use Rattle.query.specs.declared.written.Pair.{Pair}
use Rattle.query.specs.Written.{Written}

-- how many octets of the line there are from here on
unfoldable pub here : Rule ℕ
here = λ tokens. (Some (left_of tokens), tokens)

-- name . name
unfoldable pub named : Rule Named
named = do
  left ← here
  object ← name
  _ ← the (codes ".")
  column ← name
  gives (record { object = object; column = column; left = left })

-- col {, col}
unfoldable pub with_named : List Named → Rule (List Named)
with_named columns = do
  column ← named
  gives (columns ++ column ∷ [])

unfoldable pub columns : Rule (List Named)
columns = listed MOST_COLUMNS (codes ",") with_named []

-- name , name [, name]
unfoldable pub source : Rule Source
source = do
  left ← here
  object ← name
  gives (record { object = object; left = left })

unfoldable pub sources : Rule (List Source)
sources = do
  first ← source
  _ ← the (codes ",")
  second ← source
  after (codes ",") (source >>= λ third. gives (first ∷ second ∷ third ∷ [])) (gives (first ∷ second ∷ []))

-- [WHERE col = col {AND col = col}]
unfoldable pub with_pair : List Pair → Rule (List Pair)
with_pair pairs = do
  first ← named
  _ ← the (codes "=")
  second ← named
  gives (pairs ++ record { first = first; second = second } ∷ [])

unfoldable pub pairs : Rule (List Pair)
pairs = listed MOST_EQUALITIES (codes "AND") with_pair []

unfoldable pub where_pairs : Rule (List Pair)
where_pairs = after (codes "WHERE") pairs (gives [])

-- [ORDER BY col {, col}]
unfoldable pub order_by : Rule (List Named)
order_by = after (codes "ORDER") (the (codes "BY") >>= λ _. columns) (gives [])

-- SELECT cols FROM objects [WHERE equalities] [ORDER BY cols]
unfoldable pub query : Rule Written
query = do
  _ ← the (codes "SELECT")
  selected ← columns
  _ ← the (codes "FROM")
  sources ← sources
  pairs ← where_pairs
  order ← order_by
  gives (record { selected = selected; sources = sources; pairs = pairs; order = order })

-- One ; may end a query.
unfoldable pub at_end : Written → Rule Written
at_end written = λ tokens. if is_end tokens then gives written tokens else fault tokens

unfoldable pub whole : Rule Written
whole = query >>= λ written. after (codes ";") (at_end written) (at_end written)
