-- How many records of each kind a database has, and the line that tells them.
use Rattle.std.specs.Prelude.{ℕ, List, ◌++◌, length, codes}
use Rattle.std.specs.Fmt.{decimal}
use Rattle.scql_model.specs.Database.{Database, weight}
use Rattle.card.specs.declared.counting.Counts.{Counts}

abbrev pub counts_of : Database → Counts
counts_of db = record {
  users = length db.users;
  objects = length db.objects;
  grants = length db.grants;
  rows = length db.rows;
  weight = weight db;
  cells = db.cells;
}

-- users U objects O grants G rows R cells W of N
abbrev pub counts_text : Counts → List ℕ
counts_text c =
    codes "users " ++ (decimal c.users ++ (codes " objects " ++ (decimal c.objects ++ (codes " grants " ++ (decimal c.grants
    ++ (codes " rows " ++ (decimal c.rows ++ (codes " cells " ++ (decimal c.weight ++ (codes " of " ++ (decimal c.cells ++ codes "\n")))))))))))

abbrev pub check_text : Database → List ℕ
check_text db = counts_text (counts_of db)
