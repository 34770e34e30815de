-- Worked copies: the definition computes each.
use Rattle.std.proofs.Common.{◌≡◌, ℕ, true, List, [], ◌∷◌, Option, Some, None, refl}
use Rattle.std.specs.Prelude.{codes}
use Rattle.scql_base.specs.declared.records.ObjectKind.TheVariants.{Table}
use Rattle.scql_base.specs.declared.records.RowRecord.{RowRecord}
use Rattle.scql_base.specs.Words.{conditions_not_satisfied, not_found}
use Rattle.scql_model.specs.Changing.{change_of, edits_of}
use Rattle.scql_model.specs.Contents.{contents_of}
use Rattle.scql_model.specs.Database.{Database, owner}
use Rattle.scql_model.specs.Machine.{Machine, Transaction, session_for}
use Rattle.scql_model.specs.Objects.{depth_of}
use Rattle.scql_model.specs.Rights.{appears, holds}
use Rattle.scql_model.specs.Shown.{shown, shown_on}
use Rattle.scql_model.specs.Writing.{row_inserted}
use Rattle.table_copy.specs.Copy.{copy, source_rows}
use Rattle.table_copy.specs.declared.copy_end.CopyEnd.TheVariants.{Copied, SourceRefused, DestRefused}

abbrev row_of : ℕ → List (List ℕ) → RowRecord
row_of stamp values = record { stamp = stamp; table = 2; row = values }

-- OWNER's card with table T of the columns A and B, and these rows
abbrev card_with : ℕ → List RowRecord → Database
card_with next rows = record { cells = 64; limit = 240; next = next; users = owner ∷ []; objects = record { stamp = 2; name = codes "T"; owner = 1; kind = Table (codes "A" ∷ codes "B" ∷ []) } ∷ []; grants = []; rows = rows }

-- OWNER is presented on it
abbrev opened : Database → Option Transaction → Machine
opened db transaction = record { committed = db; transaction = transaction; sessions = Some (session_for (Some (record { stamp = 1; proved = true }))) ∷ None ∷ None ∷ None ∷ [] }

abbrev source : Machine
source = opened (card_with 9 (row_of 5 (codes "1" ∷ codes "x" ∷ []) ∷ row_of 7 (codes "2" ∷ [] ∷ []) ∷ [])) None

abbrev dest : Machine
dest = opened (card_with 3 []) None

-- both rows, in their order
two_rows : copy source dest (codes "T") (codes "T") ≡ record { ends = Copied 2; commits = card_with 5 (row_of 3 (codes "1" ∷ codes "x" ∷ []) ∷ row_of 4 (codes "2" ∷ [] ∷ []) ∷ []) ∷ [] }
unfolding copy source_rows shown_on shown change_of edits_of row_inserted holds appears contents_of depth_of
two_rows = refl

-- an object that isn't there, and a table that isn't there
no_object : copy source dest (codes "Z") (codes "T") ≡ record { ends = SourceRefused not_found; commits = [] }
unfolding copy source_rows shown_on shown change_of edits_of row_inserted holds appears contents_of depth_of
no_object = refl

no_table : copy source dest (codes "T") (codes "Z") ≡ record { ends = DestRefused not_found; commits = [] }
unfolding copy source_rows shown_on shown change_of edits_of row_inserted holds appears contents_of depth_of
no_table = refl

-- with no rows nothing of the table is looked at
no_rows : copy dest dest (codes "T") (codes "Z") ≡ record { ends = Copied 0; commits = card_with 3 [] ∷ [] }
unfolding copy source_rows shown_on shown change_of edits_of row_inserted holds appears contents_of depth_of
no_rows = refl

-- a transaction is open already
busy : copy source (opened (card_with 3 []) (Some (record { channel = 1; working = card_with 3 []; touched = [] }))) (codes "T") (codes "T") ≡ record { ends = DestRefused conditions_not_satisfied; commits = [] }
unfolding copy source_rows shown_on shown change_of edits_of row_inserted holds appears contents_of depth_of
busy = refl
