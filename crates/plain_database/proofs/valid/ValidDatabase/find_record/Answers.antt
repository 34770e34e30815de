-- The row is sought in the table, and is there.
use Rattle.std.proofs.Common.{◌≡◌, ◌≤◌, Option, Some, None, ◌∙◌}
use Rattle.std.specs.Prelude.{IfSome, option_copied}
use Rattle.std.specs.List.{find}
use Rattle.scql_base.specs.Row.{row_size}
use Rattle.scql_base.specs.declared.row.TheConstants.Row.{LARGEST}
use Rattle.scql_base.specs.declared.records.RowRecord.{RowRecord}
use Rattle.scql_model.specs.Contents.{cut_to}
use Rattle.scql_model.specs.Database.{Database}
use Rattle.scql_model.specs.Matching.{Columns}
use Rattle.scql_model.specs.Resolving.{Resolved}
use Rattle.plain_database.specs.Sought.{IsRowOf, IsShownRow, is_sought}
use Rattle.plain_database.proofs.CutRows.{sought-within}
use Rattle.plain_database.proofs.SoughtRows.{find-admitted, found-among, found-in_table, sought-through}
use Rattle.plain_database.proofs.valid.ValidDatabase.find_record.Goals.{After-find_among}
use Rattle.plain_database.proofs.valid.ValidDatabase.find_record.Goals as goal

-- the first of those that are admitted is the first that is sought
is-sought : (c : After-find_among) → option_copied c.find_among.result ≡ find (is_sought c.args.resolved.now c.args.cursor.now.conditions c.args.sought) c.args.self.now.rows
is-sought c =
    c.find_among.ensures
    ∙ (rw (c.admitted.ensures, c.rows.ensures, c.database.ensures.same, c.as_slice.ensures.conditions) (find-admitted c.args.resolved.now c.args.cursor.now.conditions c.args.sought c.args.self.now.rows))

pub returns-clause-shown : goal.returns-clause-shown
returns-clause-shown c =
    rw (is-sought (goal.at.returns-clause-shown c).After-find_among)
    (sought-through c.args.self.now c.args.cursor.now c.args.resolved.now c.args.sought c.database.ensures.valid c.requires.cursor c.requires.resolved)

-- what is known of a row that was found
shown-row : (db : Database) (r : Resolved) (wanted : Columns) (found : Option RowRecord) → IfSome found (IsRowOf db) → IfSome found (λ s. s.table ≡ r.table) → IfSome found (λ s. row_size (cut_to r.all wanted s.row) ≤ LARGEST)
    → IfSome found (IsShownRow db r wanted)
shown-row db r wanted None among table fits = tt
shown-row db r wanted (Some s) among table fits = record { among = among; table = table; fits = fits }

pub returns-clause-row : goal.returns-clause-row
returns-clause-row c =
    let test = is_sought c.args.resolved.now c.args.cursor.now.conditions c.args.sought in
    rw (is-sought (goal.at.returns-clause-row c).After-find_among)
    (shown-row c.args.self.now c.args.resolved.now c.args.cursor.now.columns (find test c.args.self.now.rows)
    (found-among (λ (r : RowRecord). r.stamp) test c.args.self.now.rows c.database.ensures.valid.rows.rises)
    (found-in_table c.args.resolved.now c.args.cursor.now.conditions c.args.sought c.args.self.now.rows)
    (sought-within c.args.self.now c.args.cursor.now c.args.resolved.now c.args.sought c.database.ensures.valid c.requires.cursor c.requires.resolved))
