-- A table or a view is resolved.
use Rattle.std.proofs.Common.{Option, Some, None, sym, ◌∙◌}
use Rattle.std.specs.Prelude.{IfSome, option_copied}
use Rattle.scql_base.specs.declared.records.RowRecord.{RowRecord}
use Rattle.scql_model.specs.Database.{Database}
use Rattle.scql_model.specs.Matching.{Columns}
use Rattle.scql_model.specs.Resolving.{Resolved}
use Rattle.plain_database.specs.Sought.{IsRowOf, IsShownRow}
use Rattle.plain_database.proofs.Reached.{is_resolved}
use Rattle.plain_database.proofs.valid.ValidDatabase.record_at.Goals as goal

pub returns-in_err-resolved-clause-at : goal.returns-in_err-resolved-clause-at
returns-in_err-resolved-clause-at c =
    absurd (is_resolved c.args.self.now c.args.cursor.now.object c.requires.there.0 c.database-valid.ensures.valid c.requires.there.1 c.requires.there.2 (sym c.resolved.ensures ∙ c.in_err-resolved.was))

-- a row that is shown is one of the database
shown-among : (db : Database) (r : Resolved) (wanted : Columns) (found : Option RowRecord) → IfSome found (IsShownRow db r wanted) → IfSome found (IsRowOf db)
shown-among db r wanted None row = tt
shown-among db r wanted (Some s) row = row.among

pub returns-clause-among : goal.returns-clause-among
returns-clause-among c = shown-among c.args.self.now c.in_ok-resolved.resolved c.args.cursor.now.columns (option_copied c.find_record.result) c.find_record.ensures.row
