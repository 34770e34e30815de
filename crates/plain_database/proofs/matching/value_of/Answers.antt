use Rattle.std.proofs.Common.{sym, ◌∙◌, arith}
use Rattle.scql_model.proofs.CutRows.{value-placed}
use Rattle.plain_database.proofs.ValuesPlaced.{value-nowhere}
use Rattle.plain_database.proofs.matching.value_of.Goals as goal

pub returns-in-Some : goal.returns-in-Some
returns-in-Some c = record {
  value = c.value_at.ensures.value ∙ value-placed c.args.columns.now c.args.row.now c.args.column.now c.in-Some.place (sym c.in-Some.ensures);
  short = c.value_at.ensures.short;
}

pub returns-in-None : goal.returns-in-None
returns-in-None c = record { value = value-nowhere c.args.columns.now c.args.row.now c.args.column.now (sym c.in-None.ensures); short = omega arith }
