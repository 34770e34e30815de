use Rattle.std.proofs.Common.{sym}
use Rattle.row_join.proofs.Rows.{got-at, narrow-at}
use Rattle.row_join.proofs.values.value_among.Goals as goal

pub returns-in-Some : goal.returns-in-Some
returns-in-Some c = record {
  value = got-at c.args.row.now c.args.place c.in-Some.value.now (sym c.in-Some.ensures.value);
  short = narrow-at c.args.row.now c.args.place c.in-Some.value.now c.len.ensures.row.widths (sym c.in-Some.ensures.value);
}
