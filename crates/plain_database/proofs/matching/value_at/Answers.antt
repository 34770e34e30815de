use Rattle.std.proofs.Common.{[], sym}
use Rattle.std.proofs.lemmas.Option.{get_or_from_slice_get}
use Rattle.plain_database.proofs.AssignedRows.{narrow-at}
use Rattle.plain_database.proofs.matching.value_at.Goals as goal

pub returns-in-Some : goal.returns-in-Some
returns-in-Some c =
    let is = get_or_from_slice_get c.args.row.now c.args.place c.in-Some.value.now [] (sym c.in-Some.ensures.value) in
    record { value = sym is; short = rw (← is) (narrow-at c.args.row.now c.args.place c.len.ensures.row.widths) }
