use Rattle.std.proofs.Common.{sym, rules}
use Rattle.terminal.proofs.RowTexts.{row-next, room-next}
use Rattle.terminal.proofs.printing.put_row.Goals as goal

pub put_value-requires-clause-short : goal.put_value-requires-clause-short
put_value-requires-clause-short c =
    (room-next c.args.row.now c.loop-place.place c.in-Some.value.now c.loop-place.text.items c.put_between.new.text.items c.len-place-end.ensures.row (search rules) (sym c.in-Some.ensures.value) c.loop-place.invariant.size
    c.put_between.ensures).2

pub put_value-requires-clause-room : goal.put_value-requires-clause-room
put_value-requires-clause-room c =
    (room-next c.args.row.now c.loop-place.place c.in-Some.value.now c.loop-place.text.items c.put_between.new.text.items c.len-place-end.ensures.row (search rules) (sym c.in-Some.ensures.value) c.loop-place.invariant.size
    c.put_between.ensures).1

pub loop-place-preserved : goal.loop-place-preserved
loop-place-preserved c =
    let next = row-next c.args.row.now c.loop-place.place c.in-Some.value.now c.loop-place.text.items c.put_between.new.text.items c.put_value.new.text.items (sym c.in-Some.ensures.value) c.loop-place.invariant.text
    c.loop-place.invariant.size c.put_between.ensures c.put_value.ensures in
    record { text = next.0; size = next.1 }
