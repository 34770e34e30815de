-- All values in their order are the row.
use Rattle.std.proofs.Common.{sym, ◌∙◌}
use Rattle.db_read.proofs.chosen.cut_into.Goals as goal

pub returns-then-are_all : goal.returns-then-are_all
returns-then-are_all c = λ row.
    let all = c.are_all.ensures c.if-are_all.true c.args.row.now (sym c.len.ensures.count) in
    c.take_over.ensures ∙ sym (rw c.as_slice.ensures.value at all)
