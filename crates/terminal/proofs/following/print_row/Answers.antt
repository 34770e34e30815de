use Rattle.terminal.proofs.following.print_row.Goals as goal

pub returns : goal.returns
returns g c = rw (c.as_slice.ensures.value, c.put_row_text.ensures c.args.plan.now.row c.row.ensures) at c.give.ensures
