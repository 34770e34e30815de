use Rattle.table_copy.proofs.Turning.{puts-row}
use Rattle.table_copy.proofs.copying.put_row.Goals as goal

pub returns-in-Row-clause-puts : goal.returns-in-Row-clause-puts
returns-in-Row-clause-puts g c = λ d db rows copies has.
    let n = rw c.in-Row.is at has in
    puts-row g.D.CardLink.is_at d c.args.table.now c.in-Row.command c.args.step.now rows c.args.plan.now.row db c.insert.result c.insert.new.dest c.in-Row.is n
    (c.insert.ensures.inserts d db n.values copies (rw c.row_octets.ensures n.octets) n.formed)
