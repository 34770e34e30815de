use Rattle.table_copy.proofs.Sent.{selection-sent}
use Rattle.table_copy.proofs.source.selection.Goals as goal

pub returns-clause-sendable : goal.returns-clause-sendable
returns-clause-sendable c =
    rw (c.copy.ensures, c.new.ensures, c.new-2.ensures) (selection-sent c.args.object.now (rw c.octets.ensures.octets at c.octets.ensures.name) (rw c.octets.ensures.octets at c.octets.ensures.short))
