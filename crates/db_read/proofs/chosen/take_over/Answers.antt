-- The octets of a row are read as that row.
use Rattle.std.proofs.Common.{sym, ◌∙◌}
use Rattle.std.proofs.lemmas.Bool.{false≢true}
use Rattle.db_read.proofs.CutRows.{taken}
use Rattle.db_read.proofs.chosen.take_over.Goals as goal

pub prove-unreachable-requires-2 : goal.prove-unreachable-requires-2
prove-unreachable-requires-2 c =
    absurd (false≢true (sym c.if-prove-2.true ∙ (c.is_some-taken.ensures ∙ (taken c.read_into.result c.read_into.new.self c.args.row.now _ c.len.ensures.row c.octets.ensures c.read_into.ensures).0)))

pub returns : goal.returns
returns c = (taken c.read_into.result c.read_into.new.self c.args.row.now _ c.len.ensures.row c.octets.ensures c.read_into.ensures).1
