use Rattle.std.proofs.Common.{◌∙◌, arith}
use Rattle.journal.proofs.Pushed.{taken-more}
use Rattle.journal.proofs.octets.push_entries.Goals as goal

pub loop-index-preserved : goal.loop-index-preserved
loop-index-preserved c = record {
  taken = c.push.ensures.items ∙ taken-more c.args.octets.now c.args.entries.now.items c.loop-index.entries.items c.loop-index.index c.entry_at.result c.loop-index.invariant.taken c.entry_at.ensures.slot c.entry_at.ensures.first;
  count = omega (arith, c.push.ensures.len);
}
