-- An entry more.
use Rattle.std.proofs.Common.{ap, ◌∙◌}
use Rattle.eeprom.specs.declared.entry.Entry.{Entry}
use Rattle.plain_image.proofs.JournalEntries.{entries_at-pushed}
use Rattle.plain_image.proofs.journal.entries_at.Goals as goal

pub loop-index-preserved : goal.loop-index-preserved
loop-index-preserved c = record {
  entries = c.in_ok-push.ensures.items
      ∙ entries_at-pushed c.args.octets.now c.args.place c.loop-index.index c.loop-index.entries.items c.entry_at.result c.loop-index.invariant.entries (ap (λ (e : Entry). e.slot) c.entry_at.ensures) (ap (λ (e : Entry). e.first) c.entry_at.ensures);
}
