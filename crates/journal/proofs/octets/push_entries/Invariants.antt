use Rattle.std.proofs.Common.{◌≡◌, ◌+◌, ◌++◌, length}
use Rattle.eeprom.specs.StoreOf.{entries_at}
use Rattle.journal.proofs.octets.push_entries.Given as goal

abbrev pub invariant-loop-index : goal.invariant-loop-index
invariant-loop-index l = record {
  taken : l.entries.items ≡ l.initial.entries.items ++ entries_at l.octets 0 l.index;
  count : length l.entries.items ≡ length l.initial.entries.items + l.index;
}
