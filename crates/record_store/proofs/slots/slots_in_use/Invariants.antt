use Rattle.std.proofs.Common.{◌≡◌, ℕ, ◌<◌, ◌≤◌, slice_index}
use Rattle.record_store.proofs.slots.slots_in_use.Given as goal

abbrev pub invariant-loop-slot : goal.invariant-loop-slot
invariant-loop-slot l = record {
  most : l.count ≤ l.slot;
  empty : (slot : ℕ) → l.count ≤ slot → slot < l.slot → slice_index l.firsts slot ≡ 65535;
}
