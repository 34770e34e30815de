use Rattle.std.proofs.Common.{◌≡◌, ◌≤◌, ℕ, List, Some, take}
use Rattle.std.specs.Prelude.{count_by}
use Rattle.eeprom.specs.StoreOf.{Slots}
use Rattle.record_store.specs.Held.{StandsFor, contents}
use Rattle.record_store.specs.declared.side.Side.TheVariants.{Committed}
use Rattle.record_table.specs.Listed.{has_kind_mark}
use Rattle.card.proofs.counting.count_kind.Given as goal

abbrev pub invariant-loop-slot : goal.invariant-loop-slot
invariant-loop-slot g l = record {
  few : l.count ≤ l.slot;
  counted : (image : List ℕ) (slots : Slots) → StandsFor l.store image → contents l.store Committed image ≡ Some slots → l.count ≡ count_by (has_kind_mark g.R.Record.kind) (take l.slot slots);
}
