use Rattle.std.proofs.Common.{◌≡◌, ◌+◌, ◌-◌}
use Rattle.eeprom.specs.StoreOf.{longest_chain}
use Rattle.cell_store.specs.Chains.{steps}
use Rattle.cell_store.proofs.store.CellStore.length_of_chain.Given as goal

abbrev pub invariant-loop-count : goal.invariant-loop-count
invariant-loop-count l = l.count + steps l.self.links (longest_chain - l.count) l.cell ≡ steps l.self.links longest_chain l.fn.first
