-- Which refusals are faults of the EEPROM.
use Rattle.std.specs.Prelude.{Bool, true, false}
use Rattle.cell_store.specs.declared.refusal.ClaimRefusal.{ClaimRefusal}
use Rattle.cell_store.specs.declared.refusal.ClaimRefusal.TheVariants.{BadChain, Fault}
use Rattle.cell_store.specs.declared.refusal.CellRefusal.{CellRefusal}
use Rattle.cell_store.specs.declared.refusal.CellRefusal.TheVariants.{NoCell, Fault as WriteFault}

-- where a chain is claimed
abbrev pub is_claim_fault : ClaimRefusal → Bool
is_claim_fault BadChain = false
is_claim_fault Fault = true

-- where a chain is written
abbrev pub is_write_fault : CellRefusal → Bool
is_write_fault NoCell = false
is_write_fault WriteFault = true
