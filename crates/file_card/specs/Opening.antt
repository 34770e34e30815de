-- How a program ends where the card in a file doesn't open.
use Rattle.record_store.specs.declared.refusal.OpenRefusal.{OpenRefusal}
use Rattle.record_store.specs.declared.refusal.OpenRefusal.TheVariants as refusals
use Rattle.program.specs.declared.ending.Ending.{Ending}
use Rattle.program.specs.declared.ending.Ending.TheVariants.{Run}
use Rattle.program.specs.declared.status.Status.TheVariants.{Eeprom, NoMemory, NotACard}

abbrev pub ending_of : OpenRefusal → Ending
ending_of refusals.Fault = Run Eeprom
ending_of refusals.NotACard = Run NotACard
ending_of refusals.NoMemory = Run NoMemory
