-- How a run over queries ends, as a program's status.
use Rattle.record_store.specs.declared.refusal.OpenRefusal.{OpenRefusal}
use Rattle.record_store.specs.declared.refusal.OpenRefusal.TheVariants as refusals
use Rattle.program.specs.declared.status.Status.{Status}
use Rattle.program.specs.declared.status.Status.TheVariants as program
use Rattle.query_run.specs.declared.status.QueryStatus.{QueryStatus}
use Rattle.query_run.specs.declared.status.QueryStatus.TheVariants.{Done, Refused, Eeprom, ReadFault, WriteFault, NotACard, NoMemory, TooLong}

abbrev pub program_status : QueryStatus → Status
program_status Done = program.Done
program_status Refused = program.Refused
program_status Eeprom = program.Eeprom
program_status ReadFault = program.ReadFault
program_status WriteFault = program.WriteFault
program_status NotACard = program.NotACard
program_status NoMemory = program.NoMemory
program_status TooLong = program.TooLong

-- how a run ends whose card doesn't open
abbrev pub status_of : OpenRefusal → QueryStatus
status_of refusals.NoMemory = NoMemory
status_of refusals.NotACard = NotACard
status_of refusals.Fault = Eeprom
