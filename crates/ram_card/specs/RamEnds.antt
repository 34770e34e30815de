-- How a run over an EEPROM in memory ends.
use Rattle.std.specs.Prelude.{Bool, true, false}
use Rattle.program.specs.declared.status.Status.{Status}
use Rattle.program.specs.declared.status.Status.TheVariants.{Done, ReadFault, WriteFault, NoMemory, TooLong}

-- done, or a stream failed, memory was wanting, or more came than a run takes
abbrev pub ends_in_memory : Status → Bool
ends_in_memory Done = true
ends_in_memory ReadFault = true
ends_in_memory WriteFault = true
ends_in_memory NoMemory = true
ends_in_memory TooLong = true
ends_in_memory status = false
