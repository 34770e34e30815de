-- How a program ends, by which number, and with which text.
use Rattle.std.specs.Prelude.{ℕ, Bool, true, false, List, Option, Some, None, Result, Ok, Err, codes}
use Rattle.file_bench.specs.declared.file_fault.FileFault.{FileFault}
use Rattle.file_bench.specs.declared.file_fault.FileFault.TheVariants as file_faults
use Rattle.line_input.specs.declared.input.InputEnd.{InputEnd}
use Rattle.line_input.specs.declared.input.InputEnd.TheVariants as ends
use Rattle.line_run.specs.declared.line_stop.LineStop.{LineStop}
use Rattle.line_run.specs.declared.line_stop.LineStop.TheVariants as stops
use Rattle.program.specs.declared.program_end.ProgramEnd.{ProgramEnd}
use Rattle.program.specs.declared.ending.Ending.{Ending}
use Rattle.program.specs.declared.ending.Ending.TheVariants.{Run, NoFile, Held}
use Rattle.program.specs.declared.status.Status.{Status}
use Rattle.program.specs.declared.status.Status.TheVariants.{Done, Refused, Usage, Eeprom, ReadFault, WriteFault, NotACard, NoMemory, TooLong, TooSmall}

-- the number of a run's end
abbrev pub number_of : Status → ℕ
number_of Done = 0
number_of Refused = 1
number_of Usage = 2
number_of Eeprom = 3
number_of ReadFault = 4
number_of WriteFault = 5
number_of NotACard = 6
number_of NoMemory = 7
number_of TooLong = 8
number_of TooSmall = 9

-- the exit status
abbrev pub exit_status_of : Ending → ℕ
exit_status_of (Run status) = number_of status
exit_status_of NoFile = 10
exit_status_of Held = 10

-- how a program ends where a file doesn't open
abbrev pub ending_of : FileFault → Ending
ending_of file_faults.NoFile = NoFile
ending_of file_faults.Held = Held

-- what is said on standard error of a run that ended so, where this is the usage of the program
abbrev pub said_of : Status → List ℕ → Option (List ℕ)
said_of Done usage = None
said_of Refused usage = None
said_of Usage usage = Some usage
said_of Eeprom usage = Some (codes "eeprom fault")
said_of ReadFault usage = Some (codes "read fault")
said_of WriteFault usage = Some (codes "write fault")
said_of NotACard usage = Some (codes "not a card")
said_of NoMemory usage = Some (codes "no memory")
said_of TooLong usage = Some (codes "input too long")
said_of TooSmall usage = Some (codes "image too small")

abbrev pub said_at : Ending → List ℕ → Option (List ℕ)
said_at (Run status) usage = said_of status usage
said_at NoFile usage = Some (codes "no file")
said_at Held usage = Some (codes "file held")

-- whether that is said of one of the program's files
abbrev pub is_of_file : Ending → Bool
is_of_file (Run Eeprom) = true
is_of_file (Run NotACard) = true
is_of_file (Run TooSmall) = true
is_of_file (Run status) = false
is_of_file NoFile = true
is_of_file Held = true

-- how a program ended whose run ended so, or didn't begin, and over which file
abbrev pub ended_as : Result Status ProgramEnd → ProgramEnd
ended_as (Ok status) = record { ending = Run status; word = None }
ended_as (Err ended) = ended

abbrev pub ended_over : ℕ → Result Status Ending → ProgramEnd
ended_over word (Ok status) = record { ending = Run status; word = Some word }
ended_over word (Err ending) = record { ending = ending; word = Some word }

-- how a run ends that read its input to its end, in which a line was refused or none
abbrev pub ends_as : Bool → Status
ends_as true = Refused
ends_as false = Done

-- how a run ends that stops in a line
abbrev pub status_of : LineStop → Status
status_of stops.Eeprom = Eeprom
status_of stops.Outlet = WriteFault
status_of stops.Both = WriteFault
status_of stops.NoMemory = NoMemory

-- how a run ends whose lines came to this end, in which one was refused or none
abbrev pub status_at : InputEnd LineStop → Bool → Status
status_at ends.Ended refused = ends_as refused
status_at ends.ReadFault refused = ReadFault
status_at ends.TooLong refused = TooLong
status_at (ends.Stopped stop) refused = status_of stop
