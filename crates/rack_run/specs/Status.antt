-- How a run over a rack ends, by its lines and by its input.
use Rattle.std.specs.Prelude.{Bool, true, false}
use Rattle.eeprom.specs.declared.fault.SinkFault.{SinkFault}
use Rattle.line_input.specs.declared.input.InputEnd.{InputEnd}
use Rattle.line_input.specs.declared.input.InputEnd.TheVariants as input_ends
use Rattle.program.specs.declared.status.Status.{Status}
use Rattle.program.specs.declared.status.Status.TheVariants as statuses
use Rattle.reader_rack.specs.declared.rack_end.RackEnd.{RackEnd}
use Rattle.reader_rack.specs.declared.rack_end.RackEnd.TheVariants as ends
use Rattle.rack_run.specs.declared.status.RackStatus.{RackStatus}
use Rattle.rack_run.specs.declared.status.RackStatus.TheVariants.{Done, Refused, Mute, ReadFault, WriteFault, TooLong}
use Rattle.rack_run.specs.declared.tally.Tally.{Tally}

-- no line has ended yet
abbrev pub nothing_yet : Tally
nothing_yet = record { refused = false; muted = false }

-- another line ended so
abbrev pub with_end : RackEnd → Tally → Tally
with_end ends.Answered tally = tally
with_end (ends.Refused why) tally = record { refused = true; muted = tally.muted }
with_end ends.Mute tally = record { refused = tally.refused; muted = true }
with_end ends.SinkFault tally = tally

-- A run that read its input to its end: a card that went mute goes before a line that was refused.
abbrev pub ended_as : Bool → Bool → RackStatus
ended_as true refused = Mute
ended_as false true = Refused
ended_as false false = Done

-- A run whose lines came to this end. A device that failed goes before all, and so does an input that is too long.
abbrev pub status_at : InputEnd SinkFault → Tally → RackStatus
status_at input_ends.Ended tally = ended_as tally.muted tally.refused
status_at input_ends.ReadFault tally = ReadFault
status_at input_ends.TooLong tally = TooLong
status_at (input_ends.Stopped stop) tally = WriteFault

-- the status of a program whose run ended so
abbrev pub program_status : RackStatus → Status
program_status Done = statuses.Done
program_status Refused = statuses.Refused
program_status Mute = statuses.Eeprom
program_status ReadFault = statuses.ReadFault
program_status WriteFault = statuses.WriteFault
program_status TooLong = statuses.TooLong

-- the run read its input to its end
abbrev pub IsEnded : RackStatus → Type 0
IsEnded Done = Unit {0}
IsEnded Refused = Unit {0}
IsEnded Mute = Unit {0}
IsEnded status = ⊥
