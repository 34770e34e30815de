-- How an audit ends.
use Rattle.program.specs.declared.status.Status.{Status}
use Rattle.program.specs.declared.status.Status.TheVariants as program
use Rattle.audit_run.specs.declared.status.AuditStatus.{AuditStatus}
use Rattle.audit_run.specs.declared.status.AuditStatus.TheVariants.{Yes, No, ReadFault, WriteFault, NoMemory, TooLong}
use Rattle.audit_run.specs.declared.verdict.Verdict.{Verdict}
use Rattle.audit_run.specs.declared.verdict.Verdict.TheVariants as verdicts

abbrev pub status_of : Verdict → AuditStatus
status_of (verdicts.Yes lines) = Yes
status_of verdict = No

abbrev pub program_status : AuditStatus → Status
program_status Yes = program.Done
program_status No = program.Refused
program_status ReadFault = program.ReadFault
program_status WriteFault = program.WriteFault
program_status NoMemory = program.NoMemory
program_status TooLong = program.TooLong
