-- A line of a transcript as code has it.
use Rattle.audit_run.specs.declared.transcript.Entry.{Entry as Line}
use Rattle.audit_run.specs.declared.transcript.Entry.TheVariants.{Input, Output, Neither}
use Rattle.audit_run.specs.Transcript.{Entry, input, output, neither}

abbrev pub entry_seen : Line → Entry
entry_seen (Input text) = input text.now
entry_seen (Output text) = output text.now
entry_seen Neither = neither
