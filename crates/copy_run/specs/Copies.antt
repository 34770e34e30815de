-- A copy between two cards for two users, and what is said of it.
use Rattle.std.specs.Prelude.{ℕ, List, [], ◌∷◌, ◌++◌, Option, Some, None, if◌then◌else◌, codes}
use Rattle.std.specs.Fmt.{decimal}
use Rattle.scql_base.specs.Name.{name_of}
use Rattle.scql_model.specs.Machine.{Machine}
use Rattle.planner.specs.declared.closing.Closing.TheVariants.{Refused}
use Rattle.planner.specs.Text.{closing_text}
use Rattle.planner.specs.Words.{is_done}
use Rattle.card_asking.specs.Presenting.{presented}
use Rattle.program.specs.declared.status.Status.{Status}
use Rattle.program.specs.declared.status.Status.TheVariants as program
use Rattle.table_copy.specs.Copy.{Copy, copy}
use Rattle.table_copy.specs.declared.copy_end.CopyEnd.{CopyEnd}
use Rattle.table_copy.specs.declared.copy_end.CopyEnd.TheVariants.{Copied, SourceRefused, DestRefused, SourceMute, DestMute}
use Rattle.copy_run.specs.declared.copy_status.CopyStatus.{CopyStatus}
use Rattle.copy_run.specs.declared.copy_status.CopyStatus.TheVariants as ends
use Rattle.copy_run.specs.declared.names.CopyNames.{CopyNames}

-- The words of a copy are four names: who is presented on the source and what is copied, who is presented on the destination and into which table.
abbrev pub named : Option (List ℕ) → Option (List ℕ) → Option (List ℕ) → Option (List ℕ) → Option CopyNames
named (Some source_user) (Some object) (Some dest_user) (Some table) = Some (record { source_user = source_user; object = object; dest_user = dest_user; table = table })
named source_user object dest_user table = None

abbrev pub names_in : List (List ℕ) → Option CopyNames
names_in (source_user ∷ object ∷ dest_user ∷ table ∷ []) = named (name_of source_user) (name_of object) (name_of dest_user) (name_of table)
names_in words = None

-- The destination's user is presented, and rows are copied that are shown to whoever is presented on the source.
unfoldable pub copy_to : Machine → Machine → CopyNames → Copy
copy_to s d names =
    let answer = presented d names.dest_user in
    if is_done answer.reply.word then copy s answer.machine names.object names.table else record { ends = DestRefused answer.reply.word; commits = [] }

-- First the source's user is presented.
unfoldable pub copy_for : Machine → Machine → CopyNames → Copy
copy_for s d names =
    let answer = presented s names.source_user in
    if is_done answer.reply.word then copy_to answer.machine d names else record { ends = SourceRefused answer.reply.word; commits = [] }

-- how a copy ended, on a line of its own
abbrev pub copy_text : CopyEnd → List ℕ
copy_text (Copied rows) = codes "copied " ++ (decimal rows ++ codes " rows\n")
copy_text (SourceRefused word) = codes "source " ++ closing_text (Refused word)
copy_text (DestRefused word) = codes "destination " ++ closing_text (Refused word)
copy_text SourceMute = codes "source mute\n"
copy_text DestMute = codes "destination mute\n"

-- and how it is reported
abbrev pub status_of : CopyEnd → CopyStatus
status_of (Copied rows) = ends.Done
status_of (SourceRefused word) = ends.Refused
status_of (DestRefused word) = ends.Refused
status_of SourceMute = ends.Mute
status_of DestMute = ends.Mute

abbrev pub program_status : CopyStatus → Status
program_status ends.Done = program.Done
program_status ends.Refused = program.Refused
program_status ends.Usage = program.Usage
program_status ends.Mute = program.Eeprom
program_status ends.WriteFault = program.WriteFault
