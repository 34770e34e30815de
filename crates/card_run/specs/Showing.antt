-- A line that is a reading command reads what is shown to its channel.
use Rattle.std.specs.Prelude.{◌≡◌, ℕ, List}
use Rattle.scql_model.specs.Accepting.{channel_named}
use Rattle.scql_model.specs.Answering.{AreCommand}
use Rattle.scql_model.specs.Lines.{command, command_lines, content_of, line_step, line_text, reply_text, state_after, taken_line}
use Rattle.scql_model.specs.Machine.{Machine}
use Rattle.scql_model.specs.ReadingCommands.{ReadingCommand}
use Rattle.scql_model.specs.ReadingLaws.{IsReadingCommand}
use Rattle.scql_model.specs.Reads.{read_next, read_reply}
use Rattle.scql_model.specs.Shown.{shown_on}

-- a line is this reading command on this channel of the machine
pub record IsReadingLine (m : Machine) (line : List ℕ) (channel : ℕ) (reading : ReadingCommand) : Type 0 where
  pub octets : List ℕ
  pub content : content_of (taken_line line) ≡ command octets
  pub are : AreCommand m octets (IsReadingCommand reading)
  pub named : channel ≡ channel_named octets

-- Its text is the reply that follows from what is shown to the channel. What is shown to the channel after it follows from that too, and what is shown to all others stays.
pub record ReadsShown (m : Machine) (line : List ℕ) (channel : ℕ) (reading : ReadingCommand) : Type 0 where
  pub text : line_text command_lines m line ≡ reply_text (read_reply (shown_on m channel) reading)
  pub after : shown_on (line_step command_lines m line) channel ≡ read_next (shown_on m channel) reading
  pub others : (other : ℕ) → ¬ (channel ≡ other) → shown_on (line_step command_lines m line) other ≡ shown_on m other

-- so does each line from a machine on, whatever lines stand before it
abbrev pub LinesReadShown : Machine → Type 0
LinesReadShown m = (before : List (List ℕ)) (line : List ℕ) (channel : ℕ) (reading : ReadingCommand)
    → IsReadingLine (state_after command_lines m before) line channel reading → ReadsShown (state_after command_lines m before) line channel reading
