-- A reading command is answered from what is shown to its channel.
use Rattle.std.specs.Prelude.{ℕ, List}
use Rattle.eeprom.specs.Chip.{Chip}
use Rattle.scql_model.specs.Accepting.{channel_named}
use Rattle.scql_model.specs.Answering.{AreCommand}
use Rattle.scql_model.specs.Machine.{Machine}
use Rattle.scql_model.specs.ReadingCommands.{ReadingCommand}
use Rattle.scql_model.specs.ReadingLaws.{IsReadingCommand, ReadsWhatIsShown}
use Rattle.scql_model.specs.Replies.{Reply}
use Rattle.scql_model.specs.Step.{Answer}
use Rattle.card.specs.Answering.{Answers}
use Rattle.card.specs.Card.{Kept}

-- octets are this reading command on a machine
abbrev pub AreReading : Machine → List ℕ → ReadingCommand → Type 0
AreReading m octets reading = AreCommand m octets (IsReadingCommand reading)

-- The answer that is given reads what was shown to a channel: its reply follows from that, and so does what is shown to the channel at the machine where card
-- and EEPROM are then. What is shown to all others stays.
pub record AnswersShown (m : Machine) (channel : ℕ) (reading : ReadingCommand) (sent : Reply) (card : Kept) (chip : Chip) : Type 0 where
  pub answer : Answer
  pub given : Answers answer sent card chip
  pub reads : ReadsWhatIsShown m channel reading answer

-- where octets are a reading command, their answer reads what was shown to the channel that they name
abbrev pub ReadsShown : Machine → List ℕ → Reply → Kept → Chip → Type 0
ReadsShown m octets sent card chip = (reading : ReadingCommand) → AreReading m octets reading → AnswersShown m (channel_named octets) reading sent card chip
