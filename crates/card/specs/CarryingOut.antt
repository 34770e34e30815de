-- How a command ends on a card.
use Rattle.std.specs.Prelude.{◌≡◌, ℕ, true, List, Option, None, drop, is_some, Result, IsTrue, OnOk}
use Rattle.eeprom.specs.Chip.{Chip, Keeps}
use Rattle.eeprom.specs.Fault.{Counts}
use Rattle.eeprom.specs.StoreOf.{image_size}
use Rattle.eeprom.specs.declared.EepromFault.{EepromFault}
use Rattle.scql_base.specs.declared.operation.Command.{Command}
use Rattle.scql_base.specs.declared.words.StatusWord.{StatusWord}
use Rattle.scql_model.specs.Machine.{Machine, reset}
use Rattle.scql_model.specs.Replies.{Reply}
use Rattle.scql_model.specs.Step.{Answer}
use Rattle.scql_model.specs.WellFormed.{FitsCard, IsWellFormed}
use Rattle.card.specs.Answering.{HoldsAnswer, LeavesFirstOfTwo, Performs}
use Rattle.card.specs.Card.{Kept, IsAt, IsReady, StandsOver}
use Rattle.card.specs.Sessions.{is_open}

-- A command may be carried out on a card over an EEPROM.
pub record MayCarryOut (card : Kept) (chip : Chip) (command : Command) : Type 0 where
  -- The card may be asked.
  pub ready : IsReady card chip
  -- The command is well-formed, fits the card, and its channel is open.
  pub formed : IsWellFormed command
  pub fits : FitsCard card.store.row_limit command.operation
  pub opened : is_open card.sessions command.channel ≡ true

-- A card over an EEPROM is asked for what waits for the end of each open transaction.
pub record StandsIdle (card : Kept) (chip : Chip) : Type 0 where
  -- It stands over the EEPROM,
  pub ready : StandsOver card chip
  -- and no transaction is open.
  pub closed : card.transaction ≡ None

-- In a card that stands over an EEPROM a transaction is begun where a channel has one: in the store, and in the index of its rows.
pub record IsBegunWhereOpen (card : Kept) : Type 0 where
  pub begun : card.store.begun ≡ is_some card.transaction
  pub index_begun : card.index.begun ≡ is_some card.transaction

-- A transaction is begun in both.
pub record IsBegun (card : Kept) : Type 0 where
  pub begun : IsTrue card.store.begun
  pub index_begun : IsTrue card.index.begun

-- A card over an EEPROM has carried a command out, whose answer and whose bound on the octets that are written follow from the machine at which both were, or
-- the EEPROM failed; `stands` is what the card and the EEPROM are to each other when it has.
pub record CarriesOut {S : Type 0} (chip : S → Chip) (faults : S → ℕ) (stands : Kept → Chip → Type 0) (answer : Machine → Answer) (most : Machine → ℕ) (body : List ℕ) (before after : S) (old new : Kept) (result : Result StatusWord EepromFault) : Type 0 where
  -- It does what the machine answers.
  pub performs : (m : Machine) → IsAt old (chip before) m → Performs m (answer m) (most m) body result new (chip before) (chip after)
  -- The card may be asked again.
  pub ready : OnOk result (stands new (chip after))
  -- A fault of the EEPROM was counted.
  pub cause : Counts (faults before) (faults after) result
  -- The card keeps its number of cells, and nothing is written behind its image, at no moment.
  pub cells : OnOk result (new.store.chains.cells ≡ old.store.chains.cells)
  pub behind : Keeps (drop (image_size old.store.chains.cells)) (chip before) (chip after)

-- Where the machine's answer commits a second database, there was a moment at which a power loss may leave the first.
abbrev pub CommitsInTurn : {S : Type 0} → (S → Chip) → (Machine → Answer) → S → S → Kept → Result StatusWord EepromFault → Type 0
CommitsInTurn chip answer before after card result = (m : Machine) → IsAt card (chip before) m → OnOk result (LeavesFirstOfTwo (answer m) (chip before) (chip after))

-- What is answered has read so from the EEPROM, by the machine at which card and EEPROM were.
abbrev pub ReadsBy : {S : Type 0} → (S → Chip) → (S → Option ℕ) → (Machine → Option ℕ → Option ℕ → Type 0) → S → S → Kept → Result StatusWord EepromFault → Type 0
ReadsBy chip octets_read reads before after card result = (m : Machine) → IsAt card (chip before) m → OnOk result (reads m (octets_read before) (octets_read after))

-- A card has carried a command out that needs no EEPROM.
pub record RepliesAtOnce (answer : Machine → Answer) (sent : Reply) (old new : Kept) : Type 0 where
  -- It does what the machine answers.
  pub step : (chip : Chip) (m : Machine) → IsAt old chip m → HoldsAnswer (answer m) sent new chip
  -- The card may be asked again, and keeps its number of cells.
  pub ready : (chip : Chip) → StandsOver old chip → StandsOver new chip
  pub cells : new.store.chains.cells ≡ old.store.chains.cells

-- A card was reset, at whichever machine it was, and over whichever EEPROM.
pub record IsReset (old new : Kept) : Type 0 where
  -- It is at the reset of that machine.
  pub at : (chip : Chip) (m : Machine) → IsAt old chip m → IsAt new chip (reset m)
  -- It may be asked again, and keeps its number of cells.
  pub ready : (chip : Chip) → IsReady old chip → IsReady new chip
  pub cells : new.store.chains.cells ≡ old.store.chains.cells
