-- What comes of the calls on one reader of a rack.
use Rattle.std.specs.Prelude.{◌≡◌, ℕ, ◌≤◌, ◌∷◌, Bool, false, IsTrue, List, Some, IfSome, option_map}
use Rattle.eeprom.specs.Chip.{Chip}
use Rattle.scql_model.specs.Machine as machine
use Rattle.scql_model.specs.Machine.{Machine}
use Rattle.scql_model.specs.Replies.{Reply}
use Rattle.scql_model.specs.Step as stepping
use Rattle.card_link.specs.declared.outcome.Outcome.{Outcome}
use Rattle.card_link.specs.declared.outcome.Outcome.TheVariants.{Replied, Mute}
use Rattle.card_link.specs.Link.{Holds, IsOneOf, LeavesOpen}
use Rattle.planner.specs.StatementLines.{TerminalState}
use Rattle.terminal.specs.Holding.{terminal_at}
use Rattle.reader_rack.specs.declared.rack.Rack.{Rack}
use Rattle.reader_rack.specs.declared.rack_end.RackEnd.{RackEnd}
use Rattle.reader_rack.specs.declared.reader.Reader.{Reader}
use Rattle.reader_rack.specs.RackText as texts
use Rattle.reader_rack.specs.RackText.{RackState, ejected, sits, with_reader}
use Rattle.reader_rack.specs.Racks.{IsPrintedBy, IsRack, IsSetAside, LeavesRest, RepliesAt, answers_at, count_at, holds_at, is_held, link_at, reader_at}
use Rattle.reader_rack.specs.Readers.{AnswersStill, GoesMute, lending, with_link}
use Rattle.reader_rack.specs.Statements.{IsReader}

-- A text was printed, or the outlet failed, and no reader changed.
pub record OnlyPrints {O L : Type 0} (sink_faults : O → ℕ) (end' : RackEnd) (old new : Rack O L) : Type 0 where
  pub printed : IsPrintedBy end' (sink_faults old.outlet) (sink_faults new.outlet)
  pub readers : new.readers ≡ old.readers
  pub current : new.current ≡ old.current

-- A reader's link was set aside, if it held one.
pub record IsEjected {O L : Type 0} (is_at : L → Machine → Type 0) (is_live : L → Bool) (faults : L → ℕ) (number : ℕ) (told : Bool) (old new : Rack O L) : Type 0 where
  -- It is told whether it held one.
  pub held : told ≡ holds_at old.readers number
  pub aside : IsSetAside number old.readers new.readers
  -- The rack holds the next state.
  pub ejects : (state : RackState) → IsRack is_at is_live old.readers old.current.number state
      → (told ≡ is_held (state.reader number)) × IsRack is_at is_live new.readers new.current.number (with_reader state number (ejected (state.reader number)).next)
  -- No card's count changed.
  pub counts : (other : ℕ) → count_at faults new.readers other ≡ count_at faults old.readers other
  pub leaves : LeavesRest number old new

-- A reader holds a link, which may be lent.
pub record MayLend {L : Type 0} (readers : List (Reader L)) (number : ℕ) : Type 0 where
  pub reader : IsReader number
  pub holds : IsTrue (holds_at readers number)

-- A reader's link was lent.
pub record IsLent {O L : Type 0} (number : ℕ) (taken : L) (old new : Rack O L) : Type 0 where
  pub link : link_at old.readers number ≡ Some taken
  -- Its terminal stays.
  pub lent : reader_at new.readers number ≡ option_map lending (reader_at old.readers number)
  pub leaves : LeavesRest number old new

-- A reader's link is lent, and may be put back.
pub record MayPutBack {L : Type 0} (readers : List (Reader L)) (number : ℕ) : Type 0 where
  pub reader : IsReader number
  pub lent : holds_at readers number ≡ false

-- A link was put back into a reader.
pub record IsPutBack {O L : Type 0} (number : ℕ) (link : L) (old new : Rack O L) : Type 0 where
  -- Its terminal stays.
  pub holds : reader_at new.readers number ≡ option_map (with_link link) (reader_at old.readers number)
  pub leaves : LeavesRest number old new

-- A command was sent to a reader's card, which replied or went mute.
pub record Exchanges {O L : Type 0} (is_at : L → Machine → Type 0) (is_live : L → Bool) (faults mark : L → ℕ) (chip : L → Chip) (number : ℕ) (command : List ℕ) (heard : Reply) (outcome : Outcome) (old new : Rack O L) : Type 0 where
  -- It replied what the machine's step replies, and the rack holds the next state.
  pub replies : (state : RackState) (at : TerminalState) → IsRack is_at is_live old.readers old.current.number state → state.reader number ≡ sits at → outcome ≡ Replied
      → RepliesAt is_at is_live state number at command heard new.readers new.current.number
  pub replied : outcome ≡ Replied → AnswersStill (answers_at is_live new.readers number) (count_at faults old.readers number) (count_at faults new.readers number)
  -- Or it is mute from here on, as the rack's next state says.
  pub mute : outcome ≡ Mute → GoesMute heard (answers_at is_live new.readers number) (count_at faults old.readers number) (count_at faults new.readers number)
  pub mutes : (state : RackState) → IsRack is_at is_live old.readers old.current.number state → outcome ≡ Mute → IsRack is_at is_live new.readers new.current.number (with_reader state number texts.mute)
  pub never_falls : count_at faults old.readers number ≤ count_at faults new.readers number
  -- At each moment the EEPROM held what was committed, or one of the step's commits.
  pub moments : IfSome (link_at old.readers number) (λ link. IfSome (link_at new.readers number) (λ later. (m : Machine) → is_at link m
      → LeavesOpen (IsOneOf (mark link) (m.committed ∷ (stepping.step m command).commits)) (chip link) (chip later)))
  pub leaves : LeavesRest number old new

-- A reader's card was reset, and the reader's terminal with it.
pub record Resets {O L : Type 0} (is_at : L → Machine → Type 0) (is_live : L → Bool) (faults mark : L → ℕ) (chip : L → Chip) (number : ℕ) (old new : Rack O L) : Type 0 where
  -- The rack holds the next state: its machine is reset, on channel 0.
  pub step : (state : RackState) (at : TerminalState) → IsRack is_at is_live old.readers old.current.number state → state.reader number ≡ sits at
      → IsRack is_at is_live new.readers new.current.number (with_reader state number (sits (terminal_at (machine.reset at.machine) 0)))
  pub live : AnswersStill (answers_at is_live new.readers number) (count_at faults old.readers number) (count_at faults new.readers number)
  -- At each moment the EEPROM held what was committed.
  pub moments : IfSome (link_at old.readers number) (λ link. IfSome (link_at new.readers number) (λ later. (m : Machine) → is_at link m
      → LeavesOpen (Holds (mark link) m.committed) (chip link) (chip later)))
  pub leaves : LeavesRest number old new
