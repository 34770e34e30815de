-- A rack: its readers, and how they become what a line makes of them.
use Rattle.std.specs.Prelude.{◌≡◌, ◌≢◌, ℕ, ◌-◌, ◌≤◌, Bool, true, false, IsTrue, List, Option, Some, None, is_some, IsSomeAnd, slice_get}
use Rattle.std.specs.Option.{option_map_or}
use Rattle.eeprom.specs.Chip.{Chip}
use Rattle.eeprom.specs.Fault.{Rose}
use Rattle.scql_model.specs.Machine.{Machine}
use Rattle.scql_model.specs.Replies.{Reply}
use Rattle.scql_model.specs.Step as stepping
use Rattle.planner.specs.StatementLines.{TerminalState}
use Rattle.terminal.specs.Holding.{terminal_at}
use Rattle.reader_rack.specs.declared.rack_end.RackEnd.{RackEnd}
use Rattle.reader_rack.specs.declared.rack.Rack.{Rack}
use Rattle.reader_rack.specs.declared.reader.Reader.{Reader}
use Rattle.reader_rack.specs.declared.statement.RackStatement.{RackStatement}
use Rattle.reader_rack.specs.declared.statement.RackStatement.TheVariants.{Select, Eject}
use Rattle.reader_rack.specs.declared.rack_end.RackEnd.TheVariants as ends
use Rattle.reader_rack.specs.RackText.{Held, nothing, RackEffect, RackState, sits, with_reader}
use Rattle.reader_rack.specs.Readers.{EndsBy, EndsEffect, Holds, answers, count, set_aside}
use Rattle.reader_rack.specs.Statements.{IsReader, names_reader}

-- Readers 1 to 4 stand in their order.

abbrev pub reader_at : {L : Type 0} → List (Reader L) → ℕ → Option (Reader L)
reader_at readers number = slice_get readers (number - 1)

-- the link that the reader holds
abbrev pub link_at : {L : Type 0} → List (Reader L) → ℕ → Option L
link_at readers number = option_map_or (λ reader. reader.link) (reader_at readers number) None

-- the link of the reader that was set aside
abbrev pub aside_at : {L : Type 0} → List (Reader L) → ℕ → Option L
aside_at readers number = option_map_or (λ reader. reader.aside) (reader_at readers number) None

-- the reader holds a link
abbrev pub holds_at : {L : Type 0} → List (Reader L) → ℕ → Bool
holds_at readers number = option_map_or (λ reader. is_some reader.link) (reader_at readers number) false

-- the reader holds a link that answers
abbrev pub answers_at : {L : Type 0} → (L → Bool) → List (Reader L) → ℕ → Bool
answers_at is_live readers number = option_map_or (answers is_live) (reader_at readers number) false

-- how often the reader's card failed
abbrev pub count_at : {L : Type 0} → (L → ℕ) → List (Reader L) → ℕ → ℕ
count_at faults readers number = option_map_or (count faults) (reader_at readers number) 0

-- each reader holds what the state says, and the current one is the state's
pub record IsRack {L : Type 0} (is_at : L → Machine → Type 0) (is_live : L → Bool) (readers : List (Reader L)) (current : ℕ) (state : RackState) : Type 0 where
  pub holds : (number : ℕ) (reader : Reader L) → IsReader number → reader_at readers number ≡ Some reader → Holds is_at is_live reader (state.reader number)
  pub is_current : current ≡ state.current

-- all readers but one are as they were
abbrev pub OthersStay : {L : Type 0} → ℕ → List (Reader L) → List (Reader L) → Type 0
OthersStay number old new = (other : ℕ) → IsReader other → other ≢ number → reader_at new other ≡ reader_at old other

-- a reader, by its number, holds a card that answers
pub record HoldsCard {L : Type 0} (is_live : L → Bool) (readers : List (Reader L)) (number : ℕ) : Type 0 where
  pub reader : IsReader number
  pub live : IsTrue (answers_at is_live readers number)

-- A command to a reader's card was answered as the machine's step is, and the rack holds the next state.
pub record RepliesAt {L : Type 0} (is_at : L → Machine → Type 0) (is_live : L → Bool) (state : RackState) (number : ℕ) (at : TerminalState) (command : List ℕ) (heard : Reply) (readers : List (Reader L)) (current : ℕ) : Type 0 where
  pub reply : heard ≡ (stepping.step at.machine command).reply
  pub step : IsRack is_at is_live readers current (with_reader state number (sits (terminal_at (stepping.step at.machine command).machine at.channel)))

-- A reader took in a link, which is at these machines, was counted so many faults, and has this EEPROM.
pub record TakesIn {L : Type 0} (is_at : L → Machine → Type 0) (is_live : L → Bool) (faults : L → ℕ) (chip_of : L → Chip) (number : ℕ) (at : Machine → Type 0) (counted : ℕ) (its : Chip) (old new : List (Reader L)) (current current' : ℕ) : Type 0 where
  -- Its card is at the link's machine, and its terminal is new.
  pub inserts : (state : RackState) (m : Machine) → IsRack is_at is_live old current state → at m → IsRack is_at is_live new current' (with_reader state number (sits (terminal_at m 0)))
  -- The link in it is as the one that was taken in.
  pub count : count_at faults new number ≡ counted
  pub chip : IsSomeAnd (link_at new number) (λ inside. chip_of inside ≡ its)
  pub machine : IsSomeAnd (link_at new number) (λ inside. (m : Machine) → at m → is_at inside m)

-- What a call on one reader leaves of a rack: all other readers, which one is current, and the outlet.
pub record LeavesRest {O L : Type 0} (number : ℕ) (old new : Rack O L) : Type 0 where
  pub others : OthersStay number old.readers new.readers
  pub current : new.current ≡ old.current
  pub outlet : new.outlet ≡ old.outlet

-- In any state that a rack is in it does what it is to do there, and ends so.
abbrev pub EndsInAnyState : {O L : Type 0} → (L → Machine → Type 0) → (L → Bool) → (O → Option (List ℕ)) → (RackState → Option ℕ → RackEffect RackState) → RackEnd → Rack O L → Rack O L → Type 0
EndsInAnyState is_at is_live given effect result old new =
    (state : RackState) → IsRack is_at is_live old.readers old.current.number state → EndsEffect (IsRack is_at is_live new.readers new.current.number) (effect state) result (given old.outlet) (given new.outlet)

-- A reader was asked: why the line ends so, that its link which was set aside is left alone, and that all others are as they were.
pub record Asks {L : Type 0} (is_live : L → Bool) (faults : L → ℕ) (number : ℕ) (end' : RackEnd) (old new : List (Reader L)) (sink sink' : ℕ) : Type 0 where
  pub ends_by : EndsBy end' (answers_at is_live old number) (answers_at is_live new number) (count_at faults old number) (count_at faults new number) sink sink'
  pub aside : aside_at new number ≡ aside_at old number
  pub others : OthersStay number old new

-- the outlet failed where the end says so, and no card did
abbrev pub IsPrintedBy : RackEnd → ℕ → ℕ → Type 0
IsPrintedBy ends.Answered sink sink' = sink' ≡ sink
IsPrintedBy (ends.Refused why) sink sink' = sink' ≡ sink
IsPrintedBy ends.Mute sink sink' = ⊥
IsPrintedBy ends.SinkFault sink sink' = Rose sink sink' × (sink ≤ sink')

-- a reader's link is set aside
abbrev pub IsSetAside : {L : Type 0} → ℕ → List (Reader L) → List (Reader L) → Type 0
IsSetAside number old new = IsSomeAnd (reader_at old number) (λ was. reader_at new number ≡ Some (set_aside was))

-- what a statement does to the readers: nothing, or the link of the one that it names is set aside
abbrev pub SetsAside : {L : Type 0} → RackStatement → List (Reader L) → List (Reader L) → Type 0
SetsAside (Select reader) old new = new ≡ old
SetsAside (Eject reader) old new = IsSetAside reader old new

-- No card was asked: no card's count changed, the reader that the statement names is as it says, and all others are as they were.
pub record States {L : Type 0} (faults : L → ℕ) (statement : RackStatement) (end' : RackEnd) (old new : List (Reader L)) (sink sink' : ℕ) : Type 0 where
  pub printed : IsPrintedBy end' sink sink'
  pub counts : (n : ℕ) → count_at faults new n ≡ count_at faults old n
  pub named : SetsAside statement old new
  pub others : OthersStay (names_reader statement) old new

-- a state in which a reader holds a link
abbrev pub is_held : Held → Bool
is_held nothing = false
is_held held = true
