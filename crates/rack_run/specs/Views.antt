-- How a run over a rack goes on from line to line.
use Rattle.std.specs.Prelude.{◌≡◌, ◌⊎◌, ℕ, ◌≤◌, Bool, true, ◌||◌, List, map, Option}
use Rattle.eeprom.specs.Fault.{Rose}
use Rattle.eeprom.specs.Output.{Prints}
use Rattle.scql_model.specs.Machine.{Machine}
use Rattle.terminal.specs.Failing.{IsStart}
use Rattle.reader_rack.specs.declared.reader.Reader.{Reader}
use Rattle.reader_rack.specs.OwnLines.{AreSound, own_turns}
use Rattle.reader_rack.specs.RackText.{RackState, Turn, rack_after, rack_effect, rack_text, was_muted, was_refused}
use Rattle.reader_rack.specs.Racks.{IsRack, aside_at, count_at}
use Rattle.reader_rack.specs.Statements.{IsReader}
use Rattle.rack_run.specs.declared.tally.Tally.{Tally}
use Rattle.rack_run.specs.Prompts.{current_after}
use Rattle.rack_run.specs.Turns.{IsAside, set_aside_in}

-- What is seen of a run: the rack's readers, which one is current, what the outlet was given and how often it failed, and how the lines ended.
pub record View (L : Type 0) : Type 0 where
  pub readers : List (Reader L)
  pub current : ℕ
  pub given : Option (List ℕ)
  pub sink : ℕ
  pub tally : Tally

-- no card failed
abbrev pub AllCountsStay : {L : Type 0} → (L → ℕ) → List (Reader L) → List (Reader L) → Type 0
AllCountsStay faults old new = (number : ℕ) → IsReader number → count_at faults new number ≡ count_at faults old number

-- no card's count of faults falls
abbrev pub NoCountFalls : {L : Type 0} → (L → ℕ) → List (Reader L) → List (Reader L) → Type 0
NoCountFalls faults old new = (number : ℕ) → IsReader number → count_at faults old number ≤ count_at faults new number

-- some card failed
pub record SomeCardFailed {L : Type 0} (faults : L → ℕ) (old new : List (Reader L)) : Type 0 where
  pub number : ℕ
  pub reader : IsReader number
  pub rose : Rose (count_at faults old number) (count_at faults new number)

-- Lines in which no card failed, or in one of which a card went mute.
abbrev pub CountsCards : {L : Type 0} → (L → ℕ) → View L → View L → Type 0
CountsCards faults old new =
    ((new.tally.muted ≡ old.tally.muted) × AllCountsStay faults old.readers new.readers)
    ⊎ ((new.tally.muted ≡ true) × SomeCardFailed faults old.readers new.readers × NoCountFalls faults old.readers new.readers)

-- From a state on lines were carried out in these turns. A reader whose card's count didn't rise has a card that didn't go mute in them.
pub record Passes {L : Type 0} (is_at : L → Machine → Type 0) (is_live : L → Bool) (faults : L → ℕ) (state : RackState) (lines : List (Option (List ℕ))) (old new : View L) : Type 0 where
  pub turns : List Turn
  pub of_lines : map (λ (turn : Turn). turn.line) turns ≡ lines
  pub at : IsRack is_at is_live new.readers new.current (rack_after state turns)
  pub text : Prints (rack_text state turns) old.given new.given
  pub refused : new.tally.refused ≡ (old.tally.refused || was_refused state turns)
  pub muted : new.tally.muted ≡ (old.tally.muted || was_muted state turns)
  pub asides : (number : ℕ) → IsReader number → IsAside is_at is_live (set_aside_in number state turns) (aside_at old.readers number) (aside_at new.readers number)
  pub sound : (number : ℕ) → IsReader number → ¬ Rose (count_at faults old.readers number) (count_at faults new.readers number) → AreSound (own_turns number state turns)

-- Lines were carried out.
pub record CarriesOut {L : Type 0} (is_at : L → Machine → Type 0) (is_live : L → Bool) (faults : L → ℕ) (old : View L) (lines : List (Option (List ℕ))) (new : View L) : Type 0 where
  pub current : new.current ≡ current_after old.current lines
  pub sink : new.sink ≡ old.sink
  pub cards : CountsCards faults old new
  pub from : (state : RackState) → IsRack is_at is_live old.readers old.current state → Passes is_at is_live faults state lines old new

-- The outlet failed in a line: the start of its text was printed.
pub record BreaksIn {L : Type 0} (is_at : L → Machine → Type 0) (is_live : L → Bool) (faults : L → ℕ) (old : View L) (line : Option (List ℕ)) (new : View L) : Type 0 where
  pub rose : Rose old.sink new.sink
  pub later : old.sink ≤ new.sink
  pub cards : NoCountFalls faults old.readers new.readers
  pub from : (state : RackState) → IsRack is_at is_live old.readers old.current state → (fails : Option ℕ) × IsStart (rack_effect state line fails).text old.given new.given
