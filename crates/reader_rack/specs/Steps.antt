-- What comes of a command to the link that a reader holds, and of its reset.
use Rattle.std.specs.Prelude.{◌≡◌, ℕ, ◌≤◌, ◌∷◌, Bool, List, Some, IfSome}
use Rattle.eeprom.specs.Chip.{Chip}
use Rattle.scql_model.specs.Machine as machine
use Rattle.scql_model.specs.Machine.{Machine}
use Rattle.scql_model.specs.Replies.{Reply}
use Rattle.scql_model.specs.Step as stepping
use Rattle.card_link.specs.declared.outcome.Outcome.{Outcome}
use Rattle.card_link.specs.declared.outcome.Outcome.TheVariants.{Replied, Mute}
use Rattle.card_link.specs.Link as links
use Rattle.card_link.specs.Link.{IsOneOf, LeavesOpen}
use Rattle.planner.specs.StatementLines.{TerminalState}
use Rattle.terminal.specs.Holding.{terminal_at}
use Rattle.reader_rack.specs.declared.reader.Reader.{Reader}
use Rattle.reader_rack.specs.RackText as texts
use Rattle.reader_rack.specs.RackText.{sits}
use Rattle.reader_rack.specs.Readers.{AnswersStill, GoesMute, Holds, answers, count}

-- A command was sent to the link, which replied or went mute.
pub record IsExchanged {L : Type 0} (is_at : L → Machine → Type 0) (is_live : L → Bool) (faults mark : L → ℕ) (chip : L → Chip) (command : List ℕ) (heard : Reply) (outcome : Outcome) (old new : Reader L) : Type 0 where
  pub step : (state : TerminalState) → Holds is_at is_live old (sits state) → outcome ≡ Replied
      → (heard ≡ (stepping.step state.machine command).reply) × Holds is_at is_live new (sits (terminal_at (stepping.step state.machine command).machine state.channel))
  pub replied : outcome ≡ Replied → AnswersStill (answers is_live new) (count faults old) (count faults new)
  pub mute : outcome ≡ Mute → GoesMute heard (answers is_live new) (count faults old) (count faults new) × Holds is_at is_live new texts.mute
  pub never_falls : count faults old ≤ count faults new
  pub moments : (link : L) → old.link ≡ Some link → IfSome new.link (λ later. (m : Machine) → is_at link m
      → LeavesOpen (IsOneOf (mark link) (m.committed ∷ (stepping.step m command).commits)) (chip link) (chip later))
  -- What was set aside stays.
  pub aside : new.aside ≡ old.aside

-- The link was reset, and its terminal is new.
pub record IsReset {L : Type 0} (is_at : L → Machine → Type 0) (is_live : L → Bool) (faults mark : L → ℕ) (chip : L → Chip) (old new : Reader L) : Type 0 where
  pub step : (state : TerminalState) → Holds is_at is_live old (sits state) → Holds is_at is_live new (sits (terminal_at (machine.reset state.machine) 0))
  pub live : AnswersStill (answers is_live new) (count faults old) (count faults new)
  pub moments : (link : L) → old.link ≡ Some link → IfSome new.link (λ later. (m : Machine) → is_at link m → LeavesOpen (links.Holds (mark link) m.committed) (chip link) (chip later))
  -- What was set aside stays.
  pub aside : new.aside ≡ old.aside
