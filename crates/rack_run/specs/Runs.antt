-- What a run over a rack prints, and what it leaves of the rack.
use Rattle.std.specs.Prelude.{◌≡◌, ℕ, ◌<◌, ◌≤◌, Bool, true, false, List, [], ◌++◌, length, map, Option}
use Rattle.std.specs.List.{concat}
use Rattle.eeprom.specs.Chip.{Becomes}
use Rattle.eeprom.specs.Fault.{Rose}
use Rattle.eeprom.specs.Output.{Prints}
use Rattle.scql_model.specs.Lines.{taken_line}
use Rattle.scql_model.specs.Machine.{Machine}
use Rattle.line_input.specs.Cutting.{open_end, taken_lines}
use Rattle.line_input.specs.Reading.{IsCutShort, longest_input}
use Rattle.person.specs.Showing.{Shows, ShowsSome}
use Rattle.planner.specs.StatementLines.{TerminalState}
use Rattle.reader_rack.specs.declared.reader.Reader.{Reader}
use Rattle.reader_rack.specs.OwnLines.{OwnTurn, own_turns, statements_text}
use Rattle.reader_rack.specs.RackText.{RackState, Turn, rack_after, rack_effect, rack_text, sits, was_muted, was_refused}
use Rattle.reader_rack.specs.Racks.{IsRack, aside_at, count_at}
use Rattle.reader_rack.specs.Statements.{IsReader}
use Rattle.rack_run.specs.declared.status.RackStatus.{RackStatus}
use Rattle.rack_run.specs.declared.status.RackStatus.TheVariants.{Done, Refused, Mute, ReadFault, WriteFault, TooLong}
use Rattle.rack_run.specs.Prompts.{prompts}
use Rattle.rack_run.specs.Status.{IsEnded, ended_as}
use Rattle.rack_run.specs.Turns.{IsAside, set_aside_in}
use Rattle.rack_run.specs.Views.{AllCountsStay, NoCountFalls, SomeCardFailed}

-- Which octets these are of the input: all; or those that had come when the source failed, or within the longest input; or those before the line in which the outlet failed.
abbrev pub AreTaken : RackStatus → List ℕ → List ℕ → List ℕ → Type 0
AreTaken ReadFault octets input left = input ≡ octets ++ left
AreTaken TooLong octets input left = (length octets ≡ longest_input) × (more : List ℕ) × (input ≡ octets ++ (more ++ left)) × (0 < length more)
AreTaken WriteFault octets input left = IsCutShort octets input left
AreTaken status octets input left = (length octets ≤ longest_input) × (input ≡ octets) × (left ≡ [])

-- The lines that were carried out, of these octets: all; or the whole ones, where the run didn't come to the end of its input.
abbrev pub carried_out : RackStatus → List ℕ → List (Option (List ℕ))
carried_out ReadFault octets = taken_lines octets false
carried_out TooLong octets = taken_lines octets false
carried_out WriteFault octets = taken_lines octets false
carried_out status octets = taken_lines octets true

-- a text was printed, and behind it the start of another one
pub record IsCutBehind (text last : List ℕ) (given now : Option (List ℕ)) : Type 0 where
  pub said : List ℕ
  pub rest : List ℕ
  pub start : last ≡ said ++ rest
  pub printed : Prints (text ++ said) given now

-- What was printed: the texts of the turns; and where the outlet failed, the start of that of one more line.
abbrev pub PrintsTurns : RackStatus → RackState → List Turn → Option (List ℕ) → Option (List ℕ) → Option (List ℕ) → Type 0
PrintsTurns WriteFault state turns last given now = (fails : Option ℕ) × IsCutBehind (rack_text state turns) (rack_effect (rack_after state turns) last fails).text given now
PrintsTurns status state turns last given now = Prints (rack_text state turns) given now

-- unless the outlet failed
abbrev pub UnlessCut : RackStatus → Type 0 → Type 0
UnlessCut WriteFault P = Unit {0}
UnlessCut status P = P

-- the texts of a reader's own lines are a terminal's, from a state on
abbrev pub AreTerminals : TerminalState → List OwnTurn → Type 0
AreTerminals state own = concat (map (λ (turn : OwnTurn). turn.text) own) ≡ statements_text state (map (λ (own : OwnTurn). own.turn.line) own)

-- A run of these octets from a state of the rack on.
pub record RunsFrom {L : Type 0} (is_at : L → Machine → Type 0) (is_live : L → Bool) (faults : L → ℕ) (state : RackState) (status : RackStatus) (octets : List ℕ) (old new : List (Reader L)) (current' : ℕ) (given now : Option (List ℕ)) : Type 0 where
  -- Each line was a turn, in which a card went mute or not.
  pub turns : List Turn
  pub of_lines : map (λ (turn : Turn). turn.line) turns ≡ carried_out status octets
  pub text : PrintsTurns status state turns (taken_line (open_end octets)) given now
  -- The rack is at the state after them, and a link that was set aside is as its reader held it then.
  pub rack : UnlessCut status (IsRack is_at is_live new current' (rack_after state turns))
  pub asides : UnlessCut status ((number : ℕ) → IsReader number → IsAside is_at is_live (set_aside_in number state turns) (aside_at old number) (aside_at new number))
  -- Where the input was read to its end, the status tells whether a card went mute, or else whether a line was refused.
  pub ended : IsEnded status → status ≡ ended_as (was_muted state turns) (was_refused state turns)
  -- A card whose count didn't rise answered its own lines as at a terminal of its own.
  pub own : (number : ℕ) (at : TerminalState) → IsReader number → state.reader number ≡ sits at → ¬ Rose (count_at faults old number) (count_at faults new number) → AreTerminals at (own_turns number state turns)

-- A run over its input: of it these octets were taken, and from each state on, where the rack is at it, their lines were carried out.
pub record Runs {L : Type 0} (is_at : L → Machine → Type 0) (is_live : L → Bool) (faults : L → ℕ) (status : RackStatus) (start left : Option (List ℕ)) (old : List (Reader L)) (current : ℕ) (new : List (Reader L)) (current' : ℕ) (given now : Option (List ℕ)) : Type 0 where
  pub octets : List ℕ
  pub are_taken : Becomes (AreTaken status octets) start left
  pub from : (state : RackState) → IsRack is_at is_live old current state → RunsFrom is_at is_live faults state status octets old new current' given now

-- A run, and how it left its input.
pub record RunsToEnd {L : Type 0} (is_at : L → Machine → Type 0) (is_live : L → Bool) (faults : L → ℕ) (status : RackStatus) (start left : Option (List ℕ)) (old : List (Reader L)) (current : ℕ) (new : List (Reader L)) (current' : ℕ) (given now : Option (List ℕ)) : Type 0 where
  -- From a state on, where the rack is at it: what was printed, where the rack is then, and which card did what it was asked for.
  pub runs : Runs is_at is_live faults status start left old current new current' given now
  -- The input was read to its end, or it is longer than an input may be.
  pub whole : IsEnded status → Becomes (λ input left. (left ≡ []) × (length input ≤ longest_input)) start left
  pub too_long : status ≡ TooLong → Becomes (λ input left. longest_input < length input) start left

-- A run in which no card went mute leaves all cards' counts; it says so of one that failed; and no count ever falls.
abbrev pub CountsRun : {L : Type 0} → (L → ℕ) → RackStatus → List (Reader L) → List (Reader L) → Type 0
CountsRun faults Done old new = AllCountsStay faults old new
CountsRun faults Refused old new = AllCountsStay faults old new
CountsRun faults Mute old new = SomeCardFailed faults old new × NoCountFalls faults old new
CountsRun faults status old new = NoCountFalls faults old new

-- the source failed, or the outlet, exactly where the status says so
abbrev pub CountsDevices : RackStatus → (source source' sink sink' : ℕ) → Type 0
CountsDevices ReadFault source source' sink sink' = Rose source source' × (source ≤ source') × (sink' ≡ sink)
CountsDevices WriteFault source source' sink sink' = (source' ≡ source) × Rose sink sink' × (sink ≤ sink')
CountsDevices status source source' sink sink' = (source' ≡ source) × (sink' ≡ sink)

-- A person is shown a prompt before the first line, and behind each line that was carried out.
pub record ShowsPrompts {P : Type 0} (lost : P → Bool) (shown : P → Option (List ℕ)) (status : RackStatus) (start left : Option (List ℕ)) (current : ℕ) (person after : P) : Type 0 where
  pub octets : List ℕ
  pub are_taken : Becomes (AreTaken status octets) start left
  pub shows : Shows lost shown (prompts current (carried_out status octets)) person after

-- What two people are shown, who may sit at the same screen.
pub record ShowsBoth {P N : Type 0} (lost : P → Bool) (shown : P → Option (List ℕ)) (lost' : N → Bool) (shown' : N → Option (List ℕ)) (status : RackStatus) (start left : Option (List ℕ)) (current : ℕ) (person after : P) (notices notices' : N) : Type 0 where
  -- The one is shown which reader is current, before the first line and behind each line that was carried out.
  pub prompts : ShowsPrompts lost shown status start left current person after
  -- The other one is shown some text.
  pub told : ShowsSome lost' shown' notices notices'
