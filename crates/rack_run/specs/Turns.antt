-- What turns of a rack leave of the links that are set aside in them.
use Rattle.std.specs.Prelude.{◌≡◌, ℕ, Bool, false, List, [], ◌∷◌, Option, Some, None, IsTrue, if◌then◌else◌}
use Rattle.scql_model.specs.Machine.{Machine}
use Rattle.reader_rack.specs.OwnLines.{ejects}
use Rattle.reader_rack.specs.RackText.{Held, nothing, mute, sits, RackState, Turn, turn_effect}

-- what a reader holds, if it holds a link
abbrev pub held_link : Held → Option Held
held_link nothing = None
held_link held = Some held

-- what a reader held whose link is set aside in a turn
abbrev pub set_aside_by : ℕ → RackState → Turn → Option Held
set_aside_by number rack turn = if ejects number turn.line then held_link (rack.reader number) else None

abbrev pub later_or : Option Held → Option Held → Option Held
later_or None earlier = earlier
later_or (Some held) earlier = Some held

-- what a reader held when its link was last set aside in these turns, if it was
abbrev pub set_aside_in : ℕ → RackState → List Turn → Option Held
set_aside_in number rack [] = None
set_aside_in number rack (turn ∷ turns) = later_or (set_aside_in number (turn_effect rack turn).next turns) (set_aside_by number rack turn)

-- The link is the one that the reader held so: it is at that machine still, or mute.
abbrev pub IsHeldAside : {L : Type 0} → (L → Machine → Type 0) → (L → Bool) → Option L → Held → Type 0
IsHeldAside is_at is_live (Some link) (sits state) = IsTrue (is_live link) × is_at link state.machine
IsHeldAside is_at is_live (Some link) mute = is_live link ≡ false
IsHeldAside is_at is_live link held = ⊥

-- the link that is set aside: the one that the reader held so, or else the one that was aside before
abbrev pub IsAside : {L : Type 0} → (L → Machine → Type 0) → (L → Bool) → Option Held → Option L → Option L → Type 0
IsAside is_at is_live None before now = now ≡ before
IsAside is_at is_live (Some held) before now = IsHeldAside is_at is_live now held
