-- What a copy and its pieces leave of the cards: over one machine of each, and whatever is told of them.
use Rattle.std.specs.Prelude.{◌≡◌, ℕ, ◌∷◌, Bool, List, Option, IsTrue}
use Rattle.eeprom.specs.Chip.{Chip}
use Rattle.scql_model.specs.Database.{Database}
use Rattle.scql_model.specs.Machine.{Machine}
use Rattle.scql_model.specs.Matching.{Values}
use Rattle.scql_model.specs.Replies.{Reply}
use Rattle.script.specs.Commands.{IsSendable}
use Rattle.card_link.specs.Link.{Holds, IsOneOf, LeavesOpen}
use Rattle.planner.specs.declared.closing.Closing.{Closing}
use Rattle.planner.specs.declared.step.Step.{Step}
use Rattle.planner.specs.Planned.{IfSent, Planned}
use Rattle.card_asking.specs.Calls.{HasGoneOn}
use Rattle.card_asking.specs.Following.{heard_at, turn_by}
use Rattle.card_asking.specs.Giving.{GivesRows, behind_step}
use Rattle.table_copy.specs.declared.copy_end.CopyEnd.{CopyEnd}
use Rattle.table_copy.specs.Copy.{Copy}
use Rattle.table_copy.specs.Copying.{CopiesSo, EndsBy, GoesBy, ReadsSo}
use Rattle.table_copy.specs.Filling.{FetchesSo, IsFilling, OfDest, OfSource, Piece, UnlessDestMute, UnlessSourceMute, goes_on_by}
use Rattle.table_copy.specs.Progress.{ShowsCopy}

-- A copy ended so on a destination that was at a machine. It is to do this there.
pub record CopiesOver {L : Type 0} (is_at : L → Machine → Type 0) (mark : L → ℕ) (chip : L → Chip) (d : Machine) (copy : Copy) (result : CopyEnd) (old new : L) : Type 0 where
  -- It ended as it is to, and all of it was committed.
  pub copies : CopiesSo is_at d copy result new
  -- A power loss leaves the database as it was, or with all rows.
  pub dest_moments : LeavesOpen (IsOneOf (mark old) (d.committed ∷ copy.commits)) (chip old) (chip new)

-- A copy read from a source that was at a machine.
pub record ReadsOver {L : Type 0} (is_at : L → Machine → Type 0) (is_live : L → Bool) (mark : L → ℕ) (chip : L → Chip) (s : Machine) (old new : L) : Type 0 where
  -- Where the source answers it is as it was.
  pub reads : ReadsSo is_at is_live s new
  -- A power loss leaves the database that it had.
  pub source_moments : LeavesOpen (Holds (mark old) s.committed) (chip old) (chip new)

-- What a copy leaves that ended so.
pub record CopyLeaves {S D P : Type 0} (s_live : S → Bool) (s_faults s_mark : S → ℕ) (s_keeps s_goes : S → S → Type 0) (d_live : D → Bool) (d_faults d_mark : D → ℕ) (d_keeps d_goes : D → D → Type 0) (lost : P → Bool) (shown : P → Option (List ℕ)) (result : CopyEnd) (source next : S) (dest new : D) (person after : P) : Type 0 where
  -- It ended so since that card failed, or none did.
  pub causes : EndsBy s_live s_faults d_live d_faults result source next dest new
  -- Both links go on.
  pub source_goes_on : HasGoneOn s_mark s_keeps s_goes source next
  pub dest_goes_on : HasGoneOn d_mark d_keeps d_goes dest new
  -- A person was shown how far it came.
  pub shows : ShowsCopy lost shown result person after

-- A copy can go on that is under way: both cards answer, and the step can be sent at which the source's plan is.
pub record CanGoOn {S D : Type 0} (s_live : S → Bool) (d_live : D → Bool) (step : Step) (source : S) (dest : D) : Type 0 where
  pub live : IsTrue (s_live source) × IsTrue (d_live dest)
  pub sendable : IfSent step IsSendable

-- So of a piece of it: over a source that was at a machine,
pub record FetchesOver {L A : Type 0} (is_at : L → Machine → Type 0) (mark : L → ℕ) (chip : L → Chip) (s : Machine) (result : Piece A) (then' : Type 0) (old new : L) : Type 0 where
  pub reads : FetchesSo is_at s result then' new
  pub still : LeavesOpen (Holds (mark old) s.committed) (chip old) (chip new)

-- over a destination that was at a machine,
pub record FillsOver {L A : Type 0} (is_at : L → Machine → Type 0) (mark : L → ℕ) (chip : L → Chip) (d : Machine) (result : Piece A) (old new : L) : Type 0 where
  pub fills : UnlessDestMute result (IsFilling is_at d new)
  pub moments : LeavesOpen (Holds (mark old) d.committed) (chip old) (chip new)

-- and whatever is told, of both,
pub record PieceLeaves {S D A : Type 0} (s_live : S → Bool) (s_faults s_mark : S → ℕ) (s_keeps s_goes : S → S → Type 0) (d_live : D → Bool) (d_faults d_mark : D → ℕ) (d_keeps d_goes : D → D → Type 0) (result : Piece A) (source next : S) (dest new : D) : Type 0 where
  pub ends : GoesBy s_live s_faults d_live d_faults result source next dest new
  pub source_rest : HasGoneOn s_mark s_keeps s_goes source next
  pub dest_rest : HasGoneOn d_mark d_keeps d_goes dest new

-- of the source alone,
pub record SourceLeaves {L A : Type 0} (is_live : L → Bool) (faults mark : L → ℕ) (keeps goes_on : L → L → Type 0) (result : Piece A) (old new : L) : Type 0 where
  pub ends : OfSource is_live faults result old new
  pub rest : HasGoneOn mark keeps goes_on old new

-- and of the destination alone.
pub record DestLeaves {L A : Type 0} (is_live : L → Bool) (faults mark : L → ℕ) (keeps goes_on : L → L → Type 0) (result : Piece A) (old new : L) : Type 0 where
  pub ends : OfDest is_live faults result old new
  pub rest : HasGoneOn mark keeps goes_on old new

-- What came of a piece of a copy on one card of which it is told what it was at before, and what a power loss leaves meanwhile.
pub record ComesTo {L : Type 0} (moment : ℕ → Database → Type 0) (chip : L → Chip) (came : Type 0) (old new : L) : Type 0 where
  -- This came of it.
  pub comes : came
  -- At each moment the database is one of these.
  pub moments : LeavesOpen moment (chip old) (chip new)

-- The source's plan was followed by a step, unless the source is mute.
pub record Advances {L : Type 0} (is_at : L → Machine → Type 0) (p : Planned) (step : Step) (before : Reply) (old : L) (result : Piece (Unit {0})) (q : Planned) (next : Step) (reply : Reply) (new : L) : Type 0 where
  -- It is still to give the rows that are left behind the step.
  pub gives : (m last : Machine) (closing : Closing) (rows : List Values) → GivesRows is_at m closing last rows p step old → UnlessSourceMute result (GivesRows is_at m closing last (behind_step step rows) q next new)
  -- The copy ends where the plan was refused.
  pub goes_on : UnlessSourceMute result (result ≡ goes_on_by next)
  -- The plan goes on by the reply, which is the answer to the command that the step sends.
  pub turns : UnlessSourceMute result (turn_by p step reply ≡ record { plan = q; step = next })
  pub heard : (m : Machine) → is_at old m → UnlessSourceMute result (reply ≡ heard_at m step before)
