-- What a copy and each of its pieces come to: over the machines of both cards, and whatever is told of them.
use Rattle.std.specs.Prelude.{◌≡◌, ℕ, Bool, true, List, [], ◌∷◌, Option, IsTrue, OnOk, Result}
use Rattle.eeprom.specs.Chip.{Chip}
use Rattle.scql_base.specs.declared.operation.Command.{Command}
use Rattle.scql_base.specs.declared.words.StatusWord.{StatusWord}
use Rattle.scql_model.specs.Database.{Database}
use Rattle.scql_model.specs.Machine.{Machine, actor}
use Rattle.scql_model.specs.Matching.{Values}
use Rattle.scql_model.specs.ReadingCommands.{row_octets}
use Rattle.scql_model.specs.Records.{is_row}
use Rattle.scql_model.specs.Replies.{Reply}
use Rattle.script.specs.Commands.{IsSendable}
use Rattle.card_link.specs.Link.{Holds, IsOneOf, LeavesOpen}
use Rattle.planner.specs.declared.closing.Closing.{Closing}
use Rattle.planner.specs.declared.step.Step.{Step}
use Rattle.planner.specs.Planned.{IfSent, Planned}
use Rattle.card_asking.specs.Following.{ComesOn}
use Rattle.card_asking.specs.Giving.{GivesRows}
use Rattle.table_copy.specs.Copy.{Copy, may_begin, row_copied}
use Rattle.table_copy.specs.Copying.{StaysAt, UndoneSo}
use Rattle.table_copy.specs.Filling.{BeginsSo, CommitsSo, CopiesAt, InsertsSo, IsFetching, IsFilling, Piece, Together, TurnsSo, has_row, with_row}
use Rattle.table_copy.specs.Leaving.{Advances, ComesTo, CopiesOver, CopyLeaves, DestLeaves, FetchesOver, FillsOver, PieceLeaves, ReadsOver, SourceLeaves}
use Rattle.table_copy.specs.Progress.{ShowsRows}
use Rattle.table_copy.specs.declared.copy_end.CopyEnd.{CopyEnd}

-- The destination may be asked this: it answers, and the command can be sent.
pub record MayPut {L : Type 0} (is_live : L → Bool) (command : Command) (dest : L) : Type 0 where
  pub live : IsTrue (is_live dest)
  pub sendable : IsSendable command

-- BEGIN on the destination.
pub record BeginsOver {L : Type 0} (is_at : L → Machine → Type 0) (is_live : L → Bool) (faults mark : L → ℕ) (chip : L → Chip) (keeps goes_on : L → L → Type 0) (result : Piece (Unit {0})) (old new : L) : Type 0 where
  -- It is done, or refused as it is to be. A power loss leaves the database as it was.
  pub begins : (d : Machine) → is_at old d → ComesTo (Holds (mark old) d.committed) chip (BeginsSo is_at d (may_begin d) result new) old new
  -- Whatever is told of the destination, it answers still or is mute.
  pub leaves : DestLeaves is_live faults mark keeps goes_on result old new

-- INSERT of the row that these octets are.
pub record InsertsOver {L : Type 0} (is_at : L → Machine → Type 0) (is_live : L → Bool) (faults mark : L → ℕ) (chip : L → Chip) (keeps goes_on : L → L → Type 0) (table octets : List ℕ) (result : Piece (Unit {0})) (old new : L) : Type 0 where
  -- It is added to the working database, or refused as it is to be.
  pub inserts : (d : Machine) (db : Database) (row : Values) → CopiesAt is_at d db old → octets ≡ row_octets row → is_row row ≡ true
      → InsertsSo is_at d db (row_copied d.committed.limit (actor d 0) table db row) result new
  -- Whatever the octets are, the transaction stays open, and a power loss leaves the database as it was.
  pub fills : (d : Machine) → IsFilling is_at d old → FillsOver is_at mark chip d result old new
  -- Whatever is told of the destination, it answers still or is mute.
  pub leaves : DestLeaves is_live faults mark keeps goes_on result old new

-- COMMIT on the destination.
pub record CommitsOver {L : Type 0} (is_at : L → Machine → Type 0) (is_live : L → Bool) (faults mark : L → ℕ) (chip : L → Chip) (keeps goes_on : L → L → Type 0) (result : Piece (Unit {0})) (old new : L) : Type 0 where
  -- It is done. A power loss leaves the database as it was, or as it is to be.
  pub commits : (d : Machine) (db : Database) → CopiesAt is_at d db old → ComesTo (IsOneOf (mark old) (d.committed ∷ db ∷ [])) chip (CommitsSo is_at d db result new) old new
  -- Whatever is told of the destination, it answers still or is mute.
  pub leaves : DestLeaves is_live faults mark keeps goes_on result old new

-- The source's plan may be followed by a step: it answers, and the step can be sent.
pub record MayAdvance {L : Type 0} (is_live : L → Bool) (step : Step) (source : L) : Type 0 where
  pub live : IsTrue (is_live source)
  pub sendable : IfSent step IsSendable

-- The source's plan was followed by a step.
pub record AdvancesOver {L : Type 0} (is_at : L → Machine → Type 0) (is_live : L → Bool) (faults mark : L → ℕ) (chip : L → Chip) (keeps goes_on : L → L → Type 0) (p : Planned) (step : Step) (before : Reply) (result : Piece (Unit {0})) (q : Planned) (next : Step) (reply : Reply) (old new : L) : Type 0 where
  -- It came on by the card's answer, unless the source is mute.
  pub advances : Advances is_at p step before old result q next reply new
  -- A plan that only reads leaves the database as it was, at each moment.
  pub still : (m last : Machine) (closing : Closing) (rows : List Values) → GivesRows is_at m closing last rows p step old → LeavesOpen (Holds (mark old) m.committed) (chip old) (chip new)
  -- Where it goes on it is a step further.
  pub comes_on : OnOk result (ComesOn p step q next)
  -- Whatever is told of the source, it answers still or is mute.
  pub leaves : SourceLeaves is_live faults mark keeps goes_on result old new

-- A step's row was put in, and the step followed.
pub record TurnsOver {S D : Type 0} (s_at : S → Machine → Type 0) (s_live : S → Bool) (s_faults s_mark : S → ℕ) (s_chip : S → Chip) (s_keeps s_goes : S → S → Type 0) (d_at : D → Machine → Type 0) (d_live : D → Bool) (d_faults d_mark : D → ℕ) (d_chip : D → Chip) (d_keeps d_goes : D → D → Type 0) (table : List ℕ) (p : Planned) (step : Step) (result : Piece (Unit {0})) (q : Planned) (next : Step) (source later : S) (dest new : D) : Type 0 where
  -- Of both machines: the rows that are left lead to the same, and the step's row is counted.
  pub turns : (s d : Machine) (count passed : ℕ) (total : Result Database StatusWord) → Together s_at d_at s d count passed table total p step source dest
      → TurnsSo total result (λ _. Together s_at d_at s d count (with_row (has_row step) passed) table total q next later new)
  -- Of the source's: it is still to give its rows.
  pub reads : (s : Machine) → IsFetching s_at s p step source → FetchesOver s_at s_mark s_chip s result (IsFetching s_at s q next later) source later
  -- Of the destination's: its transaction stays open.
  pub fills : (d : Machine) → IsFilling d_at d dest → FillsOver d_at d_mark d_chip d result dest new
  -- Whatever is told of both.
  pub leaves : PieceLeaves s_live s_faults s_mark s_keeps s_goes d_live d_faults d_mark d_keeps d_goes result source later dest new
  -- Where it goes on the plan is a step further.
  pub comes_on : OnOk result (ComesOn p step q next)

-- All rows that were left were put in. So it came of a destination's machine whose rows make this, and so of one with an open transaction.
pub record RowsOver {S D P : Type 0} (came : Machine → ℕ → Result Database StatusWord → Type 0) (filled : Machine → Type 0) (s_at : S → Machine → Type 0) (s_live : S → Bool) (s_faults s_mark : S → ℕ) (s_chip : S → Chip) (s_keeps s_goes : S → S → Type 0) (d_at : D → Machine → Type 0) (d_live : D → Bool) (d_faults d_mark : D → ℕ) (d_keeps d_goes : D → D → Type 0) (lost : P → Bool) (shown : P → Option (List ℕ)) (table : List ℕ) (p : Planned) (step : Step) (result : Piece ℕ) (source later : S) (dest new : D) (person after : P) : Type 0 where
  -- Of both machines.
  pub turns : (s d : Machine) (count : ℕ) (total : Result Database StatusWord) → Together s_at d_at s d count 0 table total p step source dest → came d count total
  -- Of the source's: it is as it was.
  pub reads : (s : Machine) → IsFetching s_at s p step source → FetchesOver s_at s_mark s_chip s result (StaysAt s_at s later) source later
  -- Of the destination's.
  pub fills : (d : Machine) → IsFilling d_at d dest → filled d
  -- Whatever is told of both.
  pub leaves : PieceLeaves s_live s_faults s_mark s_keeps s_goes d_live d_faults d_mark d_keeps d_goes result source later dest new
  -- A person was shown how many rows were put in.
  pub shows : ShowsRows lost shown result person after

-- A whole copy ended so. Of the machines of both cards it is to make this.
pub record CopyEnds {S D P : Type 0} (s_at : S → Machine → Type 0) (s_live : S → Bool) (s_faults s_mark : S → ℕ) (s_chip : S → Chip) (s_keeps s_goes : S → S → Type 0) (d_at : D → Machine → Type 0) (d_live : D → Bool) (d_faults d_mark : D → ℕ) (d_chip : D → Chip) (d_keeps d_goes : D → D → Type 0) (lost : P → Bool) (shown : P → Option (List ℕ)) (copy : Machine → Machine → Copy) (result : CopyEnd) (source later : S) (dest new : D) (person after : P) : Type 0 where
  -- Where both cards tell their machines it ended as these say.
  pub copied : (s d : Machine) → s_at source s → d_at dest d → CopiesOver d_at d_mark d_chip d (copy s d) result dest new
  -- Whatever the source is, where the copy wasn't done a destination that answers is as before.
  pub undone : (d : Machine) → d_at dest d → UndoneSo d_at d result new
  -- Whatever the destination is, a source that answers is as before.
  pub read : (s : Machine) → s_at source s → ReadsOver s_at s_live s_mark s_chip s source later
  -- Whatever is told of both.
  pub leaves : CopyLeaves s_live s_faults s_mark s_keeps s_goes d_live d_faults d_mark d_keeps d_goes lost shown result source later dest new person after
