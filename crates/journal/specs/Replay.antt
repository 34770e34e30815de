-- How a replay of a journal ends, and the reading of it.
use Rattle.std.specs.Prelude.{◌≡◌, ℕ, ◌+◌, ◌*◌, ◌<◌, ◌≤◌, Bool, false, true, List, Option, Some, None, length, Result, OnOk, IfOk, IfSome, IsErrOf, is_some}
use Rattle.std.specs.List.{list_all}
use Rattle.eeprom.specs.Calls.{ReadsOnly}
use Rattle.eeprom.specs.Chip.{Chip, Becomes, LeavesOf, RisesAtMost, RisesBy}
use Rattle.eeprom.specs.Fault.{CountsFaults, each_error}
use Rattle.eeprom.specs.OnImage.{ReadsImage, StaysOn}
use Rattle.eeprom.specs.StoreOf.{directory, entries_at, is_entry, is_gate_open, is_in_range, journal_place, number_at}
use Rattle.eeprom.specs.declared.device.Eeprom.{Ghosts}
use Rattle.eeprom.specs.declared.entry.Entry.{Entry}
use Rattle.eeprom.specs.declared.image_bench.ImageBench.{ImageBench}
use Rattle.journal.specs.Faults.{is_replay_fault}
use Rattle.journal.specs.Journal.{IsReplayed, KeepsDirectory}
use Rattle.journal.specs.Redo.{HasJournal}
use Rattle.journal.specs.declared.refusal.ReplayRefusal.{ReplayRefusal}
use Rattle.journal.specs.declared.refusal.ReplayRefusal.TheVariants.{BadJournal}

-- The entries of a journal behind an open gate were made those of the directory, and the gate was closed.
pub record Replays {B T : Type 0} {g : Ghosts B} (old new : ImageBench B g) (result : Result T ReplayRefusal) : Type 0 where
  pub done : OnOk result (Becomes (IsReplayed old.cells) (g.chip old.bench.now).image (g.chip new.bench.now).image)
  pub told : OnOk result (is_some (g.chip new.bench.now).image ≡ is_some (g.chip old.bench.now).image)
  pub still : (g.chip new.bench.now).still ≡ (g.chip old.bench.now).still
  pub moments : LeavesOf (KeepsDirectory old.cells) (g.chip old.bench.now) (g.chip new.bench.now)
  -- A journal that isn't in range is refused, and the image has no directory then.
  pub bad_journal : IsErrOf result BadJournal → (g.chip new.bench.now ≡ g.chip old.bench.now) × IfSome (g.chip old.bench.now).image (λ image. directory image old.cells ≡ None)
  -- Where the gate is closed nothing is written.
  pub closed_gate : (image : List ℕ) → (g.chip old.bench.now).image ≡ Some image → is_gate_open image ≡ false → g.chip new.bench.now ≡ g.chip old.bench.now
  pub octets_read : Becomes (RisesAtMost (3 + 4 * old.cells)) (g.octets_read old.bench.now) (g.octets_read new.bench.now)
  pub octets_written : OnOk result (Becomes (RisesAtMost (1 + 2 * old.cells)) (g.chip old.bench.now).written (g.chip new.bench.now).written)
  pub cause : CountsFaults is_replay_fault (g.faults old.bench.now) (g.faults new.bench.now) result
  pub stays : StaysOn old new

-- The entries of the journal are read, where it is in range.
pub record ReadsJournal {B T : Type 0} {g : Ghosts B} (entries : List Entry) (old new : ImageBench B g) (result : Result T ReplayRefusal) : Type 0 where
  pub journal : OnOk result (IfSome (g.chip old.bench.now).image (HasJournal old.cells entries))
  pub few : OnOk result (length entries ≤ old.cells)
  pub range : OnOk result (list_all (is_entry old.cells) entries ≡ true)
  pub bad_journal : IsErrOf result BadJournal → IfSome (g.chip old.bench.now).image (λ image. is_in_range image old.cells ≡ false)
  pub reads : ReadsImage is_replay_fault (RisesAtMost (2 + 4 * old.cells)) old new result

-- The number of its entries is read, where it is at most that of the slots.
pub record ReadsCount {B : Type 0} {g : Ghosts B} (old new : ImageBench B g) (result : Result ℕ ReplayRefusal) : Type 0 where
  pub count : IfOk result (λ count. IfSome (g.chip old.bench.now).image (λ image. count ≡ number_at image (journal_place old.cells)))
  pub few : IfOk result (λ count. count ≤ old.cells)
  pub bad_journal : IsErrOf result BadJournal → IfSome (g.chip old.bench.now).image (λ image. old.cells < number_at image (journal_place old.cells))
  pub reads : ReadsImage is_replay_fault (RisesBy 2) old new result

-- So many entries are read, where each is in range.
pub record ReadsEntries {B T : Type 0} {g : Ghosts B} (size : ℕ) (read : List Entry) (old new : ImageBench B g) (result : Result T ReplayRefusal) : Type 0 where
  pub entries : OnOk result (IfSome (g.chip old.bench.now).image (λ image. read ≡ entries_at image (journal_place old.cells + 2) size))
  pub count : OnOk result (length read ≡ size)
  pub range : OnOk result (list_all (is_entry old.cells) read ≡ true)
  pub bad_journal : IsErrOf result BadJournal → IfSome (g.chip old.bench.now).image (λ image. list_all (is_entry old.cells) (entries_at image (journal_place old.cells + 2) size) ≡ false)
  pub reads : ReadsImage is_replay_fault (RisesAtMost (4 * size)) old new result

-- The gate is read.
pub record ReadsGate {S E : Type 0} (chip : S → Chip) (faults : S → ℕ) (octets : S → Option ℕ) (old new : S) (result : Result Bool E) : Type 0 where
  pub gate : IfOk result (λ is_open. IfSome (chip old).image (λ image. is_open ≡ is_gate_open image))
  pub reads : ReadsOnly each_error chip faults octets (RisesBy 1) old new result
