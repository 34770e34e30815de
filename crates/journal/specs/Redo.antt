-- What the entries behind an open gate make of a directory, in one write after another.
use Rattle.std.specs.Prelude.{◌≡◌, ℕ, ◌+◌, ◌*◌, ◌<◌, ◌≤◌, ◌==◌, Bool, true, false, List, length, take, drop, get_or, Option, IfSome}
use Rattle.std.specs.List.{list_any}
use Rattle.eeprom.specs.StoreOf.{header_size, journal_place, written_directory, journal, is_in_range, is_gate_open, with_entries}
use Rattle.eeprom.specs.declared.entry.Entry.{Entry}
use Rattle.journal.specs.Journal.{AreEntriesOf}
use Rattle.journal.specs.Run.{Numbers}

-- an entry names this slot
abbrev pub names : List Entry → ℕ → Bool
names entries slot = list_any (λ entry. entry.slot == slot) entries

-- the journal is in range, and these are its entries
pub record HasJournal (n : ℕ) (entries : List Entry) (image : List ℕ) : Type 0 where
  pub range : is_in_range image n ≡ true
  pub listed : journal image n ≡ entries

-- the gate is open, and behind it stands a journal with these entries
pub record IsOpenWith (n : ℕ) (entries : List Entry) (image : List ℕ) : Type 0 where
  pub gate : is_gate_open image ≡ true
  pub range : is_in_range image n ≡ true
  pub listed : journal image n ≡ entries

-- all octets but those of the directory are as they were, and so are its numbers in the slots that no entry names
pub record IsRewritten (n : ℕ) (entries : List Entry) (was left : List ℕ) : Type 0 where
  pub size : length left ≡ length was
  pub before : take header_size left ≡ take header_size was
  pub behind : drop (journal_place n) left ≡ drop (journal_place n) was
  pub others : (slot : ℕ) → slot < n → names entries slot ≡ false → get_or (written_directory left n) slot 0 ≡ get_or (written_directory was n) slot 0

-- the slots of a run are those of a directory, and entries name them
pub record IsRun (n : ℕ) (entries : List Entry) (run : Numbers) : Type 0 where
  pub count : ℕ
  pub size : length run.octets ≡ 2 * count
  pub within : run.index + count ≤ n
  pub named : (slot : ℕ) → run.index ≤ slot → slot < run.index + count → names entries slot ≡ true

-- the written directory has these entries, and is else as it was
abbrev pub HasEntries : ℕ → List Entry → List ℕ → List ℕ → Type 0
HasEntries n entries was now = written_directory now n ≡ with_entries entries (written_directory was n)

-- What an open gate asks for may be done: these are the entries of the journal behind it.
pub record MayRedo (n : ℕ) (listed : List Entry) (image : Option (List ℕ)) : Type 0 where
  pub entries : AreEntriesOf n listed
  pub over : IfSome image (IsOpenWith n listed)

-- These entries may be committed: the gate is closed.
pub record MayCommit (n : ℕ) (listed : List Entry) (image : Option (List ℕ)) : Type 0 where
  pub entries : AreEntriesOf n listed
  pub closed : IfSome image (λ image. is_gate_open image ≡ false)
