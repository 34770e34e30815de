-- What a commit and a replay make of an image, and what a power loss may leave of it.
use Rattle.std.specs.Prelude.{◌≡◌, ◌⊎◌, ℕ, ◌≤◌, IsTrue, false, List, length, take, drop, slice_range, Some}
use Rattle.std.specs.List.{list_all}
use Rattle.eeprom.specs.StoreOf.{front_size, header_size, is_entry, written_directory, directory, with_entries, is_gate_open}
use Rattle.eeprom.specs.declared.entry.Entry.{Entry}

-- these may be the entries of a journal: at most as many as there are slots, each of a slot and with a cell or none
pub record AreEntriesOf (n : ℕ) (entries : List Entry) : Type 0 where
  pub few : length entries ≤ n
  pub range : IsTrue (list_all (is_entry n) entries)

-- all octets but those of the gate, the directory and the journal are as they were
pub record KeepsRest (n : ℕ) (was left : List ℕ) : Type 0 where
  pub size : length left ≡ length was
  pub front : take 8 left ≡ take 8 was
  pub behind_gate : slice_range left 9 header_size ≡ slice_range was 9 header_size
  pub cells : drop (front_size n) left ≡ drop (front_size n) was

-- after a commit the gate is closed, and the directory has the entries
pub record TakesEntries (n : ℕ) (entries : List Entry) (was now : List ℕ) : Type 0 where
  pub rest : KeepsRest n was now
  pub closed : is_gate_open now ≡ false
  pub written : written_directory now n ≡ with_entries entries (written_directory was n)

-- during a commit the directory in force is the one from before, or the one with all entries
pub record IsBetweenDirectories (n : ℕ) (entries : List Entry) (was left : List ℕ) : Type 0 where
  pub rest : KeepsRest n was left
  pub one : (directory left n ≡ Some (written_directory was n)) ⊎ (directory left n ≡ Some (with_entries entries (written_directory was n)))

-- after a replay the gate is closed, and the directory that was in force is written
pub record IsReplayed (n : ℕ) (was now : List ℕ) : Type 0 where
  pub rest : KeepsRest n was now
  pub closed : is_gate_open now ≡ false
  pub written : directory was n ≡ Some (written_directory now n)

-- during a replay the directory in force stays
pub record KeepsDirectory (n : ℕ) (was left : List ℕ) : Type 0 where
  pub rest : KeepsRest n was left
  pub same : directory left n ≡ directory was n
