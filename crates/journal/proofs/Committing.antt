-- What is left of an image while the journal of a commit is written and its gate is opened.
use Rattle.std.proofs.Common.{◌≡◌, inl, inr, ℕ, ◌+◌, ◌*◌, ◌≤◌, false, List, [], ◌∷◌, length, Some, sym, ◌∙◌, arith}
use Rattle.std.proofs.lemmas.Option.{same_Some}
use Rattle.eeprom.specs.Image.{overwrite, IsTorn}
use Rattle.eeprom.specs.StoreOf.{front_size, journal_place, is_gate_open, written_directory, with_entries, directory}
use Rattle.eeprom.specs.declared.entry.Entry.{Entry}
use Rattle.journal.specs.Journal.{KeepsRest, TakesEntries, IsBetweenDirectories, IsReplayed, KeepsDirectory}
use Rattle.journal.specs.Redo.{HasJournal, IsOpenWith}
use Rattle.journal.specs.Run.{SameOutside}
use Rattle.journal.proofs.Outside.{torn-outside, torn-whole, gate-stays, directory-before, directory-behind, rest-gate, rest-body, rest-then}
use Rattle.journal.proofs.Redoing.{directory-closed, directory-either, directory-open, journal-kept, gate-open}

-- an image before the gate of a commit is opened: nothing but the journal was changed
pub record IsJournaled (n : ℕ) (was left : List ℕ) : Type 0 where
  pub rest : KeepsRest n was left
  pub closed : is_gate_open left ≡ false
  pub written : written_directory left n ≡ written_directory was n

pub journaled-same : (n : ℕ) (was left : List ℕ) → is_gate_open was ≡ false → SameOutside (journal_place n) (front_size n) was left → IsJournaled n was left
journaled-same n was left closed same = record {
  rest = rest-body n (32 + 2 * n) (34 + 6 * n) left was (omega arith) (omega arith) same;
  closed = gate-stays (32 + 2 * n) (34 + 6 * n) left was (omega arith) same ∙ closed;
  written = directory-before (32 + 2 * n) (34 + 6 * n) n left was (omega arith) same;
}

pub journaled-between : (n : ℕ) (entries : List Entry) (was left : List ℕ) → IsJournaled n was left → IsBetweenDirectories n entries was left
journaled-between n entries was left is = record { rest = is.rest; one = inl (directory-closed n left (written_directory was n) is.closed is.written) }

-- while the gate is opened
pub opening-between : (n : ℕ) (entries : List Entry) (was mid left : List ℕ) → IsJournaled n was mid → HasJournal n entries mid → 9 ≤ length mid → IsTorn mid 8 1 left → IsBetweenDirectories n entries was left
opening-between n entries was mid left is has room torn =
    let same = torn-outside mid left 8 1 8 9 (omega arith) (omega arith) (omega arith) torn in
    record {
      rest = rest-then n was mid left is.rest (rest-gate n left mid same);
      one = directory-either n entries left (written_directory was n) (journal-kept 8 9 n entries left mid (omega arith) same has) (directory-behind 8 9 n left mid (omega arith) same ∙ is.written);
    }

-- once it is open the directory in force is the one with the entries
pub record IsOpened (n : ℕ) (entries : List Entry) (was left : List ℕ) : Type 0 where
  pub rest : KeepsRest n was left
  pub gate : IsOpenWith n entries left
  pub with : directory left n ≡ Some (with_entries entries (written_directory was n))

pub opened : (n : ℕ) (entries : List Entry) (was mid : List ℕ) → IsJournaled n was mid → HasJournal n entries mid → 9 ≤ length mid → IsOpened n entries was (overwrite mid 8 (1 ∷ []))
opened n entries was mid is has room =
    let left : List ℕ = overwrite mid 8 (1 ∷ []) in
    let same = torn-outside mid left 8 1 8 9 (omega arith) (omega arith) (omega arith) (torn-whole mid 8 (1 ∷ [])) in
    let has' = journal-kept 8 9 n entries left mid (omega arith) same has in
    record {
      rest = rest-then n was mid left is.rest (rest-gate n left mid same);
      gate = record { gate = gate-open mid room; range = has'.range; listed = has'.listed };
      with = directory-open n entries left (written_directory was n) (gate-open mid room) has' (directory-behind 8 9 n left mid (omega arith) same ∙ is.written);
    }

pub opened-between : (n : ℕ) (entries : List Entry) (was mid left : List ℕ) → IsOpened n entries was mid → KeepsDirectory n mid left → IsBetweenDirectories n entries was left
opened-between n entries was mid left is keeps = record { rest = rest-then n was mid left is.rest keeps.rest; one = inr (keeps.same ∙ is.with) }

pub opened-done : (n : ℕ) (entries : List Entry) (was mid now : List ℕ) → IsOpened n entries was mid → IsReplayed n mid now → TakesEntries n entries was now
opened-done n entries was mid now is done = record {
  rest = rest-then n was mid now is.rest done.rest;
  closed = done.closed;
  written = same_Some _ _ (sym done.written ∙ is.with);
}
