-- What is left of an image while the entries behind an open gate are written into its directory, and once the gate is closed.
use Rattle.std.proofs.Common.{◌≡◌, ◌⊎◌, inl, inr, ℕ, ◌+◌, ◌*◌, ◌%◌, ◌<◌, ◌≤◌, ◌==◌, Bool, true, false, if◌then◌else◌, List, [], ◌∷◌, length, slice_index, Option, Some, None, sym, refl, ap, ap₂, ◌∙◌, arith, add-zero}
use Rattle.std.proofs.lemmas.Bool.{cases_Bool}
use Rattle.eeprom.specs.Image.{overwrite, IsTorn}
use Rattle.eeprom.specs.StoreOf.{journal_place, journal, is_in_range, is_gate_open, written_directory, with_entries, directory}
use Rattle.eeprom.specs.declared.entry.Entry.{Entry}
use Rattle.eeprom.proofs.Places.{length-numbers_at, get_or-numbers_at}
use Rattle.eeprom.proofs.Regions.{get-inside}
use Rattle.journal.specs.Journal.{KeepsRest, IsReplayed, KeepsDirectory}
use Rattle.journal.specs.Redo.{HasJournal, IsOpenWith, IsRewritten, IsRun, names}
use Rattle.journal.specs.Run.{Numbers, SameOutside, place_of}
use Rattle.journal.proofs.Entries.{with-agree}
use Rattle.journal.proofs.Outside.{torn-outside, torn-whole, take-less, drop-more, alike-before, alike-behind, number-alike, journal-stays, range-stays, gate-stays, directory-behind, rest-gate, rest-body, rest-then}

-- nothing but the octets of a run is other
pub rewritten-run : (n : ℕ) (entries : List Entry) (run : Numbers) (was left : List ℕ) → IsRun n entries run → SameOutside (place_of run) (place_of run + length run.octets) was left → IsRewritten n entries was left
rewritten-run n entries run was left is same =
    let size : length run.octets ≡ 2 * is.count = is.size in
    let within : run.index + is.count ≤ n = is.within in
    let from = place_of run in
    let to = place_of run + length run.octets in
    record {
      size = same.size;
      before = take-less from to 32 left was (omega arith) same;
      behind = drop-more from to (32 + 2 * n) left was (omega arith) same;
      others = λ slot inside other.
          get_or-numbers_at left 32 n slot 0 inside
          ∙ elim (apart slot run.index is.count) [
            | inl before ↦ number-alike left was (32 + 2 * slot) (32 + 2 * slot) (alike-before from to (32 + 2 * slot) 2 left was (omega arith) same)
            | inr more ↦ elim more [
              | inl behind ↦ number-alike left was (32 + 2 * slot) (32 + 2 * slot) (alike-behind from to (32 + 2 * slot) 2 left was (omega arith) same)
              | inr named ↦ absurd (both (names entries slot) (is.named slot named.0 named.1) other)
            ]
          ]
          ∙ sym (get_or-numbers_at was 32 n slot 0 inside);
    }
  where
    apart : (slot from count : ℕ) → (slot < from) ⊎ ((from + count ≤ slot) ⊎ ((from ≤ slot) × (slot < from + count)))
    apart slot from count = grind arith

    both : (b : Bool) → b ≡ true → b ≡ false → ⊥
    both b t f = cc

pub rewritten-then : (n : ℕ) (entries : List Entry) (was mid left : List ℕ) → IsRewritten n entries was mid → IsRewritten n entries mid left → IsRewritten n entries was left
rewritten-then n entries was mid left first second = record {
  size = second.size ∙ first.size;
  before = second.before ∙ first.before;
  behind = second.behind ∙ first.behind;
  others = λ slot inside other. second.others slot inside other ∙ first.others slot inside other;
}

same-outside : (n : ℕ) (entries : List Entry) (was left : List ℕ) → IsRewritten n entries was left → SameOutside 32 (32 + 2 * n) was left
same-outside n entries was left is = record { size = is.size; before = is.before; behind = is.behind }

rewritten-rest : (n : ℕ) (entries : List Entry) (was left : List ℕ) → IsRewritten n entries was left → KeepsRest n was left
rewritten-rest n entries was left is = rest-body n 32 (32 + 2 * n) left was (omega arith) (omega arith) (same-outside n entries was left is)

-- with the entries the directory is one
pub rewritten-with : (n : ℕ) (entries : List Entry) (was left : List ℕ) → IsRewritten n entries was left → with_entries entries (written_directory left n) ≡ with_entries entries (written_directory was n)
rewritten-with n entries was left is = with-agree entries (written_directory left n) (written_directory was n) (record {
  size = length-numbers_at left 32 n ∙ sym (length-numbers_at was 32 n);
  each = λ slot inside other. is.others slot (omega (arith, length-numbers_at left 32 n)) other;
})

-- the directory in force by what the gate, the range of the journal, its entries and the written directory say
abbrev in_force : Bool → Bool → List Entry → List ℕ → Option (List ℕ)
in_force gate range entries written = if gate then (if range then Some (with_entries entries written) else None) else Some written

-- behind an open gate a journal makes its entries those of the directory
pub directory-open : (n : ℕ) (entries : List Entry) (image written : List ℕ) → is_gate_open image ≡ true → HasJournal n entries image → written_directory image n ≡ written → directory image n ≡ Some (with_entries entries written)
directory-open n entries image written gate has is =
    ap (λ (gate : Bool). in_force gate (is_in_range image n) (journal image n) (written_directory image n)) gate
    ∙ ap (λ (range : Bool). in_force true range (journal image n) (written_directory image n)) has.range
    ∙ ap₂ (λ (entries : List Entry) (written : List ℕ). in_force true true entries written) has.listed is

pub directory-closed : (n : ℕ) (image written : List ℕ) → is_gate_open image ≡ false → written_directory image n ≡ written → directory image n ≡ Some written
directory-closed n image written closed is =
    ap (λ (gate : Bool). in_force gate (is_in_range image n) (journal image n) (written_directory image n)) closed ∙ ap Some is

pub journal-kept : (from to n : ℕ) (entries : List Entry) (left was : List ℕ) → to ≤ journal_place n → SameOutside from to was left → HasJournal n entries was → HasJournal n entries left
journal-kept from to n entries left was before same has = record {
  range = range-stays from to n left was before same ∙ has.range;
  listed = journal-stays from to n left was before same ∙ has.listed;
}

-- with either octet at the gate the directory in force is the written one, or the one with the entries
pub directory-either : (n : ℕ) (entries : List Entry) (image written : List ℕ) → HasJournal n entries image → written_directory image n ≡ written
    → (directory image n ≡ Some written) ⊎ (directory image n ≡ Some (with_entries entries written))
directory-either n entries image written has is = elim (cases_Bool (is_gate_open image)) [
  | inl gate ↦ inr (directory-open n entries image written gate has is)
  | inr closed ↦ inl (directory-closed n image written closed is)
]

open-journal : (n : ℕ) (entries : List Entry) (was : List ℕ) → IsOpenWith n entries was → HasJournal n entries was
open-journal n entries was is = record { range = is.range; listed = is.listed }

-- while the entries are written the directory in force stays
pub redo-keeps : (n : ℕ) (entries : List Entry) (was left : List ℕ) → IsOpenWith n entries was → IsRewritten n entries was left → KeepsDirectory n was left
redo-keeps n entries was left is rewritten =
    let same = same-outside n entries was left rewritten in
    let gate = gate-stays 32 (32 + 2 * n) left was (omega arith) same ∙ is.gate in
    record {
      rest = rewritten-rest n entries was left rewritten;
      same = directory-open n entries left (written_directory left n) gate (journal-kept 32 (32 + 2 * n) n entries left was (omega arith) same (open-journal n entries was is)) refl
          ∙ ap Some (rewritten-with n entries was left rewritten)
          ∙ sym (directory-open n entries was (written_directory was n) is.gate (open-journal n entries was is) refl);
    }

-- once they are written the gate may be either way
pub closing-keeps : (n : ℕ) (entries : List Entry) (was mid left : List ℕ) → IsOpenWith n entries was → IsRewritten n entries was mid → written_directory mid n ≡ with_entries entries (written_directory was n)
    → 9 ≤ length mid → IsTorn mid 8 1 left → KeepsDirectory n was left
closing-keeps n entries was mid left is rewritten written room torn =
    let same = torn-outside mid left 8 1 8 9 (omega arith) (omega arith) (omega arith) torn in
    let stays = directory-behind 8 9 n left mid (omega arith) same in
    let has = journal-kept 8 9 n entries left mid (omega arith) same (journal-kept 32 (32 + 2 * n) n entries mid was (omega arith) (same-outside n entries was mid rewritten) (open-journal n entries was is)) in
    let before : directory was n ≡ Some (with_entries entries (written_directory was n)) = directory-open n entries was (written_directory was n) is.gate (open-journal n entries was is) refl in
    record {
      rest = rest-then n was mid left (rewritten-rest n entries was mid rewritten) (rest-gate n left mid same);
      same = elim (directory-either n entries left (written_directory mid n) has stays) [
        | inl plain ↦ plain ∙ ap Some written ∙ sym before
        | inr again ↦ again ∙ ap Some (rewritten-with n entries was mid rewritten) ∙ sym before
      ];
    }

gate-written : (mid gate : List ℕ) → 9 ≤ length mid → length gate ≡ 1 → slice_index (overwrite mid 8 gate) 8 ≡ slice_index gate 0
gate-written mid gate room one = rw add-zero at (get-inside mid 8 gate 0 (omega arith) (omega arith))

pub gate-closed : (mid : List ℕ) → 9 ≤ length mid → is_gate_open (overwrite mid 8 (0 ∷ [])) ≡ false
gate-closed mid room = ap (λ (octet : ℕ). octet % 2 == 1) (gate-written mid (0 ∷ []) room refl)

pub gate-open : (mid : List ℕ) → 9 ≤ length mid → is_gate_open (overwrite mid 8 (1 ∷ [])) ≡ true
gate-open mid room = ap (λ (octet : ℕ). octet % 2 == 1) (gate-written mid (1 ∷ []) room refl)

pub redo-done : (n : ℕ) (entries : List Entry) (was mid : List ℕ) → IsOpenWith n entries was → IsRewritten n entries was mid → written_directory mid n ≡ with_entries entries (written_directory was n)
    → 9 ≤ length mid → IsReplayed n was (overwrite mid 8 (0 ∷ []))
redo-done n entries was mid is rewritten written room =
    let left : List ℕ = overwrite mid 8 (0 ∷ []) in
    let same = torn-outside mid left 8 1 8 9 (omega arith) (omega arith) (omega arith) (torn-whole mid 8 (0 ∷ [])) in
    record {
      rest = rest-then n was mid left (rewritten-rest n entries was mid rewritten) (rest-gate n left mid same);
      closed = gate-closed mid room;
      written = directory-open n entries was (written_directory was n) is.gate (open-journal n entries was is) refl
          ∙ ap Some (sym (directory-behind 8 9 n left mid (omega arith) same ∙ written));
    }
