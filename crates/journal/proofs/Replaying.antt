-- What is known of a journal that was read.
use Rattle.std.proofs.Common.{◌≡◌, ℕ, ◌+◌, ◌≤◌, ◌<◌, ◌&&◌, nat_le, Bool, true, false, List, Option, Some, None, Result, Ok, Err, IfSome, OnOk, refl, sym, ap, ap₂, ◌∙◌, arith}
use Rattle.std.proofs.lemmas.Bool.{le-leb}
use Rattle.std.proofs.lemmas.Bool.Decides.{nat_tests}
use Rattle.std.specs.List.{list_all}
use Rattle.eeprom.specs.StoreOf.{number_at, entries_at, journal, journal_place, is_entry, is_gate_open, is_in_range, directory}
use Rattle.eeprom.specs.declared.entry.Entry.{Entry}
use Rattle.journal.specs.Redo.{HasJournal, IsOpenWith}

-- a gate that was read is open
pub gate-read : (image : Option (List ℕ)) (is_open : Bool) → is_open ≡ true → IfSome image (λ image. is_open ≡ is_gate_open image) → IfSome image (λ image. is_gate_open image ≡ true)
gate-read None is_open is read = tt
gate-read (Some image) is_open is read = sym read ∙ is

-- so many entries as the journal says, and all of them
listed-read : (n count : ℕ) (image : List ℕ) → count ≡ number_at image (journal_place n) → journal image n ≡ entries_at image (journal_place n + 2) count
listed-read n count image number = ap (λ (count : ℕ). entries_at image (journal_place n + 2) count) (sym number)

journal-read : (n count : ℕ) (entries : List Entry) (image : Option (List ℕ)) → count ≤ n → IfSome image (λ image. count ≡ number_at image (journal_place n))
    → IfSome image (λ image. entries ≡ entries_at image (journal_place n + 2) count) → list_all (is_entry n) entries ≡ true → IfSome image (HasJournal n entries)
journal-read n count entries None few number taken range = tt
journal-read n count entries (Some image) few number taken range =
    let listed : journal image n ≡ entries = listed-read n count image number ∙ sym taken in
    record {
      range = ap₂ (λ (count : ℕ) (entries : List Entry). nat_le count n && list_all (is_entry n) entries) (sym number) listed ∙ rw (range, le-leb count n few) refl;
      listed = listed;
    }

pub journal-when : {E : Type 0} (result : Result (Unit {0}) E) (n count : ℕ) (entries : List Entry) (image : Option (List ℕ)) → count ≤ n → IfSome image (λ image. count ≡ number_at image (journal_place n))
    → OnOk result (IfSome image (λ image. entries ≡ entries_at image (journal_place n + 2) count)) → OnOk result (list_all (is_entry n) entries ≡ true) → OnOk result (IfSome image (HasJournal n entries))
journal-when (Ok done) n count entries image few number taken range = journal-read n count entries image few number taken range
journal-when (Err refusal) n count entries image few number taken range = tt

-- too many entries, or one that is out of range
pub many-read : (n : ℕ) (image : Option (List ℕ)) → IfSome image (λ image. n < number_at image (journal_place n)) → IfSome image (λ image. is_in_range image n ≡ false)
many-read n None many = tt
many-read n (Some image) many = ap (λ (few : Bool). few && list_all (is_entry n) (journal image n)) (leb-above n (number_at image (journal_place n)) many)
  where
    leb-above : (n count : ℕ) → n < count → nat_le count n ≡ false
    leb-above n count above = grind (arith, nat_tests)

pub bad-read : (n count : ℕ) (image : Option (List ℕ)) → IfSome image (λ image. count ≡ number_at image (journal_place n))
    → IfSome image (λ image. list_all (is_entry n) (entries_at image (journal_place n + 2) count) ≡ false) → IfSome image (λ image. is_in_range image n ≡ false)
bad-read n count None number bad = tt
bad-read n count (Some image) number bad =
    let none : list_all (is_entry n) (journal image n) ≡ false = ap (λ (entries : List Entry). list_all (is_entry n) entries) (listed-read n count image number) ∙ bad in
    rw (none, and-false (nat_le (number_at image (journal_place n)) n)) refl
  where
    and-false : (b : Bool) → (b && false) ≡ false
    and-false true = refl
    and-false false = refl

-- behind an open gate
pub open-read : (n : ℕ) (entries : List Entry) (image : Option (List ℕ)) → IfSome image (λ image. is_gate_open image ≡ true) → IfSome image (HasJournal n entries) → IfSome image (IsOpenWith n entries)
open-read n entries None gate has = tt
open-read n entries (Some image) gate has = record { gate = gate; range = has.range; listed = has.listed }

pub bad-directory : (n : ℕ) (image : Option (List ℕ)) → IfSome image (λ image. is_gate_open image ≡ true) → IfSome image (λ image. is_in_range image n ≡ false) → IfSome image (λ image. directory image n ≡ None)
bad-directory n None gate bad = tt
bad-directory n (Some image) gate bad = rw (gate, bad) refl
