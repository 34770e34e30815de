-- Records in rising order of their stamps pass the test of a database, or those in any order don't.
use Rattle.std.proofs.Common.{◌≡◌, ℕ, Bool, true, false, List, Option, Some, sym, subst, ◌∙◌}
use Rattle.std.specs.List.Sorted.{IsPermutation}
use Rattle.std.proofs.lemmas.Bool.{false≢true}
use Rattle.std.proofs.lemmas.List.Sorted.{IsPermutation-sym}
use Rattle.std.proofs.lemmas.Option.{same_Some}
use Rattle.eeprom.specs.Slots.{Rises, in_order}
use Rattle.eeprom.proofs.InOrder.{AreApart-rising}
use Rattle.card.specs.Opening.{PassTest}
use Rattle.card.specs.KeptRecords.{stamp_of, users_in, objects_in, grants_in, rows_in}
use Rattle.card.specs.Validity.{is_valid_database}
use Rattle.card.specs.declared.kept_record.KeptRecord.{KeptRecord}
use Rattle.card.proofs.Sorting.{in_order-permuted, AreApart-permuted}

-- the test of records in their order
abbrev pub is_valid_list : ℕ → List KeptRecord → Bool
is_valid_list next records = is_valid_database next (users_in records) (objects_in records) (grants_in records) (rows_in records)

pub passed-sorted : (next : ℕ) (all sorted : List KeptRecord) → IsPermutation all sorted → Rises stamp_of sorted → is_valid_list next sorted ≡ true → PassTest next all
passed-sorted next all sorted permuted rises valid = record {
  apart = AreApart-permuted stamp_of sorted all (IsPermutation-sym all sorted permuted) (AreApart-rising stamp_of sorted rises);
  valid = subst (λ (records : List KeptRecord). is_valid_list next records ≡ true) (in_order-permuted stamp_of all sorted permuted rises) valid;
}

pub refused-sorted : (counter : Option ℕ) (next other : ℕ) (all sorted : List KeptRecord) → IsPermutation all sorted → Rises stamp_of sorted → counter ≡ Some next → is_valid_list next sorted ≡ false → counter ≡ Some other → PassTest other all → ⊥
refused-sorted counter next other all sorted permuted rises counts invalid counts' passed =
    let same : next ≡ other = same_Some next other (sym counts ∙ counts') in
    let invalid' = subst (λ (records : List KeptRecord). is_valid_list next records ≡ false) (in_order-permuted stamp_of all sorted permuted rises) invalid in
    false≢true (sym (subst (λ (n : ℕ). is_valid_list n (in_order stamp_of all) ≡ false) same invalid') ∙ passed.valid)
