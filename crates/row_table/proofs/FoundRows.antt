-- What an index answers is what a search among the rows of the slots would.
use Rattle.std.proofs.Common.{◌≡◌, ℕ, ◌&&◌, Bool, Option, Some, None, refl, sym, ap, ◌∙◌}
use Rattle.std.specs.Prelude.{IfSome, is_some, option_map, option_and_then}
use Rattle.std.specs.List.{find}
use Rattle.eeprom.specs.StoreOf.{Slots}
use Rattle.scql_base.specs.declared.records.RowRecord.{RowRecord}
use Rattle.catalog_codec.specs.Catalog.{row_kind}
use Rattle.record_table.specs.Listed.{at_slot, listed}
use Rattle.row_index.specs.Places.{is_in_table, place_of, place_slot, row_places}
use Rattle.row_index.specs.declared.place.RowPlace.{RowPlace}
use Rattle.row_index.proofs.Scans.{found_both_in, found_row_in}

-- the slot that an index answers has the row that a search finds, and there is one exactly where a search finds one
pub record Finds {X : Type 0} (slot : X → ℕ) (o : Option X) (q : RowRecord → Bool) (slots : Slots) : Type 0 where
  pub row : option_and_then (λ answer. at_slot row_kind (slot answer) slots) o ≡ find q (listed row_kind slots)
  pub some : is_some o ≡ is_some (find q (listed row_kind slots))

pub finds-told : {X : Type 0} (slots : Option Slots) (slot : X → ℕ) (table : ℕ) (p : RowPlace → Bool) (q : RowRecord → Bool) → ((slot : ℕ) (row : RowRecord) → (is_in_table table (place_of slot row) && p (place_of slot row)) ≡ q row)
    → (answer : RowPlace → X) → ((place : RowPlace) → slot (answer place) ≡ place_slot place) → (o : Option X) → IfSome slots (λ slots. o ≡ option_map answer (find (λ place. is_in_table table place && p place) (row_places slots)))
    → IfSome slots (Finds slot o q)
finds-told None slot table p q same answer own o is = tt
finds-told {X} (Some slots) slot table p q same answer own o is =
    let found = find (λ place. is_in_table table place && p place) (row_places slots) in
    record {
      row = ap (option_and_then (λ (answer : X). at_slot row_kind (slot answer) slots)) is ∙ seen found ∙ found_row_in slots table p q same;
      some = ap is_some is ∙ as_many found ∙ found_both_in slots table p q same;
    }
  where
    seen : (found : Option RowPlace) → option_and_then (λ (answer : X). at_slot row_kind (slot answer) slots) (option_map answer found) ≡ option_and_then (λ place. at_slot row_kind (place_slot place) slots) found
    seen None = refl
    seen (Some place) = ap (λ n. at_slot row_kind n slots) (own place)

    as_many : (found : Option RowPlace) → is_some (option_map answer found) ≡ is_some found
    as_many None = refl
    as_many (Some place) = refl

-- where it answers none there is none
pub none-found : {X : Type 0} (slots : Option Slots) (slot : X → ℕ) (o : Option X) (q : RowRecord → Bool) → o ≡ None → IfSome slots (Finds slot o q) → IfSome slots (λ slots. None ≡ find q (listed row_kind slots))
none-found None slot o q is finds = tt
none-found {X} (Some slots) slot o q is finds = sym (ap (option_and_then (λ (answer : X). at_slot row_kind (slot answer) slots)) is) ∙ finds.row
