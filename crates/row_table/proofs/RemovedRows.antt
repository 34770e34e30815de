-- The rows of a table are removed one after the other, where an index has them: what the store has then, and that the index stands for it.
use Rattle.std.proofs.Common.{◌≡◌, ℕ, ◌+◌, ◌<◌, ◌≤◌, ◌==◌, ◌||◌, Bool, true, false, true≢false, not, eqb, List, [], ◌∷◌, ◌++◌, length, map, count_by, take, Option, Some, None, get_or, sym, ap, subst, ◌∙◌, arith, add-one}
use Rattle.std.specs.Prelude.{IfSome, IsSome, option_and_then}
use Rattle.std.specs.List.{filter}
use Rattle.std.proofs.Math.ListN.{set}
use Rattle.std.proofs.Math.Seq.{take-suc}
use Rattle.std.proofs.lemmas.Bool.{eq-eqb, ne_eqb}
use Rattle.std.proofs.lemmas.List.{length-map, take_all}
use Rattle.std.proofs.lemmas.List.Folds.{list_any-append}
use Rattle.eeprom.specs.Chip.{Chip}
use Rattle.eeprom.specs.StoreOf.{Slots}
use Rattle.record_store.specs.Held.{Held, IsOver, StandsFor, contents}
use Rattle.record_store.specs.Transaction.{ChangesOnly, ChangesWhere, entries}
use Rattle.record_store.proofs.ChangedSlots.{ChangesWhere-more, ChangesWhere-then}
use Rattle.record_store.specs.declared.side.Side.TheVariants.{Committed, Working}
use Rattle.catalog_codec.specs.Catalog.{row_kind}
use Rattle.record_table.specs.Listed.{slots_of}
use Rattle.row_index.specs.Index.{HasRows, Index, Indexes}
use Rattle.row_index.specs.Places.{is_in_table, place_slot, row_places}
use Rattle.row_index.specs.SideRows.{without_table}
use Rattle.row_table.specs.Found.{is_in}
use Rattle.record_table.specs.Swept.{all_without, has_passing}
use Rattle.row_table.proofs.RowsLeft.{HasRows-without_table, at-slots, is_numbered, length-places, slots-without_table, slots_in, without_slots, without_slots-more}

-- one more is
pub removed-row : (mid new : Held) (chip : Chip) (numbers : List ℕ) (n slot d : ℕ) (slots : Option Slots) → n < length numbers
    → IfSome slots (λ slots. slots_of mid Working chip ≡ Some (without_slots (take n numbers) slots))
    → IfSome (slots_of mid Working chip) (λ slots. slots_of new Working chip ≡ Some (set slots slot None)) → slot ≡ get_or numbers n d
    → IfSome slots (λ slots. slots_of new Working chip ≡ Some (without_slots (take (n + 1) numbers) slots))
removed-row mid new chip numbers n slot d None within so_far here at = tt
removed-row mid new chip numbers n slot d (Some slots) within so_far here at =
    let now : slots_of new Working chip ≡ Some (set (without_slots (take n numbers) slots) slot None) = subst (λ o. IfSome o (λ slots. slots_of new Working chip ≡ Some (set slots slot None))) so_far here in
    let more = ap (λ numbers. without_slots numbers slots) (take-suc numbers n d within) ∙ without_slots-more (take n numbers) (get_or numbers n d) slots in
    rw add-one (now ∙ ap Some (ap (λ slot. set (without_slots (take n numbers) slots) slot None) at ∙ sym more))

-- and when all are, the slots have no row of the table
pub removed-rows : (new : Held) (chip : Chip) (table n : ℕ) (numbers : List ℕ) (slots : Option Slots) → length numbers ≤ n → IfSome slots (λ slots. numbers ≡ slots_in table slots)
    → IfSome slots (λ slots. slots_of new Working chip ≡ Some (without_slots (take n numbers) slots))
    → IfSome slots (λ slots. slots_of new Working chip ≡ Some (all_without row_kind (is_in table) slots))
removed-rows new chip table n numbers None all are removed = tt
removed-rows new chip table n numbers (Some slots) all are removed =
    removed ∙ ap Some (ap (λ numbers. without_slots numbers slots) (take_all n numbers all ∙ are) ∙ slots-without_table table slots)

-- each is an entry at most
pub entries-rows : (old new : Held) (table n : ℕ) (numbers : List ℕ) (slots : Option Slots) → n ≤ length numbers → IfSome slots (λ slots. numbers ≡ slots_in table slots)
    → entries new ≤ entries old + n → IfSome slots (λ slots. entries new ≤ entries old + count_by (has_passing row_kind (is_in table)) slots)
entries-rows old new table n numbers None most are few = tt
entries-rows old new table n numbers (Some slots) most are few =
    omega (arith, few, most, ap length are, length-map (filter (is_in_table table) (row_places slots)) place_slot, length-places table slots)

-- only the slots of the numbers so far have another chain, and with one more that of its number
pub only-row : (old mid new : Held) (numbers : List ℕ) (n slot d : ℕ) → n < length numbers → ChangesWhere (λ s. is_numbered s (take n numbers)) old mid → ChangesOnly slot mid new → slot ≡ get_or numbers n d
    → ChangesWhere (λ s. is_numbered s (take (n + 1) numbers)) old new
only-row old mid new numbers n slot d within so_far only at =
    ChangesWhere-more (λ s. is_numbered s (take n numbers) || s == slot) (λ s. is_numbered s (take (n + 1) numbers)) old new
    (λ s (none : is_numbered s (take (n + 1) numbers) ≡ false).
    let parts = list_any-append (λ number. eqb number s) (take n numbers) (get_or numbers n d ∷ []) in
    let more : take (n + 1) numbers ≡ take n numbers ++ get_or numbers n d ∷ [] = rw add-one (take-suc numbers n d within) in
    neither (is_numbered s (take n numbers)) s (sym parts ∙ (sym (ap (is_numbered s) more) ∙ none)))
    (ChangesWhere-then (λ s. is_numbered s (take n numbers)) (λ s. s == slot) old mid new so_far only)
  where
    neither : (a : Bool) (s : ℕ) → (a || (eqb (get_or numbers n d) s || false)) ≡ false → (a || s == slot) ≡ false
    neither true s none = none
    neither false s none = ne_eqb s slot (λ (same : s ≡ slot). true≢false (sym (ap (λ (b : Bool). b || false) (eq-eqb (get_or numbers n d) s (sym at ∙ sym same))) ∙ none))

-- so of all slots those that had a row of the table
pub only-rows : (old new : Held) (table n : ℕ) (numbers : List ℕ) (slots : Option Slots) → length numbers ≤ n → IfSome slots (λ slots. numbers ≡ slots_in table slots)
    → ChangesWhere (λ s. is_numbered s (take n numbers)) old new → IfSome slots (λ slots. ChangesWhere (λ s. has_passing row_kind (is_in table) (get_or slots s None)) old new)
only-rows old new table n numbers None all are only = tt
only-rows old new table n numbers (Some slots) all are only =
    let numbers_are : take n numbers ≡ slots_in table slots = take_all n numbers all ∙ are in
    ChangesWhere-more (λ s. is_numbered s (take n numbers)) (λ s. has_passing row_kind (is_in table) (get_or slots s None)) old new
    (λ s (none : has_passing row_kind (is_in table) (get_or slots s None) ≡ false). ap (is_numbered s) numbers_are ∙ (at-slots table s slots ∙ none)) only

-- the index without the places of the table stands for what is left
pub Indexes-without_table : (index : Index) (table : ℕ) (old new : Held) (chip : Chip) → IsOver old chip → Indexes index old chip → new.chains.cells ≡ old.chains.cells → slots_of new Committed chip ≡ slots_of old Committed chip
    → IfSome (slots_of old Working chip) (λ slots. slots_of new Working chip ≡ Some (all_without row_kind (is_in table) slots))
    → Indexes (record { cells = index.cells; begun = true; committed = index.committed; working = without_table table index.working }) new chip
Indexes-without_table index table old new chip over is cells committed left = record {
  cells = is.cells ∙ sym cells;
  committed = rw committed is.committed;
  working = go chip.image over.stands is.working left;
}
  where
    of_slots : (image : List ℕ) (o : Option Slots) → IsSome o → IfSome o (HasRows index.cells index.working) → IfSome o (λ slots. contents new Working image ≡ Some (all_without row_kind (is_in table) slots))
        → IfSome (contents new Working image) (HasRows index.cells (without_table table index.working))
    of_slots image None there has_rows left = absurd (cc)
    of_slots image (Some slots) there has_rows left = rw left (HasRows-without_table index.cells table index.working slots has_rows)

    go : (o : Option (List ℕ)) → IfSome o (StandsFor old) → IfSome (option_and_then (contents old Working) o) (HasRows index.cells index.working)
        → IfSome (option_and_then (contents old Working) o) (λ slots. option_and_then (contents new Working) o ≡ Some (all_without row_kind (is_in table) slots))
        → IfSome (option_and_then (contents new Working) o) (HasRows index.cells (without_table table index.working))
    go None stands has_rows left = tt
    go (Some image) stands has_rows left = of_slots image (contents old Working image) stands.working has_rows left
