-- A search by a tag goes on over slots of other tags.
use Rattle.std.proofs.Common.{◌≡◌, ℕ, ◌<◌, ◌≤◌, ◌+◌, ◌-◌, Bool, false, List, length, take, drop, get_or, sym, ◌∙◌, ap, arith, inl, inr}
use Rattle.std.proofs.lemmas.Bool.{cases_lt, false_from_ne_true, true≢false}
use Rattle.std.proofs.lemmas.List.{get_or-take, get_or-drop, length-take-le, length-drop}
use Rattle.std.proofs.lemmas.List.Folds.{list_any_at}
use Rattle.std.specs.List.{list_any}
use Rattle.eeprom.specs.StoreOf.{most_cells}

module _ {T : Type 0} (eq : T → T → Bool) where
  -- a search from a slot came to another: all between have other tags
  pub record ArePassed (tags : List T) (tag : T) (from slot : ℕ) : Type 0 where
    pub onward : from ≤ slot
    pub inside : from ≤ length tags → slot ≤ length tags
    pub small : slot < 65536
    pub passed : (other : ℕ) → from ≤ other → other < slot → eq (get_or tags other tag) tag ≡ false

  -- where a tag isn't among some, none is it
  other_tag : (tags : List T) (tag : T) (i : ℕ) → i < length tags → list_any (λ other. eq other tag) tags ≡ false → eq (get_or tags i tag) tag ≡ false
  other_tag tags tag i inside none = false_from_ne_true (eq (get_or tags i tag) tag) (λ is. true≢false (sym (list_any_at (λ other. eq other tag) tags i tag inside is) ∙ none))

  -- so many slots from one on have other tags
  others-together : (tags : List T) (tag : T) (slot count : ℕ) → slot + count ≤ length tags → list_any (λ other. eq other tag) (take (slot + count - slot) (drop slot tags)) ≡ false
      → (other : ℕ) → slot ≤ other → other < slot + count → eq (get_or tags other tag) tag ≡ false
  others-together tags tag slot count within none other later earlier =
      let size : length (take (slot + count - slot) (drop slot tags)) ≡ slot + count - slot
      = length-take-le (slot + count - slot) (drop slot tags) (omega (arith, within, length-drop slot tags)) in
      let here : get_or (take (slot + count - slot) (drop slot tags)) (other - slot) tag ≡ get_or tags (slot + (other - slot)) tag
      = get_or-take (slot + count - slot) (drop slot tags) (other - slot) tag (omega (arith, later, earlier)) ∙ get_or-drop slot tags (other - slot) tag in
      let place : slot + (other - slot) ≡ other = omega (arith, later) in
      ap (λ found. eq found tag) (sym (here ∙ ap (λ at. get_or tags at tag) place)) ∙ other_tag (take (slot + count - slot) (drop slot tags)) tag (other - slot) (omega (arith, later, earlier, size)) none

  -- so many are passed together
  pub passed-together : (tags : List T) (tag : T) (from slot count : ℕ) → length tags ≤ most_cells → slot + count ≤ length tags
      → list_any (λ other. eq other tag) (take (slot + count - slot) (drop slot tags)) ≡ false → ArePassed tags tag from slot → ArePassed tags tag from (slot + count)
  passed-together tags tag from slot count few within none so_far = record {
    onward = omega (arith, so_far.onward);
    inside = λ _. within;
    small = omega (arith, few, within);
    passed = λ other behind earlier. elim (cases_lt other slot) [
      | inl before ↦ so_far.passed other behind before
      | inr later ↦ others-together tags tag slot count within none other later earlier
    ];
  }
