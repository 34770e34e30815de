-- A search among the slots, and what it says of the list of a kind.
use Rattle.std.proofs.Common.{◌≡◌, ℕ, ◌≤◌, Bool, true, cond, List, [], ◌∷◌, Option, None, Some, is_some, inl, inr, refl, sym, ap, ◌∙◌, arith}
use Rattle.std.specs.Prelude.{IfSome}
use Rattle.std.proofs.lemmas.Bool.{cases_Bool}
use Rattle.std.specs.List.{find, filter, count_by, list_any}
use Rattle.eeprom.specs.StoreOf.{Slots}
use Rattle.eeprom.specs.Slots.{Rises, AreApart, has, is_after, nearest_from}
use Rattle.eeprom.proofs.InOrder.{count_by-in_order, find-in_order, list_any-in_order, filter-in_order, nearest-in_order, AreApart-rising}
use Rattle.scql_model.proofs.ChangedLists.{sum_by-filter}
use Rattle.catalog_codec.specs.Kinds.{Kind}
use Rattle.record_table.specs.Listed.{listed, in_slots}

is_some-find : {X : Type 0} (p : X → Bool) (xs : List X) → is_some (find p xs) ≡ list_any p xs
is_some-find p [] = refl
is_some-find p (x ∷ xs) =
    elim (cases_Bool (p x)) [
      | inl t ↦ rw t refl
      | inr f ↦ rw f (is_some-find p xs)
    ]

module _ {X : Type 0} (kind : Kind X) where
  -- of records of whom at most one passes, the one that does
  pub find-listed : (p : X → Bool) (slots : Slots) → count_by p (listed kind slots) ≤ 1 → find p (in_slots kind slots) ≡ find p (listed kind slots)
  find-listed p slots one =
      let few : count_by p (in_slots kind slots) ≤ 1 = omega (arith, count_by-in_order kind.key p (in_slots kind slots)) in
      sym (find-in_order kind.key p (in_slots kind slots) few)

  pub any-listed : (p : X → Bool) (slots : Slots) → list_any p (in_slots kind slots) ≡ list_any p (listed kind slots)
  any-listed p slots = sym (list_any-in_order kind.key p (in_slots kind slots))

  -- keys that rise in the list are different in the slots
  pub AreApart-in_slots : (slots : Slots) → Rises kind.key (listed kind slots) → AreApart kind.key (in_slots kind slots)
  AreApart-in_slots slots rises = λ k. omega (arith, AreApart-rising kind.key (listed kind slots) rises k, count_by-in_order kind.key (has kind.key k) (in_slots kind slots))

  -- the record of a key
  pub stamped-listed : (k : ℕ) (slots : Slots) → Rises kind.key (listed kind slots) → find (has kind.key k) (in_slots kind slots) ≡ find (has kind.key k) (listed kind slots)
  stamped-listed k slots rises = find-listed (has kind.key k) slots (AreApart-rising kind.key (listed kind slots) rises k)

  -- of the records that pass, the nearest behind a key
  pub nearest-listed : (k : ℕ) (p : X → Bool) (slots : Slots) → Rises kind.key (listed kind slots)
      → nearest_from kind.key k None (filter p (in_slots kind slots)) ≡ find (is_after kind.key k) (filter p (listed kind slots))
  nearest-listed k p slots rises =
      let apart = AreApart-in_slots slots rises in
      let fewer : AreApart kind.key (filter p (in_slots kind slots)) = λ n. omega (arith, apart n, sum_by-filter p (λ x. cond (has kind.key n x) 1 0) (in_slots kind slots)) in
      nearest-in_order kind.key k (filter p (in_slots kind slots)) fewer ∙ ap (find (is_after kind.key k)) (sym (filter-in_order kind.key p (in_slots kind slots) apart))

  -- something is found exactly where a record of the list passes
  pub some-listed : (p : X → Bool) (found : Option X) (slots : Option Slots) → IfSome slots (λ slots. found ≡ find p (in_slots kind slots))
      → IfSome slots (λ slots. is_some found ≡ list_any p (listed kind slots))
  some-listed p found None first = tt
  some-listed p found (Some slots) first = ap is_some first ∙ (is_some-find p (in_slots kind slots) ∙ any-listed p slots)

  -- what is found first is what the list says
  pub found-listed : (p : X → Bool) (found : Option X) (slots : Option Slots) → IfSome slots (λ slots. found ≡ find p (in_slots kind slots))
      → IfSome slots (λ slots. count_by p (listed kind slots) ≤ 1 → found ≡ find p (listed kind slots))
  found-listed p found None first = tt
  found-listed p found (Some slots) first = λ one. first ∙ find-listed p slots one

  -- and so is what is nearest
  pub next-listed : (k : ℕ) (p : X → Bool) (next : Option X) (slots : Option Slots) → IfSome slots (λ slots. next ≡ nearest_from kind.key k None (filter p (in_slots kind slots)))
      → IfSome slots (λ slots. Rises kind.key (listed kind slots) → next ≡ find (is_after kind.key k) (filter p (listed kind slots)))
  next-listed k p next None nearest = tt
  next-listed k p next (Some slots) nearest = λ rises. nearest ∙ nearest-listed k p slots rises

-- where all pass
pub filter-any : {X : Type 0} (xs : List X) → filter (λ x. true) xs ≡ xs
filter-any [] = refl
filter-any (x ∷ xs) = ap (λ rest. x ∷ rest) (filter-any xs)
