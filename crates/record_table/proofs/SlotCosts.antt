-- What a search reads, of slots that cost so many cells each.
use Rattle.std.proofs.Common.{◌≡◌, ℕ, zero, suc, ◌+◌, ◌*◌, ◌≤◌, List, [], ◌∷◌, Option, Some, None, drop, get_or, refl, ap, ◌∙◌, arith, add-one}
use Rattle.std.specs.Prelude.{IfSome}
use Rattle.std.specs.List.{sum_by}
use Rattle.std.proofs.Math.Seq.{drop-nil}
use Rattle.std.proofs.lemmas.List.Sums.{sum_by-cons}
use Rattle.eeprom.specs.Chip.{Becomes, RisesAtMost}
use Rattle.eeprom.specs.StoreOf.{Slots, cell_size}

module _ (cells : Option (List ℕ) → ℕ) where
  -- so many octets were read that those of the slots from this one on are left
  abbrev pub ReadsUpTo : ℕ → Slots → ℕ → ℕ → Type 0
  ReadsUpTo slot slots before after = after + cell_size * sum_by cells (drop slot slots) ≤ before + cell_size * sum_by cells slots

  pub cells-fewer : (slots : Slots) (from to : ℕ) → from ≤ to → sum_by cells (drop to slots) ≤ sum_by cells (drop from slots)
  cells-fewer [] from to onward = omega (arith, ap (sum_by cells) (drop-nil from), ap (sum_by cells) (drop-nil to))
  cells-fewer (entry ∷ slots) zero zero onward = omega arith
  cells-fewer (entry ∷ slots) zero (suc to) onward = omega (arith, cells-fewer slots zero to (omega arith), sum_by-cons cells entry slots)
  cells-fewer (entry ∷ slots) (suc from) zero onward = absurd (omega (arith, onward))
  cells-fewer (entry ∷ slots) (suc from) (suc to) onward = cells-fewer slots from to (omega (arith, onward))

  -- where an empty slot costs none
  cells-from : cells None ≡ 0 → (slots : Slots) (slot : ℕ) → sum_by cells (drop slot slots) ≡ cells (get_or slots slot None) + sum_by cells (drop (suc slot) slots)
  cells-from none [] slot = ap (sum_by cells) (drop-nil slot) ∙ rw none refl
  cells-from none (entry ∷ slots) zero = sum_by-cons cells entry slots
  cells-from none (entry ∷ slots) (suc slot) = cells-from none slots slot

  pub reads-none : (slots : Option Slots) (a : Option ℕ) → IfSome slots (λ slots. Becomes (ReadsUpTo 0 slots) a a)
  reads-none None a = tt
  reads-none (Some slots) a = λ after told. (after, told, omega arith)

  pub reads-on : (slots : Option Slots) (from to : ℕ) (a b : Option ℕ) → from ≤ to → IfSome slots (λ slots. Becomes (ReadsUpTo from slots) a b) → IfSome slots (λ slots. Becomes (ReadsUpTo to slots) a b)
  reads-on None from to a b onward so_far = tt
  reads-on (Some slots) from to a b onward so_far = λ after told. let s = so_far after told in (s.0, s.1, omega (arith, s.2, cells-fewer slots from to onward))

  pub at_cost : (slots : Option Slots) (slot : ℕ) → IfSome slots (λ slots. cells (get_or slots slot None) ≤ cells (get_or slots slot None))
  at_cost None slot = tt
  at_cost (Some slots) slot = omega arith

  -- a slot that costs what was read of it at least
  pub reads-behind : cells None ≡ 0 → (slots : Option Slots) (slot : ℕ) (most : Option (List ℕ) → ℕ) (a b c : Option ℕ) → IfSome slots (λ slots. most (get_or slots slot None) ≤ cells (get_or slots slot None))
      → IfSome slots (λ slots. Becomes (ReadsUpTo slot slots) a b)
      → IfSome slots (λ slots. Becomes (RisesAtMost (cell_size * most (get_or slots slot None))) b c) → IfSome slots (λ slots. Becomes (ReadsUpTo (slot + 1) slots) a c)
  reads-behind none None slot most a b c within so_far here = tt
  reads-behind none (Some slots) slot most a b c within so_far here = λ after told.
      let h = here after told in
      let s = so_far h.0 h.1 in
      (s.0, s.1, rw add-one (omega (arith, h.2, s.2, within, cells-from none slots slot)))

  pub reads-all : (slots : Option Slots) (slot : ℕ) (a b : Option ℕ) → IfSome slots (λ slots. Becomes (ReadsUpTo slot slots) a b) → IfSome slots (λ slots. Becomes (RisesAtMost (cell_size * sum_by cells slots)) a b)
  reads-all None slot a b so_far = tt
  reads-all (Some slots) slot a b so_far = λ after told. let s = so_far after told in (s.0, s.1, omega (arith, s.2))
