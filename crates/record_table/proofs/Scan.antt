-- A search that goes through slots from the first on: the answer of all of them is that of those that are left.
use Rattle.std.proofs.Common.{◌≡◌, ◌⊎◌, ℕ, zero, suc, ◌*◌, ◌+◌, ◌<◌, ◌≤◌, Bool, true, false, if◌then◌else◌, List, [], ◌∷◌, Option, Some, None, drop, get_or, refl, sym, ap, ◌∙◌, inl, inr, subst, arith, add-one}
use Rattle.std.proofs.lemmas.Bool.{false≢true}
use Rattle.std.specs.Option.{option_map_or}
use Rattle.std.specs.Prelude.{IfSome, IfOk, filter, Result, Ok, Err, option_and_then}
use Rattle.std.specs.List.{find, cons_option}
use Rattle.std.proofs.Math.Seq.{drop-nil}
use Rattle.eeprom.specs.Chip.{Becomes, RisesAtMost}
use Rattle.eeprom.specs.Slots.{in_slot, nearest_from, nearer, above}
use Rattle.eeprom.specs.StoreOf.{Slots, cell_size}
use Rattle.record_store.specs.Held.{Held, contents, record_at, StandsFor}
use Rattle.record_store.specs.declared.side.Side.{Side}
use Rattle.catalog_codec.specs.Kinds.{Kind, IsKind, read_as}
use Rattle.record_table.specs.Listed.{in_slots, at_slot, has_kind_mark, kind_cells, cells_marked}
use Rattle.record_table.proofs.SlotCosts as costs
use Rattle.record_table.proofs.SlotReads.{unmarked}

-- what is told of the slots that a search saw
pub stronger : {A E : Type 0} (result : Result A E) (slots : Option Slots) (P Q : A → Slots → Type 0) → ((a : A) (slots : Slots) → P a slots → Q a slots)
    → IfOk result (λ a. IfSome slots (P a)) → IfOk result (λ a. IfSome slots (Q a))
stronger (Ok a) None P Q says told = tt
stronger (Ok a) (Some slots) P Q says told = says a slots told
stronger (Err e) slots P Q says told = tt

-- one that doesn't pass is passed over
pub passed_over : {X : Type 0} (p : X → Bool) (entry : Option X) → IfSome entry (λ x. p x ≡ false) → (rest : List X) → find p (cons_option entry rest) ≡ find p rest
passed_over p None fails rest = refl
passed_over p (Some x) fails rest = rw fails refl

-- one that was read into a place and passes is what is found, and one that doesn't pass isn't
pub taken-found : {X : Type 0} (p : X → Bool) (read : Bool) (place : Option X) → option_map_or p (if read then place else None) false ≡ true → (rest : List X) → find p (cons_option place rest) ≡ place
taken-found p false place taken rest = absurd (false≢true taken)
taken-found p true None taken rest = absurd (false≢true taken)
taken-found p true (Some x) taken rest = rw taken refl

pub passed-place : {X : Type 0} (p : X → Bool) (entry : Option X) → option_map_or p entry false ≡ false → IfSome entry (λ x. p x ≡ false)
passed-place p None passed = tt
passed-place p (Some x) passed = passed

pub here-taken : {X : Type 0} (kind : Kind X) (p : X → Bool) (read : Bool) (place : Option X) (slots : Option Slots) (slot : ℕ) → option_map_or p (if read then place else None) false ≡ true
    → IfSome slots (λ slots. (if read then place else None) ≡ at_slot kind slot slots) → IfSome slots (λ slots. place ≡ at_slot kind slot slots)
here-taken kind p false place slots slot taken here = absurd (false≢true taken)
here-taken kind p true place slots slot taken here = here

-- the same of the nearest: one that doesn't pass is passed over, and one that does is taken in
pub nearest-passed : {X : Type 0} (key : X → ℕ) (k : ℕ) (p : X → Bool) (best : Option X) (x : X) → p x ≡ false → (rest : List X)
    → nearest_from key k best (filter p (x ∷ rest)) ≡ nearest_from key k best (filter p rest)
nearest-passed key k p best x fails rest = rw fails refl

pub nearest-taken : {X : Type 0} (key : X → ℕ) (k : ℕ) (p : X → Bool) (best : Option X) (x : X) (next : Option X) → p x ≡ true → next ≡ nearer key best (above key k x) → (rest : List X)
    → nearest_from key k best (filter p (x ∷ rest)) ≡ nearest_from key k next (filter p rest)
nearest-taken key k p best x next passes is rest = rw (passes, is) refl

-- what holds of both holds of either
pub one_of_both : {A : Type 0} (old : Option A) (x : A) (new : Option A) (P : A → Type 0) → (new ≡ old) ⊎ (new ≡ Some x) → IfSome old P → P x → IfSome new P
one_of_both old x new P (inl same) held here = subst (λ o. IfSome o P) (sym same) held
one_of_both old x new P (inr is) held here = subst (λ o. IfSome o P) (sym is) here

-- from a slot on all are empty
abbrev pub AreEmptyFrom : ℕ → Slots → Type 0
AreEmptyFrom end slots = (slot : ℕ) → end ≤ slot → get_or slots slot None ≡ None

pub empty-told : (store : Held) (side : Side) (end : ℕ) (image : Option (List ℕ)) → IfSome image (StandsFor store)
    → ((image : List ℕ) (side : Side) (slot : ℕ) → StandsFor store image → end ≤ slot → record_at store side slot image ≡ None) → IfSome (option_and_then (contents store side) image) (AreEmptyFrom end)
empty-told store side end None stands empty = tt
empty-told store side end (Some image) stands empty = told (contents store side image) (λ slot behind. empty image side slot stands behind)
  where
    told : (o : Option Slots) → ((slot : ℕ) → end ≤ slot → option_and_then (λ (slots : Slots). get_or slots slot None) o ≡ None) → IfSome o (AreEmptyFrom end)
    told None h = tt
    told (Some slots) h = h

-- from a slot to another none has a record with a mark of the kind
abbrev pub AreOthers : {X : Type 0} → Kind X → ℕ → ℕ → Slots → Type 0
AreOthers {X} kind from to slots = (slot : ℕ) → from ≤ slot → slot < to → has_kind_mark kind (get_or slots slot None) ≡ false

pub others-told : {X : Type 0} (kind : Kind X) (store : Held) (side : Side) (from to : ℕ) (image : Option (List ℕ)) → IfSome image (StandsFor store)
    → ((image : List ℕ) (side : Side) (slot : ℕ) → StandsFor store image → from ≤ slot → slot < to → has_kind_mark kind (record_at store side slot image) ≡ false) → IfSome (option_and_then (contents store side) image) (AreOthers kind from to)
others-told kind store side from to None stands others = tt
others-told kind store side from to (Some image) stands others = told (contents store side image) (λ slot later earlier. others image side slot stands later earlier)
  where
    told : (o : Option Slots) → ((slot : ℕ) → from ≤ slot → slot < to → has_kind_mark kind (option_and_then (λ (slots : Slots). get_or slots slot None) o) ≡ false) → IfSome o (AreOthers kind from to)
    told None h = tt
    told (Some slots) h = h

module _ {X : Type 0} (kind : Kind X) where
  in_slots-from : (slots : Slots) (slot : ℕ) → in_slots kind (drop slot slots) ≡ cons_option (at_slot kind slot slots) (in_slots kind (drop (suc slot) slots))
  in_slots-from [] slot = ap (in_slots kind) (drop-nil slot)
  in_slots-from (entry ∷ slots) zero = refl
  in_slots-from (entry ∷ slots) (suc slot) = in_slots-from slots slot

  in_slots-empty : (slots : Slots) (slot : ℕ) → AreEmptyFrom slot slots → in_slots kind (drop slot slots) ≡ []
  in_slots-empty [] slot empty = ap (in_slots kind) (drop-nil slot)
  in_slots-empty (entry ∷ slots) zero empty =
      let here : entry ≡ None = empty 0 (omega arith) in
      rw here (in_slots-empty slots zero (λ slot behind. empty (suc slot) (omega arith)))
  in_slots-empty (entry ∷ slots) (suc slot) empty = in_slots-empty slots slot (λ k behind. empty (suc k) (omega arith))

  in_slots-others : (slots : Slots) (from to : ℕ) → IsKind kind → from ≤ to → AreOthers kind from to slots → in_slots kind (drop from slots) ≡ in_slots kind (drop to slots)
  in_slots-others [] from to is onward others = ap (in_slots kind) (drop-nil from) ∙ sym (ap (in_slots kind) (drop-nil to))
  in_slots-others (entry ∷ slots) zero zero is onward others = refl
  in_slots-others (entry ∷ slots) zero (suc to) is onward others =
      let here : in_slot (read_as kind) entry ≡ None = unmarked kind entry is (others 0 (omega arith) (omega arith)) in
      rw here (in_slots-others slots zero to is (omega arith) (λ slot later earlier. others (suc slot) (omega arith) (omega (arith, earlier))))
  in_slots-others (entry ∷ slots) (suc from) zero is onward others = absurd (omega (arith, onward))
  in_slots-others (entry ∷ slots) (suc from) (suc to) is onward others = in_slots-others slots from to is (omega (arith, onward)) (λ slot later earlier. others (suc slot) (omega (arith, later)) (omega (arith, earlier)))

  pub cells-fewer : (slots : Slots) (from to : ℕ) → from ≤ to → cells_marked kind (drop to slots) ≤ cells_marked kind (drop from slots)
  cells-fewer = costs.cells-fewer (kind_cells kind)

  module _ {Y : Type 0} (answer : Slots → Y) where
    -- the answer of all slots is what F makes of the records from a slot on
    abbrev pub IsOfLeft : (List X → Y) → ℕ → Slots → Type 0
    IsOfLeft F slot slots = answer slots ≡ F (in_slots kind (drop slot slots))

    -- the record of the slot, if there is one, is taken in
    pub left-behind : (F G : List X → Y) (slots : Option Slots) (slot : ℕ) (entry : Option X) → IfSome slots (λ slots. entry ≡ at_slot kind slot slots) → ((rest : List X) → F (cons_option entry rest) ≡ G rest)
        → IfSome slots (IsOfLeft F slot) → IfSome slots (IsOfLeft G (slot + 1))
    left-behind F G None slot entry here step left = tt
    left-behind F G (Some slots) slot entry here step left =
        rw add-one (left ∙ (ap F (in_slots-from slots slot) ∙ (ap (λ entry. F (cons_option entry (in_slots kind (drop (suc slot) slots)))) (sym here) ∙ step (in_slots kind (drop (suc slot) slots)))))

    -- slots that have others are passed over
    pub left-others : (F : List X → Y) (slots : Option Slots) (from to : ℕ) → IsKind kind → from ≤ to → IfSome slots (AreOthers kind from to) → IfSome slots (IsOfLeft F from) → IfSome slots (IsOfLeft F to)
    left-others F None from to is onward others left = tt
    left-others F (Some slots) from to is onward others left = left ∙ ap F (in_slots-others slots from to is onward others)

    -- with it the answer is known
    pub left-known : (F : List X → Y) (slots : Option Slots) (slot : ℕ) (entry : Option X) (y : Y) → IfSome slots (λ slots. entry ≡ at_slot kind slot slots) → ((rest : List X) → F (cons_option entry rest) ≡ y)
        → IfSome slots (IsOfLeft F slot) → IfSome slots (λ slots. y ≡ answer slots)
    left-known F None slot entry y here step left = tt
    left-known F (Some slots) slot entry y here step left =
        sym (left ∙ (ap F (in_slots-from slots slot) ∙ (ap (λ entry. F (cons_option entry (in_slots kind (drop (suc slot) slots)))) (sym here) ∙ step (in_slots kind (drop (suc slot) slots)))))

    -- where all slots that are left are empty
    pub left-empty : (F : List X → Y) (slots : Option Slots) (end slot : ℕ) → end ≤ slot → IfSome slots (AreEmptyFrom end) → IfSome slots (IsOfLeft F slot) → IfSome slots (λ slots. F [] ≡ answer slots)
    left-empty F None end slot behind empty left = tt
    left-empty F (Some slots) end slot behind empty left = sym (left ∙ ap F (in_slots-empty slots slot (λ k later. empty k (omega arith))))

  pub left-all : {Y : Type 0} (F : List X → Y) (slots : Option Slots) → IfSome slots (IsOfLeft (λ slots. F (in_slots kind slots)) F 0)
  left-all F None = tt
  left-all F (Some slots) = refl

  -- so many octets were read that those of the slots from this one on are left
  abbrev pub ReadsUpTo : ℕ → Slots → ℕ → ℕ → Type 0
  ReadsUpTo = costs.ReadsUpTo (kind_cells kind)

  pub reads-none : (slots : Option Slots) (a : Option ℕ) → IfSome slots (λ slots. Becomes (ReadsUpTo 0 slots) a a)
  reads-none = costs.reads-none (kind_cells kind)

  pub reads-behind : (slots : Option Slots) (slot : ℕ) (a b c : Option ℕ) → IfSome slots (λ slots. Becomes (ReadsUpTo slot slots) a b)
      → IfSome slots (λ slots. Becomes (RisesAtMost (cell_size * kind_cells kind (get_or slots slot None))) b c) → IfSome slots (λ slots. Becomes (ReadsUpTo (slot + 1) slots) a c)
  reads-behind slots slot a b c = costs.reads-behind (kind_cells kind) refl slots slot (kind_cells kind) a b c (costs.at_cost (kind_cells kind) slots slot)

  pub reads-on : (slots : Option Slots) (from to : ℕ) (a b : Option ℕ) → from ≤ to → IfSome slots (λ slots. Becomes (ReadsUpTo from slots) a b) → IfSome slots (λ slots. Becomes (ReadsUpTo to slots) a b)
  reads-on = costs.reads-on (kind_cells kind)

  pub reads-all : (slots : Option Slots) (slot : ℕ) (a b : Option ℕ) → IfSome slots (λ slots. Becomes (ReadsUpTo slot slots) a b) → IfSome slots (λ slots. Becomes (RisesAtMost (cell_size * cells_marked kind slots)) a b)
  reads-all = costs.reads-all (kind_cells kind)
