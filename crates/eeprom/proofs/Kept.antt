-- A change of one slot, and what the slots keep in rising order.
use Rattle.std.proofs.Common.{◌≡◌, ℕ, zero, suc, cond, ◌<◌, List, [], ◌∷◌, ◌++◌, length, Option, Some, None, take, drop, get_or, refl, ap, sym, ◌∙◌, subst, arith}
use Rattle.std.proofs.Math.ListN.{set}
use Rattle.std.proofs.lemmas.Bool.{eq-eqb}
use Rattle.std.proofs.lemmas.List.Sums.{sum_by-append}
use Rattle.std.specs.List.{filter_map, cons_option, count_by, AllByRecursion}
use Rattle.eeprom.specs.Slots.{put_in_order, in_order, Rises, has, without, replaced}
use Rattle.eeprom.proofs.InOrder.{counts, count_by-in_order, count-below, in_order-middle, put_in_order-last, without-put_in_order, replaced-put_in_order, AreApart-rising}

cons_option-append : {X : Type 0} (o : Option X) (xs ys : List X) → cons_option o (xs ++ ys) ≡ cons_option o xs ++ ys
cons_option-append None xs ys = refl
cons_option-append (Some x) xs ys = refl

-- what is kept of the slots before one, of it, and of those behind it
pub kept-split : {X : Type 0} (f : Option (List ℕ) → Option X) (slots : List (Option (List ℕ))) (slot : ℕ) → slot < length slots →
    filter_map f slots ≡ filter_map f (take slot slots) ++ cons_option (f (get_or slots slot None)) (filter_map f (drop (suc slot) slots))
kept-split f [] slot within = absurd (omega arith)
kept-split f (v ∷ slots) zero within = refl
kept-split f (v ∷ slots) (suc slot) within =
    ap (cons_option (f v)) (kept-split f slots slot (omega arith)) ∙ cons_option-append (f v) (filter_map f (take slot slots)) (cons_option (f (get_or slots slot None)) (filter_map f (drop (suc slot) slots)))

pub kept-set : {X : Type 0} (f : Option (List ℕ) → Option X) (slots : List (Option (List ℕ))) (slot : ℕ) (v : Option (List ℕ)) → slot < length slots →
    filter_map f (set slots slot v) ≡ filter_map f (take slot slots) ++ cons_option (f v) (filter_map f (drop (suc slot) slots))
kept-set f [] slot v within = absurd (omega arith)
kept-set f (w ∷ slots) zero v within = refl
kept-set f (w ∷ slots) (suc slot) v within =
    ap (cons_option (f w)) (kept-set f slots slot v (omega arith)) ∙ cons_option-append (f w) (filter_map f (take slot slots)) (cons_option (f v) (filter_map f (drop (suc slot) slots)))

-- the same where it is known what is kept of the slot
split_as : {X : Type 0} (f : Option (List ℕ) → Option X) (slots : List (Option (List ℕ))) (slot : ℕ) (o : Option X) → slot < length slots → f (get_or slots slot None) ≡ o →
    filter_map f slots ≡ filter_map f (take slot slots) ++ cons_option o (filter_map f (drop (suc slot) slots))
split_as f slots slot o within e = kept-split f slots slot within ∙ ap (λ o. filter_map f (take slot slots) ++ cons_option o (filter_map f (drop (suc slot) slots))) e

set_as : {X : Type 0} (f : Option (List ℕ) → Option X) (slots : List (Option (List ℕ))) (slot : ℕ) (v : Option (List ℕ)) (o : Option X) → slot < length slots → f v ≡ o →
    filter_map f (set slots slot v) ≡ filter_map f (take slot slots) ++ cons_option o (filter_map f (drop (suc slot) slots))
set_as f slots slot v o within e = kept-set f slots slot v within ∙ ap (λ o. filter_map f (take slot slots) ++ cons_option o (filter_map f (drop (suc slot) slots))) e

-- a key that stands once among elements of rising order stands nowhere else among them, in whatever order
nowhere_else : {X : Type 0} (key : X → ℕ) (x : X) (xs ys all : List X) → all ≡ xs ++ x ∷ ys → Rises key (in_order key all) →
    (count_by (has key (key x)) xs ≡ 0) × (count_by (has key (key x)) (in_order key (xs ++ ys)) ≡ 0)
nowhere_else key x xs ys all e rises =
    let a = AreApart-rising key (in_order key all) rises (key x) in
    let b = count_by-in_order key (has key (key x)) all in
    let c = ap (count_by (has key (key x))) e in
    let d = sum_by-append (λ y. cond (has key (key x) y) 1 0) xs (x ∷ ys) in
    let g = counts (has key (key x)) x ys (eq-eqb (key x) (key x) refl) in
    let h = count_by-in_order key (has key (key x)) (xs ++ ys) in
    let i = sum_by-append (λ y. cond (has key (key x) y) 1 0) xs ys in
    (omega arith, omega arith)

-- neither the old nor the new octets are of this kind
pub kept-other : {X : Type 0} (key : X → ℕ) (f : Option (List ℕ) → Option X) (slots : List (Option (List ℕ))) (slot : ℕ) (v : Option (List ℕ)) → slot < length slots →
    f (get_or slots slot None) ≡ None → f v ≡ None → in_order key (filter_map f (set slots slot v)) ≡ in_order key (filter_map f slots)
kept-other key f slots slot v within was now = ap (in_order key) (set_as f slots slot v None within now ∙ sym (split_as f slots slot None within was))

-- a new element whose key is above all others
pub kept-new : {X : Type 0} (key : X → ℕ) (f : Option (List ℕ) → Option X) (slots : List (Option (List ℕ))) (slot : ℕ) (v : Option (List ℕ)) (x : X) → slot < length slots →
    f (get_or slots slot None) ≡ None → f v ≡ Some x → AllByRecursion (λ y. key y < key x) (in_order key (filter_map f slots)) →
    in_order key (filter_map f (set slots slot v)) ≡ in_order key (filter_map f slots) ++ x ∷ []
kept-new key f slots slot v x within was now below =
    let before = filter_map f (take slot slots) in
    let behind = filter_map f (drop (suc slot) slots) in
    let old : filter_map f slots ≡ before ++ behind = split_as f slots slot None within was in
    let a = count-below key (key x) (in_order key (filter_map f slots)) below in
    let b = count_by-in_order key (has key (key x)) (filter_map f slots) in
    let c = ap (count_by (has key (key x))) old in
    let d = sum_by-append (λ y. cond (has key (key x) y) 1 0) before behind in
    let none : count_by (has key (key x)) before ≡ 0 = omega arith in
    ap (in_order key) (set_as f slots slot v (Some x) within now) ∙ in_order-middle key x before behind none ∙ ap (λ xs. put_in_order key x (in_order key xs)) (sym old)
    ∙ put_in_order-last key x (in_order key (filter_map f slots)) below

-- an element in the place of one with its key
pub kept-changed : {X : Type 0} (key : X → ℕ) (f : Option (List ℕ) → Option X) (slots : List (Option (List ℕ))) (slot : ℕ) (v : Option (List ℕ)) (x y : X) → slot < length slots →
    f (get_or slots slot None) ≡ Some x → f v ≡ Some y → key x ≡ key y → Rises key (in_order key (filter_map f slots)) →
    in_order key (filter_map f (set slots slot v)) ≡ replaced key y (in_order key (filter_map f slots))
kept-changed key f slots slot v x y within was now same rises =
    let before = filter_map f (take slot slots) in
    let behind = filter_map f (drop (suc slot) slots) in
    let old = split_as f slots slot (Some x) within was in
    let none = nowhere_else key x before behind (filter_map f slots) old rises in
    ap (in_order key) (set_as f slots slot v (Some y) within now)
    ∙ in_order-middle key y before behind (subst (λ k. count_by (has key k) before ≡ 0) same none.0)
    ∙ sym (replaced-put_in_order key x y (in_order key (before ++ behind)) same none.1)
    ∙ ap (replaced key y) (sym (ap (in_order key) old ∙ in_order-middle key x before behind none.0))

-- an element less
pub kept-removed : {X : Type 0} (key : X → ℕ) (f : Option (List ℕ) → Option X) (slots : List (Option (List ℕ))) (slot : ℕ) (v : Option (List ℕ)) (x : X) → slot < length slots →
    f (get_or slots slot None) ≡ Some x → f v ≡ None → Rises key (in_order key (filter_map f slots)) →
    in_order key (filter_map f (set slots slot v)) ≡ without key (key x) (in_order key (filter_map f slots))
kept-removed key f slots slot v x within was now rises =
    let before = filter_map f (take slot slots) in
    let behind = filter_map f (drop (suc slot) slots) in
    let old = split_as f slots slot (Some x) within was in
    let none = nowhere_else key x before behind (filter_map f slots) old rises in
    ap (in_order key) (set_as f slots slot v None within now)
    ∙ sym (without-put_in_order key x (in_order key (before ++ behind)) none.1)
    ∙ ap (without key (key x)) (sym (ap (in_order key) old ∙ in_order-middle key x before behind none.0))
