-- Slots from which all records of a kind that pass a test are taken, one slot after another.
use Rattle.std.proofs.Common.{◌≡◌, ℕ, zero, suc, ◌+◌, ◌≤◌, ◌==◌, ◌&&◌, ◌||◌, Bool, true, false, cond, List, [], ◌∷◌, drop, count_by, Option, Some, None, get_or, inl, inr, refl, sym, ap, subst, ◌∙◌, arith, add-one}
use Rattle.std.specs.Prelude.{IfSome, option_and_then}
use Rattle.std.proofs.Math.ListN.{set}
use Rattle.std.proofs.Math.Seq.{drop-nil}
use Rattle.std.proofs.lemmas.Bool.{cases_Bool, eqb-true, false≢true}
use Rattle.std.proofs.lemmas.List.Sums.{sum_by-cons}
use Rattle.eeprom.specs.Chip.{Chip}
use Rattle.eeprom.specs.Slots.{in_slot}
use Rattle.eeprom.specs.StoreOf.{Slots}
use Rattle.record_store.specs.Held.{Held, StandsFor, contents}
use Rattle.record_store.specs.Transaction.{ChangesOnly, ChangesWhere, entries}
use Rattle.record_store.proofs.ChangedSlots.{ChangesWhere-more, ChangesWhere-none, ChangesWhere-then}
use Rattle.record_store.specs.declared.side.Side.TheVariants.{Working}
use Rattle.catalog_codec.specs.Kinds.{Kind, read_as}
use Rattle.record_table.specs.Changed.{IsEmptied, Rewrites}
use Rattle.record_table.specs.Listed.{at_slot, slots_of}
use Rattle.record_table.proofs.Scan.{AreEmptyFrom}
use Rattle.record_table.specs.Swept.{all_without, has_passing, without_passing}

-- a list in which so many elements at the front have been changed
abbrev pub changed_front : {A : Type 0} → (A → A) → ℕ → List A → List A
changed_front f zero xs = xs
changed_front f (suc n) [] = []
changed_front f (suc n) (x ∷ xs) = f x ∷ changed_front f n xs

-- the next one is as it was
pub front-next : {A : Type 0} (f : A → A) (n : ℕ) (xs : List A) (d : A) → get_or (changed_front f n xs) n d ≡ get_or xs n d
front-next f zero xs d = refl
front-next f (suc n) [] d = refl
front-next f (suc n) (x ∷ xs) d = front-next f n xs d

-- and when it is changed, one more is
pub front-more : {A : Type 0} (f : A → A) (n : ℕ) (xs : List A) (d : A) → set (changed_front f n xs) n (f (get_or xs n d)) ≡ changed_front f (suc n) xs
front-more f zero [] d = refl
front-more f zero (x ∷ xs) d = refl
front-more f (suc n) [] d = refl
front-more f (suc n) (x ∷ xs) d = ap (λ rest. f x ∷ rest) (front-more f n xs d)

module _ {X : Type 0} (kind : Kind X) (p : X → Bool) where
  -- where all slots behind are empty, all have been changed
  pub front-all : (n : ℕ) (slots : Slots) → AreEmptyFrom n slots → changed_front (without_passing kind p) n slots ≡ all_without kind p slots
  front-all zero [] empty = refl
  front-all zero (entry ∷ slots) empty =
      let here : entry ≡ None = empty 0 (omega arith) in
      rw here (ap (λ rest. None ∷ rest) (front-all zero slots (λ slot behind. empty (suc slot) (omega arith))))
  front-all (suc n) [] empty = refl
  front-all (suc n) (entry ∷ slots) empty = ap (λ rest. without_passing kind p entry ∷ rest) (front-all n slots (λ slot behind. empty (suc slot) (omega (arith, behind))))

  -- how many pass among the slots from one on
  pub passing-from : (slots : Slots) (n : ℕ) → count_by (has_passing kind p) (drop n slots) ≡ cond (has_passing kind p (get_or slots n None)) 1 0 + count_by (has_passing kind p) (drop (suc n) slots)
  passing-from [] n = ap (count_by (has_passing kind p)) (drop-nil n)
  passing-from (entry ∷ slots) zero = sum_by-cons (λ entry. cond (has_passing kind p entry) 1 0) entry slots
  passing-from (entry ∷ slots) (suc n) = passing-from slots n

  -- what one slot with a record says of it
  has-read : (entry : Option (List ℕ)) (x : Option X) → x ≡ in_slot (read_as kind) entry → IfSome x (λ x. p x ≡ false) → without_passing kind p entry ≡ entry
  has-read entry None is fails = rw (sym is) refl
  has-read entry (Some x) is fails = rw (sym is, fails) refl

set-back : {A : Type 0} (xs : List A) (i : ℕ) (d : A) → set xs i (get_or xs i d) ≡ xs
set-back [] i d = refl
set-back (x ∷ xs) zero d = refl
set-back (x ∷ xs) (suc i) d = ap (λ rest. x ∷ rest) (set-back xs i d)

-- a slot whose record doesn't pass, or that has none of the kind, stays
pub removed-none : {X : Type 0} (kind : Kind X) (p : X → Bool) (store : Held) (chip : Chip) (slot : ℕ) (x : Option X) → IfSome (slots_of store Working chip) (λ slots. x ≡ at_slot kind slot slots) → IfSome x (λ x. p x ≡ false)
    → IfSome (slots_of store Working chip) (λ slots. slots_of store Working chip ≡ Some (set slots slot (without_passing kind p (get_or slots slot None))))
removed-none kind p store chip slot x at fails = go (slots_of store Working chip) at
  where
    go : (o : Option Slots) → IfSome o (λ slots. x ≡ at_slot kind slot slots) → IfSome o (λ slots. o ≡ Some (set slots slot (without_passing kind p (get_or slots slot None))))
    go None at = tt
    go (Some slots) at = ap Some (sym (ap (set slots slot) (has-read kind p (get_or slots slot None) x at fails) ∙ set-back slots slot None))

-- a slot is emptied, as a store with an image says
pub emptied-told : (old new : Held) (chip : Chip) (slot : ℕ) → IfSome chip.image (StandsFor old) → ((image : List ℕ) → StandsFor old image → Rewrites (IsEmptied slot) old new image image)
    → IfSome (slots_of old Working chip) (λ slots. slots_of new Working chip ≡ Some (set slots slot None))
emptied-told old new chip slot stands removed = go chip.image stands
  where
    of_slots : (image : List ℕ) (o : Option Slots) → contents old Working image ≡ o → Rewrites (IsEmptied slot) old new image image → IfSome o (λ slots. contents new Working image ≡ Some (set slots slot None))
    of_slots image None is r = tt
    of_slots image (Some slots) is r = let after = r.working slots is in after.1 ∙ ap Some after.2

    go : (o : Option (List ℕ)) → IfSome o (StandsFor old) → IfSome (option_and_then (contents old Working) o) (λ slots. option_and_then (contents new Working) o ≡ Some (set slots slot None))
    go None stands = tt
    go (Some image) stands = of_slots image (contents old Working image) refl (removed image stands)

-- a slot whose record passes is emptied
pub removed-passing : {X : Type 0} (kind : Kind X) (p : X → Bool) (old new : Held) (chip : Chip) (slot : ℕ) (x : X) → IfSome (slots_of old Working chip) (λ slots. Some x ≡ at_slot kind slot slots) → p x ≡ true
    → IfSome (slots_of old Working chip) (λ slots. slots_of new Working chip ≡ Some (set slots slot None))
    → IfSome (slots_of old Working chip) (λ slots. slots_of new Working chip ≡ Some (set slots slot (without_passing kind p (get_or slots slot None))))
removed-passing kind p old new chip slot x at passes emptied = go (slots_of old Working chip) at emptied
  where
    go : (o : Option Slots) → IfSome o (λ slots. Some x ≡ at_slot kind slot slots) → IfSome o (λ slots. slots_of new Working chip ≡ Some (set slots slot None))
        → IfSome o (λ slots. slots_of new Working chip ≡ Some (set slots slot (without_passing kind p (get_or slots slot None))))
    go None at emptied = tt
    go (Some slots) at emptied = emptied ∙ ap (λ entry. Some (set slots slot entry)) (gone (get_or slots slot None) at)
      where
        gone : (entry : Option (List ℕ)) → Some x ≡ in_slot (read_as kind) entry → None ≡ without_passing kind p entry
        gone entry is = rw (sym is, passes) refl

-- so where the EEPROM goes by another name
pub removed-still : {X : Type 0} (kind : Kind X) (p : X → Bool) (old new : Held) (chip later : Chip) (slot : ℕ)
    → IfSome (slots_of old Working chip) (λ slots. slots_of new Working chip ≡ Some (set slots slot (without_passing kind p (get_or slots slot None)))) → later ≡ chip
    → IfSome (slots_of old Working chip) (λ slots. slots_of new Working later ≡ Some (set slots slot (without_passing kind p (get_or slots slot None))))
removed-still kind p old new chip later slot removed same = subst (λ c. IfSome (slots_of old Working chip) (λ slots. slots_of new Working c ≡ Some (set slots slot (without_passing kind p (get_or slots slot None))))) (sym same) removed

-- none is done
pub swept-none : (slots : Option Slots) → IfSome slots (λ here. slots ≡ Some here)
swept-none None = tt
swept-none (Some slots) = refl

-- one more slot is done
pub swept-more : {X : Type 0} (kind : Kind X) (p : X → Bool) (mid new : Held) (chip : Chip) (n : ℕ) (slots : Option Slots) → IfSome slots (λ slots. slots_of mid Working chip ≡ Some (changed_front (without_passing kind p) n slots))
    → IfSome (slots_of mid Working chip) (λ slots. slots_of new Working chip ≡ Some (set slots n (without_passing kind p (get_or slots n None))))
    → IfSome slots (λ slots. slots_of new Working chip ≡ Some (changed_front (without_passing kind p) (n + 1) slots))
swept-more kind p mid new chip n None so_far here = tt
swept-more kind p mid new chip n (Some slots) so_far here =
    let f = without_passing kind p in
    let now : slots_of new Working chip ≡ Some (set (changed_front f n slots) n (f (get_or (changed_front f n slots) n None))) =
    subst (λ o. IfSome o (λ slots. slots_of new Working chip ≡ Some (set slots n (f (get_or slots n None))))) so_far here in
    rw add-one (now ∙ ap Some (ap (λ entry. set (changed_front f n slots) n (f entry)) (front-next f n slots None) ∙ front-more f n slots None))

-- so many entries so far, and so many records that pass are left
abbrev pub HasEntries : {X : Type 0} → Kind X → (X → Bool) → Held → Held → ℕ → Slots → Type 0
HasEntries {X} kind p old now n slots = entries now + count_by (has_passing kind p) (drop n slots) ≤ entries old + count_by (has_passing kind p) slots

pub entries-none : {X : Type 0} (kind : Kind X) (p : X → Bool) (old : Held) (slots : Option Slots) → IfSome slots (HasEntries kind p old old 0)
entries-none kind p old None = tt
entries-none kind p old (Some slots) = omega arith

pub entries-more : {X : Type 0} (kind : Kind X) (p : X → Bool) (old mid new : Held) (chip : Chip) (n : ℕ) (slots : Option Slots) → IfSome slots (λ slots. slots_of mid Working chip ≡ Some (changed_front (without_passing kind p) n slots))
    → IfSome (slots_of mid Working chip) (λ slots. entries new ≤ entries mid + cond (has_passing kind p (get_or slots n None)) 1 0) → IfSome slots (HasEntries kind p old mid n)
    → IfSome slots (HasEntries kind p old new (n + 1))
entries-more kind p old mid new chip n None so_far here few = tt
entries-more kind p old mid new chip n (Some slots) so_far here few =
    let f = without_passing kind p in
    let one : entries new ≤ entries mid + cond (has_passing kind p (get_or (changed_front f n slots) n None)) 1 0 =
    subst (λ o. IfSome o (λ slots. entries new ≤ entries mid + cond (has_passing kind p (get_or slots n None)) 1 0)) so_far here in
    let same = ap (λ entry. cond {A = ℕ} (has_passing kind p entry) 1 0) (front-next f n slots None) in
    rw add-one (omega (arith, one, few, same, passing-from kind p slots n))

-- one more entry at most where the slot's record passes, and none where nothing was done
pub entries-passing : {X : Type 0} (kind : Kind X) (p : X → Bool) (old new : Held) (chip : Chip) (slot : ℕ) (x : X) → IfSome (slots_of old Working chip) (λ slots. Some x ≡ at_slot kind slot slots) → p x ≡ true → entries new ≤ entries old + 1
    → IfSome (slots_of old Working chip) (λ slots. entries new ≤ entries old + cond (has_passing kind p (get_or slots slot None)) 1 0)
entries-passing kind p old new chip slot x at passes few = go (slots_of old Working chip) at
  where
    passing : (entry : Option (List ℕ)) → Some x ≡ in_slot (read_as kind) entry → has_passing kind p entry ≡ true
    passing entry is = rw (sym is) passes

    go : (o : Option Slots) → IfSome o (λ slots. Some x ≡ at_slot kind slot slots) → IfSome o (λ slots. entries new ≤ entries old + cond (has_passing kind p (get_or slots slot None)) 1 0)
    go None at = tt
    go (Some slots) at = rw (passing (get_or slots slot None) at) few

pub entries-unchanged : {X : Type 0} (kind : Kind X) (p : X → Bool) (held : Held) (chip : Chip) (slot : ℕ) → IfSome (slots_of held Working chip) (λ slots. entries held ≤ entries held + cond (has_passing kind p (get_or slots slot None)) 1 0)
entries-unchanged kind p held chip slot = go (slots_of held Working chip)
  where
    go : (o : Option Slots) → IfSome o (λ slots. entries held ≤ entries held + cond (has_passing kind p (get_or slots slot None)) 1 0)
    go None = tt
    go (Some slots) = omega arith

-- when all are done
pub swept-all : {X : Type 0} (kind : Kind X) (p : X → Bool) (new : Held) (chip : Chip) (end n : ℕ) (slots : Option Slots) → end ≤ n → IfSome slots (AreEmptyFrom end)
    → IfSome slots (λ slots. slots_of new Working chip ≡ Some (changed_front (without_passing kind p) n slots)) → IfSome slots (λ slots. slots_of new Working chip ≡ Some (all_without kind p slots))
swept-all kind p new chip end n None behind empty done = tt
swept-all kind p new chip end n (Some slots) behind empty done = done ∙ ap Some (front-all kind p n slots (λ slot later. empty slot (omega (arith, behind, later))))

-- Which slots have another chain.

-- a slot whose record passes may have another
pub only-passing : {X : Type 0} (kind : Kind X) (p : X → Bool) (old new : Held) (chip : Chip) (slot : ℕ) (x : X) → IfSome (slots_of old Working chip) (λ slots. Some x ≡ at_slot kind slot slots) → p x ≡ true → ChangesOnly slot old new
    → IfSome (slots_of old Working chip) (λ slots. ChangesWhere (λ other. other == slot && has_passing kind p (get_or slots slot None)) old new)
only-passing kind p old new chip slot x at passes only = go (slots_of old Working chip) at
  where
    go : (o : Option Slots) → IfSome o (λ slots. Some x ≡ at_slot kind slot slots) → IfSome o (λ slots. ChangesWhere (λ other. other == slot && has_passing kind p (get_or slots slot None)) old new)
    go None at = tt
    go (Some slots) at = ChangesWhere-more (λ other. other == slot) (λ other. other == slot && has_passing kind p (get_or slots slot None)) old new
        (λ other (apart : (other == slot && has_passing kind p (get_or slots slot None)) ≡ false). other-is (other == slot) (has_passing kind p (get_or slots slot None)) (passing (get_or slots slot None) at) apart) only
      where
        passing : (entry : Option (List ℕ)) → Some x ≡ in_slot (read_as kind) entry → has_passing kind p entry ≡ true
        passing entry is = rw (sym is) passes

        other-is : (a b : Bool) → b ≡ true → (a && b) ≡ false → a ≡ false
        other-is true b is wrong = absurd (false≢true (sym wrong ∙ is))
        other-is false b is apart = refl

-- and where nothing was done none has
pub only-unchanged : {X : Type 0} (kind : Kind X) (p : X → Bool) (held : Held) (chip : Chip) (slot : ℕ)
    → IfSome (slots_of held Working chip) (λ slots. ChangesWhere (λ other. other == slot && has_passing kind p (get_or slots slot None)) held held)
only-unchanged kind p held chip slot = go (slots_of held Working chip)
  where
    go : (o : Option Slots) → IfSome o (λ slots. ChangesWhere (λ other. other == slot && has_passing kind p (get_or slots slot None)) held held)
    go None = tt
    go (Some slots) = ChangesWhere-none (λ other. other == slot && has_passing kind p (get_or slots slot None)) held

pub only-none : {X : Type 0} (kind : Kind X) (p : X → Bool) (held : Held) (slots : Option Slots) → IfSome slots (λ slots. ChangesWhere (λ slot. has_passing kind p (get_or slots slot None)) held held)
only-none kind p held None = tt
only-none kind p held (Some slots) = ChangesWhere-none (λ slot. has_passing kind p (get_or slots slot None)) held

-- one more slot is done
pub only-more : {X : Type 0} (kind : Kind X) (p : X → Bool) (old mid new : Held) (chip : Chip) (n : ℕ) (slots : Option Slots) → IfSome slots (λ slots. slots_of mid Working chip ≡ Some (changed_front (without_passing kind p) n slots))
    → IfSome (slots_of mid Working chip) (λ slots. ChangesWhere (λ other. other == n && has_passing kind p (get_or slots n None)) mid new)
    → IfSome slots (λ slots. ChangesWhere (λ slot. has_passing kind p (get_or slots slot None)) old mid) → IfSome slots (λ slots. ChangesWhere (λ slot. has_passing kind p (get_or slots slot None)) old new)
only-more kind p old mid new chip n None so_far here only = tt
only-more kind p old mid new chip n (Some slots) so_far here only =
    let f = without_passing kind p in
    let passes = λ (slot : ℕ). has_passing kind p (get_or slots slot None) in
    let now = changed_front f n slots in
    let one : ChangesWhere (λ other. other == n && has_passing kind p (get_or now n None)) mid new =
    subst (λ o. IfSome o (λ slots. ChangesWhere (λ other. other == n && has_passing kind p (get_or slots n None)) mid new)) so_far here in
    let same : ChangesWhere (λ other. other == n && passes n) mid new = subst (λ v. ChangesWhere (λ other. other == n && has_passing kind p v) mid new) (front-next f n slots None) one in
    ChangesWhere-more (λ slot. passes slot || (slot == n && passes n)) passes old new
    (λ slot (stays : passes slot ≡ false). elim (cases_Bool (slot == n)) [
      | inl t ↦ let none : passes n ≡ false = subst (λ m. passes m ≡ false) (eqb-true slot n t) stays in
          rw (stays, t, none) refl
      | inr f ↦ rw (stays, f) refl
    ])
    (ChangesWhere-then passes (λ other. other == n && passes n) old mid new only same)
