-- The line of an operation is found by its INS, P1 and P2.
use Rattle.std.proofs.Common.{◌≡◌, ℕ, zero, suc, ◌<◌, ◌==◌, ◌&&◌, ◌||◌, Bool, true, false, List, [], ◌∷◌, length, map, get_or, Some, if◌then◌else◌, refl, arith}
use Rattle.std.specs.List.{Contains, find}
use Rattle.std.proofs.lemmas.Option.{none-some, same_Some}
use Rattle.scql_base.specs.declared.operation.Line.{Line}
use Rattle.scql_base.specs.declared.operation.OperationKind.{OperationKind}
use Rattle.scql_model.specs.Operations.{operations, has_instruction, line_of}
use Rattle.scql_model.specs.Spelling.{is_same, line_for, HasLine}

-- each line of the table is found by its own INS, P1 and P2, and by its operation
found_by_octets : map (λ (l : Line). line_of operations l.ins l.p1 l.p2) operations ≡ map Some operations
found_by_octets = refl

found_by_kind : map (λ (l : Line). line_for operations l.kind) operations ≡ map Some operations
found_by_kind = refl

-- what maps a list alike maps each of its elements alike
alike : {A B : Type 0} (f g : A → B) (xs : List A) (x : A) (k : ℕ) → k < length xs → get_or xs k x ≡ x → map f xs ≡ map g xs → f x ≡ g x
alike f g [] x k lt is same = absurd (omega (arith, lt))
alike f g (y ∷ ys) x zero lt is same = let first : f y ≡ g y = cc in rw (← is) first
alike f g (y ∷ ys) x (suc k) lt is same = alike f g ys x k (omega (arith, lt)) is (let others : map f ys ≡ map g ys = cc in others)

Contains-find : {A : Type 0} (p : A → Bool) (xs : List A) (x : A) → find p xs ≡ Some x → Contains xs x
Contains-find p [] x is = absurd (none-some x is)
Contains-find {A} p (y ∷ ys) x is = go (p y) is (Contains-find p ys x)
  where
    go : (here : Bool) → (if here then Some y else find p ys) ≡ Some x → (find p ys ≡ Some x → Contains ys x) → Contains (y ∷ ys) x
    go true is later = (0, omega arith, same_Some y x is)
    go false is later = let at = later is in (suc at.0, omega (arith, at.1), at.2)

-- each line is found
pub HasLine-operations : (asked : OperationKind) → HasLine operations asked
HasLine-operations asked l at =
    let has = Contains-find (λ (l : Line). is_same l.kind asked) operations l at in
    alike (λ (l : Line). line_of operations l.ins l.p1 l.p2) Some operations l has.0 has.1 has.2 found_by_octets

-- a line that is found has an instruction that the table has
pub has_instruction-found : (table : List Line) (ins p1 p2 : ℕ) (l : Line) → line_of table ins p1 p2 ≡ Some l → has_instruction table ins ≡ true
has_instruction-found [] ins p1 p2 l is = absurd (none-some l is)
has_instruction-found (line ∷ table) ins p1 p2 l is = go (line.ins == ins) (line.p1 == p1) (line.p2 == p2) is (λ later. has_instruction-found table ins p1 p2 l later)
  where
    go : (here first second : Bool) → (if here && first && second then Some line else line_of table ins p1 p2) ≡ Some l → (line_of table ins p1 p2 ≡ Some l → has_instruction table ins ≡ true)
        → here || has_instruction table ins ≡ true
    go true first second is later = refl
    go false first second is later = later is
