-- Octets are a record of one kind at most, since the records of a kind begin with octets of its own.
use Rattle.std.proofs.Common.{ℕ, ◌+◌, ◌≤◌, ◌==◌, Bool, true, false, List, [], ◌∷◌, length, Option, Some, None, option_map, if◌then◌else◌, lit≤, inl, inr, arith}
use Rattle.std.specs.Option.{option_and_then}
use Rattle.std.proofs.lemmas.Bool.{cases_Bool, eqb-true}
use Rattle.scql_model.specs.Records.{counter_in, user_in, object_in, grant_in, row_in}

-- how many records are read: none or one
abbrev pub given : {X : Type 0} → Option X → ℕ
given None = 0
given (Some x) = 1

given-most : {X : Type 0} (o : Option X) → given o ≤ 1
given-most None = omega arith
given-most (Some x) = omega arith

abbrev one_if : Bool → ℕ
one_if true = 1
one_if false = 0

abbrev at_end : {A : Type 0} → A × List ℕ → Option A
at_end x = if length x.1 == 0 then Some x.0 else None

-- a record with a mark is read only of octets that begin with it
given-marked : {A : Type 0} (b : Bool) (o : Option (A × List ℕ)) → given (option_and_then at_end (if b then o else None)) ≤ one_if b
given-marked true o = given-most (option_and_then at_end o)
given-marked false o = omega arith

-- and an object only of octets that begin with one of three
given-chosen : {A B C X : Type 0} (b c d : Bool) (p : Option (A × List ℕ)) (q : Option (B × List ℕ)) (r : Option (C × List ℕ)) (to : A × List ℕ → X × List ℕ) (to' : B × List ℕ → X × List ℕ) (to'' : C × List ℕ → X × List ℕ)
    → given (option_and_then at_end (if b then option_map to (if b then p else None) else if c then option_map to' (if c then q else None) else option_map to'' (if d then r else None)))
    ≤ one_if b + (one_if c + one_if d)
given-chosen true c d p q r to to' to'' = omega (arith, given-most (option_and_then at_end (option_map to p)))
given-chosen false true d p q r to to' to'' = omega (arith, given-most (option_and_then at_end (option_map to' q)))
given-chosen false false true p q r to to' to'' = omega (arith, given-most (option_and_then at_end (option_map to'' r)))
given-chosen false false false p q r to to' to'' = omega arith

-- an octet is one mark at most
one_mark : (n : ℕ) → one_if (n == 0) + (one_if (n == 1) + ((one_if (n == 2) + (one_if (n == 3) + one_if (n == 4))) + (one_if (n == 5) + one_if (n == 6)))) ≤ 1
one_mark n =
    elim (cases_Bool (n == 0)) [
      | inl t ↦ rw (eqb-true n 0 t) (lit≤ tt)
      | inr f ↦ rw f (
          elim (cases_Bool (n == 1)) [
            | inl t ↦ rw (eqb-true n 1 t) (lit≤ tt)
            | inr f ↦ rw f (
                elim (cases_Bool (n == 2)) [
                  | inl t ↦ rw (eqb-true n 2 t) (lit≤ tt)
                  | inr f ↦ rw f (
                      elim (cases_Bool (n == 3)) [
                        | inl t ↦ rw (eqb-true n 3 t) (lit≤ tt)
                        | inr f ↦ rw f (
                            elim (cases_Bool (n == 4)) [
                              | inl t ↦ rw (eqb-true n 4 t) (lit≤ tt)
                              | inr f ↦ rw f (
                                  elim (cases_Bool (n == 5)) [
                                    | inl t ↦ rw (eqb-true n 5 t) (lit≤ tt)
                                    | inr f ↦ rw f (
                                        elim (cases_Bool (n == 6)) [ inl t ↦ rw t (lit≤ tt) | inr f ↦ rw f (lit≤ tt) ])
                                  ])
                            ])
                      ])
                ])
          ])
    ]

-- how many records all readers read of octets
abbrev pub records_in : List ℕ → ℕ
records_in octets = given (counter_in octets) + (given (user_in octets) + (given (object_in octets) + (given (grant_in octets) + given (row_in octets))))

-- Octets are one record at most.
pub one_kind : (octets : List ℕ) → records_in octets ≤ 1
one_kind [] = omega arith
one_kind (first ∷ octets) =
    let counter : given (counter_in (first ∷ octets)) ≤ one_if (first == 0) = given-marked _ _ in
    let user : given (user_in (first ∷ octets)) ≤ one_if (first == 1) = given-marked _ _ in
    let object : given (object_in (first ∷ octets)) ≤ one_if (first == 2) + (one_if (first == 3) + one_if (first == 4)) = given-chosen _ _ _ _ _ _ _ _ _ in
    let grant : given (grant_in (first ∷ octets)) ≤ one_if (first == 5) = given-marked _ _ in
    let row : given (row_in (first ∷ octets)) ≤ one_if (first == 6) = given-marked _ _ in
    omega (arith, counter, user, object, grant, row, one_mark first)
