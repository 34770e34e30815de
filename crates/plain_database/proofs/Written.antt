-- What is written through a cursor is there.
use Rattle.std.proofs.Common.{◌≡◌, Bool, true, Some, None, sym, inl, inr}
use Rattle.std.specs.Prelude.{if◌then◌else◌}
use Rattle.std.proofs.lemmas.Bool.{cases_Bool}
use Rattle.std.proofs.lemmas.Option.{none-some, same_Some}

-- something is chosen only where a test is true, and it is the one
pub chosen-true : {X : Type 0} (test : Bool) (x y : X) → Some x ≡ (if test then Some y else None) → test ≡ true
chosen-true test x y is = elim (cases_Bool test) [ inl t ↦ t | inr f ↦ absurd (none-some x (sym (rw f at is))) ]

pub chosen-same : {X : Type 0} (test : Bool) (x y : X) → Some x ≡ (if test then Some y else None) → x ≡ y
chosen-same test x y is = elim (cases_Bool test) [ inl t ↦ same_Some x y (rw t at is) | inr f ↦ absurd (none-some x (sym (rw f at is))) ]
