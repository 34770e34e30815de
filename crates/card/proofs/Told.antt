-- What a clause says of a value that is there.
use Rattle.std.proofs.Common.{◌≡◌, Option, Some, subst}
use Rattle.std.specs.Prelude.{IfSome}

pub if_some-at : {X : Type 0} (P : X → Type 0) (o : Option X) (x : X) → o ≡ Some x → IfSome o P → P x
if_some-at P o x is holds = subst (λ (o : Option _). IfSome o P) is holds
