use Rattle.std.proofs.Common.{Result, Ok, Err}
use Rattle.std.specs.Prelude.{IfOk}
use Rattle.rack_cli.proofs.tests.fresh_card.Goals as goal

if-ok : {T E : Type 0} (result : Result T E) (P Q : T → Type 0) → ((x : T) → P x → Q x) → IfOk result P → IfOk result Q
if-ok (Ok x) P Q weaker holds = weaker x holds
if-ok (Err e) P Q weaker holds = tt

-- The card that was opened answers, and so does what is made of it.
pub returns : goal.returns
returns g c = if-ok c.boxed.result _ _
    (λ x same. rw same (rw c.new-in-Ok-3.ensures (rw c.new-in-Ok-2.ensures (rw c.new-in-Ok.ensures c.in-Ok.ensures.ready.stands.live))))
    c.boxed.ensures
