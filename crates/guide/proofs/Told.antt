-- Some text is shown, and then some more.
use Rattle.std.proofs.Common.{Bool, ℕ, List, [], ◌++◌, Option}
use Rattle.person.specs.Showing.{ShowsSome}
use Rattle.person.proofs.Texts.{shows-none, shows-then}

pub told-none : {P : Type 0} (lost : P → Bool) (shown : P → Option (List ℕ)) (person : P) → ShowsSome lost shown person person
told-none lost shown person = ([], shows-none lost shown person)

pub told-then : {P : Type 0} (lost : P → Bool) (shown : P → Option (List ℕ)) (a b c : P) → ShowsSome lost shown a b → ShowsSome lost shown b c → ShowsSome lost shown a c
told-then lost shown a b c first second = (first.0 ++ second.0, shows-then lost shown first.0 second.0 a b c first.1 second.1)
