-- That stamps rise is one fact, so that a value may keep it.
use Rattle.std.specs.Prelude.{ℕ, List, [], ◌∷◌}
use Rattle.std.specs.List.{AllByRecursion-prop}
use Rattle.std.specs.Coded.{Unit-prop, ×_prop, le_prop}
use Rattle.eeprom.specs.Slots.{Rises}

pub Rises-prop : {X : Type 0} (key : X → ℕ) (xs : List X) → IsProp (Rises key xs)
Rises-prop key [] = Unit-prop
Rises-prop key (x ∷ xs) = ×_prop (AllByRecursion-prop _ (λ y. le_prop) xs) (Rises-prop key xs)
