-- Lists whose elements differ from one another.
use Rattle.std.specs.Prelude.{◌≡◌, ℕ, not, ◌&&◌, Bool, true, List, [], ◌∷◌}
use Rattle.std.specs.List.{list_any}
use Rattle.std.specs.Str.{bytes_eq}
use Rattle.scql_base.specs.Lists.{AreNames}

-- no element is the same as a later one, by a test of two
abbrev pub are_apart_by : {X : Type 0} → (X → X → Bool) → List X → Bool
are_apart_by same [] = true
are_apart_by same (x ∷ xs) = not (list_any (same x) xs) && are_apart_by same xs

-- whether texts are different
abbrev pub are_different : List (List ℕ) → Bool
are_different names = are_apart_by bytes_eq names

-- what a list of names tells of whether they are different
pub record TellsDifferent (names : List (List ℕ)) (told : Bool) : Type 0 where
  pub different : told ≡ are_different names
  -- the list is one of names
  pub list : AreNames names
