-- Changes as they stand in the data field of UPDATE: of each its column and its value, two parameters.
use Rattle.std.specs.Prelude.{ℕ, ◌≤◌, List, [], ◌∷◌, length}
use Rattle.std.specs.List.{flat_map}
use Rattle.scql_base.specs.Lists.{AreChanges}
use Rattle.scql_base.specs.Strings.{spelled}
use Rattle.scql_base.specs.declared.operation.TheConstants.Command.{LONGEST_IN_PARTS}

-- a change is two strings: a name and a value
abbrev pub change_strings : List ℕ × List ℕ → List (List ℕ)
change_strings change = change.0 ∷ change.1 ∷ []

-- the changes that strings are, two by two
unfoldable pub pairs_of : List (List ℕ) → List (List ℕ × List ℕ)
pairs_of [] = []
pairs_of (column ∷ []) = []
pairs_of (column ∷ value ∷ strings) = (column, value) ∷ pairs_of strings

-- the octets of changes in a data field
abbrev pub change_octets : List (List ℕ × List ℕ) → List ℕ
change_octets changes = flat_map spelled (flat_map change_strings changes)

-- changes that one command can have
pub record ArePacked (changes : List (List ℕ × List ℕ)) : Type 0 where
  pub list : AreChanges changes
  pub size : length (change_octets changes) ≤ LONGEST_IN_PARTS
