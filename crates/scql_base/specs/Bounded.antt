-- What a list of at most so many elements tells of its length, and how it takes one more.
use Rattle.std.proofs.Common.{Bor}
use Rattle.std.specs.Prelude.{◌≡◌, ℕ, ◌<◌, ◌↔◌, List, [], ◌∷◌, ◌++◌, length, Option, IsSome, option_copied, slice_get, Result, IsOk, OnOk, OnErr}

-- the length that a list tells, and which lists there are
pub record Counted {X : Type 0} (Fits : List X → Type 0) (xs : List X) (n : ℕ) : Type 0 where
  -- how many elements there are
  pub count : n ≡ length xs
  -- the list is one of its kind
  pub list : Fits xs

-- one more element is put at the end of a list of at most so many
pub record Pushed {X E : Type 0} (most : ℕ) (old : List X) (x : X) (new : List X) (result : Result (Unit {0}) E) : Type 0 where
  -- it is taken just where there is room
  pub variant : IsOk result ↔ (length old < most)
  pub ok : OnOk result (new ≡ old ++ x ∷ [])
  -- a full list stays as it is
  pub full : OnErr result (new ≡ old)

-- what a list has at a place, counted from 0
pub record HasAt {X : Type 0} (xs : List X) (place : ℕ) (there : Option (Bor X)) : Type 0 where
  pub value : option_copied there ≡ slice_get xs place
  -- there is one at each place below the length
  pub found : IsSome there ↔ (place < length xs)
