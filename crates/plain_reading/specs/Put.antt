-- A value at the end of a row.
use Rattle.std.specs.Prelude.{◌≡◌, ℕ, ◌+◌, ◌<◌, List, [], ◌∷◌, ◌++◌, length}
use Rattle.scql_base.specs.Row.{row_size}
use Rattle.scql_base.specs.declared.row.TheConstants.Row.{LARGEST, MOST}
use Rattle.scql_model.specs.Matching.{Values}

-- A row has a place for one more value of so many octets.
pub record HasPlace (size : ℕ) (row : Values) : Type 0 where
  -- it has fewer values than a row may have
  pub count : length row < MOST
  -- and octets enough are left
  pub room : row_size row + size < LARGEST

-- A value was put behind those of a row.
pub record IsPut (old new : Values) (value : List ℕ) : Type 0 where
  -- it stands behind them
  pub put : new ≡ old ++ value ∷ []
  -- so there is one more
  pub count : length new ≡ length old + 1
  -- with an octet of its length
  pub size : row_size new ≡ row_size old + (length value + 1)
