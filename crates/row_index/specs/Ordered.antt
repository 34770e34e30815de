-- How the rows of one side are kept.
use Rattle.std.specs.Prelude.{◌≡◌, ℕ, ◌<◌, ◌≤◌, List, length}
use Rattle.std.specs.List.{AllByRecursion}
use Rattle.row_index.specs.SideRows.{SideRows}

-- how many rows there may be, and those that there are
pub record Ordered : Type 0 where
  pub cells : ℕ
  pub rows : SideRows

-- of each slot the table is kept; the slots of rows are those of the store, and there is room for one in each cell
pub record IsOrdered (cells : ℕ) (tables slots : List ℕ) (capacity : ℕ) : Type 0 where
  pub each : length tables ≡ cells
  pub within : AllByRecursion (λ slot. slot < cells) slots
  pub few : length slots ≤ cells
  pub room : cells ≤ capacity
