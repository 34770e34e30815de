-- What reading rows may cost, in octets, by their stamps.
use Rattle.std.specs.Prelude.{ℕ, ◌+◌, ◌≤◌, ◌==◌, nat_le, nat_lt, Bool, ◌&&◌, if◌then◌else◌, List, Option, Some, None}
use Rattle.std.specs.List.{sum_by}
use Rattle.scql_base.specs.Row.{row_size}
use Rattle.scql_base.specs.Words.{done}
use Rattle.scql_base.specs.declared.cursor.Place.{Place}
use Rattle.scql_base.specs.declared.cursor.Place.TheVariants.{NotOpen, At, End}
use Rattle.scql_base.specs.declared.words.StatusWord.{StatusWord}
use Rattle.scql_model.specs.Matching.{Values}

-- what reading the row of a stamp may cost
pub record Cost : Type 0 where
  pub stamp : ℕ
  pub octets : ℕ

-- a count rises by at least and at most so many
abbrev pub RisesBetween : ℕ → ℕ → ℕ → ℕ → Type 0
RisesBetween least most before after = (before + least ≤ after) × (after ≤ before + most)

-- the costs of the stamps that pass a test
abbrev pub cost_where : (ℕ → Bool) → List Cost → ℕ
cost_where test costs = sum_by (λ (c : Cost). if test c.stamp then c.octets else 0) costs

-- the cost of a stamp
abbrev pub cost_of : ℕ → List Cost → ℕ
cost_of stamp costs = cost_where (λ other. other == stamp) costs

-- the costs of the stamps above one, up to another where there is one
abbrev pub cost_behind : ℕ → Option ℕ → List Cost → ℕ
cost_behind stamp None costs = cost_where (nat_lt stamp) costs
cost_behind stamp (Some last) costs = cost_where (λ other. nat_lt stamp other && nat_le other last) costs

-- the cost of the row at a place
abbrev pub cost_at : Place → List Cost → ℕ
cost_at NotOpen costs = 0
cost_at (At stamp) costs = cost_of stamp costs
cost_at End costs = 0

-- the costs behind a place, up to one that was reached or to the end
abbrev pub cost_between : Place → Place → List Cost → ℕ
cost_between (At stamp) (At last) costs = cost_behind stamp (Some last) costs
cost_between (At stamp) NotOpen costs = cost_behind stamp None costs
cost_between (At stamp) End costs = cost_behind stamp None costs
cost_between NotOpen reached costs = 0
cost_between End reached costs = 0

-- a row that is given was read
abbrev pub least_read : StatusWord → Values → ℕ
least_read word values = if word.word == done.word then row_size values else 0

-- a row that is handed out was read
abbrev pub size_handed : Option ℕ → Values → ℕ
size_handed None values = 0
size_handed (Some stamp) values = row_size values
