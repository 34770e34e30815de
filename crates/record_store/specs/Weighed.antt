-- How many cells the records of each side have, as it is kept in memory.
use Rattle.std.specs.Prelude.{◌≡◌, ℕ, List, sum_by}
use Rattle.eeprom.specs.StoreOf.{longest_chain}
use Rattle.cell_store.specs.Chains.{steps}
use Rattle.record_store.specs.Held.{Held, firsts}
use Rattle.record_store.specs.Sound.{IsSound}
use Rattle.record_store.specs.declared.side.Side.TheVariants.{Working}

-- the cells of the chains along the links that begin at these
abbrev pub walk : List ℕ → List ℕ → ℕ
walk links firsts = sum_by (steps links longest_chain) firsts

-- what holds of each store in memory, and so many cells have the committed records and the working ones
pub record IsWeighed (held : Held) (committed_weight working_weight : ℕ) : Type 0 where
  pub sound : IsSound held
  pub committed_is : committed_weight ≡ walk held.chains.links held.committed
  pub working_is : working_weight ≡ walk held.chains.links (firsts held Working)
