-- What an open transaction is to the channels of a card.
use Rattle.std.specs.Prelude.{ℕ, ◌==◌, not, Bool, true, false, Option, Some, None, if◌then◌else◌}
use Rattle.record_store.specs.declared.side.Side.{Side}
use Rattle.record_store.specs.declared.side.Side.TheVariants.{Committed, Working}
use Rattle.scql_model.specs.Transactions.{Waits, for_none, for_others, for_any}

-- the side that a channel reads and changes: the working one where it has the open transaction
abbrev pub side_of : Option ℕ → ℕ → Side
side_of None channel = Committed
side_of (Some own) channel = if own == channel then Working else Committed

-- a channel has the open transaction
abbrev pub has_own : Option ℕ → ℕ → Bool
has_own None channel = false
has_own (Some own) channel = own == channel

-- whether the open transaction, by its channel, keeps a command of a channel waiting
abbrev pub keeps_waiting : Waits → Option ℕ → ℕ → Bool
keeps_waiting waits None channel = false
keeps_waiting for_none (Some own) channel = false
keeps_waiting for_others (Some own) channel = not (own == channel)
keeps_waiting for_any (Some own) channel = true
