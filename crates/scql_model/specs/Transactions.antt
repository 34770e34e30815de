-- What an open transaction keeps its own channel and the others from (ISO/IEC 7816-7, PERFORM TRANSACTION OPERATION).
use Rattle.std.specs.Prelude.{ℕ, ◌==◌, not, Bool, true, false, Option, Some, None, if◌then◌else◌}
use Rattle.scql_base.specs.declared.operation.OperationKind.{OperationKind}
use Rattle.scql_base.specs.declared.operation.OperationKind.TheVariants.{DeclareCursor, OpenCursor, Next, Fetch, FetchNext, PresentUser, DeleteUser, Verify, OpenChannel, CloseChannel, GetResponse}
use Rattle.scql_model.specs.Machine.{Transaction}

-- the transaction that is a channel's own
abbrev pub own_transaction : Option Transaction → ℕ → Option Transaction
own_transaction None channel = None
own_transaction (Some t) channel = if t.channel == channel then Some t else None

-- which open transaction a command waits for: none, one of another channel, or any
pub data Waits : Type 0 where
  for_none : Waits
  for_others : Waits
  for_any : Waits

-- reading waits for none, and neither does opening or closing a channel; what says who acts, or takes a user away, waits for any
abbrev pub waits : OperationKind → Waits
waits DeclareCursor = for_none
waits OpenCursor = for_none
waits Next = for_none
waits Fetch = for_none
waits FetchNext = for_none
waits GetResponse = for_none
waits (OpenChannel number) = for_none
waits (CloseChannel number) = for_none
waits PresentUser = for_any
waits Verify = for_any
waits DeleteUser = for_any
waits kind = for_others

abbrev pub is_kept_waiting : Waits → Option Transaction → ℕ → Bool
is_kept_waiting waits None channel = false
is_kept_waiting for_none (Some t) channel = false
is_kept_waiting for_others (Some t) channel = not (t.channel == channel)
is_kept_waiting for_any (Some t) channel = true
