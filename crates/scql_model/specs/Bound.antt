-- How many octets are written at most for a command: 32 for each cell of the records that are added or changed, and for each commit four,
-- and six for each record that it touches.
use Rattle.std.specs.Prelude.{ℕ, ◌*◌, not, List, [], ◌∷◌, length, Option, Some, None, Result, Ok, Err}
use Rattle.scql_base.specs.declared.words.StatusWord.{StatusWord}
use Rattle.scql_base.specs.declared.operation.Command.{Command}
use Rattle.scql_base.specs.declared.operation.Operation.{Operation}
use Rattle.scql_base.specs.declared.operation.Operation.TheVariants.{Commit, Verify}
use Rattle.scql_base.specs.Words.{conditions_not_satisfied}
use Rattle.scql_model.specs.Refusals.{◌>>=◌, or_refused, provided}
use Rattle.scql_model.specs.Database.{user_stamped}
use Rattle.scql_model.specs.Machine.{Machine, Transaction, open_channels, base, actor}
use Rattle.scql_model.specs.Sessions.{changing_session, command_chain, without_chain, cursor_of, user_of}
use Rattle.scql_model.specs.Transactions.{own_transaction, waits, is_kept_waiting}
use Rattle.scql_model.specs.Operations.{operations, kind_of}
use Rattle.scql_model.specs.Form.{Form, refused, refused_on, part_on, a_command, form_of}
use Rattle.scql_model.specs.Edits.{Edit, of_user, changing, cells_written, octets_for_cells, octets_for_commit, octets_for}
use Rattle.scql_model.specs.Changing.{edits_of, with_edits}
use Rattle.scql_model.specs.Step.{verified}

-- a change outside of a transaction is written and committed; within one its records alone are written
abbrev pub octets_for_change : Option Transaction → List Edit → ℕ
octets_for_change None edits = octets_for edits
octets_for_change (Some t) edits = octets_for_cells (cells_written edits)

-- for an operation that has edits
abbrev pub octets_changed : Machine → ℕ → Operation → Result ℕ StatusWord
octets_changed m channel operation = do
  edits ← edits_of (base m channel) (actor m channel) (cursor_of m channel) operation
  _ ← with_edits (base m channel) edits
  Ok (octets_for_change (own_transaction m.transaction channel) edits)

-- for COMMIT: all records of the transaction are written already, and each that it touched is committed
abbrev pub octets_committed : Machine → ℕ → Result ℕ StatusWord
octets_committed m channel = do
  t ← or_refused (own_transaction m.transaction channel) conditions_not_satisfied
  Ok (octets_for_commit (length t.touched))

-- for VERIFY: the user's record, once for each of its commits, of which there is one where the secret is wrong, and two where it is right
abbrev pub octets_verified : Machine → ℕ → List ℕ → Result ℕ StatusWord
octets_verified m channel secret = do
  answer ← verified m channel secret
  p ← or_refused (user_of m channel) conditions_not_satisfied
  u ← or_refused (user_stamped m.committed.users p.stamp) conditions_not_satisfied
  Ok (length answer.commits * octets_for (changing (of_user u) ∷ []))

-- Reading, BEGIN, ROLLBACK, PRESENT USER and MANAGE CHANNEL have no edits.
abbrev pub octets_operated : Machine → ℕ → Operation → Result ℕ StatusWord
octets_operated m channel Commit = octets_committed m channel
octets_operated m channel (Verify secret) = octets_verified m channel secret
octets_operated m channel operation = octets_changed m channel operation

-- a command that an open transaction keeps waiting is refused
abbrev pub octets_carried_out : Machine → Command → Result ℕ StatusWord
octets_carried_out m c = do
  _ ← provided (not (is_kept_waiting (waits (kind_of c.operation)) m.transaction c.channel)) conditions_not_satisfied
  octets_operated m c.channel c.operation

-- for what is refused, and for what has no edits, nothing is written
abbrev pub or_nothing : Result ℕ StatusWord → ℕ
or_nothing (Ok octets) = octets
or_nothing (Err word) = 0

-- and nothing for a part of a command
abbrev pub octets_stepped : Machine → Form → ℕ
octets_stepped m (refused word) = 0
octets_stepped m (refused_on channel word) = 0
octets_stepped m (part_on channel kind octets) = 0
octets_stepped m (a_command c) = or_nothing (octets_carried_out (changing_session without_chain m c.channel) c)

-- At most so many octets are written in the step to octets.
unfoldable pub octets_bound : Machine → List ℕ → ℕ
octets_bound m octets = octets_stepped m (form_of operations octets (open_channels m) (command_chain m) m.committed.limit)
