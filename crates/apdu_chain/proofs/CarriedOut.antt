-- What commands do at a machine, where no open transaction keeps them waiting.
use Rattle.std.proofs.Common.{◌≡◌, ◌==◌, ℕ, true, false, List, Option, Some, None, Result, Ok, Err, refl, ap, subst, ◌∙◌, inl, inr}
use Rattle.std.specs.Option.{option_map_or}
use Rattle.std.proofs.lemmas.Bool.{cases_Bool}
use Rattle.std.proofs.lemmas.Option.{none-some}
use Rattle.scql_base.specs.declared.words.StatusWord.{StatusWord}
use Rattle.scql_base.specs.declared.operation.Command.{Command}
use Rattle.scql_base.specs.declared.operation.Operation.{Operation}
use Rattle.scql_base.specs.declared.operation.Operation.TheVariants as asks
use Rattle.scql_base.specs.Words.{conditions_not_satisfied}
use Rattle.scql_model.specs.Refusals.{◌>>=◌}
use Rattle.scql_model.specs.Database.{Database}
use Rattle.scql_model.specs.Machine.{Machine, Transaction, base, actor}
use Rattle.scql_model.specs.Sessions.{cursor_of}
use Rattle.scql_model.specs.Transactions.{for_none, is_kept_waiting, own_transaction, waits}
use Rattle.scql_model.specs.Operations.{kind_of}
use Rattle.scql_model.specs.Edits.{Edit}
use Rattle.scql_model.specs.Bound.{octets_operated, octets_carried_out}
use Rattle.scql_model.specs.Changing.{edits_of, with_edits}
use Rattle.scql_model.specs.ReadingCommands.{ReadingCommand, reading_command}
use Rattle.scql_model.specs.Step.{Answer, changed_to, changed, reading_done, operated, carried_out}

-- Outside of a transaction each channel reads and changes what is committed.
pub committed-base : (m : Machine) (channel : ℕ) → m.transaction ≡ None → base m channel ≡ m.committed
committed-base m channel none = rw none refl

-- what the channel of the open transaction reads and changes is what the transaction works on
pub base-own : (m : Machine) (channel : ℕ) (t : Transaction) → m.transaction ≡ Some t → own_transaction m.transaction channel ≡ Some t → base m channel ≡ t.working
base-own m channel t is own =
    let here : own_transaction (Some t) channel ≡ Some t = subst (λ (o : Option Transaction). own_transaction o channel ≡ Some t) is own in
    elim (cases_Bool (t.channel == channel)) [
      | inl e ↦ rw (is, e) refl
      | inr f ↦ absurd (none-some t (rw f at here))
    ]

-- A command that is kept waiting is refused, and nothing is written for it.
pub carried_out-waits : (m : Machine) (c : Command) → is_kept_waiting (waits (kind_of c.operation)) m.transaction c.channel ≡ true → carried_out m c ≡ Err conditions_not_satisfied
carried_out-waits m c kept = rw kept refl

-- Another does what its operation does, unless it reads.
pub carried_out-free : (m : Machine) (channel : ℕ) (operation : Operation) (le : Option ℕ) → is_kept_waiting (waits (kind_of operation)) m.transaction channel ≡ false
    → carried_out m (record { channel = channel; operation = operation; le = le })
    ≡ option_map_or (λ command. Ok (reading_done m channel command)) (reading_command operation le) (operated m channel operation)
carried_out-free m channel operation le free = rw free refl

pub octets_carried_out-free : (m : Machine) (channel : ℕ) (operation : Operation) (le : Option ℕ) → is_kept_waiting (waits (kind_of operation)) m.transaction channel ≡ false
    → octets_carried_out m (record { channel = channel; operation = operation; le = le }) ≡ octets_operated m channel operation
octets_carried_out-free m channel operation le free = rw free refl

-- the one that has an arm of its own operates
pub carried_out-arm : (m : Machine) (c : Command) (operation : Operation) → c.operation ≡ operation → is_kept_waiting (waits (kind_of c.operation)) m.transaction c.channel ≡ false → reading_command operation c.le ≡ None
    → carried_out m c ≡ operated m c.channel operation
carried_out-arm m c operation is free none =
    carried_out-free m c.channel c.operation c.le free
    ∙ (ap (λ (o : Option ReadingCommand). option_map_or (λ command. Ok (reading_done m c.channel command)) o (operated m c.channel c.operation)) (ap (λ (op : Operation). reading_command op c.le) is ∙ none)
    ∙ ap (operated m c.channel) is)

pub octets-arm : (m : Machine) (c : Command) (operation : Operation) → c.operation ≡ operation → is_kept_waiting (waits (kind_of c.operation)) m.transaction c.channel ≡ false
    → octets_carried_out m c ≡ octets_operated m c.channel operation
octets-arm m c operation is free = octets_carried_out-free m c.channel c.operation c.le free ∙ ap (octets_operated m c.channel) is

-- what waits for none isn't kept waiting
free-none : (t : Option Transaction) (channel : ℕ) → is_kept_waiting for_none t channel ≡ false
free-none None channel = refl
free-none (Some t) channel = refl

-- a command that reads does so
pub carried_out-reads : (m : Machine) (c : Command) (command : ReadingCommand) → reading_command c.operation c.le ≡ Some command → carried_out m c ≡ Ok (reading_done m c.channel command)
carried_out-reads m c command is =
    carried_out-free m c.channel c.operation c.le (free c.operation c.le is) ∙ ap (λ (o : Option ReadingCommand). option_map_or (λ command. Ok (reading_done m c.channel command)) o (operated m c.channel c.operation)) is
  where
    free : (operation : Operation) (le : Option ℕ) → reading_command operation le ≡ Some command → is_kept_waiting (waits (kind_of operation)) m.transaction c.channel ≡ false
    free (asks.DeclareCursor object columns conditions) le is = free-none m.transaction c.channel
    free asks.OpenCursor le is = free-none m.transaction c.channel
    free asks.Next le is = free-none m.transaction c.channel
    free asks.Fetch le is = free-none m.transaction c.channel
    free asks.FetchNext le is = free-none m.transaction c.channel
    free asks.GetResponse le is = free-none m.transaction c.channel
    free operation le is = absurd cc

-- what becomes of a change with these edits, by the channel's own transaction
abbrev pub outcome_with : Machine → ℕ → Option Transaction → Result (List Edit) StatusWord → Result Answer StatusWord
outcome_with m channel own edited = edited >>= λ (edits : List Edit). with_edits (base m channel) edits >>= λ (db : Database). Ok (changed_to m channel edits db own)

pub changed-own : (m : Machine) (channel : ℕ) (operation : Operation) (own : Option Transaction) → own_transaction m.transaction channel ≡ own
    → changed m channel operation ≡ outcome_with m channel own (edits_of (base m channel) (actor m channel) (cursor_of m channel) operation)
changed-own m channel operation own is = ap (λ (t : Option Transaction). outcome_with m channel t (edits_of (base m channel) (actor m channel) (cursor_of m channel) operation)) is
