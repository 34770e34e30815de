-- A command can be sent: one that is asked, and each of those that a statement becomes.
use Rattle.std.proofs.Common.{◌≡◌, ℕ, ◌≤◌, true, false, [], refl, sym, ◌∙◌, ◌==◌, lit≤, arith}
use Rattle.std.specs.List.{AllByRecursion}
use Rattle.std.proofs.lemmas.Bool.{false≢true, ne_eqb, not-false, or_parts}
use Rattle.scql_base.specs.declared.operation.Operation.{Operation}
use Rattle.scql_base.specs.declared.operation.Operation.TheVariants.{Begin, Commit, Rollback, DeclareCursor, OpenCursor, Next, Fetch, FetchNext, GetResponse, Update, Delete, OpenChannel, CloseChannel}
use Rattle.scql_base.specs.Name.{is_name}
use Rattle.scql_model.specs.Operations.{is_for_channel, kind_of}
use Rattle.scql_model.specs.Parameters.{are_chosen_columns, are_conditions, are_changes}
use Rattle.scql_model.specs.Spelling.{fits}
use Rattle.scql_model.specs.WellFormed.{HasForm}
use Rattle.scql_model.proofs.FormedCommands.{wants_le, wants_le-of}
use Rattle.script.specs.declared.statement.Statement.{Statement}
use Rattle.script.specs.declared.statement.Statement.TheVariants.{Blank, Single, Select, UpdateRows, DeleteRows, OpenNumber, CloseNumber, UseNumber, Reset}
use Rattle.script.specs.Sizes.{has_long_row, is_operation_too_large, is_too_large}
use Rattle.script.specs.Commands.{asking, wanting, changing_commands, IsSendable, CanBeSent}

pub asked-sent : (channel : ℕ) (operation : Operation) → channel ≤ 3 → is_for_channel channel (kind_of operation) ≡ true → wants_le (kind_of operation) ≡ false
    → HasForm operation → fits (asking channel operation) ≡ true → IsSendable (asking channel operation)
asked-sent channel operation few for_it unwanted form fitting = record {
  formed = record {
    channel = few;
    closed = for_it;
    le = tt;
    wanted = λ wants. absurd (false≢true (sym unwanted ∙ wants_le-of (kind_of operation) wants));
    form = form;
  };
  fitting = fitting;
}

pub wanted-sent : (channel : ℕ) (operation : Operation) → channel ≤ 3 → is_for_channel channel (kind_of operation) ≡ true
    → HasForm operation → fits (wanting channel operation) ≡ true → IsSendable (wanting channel operation)
wanted-sent channel operation few for_it form fitting = record {
  formed = record { channel = few; closed = for_it; le = (lit≤ tt, lit≤ tt); wanted = λ wants. refl; form = form };
  fitting = fitting;
}

-- where its row isn't too long and its command fits
small-sent : (channel : ℕ) (operation : Operation) → channel ≤ 3 → is_for_channel channel (kind_of operation) ≡ true → wants_le (kind_of operation) ≡ false
    → (has_long_row operation ≡ false → HasForm operation) → is_operation_too_large operation ≡ false → IsSendable (asking channel operation)
small-sent channel operation few for_it unwanted form small =
    let parts = or_parts (has_long_row operation) _ small in
    asked-sent channel operation few for_it unwanted (form parts.0) (not-false (fits (asking channel operation)) parts.1)

-- The operation of a statement: every channel takes it, it doesn't want Le, and where its row isn't too long its fields have their form.
pub record IsFormedOperation (operation : Operation) : Type 0 where
  pub channels : (channel : ℕ) → is_for_channel channel (kind_of operation) ≡ true
  pub unwanted : wants_le (kind_of operation) ≡ false
  pub form : has_long_row operation ≡ false → HasForm operation

-- A statement that isn't too large and is so can be sent.
abbrev pub IsFormed : Statement → Type 0
IsFormed (Single operation) = IsFormedOperation operation
IsFormed (Select object columns conditions) = (is_name object ≡ true) × (are_chosen_columns columns ≡ true) × (are_conditions conditions ≡ true)
IsFormed (UpdateRows object changes conditions) = (is_name object ≡ true) × (are_changes changes ≡ true) × (are_conditions conditions ≡ true)
IsFormed (DeleteRows object conditions) = (is_name object ≡ true) × (are_conditions conditions ≡ true)
IsFormed (OpenNumber number) = (1 ≤ number) × (number ≤ 3)
IsFormed (CloseNumber number) = (1 ≤ number) × (number ≤ 3)
IsFormed (UseNumber number) = number ≤ 3
IsFormed Blank = Unit {0}
IsFormed Reset = Unit {0}

not_zero : (n : ℕ) → 1 ≤ n → n == 0 ≡ false
not_zero n some = ne_eqb n 0 (λ is. omega (arith, is, some))

-- the commands without fields
open-sent : (channel : ℕ) → channel ≤ 3 → IsSendable (asking channel OpenCursor)
open-sent channel few = asked-sent channel OpenCursor few refl refl tt refl

changing-sent : (channel : ℕ) (cursor change : Operation) → channel ≤ 3 → IsSendable (asking channel cursor) → IsSendable (asking channel change)
    → AllByRecursion IsSendable (changing_commands channel cursor change)
changing-sent channel cursor change few can_declare can_change = (
  asked-sent channel Begin few refl refl tt refl,
  (
    can_declare,
    (
      open-sent channel few,
      (
        can_change,
        (
          asked-sent channel Next few refl refl tt refl,
          (
            asked-sent channel Commit few refl refl tt refl,
            (asked-sent channel Rollback few refl refl tt refl, tt),
          ),
        ),
      ),
    ),
  ),
)

pub formed-sent : (channel : ℕ) (s : Statement) → channel ≤ 3 → IsFormed s → is_too_large s ≡ false → CanBeSent channel s
formed-sent channel Blank few form small = record { within = few; number = tt; commands = tt }
formed-sent channel Reset few form small = record { within = few; number = tt; commands = tt }
formed-sent channel (UseNumber number) few form small = record { within = few; number = form; commands = tt }
formed-sent channel (OpenNumber number) few form small =
    record { within = few; number = tt; commands = (asked-sent 0 (OpenChannel number) (lit≤ tt) refl (not_zero number form.0) form.1 refl, tt) }
formed-sent channel (CloseNumber number) few form small =
    record { within = few; number = tt; commands = (asked-sent 0 (CloseChannel number) (lit≤ tt) (rw (not_zero number form.0) refl) refl form.1 refl, tt) }
formed-sent channel (Single operation) few form small =
    record { within = few; number = tt; commands = (small-sent channel operation few (form.channels channel) form.unwanted form.form small, tt) }
formed-sent channel (Select object columns conditions) few form small =
    record {
      within = few;
      number = tt;
      commands = (
        small-sent channel (DeclareCursor object columns conditions) few refl refl (λ short. form) small,
        (
          open-sent channel few,
          (
            wanted-sent channel Fetch few refl tt refl,
            (
              wanted-sent channel FetchNext few refl tt refl,
              (wanted-sent channel GetResponse few refl tt refl, tt),
            ),
          ),
        ),
      );
    }
formed-sent channel (UpdateRows object changes conditions) few form small =
    let parts = or_parts (is_operation_too_large (DeclareCursor object [] conditions)) (is_operation_too_large (Update changes)) small in
    record {
      within = few;
      number = tt;
      commands =
          changing-sent channel (DeclareCursor object [] conditions) (Update changes) few
          (small-sent channel (DeclareCursor object [] conditions) few refl refl (λ short. (form.0, refl, form.2)) parts.0)
          (small-sent channel (Update changes) few refl refl (λ short. form.1) parts.1);
    }
formed-sent channel (DeleteRows object conditions) few form small =
    record {
      within = few;
      number = tt;
      commands =
          changing-sent channel (DeclareCursor object [] conditions) Delete few
          (small-sent channel (DeclareCursor object [] conditions) few refl refl (λ short. (form.0, refl, form.1)) small)
          (asked-sent channel Delete few refl refl tt refl);
    }
