-- On a channel that isn't open a statement of rows is refused by its first command.
use Rattle.std.proofs.Common.{◌≡◌, ℕ, zero, suc, ◌≤◌, Bool, true, false, List, [], ◌∷◌, map, Option, Some, None, is_some, Err, refl, ◌∙◌, ap, arith}
use Rattle.std.specs.Prelude.{slice_get}
use Rattle.std.specs.Option.{option_flatten}
use Rattle.scql_base.specs.declared.operation.Command.{Command}
use Rattle.scql_base.specs.declared.operation.Operation.TheVariants.{DeclareCursor, Begin}
use Rattle.scql_base.specs.declared.operation.Line.{Line}
use Rattle.scql_base.specs.Words.{channel_not_supported}
use Rattle.scql_model.specs.Replies.{said}
use Rattle.scql_model.specs.Machine.{Machine, Chain, open_channels}
use Rattle.scql_model.specs.Sessions.{command_chain, is_channel_open}
use Rattle.scql_model.specs.Operations.{operations, has_instruction, comes_in_parts, kind_of}
use Rattle.scql_model.specs.Form.{refused, is_open, channel_asked, form_of}
use Rattle.scql_model.specs.Spelling.{cla_of, apdu_by, field_of, octets_of}
use Rattle.scql_model.specs.WellFormed.{IsWellFormed}
use Rattle.scql_model.specs.Step.{Answer, stepped, step}
use Rattle.scql_model.proofs.LinesFound.{HasLine-operations, has_instruction-found}
use Rattle.scql_model.proofs.TakenFields.{Lined-field}
use Rattle.script.specs.declared.statement.Statement.{Statement}
use Rattle.script.specs.declared.statement.Statement.TheVariants.{Select, UpdateRows, DeleteRows}
use Rattle.script.specs.Commands.{asking, IsSendable, CanBeSent}
use Rattle.planner.specs.Meaning.{answer_to, meaning}
use Rattle.planner.specs.Planned.{started}
use Rattle.planner.specs.Running.{run, shown, IsOfRows}
use Rattle.planner.proofs.Asking.{one-part, answer-one}

closed-there : {A : Type 0} (xs : List (Option A)) (i : ℕ) → is_some (option_flatten (slice_get xs i)) ≡ false → is_open (slice_get (map (λ (s : Option A). is_some s) xs) i) ≡ false
closed-there [] i is = refl
closed-there (None ∷ xs) zero is = refl
closed-there (Some y ∷ xs) zero is = is
closed-there (first ∷ xs) (suc i) is = closed-there xs i is

closed-asked : (table : List Line) (ins : ℕ) (channels : List Bool) (channel : ℕ) → channel ≤ 3 → has_instruction table ins ≡ true → is_open (slice_get channels channel) ≡ false
    → channel_asked table (cla_of channel false) ins channels ≡ Err channel_not_supported
closed-asked table ins channels zero near known closed = rw (known, closed) refl
closed-asked table ins channels (suc zero) near known closed = rw (known, closed) refl
closed-asked table ins channels (suc (suc zero)) near known closed = rw (known, closed) refl
closed-asked table ins channels (suc (suc (suc zero))) near known closed = rw (known, closed) refl
closed-asked table ins channels (suc (suc (suc (suc channel)))) near known closed = absurd (omega (arith, near))

closed-line : (table : List Line) (l : Line) (channel : ℕ) (octets : List ℕ) (le : Option ℕ) (channels : List Bool) (chain : ℕ → Option Chain) (limit : ℕ)
    → channel ≤ 3 → has_instruction table l.ins ≡ true → is_open (slice_get channels channel) ≡ false
    → form_of table (apdu_by l (cla_of channel false) octets le) channels chain limit ≡ refused channel_not_supported
unfolding form_of
closed-line table l channel octets le channels chain limit near known closed = rw (closed-asked table l.ins channels channel near known closed) refl

closed-form : (c : Command) (channels : List Bool) (chain : ℕ → Option Chain) (limit : ℕ) → IsWellFormed c → is_open (slice_get channels c.channel) ≡ false
    → form_of operations (octets_of c) channels chain limit ≡ refused channel_not_supported
unfolding octets_of
closed-form c channels chain limit formed closed =
    let lined = Lined-field c.operation c.le formed.form formed.wanted in
    rw lined.found
    (closed-line operations lined.line c.channel (field_of c.operation) c.le channels chain limit formed.channel
    (has_instruction-found operations lined.line.ins lined.line.p1 lined.line.p2 lined.line (HasLine-operations (kind_of c.operation) lined.line lined.found)) closed)

abbrev pub closed_answer : Machine → Answer
closed_answer m = record { reply = said channel_not_supported; machine = m; commits = [] }

pub answer-closed : (m : Machine) (c : Command) → IsSendable c → comes_in_parts (kind_of c.operation) ≡ false → is_channel_open m c.channel ≡ false → answer_to m c ≡ closed_answer m
unfolding step
answer-closed m c can alone closed =
    answer-one m c (one-part c alone can.fitting)
    ∙ ap (stepped m) (closed-form c (open_channels m) (command_chain m) m.committed.limit can.formed (closed-there m.sessions c.channel closed))

pub closed-run : (m : Machine) (n channel : ℕ) (inside : Bool) (s : Statement) → IsOfRows s → CanBeSent channel s → is_channel_open m channel ≡ false
    → run (suc (suc n)) m None (started s channel inside) ≡ shown (meaning m channel s)
unfolding meaning
closed-run m n channel inside (Select object columns conditions) rows can closed =
    rw (answer-closed m (asking channel (DeclareCursor object columns conditions)) can.commands.0 refl closed, closed) refl
closed-run m n channel true (UpdateRows object changes conditions) rows can closed =
    rw (answer-closed m (asking channel (DeclareCursor object [] conditions)) can.commands.1.0 refl closed, closed) refl
closed-run m n channel false (UpdateRows object changes conditions) rows can closed =
    rw (answer-closed m (asking channel Begin) can.commands.0 refl closed, closed) refl
closed-run m n channel true (DeleteRows object conditions) rows can closed =
    rw (answer-closed m (asking channel (DeclareCursor object [] conditions)) can.commands.1.0 refl closed, closed) refl
closed-run m n channel false (DeleteRows object conditions) rows can closed =
    rw (answer-closed m (asking channel Begin) can.commands.0 refl closed, closed) refl
closed-run m n channel inside s rows can closed = absurd rows
