-- Plans, statements and lines keep a machine valid.
use Rattle.std.proofs.Common.{◌≤◌, ℕ, zero, suc, List, [], ◌∷◌, Option, Some, None, is_some, Result, Ok, Err, sym, subst, arith}
use Rattle.std.specs.Prelude.{IfOk}
use Rattle.std.specs.List.{AllByRecursion}
use Rattle.scql_base.specs.declared.operation.TheConstants.Command.{LAST_CHANNEL}
use Rattle.scql_model.specs.Database.{Database, IsValid}
use Rattle.scql_model.specs.Lines.{line_step, state_after, taken_line}
use Rattle.scql_model.specs.Machine.{Machine, start}
use Rattle.scql_model.specs.Replies.{Reply}
use Rattle.scql_model.specs.Step.{Answer}
use Rattle.scql_model.specs.Transactions.{own_transaction}
use Rattle.scql_model.specs.ValidMachine.{IsValidMachine}
use Rattle.scql_model.proofs.ValidSteps.{IsValidAnswer, IsValidMachine-start, valid-base}
use Rattle.script.specs.declared.fault.ScriptFault.{ScriptFault}
use Rattle.script.specs.declared.statement.Statement.{Statement}
use Rattle.script.specs.declared.statement.Statement.TheVariants.{Blank, Single, Select, UpdateRows, DeleteRows, OpenNumber, CloseNumber, UseNumber, Reset}
use Rattle.script.specs.Commands.{CanAlwaysBeSent, CanBeSent, IsOnChannel}
use Rattle.script.specs.Line.{statement_of}
use Rattle.script.proofs.SentLines.{statement_of-sent}
use Rattle.planner.specs.declared.step.Step.{Step}
use Rattle.planner.specs.declared.step.Step.TheVariants.{Send, Row, ResetCard, Done}
use Rattle.planner.specs.Held.{channel_after}
use Rattle.planner.specs.Meaning.{answer_to, meaning}
use Rattle.planner.specs.Planned.{Planned, next_of, started}
use Rattle.planner.specs.Running.{Ran, Rest, answered_by, run, shown, taken}
use Rattle.planner.specs.StatementLines.{TerminalState, read_effect, statement_effect, statement_lines}
use Rattle.planner.specs.Turns.{turns_left}
use Rattle.planner.specs.ValidStates.{IsValidState, KeepsValid}
use Rattle.planner.proofs.GoingOn.{goes-on}
use Rattle.planner.proofs.Statements.{statement-runs}
use Rattle.planner.proofs.ValidParts.{all-both, valid-answer}

-- A plan that runs, whatever it sends.
record IsValidRun (ran : Ran) : Type 0 where
  machine : IsValidMachine ran.machine
  commits : AllByRecursion IsValid ran.commits

abbrev RunsValid : Rest → Type 0
RunsValid rest = (m : Machine) (last : Option Reply) (p : Planned) → IsValidMachine m → IsValidRun (rest m last p)

valid-answered : (rest : Rest) → RunsValid rest → (p : Planned) (answer : Answer) → IsValidAnswer answer → IsValidRun (answered_by rest p answer)
valid-answered rest keeps p answer is =
    let ran = keeps answer.machine (Some answer.reply) p is.machine in
    record { machine = ran.machine; commits = all-both IsValid answer.commits (rest answer.machine (Some answer.reply) p).commits is.commits ran.commits }

valid-taken : (rest : Rest) → RunsValid rest → (m : Machine) (p : Planned) (step : Step) → IsValidMachine m → IsValidRun (taken rest m p step)
valid-taken rest keeps m p (Send command) valid = valid-answered rest keeps p (answer_to m command) (valid-answer m command valid)
valid-taken rest keeps m p (Row command) valid =
    let ran = valid-answered rest keeps p (answer_to m command) (valid-answer m command valid) in
    record { machine = ran.machine; commits = ran.commits }
valid-taken rest keeps m p ResetCard valid = keeps (start m.committed) None p (IsValidMachine-start m.committed valid.committed)
valid-taken rest keeps m p (Done closing) valid = record { machine = valid; commits = tt }

valid-run : (turns : ℕ) → RunsValid (run turns)
valid-run zero m last p valid = record { machine = valid; commits = tt }
valid-run (suc turns) m last p valid =
    valid-taken (λ next reply q. run turns next reply q) (λ next reply q valid. valid-run turns next reply q valid) m (next_of last p).plan (next_of last p).step valid

-- So does a statement, which runs to its meaning.
valid-meaning : (m : Machine) (channel : ℕ) (s : Statement) → IsValidMachine m → CanBeSent channel s → IsValidRun (shown (meaning m channel s))
valid-meaning m channel s valid can =
    let p : Planned = started s channel (is_some (own_transaction m.transaction channel)) in
    subst IsValidRun ((statement-runs m channel (valid-base m channel valid).valid s can).runs (suc (turns_left p)) (omega arith)) (valid-run (suc (turns_left p)) m None p valid)

-- The terminal goes on on a channel that a card has.
channel-within : (s : Statement) (channel : ℕ) → channel ≤ LAST_CHANNEL → IsOnChannel s → channel_after s channel ≤ LAST_CHANNEL
channel-within (UseNumber number) channel few on = on
channel-within Reset channel few on = omega arith
channel-within Blank channel few on = few
channel-within (Single operation) channel few on = few
channel-within (Select object columns conditions) channel few on = few
channel-within (UpdateRows object changes conditions) channel few on = few
channel-within (DeleteRows object conditions) channel few on = few
channel-within (OpenNumber number) channel few on = few
channel-within (CloseNumber number) channel few on = few

-- Lines.
valid-read : (state : TerminalState) (read : Result Statement ScriptFault) → IfOk read CanAlwaysBeSent → IsValidState state
    → IsValidState (read_effect state read).next × AllByRecursion IsValid (read_effect state read).commits
valid-read state (Err fault) sendable valid = (valid, tt)
valid-read state (Ok s) sendable valid =
    let can = sendable state.channel valid.channel in
    let ran = valid-meaning state.machine state.channel s valid.machine can in (
      record {
        machine = ran.machine;
        channel = subst (λ (channel : ℕ). channel ≤ LAST_CHANNEL) (sym (goes-on state.machine state.channel s)) (channel-within s state.channel valid.channel can.number);
      },
      ran.commits,
    )

valid-effect : (state : TerminalState) (line : Option (List ℕ)) → IsValidState state → IsValidState (statement_effect state line).next × AllByRecursion IsValid (statement_effect state line).commits
valid-effect state None valid = (valid, tt)
valid-effect state (Some line) valid = valid-read state (statement_of line) (statement_of-sent line) valid

pub line-keeps : (state : TerminalState) (line : List ℕ) → IsValidState state → KeepsValid state line
line-keeps state line valid = let keeps = valid-effect state (taken_line line) valid in record { next = keeps.0; commits = keeps.1 }

pub lines-keep : (state : TerminalState) (lines : List (List ℕ)) → IsValidState state → IsValidState (state_after statement_lines state lines)
unfolding line_step
lines-keep state [] valid = valid
lines-keep state (line ∷ lines) valid = lines-keep (line_step statement_lines state line) lines (line-keeps state line valid).next

-- a terminal on channel 0 of a card that was just opened
pub begins-valid : (db : Database) → IsValid db → IsValidState (record { machine = start db; channel = 0 })
begins-valid db valid = record { machine = IsValidMachine-start db valid; channel = omega arith }
