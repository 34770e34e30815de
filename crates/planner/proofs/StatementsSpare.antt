-- The language of statements spares a user's tries.
use Rattle.std.proofs.Common.{ℕ, List, [], ◌∷◌, Option, Some, None, Result, Ok, Err, sym, subst, inr}
use Rattle.std.specs.Prelude.{IfOk}
use Rattle.scql_base.specs.declared.words.Actor.{Actor}
use Rattle.scql_base.specs.declared.words.StatusWord.{StatusWord}
use Rattle.scql_base.specs.declared.cursor.Cursor.{Cursor}
use Rattle.scql_base.specs.declared.operation.Command.{Command}
use Rattle.scql_base.specs.declared.operation.Operation.{Operation}
use Rattle.scql_base.specs.declared.operation.Operation.TheVariants.{OpenChannel, CloseChannel}
use Rattle.scql_model.specs.Changing.{edits_of, with_edits}
use Rattle.scql_model.specs.Database.{Database}
use Rattle.scql_model.specs.Machine.{Machine, Session, Transaction, actor}
use Rattle.scql_model.specs.Objects.{StampedRow}
use Rattle.scql_model.specs.Spelling.{part_octets}
use Rattle.scql_model.specs.Step.{step}
use Rattle.scql_model.specs.Tries.{AreSpared, IsGuardedMachine, IsGuardedWork, SparesTries}
use Rattle.scql_model.proofs.FourCommits.{spared-append}
use Rattle.scql_model.proofs.LastCommits.{last-step}
use Rattle.scql_model.proofs.SparingEdits.{spares-with_edits}
use Rattle.scql_model.proofs.SparingSteps.{guarded-begun, guarded-closed, guarded-further, guarded-own, guarded-sessions, spared-step}
use Rattle.scql_model.proofs.ValidSteps.{bound-ok}
use Rattle.script.specs.declared.fault.ScriptFault.{ScriptFault}
use Rattle.script.specs.declared.statement.Statement.{Statement}
use Rattle.script.specs.declared.statement.Statement.TheVariants.{Blank, Single, OpenNumber, CloseNumber, UseNumber, Reset}
use Rattle.script.specs.Commands.{asking}
use Rattle.script.specs.Line.{statement_of}
use Rattle.planner.specs.Meaning.{Meaning, all_changed, answer_to, at_stamp, begun, changed_in, once_changed, row_changed, meaning}
use Rattle.planner.specs.StatementLines.{TerminalState, read_effect, statement_effect, statement_lines}
use Rattle.planner.proofs.InTurn.{answer-holds}
use Rattle.planner.proofs.OfRows.{HoldsOfRows, of-rows}

-- A machine is guarded, and the commits that led to it are spared.
record Spares (stamp : ℕ) (db : Database) (next : Machine) (made : List Database) : Type 0 where
  machine : IsGuardedMachine stamp next
  commits : AreSpared stamp db made

-- The parts of a command in turn.
spares-step : (stamp : ℕ) (m : Machine) (octets : List ℕ) → IsGuardedMachine stamp m → Spares stamp m.committed (step m octets).machine (step m octets).commits
spares-step stamp m octets guarded = let sparing = spared-step stamp m octets guarded in record { machine = sparing.machine; commits = sparing.commits }

spares-answer : (stamp : ℕ) (m : Machine) (c : Command) → IsGuardedMachine stamp m → Spares stamp m.committed (answer_to m c).machine (answer_to m c).commits
spares-answer stamp m c =
    answer-holds (λ n answer. IsGuardedMachine stamp n → Spares stamp n.committed answer.machine answer.commits) c (λ n place. spares-step stamp n (part_octets c place)) (λ n place next later guarded.
    let first = spares-step stamp n (part_octets c place) guarded in
    let then' = later first.machine in
    record {
      machine = then'.machine;
      commits = spared-append stamp n.committed (step n (part_octets c place)).commits next.commits first.commits
          (subst (λ (db : Database). AreSpared stamp db next.commits) (sym (last-step n (part_octets c place))) then'.commits);
    }) m

-- Rows that are changed in turn.
guarded-row : (stamp : ℕ) (committed : Database) (actor : Actor) (operation : Operation) (c : Cursor) (t : Transaction) → IsGuardedWork stamp committed t
    → IfOk (row_changed committed actor operation c t) (IsGuardedWork stamp committed)
unfolding row_changed
guarded-row stamp committed actor operation c t work =
    bound-ok (IsGuardedWork stamp committed) (edits_of t.working actor (Some c) operation) _ (λ edits made.
    bound-ok (IsGuardedWork stamp committed) (with_edits t.working edits) _ (λ db ok.
    guarded-further stamp committed t edits db work (spares-with_edits stamp t.working actor (Some c) operation edits db made ok work.working)))

guarded-rows : (stamp : ℕ) (committed : Database) (actor : Actor) (operation : Operation) (c : Cursor) (rows : List StampedRow) (t : Transaction) → IsGuardedWork stamp committed t
    → IsGuardedWork stamp committed (all_changed committed actor operation c rows t).transaction
guarded-rows stamp committed actor operation c [] t work = work
guarded-rows stamp committed actor operation c (r ∷ rows) t work =
    go (row_changed committed actor operation (at_stamp r.stamp c) t) (guarded-row stamp committed actor operation (at_stamp r.stamp c) t work) (λ next guarded. guarded-rows stamp committed actor operation c rows next guarded)
  where
    go : (changed : Result Transaction StatusWord) → IfOk changed (IsGuardedWork stamp committed)
        → ((next : Transaction) → IsGuardedWork stamp committed next → IsGuardedWork stamp committed (all_changed committed actor operation c rows next).transaction)
        → IsGuardedWork stamp committed (once_changed r.stamp t (λ next. all_changed committed actor operation c rows next) changed).transaction
    go (Err word) guarded rest = work
    go (Ok next) guarded rest = rest next guarded

-- Statements.
abbrev IsSparing : ℕ → Machine → Meaning → Type 0
IsSparing stamp m x = Spares stamp m.committed x.machine x.commits

-- the sessions alone change
sparing-none : (stamp : ℕ) (m : Machine) (sessions : List (Option Session)) → IsGuardedMachine stamp m → Spares stamp m.committed (record m { sessions = sessions }) []
sparing-none stamp m sessions guarded = record { machine = guarded-sessions stamp m sessions guarded; commits = tt }

sparing-rows : (stamp : ℕ) (m : Machine) (channel : ℕ) → IsGuardedMachine stamp m → HoldsOfRows (IsSparing stamp m) m channel
sparing-rows stamp m channel guarded = record {
  closed = record { machine = guarded; commits = tt };
  refused = λ word. sparing-none stamp m _ guarded;
  selected = λ d. sparing-none stamp m _ guarded;
  inside = λ operation t d is.
      sparing-none stamp (record m { transaction = Some (changed_in m channel operation d t).transaction }) _ (record {
        committed = guarded.committed;
        transaction = guarded-rows stamp m.committed (actor m channel) operation d.cursor d.rows t (guarded-own stamp m channel t is guarded);
      });
  rolled = λ word. sparing-none stamp m _ guarded;
  committed = λ operation d none.
      let c = changed_in m channel operation d (begun m channel) in
      let work = guarded-rows stamp m.committed (actor m channel) operation d.cursor d.rows (begun m channel) (guarded-begun stamp m.committed channel guarded.committed) in
      record {
        machine = guarded-sessions stamp (record m { committed = c.transaction.working }) _ (guarded-closed stamp m c.transaction.working none work.working);
        commits = ((work.working, inr work.spared), tt);
      };
}

sparing-meaning : (stamp : ℕ) (m : Machine) (channel : ℕ) (s : Statement) → IsGuardedMachine stamp m → IsSparing stamp m (meaning m channel s)
unfolding meaning
sparing-meaning stamp m channel Blank guarded = record { machine = guarded; commits = tt }
sparing-meaning stamp m channel (Single operation) guarded = spares-answer stamp m (asking channel operation) guarded
sparing-meaning stamp m channel (OpenNumber number) guarded = spares-answer stamp m (asking 0 (OpenChannel number)) guarded
sparing-meaning stamp m channel (CloseNumber number) guarded = spares-answer stamp m (asking 0 (CloseChannel number)) guarded
sparing-meaning stamp m channel (UseNumber number) guarded = record { machine = guarded; commits = tt }
sparing-meaning stamp m channel Reset guarded = record { machine = record { committed = guarded.committed; transaction = tt }; commits = tt }
sparing-meaning stamp m channel s guarded = of-rows (IsSparing stamp m) m channel (sparing-rows stamp m channel guarded) s tt

-- Lines.
sparing-read : (stamp : ℕ) (state : TerminalState) (read : Result Statement ScriptFault) → IsGuardedMachine stamp state.machine
    → (let does = read_effect state read in Spares stamp state.machine.committed does.next.machine does.commits)
sparing-read stamp state (Err fault) guarded = record { machine = guarded; commits = tt }
sparing-read stamp state (Ok s) guarded = sparing-meaning stamp state.machine state.channel s guarded

sparing-line : (stamp : ℕ) (state : TerminalState) (line : Option (List ℕ)) → IsGuardedMachine stamp state.machine
    → (let does = statement_effect state line in Spares stamp state.machine.committed does.next.machine does.commits)
sparing-line stamp state None guarded = record { machine = guarded; commits = tt }
sparing-line stamp state (Some line) guarded = sparing-read stamp state (statement_of line) guarded

pub statements-spare : SparesTries statement_lines
statements-spare = record {
  machine = λ stamp state line guarded. (sparing-line stamp state line guarded).machine;
  commits = λ stamp state line guarded. (sparing-line stamp state line guarded).commits;
}
