-- Whatever a plan of a SELECT is answered, it sends reading commands alone, which keep the open transaction.
use Rattle.std.proofs.Common.{◌≡◌, ℕ, ◌+◌, nat_lt, ◌&&◌, not, Bool, true, false, List, ◌++◌, length, Option, None, if◌then◌else◌, refl, sym, subst}
use Rattle.std.specs.Prelude.{IsSome}
use Rattle.std.proofs.lemmas.Bool.{false≢true}
use Rattle.scql_base.specs.declared.row.TheConstants.Row.{LARGEST}
use Rattle.scql_base.specs.declared.words.StatusWord.{StatusWord}
use Rattle.scql_base.specs.declared.operation.Command.{Command}
use Rattle.scql_base.specs.declared.operation.Operation.{Operation}
use Rattle.scql_base.specs.declared.operation.Operation.TheVariants.{DeclareCursor, OpenCursor, Next, Fetch, FetchNext, GetResponse, Begin, Commit, Rollback}
use Rattle.scql_model.specs.Machine.{Machine}
use Rattle.scql_model.specs.Operations.{kind_of}
use Rattle.scql_model.specs.ReadingCommands.{reading_command}
use Rattle.scql_model.specs.Replies.{Reply}
use Rattle.script.specs.declared.statement.Statement.{Statement}
use Rattle.script.specs.declared.statement.Statement.TheVariants.{Select}
use Rattle.script.specs.Commands.{IsSendable}
use Rattle.planner.specs.declared.stage.Stage.{Stage}
use Rattle.planner.specs.declared.stage.Stage.TheVariants.{Start, Alone, Beginning, Declaring, Opening, Fetching, Changing, Moving, Committing, RollingBack, Ended}
use Rattle.planner.specs.declared.closing.Closing.TheVariants.{Rows, Refused}
use Rattle.planner.specs.Held.{transaction_channel}
use Rattle.planner.specs.Meaning.{answer_to}
use Rattle.planner.specs.Planned.{Planned, Turn, changes_rows, heard, started, finishes, cuts, refuses, is_beginning, declares_over, declares, begins, most_rows, reaches, most_responses, row_before, is_row, gives_row, ends_row, asks_for_rest, gathers, takes, accepts, is_answered, goes_on, asks, wants, ends, next_of}
use Rattle.planner.specs.Readings.{IsReading, IsReadingAt, IsSelect}
use Rattle.planner.specs.Words.{is_end, has_more, is_refusal}
use Rattle.planner.proofs.TransactionKnown.{answer-kept, transacts}

-- a reading command neither begins a transaction nor ends one
none-transacts : (operation : Operation) (le : Option ℕ) → IsSome (reading_command operation le) → transacts (kind_of operation) ≡ false
none-transacts (DeclareCursor object columns conditions) le reads = refl
none-transacts OpenCursor le reads = refl
none-transacts Next le reads = refl
none-transacts Fetch le reads = refl
none-transacts FetchNext le reads = refl
none-transacts GetResponse le reads = refl
none-transacts operation le reads = absurd (false≢true reads)

pub reading-kept : (m : Machine) (c : Command) → IsSendable c → IsReading c → transaction_channel (answer_to m c).machine ≡ transaction_channel m
reading-kept m c can reads = answer-kept m c can (none-transacts c.operation c.le reads)

-- the plan is one of a SELECT, in no transaction of its own
record IsOfSelect (p : Planned) : Type 0 where
  select : IsSelect p.statement
  own : p.own ≡ false

abbrev TurnReads : Turn → Type 0
TurnReads turn = IsReadingAt turn.plan turn.step

choose : (b : Bool) (x y : Turn) → TurnReads x → TurnReads y → TurnReads (if b then x else y)
choose true x y is other = is
choose false x y other is = is

finishes-reads : (p : Planned) → IsOfSelect p → TurnReads (finishes p)
finishes-reads p of =
    subst (λ (own : Bool). TurnReads (if own then asks Committing Commit p else ends (Rows p.rows) p)) (sym of.own) (record { select = of.select; own = of.own; reads = tt })

cuts-reads : (p : Planned) → IsOfSelect p → TurnReads (cuts p)
cuts-reads p of = record { select = of.select; own = of.own; reads = tt }

refuses-reads : (stage : Stage) (word : StatusWord) (p : Planned) → IsOfSelect p → TurnReads (refuses stage word p)
refuses-reads stage word p of =
    subst (λ (own : Bool). TurnReads (if own && not (is_beginning stage) then asks (RollingBack word) Rollback p else ends (Refused word) p)) (sym of.own) (record { select = of.select; own = of.own; reads = tt })

declares-reads : (p : Planned) (s : Statement) → IsSelect s → IsOfSelect p → TurnReads (declares_over s p)
declares-reads p (Select object columns conditions) is of = record { select = of.select; own = of.own; reads = refl }
declares-reads p s is of = absurd is

begins-reads : (p : Planned) (s : Statement) → IsSelect s → IsOfSelect p → TurnReads (begins s p)
begins-reads p (Select object columns conditions) is of =
    subst (λ (own : Bool). TurnReads (if own then asks Beginning Begin p else declares p)) (sym of.own) (declares-reads p p.statement of.select of)
begins-reads p s is of = absurd is

reaches-reads : (p : Planned) (s : Statement) → IsSelect s → IsOfSelect p → TurnReads (reaches s p)
reaches-reads p (Select object columns conditions) is of = record { select = of.select; own = of.own; reads = refl }
reaches-reads p s is of = absurd is

gathers-reads : (word : StatusWord) (p : Planned) → IsOfSelect p → TurnReads (gathers word p)
gathers-reads word p of =
    choose (has_more word) (asks_for_rest p) (ends_row p)
    (choose (nat_lt p.responses most_responses) (wants Fetching GetResponse (record p { responses = p.responses + 1 })) (cuts p) (record { select = of.select; own = of.own; reads = refl }) (cuts-reads p of))
    (choose (is_row p.row) (if nat_lt p.rows most_rows then gives_row p else finishes p) (cuts p)
    (choose (nat_lt p.rows most_rows) (gives_row p) (finishes p) (record { select = of.select; own = of.own; reads = refl }) (finishes-reads p of)) (cuts-reads p of))

takes-reads : (word : StatusWord) (body : List ℕ) (p : Planned) → IsOfSelect p → TurnReads (takes word body p)
takes-reads word body p of =
    choose (nat_lt LARGEST (length (row_before p) + length body)) (cuts p) (gathers word (record p { row = row_before p ++ body }))
    (cuts-reads p of) (gathers-reads word (record p { row = row_before p ++ body }) (record { select = of.select; own = of.own }))

accepts-reads : (stage : Stage) (word : StatusWord) (body : List ℕ) (p : Planned) → IsOfSelect p → TurnReads (accepts stage word body p)
accepts-reads Beginning word body p of = declares-reads p p.statement of.select of
accepts-reads Declaring word body p of = record { select = of.select; own = of.own; reads = refl }
accepts-reads Opening word body p of = choose (is_end word) (finishes p) (reaches p.statement p) (finishes-reads p of) (reaches-reads p p.statement of.select of)
accepts-reads Fetching word body p of = choose (is_end word) (finishes p) (takes word body p) (finishes-reads p of) (takes-reads word body p of)
accepts-reads Changing word body p of = record { select = of.select; own = of.own; reads = refl }
accepts-reads Moving word body p of = choose (is_end word) (finishes p) (reaches p.statement p) (finishes-reads p of) (reaches-reads p p.statement of.select of)
accepts-reads stage word body p of = record { select = of.select; own = of.own; reads = tt }

is_answered-reads : (stage : Stage) (word : StatusWord) (body : List ℕ) (p : Planned) → IsOfSelect p → TurnReads (is_answered stage word body p)
is_answered-reads stage word body p of =
    choose (is_refusal word) (refuses stage word p) (accepts stage word body p) (refuses-reads stage word p of) (accepts-reads stage word body p of)

goes_on-reads : (stage : Stage) (word : StatusWord) (body : List ℕ) (p : Planned) → IsOfSelect p → TurnReads (goes_on stage word body p)
goes_on-reads Start word body p of = begins-reads p p.statement of.select of
goes_on-reads Alone word body p of = record { select = of.select; own = of.own; reads = tt }
goes_on-reads (RollingBack first) word body p of = record { select = of.select; own = of.own; reads = tt }
goes_on-reads (Ended closing) word body p of = record { select = of.select; own = of.own; reads = tt }
goes_on-reads stage word body p of = is_answered-reads stage word body p of

pub reads-on : (last : Option Reply) (p : Planned) → IsSelect p.statement → p.own ≡ false → IsReadingAt (next_of last p).plan (next_of last p).step
reads-on last p select own = goes_on-reads p.stage (heard last).word (heard last).body p (record { select = select; own = own })

-- a plan that begins a SELECT
alone : (s : Statement) (inside : Bool) → IsSelect s → changes_rows s && not inside ≡ false
alone (Select object columns conditions) inside is = refl
alone s inside is = absurd is

pub started-reads : (s : Statement) (channel : ℕ) (inside : Bool) → IsSelect s → IsReadingAt (next_of None (started s channel inside)).plan (next_of None (started s channel inside)).step
started-reads s channel inside is = reads-on None (started s channel inside) is (alone s inside is)
