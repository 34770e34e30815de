-- A plan: which command comes next, by the answers so far.
use Rattle.std.specs.Prelude.{ℕ, ◌+◌, ◌==◌, nat_lt, not, ◌&&◌, Bool, true, false, List, [], ◌++◌, length, Option, Some, None, if◌then◌else◌}
use Rattle.std.specs.Option.{option_map_or}
use Rattle.scql_base.specs.declared.row.TheConstants.Row.{LARGEST}
use Rattle.scql_base.specs.declared.words.StatusWord.{StatusWord}
use Rattle.scql_base.specs.declared.operation.Command.{Command}
use Rattle.scql_base.specs.declared.operation.Operation.{Operation}
use Rattle.scql_base.specs.declared.operation.Operation.TheVariants.{DeclareCursor, OpenCursor, Next, Fetch, FetchNext, GetResponse, Update, Delete, Begin, Commit, Rollback, OpenChannel, CloseChannel}
use Rattle.scql_base.specs.Row.{row_from}
use Rattle.scql_base.specs.Words.{memory_failure}
use Rattle.scql_model.specs.Replies.{Reply, said}
use Rattle.script.specs.declared.statement.Statement.{Statement}
use Rattle.script.specs.declared.statement.Statement.TheVariants.{Blank, Single, Select, UpdateRows, DeleteRows, OpenNumber, CloseNumber, UseNumber, Reset}
use Rattle.script.specs.Commands.{asking, wanting}
use Rattle.planner.specs.declared.closing.Closing.{Closing}
use Rattle.planner.specs.declared.closing.Closing.TheVariants.{Nothing, Fine, Rows, Cut, Refused}
use Rattle.planner.specs.declared.stage.Stage.{Stage}
use Rattle.planner.specs.declared.stage.Stage.TheVariants.{Start, Alone, Beginning, Declaring, Opening, Fetching, Changing, Moving, Committing, RollingBack, Ended}
use Rattle.planner.specs.declared.step.Step.{Step}
use Rattle.planner.specs.declared.step.Step.TheVariants.{Send, Row, ResetCard, Done}
use Rattle.planner.specs.Words.{is_end, has_more, is_refusal, closing_of}

-- What is left of a statement on a channel: whether it is in a transaction of its own, what it waits for, how many rows it fetched or
-- reached, how often it asked for the rest of a row, and the octets of that row so far.
pub record Planned : Type 0 where
  pub statement : Statement
  pub channel : ℕ
  pub own : Bool
  pub stage : Stage
  pub rows : ℕ
  pub responses : ℕ
  pub row : List ℕ

abbrev pub changes_rows : Statement → Bool
changes_rows (UpdateRows object changes conditions) = true
changes_rows (DeleteRows object conditions) = true
changes_rows statement = false

-- nothing was asked yet; inside the channel's transaction a statement needs none of its own
abbrev pub started : Statement → ℕ → Bool → Planned
started statement channel inside =
    record { statement = statement; channel = channel; own = changes_rows statement && not inside; stage = Start; rows = 0; responses = 0; row = [] }

-- the plan that goes on, and its next step
pub record Turn : Type 0 where
  pub plan : Planned
  pub step : Step

-- a command is sent, and its answer awaited
abbrev pub sends : Stage → Command → Planned → Turn
sends stage command p = record { plan = record p { stage = stage }; step = Send command }

abbrev pub asks : Stage → Operation → Planned → Turn
asks stage operation p = sends stage (asking p.channel operation) p

abbrev pub wants : Stage → Operation → Planned → Turn
wants stage operation p = sends stage (wanting p.channel operation) p

abbrev pub ends : Closing → Planned → Turn
ends closing p = record { plan = record p { stage = Ended closing }; step = Done closing }

-- all rows were given or changed: they are committed where the plan is in a transaction of its own
abbrev pub finishes : Planned → Turn
finishes p = if p.own then asks Committing Commit p else ends (Rows p.rows) p

-- what came is no row, or didn't end: the plan ends with the rows so far
abbrev pub cuts : Planned → Turn
cuts p = ends (Cut p.rows) p

-- a refusal ends a plan, which first rolls back a transaction of its own that was begun
abbrev pub is_beginning : Stage → Bool
is_beginning Beginning = true
is_beginning stage = false

abbrev pub refuses : Stage → StatusWord → Planned → Turn
refuses stage word p = if p.own && not (is_beginning stage) then asks (RollingBack word) Rollback p else ends (Refused word) p

-- A cursor over the rows that are read or changed.
abbrev pub declares_over : Statement → Planned → Turn
declares_over (Select object columns conditions) p = asks Declaring (DeclareCursor object columns conditions) p
declares_over (UpdateRows object changes conditions) p = asks Declaring (DeclareCursor object [] conditions) p
declares_over (DeleteRows object conditions) p = asks Declaring (DeclareCursor object [] conditions) p
declares_over statement p = ends Nothing p

abbrev pub declares : Planned → Turn
declares p = declares_over p.statement p

-- Its first step. A statement of one command, or of none, isn't kept.
abbrev pub empty : Planned → Planned
empty p = record p { statement = Blank }

abbrev pub begins_with : Planned → Turn
begins_with p = if p.own then asks Beginning Begin p else declares p

abbrev pub begins : Statement → Planned → Turn
begins Blank p = ends Nothing (empty p)
begins (Single operation) p = asks Alone operation (empty p)
begins (OpenNumber number) p = sends Alone (asking 0 (OpenChannel number)) (empty p)
begins (CloseNumber number) p = sends Alone (asking 0 (CloseChannel number)) (empty p)
begins (UseNumber number) p = ends Fine (empty p)
begins Reset p = record { plan = record (empty p) { stage = Ended Fine }; step = ResetCard }
begins statement p = begins_with p

-- A row was reached: it is fetched, or changed where it is one of the first 2,048.
abbrev pub most_rows : ℕ
most_rows = 2048

abbrev pub changes_row : Operation → Planned → Turn
changes_row operation p = if nat_lt p.rows most_rows then asks Changing operation (record p { rows = p.rows + 1 }) else finishes p

abbrev pub reaches : Statement → Planned → Turn
reaches (UpdateRows object changes conditions) p = changes_row (Update changes) p
reaches (DeleteRows object conditions) p = changes_row Delete p
reaches statement p = wants Fetching Fetch p

-- Octets of a row came. Where more is left of it they are asked for, at most three times. A row is given where it is one of the
-- first 2,048, and the next one is fetched. What is no row, or doesn't end, cuts the plan off.
abbrev pub most_responses : ℕ
most_responses = 3

abbrev pub row_before : Planned → List ℕ
row_before p = if p.responses == 0 then [] else p.row

-- one value or more, which are a row
abbrev pub is_row : List ℕ → Bool
is_row octets = option_map_or (λ (values : List (List ℕ)). nat_lt 0 (length values)) (row_from octets) false

abbrev pub gives_row : Planned → Turn
gives_row p = record { plan = record p { stage = Fetching; rows = p.rows + 1; responses = 0 }; step = Row (wanting p.channel FetchNext) }

abbrev pub ends_row : Planned → Turn
ends_row p = if is_row p.row then (if nat_lt p.rows most_rows then gives_row p else finishes p) else cuts p

abbrev pub asks_for_rest : Planned → Turn
asks_for_rest p = if nat_lt p.responses most_responses then wants Fetching GetResponse (record p { responses = p.responses + 1 }) else cuts p

abbrev pub gathers : StatusWord → Planned → Turn
gathers word p = if has_more word then asks_for_rest p else ends_row p

abbrev pub takes : StatusWord → List ℕ → Planned → Turn
takes word body p =
    if nat_lt LARGEST (length (row_before p) + length body) then cuts p
    else gathers word (record p { row = row_before p ++ body })

-- An answer that is no refusal.
abbrev pub accepts : Stage → StatusWord → List ℕ → Planned → Turn
accepts Beginning word body p = declares p
accepts Declaring word body p = asks Opening OpenCursor p
accepts Opening word body p = if is_end word then finishes p else reaches p.statement p
accepts Fetching word body p = if is_end word then finishes p else takes word body p
accepts Changing word body p = asks Moving Next p
accepts Moving word body p = if is_end word then finishes p else reaches p.statement p
accepts stage word body p = ends (Rows p.rows) p

abbrev pub is_answered : Stage → StatusWord → List ℕ → Planned → Turn
is_answered stage word body p = if is_refusal word then refuses stage word p else accepts stage word body p

abbrev pub goes_on : Stage → StatusWord → List ℕ → Planned → Turn
goes_on Start word body p = begins p.statement p
goes_on Alone word body p = ends (closing_of word) p
goes_on (RollingBack first) word body p = ends (Refused first) p
goes_on (Ended closing) word body p = record { plan = p; step = Done closing }
goes_on stage word body p = is_answered stage word body p

-- The next step of a plan, by the answer to the command that it sent last. No answer counts as 6581.
abbrev pub heard : Option Reply → Reply
heard None = said memory_failure
heard (Some reply) = reply

abbrev pub next_of : Option Reply → Planned → Turn
next_of last p = goes_on p.stage (heard last).word (heard last).body p

-- the command that a step sends
abbrev pub IfSent : Step → (Command → Type 0) → Type 0
IfSent (Send command) P = P command
IfSent (Row command) P = P command
IfSent step P = Unit {0}
