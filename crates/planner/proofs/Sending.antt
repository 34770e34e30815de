-- What a plan sends can be sent.
use Rattle.std.proofs.Common.{◌≡◌, ℕ, ◌+◌, ◌≤◌, nat_lt, ◌&&◌, not, Bool, true, false, List, ◌++◌, length, if◌then◌else◌, refl, subst}
use Rattle.scql_base.specs.declared.row.TheConstants.Row.{LARGEST}
use Rattle.scql_base.specs.declared.words.StatusWord.{StatusWord}
use Rattle.scql_base.specs.declared.operation.Operation.{Operation}
use Rattle.scql_base.specs.declared.operation.Operation.TheVariants.{OpenCursor, Next, Fetch, FetchNext, GetResponse, Update, Delete, Begin, Commit, Rollback}
use Rattle.script.specs.declared.statement.Statement.{Statement}
use Rattle.script.specs.declared.statement.Statement.TheVariants.{Blank, Single, Select, UpdateRows, DeleteRows, OpenNumber, CloseNumber, UseNumber, Reset}
use Rattle.script.specs.Commands.{asking, IsSendable, CanBeSent}
use Rattle.script.proofs.Sendable.{asked-sent, wanted-sent}
use Rattle.planner.specs.declared.stage.Stage.{Stage}
use Rattle.planner.specs.declared.stage.Stage.TheVariants.{Start, Alone, Beginning, Declaring, Opening, Fetching, Changing, Moving, Committing, RollingBack, Ended}
use Rattle.planner.specs.Words.{is_end, has_more, is_refusal}
use Rattle.planner.specs.Planned.{Planned, Turn, IfSent, finishes, cuts, refuses, is_beginning, declares_over, declares, begins_with, begins, most_rows, changes_row, reaches, most_responses, row_before, is_row, gives_row, ends_row, asks_for_rest, gathers, takes, accepts, is_answered, goes_on, asks, wants}

-- a step sends a command that can be sent, or none
abbrev pub Sends : Turn → Type 0
Sends turn = IfSent turn.step IsSendable

choose : (b : Bool) (x y : Turn) → Sends x → Sends y → Sends (if b then x else y)
choose true x y is other = is
choose false x y other is = is

finishes-sends : (p : Planned) → p.channel ≤ 3 → Sends (finishes p)
finishes-sends p few = choose p.own (asks Committing Commit p) _ (asked-sent p.channel Commit few refl refl tt refl) tt

refuses-sends : (stage : Stage) (word : StatusWord) (p : Planned) → p.channel ≤ 3 → Sends (refuses stage word p)
refuses-sends stage word p few =
    choose (p.own && not (is_beginning stage)) (asks (RollingBack word) Rollback p) _ (asked-sent p.channel Rollback few refl refl tt refl) tt

declares-sends : (p : Planned) (s : Statement) → CanBeSent p.channel s → Sends (declares_over s p)
declares-sends p (Select object columns conditions) can = can.commands.0
declares-sends p (UpdateRows object changes conditions) can = can.commands.1.0
declares-sends p (DeleteRows object conditions) can = can.commands.1.0
declares-sends p s can = tt

begins_with-sends : (p : Planned) → CanBeSent p.channel p.statement → Sends (begins_with p)
begins_with-sends p can = choose p.own (asks Beginning Begin p) (declares p) (asked-sent p.channel Begin can.within refl refl tt refl) (declares-sends p p.statement can)

begins-sends : (p : Planned) (s : Statement) → CanBeSent p.channel s → CanBeSent p.channel p.statement → Sends (begins s p)
begins-sends p Blank can kept = tt
begins-sends p (Single operation) can kept = can.commands.0
begins-sends p (OpenNumber number) can kept = can.commands.0
begins-sends p (CloseNumber number) can kept = can.commands.0
begins-sends p (UseNumber number) can kept = tt
begins-sends p Reset can kept = tt
begins-sends p s can kept = begins_with-sends p kept

changes_row-sends : (operation : Operation) (p : Planned) → p.channel ≤ 3 → IsSendable (asking p.channel operation) → Sends (changes_row operation p)
changes_row-sends operation p few can = choose (nat_lt p.rows most_rows) (asks Changing operation (record p { rows = p.rows + 1 })) (finishes p) can (finishes-sends p few)

reaches-sends : (p : Planned) (s : Statement) → CanBeSent p.channel s → Sends (reaches s p)
reaches-sends p (UpdateRows object changes conditions) can = changes_row-sends (Update changes) p can.within can.commands.1.1.1.0
reaches-sends p (DeleteRows object conditions) can = changes_row-sends Delete p can.within can.commands.1.1.1.0
reaches-sends p s can = wanted-sent p.channel Fetch can.within refl tt refl

gathers-sends : (word : StatusWord) (p : Planned) → p.channel ≤ 3 → Sends (gathers word p)
gathers-sends word p few =
    choose (has_more word) (asks_for_rest p) (ends_row p)
    (choose (nat_lt p.responses most_responses) (wants Fetching GetResponse (record p { responses = p.responses + 1 })) (cuts p) (wanted-sent p.channel GetResponse few refl tt refl) tt)
    (choose (is_row p.row) (if nat_lt p.rows most_rows then gives_row p else finishes p) (cuts p)
    (choose (nat_lt p.rows most_rows) (gives_row p) (finishes p) (wanted-sent p.channel FetchNext few refl tt refl) (finishes-sends p few)) tt)

takes-sends : (word : StatusWord) (body : List ℕ) (p : Planned) → p.channel ≤ 3 → Sends (takes word body p)
takes-sends word body p few =
    choose (nat_lt LARGEST (length (row_before p) + length body)) (cuts p) (gathers word (record p { row = row_before p ++ body }))
    tt (gathers-sends word (record p { row = row_before p ++ body }) few)

accepts-sends : (stage : Stage) (word : StatusWord) (body : List ℕ) (p : Planned) → CanBeSent p.channel p.statement → Sends (accepts stage word body p)
accepts-sends Beginning word body p can = declares-sends p p.statement can
accepts-sends Declaring word body p can = asked-sent p.channel OpenCursor can.within refl refl tt refl
accepts-sends Opening word body p can = choose (is_end word) (finishes p) (reaches p.statement p) (finishes-sends p can.within) (reaches-sends p p.statement can)
accepts-sends Fetching word body p can = choose (is_end word) (finishes p) (takes word body p) (finishes-sends p can.within) (takes-sends word body p can.within)
accepts-sends Changing word body p can = asked-sent p.channel Next can.within refl refl tt refl
accepts-sends Moving word body p can = choose (is_end word) (finishes p) (reaches p.statement p) (finishes-sends p can.within) (reaches-sends p p.statement can)
accepts-sends stage word body p can = tt

is_answered-sends : (stage : Stage) (word : StatusWord) (body : List ℕ) (p : Planned) → CanBeSent p.channel p.statement → Sends (is_answered stage word body p)
is_answered-sends stage word body p can =
    choose (is_refusal word) (refuses stage word p) (accepts stage word body p) (refuses-sends stage word p can.within) (accepts-sends stage word body p can)

goes_on-sends : (stage : Stage) (word : StatusWord) (body : List ℕ) (p : Planned) → CanBeSent p.channel p.statement → Sends (goes_on stage word body p)
goes_on-sends Start word body p can = begins-sends p p.statement can can
goes_on-sends Alone word body p can = tt
goes_on-sends (RollingBack first) word body p can = tt
goes_on-sends (Ended closing) word body p can = tt
goes_on-sends stage word body p can = is_answered-sends stage word body p can

-- so of the step that a plan was seen to take
pub step-sends : (p : Planned) (word : StatusWord) (body : List ℕ) (turn : Turn) → CanBeSent p.channel p.statement → goes_on p.stage word body p ≡ turn → IfSent turn.step IsSendable
step-sends p word body turn can is = subst Sends is (goes_on-sends p.stage word body p can)
