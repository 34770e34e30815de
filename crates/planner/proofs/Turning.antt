-- Each step but the last leaves fewer.
use Rattle.std.proofs.Common.{◌≡◌, ℕ, ◌+◌, ◌-◌, ◌<◌, ◌≤◌, nat_lt, not, ◌&&◌, Bool, true, false, List, ◌++◌, length, Option, if◌then◌else◌, refl, lit<, arith}
use Rattle.std.proofs.lemmas.Bool.{ltb-true}
use Rattle.scql_base.specs.declared.row.TheConstants.Row.{LARGEST}
use Rattle.scql_base.specs.declared.words.StatusWord.{StatusWord}
use Rattle.scql_base.specs.declared.operation.Operation.{Operation}
use Rattle.scql_base.specs.declared.operation.Operation.TheVariants.{Update, Delete}
use Rattle.scql_model.specs.Replies.{Reply}
use Rattle.script.specs.declared.statement.Statement.{Statement}
use Rattle.script.specs.declared.statement.Statement.TheVariants.{Blank, Single, Select, UpdateRows, DeleteRows, OpenNumber, CloseNumber, UseNumber, Reset}
use Rattle.planner.specs.declared.stage.Stage.{Stage}
use Rattle.planner.specs.declared.stage.Stage.TheVariants.{Start, Alone, Beginning, Declaring, Opening, Fetching, Changing, Moving, Committing, RollingBack, Ended}
use Rattle.planner.specs.Words.{is_end, has_more, is_refusal}
use Rattle.planner.specs.Planned.{Planned, Turn, finishes, refuses, is_beginning, declares_over, begins, most_rows, changes_row, reaches, most_responses, row_before, is_row, gives_row, cuts, ends_row, asks_for_rest, gathers, takes, accepts, is_answered, goes_on, heard, next_of}
use Rattle.planner.specs.Turns.{for_rows, turns_at, turns_left, IfGoesOn}

abbrev Below : ℕ → Turn → Type 0
Below n turn = IfGoesOn turn.step (turns_left turn.plan < n)

choose : (n : ℕ) (b : Bool) (x y : Turn) → (b ≡ true → Below n x) → Below n y → Below n (if b then x else y)
choose n true x y is other = is refl
choose n false x y other is = is

or-done : (n : ℕ) (b : Bool) (x y : Turn) → Below n x → Below n y → Below n (if b then x else y)
or-done n b x y is other = choose n b x y (λ e. is) other

finishes-below : (n : ℕ) (p : Planned) → 2 < n → Below n (finishes p)
finishes-below n p more = choose n p.own _ _ (λ own. more) tt

refuses-below : (n : ℕ) (stage : Stage) (word : StatusWord) (p : Planned) → 1 < n → Below n (refuses stage word p)
refuses-below n stage word p more = choose n (p.own && not (is_beginning stage)) _ _ (λ own. more) tt

declares-below : (n : ℕ) (s : Statement) (p : Planned) → for_rows p + 8 < n → Below n (declares_over s p)
declares-below n (Select object columns conditions) p more = more
declares-below n (UpdateRows object changes conditions) p more = more
declares-below n (DeleteRows object conditions) p more = more
declares-below n s p more = tt

begins-below : (n : ℕ) (s : Statement) (p : Planned) → for_rows p + 9 < n → Below n (begins s p)
begins-below n Blank p more = tt
begins-below n (Single operation) p more = omega (arith, more)
begins-below n (OpenNumber number) p more = omega (arith, more)
begins-below n (CloseNumber number) p more = omega (arith, more)
begins-below n (UseNumber number) p more = tt
begins-below n Reset p more = omega (arith, more)
begins-below n s p more = choose n p.own _ _ (λ own. more) (declares-below n p.statement p (omega (arith, more)))

changes_row-below : (n : ℕ) (operation : Operation) (p : Planned) → for_rows p + 6 < n → Below n (changes_row operation p)
changes_row-below n operation p more =
    choose n (nat_lt p.rows most_rows) _ _ (λ few. omega (arith, more, ltb-true p.rows 2048 few)) (finishes-below n p (omega (arith, more)))

reaches-below : (n : ℕ) (s : Statement) (p : Planned) → for_rows p + 6 < n → Below n (reaches s p)
reaches-below n (UpdateRows object changes conditions) p more = changes_row-below n (Update changes) p more
reaches-below n (DeleteRows object conditions) p more = changes_row-below n Delete p more
reaches-below n s p more = omega (arith, more)

gathers-below : (n : ℕ) (word : StatusWord) (p : Planned) → for_rows p + 3 + (3 - p.responses) ≤ n → Below n (gathers word p)
gathers-below n word p more =
    or-done n (has_more word) (asks_for_rest p) (ends_row p)
    (choose n (nat_lt p.responses most_responses) _ _ (λ few. omega (arith, more, ltb-true p.responses 3 few)) tt)
    (or-done n (is_row p.row) (if nat_lt p.rows most_rows then gives_row p else finishes p) (cuts p)
    (choose n (nat_lt p.rows most_rows) _ _ (λ few. omega (arith, more, ltb-true p.rows 2048 few)) (finishes-below n p (omega (arith, more)))) tt)

takes-below : (n : ℕ) (word : StatusWord) (body : List ℕ) (p : Planned) → for_rows p + 3 + (3 - p.responses) ≤ n → Below n (takes word body p)
takes-below n word body p more =
    or-done n (nat_lt LARGEST (length (row_before p) + length body)) (cuts p) (gathers word (record p { row = row_before p ++ body }))
    tt (gathers-below n word (record p { row = row_before p ++ body }) more)

accepts-below : (stage : Stage) (word : StatusWord) (body : List ℕ) (p : Planned) → Below (turns_at stage p) (accepts stage word body p)
accepts-below Beginning word body p = declares-below (for_rows p + 9) p.statement p (omega arith)
accepts-below Declaring word body p = omega arith
accepts-below Opening word body p = or-done (for_rows p + 7) (is_end word) (finishes p) (reaches p.statement p) (finishes-below (for_rows p + 7) p (omega arith)) (reaches-below (for_rows p + 7) p.statement p (omega arith))
accepts-below Fetching word body p =
    or-done (for_rows p + 3 + (3 - p.responses)) (is_end word) (finishes p) (takes word body p) (finishes-below (for_rows p + 3 + (3 - p.responses)) p (omega arith))
    (takes-below (for_rows p + 3 + (3 - p.responses)) word body p (omega arith))
accepts-below Changing word body p = omega arith
accepts-below Moving word body p = or-done (for_rows p + 7) (is_end word) (finishes p) (reaches p.statement p) (finishes-below (for_rows p + 7) p (omega arith)) (reaches-below (for_rows p + 7) p.statement p (omega arith))
accepts-below stage word body p = tt

answered-below : (stage : Stage) (word : StatusWord) (body : List ℕ) (p : Planned) → 1 < turns_at stage p → Below (turns_at stage p) (is_answered stage word body p)
answered-below stage word body p more =
    or-done (turns_at stage p) (is_refusal word) (refuses stage word p) (accepts stage word body p) (refuses-below (turns_at stage p) stage word p more) (accepts-below stage word body p)

goes_on-below : (stage : Stage) (word : StatusWord) (body : List ℕ) (p : Planned) → Below (turns_at stage p) (goes_on stage word body p)
goes_on-below Start word body p = begins-below (for_rows p + 10) p.statement p (omega arith)
goes_on-below Alone word body p = tt
goes_on-below (RollingBack first) word body p = tt
goes_on-below (Ended closing) word body p = tt
goes_on-below Beginning word body p = answered-below Beginning word body p (omega arith)
goes_on-below Declaring word body p = answered-below Declaring word body p (omega arith)
goes_on-below Opening word body p = answered-below Opening word body p (omega arith)
goes_on-below Fetching word body p = answered-below Fetching word body p (omega arith)
goes_on-below Changing word body p = answered-below Changing word body p (omega arith)
goes_on-below Moving word body p = answered-below Moving word body p (omega arith)
goes_on-below Committing word body p = answered-below Committing word body p (lit< tt)

pub next_of-below : (last : Option Reply) (p : Planned) → IfGoesOn (next_of last p).step (turns_left (next_of last p).plan < turns_left p)
next_of-below last p = goes_on-below p.stage (heard last).word (heard last).body p
