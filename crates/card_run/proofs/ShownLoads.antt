-- What a load shows from its beginning to its end.
use Rattle.std.proofs.Common.{◌≡◌, ℕ, ◌≤◌, Bool, true, List, [], Option, Some, None, refl, arith}
use Rattle.scql_model.specs.Database.{Database}
use Rattle.scql_model.specs.Machine.{start}
use Rattle.planner.specs.StatementLines.{TerminalState}
use Rattle.terminal.specs.Holding.{terminal_at}
use Rattle.terminal.specs.Load.{load_counts}
use Rattle.card_run.specs.declared.progress.Progress.{Progress}
use Rattle.program.specs.declared.status.Status.{Status}
use Rattle.card_run.specs.Ends.{has_opened}
use Rattle.person.specs.Showing.{Shows}
use Rattle.card_run.specs.Progress.{Reached, ShowsLoad}
use Rattle.card_run.specs.Watching.{IsWhole, PassesLoad, PassesRows, ended_text, standing_text}
use Rattle.card_run.proofs.Watching.{changed-passed, deleted-passed, load-ended}
use Rattle.person.proofs.Texts.{shows-none}

-- it came so far as its rows
pub load-rows : {P : Type 0} (lost : P → Bool) (shown : P → Option (List ℕ)) (k seed count : ℕ) (begins : TerminalState → Type 0) (progress : Progress) (person after : P) → count ≤ k → PassesRows lost shown seed count begins progress person after
    → (reached : Reached) × PassesLoad lost shown k seed begins progress person after reached
load-rows lost shown k seed count begins progress person after few passes = (
  record { refusals = passes.refusals; changed = None; deleted = None },
  record {
    few = omega (arith, passes.so_many, few);
    in_turn = λ some. absurd cc;
    shows = passes.shows;
    counts = λ state began. record { refusals = passes.refused state began; changed = tt; deleted = tt };
  },
)

-- some of them were changed
pub load-changed : {P : Type 0} (lost : P → Bool) (shown : P → Option (List ℕ)) (k seed rows : ℕ) (begins : TerminalState → Type 0) (filled progress : Progress) (person between after : P) → PassesRows lost shown seed k begins filled person between
    → progress ≡ record filled { changed = rows } → Shows lost shown (standing_text progress) between after → ((state : TerminalState) → begins state → rows ≡ (load_counts state k seed).changed)
    → (reached : Reached) × PassesLoad lost shown k seed begins progress person after reached
load-changed lost shown k seed rows begins filled progress person between after passes is shows counted = (
  record { refusals = passes.refusals; changed = Some rows; deleted = None },
  record {
    few = omega (arith, passes.so_many);
    in_turn = λ some. passes.so_many;
    shows = changed-passed lost shown passes.refusals rows filled progress person between after passes.shows is shows;
    counts = λ state began. record { refusals = passes.refused state began; changed = counted state began; deleted = tt };
  },
)

-- and some deleted
pub load-deleted : {P : Type 0} (lost : P → Bool) (shown : P → Option (List ℕ)) (k seed rows gone : ℕ) (begins : TerminalState → Type 0) (filled changed progress : Progress) (person between next after : P) → PassesRows lost shown seed k begins filled person between
    → changed ≡ record filled { changed = rows } → Shows lost shown (standing_text changed) between next → ((state : TerminalState) → begins state → rows ≡ (load_counts state k seed).changed)
    → progress ≡ record changed { deleted = gone } → Shows lost shown (standing_text progress) next after → ((state : TerminalState) → begins state → gone ≡ (load_counts state k seed).deleted)
    → (reached : Reached) × PassesLoad lost shown k seed begins progress person after reached × IsWhole k reached
load-deleted lost shown k seed rows gone begins filled changed progress person between next after passes is shows counted then_is then_shows then_counted = (
  record { refusals = passes.refusals; changed = Some rows; deleted = Some gone },
  record {
    few = omega (arith, passes.so_many);
    in_turn = λ some. passes.so_many;
    shows = deleted-passed lost shown passes.refusals rows gone changed progress person next after (changed-passed lost shown passes.refusals rows filled changed person between next passes.shows is shows) then_is then_shows;
    counts = λ state began. record { refusals = passes.refused state began; changed = counted state began; deleted = then_counted state began };
  },
  (passes.so_many, refl, refl),
)

-- what it showed until it ended so
pub shows-load : {P : Type 0} (lost : P → Bool) (shown : P → Option (List ℕ)) (k seed : ℕ) (status : Status) (at : TerminalState → Type 0) (begins : Database → Type 0) (progress : Progress) (person between after : P) (reached : Reached) → PassesLoad lost shown k seed at progress person between reached
    → Shows lost shown (ended_text progress) between after → ((db : Database) → begins db → at (terminal_at (start db) 0)) → (has_opened status ≡ true → IsWhole k reached) → ShowsLoad lost shown k seed status begins person after
shows-load lost shown k seed status at begins progress person between after reached passes ended starts whole = record {
  reached = reached;
  few = passes.few;
  in_turn = passes.in_turn;
  follows = (load-ended lost shown reached progress person between after passes.shows ended).follows;
  counts = λ db began. passes.counts (terminal_at (start db) 0) (starts db began);
  whole = whole;
}

-- where its card wasn't opened that is nothing
pub shows-unopened : {P : Type 0} (lost : P → Bool) (shown : P → Option (List ℕ)) (k seed : ℕ) (status : Status) (begins : Database → Type 0) (person : P) → (has_opened status ≡ true → ⊥) → ShowsLoad lost shown k seed status begins person person
shows-unopened lost shown k seed status begins person closed = record {
  reached = record { refusals = []; changed = None; deleted = None };
  few = omega arith;
  in_turn = λ some. absurd cc;
  follows = (shows-none lost shown person).follows;
  counts = λ db began. record { refusals = refl; changed = tt; deleted = tt };
  whole = λ opened. absurd (closed opened);
}

-- of a load that begins earlier
pub shows-from : {P : Type 0} (lost : P → Bool) (shown : P → Option (List ℕ)) (k seed : ℕ) (status : Status) (begins earlier : Database → Type 0) (person after : P) → ((db : Database) → earlier db → begins db)
    → ShowsLoad lost shown k seed status begins person after → ShowsLoad lost shown k seed status earlier person after
shows-from lost shown k seed status begins earlier person after from shows = record {
  reached = shows.reached;
  few = shows.few;
  in_turn = shows.in_turn;
  follows = shows.follows;
  counts = λ db began. shows.counts db (from db began);
  whole = shows.whole;
}
