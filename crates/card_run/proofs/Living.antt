-- A run that meets its clause of the program's one call is a power cycle of a card's life.
use Rattle.std.proofs.Common.{◌≡◌, ◌⊎◌, inl, inr, ℕ, ◌+◌, ◌-◌, Bool, true, false, List, [], ◌∷◌, ◌++◌, length, Option, Some, if◌then◌else◌, refl, sym, ap, subst, ◌∙◌, arith, length-append}
use Rattle.std.proofs.lemmas.Bool.{cases_Bool}
use Rattle.std.specs.Prelude.{IsSome, IfSome, codes, ◌==◌}
use Rattle.eeprom.specs.Chip.{Chip, Still, Throughout}
use Rattle.eeprom.proofs.Moments.{throughout-then, throughout-weaker}
use Rattle.record_store.specs.Recovery.{KeepsStore}
use Rattle.scql_base.specs.declared.row.TheConstants.Row.{LARGEST_UNMIGRATED}
use Rattle.scql_model.specs.Database.{Database, IsValid}
use Rattle.scql_model.specs.Heard.{IsKept, IsLawful, committed_in}
use Rattle.scql_model.specs.Lines.{line_step, line_text}
use Rattle.scql_model.specs.Lives.{IsLife, PowerCycle, after_all}
use Rattle.scql_model.specs.Machine.{Machine, start}
use Rattle.scql_model.specs.Migrating.{migrate_commits, migrated}
use Rattle.scql_model.specs.Opens.{Opens}
use Rattle.scql_model.specs.Tries.{AreSpared, IsGuarded, SparesTries}
use Rattle.scql_model.proofs.Folding.{lines-last}
use Rattle.scql_model.proofs.Hearing.{commands-lawful, kept-answered, kept-failing, kept-idle}
use Rattle.scql_model.proofs.JoinedLives.{joined-cycle, joined-lawful, joined-spare}
use Rattle.scql_model.proofs.LivesRestore.{lines-guarded, lines-spared}
use Rattle.scql_model.proofs.SparingSteps.{commands-spare}
use Rattle.planner.specs.StatementLines.{TerminalState, statement_lines}
use Rattle.planner.proofs.StatementsLawful.{statements-lawful}
use Rattle.planner.proofs.StatementsSpare.{statements-spare}
use Rattle.std.specs.Fmt.{decimal}
use Rattle.terminal.specs.Load.{LoadCounts, counts_text, load_counts, load_script}
use Rattle.card.proofs.Starting.{opens-same}
use Rattle.program.specs.declared.status.Status.{Status}
use Rattle.program.specs.declared.status.Status.TheVariants.{Done, Refused, Eeprom, WriteFault}
use Rattle.card_run.specs.declared.words.Form.{Form}
use Rattle.card_run.specs.declared.words.Form.TheVariants.{New, Apdu, Term, Check, Load, Migrate}
use Rattle.card_run.specs.Beginning.{Begins, EndsUnread, LeavesUntilOpen}
use Rattle.card.specs.Opened.{IsOpenTo}
use Rattle.card_run.specs.Checking.{Checks}
use Rattle.program.specs.Ends.{AllFaults}
use Rattle.eeprom.specs.Output.{Prints}
use Rattle.line_input.specs.declared.input.InputEnd.{InputEnd}
use Rattle.line_run.specs.declared.line_stop.LineStop.{LineStop}
use Rattle.line_run.specs.declared.line_stop.LineStop.TheVariants as stops
use Rattle.line_run.specs.Answering.{Failed}
use Rattle.line_run.specs.Extent.{AreTaken, EndsAt, Extent, Runs, carried_out, stopped_in, to_end}
use Rattle.program.specs.Numbers.{status_at}
use Rattle.card_run.specs.Living.{AreClean, AreRead, CardState, IsCycle, IsCycleAt, MakesAndLives, ReadInEach, StateOf, card_lines, first_state, lines_of, migrate_lines}
use Rattle.card_run.specs.Loading.{Loads, LoadsTo, script_effect, script_lines}
use Rattle.card_run.specs.Migrating.{IsInMigration, Migrates}
use Rattle.line_run.specs.Moments.{IsInAnswered, IsInLine}
use Rattle.card_run.specs.Run.{OpensAndRuns, RunsLines}
use Rattle.card_run.specs.ResponderLaws.{term-lawful}
use Rattle.card_run.specs.Statements.{opened, term_lines, was_refused}
use Rattle.card_run.proofs.LongerRows.{same-migrated}
use Rattle.card_run.proofs.Selecting.{term-lines-select-shown}
use Rattle.card_run.proofs.Showing.{lines-read-shown}

-- Each form's language is lawful, and its lines spare tries.

migrate-silent : (b : Bool) (xs : List Database) → length (if b then codes "migrated\n" else codes "already migrated\n") ≡ 0 → length (if b then xs else []) ≡ 0
migrate-silent true xs none = absurd (omega (arith, none))
migrate-silent false xs none = refl

migrate-lawful : IsLawful migrate_lines
migrate-lawful = record {
  last = λ m line. refl;
  silent = λ m line none. migrate-silent (m.committed.limit == LARGEST_UNMIGRATED) (migrated m.committed ∷ []) none;
}

-- longer rows leave the tries
longer-spared : (stamp : ℕ) (db : Database) (b : Bool) → IsGuarded stamp db → AreSpared stamp db (if b then migrated db ∷ [] else []) × IsGuarded stamp (after_all db (if b then migrated db ∷ [] else []))
longer-spared stamp db true guarded = (((guarded, inr (omega arith)), tt), guarded)
longer-spared stamp db false guarded = (tt, guarded)

migrate-spares : SparesTries migrate_lines
migrate-spares = record {
  machine = λ stamp m line guarded. record { committed = (longer-spared stamp m.committed (m.committed.limit == LARGEST_UNMIGRATED) guarded.committed).1; transaction = tt };
  commits = λ stamp m line guarded. (longer-spared stamp m.committed (m.committed.limit == LARGEST_UNMIGRATED) guarded.committed).0;
}

counts-some : (counts : LoadCounts) → length (counts_text counts) ≡ 0 → ⊥
counts-some counts none =
    omega (
      arith,
      none,
      length-append (codes "load rows ")
          (decimal counts.rows ++ (codes " changed " ++ (decimal counts.changed ++ (codes " deleted " ++ (decimal counts.deleted ++ (codes " refused " ++ (decimal counts.refused ++ codes "\n"))))))),
    )

script-lawful : (rows seed : ℕ) → IsLawful (script_lines rows seed)
script-lawful rows seed = record {
  last = λ state line. lines-last statement_lines statements-lawful state (load_script rows seed);
  silent = λ state line none. absurd (counts-some (load_counts state rows seed) none);
}

script-spares : (rows seed : ℕ) → SparesTries (script_lines rows seed)
script-spares rows seed = record {
  machine = λ stamp state line. lines-guarded statement_lines statements-spare stamp state (load_script rows seed);
  commits = λ stamp state line. lines-spared statement_lines statements-lawful statements-spare stamp state (load_script rows seed);
}

term-spares : SparesTries term_lines
term-spares = record {
  machine = λ stamp sitting line. statements-spare.machine stamp sitting.at line;
  commits = λ stamp sitting line. statements-spare.commits stamp sitting.at line;
}

lines_of-lawful : (form : Form) → IsLawful (lines_of form)
lines_of-lawful (New n) = commands-lawful
lines_of-lawful Apdu = commands-lawful
lines_of-lawful Term = term-lawful
lines_of-lawful Check = commands-lawful
lines_of-lawful (Load rows seed) = script-lawful rows seed
lines_of-lawful Migrate = migrate-lawful

lines_of-spare : (form : Form) → SparesTries (lines_of form)
lines_of-spare (New n) = commands-spare
lines_of-spare Apdu = commands-spare
lines_of-spare Term = term-spares
lines_of-spare Check = commands-spare
lines_of-spare (Load rows seed) = script-spares rows seed
lines_of-spare Migrate = migrate-spares

pub card-lawful : IsLawful card_lines
card-lawful = joined-lawful lines_of lines_of-lawful

pub card-spares : SparesTries card_lines
card-spares = joined-spare lines_of lines_of-spare

-- Moments of a run as power cycles.

starts-first : (form : Form) (db : Database) → (lines_of form).machine (first_state form db) ≡ start db
starts-first (New n) db = refl
starts-first Apdu db = refl
starts-first Term db = refl
starts-first Check db = refl
starts-first (Load rows seed) db = refl
starts-first Migrate db = refl

cycle-kept : (form : Form) (db : Database) (lines : List (List ℕ)) (clean : ℕ) (image : List ℕ) (mark g out : ℕ) (left : List ℕ) → g ≡ mark + out → Opens image db
    → IsKept (lines_of form) (first_state form db) lines clean out left → IsCycleAt form db lines clean image mark g left
cycle-kept form db lines clean image mark g out left is opens kept =
    let first : committed_in (lines_of form) (first_state form db) ≡ db = ap (λ (m : Machine). m.committed) (starts-first form db) in
    let given : out ≡ g - mark = omega (arith, is) in
    joined-cycle lines_of form image (first_state form db) lines clean (g - mark) left (record {
      opens = subst (λ (d : Database). Opens image d) (sym first) opens;
      starts = starts-first form db ∙ ap start (sym first);
      kept = subst (λ (n : ℕ). IsKept (lines_of form) (first_state form db) lines clean n left) given kept;
    })

-- nothing has gone out, and the image opens to the database with which the run began
cycle-idle : (form : Form) (db : Database) (lines : List (List ℕ)) (clean : ℕ) (image : List ℕ) (mark g : ℕ) (left : List ℕ) → g ≡ mark → Opens image db → Opens left db → IsCycleAt form db lines clean image mark g left
cycle-idle form db lines clean image mark g left is opens still =
    let first : db ≡ committed_in (lines_of form) (first_state form db) = sym (ap (λ (m : Machine). m.committed) (starts-first form db)) in
    cycle-kept form db lines clean image mark g 0 left (omega (arith, is)) opens
    (kept-idle (lines_of form) (lines_of-lawful form) (first_state form db) lines clean left (subst (λ (d : Database). Opens left d) first still))

-- while a card is opened
keeps-opening : (old opened : Chip) (image : List ℕ) (db : Database) → old.image ≡ Some image → Opens image db → KeepsStore old opened → Throughout old opened (λ g left. (g ≡ old.still.mark) × Opens left db)
keeps-opening old opened image db told opens keeps =
    let of : (was : List ℕ) → old.image ≡ Some was → Opens was db = λ was is. (let same : image ≡ was = cc (told, is) in subst (λ (i : List ℕ). Opens i db) same opens) in
    record {
      later = keeps.keeps.later;
      only = λ t g left since there. elim (keeps.keeps.only t g left since there) [
        | inl before ↦ inl before
        | inr at ↦ inr (at.0, opens-same at.1 left (sym at.3) db (of at.1 at.2))
      ];
      stays = keeps.keeps.stays;
      now = λ left is.
          let at = keeps.keeps.image left is in
          (ap (λ (s : Still). s.mark) keeps.keeps.still, opens-same at.0 left (sym at.2) db (of at.0 at.1));
    }

cycles-until : (form : Form) (db : Database) (lines : List (List ℕ)) (clean : ℕ) (image : List ℕ) (old opened : Chip) → old.image ≡ Some image → Opens image db → KeepsStore old opened
    → Throughout old opened (IsCycleAt form db lines clean image old.still.mark)
cycles-until form db lines clean image old opened told opens keeps =
    throughout-weaker old opened (λ g left. (g ≡ old.still.mark) × Opens left db) (IsCycleAt form db lines clean image old.still.mark) (keeps-opening old opened image db told opens keeps)
    (λ g left at. cycle-idle form db lines clean image old.still.mark g left at.0 opens at.1)

-- behind that, where each moment from a mark on is one of what is kept
cycles-then : (form : Form) (db : Database) (lines : List (List ℕ)) (clean : ℕ) (image : List ℕ) (old opened new : Chip) (P : ℕ → List ℕ → Type 0) → old.image ≡ Some image → Opens image db → KeepsStore old opened
    → Throughout opened new P → ((g : ℕ) (left : List ℕ) → P g left → IsCycleAt form db lines clean image opened.still.mark g left) → Throughout old new (IsCycleAt form db lines clean image old.still.mark)
cycles-then form db lines clean image old opened new P told opens keeps during of =
    let mark : opened.still.mark ≡ old.still.mark = ap (λ (s : Still). s.mark) keeps.keeps.still in
    throughout-then old opened new (IsCycleAt form db lines clean image old.still.mark) (cycles-until form db lines clean image old opened told opens keeps)
    (subst (λ (n : ℕ). Throughout opened new (IsCycleAt form db lines clean image n)) mark
    (throughout-weaker opened new P (IsCycleAt form db lines clean image opened.still.mark) during of))

-- Runs over lines.

same-input : {A : Type 0} (a b : A) → Some a ≡ Some b → a ≡ b
same-input a b same = cc

-- what is kept where so many octets have gone out since a mark
abbrev KeptFrom : Form → Database → List (List ℕ) → ℕ → ℕ → ℕ → List ℕ → Type 0
KeptFrom form db lines clean mark g left = (out : ℕ) × (g ≡ mark + out) × IsKept (lines_of form) (first_state form db) lines clean out left

kept-cycles : (form : Form) (db : Database) (lines : List (List ℕ)) (clean : ℕ) (image : List ℕ) (mark g : ℕ) (left : List ℕ) → Opens image db
    → KeptFrom form db lines clean mark g left → IsCycleAt form db lines clean image mark g left
kept-cycles form db lines clean image mark g left opens kept = cycle-kept form db lines clean image mark g kept.0 left kept.1 opens kept.2

-- how many lines are clean, by the extent of the run
clean-of : {X : Type 0} (chip : X → Chip) (eeprom : X → ℕ) (form : Form) (db : Database) (status : Status) (end : InputEnd LineStop) (refused : Bool) (lines : List (List ℕ)) (extent : Extent) (old new : X) → status ≡ status_at end refused
    → EndsAt chip eeprom (lines_of form) (first_state form db) extent end old new → Runs (lines_of form) (first_state form db) lines extent (chip old) (chip new)
    → AreClean form db status lines (carried_out extent lines) (chip old).still.given (chip new).still.given
clean-of chip eeprom form db status end refused lines to_end old new is ends runs = inl refl
clean-of chip eeprom form db status end refused lines (stopped_in stop answered line) old new is ends runs = inr (record {
  stop = stop;
  answered = answered;
  line = line;
  within = runs.within;
  ends = is ∙ ap (λ (e : InputEnd LineStop). status_at e refused) ends.0;
  count = refl;
  text = runs.text;
})

-- The card was opened, and lines were taken.
opens-cycle : {X : Type 0} (chip : X → Chip) (eeprom : X → ℕ) (form : Form) (db : Database) (status : Status) (input left image : List ℕ) (old new : X)
    → ((lines : List (List ℕ)) → ((end : InputEnd LineStop) × (refused : Bool) × (status ≡ status_at end refused) × AreTaken end input left lines) → AreRead form status input left lines)
    → ((opened : Chip) → LeavesUntilOpen form (chip old) opened → KeepsStore (chip old) opened)
    → (chip old).image ≡ Some image → Opens image db → IsSome (chip new).still.given
    → OpensAndRuns chip eeprom (lines_of form) form db (first_state form db) status input left old new → IsCycle form db status input left image (chip old) (chip new)
opens-cycle chip eeprom form db status input left image old new are until told opens given opened =
    let ran = opened.runs.runs in
    let clean : ℕ = carried_out ran.extent ran.taken in
    record {
      lines = ran.taken;
      are = inr (are ran.taken (opened.runs.end, opened.runs.refused, opened.runs.ends, ran.are_taken));
      clean = clean;
      are_clean = subst (λ (s : Still). AreClean form db status ran.taken clean s.given (chip new).still.given) opened.still
          (clean-of chip eeprom form db status opened.runs.end opened.runs.refused ran.taken ran.extent opened.opened new opened.runs.ends ran.ends ran.runs);
      moments = cycles-then form db ran.taken clean image (chip old) (chip opened.opened) (chip new) (KeptFrom form db ran.taken clean (chip opened.opened).still.mark) told opens (until (chip opened.opened) opened.until) (ran.runs.moments given)
          (λ g left kept. kept-cycles form db ran.taken clean image (chip opened.opened).still.mark g left opens kept);
    }

-- Or no line was read.
unread-cycle : {T : Type 0} (form : Form) (db : Database) (status : Status) (input left image : List ℕ) (source after : T) (old new : Chip)
    → (LeavesUntilOpen form old new → KeepsStore old new) → old.image ≡ Some image → Opens image db → EndsUnread form status source after old new → IsCycle form db status input left image old new
unread-cycle form db status input left image source after old new until told opens unread = record {
  lines = [];
  are = inl (unread.opening, refl);
  clean = 0;
  are_clean = inl refl;
  moments = cycles-until form db [] 0 image old new told opens (until unread.leaves);
}

pub commands-cycle : {T X : Type 0} (chip : X → Chip) (eeprom : X → ℕ) (status : Status) (source after : T) (input left : List ℕ) (old new : X) (was now : AllFaults) (db : Database) (opens : IsOpenTo (chip old) db)
    → IsSome (chip new).still.given → RunsLines chip eeprom (lines_of Apdu) (λ m. false) start Apdu status source after (Some input) (Some left) old new was now → IsCycle Apdu db status input left opens.0 (chip old) (chip new)
commands-cycle chip eeprom status source after input left old new was now db opens given lines = elim (lines.runs db opens) [
  | inl unread ↦ unread-cycle Apdu db status input left opens.0 source after (chip old) (chip new) (λ leaves. leaves) opens.1 opens.2 unread
  | inr runs ↦
      let told = runs left refl in
      opens-cycle chip eeprom Apdu db status input left opens.0 old new (λ lines is. is) (λ opened leaves. leaves) opens.1 opens.2 given
      (subst (λ (i : List ℕ). OpensAndRuns chip eeprom (lines_of Apdu) Apdu db (start db) status i left old new) (sym (same-input input told.0 told.1)) told.2)
]

pub statements-cycle : {T X : Type 0} (chip : X → Chip) (eeprom : X → ℕ) (status : Status) (source after : T) (input left : List ℕ) (old new : X) (was now : AllFaults) (db : Database) (opens : IsOpenTo (chip old) db)
    → IsSome (chip new).still.given → RunsLines chip eeprom term_lines was_refused opened Term status source after (Some input) (Some left) old new was now → IsCycle Term db status input left opens.0 (chip old) (chip new)
statements-cycle chip eeprom status source after input left old new was now db opens given lines = elim (lines.runs db opens) [
  | inl unread ↦ unread-cycle Term db status input left opens.0 source after (chip old) (chip new) (λ leaves. leaves) opens.1 opens.2 unread
  | inr runs ↦
      let told = runs left refl in
      opens-cycle chip eeprom Term db status input left opens.0 old new (λ lines is. is) (λ opened leaves. leaves) opens.1 opens.2 given
      (subst (λ (i : List ℕ). OpensAndRuns chip eeprom term_lines Term db (opened db) status i left old new) (sym (same-input input told.0 told.1)) told.2)
]

-- A run of `new` makes its card first.
made-cycle : {X : Type 0} (chip : X → Chip) (eeprom : X → ℕ) (n : ℕ) (db : Database) (status : Status) (input left : List ℕ) (old new : X) → IsSome (chip new).still.given
    → OpensAndRuns chip eeprom (lines_of (New n)) (New n) db (start db) status input left old new → MakesAndLives n db status input left (chip old) (chip new)
made-cycle chip eeprom n db status input left old new given opened =
    let ran = opened.runs.runs in
    let clean : ℕ = carried_out ran.extent ran.taken in
    let mid : Chip = chip opened.opened in
    record {
      opened = mid;
      made = opened.until;
      lives = λ image told.
          let opens : Opens image db = subst (λ (o : Option (List ℕ)). IfSome o (λ image. Opens image db)) told opened.opens in
          record {
            lines = ran.taken;
            are = inr (opened.runs.end, opened.runs.refused, opened.runs.ends, ran.are_taken);
            clean = clean;
            are_clean = clean-of chip eeprom (New n) db status opened.runs.end opened.runs.refused ran.taken ran.extent opened.opened new opened.runs.ends ran.ends ran.runs;
            moments = throughout-weaker mid (chip new) (KeptFrom (New n) db ran.taken clean mid.still.mark) (IsCycleAt (New n) db ran.taken clean image mid.still.mark) (ran.runs.moments given)
                (λ g left kept. kept-cycles (New n) db ran.taken clean image mid.still.mark g left opens kept);
          };
    }

pub new-cycle : {T X : Type 0} (chip : X → Chip) (eeprom : X → ℕ) (n : ℕ) (status : Status) (source after : T) (input left : List ℕ) (old new : X) (was now : AllFaults) (db : Database) → Begins (New n) (chip old) db
    → IsSome (chip new).still.given → RunsLines chip eeprom (lines_of (New n)) (λ m. false) start (New n) status source after (Some input) (Some left) old new was now
    → EndsUnread (New n) status source after (chip old) (chip new) ⊎ MakesAndLives n db status input left (chip old) (chip new)
new-cycle chip eeprom n status source after input left old new was now db begins given lines = elim (lines.runs db begins) [
  | inl unread ↦ inl unread
  | inr runs ↦
      let told = runs left refl in
      inr (made-cycle chip eeprom n db status input left old new given
      (subst (λ (i : List ℕ). OpensAndRuns chip eeprom (lines_of (New n)) (New n) db (start db) status i left old new) (sym (same-input input told.0 told.1)) told.2))
]

-- A script, and a migration, as one line.

answered-cycle : (form : Form) (db : Database) (image : List ℕ) (mark g : ℕ) (left : List ℕ) → Opens image db
    → IsInAnswered (lines_of form) (first_state form db) ((lines_of form).effect (first_state form db) (Some [])) mark g left → IsCycleAt form db ([] ∷ []) 1 image mark g left
unfolding line_text line_step
answered-cycle form db image mark g left opens answered =
    let first : StateOf form = first_state form db in
    cycle-kept form db ([] ∷ []) 1 image mark g (g - mark) left (omega (arith, answered.line.later)) opens
    (kept-answered (lines_of form) (lines_of-lawful form) first [] [] 0 (g - mark) left (omega (arith, answered.within, answered.line.later)) answered.line.opens (λ past. answered.done (omega (arith, past))))

failing-cycle : (form : Form) (db : Database) (image : List ℕ) (mark g : ℕ) (left : List ℕ) → Opens image db
    → IsInLine (lines_of form) (first_state form db) ((lines_of form).effect (first_state form db) (Some [])) mark g left → IsCycleAt form db ([] ∷ []) 0 image mark g left
failing-cycle form db image mark g left opens failing =
    cycle-kept form db ([] ∷ []) 0 image mark g (g - mark) left (omega (arith, failing.later)) opens
    (kept-failing (lines_of form) (first_state form db) [] [] (g - mark) left failing.opens)

-- the moments of a script behind the opening
loads-cycle : (rows seed : ℕ) (db : Database) (status : Status) (input left image : List ℕ) (from to : ℕ) (old opened new : Chip) → old.image ≡ Some image → Opens image db → KeepsStore old opened → IsSome new.still.given
    → LoadsTo rows seed status (first_state (Load rows seed) db) from to opened new → IsCycle (Load rows seed) db status input left image old new
loads-cycle rows seed db status input left image from to old opened new told opens keeps given loads = go status refl loads
  where
    state : TerminalState
    state = first_state (Load rows seed) db

    answered : Throughout opened new (IsInAnswered (script_lines rows seed) state (script_effect rows seed state) opened.still.mark) → IsCycle (Load rows seed) db status input left image old new
    answered during = record {
      lines = [] ∷ [];
      are = inr refl;
      clean = 1;
      are_clean = inl refl;
      moments = cycles-then (Load rows seed) db ([] ∷ []) 1 image old opened new (IsInAnswered (script_lines rows seed) state (script_effect rows seed state) opened.still.mark) told opens keeps during (λ g left at. answered-cycle (Load rows seed) db image opened.still.mark g left opens at);
    }

    -- the EEPROM failed in the script, of which nothing was said
    failed : status ≡ Eeprom → Failed stops.Eeprom (script_lines rows seed) state (script_effect rows seed state) opened new → IsCycle (Load rows seed) db status input left image old new
    failed is fails = record {
      lines = [] ∷ [];
      are = inr refl;
      clean = 0;
      are_clean = inr (record {
        stop = stops.Eeprom;
        answered = [];
        line = [];
        within = ([], refl);
        ends = is;
        count = refl;
        text = (fails.fails.said, (fails.fails.said, fails.fails.says, refl), subst (λ (s : Still). Prints fails.fails.said s.given new.still.given) keeps.keeps.still fails.fails.given);
      });
      moments = cycles-then (Load rows seed) db ([] ∷ []) 0 image old opened new (IsInLine (script_lines rows seed) state (script_effect rows seed state) opened.still.mark) told opens keeps (fails.moments given) (λ g left at. failing-cycle (Load rows seed) db image opened.still.mark g left opens at);
    }

    go : (end : Status) → status ≡ end → LoadsTo rows seed end (first_state (Load rows seed) db) from to opened new → IsCycle (Load rows seed) db status input left image old new
    go Done is loads = answered (loads.0.moments given).moments
    go Refused is loads = answered (loads.0.moments given).moments
    go WriteFault is loads = answered (loads.0.moments given)
    go Eeprom is loads = failed is loads
    go end is loads = absurd loads

pub load-cycle : {T : Type 0} (rows seed : ℕ) (status : Status) (source after : T) (input left : List ℕ) (old new : Chip) (was now : AllFaults) (db : Database) (opens : IsOpenTo old db)
    → IsSome new.still.given → Loads rows seed status source after old new was now → IsCycle (Load rows seed) db status input left opens.0 old new
load-cycle rows seed status source after input left old new was now db opens given loads = elim (loads.runs db opens) [
  | inl unread ↦ unread-cycle (Load rows seed) db status input left opens.0 source after old new (λ leaves. leaves) opens.1 opens.2 unread
  | inr runs ↦ loads-cycle rows seed db status input left opens.0 was.eeprom now.eeprom old runs.opened new opens.1 opens.2 runs.until given runs.loads
]

-- the database behind a migration's commits has longer rows
migrated-last : (db : Database) → IsValid db → migrated db ≡ after_all db (migrate_commits db)
migrated-last db valid = elim (cases_Bool (db.limit == 240)) [
  | inl short ↦ rw short refl
  | inr long ↦ rw long (same-migrated db valid long)
]

pub migrate-cycle : {T : Type 0} (status : Status) (source after : T) (input left : List ℕ) (old new : Chip) (was now : AllFaults) (db : Database) (opens : IsOpenTo old db)
    → IsSome new.still.given → Migrates status source after old new was now → IsCycle Migrate db status input left opens.0 old new
migrate-cycle status source after input left old new was now db opens given migrates = record {
  lines = [] ∷ [];
  are = inr refl;
  clean = 1;
  are_clean = inl refl;
  moments = throughout-weaker old new (IsInMigration db old.still.mark) (IsCycleAt Migrate db ([] ∷ []) 1 opens.0 old.still.mark) (migrates.moments db opens given)
      (λ g left at. answered-cycle Migrate db opens.0 old.still.mark g left opens.2 (record {
        line = record { later = at.later; opens = at.opens };
        within = at.within;
        done = λ past. subst (λ (d : Database). Opens left d) (migrated-last db opens.2.valid) (at.done past);
      }));
}

-- A check writes nothing from the opening on.
pub check-cycle : {T : Type 0} (status : Status) (source after : T) (input left : List ℕ) (old new : Chip) (was now : AllFaults) (db : Database) (opens : IsOpenTo old db)
    → Checks status source after old new was now → IsCycle Check db status input left opens.0 old new
check-cycle status source after input left old new was now db opens checks =
    let opened : Chip = checks.nothing.0 in
    let keeps : KeepsStore old opened = checks.nothing.1 in
    let still = keeps-opening old opened opens.0 db opens.1 opens.2 keeps in
    record {
      lines = [];
      are = inr refl;
      clean = 0;
      are_clean = inl refl;
      moments = throughout-then old opened new (IsCycleAt Check db [] 0 opens.0 old.still.mark) (cycles-until Check db [] 0 opens.0 old opened opens.1 opens.2 keeps)
          (throughout-weaker opened new (λ g left. opened.image ≡ Some left) (IsCycleAt Check db [] 0 opens.0 old.still.mark) checks.nothing.2.moments (λ g left told. cycle-checked db opens.0 old.still.mark g left opens.2 (still.now left told).1));
    }
  where
    cycle-checked : (db : Database) (image : List ℕ) (mark g : ℕ) (left : List ℕ) → Opens image db → Opens left db → IsCycleAt Check db [] 0 image mark g left
    cycle-checked db image mark g left opens still = record {
      opens = opens;
      starts = refl;
      kept = record { commits = 0; least = omega arith; most = omega arith; opens = still };
    }

-- In each power cycle of a life reading commands and SELECTs are answered by what is shown.
pub read-each : (image : List ℕ) (cycles : List (PowerCycle CardState)) → IsLife card_lines image cycles → ReadInEach cycles
read-each image [] life = tt
read-each image (cycle ∷ cycles) life =
    let db : Database = committed_in card_lines cycle.first in
    (record { commands = lines-read-shown db life.0.opens.valid; statements = term-lines-select-shown db life.0.opens.valid }, read-each cycle.left cycles life.1)
