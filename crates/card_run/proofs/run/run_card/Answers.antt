-- The card that was opened is at the start of the database with which the run begins; from there the run over its input, or its migration, tells how it ends.
use Rattle.std.proofs.Common.{◌≡◌, ℕ, true, false, Some, refl, sym, ap, subst, ◌∙◌}
use Rattle.std.specs.Prelude.{map}
use Rattle.std.specs.String.{string_bytes}
use Rattle.eeprom.specs.Chip.{Chip, Still}
use Rattle.scql_model.specs.Database.{Database}
use Rattle.scql_model.specs.Machine.{start}
use Rattle.scql_model.specs.Lines.{command_lines}
use Rattle.card.specs.Behind.{KeepsBehind, own_cells}
use Rattle.card.specs.Card.{IsAt}
use Rattle.card_run.specs.declared.words.Form.{Form}
use Rattle.card_run.specs.declared.words.Form.TheVariants.{Term, Check, Load, Migrate}
use Rattle.card_run.specs.Behind.{run_cells}
use Rattle.program.specs.declared.status.Status.{Status}
use Rattle.card_run.specs.Beginning.{BeginsWith, Begins, LacksCard, LeavesUntilOpen, FindsNoCard, WantsMemory}
use Rattle.card.specs.Opened.{IsOpenTo}
use Rattle.card_run.specs.Checking.{Says}
use Rattle.program.specs.Ends.{AllFaults, EndsBy}
use Rattle.card_run.specs.Ends.{may_end}
use Rattle.card_run.specs.Progress.{ShowsLoad}
use Rattle.card_run.specs.Selecting.{TermLinesSelectShown}
use Rattle.card_run.specs.Showing.{LinesReadShown}
use Rattle.card_run.specs.Loading.{LoadsTo}
use Rattle.card_run.specs.Migrating.{MigratesTo}
use Rattle.card_run.specs.Statements.{opened, term_lines, was_refused}
use Rattle.card_run.specs.Words.{answers_commands, form_in, makes_card}
use Rattle.terminal.specs.Holding.{terminal_at}
use Rattle.guide.proofs.Told.{told-none}
use Rattle.card_run.proofs.Asking.{commands-answered, commands-read, lines-may, lines-not-unread, lines-not-wanting, no-load, no-read, no_lines, not-unread, not-wanting, opened-may, opening-may, unopened}
use Rattle.card.specs.GivenMoments.{behind-then}
use Rattle.card_run.proofs.Behind.{cells-over}
use Rattle.card_run.proofs.CheckedCards.{Checks-opened, Checks-unopened}
use Rattle.card_run.proofs.Finishing.{Lines-unopened, Lines-opened, same_faults, valid-beginning}
use Rattle.card_run.proofs.LoadedCards.{Loads-opened, Loads-unopened}
use Rattle.card_run.proofs.LongerRows.{open-at, open-told, Migrates-opened, Migrates-unopened}
use Rattle.card_run.proofs.Selecting.{term-lines-select-shown}
use Rattle.card_run.proofs.ShownLoads.{shows-from, shows-unopened}
use Rattle.card_run.proofs.Showing.{lines-read-shown}
use Rattle.card_run.proofs.run.run_card.Given as given
use Rattle.card_run.proofs.run.run_card.Goals as goal
use Rattle.card_run.proofs.run.run_card.Goals.{After-answer_commands as Ended, After-answer_statements as Stated, After-open_card as Opened, After-run_check as Checked, After-run_load as Loaded}

-- The card.

-- the form that was read is the one that the words ask for
of_form : (g : given.Over) (c : Opened g) (form : Form) (db : Database) → form_in (map string_bytes c.args.words.now) ≡ Some form → Begins form (g.B.Eeprom.chip c.args.bench.now) db → Begins c.in-Some.form (g.B.Eeprom.chip c.args.bench.now) db
of_form g c form db asked begins =
    let same : form ≡ c.in-Some.form = cc (c.in-Some.ensures, asked) in
    subst (λ (f : Form). Begins f (g.B.Eeprom.chip c.args.bench.now) db) same begins

lacking : (g : given.Over) (c : Opened g) → FindsNoCard (map string_bytes c.args.words.now) (g.B.Eeprom.chip c.args.bench.now) → LacksCard c.in-Some.form (g.B.Eeprom.chip c.args.bench.now)
lacking g c finds =
    let same : finds.form ≡ c.in-Some.form = cc (c.in-Some.ensures, finds.asked) in
    subst (λ (f : Form). LacksCard f (g.B.Eeprom.chip c.args.bench.now)) same finds.lacks

left : (g : given.Over) (c : Opened g) (form : Form) → form_in (map string_bytes c.args.words.now) ≡ Some form → LeavesUntilOpen form (g.B.Eeprom.chip c.args.bench.now) (g.B.Eeprom.chip c.open_card.new.bench)
left g c form asked =
    let same : c.in-Some.form ≡ form = cc (c.in-Some.ensures, asked) in
    subst (λ (f : Form). LeavesUntilOpen f (g.B.Eeprom.chip c.args.bench.now) (g.B.Eeprom.chip c.open_card.new.bench)) same c.open_card.ensures.leaves.until.leaves

-- no fault of the outlet is counted until it is open
outlet_kept : (g : given.Over) (opened bench : g.row.B.Denot) → (g.B.Eeprom.chip opened).still ≡ (g.B.Eeprom.chip bench).still → g.B.Outlet.sink_faults opened ≡ g.B.Outlet.sink_faults bench
outlet_kept g opened bench still = sym (g.met.B.Bench.output opened).1 ∙ (ap (λ (s : Still). s.sink_faults) still ∙ (g.met.B.Bench.output bench).1)

outlet_stays : (g : given.Over) (c : Opened g) → g.B.Outlet.sink_faults c.open_card.new.bench ≡ g.B.Outlet.sink_faults c.args.bench.now
outlet_stays g c = outlet_kept g c.open_card.new.bench c.args.bench.now c.open_card.ensures.leaves.until.still

-- It wasn't opened.

-- what `migrate` asks for, and finds
migrating : (g : given.Over) (c : Opened g) → form_in (map string_bytes c.args.words.now) ≡ Some Migrate → c.in-Some.form ≡ Migrate
migrating g c asked = cc (c.in-Some.ensures, asked)

found : (g : given.Over) (c : Opened g) (db : Database) → form_in (map string_bytes c.args.words.now) ≡ Some Migrate → IsOpenTo (g.B.Eeprom.chip c.args.bench.now) db → Begins c.in-Some.form (g.B.Eeprom.chip c.args.bench.now) db
found g c db asked opens = subst (λ (f : Form). Begins f (g.B.Eeprom.chip c.args.bench.now) db) (sym (migrating g c asked)) opens

-- It was opened to be migrated.

pub returns-in-Migrate-clause-ends : goal.returns-in-Migrate-clause-ends
returns-in-Migrate-clause-ends g c =
    let run : Opened g = (goal.at.returns-in-Migrate-clause-ends g c).After-open_card in
    let now : AllFaults = record { eeprom = g.B.Eeprom.faults c.run_migration.new.bench; source = g.S.Source.source_faults c.args.source.now; outlet = g.B.Outlet.sink_faults c.run_migration.new.bench } in
    let same = same_faults (g.B.Eeprom.faults c.open_card.new.bench) (g.B.Eeprom.faults c.args.bench.now) (g.S.Source.source_faults c.args.source.now) (g.B.Outlet.sink_faults c.open_card.new.bench) (g.B.Outlet.sink_faults c.args.bench.now)
    c.in-Ok.ensures.leaves.quiet (outlet_stays g run) in
    subst (λ (f : AllFaults). EndsBy c.run_migration.result f now) same (c.run_migration.ensures.ended.ends (g.S.Source.source_faults c.args.source.now))

-- It was opened to be checked.

ends_check : (g : given.Over) (c : Checked g)
    → (let was : AllFaults = record { eeprom = g.B.Eeprom.faults c.args.bench.now; source = g.S.Source.source_faults c.args.source.now; outlet = g.B.Outlet.sink_faults c.args.bench.now } in
    let now : AllFaults = record { eeprom = g.B.Eeprom.faults c.run_check.new.bench; source = g.S.Source.source_faults c.args.source.now; outlet = g.B.Outlet.sink_faults c.run_check.new.bench } in
    EndsBy c.run_check.result was now)
ends_check g c =
    let now : AllFaults = record { eeprom = g.B.Eeprom.faults c.run_check.new.bench; source = g.S.Source.source_faults c.args.source.now; outlet = g.B.Outlet.sink_faults c.run_check.new.bench } in
    let sink = outlet_kept g c.open_card.new.bench c.args.bench.now c.open_card.ensures.leaves.until.still in
    let same = same_faults (g.B.Eeprom.faults c.open_card.new.bench) (g.B.Eeprom.faults c.args.bench.now) (g.S.Source.source_faults c.args.source.now) (g.B.Outlet.sink_faults c.open_card.new.bench) (g.B.Outlet.sink_faults c.args.bench.now) c.in-Ok.ensures.leaves.quiet sink in
    subst (λ (f : AllFaults). EndsBy c.run_check.result f now) same (c.run_check.ensures.ended.ends (g.S.Source.source_faults c.args.source.now))

pub returns-in-Check-clause-ends : goal.returns-in-Check-clause-ends
returns-in-Check-clause-ends g c = ends_check g (goal.at.returns-in-Check-clause-ends g c).After-run_check

-- It was opened to be loaded.

ends_load : (g : given.Over) (c : Loaded g)
    → (let was : AllFaults = record { eeprom = g.B.Eeprom.faults c.args.bench.now; source = g.S.Source.source_faults c.args.source.now; outlet = g.B.Outlet.sink_faults c.args.bench.now } in
    let now : AllFaults = record { eeprom = g.B.Eeprom.faults c.run_load.new.bench; source = g.S.Source.source_faults c.args.source.now; outlet = g.B.Outlet.sink_faults c.run_load.new.bench } in
    EndsBy c.run_load.result was now)
ends_load g c =
    let now : AllFaults = record { eeprom = g.B.Eeprom.faults c.run_load.new.bench; source = g.S.Source.source_faults c.args.source.now; outlet = g.B.Outlet.sink_faults c.run_load.new.bench } in
    let sink = outlet_kept g c.open_card.new.bench c.args.bench.now c.open_card.ensures.leaves.until.still in
    let same = same_faults (g.B.Eeprom.faults c.open_card.new.bench) (g.B.Eeprom.faults c.args.bench.now) (g.S.Source.source_faults c.args.source.now) (g.B.Outlet.sink_faults c.open_card.new.bench) (g.B.Outlet.sink_faults c.args.bench.now) c.in-Ok.ensures.leaves.quiet sink in
    subst (λ (f : AllFaults). EndsBy c.run_load.result f now) same (c.run_load.ensures.ended.ends (g.S.Source.source_faults c.args.source.now))

pub returns-in-Load-clause-ends : goal.returns-in-Load-clause-ends
returns-in-Load-clause-ends g c = ends_load g (goal.at.returns-in-Load-clause-ends g c).After-run_load

pub returns-in-Load-clause-shown : goal.returns-in-Load-clause-shown
returns-in-Load-clause-shown g c = λ db begins. lines-read-shown db (valid-beginning (map string_bytes c.args.words.now) (g.B.Eeprom.chip c.args.bench.now) db begins)

-- It was opened to carry out statements.

ends_statements : (g : given.Over) (c : Stated g)
    → (let was : AllFaults = record { eeprom = g.B.Eeprom.faults c.args.bench.now; source = g.S.Source.source_faults c.args.source.now; outlet = g.B.Outlet.sink_faults c.args.bench.now } in
    let now : AllFaults = record { eeprom = g.B.Eeprom.faults c.answer_statements.new.bench; source = g.S.Source.source_faults c.answer_statements.new.source; outlet = g.B.Outlet.sink_faults c.answer_statements.new.bench } in
    EndsBy c.answer_statements.result was now)
ends_statements g c =
    let now : AllFaults = record { eeprom = g.B.Eeprom.faults c.answer_statements.new.bench; source = g.S.Source.source_faults c.answer_statements.new.source; outlet = g.B.Outlet.sink_faults c.answer_statements.new.bench } in
    let sink = outlet_kept g c.open_card.new.bench c.args.bench.now c.open_card.ensures.leaves.until.still in
    let same = same_faults (g.B.Eeprom.faults c.open_card.new.bench) (g.B.Eeprom.faults c.args.bench.now) (g.S.Source.source_faults c.args.source.now) (g.B.Outlet.sink_faults c.open_card.new.bench) (g.B.Outlet.sink_faults c.args.bench.now) c.in-Ok.ensures.leaves.quiet sink in
    subst (λ (f : AllFaults). EndsBy c.answer_statements.result f now) same c.answer_statements.ensures.run.ends

pub returns-in-Term-clause-ends : goal.returns-in-Term-clause-ends
returns-in-Term-clause-ends g c = ends_statements g (goal.at.returns-in-Term-clause-ends g c).After-answer_statements

-- card and EEPROM are at its start where the run over the input begins
begins_at : (g : given.Over) (c : Stated g) (db : Database) → form_in (map string_bytes c.args.words.now) ≡ Some Term → Begins Term (g.B.Eeprom.chip c.args.bench.now) db
    → IsAt c.in-Ok.card (g.B.Eeprom.chip c.open_card.new.bench) (start db)
begins_at g c db asked begins =
    let same : Term ≡ c.in-Some.form = cc (c.in-Some.ensures, asked) in
    c.in-Ok.ensures.opened.starts db (subst (λ (f : Form). Begins f (g.B.Eeprom.chip c.args.bench.now) db) same begins)

pub returns-in-Term-clause-no_card : goal.returns-in-Term-clause-no_card
returns-in-Term-clause-no_card g c = λ finds. absurd (c.in-Ok.ensures.opened.found (lacking g (goal.at.returns-in-Term-clause-no_card g c).After-open_card finds))

-- It was opened to answer commands.

-- each fault has its cause
ends_commands : (g : given.Over) (c : Ended g)
    → (let was : AllFaults = record { eeprom = g.B.Eeprom.faults c.args.bench.now; source = g.S.Source.source_faults c.args.source.now; outlet = g.B.Outlet.sink_faults c.args.bench.now } in
    let now : AllFaults = record { eeprom = g.B.Eeprom.faults c.answer_commands.new.bench; source = g.S.Source.source_faults c.answer_commands.new.source; outlet = g.B.Outlet.sink_faults c.answer_commands.new.bench } in
    EndsBy c.answer_commands.result was now)
ends_commands g c =
    let now : AllFaults = record { eeprom = g.B.Eeprom.faults c.answer_commands.new.bench; source = g.S.Source.source_faults c.answer_commands.new.source; outlet = g.B.Outlet.sink_faults c.answer_commands.new.bench } in
    let sink = outlet_kept g c.open_card.new.bench c.args.bench.now c.open_card.ensures.leaves.until.still in
    let same = same_faults (g.B.Eeprom.faults c.open_card.new.bench) (g.B.Eeprom.faults c.args.bench.now) (g.S.Source.source_faults c.args.source.now) (g.B.Outlet.sink_faults c.open_card.new.bench) (g.B.Outlet.sink_faults c.args.bench.now) c.in-Ok.ensures.leaves.quiet sink in
    subst (λ (f : AllFaults). EndsBy c.answer_commands.result f now) same c.answer_commands.ensures.run.ends

-- card and EEPROM are at its start where the run over the input begins
starts : (g : given.Over) (c : Ended g) (form : Form) (db : Database) → form_in (map string_bytes c.args.words.now) ≡ Some form → Begins form (g.B.Eeprom.chip c.args.bench.now) db
    → IsAt c.in-Ok.card (g.B.Eeprom.chip c.open_card.new.bench) (start db)
starts g c form db asked begins =
    let same : form ≡ c.in-Some.form = cc (c.in-Some.ensures, asked) in
    c.in-Ok.ensures.opened.starts db (subst (λ (f : Form). Begins f (g.B.Eeprom.chip c.args.bench.now) db) same begins)

pub returns-in-New-clause-no_card : goal.returns-in-New-clause-no_card
returns-in-New-clause-no_card g c = λ finds. absurd (c.in-Ok.ensures.opened.found (lacking g (goal.at.returns-in-New-clause-no_card g c).After-open_card finds))

pub returns-in-New-clause-ends : goal.returns-in-New-clause-ends
returns-in-New-clause-ends g c = ends_commands g (goal.at.returns-in-New-clause-ends g c).After-answer_commands

-- What is shown.

shown : (g : given.Over) (c : Opened g) (db : Database) → BeginsWith (map string_bytes c.args.words.now) (g.B.Eeprom.chip c.args.bench.now) db → LinesReadShown (start db)
shown g c db begins = lines-read-shown db (valid-beginning (map string_bytes c.args.words.now) (g.B.Eeprom.chip c.args.bench.now) db begins)

pub returns-in-Err-clause-shown : goal.returns-in-Err-clause-shown
returns-in-Err-clause-shown g c = shown g (goal.at.returns-in-Err-clause-shown g c).After-open_card

pub returns-in-Migrate-clause-shown : goal.returns-in-Migrate-clause-shown
returns-in-Migrate-clause-shown g c = shown g (goal.at.returns-in-Migrate-clause-shown g c).After-open_card

pub returns-in-Check-clause-shown : goal.returns-in-Check-clause-shown
returns-in-Check-clause-shown g c = shown g (goal.at.returns-in-Check-clause-shown g c).After-open_card

pub returns-in-New-clause-shown : goal.returns-in-New-clause-shown
returns-in-New-clause-shown g c = shown g (goal.at.returns-in-New-clause-shown g c).After-open_card

pub returns-in-Term-clause-shown : goal.returns-in-Term-clause-shown
returns-in-Term-clause-shown g c = shown g (goal.at.returns-in-Term-clause-shown g c).After-open_card

selected : (chip : Chip) (db : Database) → IsOpenTo chip db → TermLinesSelectShown (opened db)
selected chip db opens = term-lines-select-shown db opens.2.valid

pub returns-in-Err-clause-selected : goal.returns-in-Err-clause-selected
returns-in-Err-clause-selected g c = λ db asked opens. selected (g.B.Eeprom.chip c.args.bench.now) db opens

pub returns-in-Migrate-clause-selected : goal.returns-in-Migrate-clause-selected
returns-in-Migrate-clause-selected g c = λ db asked opens. selected (g.B.Eeprom.chip c.args.bench.now) db opens

pub returns-in-Check-clause-selected : goal.returns-in-Check-clause-selected
returns-in-Check-clause-selected g c = λ db asked opens. selected (g.B.Eeprom.chip c.args.bench.now) db opens

pub returns-in-Load-clause-selected : goal.returns-in-Load-clause-selected
returns-in-Load-clause-selected g c = λ db asked opens. selected (g.B.Eeprom.chip c.args.bench.now) db opens

pub returns-in-New-clause-selected : goal.returns-in-New-clause-selected
returns-in-New-clause-selected g c = λ db asked opens. selected (g.B.Eeprom.chip c.args.bench.now) db opens

pub returns-in-Term-clause-selected : goal.returns-in-Term-clause-selected
returns-in-Term-clause-selected g c = λ db asked opens. selected (g.B.Eeprom.chip c.args.bench.now) db opens

-- What lies behind the image.

-- what holds of the form that was read holds of the one that the words ask for
asked_behind : (g : given.Over) (c : Opened g) (new : Chip) → KeepsBehind (run_cells c.in-Some.form) (g.B.Eeprom.chip c.args.bench.now) new
    → (form : Form) → form_in (map string_bytes c.args.words.now) ≡ Some form → KeepsBehind (run_cells form) (g.B.Eeprom.chip c.args.bench.now) new
asked_behind g c new behind form asked =
    let same : c.in-Some.form ≡ form = cc (c.in-Some.ensures, asked) in
    subst (λ (f : Form). KeepsBehind (run_cells f) (g.B.Eeprom.chip c.args.bench.now) new) same behind

-- a check and a migration answer no commands

-- The statuses of each form.

-- the form that was read is the one that the words ask for
same_form : (g : given.Over) (c : Opened g) (form : Form) → form_in (map string_bytes c.args.words.now) ≡ Some form → c.in-Some.form ≡ form
same_form g c form asked = cc (c.in-Some.ensures, asked)

-- and so it may end for this form as for that one
may-asked : (g : given.Over) (c : Opened g) (status : Status) → may_end c.in-Some.form status ≡ true → (form : Form) → form_in (map string_bytes c.args.words.now) ≡ Some form → may_end form status ≡ true
may-asked g c status may form asked = subst (λ (f : Form). may_end f status ≡ true) (same_form g c form asked) may

-- Where memory was wanting.

-- What a person was shown.

pub returns-in-Err-clause-watched : goal.returns-in-Err-clause-watched
returns-in-Err-clause-watched g c = λ rows seed asked. shows-unopened g.P.Person.lost g.P.Person.shown rows seed c.in-Err.status _ c.args.person.now (unopened c.in-Err.status c.in-Err.ensures.unopened.unopened)

pub returns-in-Load-clause-watched : goal.returns-in-Load-clause-watched
returns-in-Load-clause-watched g c = λ rows seed asked.
    let run : Opened g = (goal.at.returns-in-Load-clause-watched g c).After-open_card in
    let old : Chip = g.B.Eeprom.chip c.args.bench.now in
    let same : c.in-Some.form ≡ Load rows seed = same_form g run (Load rows seed) asked in
    let same_rows : c.in-Load.rows ≡ rows = cc (c.in-Load.is, same) in
    let same_seed : c.in-Load.seed ≡ seed = cc (c.in-Load.is, same) in
    subst (λ (n : ℕ). ShowsLoad g.P.Person.lost g.P.Person.shown rows n c.run_load.result (IsOpenTo old) c.args.person.now c.run_load.new.person) same_seed
    (subst (λ (n : ℕ). ShowsLoad g.P.Person.lost g.P.Person.shown n c.in-Load.seed c.run_load.result (IsOpenTo old) c.args.person.now c.run_load.new.person) same_rows
    (shows-from g.P.Person.lost g.P.Person.shown c.in-Load.rows c.in-Load.seed c.run_load.result _ (IsOpenTo old) c.args.person.now c.run_load.new.person
    (λ db opens. c.in-Ok.ensures.opened.starts db (of_form g run (Load rows seed) db asked opens)) c.run_load.ensures.shows))

pub returns-in-Load-clause-unwatched : goal.returns-in-Load-clause-unwatched
returns-in-Load-clause-unwatched g c = λ other untold. absurd (other c.in-Load.rows c.in-Load.seed (cc (c.in-Some.ensures, c.in-Load.is)))

pub returns-in-Term-clause-unwatched : goal.returns-in-Term-clause-unwatched
returns-in-Term-clause-unwatched g c = λ other untold. absurd (untold (cc (c.in-Some.ensures, c.in-Term.is)))

pub returns-in-Err-clause-told : goal.returns-in-Err-clause-told
returns-in-Err-clause-told g c = λ asked. told-none g.P.Person.lost g.P.Person.shown c.args.person.now

pub returns-in-Check-clause-told : goal.returns-in-Check-clause-told
returns-in-Check-clause-told g c = λ asked. told-none g.P.Person.lost g.P.Person.shown c.args.person.now

pub returns-in-Migrate-clause-told : goal.returns-in-Migrate-clause-told
returns-in-Migrate-clause-told g c = λ asked. told-none g.P.Person.lost g.P.Person.shown c.args.person.now

pub returns-in-New-clause-told : goal.returns-in-New-clause-told
returns-in-New-clause-told g c = λ asked. told-none g.P.Person.lost g.P.Person.shown c.args.person.now

pub returns-in-Load-clause-told : goal.returns-in-Load-clause-told
returns-in-Load-clause-told g c = λ asked.
    let same : Load c.in-Load.rows c.in-Load.seed ≡ Term = cc (same_form g (goal.at.returns-in-Load-clause-told g c).After-open_card Term asked, c.in-Load.is) in absurd cc

pub returns-in-Check-clause-watched : goal.returns-in-Check-clause-watched
returns-in-Check-clause-watched g c = λ rows seed asked.
    let same : Check ≡ Load rows seed = cc (same_form g (goal.at.returns-in-Check-clause-watched g c).After-open_card (Load rows seed) asked, c.in-Check.is) in absurd cc

pub returns-in-Migrate-clause-watched : goal.returns-in-Migrate-clause-watched
returns-in-Migrate-clause-watched g c = λ rows seed asked.
    let same : Migrate ≡ Load rows seed = cc (same_form g (goal.at.returns-in-Migrate-clause-watched g c).After-open_card (Load rows seed) asked, c.in-Migrate.is) in absurd cc

pub returns-in-Term-clause-watched : goal.returns-in-Term-clause-watched
returns-in-Term-clause-watched g c = λ rows seed asked.
    let same : Term ≡ Load rows seed = cc (same_form g (goal.at.returns-in-Term-clause-watched g c).After-open_card (Load rows seed) asked, c.in-Term.is) in absurd cc

pub returns-in-New-clause-watched : goal.returns-in-New-clause-watched
returns-in-New-clause-watched g c = λ rows seed asked.
    absurd (no-load c.in-Some.form rows seed (same_form g (goal.at.returns-in-New-clause-watched g c).After-open_card (Load rows seed) asked) (commands-read c.in-Some.form c.in-New.is))

-- The run of its form.

pub returns-in-Err-clause-forms : goal.returns-in-Err-clause-forms
returns-in-Err-clause-forms g c = λ form asked.
    let here : Opened g = (goal.at.returns-in-Err-clause-forms g c).After-open_card in
    let same : c.in-Some.form ≡ form = same_form g here form asked in
    let asked_for = λ (other : Form) (is : form ≡ other). asked ∙ ap (λ (f : Form). Some f) is in
    record {
      unread = λ ends.
          (let run : Opened g = (goal.at.returns-in-Err-clause-forms g c).After-open_card in
          record { opening = c.in-Err.ensures.unopened.unopened; source = refl; given = ap (λ (s : Still). s.given) c.open_card.ensures.leaves.until.still; leaves = left g run form asked });
      statuses = (let run : Opened g = (goal.at.returns-in-Err-clause-forms g c).After-open_card in
          may-asked g run c.in-Err.status (opening-may c.in-Some.form c.in-Err.status c.in-Err.ensures.unopened.unopened
          (λ is. let made = c.in-Err.ensures.leaves.too_small.0 (cc is) in subst (λ (f : Form). makes_card f ≡ true) (sym made.1) refl))) form asked;
      no_memory = λ is.
          (let run : Opened g = (goal.at.returns-in-Err-clause-forms g c).After-open_card in
          subst (λ (f : Form). WantsMemory g.B.Eeprom.chip g.B.Eeprom.octets_read f c.args.bench.now c.open_card.new.bench) (same_form g run form asked) (c.in-Err.ensures.unopened.no_memory (cc is)));
      commands = λ reads.
          (let run : Opened g = (goal.at.returns-in-Err-clause-forms g c).After-open_card in
          Lines-unopened g.B.Eeprom.chip g.B.Eeprom.faults command_lines (λ m. false) start form c.in-Err.status c.args.source.now (g.S.Source.left c.args.source.now) (g.S.Source.left c.args.source.now) c.args.bench.now c.open_card.new.bench _ _ c.in-Err.ensures.unopened.unopened
          (λ db begins. c.in-Err.ensures.unopened.stopped db (of_form g run form db asked begins)) (c.in-Err.ensures.ends (g.S.Source.source_faults c.args.source.now)) c.open_card.ensures.leaves.until.still (left g run form asked));
      statements = λ is.
          (let asked = asked_for Term is in
          let run : Opened g = (goal.at.returns-in-Err-clause-forms g c).After-open_card in
          Lines-unopened g.B.Eeprom.chip g.B.Eeprom.faults term_lines was_refused opened Term c.in-Err.status c.args.source.now (g.S.Source.left c.args.source.now) (g.S.Source.left c.args.source.now) c.args.bench.now c.open_card.new.bench _ _ c.in-Err.ensures.unopened.unopened
          (λ db begins. c.in-Err.ensures.unopened.stopped db (of_form g run Term db asked begins)) (c.in-Err.ensures.ends (g.S.Source.source_faults c.args.source.now)) c.open_card.ensures.leaves.until.still (left g run Term asked));
      check = λ is.
          (let asked = asked_for Check is in
          let run : Opened g = (goal.at.returns-in-Err-clause-forms g c).After-open_card in
          Checks-unopened c.in-Err.status c.args.source.now (g.B.Eeprom.chip c.args.bench.now) (g.B.Eeprom.chip c.open_card.new.bench) _ _ c.in-Err.ensures.unopened.unopened
          (λ db opens. c.in-Err.ensures.unopened.stopped db (of_form g run Check db asked opens)) (c.in-Err.ensures.ends (g.S.Source.source_faults c.args.source.now)) (left g run Check asked));
      load = λ rows seed is.
          (let asked = asked_for (Load rows seed) is in
          let run : Opened g = (goal.at.returns-in-Err-clause-forms g c).After-open_card in
          Loads-unopened rows seed c.in-Err.status c.args.source.now (g.B.Eeprom.chip c.args.bench.now) (g.B.Eeprom.chip c.open_card.new.bench) _ _ c.in-Err.ensures.unopened.unopened
          (λ db opens. c.in-Err.ensures.unopened.stopped db (of_form g run (Load rows seed) db asked opens)) (c.in-Err.ensures.ends (g.S.Source.source_faults c.args.source.now)) (left g run (Load rows seed) asked));
      migrate = λ is.
          (let asked = asked_for Migrate is in
          let run : Opened g = (goal.at.returns-in-Err-clause-forms g c).After-open_card in
          Migrates-unopened c.in-Err.status c.args.source.now (g.B.Eeprom.chip c.args.bench.now) (g.B.Eeprom.chip c.open_card.new.bench) _ _ c.in-Err.ensures.unopened.unopened
          (λ db opens. c.in-Err.ensures.unopened.stopped db (found g run db asked opens)) (c.in-Err.ensures.ends (g.S.Source.source_faults c.args.source.now)) (left g run Migrate asked));
      behind = (asked_behind g (goal.at.returns-in-Err-clause-forms g c).After-open_card (g.B.Eeprom.chip c.open_card.new.bench) c.open_card.ensures.leaves.until.behind) form asked;
    }

pub returns-in-Migrate-clause-forms : goal.returns-in-Migrate-clause-forms
returns-in-Migrate-clause-forms g c = λ form asked.
    let here : Opened g = (goal.at.returns-in-Migrate-clause-forms g c).After-open_card in
    let same : c.in-Some.form ≡ form = same_form g here form asked in
    let asked_for = λ (other : Form) (is : form ≡ other). asked ∙ ap (λ (f : Form). Some f) is in
    record {
      unread = λ ends. absurd (not-unread Migrate c.run_migration.result c.run_migration.ensures.ended.status ends);
      statuses = (may-asked g (goal.at.returns-in-Migrate-clause-forms g c).After-open_card c.run_migration.result
          (subst (λ (f : Form). may_end f c.run_migration.result ≡ true) (sym c.in-Migrate.is) (opened-may Migrate c.run_migration.result c.run_migration.ensures.ended.status))) form asked;
      no_memory = λ is.
          (absurd (not-wanting Migrate c.run_migration.result c.run_migration.ensures.ended.status is));
      commands = λ answers.
          (let same : form ≡ c.in-Some.form = cc (c.in-Some.ensures, asked) in
          absurd (no_lines form Migrate (same ∙ c.in-Migrate.is) refl answers));
      statements = λ is. (let other : Migrate ≡ Term = sym c.in-Migrate.is ∙ (same ∙ is) in absurd cc);
      check = λ is. (let other : Migrate ≡ Check = sym c.in-Migrate.is ∙ (same ∙ is) in absurd cc);
      load = λ rows seed is. (let other : Migrate ≡ Load rows seed = sym c.in-Migrate.is ∙ (same ∙ is) in absurd cc);
      migrate = λ is.
          (let asked = asked_for Migrate is in
          let run : Opened g = (goal.at.returns-in-Migrate-clause-forms g c).After-open_card in
          let old : Chip = g.B.Eeprom.chip c.args.bench.now in
          let mid : Chip = g.B.Eeprom.chip c.open_card.new.bench in
          let new : Chip = g.B.Eeprom.chip c.run_migration.new.bench in
          let counted : g.B.Eeprom.faults c.open_card.new.bench ≡ g.B.Eeprom.faults c.args.bench.now = c.in-Ok.ensures.leaves.quiet in
          let sink = outlet_stays g run in
          let was : AllFaults = record { eeprom = g.B.Eeprom.faults c.args.bench.now; source = g.S.Source.source_faults c.args.source.now; outlet = g.B.Outlet.sink_faults c.args.bench.now } in
          let now : AllFaults = record { eeprom = g.B.Eeprom.faults c.run_migration.new.bench; source = g.S.Source.source_faults c.args.source.now; outlet = g.B.Outlet.sink_faults c.run_migration.new.bench } in
          let same = same_faults (g.B.Eeprom.faults c.open_card.new.bench) (g.B.Eeprom.faults c.args.bench.now) (g.S.Source.source_faults c.args.source.now) (g.B.Outlet.sink_faults c.open_card.new.bench) (g.B.Outlet.sink_faults c.args.bench.now) counted sink in
          Migrates-opened c.run_migration.result c.args.source.now old mid new was now (left g run Migrate asked)
          (λ told. let first = c.in-Ok.ensures.opened.begins told in (first.0, subst (λ (f : Form). Begins f old first.0) (migrating g run asked) first.1))
          (λ db opens. open-at c.in-Ok.card mid db c.in-Ok.ensures.opened.ready (c.in-Ok.ensures.opened.starts db (found g run db asked opens)))
          (λ db opens. subst (λ (from : ℕ). MigratesTo c.run_migration.result from (g.B.Eeprom.faults c.run_migration.new.bench) db mid.still.given new) counted (c.run_migration.ensures.migrates db opens))
          c.run_migration.ensures.moments c.run_migration.ensures.already c.run_migration.ensures.others
          (subst (λ (f : AllFaults). EndsBy c.run_migration.result f now) same (c.run_migration.ensures.ended.ends (g.S.Source.source_faults c.args.source.now))));
      behind = (let old : Chip = g.B.Eeprom.chip c.args.bench.now in
          let mid : Chip = g.B.Eeprom.chip c.open_card.new.bench in
          let new : Chip = g.B.Eeprom.chip c.run_migration.new.bench in
          asked_behind g (goal.at.returns-in-Migrate-clause-forms g c).After-open_card new
          (behind-then (run_cells c.in-Some.form) own_cells old mid new (cells-over c.in-Some.form c.in-Ok.card old mid c.in-Ok.ensures.opened.ready c.in-Ok.ensures.opened.cells) c.open_card.ensures.leaves.until.behind c.run_migration.ensures.behind)) form asked;
    }

pub returns-in-Check-clause-forms : goal.returns-in-Check-clause-forms
returns-in-Check-clause-forms g c = λ form asked.
    let here : Opened g = (goal.at.returns-in-Check-clause-forms g c).After-open_card in
    let same : c.in-Some.form ≡ form = same_form g here form asked in
    let asked_for = λ (other : Form) (is : form ≡ other). asked ∙ ap (λ (f : Form). Some f) is in
    record {
      unread = λ ends. absurd (not-unread Check c.run_check.result c.run_check.ensures.ended.status ends);
      statuses = (may-asked g (goal.at.returns-in-Check-clause-forms g c).After-open_card c.run_check.result (subst (λ (f : Form). may_end f c.run_check.result ≡ true) (sym c.in-Check.is) (opened-may Check c.run_check.result c.run_check.ensures.ended.status))) form asked;
      no_memory = λ is.
          (absurd (not-wanting Check c.run_check.result c.run_check.ensures.ended.status is));
      commands = λ answers.
          (let same : form ≡ c.in-Some.form = cc (c.in-Some.ensures, asked) in
          absurd (no_lines form Check (same ∙ c.in-Check.is) refl answers));
      statements = λ is. (let other : Check ≡ Term = sym c.in-Check.is ∙ (same ∙ is) in absurd cc);
      check = λ is.
          (let asked = asked_for Check is in
          let run : Opened g = (goal.at.returns-in-Check-clause-forms g c).After-open_card in
          let old : Chip = g.B.Eeprom.chip c.args.bench.now in
          let mid : Chip = g.B.Eeprom.chip c.open_card.new.bench in
          let new : Chip = g.B.Eeprom.chip c.run_check.new.bench in
          let same : c.in-Some.form ≡ Check = cc (c.in-Some.ensures, asked) in
          Checks-opened c.run_check.result c.args.source.now old mid new _ _ (left g run Check asked)
          (λ told. let first = c.in-Ok.ensures.opened.begins told in (first.0, subst (λ (f : Form). Begins f old first.0) same first.1))
          (λ db opens. subst (λ (from : ℕ). Says c.run_check.result db from (g.B.Eeprom.faults c.run_check.new.bench) mid.still.given new.still.given) c.in-Ok.ensures.leaves.quiet
          (c.run_check.ensures.says (start db) (c.in-Ok.ensures.opened.starts db (of_form g run Check db asked opens))))
          c.run_check.ensures.nothing (ends_check g (goal.at.returns-in-Check-clause-forms g c).After-run_check));
      load = λ rows seed is. (let other : Check ≡ Load rows seed = sym c.in-Check.is ∙ (same ∙ is) in absurd cc);
      migrate = λ is. (let other : Check ≡ Migrate = sym c.in-Check.is ∙ (same ∙ is) in absurd cc);
      behind = (let new : Chip = g.B.Eeprom.chip c.run_check.new.bench in
          asked_behind g (goal.at.returns-in-Check-clause-forms g c).After-open_card new
          (behind-then (run_cells c.in-Some.form) (λ was. c.in-Ok.card.store.chains.cells) (g.B.Eeprom.chip c.args.bench.now) (g.B.Eeprom.chip c.open_card.new.bench) new c.in-Ok.ensures.opened.cells c.open_card.ensures.leaves.until.behind
          (c.run_check.ensures.behind (λ was. c.in-Ok.card.store.chains.cells)))) form asked;
    }

pub returns-in-Load-clause-forms : goal.returns-in-Load-clause-forms
returns-in-Load-clause-forms g c = λ form asked.
    let here : Opened g = (goal.at.returns-in-Load-clause-forms g c).After-open_card in
    let same : c.in-Some.form ≡ form = same_form g here form asked in
    let asked_for = λ (other : Form) (is : form ≡ other). asked ∙ ap (λ (f : Form). Some f) is in
    record {
      unread = λ ends. absurd (not-unread (Load c.in-Load.rows c.in-Load.seed) c.run_load.result c.run_load.ensures.ended.status ends);
      statuses = (may-asked g (goal.at.returns-in-Load-clause-forms g c).After-open_card c.run_load.result
          (subst (λ (f : Form). may_end f c.run_load.result ≡ true) (sym c.in-Load.is) (opened-may (Load c.in-Load.rows c.in-Load.seed) c.run_load.result c.run_load.ensures.ended.status))) form asked;
      no_memory = λ is.
          (absurd (not-wanting (Load c.in-Load.rows c.in-Load.seed) c.run_load.result c.run_load.ensures.ended.status is));
      commands = λ answers.
          (let same : form ≡ c.in-Some.form = cc (c.in-Some.ensures, asked) in
          absurd (no_lines form (Load c.in-Load.rows c.in-Load.seed) (same ∙ c.in-Load.is) refl answers));
      statements = λ is. (let other : Load c.in-Load.rows c.in-Load.seed ≡ Term = sym c.in-Load.is ∙ (same ∙ is) in absurd cc);
      check = λ is. (let other : Load c.in-Load.rows c.in-Load.seed ≡ Check = sym c.in-Load.is ∙ (same ∙ is) in absurd cc);
      load = λ rows seed is.
          (let asked = asked_for (Load rows seed) is in
          let run : Opened g = (goal.at.returns-in-Load-clause-forms g c).After-open_card in
          let old : Chip = g.B.Eeprom.chip c.args.bench.now in
          let mid : Chip = g.B.Eeprom.chip c.open_card.new.bench in
          let new : Chip = g.B.Eeprom.chip c.run_load.new.bench in
          let same : c.in-Some.form ≡ Load rows seed = cc (c.in-Some.ensures, asked) in
          let same_rows : c.in-Load.rows ≡ rows = cc (c.in-Load.is, same) in
          let same_seed : c.in-Load.seed ≡ seed = cc (c.in-Load.is, same) in
          let at = λ (db : Database) (opens : IsOpenTo old db). c.in-Ok.ensures.opened.starts db (of_form g run (Load rows seed) db asked opens) in
          Loads-opened rows seed c.run_load.result c.args.source.now old mid new _ _ (left g run (Load rows seed) asked)
          (λ told. let first = c.in-Ok.ensures.opened.begins told in (first.0, subst (λ (f : Form). Begins f old first.0) same first.1))
          (λ db opens. open-at c.in-Ok.card mid db c.in-Ok.ensures.opened.ready (at db opens))
          (λ db opens. subst (λ (from : ℕ). LoadsTo rows seed c.run_load.result (terminal_at (start db) 0) from (g.B.Eeprom.faults c.run_load.new.bench) mid new) c.in-Ok.ensures.leaves.quiet
          (subst (λ (n : ℕ). LoadsTo rows n c.run_load.result (terminal_at (start db) 0) (g.B.Eeprom.faults c.open_card.new.bench) (g.B.Eeprom.faults c.run_load.new.bench) mid new) same_seed
          (subst (λ (n : ℕ). LoadsTo n c.in-Load.seed c.run_load.result (terminal_at (start db) 0) (g.B.Eeprom.faults c.open_card.new.bench) (g.B.Eeprom.faults c.run_load.new.bench) mid new) same_rows (c.run_load.ensures.loads db (at db opens)))))
          (ends_load g (goal.at.returns-in-Load-clause-forms g c).After-run_load));
      migrate = λ is. (let other : Load c.in-Load.rows c.in-Load.seed ≡ Migrate = sym c.in-Load.is ∙ (same ∙ is) in absurd cc);
      behind = (let new : Chip = g.B.Eeprom.chip c.run_load.new.bench in
          asked_behind g (goal.at.returns-in-Load-clause-forms g c).After-open_card new
          (behind-then (run_cells c.in-Some.form) (λ was. c.in-Ok.card.store.chains.cells) (g.B.Eeprom.chip c.args.bench.now) (g.B.Eeprom.chip c.open_card.new.bench) new c.in-Ok.ensures.opened.cells c.open_card.ensures.leaves.until.behind c.run_load.ensures.behind)) form asked;
    }

pub returns-in-Term-clause-forms : goal.returns-in-Term-clause-forms
returns-in-Term-clause-forms g c = λ form asked.
    let here : Opened g = (goal.at.returns-in-Term-clause-forms g c).After-open_card in
    let same : c.in-Some.form ≡ form = same_form g here form asked in
    let asked_for = λ (other : Form) (is : form ≡ other). asked ∙ ap (λ (f : Form). Some f) is in
    record {
      unread = λ ends. absurd (lines-not-unread c.answer_statements.result c.answer_statements.ensures.run.status ends);
      statuses = (may-asked g (goal.at.returns-in-Term-clause-forms g c).After-open_card c.answer_statements.result
          (subst (λ (f : Form). may_end f c.answer_statements.result ≡ true) (sym c.in-Term.is) (lines-may Term c.answer_statements.result refl c.answer_statements.ensures.run.status (λ is. refl)))) form asked;
      no_memory = λ is.
          (absurd (lines-not-wanting c.answer_statements.result c.answer_statements.ensures.run.status is));
      commands = λ answers.
          (let same : form ≡ c.in-Some.form = cc (c.in-Some.ensures, asked) in
          absurd (no_lines form Term (same ∙ c.in-Term.is) refl answers));
      statements = λ is.
          (let asked = asked_for Term is in
          let run : Stated g = (goal.at.returns-in-Term-clause-forms g c).After-answer_statements in
          let card : Opened g = (goal.at.returns-in-Term-clause-forms g c).After-open_card in
          let old : Chip = g.B.Eeprom.chip c.args.bench.now in
          let mid : Chip = g.B.Eeprom.chip c.open_card.new.bench in
          let same : c.in-Some.form ≡ Term = cc (c.in-Some.ensures, asked) in
          Lines-opened g.B.Eeprom.chip g.B.Eeprom.faults term_lines was_refused opened Term c.answer_statements.result c.args.source.now c.answer_statements.new.source (g.S.Source.left c.args.source.now) (g.S.Source.left c.answer_statements.new.source) c.args.bench.now c.open_card.new.bench c.answer_statements.new.bench _ _
          c.answer_statements.ensures.run.status
          (λ told. let first = c.in-Ok.ensures.opened.begins told in (first.0, subst (λ (f : Form). Begins f old first.0) same first.1))
          c.open_card.ensures.leaves.until.still c.in-Ok.ensures.leaves.quiet (left g card Term asked)
          (λ db begins. open-told mid db (open-at c.in-Ok.card mid db c.in-Ok.ensures.opened.ready (begins_at g run db asked begins)))
          c.answer_statements.ensures.run.whole c.answer_statements.ensures.run.too_long (ends_statements g run)
          (λ db begins. c.answer_statements.ensures.run.refusals db (begins_at g run db asked begins))
          (λ db begins. c.answer_statements.ensures.run.runs db (begins_at g run db asked begins)));
      check = λ is. (let other : Term ≡ Check = sym c.in-Term.is ∙ (same ∙ is) in absurd cc);
      load = λ rows seed is. (let other : Term ≡ Load rows seed = sym c.in-Term.is ∙ (same ∙ is) in absurd cc);
      migrate = λ is. (let other : Term ≡ Migrate = sym c.in-Term.is ∙ (same ∙ is) in absurd cc);
      behind = (let new : Chip = g.B.Eeprom.chip c.answer_statements.new.bench in
          asked_behind g (goal.at.returns-in-Term-clause-forms g c).After-open_card new
          (behind-then (run_cells c.in-Some.form) (λ was. c.in-Ok.card.store.chains.cells) (g.B.Eeprom.chip c.args.bench.now) (g.B.Eeprom.chip c.open_card.new.bench) new c.in-Ok.ensures.opened.cells c.open_card.ensures.leaves.until.behind c.answer_statements.ensures.run.behind)) form asked;
    }

pub returns-in-New-clause-forms : goal.returns-in-New-clause-forms
returns-in-New-clause-forms g c = λ form asked.
    let here : Opened g = (goal.at.returns-in-New-clause-forms g c).After-open_card in
    let same : c.in-Some.form ≡ form = same_form g here form asked in
    let asked_for = λ (other : Form) (is : form ≡ other). asked ∙ ap (λ (f : Form). Some f) is in
    let answering : answers_commands c.in-Some.form ≡ true = commands-answered c.in-Some.form c.in-New.is in
    record {
      unread = λ ends. absurd (lines-not-unread c.answer_commands.result c.answer_commands.ensures.run.status ends);
      statuses = (may-asked g (goal.at.returns-in-New-clause-forms g c).After-open_card c.answer_commands.result
          (lines-may c.in-Some.form c.answer_commands.result (commands-read c.in-Some.form c.in-New.is) c.answer_commands.ensures.run.status (λ is. absurd (c.answer_commands.ensures.never_refused is)))) form asked;
      no_memory = λ is.
          (absurd (lines-not-wanting c.answer_commands.result c.answer_commands.ensures.run.status is));
      commands = λ reads.
          (let run : Ended g = (goal.at.returns-in-New-clause-forms g c).After-answer_commands in
          let opened : Opened g = (goal.at.returns-in-New-clause-forms g c).After-open_card in
          let old : Chip = g.B.Eeprom.chip c.args.bench.now in
          let mid : Chip = g.B.Eeprom.chip c.open_card.new.bench in
          let same : c.in-Some.form ≡ form = cc (c.in-Some.ensures, asked) in
          Lines-opened g.B.Eeprom.chip g.B.Eeprom.faults command_lines (λ m. false) start form c.answer_commands.result c.args.source.now c.answer_commands.new.source (g.S.Source.left c.args.source.now) (g.S.Source.left c.answer_commands.new.source) c.args.bench.now c.open_card.new.bench c.answer_commands.new.bench _ _
          c.answer_commands.ensures.run.status
          (λ told. let first = c.in-Ok.ensures.opened.begins told in (first.0, subst (λ (f : Form). Begins f old first.0) same first.1))
          c.open_card.ensures.leaves.until.still c.in-Ok.ensures.leaves.quiet (left g opened form asked)
          (λ db begins. open-told mid db (open-at c.in-Ok.card mid db c.in-Ok.ensures.opened.ready (starts g run form db asked begins)))
          c.answer_commands.ensures.run.whole c.answer_commands.ensures.run.too_long (ends_commands g run)
          (λ db begins. c.answer_commands.ensures.run.refusals (start db) (starts g run form db asked begins))
          (λ db begins. c.answer_commands.ensures.run.runs (start db) (starts g run form db asked begins)));
      statements = λ is. absurd (no_lines c.in-Some.form Term (same ∙ is) refl answering);
      check = λ is. absurd (no-read c.in-Some.form Check (same ∙ is) refl (commands-read c.in-Some.form c.in-New.is));
      load = λ rows seed is. absurd (no-read c.in-Some.form (Load rows seed) (same ∙ is) refl (commands-read c.in-Some.form c.in-New.is));
      migrate = λ is. absurd (no-read c.in-Some.form Migrate (same ∙ is) refl (commands-read c.in-Some.form c.in-New.is));
      behind = (let new : Chip = g.B.Eeprom.chip c.answer_commands.new.bench in
          asked_behind g (goal.at.returns-in-New-clause-forms g c).After-open_card new
          (behind-then (run_cells c.in-Some.form) (λ was. c.in-Ok.card.store.chains.cells) (g.B.Eeprom.chip c.args.bench.now) (g.B.Eeprom.chip c.open_card.new.bench) new c.in-Ok.ensures.opened.cells c.open_card.ensures.leaves.until.behind c.answer_commands.ensures.run.behind)) form asked;
    }
