-- The run over the input is that of the terminal with its card, behind a greeting: the card's counts are taken from memory, and the bench stays.
use Rattle.std.proofs.Common.{rules, ℕ, Bool, List, Option, false, sym, subst, ◌∙◌}
use Rattle.eeprom.specs.Chip.{Becomes}
use Rattle.scql_model.specs.Database.{Database}
use Rattle.scql_model.specs.Machine.{Machine, start}
use Rattle.person.specs.Showing.{ShowsSome}
use Rattle.card.specs.Behind.{KeepsBehind}
use Rattle.card.specs.Card.{IsAt}
use Rattle.card.specs.LiveCard.{IsReadyAt, OnBench}
use Rattle.program.specs.declared.status.Status.{Status}
use Rattle.program.specs.Ends.{RunsTo}
use Rattle.card_run.specs.Run.{TellsRefusals}
use Rattle.card_run.specs.Statements.{Sitting, SitsSo, opened, term_lines, was_refused}
use Rattle.guide.proofs.Told.{told-then}
use Rattle.program.proofs.Ended.{at-longer, runs-through}
use Rattle.card_run.proofs.Finishing.{tells-refused}
use Rattle.card_run.proofs.Sittings.{sits-opened}
use Rattle.card_run.proofs.statements.answer_statements.Goals.{After-of_input-status as Ran}
use Rattle.card_run.proofs.statements.answer_statements.Goals as goal

-- the terminal's card is at a machine
abbrev at_machine : (g : _) → Ran g → OnBench g.row.B.Denot → Machine → Type 0
at_machine g c l m = IsReadyAt l.card (g.B.Eeprom.chip l.bench) m

-- a terminal with its card that was just opened
begins : (g : _) (c : Ran g) (db : Database) → IsAt c.args.card (g.B.Eeprom.chip c.greet.new.bench) (start db) → SitsSo (at_machine g c) c.new-terminal.result c.new-card.result false (opened db)
begins g c db at = sits-opened (at_machine g c) c.new-terminal.result c.new-card.result db c.new-terminal.ensures (rw (c.new-card.ensures) (record { ready = rw c.greet.ensures.same c.requires; at = at }))

pub returns-clause-run : goal.returns-clause-run
returns-clause-run g c =
    let run : Ran g = (goal.at.returns-clause-run g c).After-of_input-status in
    let left = g.S.Source.left c.args.source.now in
    let left_now = g.S.Source.left c.run_lines-end.new.source in
    let last = c.run_lines-end.result.1 in
    rw (← c.greet.ensures.same) (record {
      runs = λ db at.
          subst (λ (bench : g.row.B.Denot). Becomes (λ (input left : List ℕ). RunsTo g.B.Eeprom.chip g.B.Eeprom.faults term_lines (opened db) c.of_input-status.result input left c.greet.new.bench bench) left left_now)
          (search (rules, c.run_lines-end.ensures.goes_on.0.name))
          (rw (c.new-card.ensures) at
          (runs-through _ last (λ statements. statements.card.bench) g.B.Eeprom.chip g.B.Eeprom.faults term_lines (opened db) c.run_lines-end.result.0 last.refused c.of_input-status.result
          left left_now c.of_input-status.ensures (c.run_lines-end.ensures.runs (opened db) (begins g run db at))));
      status = search rules;
      whole = search rules;
      too_long = λ is. at-longer c.run_lines-end.result.0 last.refused left left_now c.run_lines-end.ensures.too_long (sym c.of_input-status.ensures ∙ is);
      refusals = λ db at.
          subst (λ (status : Status). TellsRefusals term_lines was_refused (opened db) status left left_now) (sym c.of_input-status.ensures)
          (tells-refused term_lines (opened db) was_refused c.run_lines-end.result.0 last.refused (λ (s : Sitting). SitsSo (at_machine g run) last.terminal.now last.card last.refused s) left left_now (λ s sits. sits.tells)
          (c.run_lines-end.ensures.at (opened db) (begins g run db at)));
      ends = search rules;
      behind =
          subst (λ (bench : g.row.B.Denot). KeepsBehind (λ was. c.args.card.store.chains.cells) (g.B.Eeprom.chip c.greet.new.bench) (g.B.Eeprom.chip bench)) (search (rules, c.run_lines-end.ensures.goes_on.0.name))
          (rw (c.new-card.ensures) at c.run_lines-end.ensures.goes_on.0.lasts.behind);
    })

-- a text behind another
behind : {P : Type 0} (lost : P → Bool) (shown : P → Option (List ℕ)) (a b c : P) → ShowsSome lost shown b c → ShowsSome lost shown a b → ShowsSome lost shown a c
behind lost shown a b c second first = told-then lost shown a b c first second

pub returns-clause-told : goal.returns-clause-told
returns-clause-told g c =
    behind g.P.Person.lost g.P.Person.shown _ _ _ c.tell.ensures
    (subst (λ (person : g.row.P.Denot). ShowsSome g.P.Person.lost g.P.Person.shown c.args.person.now person) (search (rules, c.run_lines-end.ensures.goes_on.2))
    (told-then g.P.Person.lost g.P.Person.shown _ _ _ c.greet.ensures.told c.run_lines-end.ensures.goes_on.1))
