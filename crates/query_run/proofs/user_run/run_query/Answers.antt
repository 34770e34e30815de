-- A run on the card that was opened is one over its bench; an image that opens to a database is a card's, so that it isn't opened for a fault or want of memory alone.
use Rattle.std.proofs.Common.{◌≡◌, ℕ, List, Option, Err, ap, refl, rules, sym, subst, inl}
use Rattle.std.specs.Prelude.{IfSome}
use Rattle.eeprom.specs.Chip.{Still}
use Rattle.scql_model.specs.Database.{Database}
use Rattle.scql_model.specs.Machine.{start}
use Rattle.scql_model.specs.Opens.{Opens}
use Rattle.card.specs.Making.{OpensToNone}
use Rattle.card.specs.LiveCardLaws.{still-kept}
use Rattle.query_run.specs.RespondingLaws.{counts-none}
use Rattle.query_run.specs.Running.{RunLeaves}
use Rattle.query_run.specs.Statuses.{program_status}
use Rattle.query_run.specs.UserRuns.{IsWithout, ReadsAll, RunsUser}
use Rattle.query_run.specs.declared.status.QueryStatus.{QueryStatus}
use Rattle.guide.proofs.Told.{told-none}
use Rattle.query_run.proofs.UserRan.{ends-from, keeps-open, unopened-ends, unopened-few, unopened-short, user-opened, without-of}
use Rattle.query_run.proofs.user_run.run_query.Goals as goal

-- Nothing was given or counted as the card was opened.

pub returns-in-Ok-clause-runs : goal.returns-in-Ok-clause-runs
returns-in-Ok-clause-runs g c = λ db is.
    let still : (g.B.Eeprom.chip c.new-desk.result.bench).still ≡ (g.B.Eeprom.chip c.args.bench.now).still = rw (c.new-desk.ensures) c.open.ensures.recovers.store.keeps.still in
    let quiet : g.B.Eeprom.faults c.new-desk.result.bench ≡ g.B.Eeprom.faults c.args.bench.now = rw (c.new-desk.ensures) (c.in-Ok.ensures.quiet (λ is. absurd cc)) in
    subst (λ (bench : g.row.B.Denot). RunsUser g.B.Eeprom.chip g.B.Eeprom.faults g.S.Source.left db c.args.user (program_status c.answer_for-status.result.0) c.args.source.now c.answer_for-status.new.source c.args.bench.now bench)
    (search (rules, c.answer_for-status.ensures.goes_on.name))
    (user-opened (λ l. l.bench) g.B.Eeprom.chip g.B.Eeprom.faults g.S.Source.left db c.args.user (program_status c.answer_for-status.result.0) c.args.source.now c.answer_for-status.new.source c.args.bench.now c.new-desk.result c.answer_for-status.result.1 is
    still quiet (rw (c.new-desk.ensures) c.open.ensures.recovers.store)
    (c.answer_for-status.ensures.runs (start db) (rw (c.new-desk.ensures) (record { ready = c.in-Ok.ensures.ready; at = (c.in-Ok.ensures.opened db is).starts }))))

pub returns-in-Err-clause-runs : goal.returns-in-Err-clause-runs
returns-in-Err-clause-runs g c = λ db is. record {
  runs = inl (
    subst (λ (status : QueryStatus). IsWithout (program_status status)) (sym c.status_of.ensures)
        (without-of c.in-Err.refusal (λ no. subst (λ (o : Option (List ℕ)). IfSome o OpensToNone) is.1 (c.in-Err.ensures.not_a_card (ap Err no)) db is.2)),
    record { unread = refl; silent = ap (λ (still : Still). still.given) c.open.ensures.recovers.store.keeps.still; keeps = c.open.ensures.recovers.store },
  );
  prints = λ whole. absurd (unopened-short c.in-Err.refusal (rw c.status_of.ensures at whole));
  stays = λ given left. keeps-open is.0 db (g.B.Eeprom.chip c.args.bench.now) (g.B.Eeprom.chip c.open.new.bench) is.1 is.2 c.open.ensures.recovers.store;
}

pub returns-in-Ok-clause-whole : goal.returns-in-Ok-clause-whole
returns-in-Ok-clause-whole g c = λ whole.
    let still : (g.B.Eeprom.chip c.new-desk.result.bench).still ≡ (g.B.Eeprom.chip c.args.bench.now).still = rw (c.new-desk.ensures) c.open.ensures.recovers.store.keeps.still in
    subst (λ (bench : g.row.B.Denot). ReadsAll (program_status c.answer_for-status.result.0) c.args.source.now c.answer_for-status.new.source (g.S.Source.left c.args.source.now) (g.S.Source.left c.answer_for-status.new.source)
    (g.B.Eeprom.chip c.args.bench.now).still.given (g.B.Eeprom.chip bench).still.given)
    (search (rules, c.answer_for-status.ensures.goes_on.name))
    (subst (λ (before : Option (List ℕ)). ReadsAll (program_status c.answer_for-status.result.0) c.args.source.now c.answer_for-status.new.source (g.S.Source.left c.args.source.now) (g.S.Source.left c.answer_for-status.new.source) before
    (g.B.Eeprom.chip c.answer_for-status.result.1.bench).still.given) (ap (λ (still : Still). still.given) still) (c.answer_for-status.ensures.whole whole))

pub returns-in-Ok-clause-leaves : goal.returns-in-Ok-clause-leaves
returns-in-Ok-clause-leaves g c =
    let still : (g.B.Eeprom.chip c.new-desk.result.bench).still ≡ (g.B.Eeprom.chip c.args.bench.now).still = rw (c.new-desk.ensures) c.open.ensures.recovers.store.keeps.still in
    let quiet : g.B.Eeprom.faults c.new-desk.result.bench ≡ g.B.Eeprom.faults c.args.bench.now = rw (c.new-desk.ensures) (c.in-Ok.ensures.quiet (λ is. absurd cc)) in
    let leaves = c.answer_for-status.ensures.leaves in
    subst (λ (bench : g.row.B.Denot). RunLeaves g.B.Eeprom.faults g.B.Outlet.sink_faults g.S.Source.source_faults g.S.Source.left g.P.Person.lost g.P.Person.shown g.N.Person.lost g.N.Person.shown c.answer_for-status.result.0 c.args.source.now
    c.answer_for-status.new.source c.args.bench.now bench c.args.person c.answer_for-status.result.2 c.args.notices c.answer_for-status.result.3)
    (search (rules, c.answer_for-status.ensures.goes_on.name))
    (record {
      too_long = leaves.too_long;
      ends = ends-from (program_status c.answer_for-status.result.0) _ _ _ _ _ _ quiet
          (still-kept (g.B.Eeprom.chip c.args.bench.now).still (g.B.Eeprom.chip c.new-desk.result.bench).still still (g.met.B.Bench.output c.args.bench.now) (g.met.B.Bench.output c.new-desk.result.bench)).1 leaves.ends;
      shows = leaves.shows;
      told = leaves.told;
    })

pub returns-in-Err-clause-leaves : goal.returns-in-Err-clause-leaves
returns-in-Err-clause-leaves g c =
    rw c.status_of.ensures
    (record {
      too_long = λ is. absurd (unopened-few c.in-Err.refusal is);
      ends = unopened-ends c.in-Err.refusal _ _ _ _ _ (λ is. c.in-Err.ensures.fault (ap Err is)) (λ no. c.in-Err.ensures.quiet (λ is. no cc))
          (still-kept (g.B.Eeprom.chip c.args.bench.now).still (g.B.Eeprom.chip c.open.new.bench).still c.open.ensures.recovers.store.keeps.still (g.met.B.Bench.output c.args.bench.now) (g.met.B.Bench.output c.open.new.bench)).1;
      shows = counts-none g.P.Person.lost g.P.Person.shown c.args.person;
      told = told-none g.N.Person.lost g.N.Person.shown c.args.notices;
    })

-- what was opened is a card's image
pub returns-in-Ok-clause-no_card : goal.returns-in-Ok-clause-no_card
returns-in-Ok-clause-no_card g c = λ image told none.
    let found = subst (λ (o : Option (List ℕ)). IfSome o (λ image. (db : Database) × Opens image db)) told c.in-Ok.ensures.opens in
    absurd (none found.0 found.1)
