-- The card that was opened is at the start of the database with which its run begins.
use Rattle.std.proofs.Common.{inl, inr, refl, rules}
use Rattle.card.specs.Behind.{own_cells}
use Rattle.card_run.specs.Behind.{run_cells}
use Rattle.card_run.specs.Opening.{LeavesOpening}
use Rattle.card_run.proofs.Finishing.{open_to, not_to_none, lacks_none, until_open}
use Rattle.card.specs.GivenMoments.{behind-then}
use Rattle.card_run.proofs.Behind.{cells-opened}
use Rattle.card_run.proofs.opening.open_card.Goals as goal
use Rattle.card_run.proofs.opening.open_card.Goals.{After-open as Opened}

-- what is left behind the opening
until : (g : _) (c : Opened g) → LeavesOpening c.args.form (g.B.Eeprom.chip c.args.bench.now) (g.B.Eeprom.chip c.open.new.bench)
until g c =
    let old = g.B.Eeprom.chip c.args.bench.now in
    let mid = g.B.Eeprom.chip c.prepare.new.bench in
    let new = g.B.Eeprom.chip c.open.new.bench in
    record {
      leaves = until_open c.args.form c.args.form old mid new refl c.open.ensures.recovers.store c.prepare.ensures.leaves.until.leaves;
      behind = behind-then (run_cells c.args.form) own_cells old mid new c.in-Ok.ensures.prepared.cells c.prepare.ensures.leaves.until.behind c.open.ensures.behind;
      still = search rules;
    }

pub returns-in-Err-NoMemory-clause-leaves : goal.returns-in-Err-NoMemory-clause-leaves
returns-in-Err-NoMemory-clause-leaves g c = record { until = until g (goal.at.returns-in-Err-NoMemory-clause-leaves g c).After-open; too_small = search rules; unchanged = search rules; quiet = search rules }

pub returns-in-Err-NotACard-clause-leaves : goal.returns-in-Err-NotACard-clause-leaves
returns-in-Err-NotACard-clause-leaves g c = record { until = until g (goal.at.returns-in-Err-NotACard-clause-leaves g c).After-open; too_small = search rules; unchanged = search rules; quiet = search rules }

pub returns-in-Err-Fault-open-clause-leaves : goal.returns-in-Err-Fault-open-clause-leaves
returns-in-Err-Fault-open-clause-leaves g c = record { until = until g (goal.at.returns-in-Err-Fault-open-clause-leaves g c).After-open; too_small = search rules; unchanged = search rules; quiet = search rules }

pub returns-in-Ok-open-clause-leaves : goal.returns-in-Ok-open-clause-leaves
returns-in-Ok-open-clause-leaves g c = record { until = until g (goal.at.returns-in-Ok-open-clause-leaves g c).After-open; too_small = search rules; unchanged = search rules; quiet = search rules }

-- It was opened.

pub returns-in-Ok-open-clause-opened : goal.returns-in-Ok-open-clause-opened
returns-in-Ok-open-clause-opened g c =
    let old = g.B.Eeprom.chip c.args.bench.now in
    let mid = g.B.Eeprom.chip c.prepare.new.bench in
    let there = c.in-Ok.ensures.prepared in
    record {
      starts = λ db begins. (c.in-Ok-open.ensures.opened db (there.begins db begins)).starts;
      ready = c.in-Ok-open.ensures.ready;
      begins = λ told. (let found = open_to mid (there.told told) c.in-Ok-open.ensures.opens in there.began found.0 found.1);
      found = λ lacks. lacks_none c.args.form old mid lacks c.prepare.ensures.leaves.until.leaves there.told c.in-Ok-open.ensures.opens;
      room = search rules;
      cells = cells-opened c.args.form c.in-Ok-open.card old mid (g.B.Eeprom.chip c.open.new.bench) c.in-Ok-open.ensures.ready c.open.ensures.recovers.store there.cells;
    }

-- It wasn't.

-- before a record was read there was no memory
pub returns-in-Err-NoMemory-clause-unopened : goal.returns-in-Err-NoMemory-clause-unopened
returns-in-Err-NoMemory-clause-unopened g c = record {
  unopened = refl;
  stopped = λ db begins. inl refl;
  without = λ lacks. inr (inl refl);
  not_a_card = λ is. absurd cc;
  no_memory = λ is. (let front = c.in-Err-NoMemory.ensures.no_memory (cc) in record { there = c.prepare.new.bench; is_there = c.in-Ok.ensures.prepared.there; cells = front.0; front = front.1 });
}

pub returns-in-Err-NotACard-clause-unopened : goal.returns-in-Err-NotACard-clause-unopened
returns-in-Err-NotACard-clause-unopened g c = record {
  unopened = refl;
  stopped = λ db begins. absurd (not_to_none (g.B.Eeprom.chip c.prepare.new.bench) db (c.in-Ok.ensures.prepared.begins db begins) (c.in-Err-NotACard.ensures.not_a_card (cc)));
  without = λ lacks. inl refl;
  not_a_card = λ is told. c.in-Ok.ensures.prepared.lacks told (c.in-Err-NotACard.ensures.not_a_card (cc));
  no_memory = λ is. absurd cc;
}

pub returns-in-Err-Fault-open-clause-unopened : goal.returns-in-Err-Fault-open-clause-unopened
returns-in-Err-Fault-open-clause-unopened g c = record { unopened = refl; stopped = λ db begins. inr refl; without = λ lacks. inr (inr refl); not_a_card = λ is. absurd cc; no_memory = λ is. absurd cc }
