-- An empty slot has no chain; another one has a chain exactly where it can be claimed.
use Rattle.record_store.proofs.OpeningSlots.{slot-empty, result-taken, result-count}
use Rattle.record_store.proofs.opening.claim_slot.Goals as goal

pub returns-then-first-eq-NO_CELL-clause-takes : goal.returns-then-first-eq-NO_CELL-clause-takes
returns-then-first-eq-NO_CELL-clause-takes g c = slot-empty c.args.chains.now c.args.first c.clear.new.self.items (g.B.Eeprom.chip c.args.bench.now).image c.if-first-eq-NO_CELL.true c.clear.ensures

pub returns-clause-takes : goal.returns-clause-takes
returns-clause-takes g c =
    result-taken c.claim_record.result c.args.chains.now c.claim_record.new.self c.args.first c.claim_record.new.out.items (g.B.Eeprom.chip c.args.bench.now).image c.claim_record.ensures.claims.takes c.claim_record.ensures.claims.«record» c.claim_record.ensures.reads
    c.claim_record.ensures.some

pub returns-clause-count : goal.returns-clause-count
returns-clause-count g c = result-count c.claim_record.result c.claim_record.new.out.items c.claim_record.ensures.count c.claim_record.ensures.some
