use Rattle.std.proofs.Common.{rules}
use Rattle.eeprom.specs.Chip.{Keeps}
use Rattle.eeprom.specs.StoreOf.{store_of}
use Rattle.record_store.proofs.Keeping.{rest-replayed}
use Rattle.record_store.proofs.Replaying.{replay-keeps, replay-header, open-told}
use Rattle.record_store.proofs.opening.close_gate.Goals.{After-replay}
use Rattle.record_store.proofs.opening.close_gate.Goals as goal

keeps : (g : _) (c : After-replay g) → Keeps store_of (g.B.Eeprom.chip c.args.bench.now) (g.B.Eeprom.chip c.replay.new.bench.bench.now)
keeps g c = replay-keeps c.args.header (g.B.Eeprom.chip c.args.bench.now) (g.B.Eeprom.chip c.replay.new.bench.bench.now) c.requires.range.many c.requires.header c.replay.ensures.still c.replay.ensures.moments

pub returns-in_err-replay : goal.returns-in_err-replay
returns-in_err-replay g c =
    let keeps = keeps g (goal.at.returns-in_err-replay g c).After-replay in
    let rest = rest-replayed c.args.header (g.B.Eeprom.chip c.args.bench.now) (g.B.Eeprom.chip c.replay.new.bench.bench.now) c.requires.header c.replay.ensures.moments in
    let closed = open-told c.args.header (g.B.Eeprom.chip c.args.bench.now).image c.if-header.true c.requires.header _ in
    record {
      header = search rules;
      told = search rules;
      octets_read = search rules;
      most_read = search rules;
      not_a_card = search rules;
      frame = record {
        store = record {
          keeps = search rules;
          rest = search rules;
          closed = closed;
        };
        counts = search rules;
      };
    }

pub returns-in_ok-replay : goal.returns-in_ok-replay
returns-in_ok-replay g c =
    let keeps = keeps g (goal.at.returns-in_ok-replay g c).After-replay in
    let rest = rest-replayed c.args.header (g.B.Eeprom.chip c.args.bench.now) (g.B.Eeprom.chip c.replay.new.bench.bench.now) c.requires.header c.replay.ensures.moments in
    let closed = open-told c.args.header (g.B.Eeprom.chip c.args.bench.now).image c.if-header.true c.requires.header _ in
    record {
      header =
          let header = replay-header c.args.header (g.B.Eeprom.chip c.args.bench.now).image (g.B.Eeprom.chip c.replay.new.bench.bench.now).image c.requires.header c.in_ok-replay.ensures.done in
          search rules;
      told = search rules;
      octets_read = search rules;
      most_read = search rules;
      not_a_card = search rules;
      frame = record {
        store = record {
          keeps = search rules;
          rest = search rules;
          closed = closed;
        };
        counts = search rules;
      };
    }
