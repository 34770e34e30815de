use Rattle.std.proofs.Common.{◌≡◌, ◌+◌, length, ap, ◌∙◌, rules, arith, length-append, ◌*◌}
use Rattle.std.proofs.lemmas.Result.{on_ok_weaker}
use Rattle.eeprom.specs.Chip.{LeavesOf}
use Rattle.eeprom.specs.StoreOf.{front_size, journal_place}
use Rattle.journal.specs.Run.{SameOutside, end_of, place_of}
use Rattle.journal.proofs.Begun.{begun-more, journal-written, outside-leaves, outside-wider}
use Rattle.journal.proofs.Running.{octets-more}
use Rattle.journal.proofs.writing.write_journal.Goals.{After-go_to}
use Rattle.journal.proofs.writing.write_journal.Goals as goal

moments : (g : _) (c : After-go_to g) → LeavesOf (SameOutside (journal_place c.args.bench.now.cells) (front_size c.args.bench.now.cells)) (g.B.Eeprom.chip c.args.bench.now.bench.now) (g.B.Eeprom.chip c.go_to.new.bench)
moments g c =
    outside-leaves (journal_place c.args.bench.now.cells) (front_size c.args.bench.now.cells) (g.B.Eeprom.chip c.args.bench.now.bench.now) (g.B.Eeprom.chip c.loop-entry.bench.bench.now) (g.B.Eeprom.chip c.go_to.new.bench) c.loop-entry.invariant.still c.loop-entry.invariant.moments
    (outside-wider (place_of c.loop-entry.run) (end_of c.loop-entry.run) (journal_place c.args.bench.now.cells) (front_size c.args.bench.now.cells) (g.B.Eeprom.chip c.loop-entry.bench.bench.now) (g.B.Eeprom.chip c.go_to.new.bench)
    (omega (arith, c.loop-entry.invariant.behind)) (omega (arith, c.loop-entry.invariant.next, c.loop-entry.invariant.place, c.loop-entry-test.true, c.requires.entries.few)) c.go_to.ensures.rewrites.moments)

pub returns-in_err-go_to : goal.returns-in_err-go_to
returns-in_err-go_to g c = record {
  done = search rules;
  told = search rules;
  still = c.go_to.ensures.rewrites.still ∙ c.loop-entry.invariant.still;
  moments = moments g (goal.at.returns-in_err-go_to g c).After-go_to;
  octets_written = search rules;
  octets_read = search rules;
  cause = search rules;
  stays = search rules;
}

pub loop-entry-preserved : goal.loop-entry-preserved
loop-entry-preserved g c =
    let i = c.loop-entry.entry-index in
    let mid = c.go_to.new.self in
    let slot = c.push-in-loop-entry.ensures.pushed in
    let first = c.push-in-loop-entry-2.ensures.pushed in
    let middle : length c.push-in-loop-entry.new.self.octets ≡ length mid.octets + 2 = ap (λ xs. length xs) slot ∙ length-append mid.octets _ in
    let end : length c.push-in-loop-entry-2.new.self.octets ≡ length c.push-in-loop-entry.new.self.octets + 2 = ap (λ xs. length xs) first ∙ length-append c.push-in-loop-entry.new.self.octets _ in
    let pushed : length c.push-in-loop-entry-2.new.self.octets ≡ length mid.octets + 4 = omega arith in
    let place = c.loop-entry.invariant.place in
    let next = c.in_ok-go_to.ensures.next in
    let index = c.push-in-loop-entry-2.ensures.index ∙ c.push-in-loop-entry.ensures.index in
    record {
      behind = search rules;
      next = omega (arith, next, pushed, index);
      place = omega arith;
      bound = omega arith;
      written = begun-more c.args.bench.now.cells (length c.args.entries.now) i c.loop-entry.index _ c.args.entries.now c.loop-entry.run mid c.push-in-loop-entry.new.self c.push-in-loop-entry-2.new.self
          (g.B.Eeprom.chip c.args.bench.now.bench.now).image (g.B.Eeprom.chip c.loop-entry.bench.bench.now).image (g.B.Eeprom.chip c.go_to.new.bench).image c.loop-entry-test.true place
          c.loop-entry.invariant.written c.in_ok-go_to.ensures.rewrites.done next slot c.push-in-loop-entry.ensures.index first c.push-in-loop-entry-2.ensures.index;
      told = c.in_ok-go_to.ensures.rewrites.told ∙ c.loop-entry.invariant.told;
      still = c.go_to.ensures.rewrites.still ∙ c.loop-entry.invariant.still;
      moments = moments g (goal.at.loop-entry-preserved g c).After-go_to;
      octets = octets-more (g.B.Eeprom.chip c.args.bench.now.bench.now).written (g.B.Eeprom.chip c.loop-entry.bench.bench.now).written (g.B.Eeprom.chip c.go_to.new.bench).written _ _ _ 4 (2 + 4 * i) (2 + 4 * (i + 1))
          pushed (omega arith) c.loop-entry.invariant.octets c.in_ok-go_to.ensures.rewrites.octets_written;
      read = c.go_to.ensures.rewrites.octets_read ∙ c.loop-entry.invariant.read;
      faults = c.in_ok-go_to.ensures.rewrites.cause.1 ∙ c.loop-entry.invariant.faults;
      stays = search rules;
    }

pub returns : goal.returns
returns g c = record {
  done = on_ok_weaker c.write.result (λ last.
      journal-written c.args.bench.now.cells c.loop-entry.entry-index c.args.entries.now c.loop-entry.run (g.B.Eeprom.chip c.args.bench.now.bench.now) (g.B.Eeprom.chip c.loop-entry.bench.bench.now) (g.B.Eeprom.chip c.write.new.bench)
      c.args.bench.now.fits.room (g.met.B.Eeprom.sized c.args.bench.now.bench.now) c.requires.entries.few c.requires.entries.range c.loop-entry-test.false c.loop-entry.invariant.written last) c.write.ensures.done;
  told = search rules;
  still = c.write.ensures.still ∙ c.loop-entry.invariant.still;
  moments =
      outside-leaves (journal_place c.args.bench.now.cells) (front_size c.args.bench.now.cells) (g.B.Eeprom.chip c.args.bench.now.bench.now) (g.B.Eeprom.chip c.loop-entry.bench.bench.now) (g.B.Eeprom.chip c.write.new.bench) c.loop-entry.invariant.still c.loop-entry.invariant.moments
      (outside-wider (place_of c.loop-entry.run) (end_of c.loop-entry.run) (journal_place c.args.bench.now.cells) (front_size c.args.bench.now.cells) (g.B.Eeprom.chip c.loop-entry.bench.bench.now) (g.B.Eeprom.chip c.write.new.bench)
      (omega (arith, c.loop-entry.invariant.behind)) (omega (arith, c.loop-entry.invariant.next, c.loop-entry.invariant.place, c.requires.entries.few, c.loop-entry.invariant.bound)) c.write.ensures.moments);
  octets_written = search rules;
  octets_read = search rules;
  cause = search rules;
  stays = search rules;
}
