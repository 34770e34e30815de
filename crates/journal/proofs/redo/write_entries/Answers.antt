use Rattle.std.proofs.Common.{◌≡◌, ◌+◌, ◌*◌, length, ap, ◌∙◌, rules, arith, length-append}
use Rattle.std.proofs.lemmas.Result.{on_ok_weaker}
use Rattle.eeprom.specs.Chip.{LeavesOf}
use Rattle.journal.specs.Redo.{IsRewritten}
use Rattle.journal.proofs.Running.{entry-within, entry-named, octets-more, rewritten-leaves, rewritten-leaves-run, room-still, run-done, run-pushed, written-more}
use Rattle.journal.proofs.redo.write_entries.Goals.{After-go_to}
use Rattle.journal.proofs.redo.write_entries.Goals as goal

moments : (g : _) (c : After-go_to g) → LeavesOf (IsRewritten c.args.bench.now.cells c.args.entries.now) (g.B.Eeprom.chip c.args.bench.now.bench.now) (g.B.Eeprom.chip c.go_to.new.bench)
moments g c =
    rewritten-leaves c.args.bench.now.cells c.args.entries.now (g.B.Eeprom.chip c.args.bench.now.bench.now) (g.B.Eeprom.chip c.loop-entry.bench.bench.now) (g.B.Eeprom.chip c.go_to.new.bench) c.loop-entry.invariant.still c.loop-entry.invariant.moments
    (rewritten-leaves-run c.args.bench.now.cells c.args.entries.now c.loop-entry.run (g.B.Eeprom.chip c.loop-entry.bench.bench.now) (g.B.Eeprom.chip c.go_to.new.bench) c.loop-entry.invariant.run
    c.go_to.ensures.rewrites.moments)

pub returns-in_err-go_to : goal.returns-in_err-go_to
returns-in_err-go_to g c = record {
  done = search rules;
  told = search rules;
  still = c.go_to.ensures.rewrites.still ∙ c.loop-entry.invariant.still;
  moments = moments g (goal.at.returns-in_err-go_to g c).After-go_to;
  octets_written = search rules;
  octets_read = search rules;
  cause = search rules;
  stays = search rules;
}

pub loop-entry-preserved : goal.loop-entry-preserved
loop-entry-preserved g c =
    let n = c.args.bench.now.cells in
    let entries = c.args.entries.now in
    let i = c.loop-entry.entry-index in
    let inside = c.loop-entry-test.true in
    let pushed : length c.push.new.self.octets ≡ length c.go_to.new.self.octets + 2 = ap (λ xs. length xs) c.push.ensures.pushed ∙ length-append c.go_to.new.self.octets _ in
    let within = entry-within n entries i _ inside c.requires.entries.range in
    let named = entry-named entries i _ inside in
    let run = c.in_ok-go_to.ensures.run n entries (omega (arith, within)) c.loop-entry.invariant.run in
    let next = c.in_ok-go_to.ensures.next in
    let still : (g.B.Eeprom.chip c.go_to.new.bench).still ≡ (g.B.Eeprom.chip c.args.bench.now.bench.now).still = c.go_to.ensures.rewrites.still ∙ c.loop-entry.invariant.still in
    record {
      run = run-pushed n entries c.go_to.new.self c.push.new.self _ _ run next within named c.push.ensures.pushed c.push.ensures.index;
      written = written-more n entries i _ c.loop-entry.run c.go_to.new.self c.push.new.self (g.B.Eeprom.chip c.args.bench.now.bench.now) (g.B.Eeprom.chip c.loop-entry.bench.bench.now) (g.B.Eeprom.chip c.go_to.new.bench)
          inside c.requires.entries.range (g.met.B.Eeprom.sized c.go_to.new.bench) (room-still n (g.B.Eeprom.chip c.args.bench.now.bench.now) (g.B.Eeprom.chip c.go_to.new.bench) still c.args.bench.now.fits.room)
          run next c.push.ensures.pushed c.push.ensures.index c.loop-entry.invariant.written c.in_ok-go_to.ensures.rewrites.done;
      told = c.in_ok-go_to.ensures.rewrites.told ∙ c.loop-entry.invariant.told;
      still = still;
      moments = moments g (goal.at.loop-entry-preserved g c).After-go_to;
      octets = octets-more (g.B.Eeprom.chip c.args.bench.now.bench.now).written (g.B.Eeprom.chip c.loop-entry.bench.bench.now).written (g.B.Eeprom.chip c.go_to.new.bench).written _ _ _ 2 (2 * i) (2 * (i + 1))
          pushed (omega arith) c.loop-entry.invariant.octets c.in_ok-go_to.ensures.rewrites.octets_written;
      read = c.go_to.ensures.rewrites.octets_read ∙ c.loop-entry.invariant.read;
      faults = c.in_ok-go_to.ensures.rewrites.cause.1 ∙ c.loop-entry.invariant.faults;
      stays = search rules;
    }

pub returns : goal.returns
returns g c = record {
  done = on_ok_weaker c.write.result (λ last. run-done c.args.bench.now.cells c.loop-entry.entry-index c.args.entries.now c.loop-entry.run (g.B.Eeprom.chip c.args.bench.now.bench.now).image (g.B.Eeprom.chip c.loop-entry.bench.bench.now).image (g.B.Eeprom.chip c.write.new.bench).image c.loop-entry-test.false c.loop-entry.invariant.written last) c.write.ensures.done;
  told = search rules;
  still = c.write.ensures.still ∙ c.loop-entry.invariant.still;
  moments =
      rewritten-leaves c.args.bench.now.cells c.args.entries.now (g.B.Eeprom.chip c.args.bench.now.bench.now) (g.B.Eeprom.chip c.loop-entry.bench.bench.now) (g.B.Eeprom.chip c.write.new.bench) c.loop-entry.invariant.still c.loop-entry.invariant.moments
      (rewritten-leaves-run c.args.bench.now.cells c.args.entries.now c.loop-entry.run (g.B.Eeprom.chip c.loop-entry.bench.bench.now) (g.B.Eeprom.chip c.write.new.bench) c.loop-entry.invariant.run
      c.write.ensures.moments);
  octets_written = search rules;
  octets_read = search rules;
  cause = search rules;
  stays = search rules;
}
