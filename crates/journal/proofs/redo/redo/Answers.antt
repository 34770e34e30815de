use Rattle.std.proofs.Common.{◌∷◌, [], refl, rules}
use Rattle.std.proofs.lemmas.Result.{on_ok_weaker}
use Rattle.journal.proofs.Finishing.{redo-first, redo-moments, redo-replays}
use Rattle.journal.proofs.redo.redo.Goals as goal

pub returns-in_err-write_entries : goal.returns-in_err-write_entries
returns-in_err-write_entries g c = record {
  done = search rules;
  told = search rules;
  still = search rules;
  moments = redo-first c.args.bench.now.cells c.args.entries.now (g.B.Eeprom.chip c.args.bench.now.bench.now) (g.B.Eeprom.chip c.write_entries.new.bench.bench.now) c.requires.over c.write_entries.ensures.moments;
  octets_written = search rules;
  octets_read = search rules;
  cause = search rules;
  stays = search rules;
}

pub returns : goal.returns
returns g c = record {
  done = on_ok_weaker c.write.result (λ last.
      redo-replays c.args.bench.now.cells c.args.entries.now (g.B.Eeprom.chip c.args.bench.now.bench.now) (g.B.Eeprom.chip c.write_entries.new.bench.bench.now) (g.B.Eeprom.chip c.write.new.self) (0 ∷ []) refl c.args.bench.now.fits.room
      (g.met.B.Eeprom.sized c.args.bench.now.bench.now) c.requires.over c.write_entries.ensures.moments c.in_ok-write_entries.ensures.done last)
      c.write.ensures.written;
  told = search rules;
  still = search rules;
  moments =
      redo-moments c.args.bench.now.cells c.args.entries.now (g.B.Eeprom.chip c.args.bench.now.bench.now) (g.B.Eeprom.chip c.write_entries.new.bench.bench.now) (g.B.Eeprom.chip c.write.new.self) (0 ∷ []) refl c.args.bench.now.fits.room
      (g.met.B.Eeprom.sized c.args.bench.now.bench.now) c.requires.over c.write_entries.ensures.still c.write_entries.ensures.moments c.in_ok-write_entries.ensures.done (g.met.B.Eeprom.clocked c.write_entries.new.bench.bench.now)
      c.write.ensures.writes;
  octets_written = search rules;
  octets_read = search rules;
  cause = search rules;
  stays = search rules;
}
