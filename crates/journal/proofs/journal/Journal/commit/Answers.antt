use Rattle.std.proofs.Common.{ℕ, ◌∷◌, [], refl, ◌∙◌, rules, subst, sym, OnOk, IfSome}
use Rattle.std.proofs.lemmas.Result.{on_ok_weaker}
use Rattle.eeprom.specs.Chip.{Becomes, LeavesOf}
use Rattle.journal.specs.Journal.{IsBetweenDirectories, IsReplayed, KeepsDirectory}
use Rattle.journal.specs.Redo.{IsOpenWith}
use Rattle.journal.proofs.Committing.{IsJournaled, IsOpened}
use Rattle.journal.proofs.Finishing.{journaled-leaves, commit-first, commit-second, commit-third, commit-replayed, opened-there, opened-over}
use Rattle.journal.proofs.journal.Journal.commit.Goals.{After-write_journal, After-write, In_ok-write}
use Rattle.journal.proofs.journal.Journal.commit.Goals as goal

journaled : (g : _) (c : After-write_journal g) → LeavesOf (IsJournaled c.args.bench.now.cells) (g.B.Eeprom.chip c.args.bench.now.bench.now) (g.B.Eeprom.chip c.write_journal.new.bench.bench.now)
journaled g c = journaled-leaves c.args.bench.now.cells (g.B.Eeprom.chip c.args.bench.now.bench.now) (g.B.Eeprom.chip c.write_journal.new.bench.bench.now) c.requires.closed c.write_journal.ensures.moments

pub returns-in_err-write_journal : goal.returns-in_err-write_journal
returns-in_err-write_journal g c = record {
  done = search rules;
  told = search rules;
  still = search rules;
  moments =
      commit-first c.args.bench.now.cells c.args.entries.now (g.B.Eeprom.chip c.args.bench.now.bench.now) (g.B.Eeprom.chip c.write_journal.new.bench.bench.now)
      (journaled g (goal.at.returns-in_err-write_journal g c).After-write_journal);
  octets_written = search rules;
  octets_read = search rules;
  cause = search rules;
  stays = search rules;
}

opening : (g : _) (c : After-write g) → LeavesOf (IsBetweenDirectories c.args.bench.now.cells c.args.entries.now) (g.B.Eeprom.chip c.args.bench.now.bench.now) (g.B.Eeprom.chip c.write.new.self)
opening g c =
    let j = c.in_ok-write_journal.ensures in
    commit-second c.args.bench.now.cells c.args.entries.now (g.B.Eeprom.chip c.args.bench.now.bench.now) (g.B.Eeprom.chip c.write_journal.new.bench.bench.now) (g.B.Eeprom.chip c.write.new.self) (1 ∷ []) refl j.still c.args.bench.now.fits.room
    (g.met.B.Eeprom.sized c.args.bench.now.bench.now) (journaled g (goal.at.After-write g c).After-write_journal) j.done (g.met.B.Eeprom.clocked c.write_journal.new.bench.bench.now) c.write.ensures.writes

pub returns-in_err-write : goal.returns-in_err-write
returns-in_err-write g c = record {
  done = search rules;
  told = search rules;
  still = search rules;
  moments = opening g (goal.at.returns-in_err-write g c).After-write;
  octets_written = search rules;
  octets_read = search rules;
  cause = search rules;
  stays = search rules;
}

there : (g : _) (c : In_ok-write g) → Becomes (IsOpened c.args.bench.now.cells c.args.entries.now) (g.B.Eeprom.chip c.args.bench.now.bench.now).image (g.B.Eeprom.chip c.write.new.self).image
there g c =
    let j = c.in_ok-write_journal.ensures in
    opened-there c.args.bench.now.cells c.args.entries.now (g.B.Eeprom.chip c.args.bench.now.bench.now) (g.B.Eeprom.chip c.write_journal.new.bench.bench.now) (g.B.Eeprom.chip c.write.new.self) (1 ∷ []) refl c.args.bench.now.fits.room
    (g.met.B.Eeprom.sized c.args.bench.now.bench.now) (journaled g (goal.at.In_ok-write g c).After-write_journal) j.done c.in_ok-write.ensures.written

pub redo-requires : goal.redo-requires
redo-requires g c = record {
  entries = search rules;
  over =
      subst (λ (n : ℕ). IfSome (g.B.Eeprom.chip c.write.new.self).image (IsOpenWith n c.args.entries.now)) (sym c.write_journal.ensures.stays.cells)
      (opened-over c.args.bench.now.cells c.args.entries.now (g.B.Eeprom.chip c.args.bench.now.bench.now).image (g.B.Eeprom.chip c.write.new.self).image (there g (goal.at.redo-requires g c).In_ok-write));
}

pub returns : goal.returns
returns g c = record {
  done = on_ok_weaker c.redo.result (λ done.
      commit-replayed c.args.bench.now.cells c.args.entries.now (g.B.Eeprom.chip c.args.bench.now.bench.now).image (g.B.Eeprom.chip c.write.new.self).image (g.B.Eeprom.chip c.redo.new.bench.bench.now).image
      (there g (goal.at.returns g c).In_ok-write) done)
      (subst (λ (n : ℕ). OnOk c.redo.result (Becomes (IsReplayed n) (g.B.Eeprom.chip c.write.new.self).image (g.B.Eeprom.chip c.redo.new.bench.bench.now).image)) c.write_journal.ensures.stays.cells c.redo.ensures.done);
  told = search rules;
  still = search rules;
  moments =
      commit-third c.args.bench.now.cells c.args.entries.now (g.B.Eeprom.chip c.args.bench.now.bench.now) (g.B.Eeprom.chip c.write.new.self) (g.B.Eeprom.chip c.redo.new.bench.bench.now) (c.write.ensures.writes.still ∙ c.write_journal.ensures.still)
      (there g (goal.at.returns g c).In_ok-write) (opening g (goal.at.returns g c).After-write)
      (subst (λ (n : ℕ). LeavesOf (KeepsDirectory n) (g.B.Eeprom.chip c.write.new.self) (g.B.Eeprom.chip c.redo.new.bench.bench.now)) c.write_journal.ensures.stays.cells c.redo.ensures.moments);
  octets_written = search rules;
  octets_read = search rules;
  cause = search rules;
  stays = search rules;
}
