use Rattle.std.proofs.Common.{◌≡◌, ℕ, false, List, ap, subst, sym, ◌∙◌, IfSome, is_some, rules}
use Rattle.eeprom.specs.Chip.{Chip, Becomes, LeavesOf}
use Rattle.eeprom.specs.StoreOf.{is_in_range}
use Rattle.eeprom.specs.declared.entry.Entry.{Entry}
use Rattle.journal.specs.Journal.{IsReplayed, KeepsDirectory}
use Rattle.journal.specs.Redo.{HasJournal, IsOpenWith}
use Rattle.journal.proofs.Replaying.{bad-directory, gate-read, open-read}
use Rattle.journal.proofs.journal.Journal.replay.Goals.{After-read_journal}
use Rattle.journal.proofs.journal.Journal.replay.Goals as goal

-- what was only read is as it was
same : (g : _) (c : After-read_journal g) → g.B.Eeprom.chip c.read_journal.new.bench.bench.now ≡ g.B.Eeprom.chip c.args.bench.now.bench.now
same g c = c.read_journal.ensures.reads.frame.same ∙ c.is_open.ensures.reads.frame.same

pub returns-in_err-read_journal : goal.returns-in_err-read_journal
returns-in_err-read_journal g c = record {
  done = search rules;
  told = search rules;
  still = search rules;
  moments = search rules;
  bad_journal = λ is. (
    same g (goal.at.returns-in_err-read_journal g c).After-read_journal,
    bad-directory c.args.bench.now.cells (g.B.Eeprom.chip c.args.bench.now.bench.now).image (gate-read (g.B.Eeprom.chip c.args.bench.now.bench.now).image c.in_ok-is_open.field-0 c.if-not-branch.false c.in_ok-is_open.ensures.gate)
        (subst (λ (chip : Chip). IfSome chip.image (λ image. is_in_range image c.args.bench.now.cells ≡ false)) c.is_open.ensures.reads.frame.same (c.in_err-read_journal.ensures.bad_journal (search rules))),
  );
  closed_gate = search rules;
  octets_read = search rules;
  octets_written = search rules;
  cause = search rules;
  stays = search rules;
}

pub redo-requires : goal.redo-requires
redo-requires g c = record {
  entries = search rules;
  over =
      subst (λ (n : ℕ). IfSome (g.B.Eeprom.chip c.read_journal.new.bench.bench.now).image (IsOpenWith n c.as_slice.result.now)) (sym c.read_journal.ensures.reads.stays.cells)
      (subst (λ (chip : Chip). IfSome chip.image (IsOpenWith c.args.bench.now.cells c.as_slice.result.now)) (sym (same g (goal.at.redo-requires g c).After-read_journal))
      (subst (λ (entries : List Entry). IfSome (g.B.Eeprom.chip c.args.bench.now.bench.now).image (IsOpenWith c.args.bench.now.cells entries)) (sym c.as_slice.ensures.value)
      (open-read c.args.bench.now.cells c.read_journal.new.entries.items (g.B.Eeprom.chip c.args.bench.now.bench.now).image
      (gate-read (g.B.Eeprom.chip c.args.bench.now.bench.now).image c.in_ok-is_open.field-0 c.if-not-branch.false c.in_ok-is_open.ensures.gate)
      (subst (λ (chip : Chip). IfSome chip.image (HasJournal c.args.bench.now.cells c.read_journal.new.entries.items)) c.is_open.ensures.reads.frame.same c.in_ok-read_journal.ensures.journal))));
}

pub returns : goal.returns
returns g c =
    let same = same g (goal.at.returns g c).After-read_journal in
    let cells = c.read_journal.ensures.reads.stays.cells in
    record {
      done =
          subst (λ (chip : Chip). Becomes (IsReplayed c.args.bench.now.cells) chip.image (g.B.Eeprom.chip c.redo.new.bench.bench.now).image) same
          (subst (λ (n : ℕ). Becomes (IsReplayed n) (g.B.Eeprom.chip c.read_journal.new.bench.bench.now).image (g.B.Eeprom.chip c.redo.new.bench.bench.now).image) cells c.in_ok-redo.ensures.done);
      told = subst (λ (chip : Chip). is_some (g.B.Eeprom.chip c.redo.new.bench.bench.now).image ≡ is_some chip.image) same c.in_ok-redo.ensures.told;
      still = c.redo.ensures.still ∙ ap (λ (chip : Chip). chip.still) same;
      moments =
          subst (λ (chip : Chip). LeavesOf (KeepsDirectory c.args.bench.now.cells) chip (g.B.Eeprom.chip c.redo.new.bench.bench.now)) same
          (subst (λ (n : ℕ). LeavesOf (KeepsDirectory n) (g.B.Eeprom.chip c.read_journal.new.bench.bench.now) (g.B.Eeprom.chip c.redo.new.bench.bench.now)) cells c.redo.ensures.moments);
      bad_journal = search rules;
      closed_gate = search rules;
      octets_read = search rules;
      octets_written = search rules;
      cause = search rules;
      stays = search rules;
    }
