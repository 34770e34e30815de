use Rattle.std.proofs.Common.{◌≡◌, ◌+◌, ◌*◌, ◌++◌, length, ◌∙◌, rules, subst}
use Rattle.std.specs.Prelude.{IfSome}
use Rattle.eeprom.specs.Chip.{Chip}
use Rattle.eeprom.specs.StoreOf.{entries_at, journal_place}
use Rattle.journal.proofs.Pushed.{read-on}
use Rattle.journal.proofs.reading.read_entries.Goals as goal

pub loop-left-preserved : goal.loop-left-preserved
loop-left-preserved g c =
    let entries = c.loop-left.entries.items in
    let more = c.read_more.new.entries.items in
    let few = c.min-few.result in
    let count : length more ≡ length entries + few = c.in_ok-read_more.ensures.count in
    record {
      count = search rules;
      entries = read-on (g.B.Eeprom.chip c.args.bench.now.bench.now).image (journal_place c.args.bench.now.cells + 2) few entries more c.loop-left.invariant.entries
          (subst (λ (chip : Chip). IfSome chip.image (λ image. more ≡ entries ++ entries_at image (journal_place c.args.bench.now.cells + 2 + 4 * length entries) few)) c.loop-left.invariant.same (rw (c.loop-left.invariant.stays.cells) at c.in_ok-read_more.ensures.entries))
          count;
      same = c.read_more.ensures.reads.frame.same ∙ c.loop-left.invariant.same;
      read = search rules;
      faults = search rules;
      stays = search rules;
    }
