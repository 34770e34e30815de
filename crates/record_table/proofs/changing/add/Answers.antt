-- The slot that is filled was empty.
use Rattle.std.proofs.Common.{◌≡◌, ◌∙◌}
use Rattle.record_table.proofs.Rewriting.{added-told, over-added}
use Rattle.record_table.proofs.changing.add.Goals as goal

pub returns : goal.returns
returns g c =
    let spelled : c.as_slice.result.now ≡ g.R.Record.kind.form.spell c.args.value.now = c.as_slice.ensures.value ∙ c.encode.ensures in
    record {
      put = added-told g.R.Record.kind c.args.value.now c.args.store.now c.put.new.self c.as_slice.result.now (g.B.Eeprom.chip c.args.bench.now).image (g.B.Eeprom.chip c.put.new.bench).image c.put.result
          spelled c.put.ensures.empty c.put.ensures.put;
      there = c.put.ensures.there;
      within = rw spelled at c.put.ensures.within;
      full = rw spelled at c.put.ensures.full;
      unchanged = c.put.ensures.unchanged;
      over = over-added c.args.store.now c.put.new.self c.as_slice.result.now (g.B.Eeprom.chip c.args.bench.now) (g.B.Eeprom.chip c.put.new.bench) c.put.result c.requires.open.over c.put.ensures.cells c.put.ensures.moments.still c.put.ensures.put;
      told = c.put.ensures.told;
      begun = c.put.ensures.begun;
      cells = c.put.ensures.cells;
      rows = c.put.ensures.rows;
      only = c.put.ensures.only;
      entries = c.put.ensures.entries;
      octets_written = rw spelled at c.put.ensures.octets_written;
      moments = c.put.ensures.moments;
      behind = c.put.ensures.behind;
      cause = c.put.ensures.cause;
    }
