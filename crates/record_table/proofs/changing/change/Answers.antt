-- The slot that is filled is the one that was named.
use Rattle.std.proofs.Common.{rules, ◌≡◌, ◌∙◌}
use Rattle.record_table.proofs.Rewriting.{changed-told, over-told, stands-put}
use Rattle.record_table.proofs.changing.change.Goals as goal

pub returns : goal.returns
returns g c =
    let spelled : c.as_slice.result.now ≡ g.R.Record.kind.form.spell c.args.value.now = c.as_slice.ensures.value ∙ c.encode.ensures in
    let named : c.in_ok-put.field-0 ≡ c.args.slot = c.in_ok-put.ensures.named in
    record {
      put = changed-told g.R.Record.kind c.args.value.now c.args.store.now c.put.new.self c.args.slot _ c.as_slice.result.now (g.B.Eeprom.chip c.args.bench.now).image (g.B.Eeprom.chip c.put.new.bench).image
          spelled named c.in_ok-put.ensures.put;
      there = c.requires.slot;
      within = rw (named, spelled) at c.in_ok-put.ensures.within;
      full = search rules;
      unchanged = search rules;
      over = over-told c.args.store.now c.put.new.self (g.B.Eeprom.chip c.args.bench.now) (g.B.Eeprom.chip c.put.new.bench) c.requires.open.over c.in_ok-put.ensures.cells c.put.ensures.moments.still
          (stands-put c.args.store.now c.put.new.self c.in_ok-put.field-0 c.as_slice.result.now (g.B.Eeprom.chip c.args.bench.now).image (g.B.Eeprom.chip c.put.new.bench).image c.in_ok-put.ensures.put);
      told = c.in_ok-put.ensures.told;
      begun = c.in_ok-put.ensures.begun;
      cells = c.in_ok-put.ensures.cells;
      rows = c.in_ok-put.ensures.rows;
      only = rw named at c.in_ok-put.ensures.only;
      entries = c.in_ok-put.ensures.entries;
      octets_written = rw spelled at c.in_ok-put.ensures.octets_written;
      moments = c.put.ensures.moments;
      behind = c.put.ensures.behind;
      cause = search rules;
    }
