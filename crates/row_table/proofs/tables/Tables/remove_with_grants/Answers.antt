-- The record's slot is emptied, and then those of the grants.
use Rattle.std.proofs.Common.{rules, None, ◌∙◌}
use Rattle.std.proofs.Math.ListN.{set}
use Rattle.catalog_codec.specs.Catalog.{grant_kind}
use Rattle.record_table.specs.Swept.{all_without}
use Rattle.record_table.proofs.MadeLeft.{told-then}
use Rattle.record_table.proofs.SweptSlots.{emptied-told}
use Rattle.row_table.proofs.GrantsLeft.{entries-with_grants, only-with_grants}
use Rattle.row_table.proofs.RowsChanged.{committed-emptied}
use Rattle.row_table.proofs.tables.Tables.remove_with_grants.Goals as goal

pub returns-clause-sweeps : goal.returns-clause-sweeps
returns-clause-sweeps g c =
    let old = c.args.self.now.store in
    let first = c.remove.new.store in
    let new = c.remove_each.new.store in
    let chip = g.B.Eeprom.chip c.args.bench.now in
    let slot = c.args.slot in
    let p = g.W.Wanted.wants c.args.grants.now in
    let one = c.remove.ensures in
    let each = c.in_ok-remove_each.ensures in
    let emptied = emptied-told old first chip slot c.requires.open.over.stands one.removed in
    record {
      removed = told-then old first new chip (g.B.Eeprom.chip c.remove_each.new.bench) (λ slots. set slots slot None) (all_without grant_kind p) emptied each.removed;
      committed = each.committed ∙ committed-emptied old first chip slot c.requires.open.over.stands one.removed;
      over = each.over;
      begun = each.begun ∙ one.begun;
      cells = each.cells ∙ one.cells;
      rows = each.rows ∙ one.rows;
      only = only-with_grants p old first new chip slot emptied one.only each.only;
      entries = entries-with_grants p old first new chip slot emptied one.entries each.entries;
      frame = search rules;
    }
