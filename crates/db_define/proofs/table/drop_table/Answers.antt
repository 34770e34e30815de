-- The table goes with the grants on it, and then its rows, which the index follows.
use Rattle.std.proofs.Common.{rules, refl, sym, ap, ◌∙◌}
use Rattle.row_index.specs.Index.{Index}
use Rattle.record_table.proofs.MadeLeft.{of-told}
use Rattle.row_table.specs.Tables.{Stand}
use Rattle.row_table.proofs.Endings.{EndedBy-in_memory}
use Rattle.db_define.specs.Dropped.{IsToDrop}
use Rattle.db_define.specs.declared.dropped.Dropped.TheVariants.{Table}
use Rattle.db_define.proofs.ObjectLeft.{Indexes-granted}
use Rattle.db_define.proofs.TableLeft.{Makes-table_dropped, dropping_edits}
use Rattle.db_define.proofs.table.drop_table.Goals as goal

pub returns : goal.returns
returns g c =
    let old = c.args.tables.now in
    let mid = c.remove_with_grants.new.self in
    let new = c.remove_rows.new.self in
    let chip = g.B.Eeprom.chip c.args.bench.now in
    let table = c.in_ok-table.table in
    let found = c.in_ok-table.ensures in
    let gone = c.in_ok-remove_with_grants.ensures.sweeps in
    let same = c.in_ok-remove_with_grants.ensures.index_same in
    let rows = c.remove_rows.ensures in
    let left = rw (gone.frame.same, found.frame.same) at gone.removed in
    let committed = rw (gone.frame.same, found.frame.same) at gone.committed in
    let stand : Stand mid chip = record {
      over = rw (gone.frame.same, found.frame.same) at gone.over;
      index = rw same (Indexes-granted old.index Table c.args.actor c.args.name table old.store mid.store chip c.requires.open.stand.over.stands c.requires.open.stand.index found.found left gone.cells committed);
      together = rw same (c.requires.open.stand.together ∙ sym gone.begun);
    } in
    let goes_on = rows.goes_on chip stand in
    EndedBy-in_memory (gone.frame.same ∙ found.frame.same) (search rules) (λ db held any.
    let there = of-told old.store chip held.slots (IsToDrop Table old.store chip c.args.actor c.args.name table) held.told found.found in (
      dropping_edits db there.object,
      sym (there.drops db held),
      Makes-table_dropped db c.args.actor c.args.name table old.store mid.store new.store chip held there left (rows.removed chip stand) (goes_on.cells ∙ gone.cells) (goes_on.rows ∙ gone.rows) (rows.committed chip stand ∙ committed)
          (rw found.frame.same at gone.entries) (rows.entries chip stand) (rw found.frame.same at gone.only) (rows.only chip stand),
    ))
    (record { begun = goes_on.begun ∙ gone.begun; cells = goes_on.cells ∙ gone.cells; rows = goes_on.rows ∙ gone.rows; told = refl; over = goes_on.over })
    (rows.committed chip stand ∙ committed)
    (record {
      index = λ db held any. rows.index chip stand;
      cells = rows.changes.cells ∙ ap (λ (index : Index). index.cells) same;
      committed = rows.changes.committed ∙ ap (λ (index : Index). index.committed) same;
      begun = rows.changes.begun ∙ sym (c.requires.open.stand.together ∙ c.requires.open.begun);
    })
