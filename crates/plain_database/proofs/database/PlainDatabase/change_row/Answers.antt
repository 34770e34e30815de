-- The row that is changed is the one of its stamp. Where there is none, all stays.
use Rattle.std.proofs.Common.{◌≡◌, ◌∷◌, [], Ok, Some, ap, refl, subst, sym, arith}
use Rattle.std.specs.List.{find}
use Rattle.std.specs.Vec.{with_item}
use Rattle.eeprom.specs.Slots.{has}
use Rattle.scql_base.specs.declared.records.RowRecord.{RowRecord}
use Rattle.scql_model.specs.Database.{Database, IsValid}
use Rattle.scql_model.specs.Edits.{changing, of_row, with_edits}
use Rattle.scql_model.proofs.RecordsOf.{weight-valid}
use Rattle.plain_database.proofs.ChangedRecords.{row-absent, row-changed, row-least, row-refused}
use Rattle.plain_database.proofs.ReplacedRecords.{replaced-None, replaced-Some}
use Rattle.plain_database.proofs.RisingStamps.{find-place}
use Rattle.plain_database.proofs.database.PlainDatabase.change_row.Goals.{After-index}
use Rattle.plain_database.proofs.database.PlainDatabase.change_row.Goals as goal

-- the row of the stamp
held : (c : After-index) → find (has (λ (r : RowRecord). r.stamp) c.args.row.stamp) c.args.self.now.rows ≡ Some c.index.result.now
held c =
    let found = find-place (has (λ (r : RowRecord). r.stamp) c.args.row.stamp) c.self.inside.rows.items c.in-Some.at c.index.result.now (rw c.deref.ensures.value at c.in-Some.ensures.place) (rw c.deref.ensures.value at c.in-Some.ensures.within) c.index.ensures in
    subst (λ (db : Database). find (has (λ (r : RowRecord). r.stamp) c.args.row.stamp) db.rows ≡ Some c.index.result.now) c.self.view_is found

pub overflow_sub-weight : goal.overflow_sub-weight
overflow_sub-weight c =
    let least = row-least c.args.self.now c.args.row c.index.result.now c.requires (held (goal.at.overflow_sub-weight c).After-index) in
    omega (arith, least, c.cells.ensures.number, c.weight-weight.ensures, weight-valid c.args.self.now c.requires)

pub returns-then-weight-cells : goal.returns-then-weight-cells
returns-then-weight-cells c =
    let cells = ap (λ (db : Database). db.cells) c.self.view_is in
    let refused = row-refused c.args.self.now c.args.row c.index.result.now c.requires (held (goal.at.returns-then-weight-cells c).After-index)
    (omega (arith, c.cells.ensures.number, c.weight-weight.ensures, weight-valid c.args.self.now c.requires, c.cells-in-Some.ensures.number, c.from.ensures, cells, c.if-weight-cells.true)) in
    record { ended = refused; same = refl }

pub returns-else-weight-cells : goal.returns-else-weight-cells
returns-else-weight-cells c =
    let cells = ap (λ (db : Database). db.cells) c.self.view_is in
    let rows = ap (λ (db : Database). db.rows) c.self.view_is in
    let changed = row-changed c.args.self.now c.args.row c.index.result.now c.requires (held (goal.at.returns-else-weight-cells c).After-index)
    (omega (arith, c.cells.ensures.number, c.weight-weight.ensures, weight-valid c.args.self.now c.requires, c.cells-in-Some.ensures.number, c.from.ensures, cells, c.if-weight-cells.false)) in
    let set = replaced-Some (λ (r : RowRecord). r.stamp) c.args.row c.self.inside.rows.items c.in-Some.at (subst IsValid (sym c.self.view_is) c.requires).rows.rises (sym (rw c.deref.ensures.value at c.in-Some.ensures.place)) in
    record {
      ended = subst (λ (db : Database). Ok (record db { rows = (with_item c.self.inside.rows c.in-Some.at c.args.row).items }) ≡ with_edits c.args.self.now (changing (of_row c.args.row) ∷ [])) (sym c.self.view_is)
          (rw (set, rows) changed);
      same = tt;
    }

pub returns-in-None : goal.returns-in-None
returns-in-None c =
    let rows = ap (λ (db : Database). db.rows) c.self.view_is in
    let absent = replaced-None (λ (r : RowRecord). r.stamp) c.args.row c.self.inside.rows.items (sym (rw c.deref.ensures.value at c.in-None.ensures.place)) in
    record { ended = row-absent c.args.self.now c.args.row c.requires (rw rows at absent); same = tt }
