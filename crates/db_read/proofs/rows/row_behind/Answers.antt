-- The index answers the slot of the next row, which costs what the table's costs say.
use Rattle.std.proofs.Common.{rules, ℕ, Some}
use Rattle.record_table.specs.Listed.{slots_of}
use Rattle.row_table.specs.Found.{is_row_after}
use Rattle.row_table.proofs.FoundRows.{none-found}
use Rattle.db_read.proofs.RowReads.{behind-found, behind-missing, finds-behind, row-later, row-reached}
use Rattle.db_read.proofs.rows.row_behind.Goals as goal

pub returns-in_default-clause-reads : goal.returns-in_default-clause-reads
returns-in_default-clause-reads g c = record {
  row = none-found (slots_of c.args.reader.now.store.now c.args.reader.now.side (g.B.Eeprom.chip c.args.reader.now.bench.now)) (λ (answer : ℕ × ℕ). answer.1) c.next_after.result (is_row_after c.args.table c.args.stamp) c.in_default.is
      (finds-behind c.args.table c.args.stamp (slots_of c.args.reader.now.store.now c.args.reader.now.side (g.B.Eeprom.chip c.args.reader.now.bench.now)) c.next_after.result (c.next_after.ensures.value (g.B.Eeprom.chip c.args.reader.now.bench.now) c.args.reader.now.over c.args.reader.now.indexes));
  octets_read = search rules;
  reads = search rules;
}

pub returns-then-not-branch-clause-reads : goal.returns-then-not-branch-clause-reads
returns-then-not-branch-clause-reads g c = record {
  row = behind-missing c.args.table c.args.stamp c.in-Some.field-0-0 c.in-Some.slot (slots_of c.args.reader.now.store.now c.args.reader.now.side (g.B.Eeprom.chip c.args.reader.now.bench.now)) c.next_after.result _ c.in-Some.is
      (finds-behind c.args.table c.args.stamp (slots_of c.args.reader.now.store.now c.args.reader.now.side (g.B.Eeprom.chip c.args.reader.now.bench.now)) c.next_after.result (c.next_after.ensures.value (g.B.Eeprom.chip c.args.reader.now.bench.now) c.args.reader.now.over c.args.reader.now.indexes))
      (rw c.if-not-branch.true at c.in_ok-row_in.ensures.row);
  octets_read = behind-missing c.args.table c.args.stamp c.in-Some.field-0-0 c.in-Some.slot (slots_of c.args.reader.now.store.now c.args.reader.now.side (g.B.Eeprom.chip c.args.reader.now.bench.now)) c.next_after.result _ c.in-Some.is
      (finds-behind c.args.table c.args.stamp (slots_of c.args.reader.now.store.now c.args.reader.now.side (g.B.Eeprom.chip c.args.reader.now.bench.now)) c.next_after.result (c.next_after.ensures.value (g.B.Eeprom.chip c.args.reader.now.bench.now) c.args.reader.now.over c.args.reader.now.indexes))
      (rw c.if-not-branch.true at c.in_ok-row_in.ensures.row);
  reads = search rules;
}

pub returns-then-room-stamp-clause-reads : goal.returns-then-room-stamp-clause-reads
returns-then-room-stamp-clause-reads g c = record {
  row = row-later c.args.table c.args.stamp (slots_of c.args.reader.now.store.now c.args.reader.now.side (g.B.Eeprom.chip c.args.reader.now.bench.now)) c.row_in.new.room.row _ (behind-found c.args.table c.args.stamp c.in-Some.field-0-0 c.in-Some.slot (slots_of c.args.reader.now.store.now c.args.reader.now.side (g.B.Eeprom.chip c.args.reader.now.bench.now)) c.next_after.result (Some c.row_in.new.room.row) c.in-Some.is
      (finds-behind c.args.table c.args.stamp (slots_of c.args.reader.now.store.now c.args.reader.now.side (g.B.Eeprom.chip c.args.reader.now.bench.now)) c.next_after.result (c.next_after.ensures.value (g.B.Eeprom.chip c.args.reader.now.bench.now) c.args.reader.now.over c.args.reader.now.indexes))
      (rw c.if-not-branch.false at c.in_ok-row_in.ensures.row)) c.if-room-stamp.true;
  octets_read = row-later c.args.table c.args.stamp (slots_of c.args.reader.now.store.now c.args.reader.now.side (g.B.Eeprom.chip c.args.reader.now.bench.now)) c.row_in.new.room.row _ (behind-found c.args.table c.args.stamp c.in-Some.field-0-0 c.in-Some.slot (slots_of c.args.reader.now.store.now c.args.reader.now.side (g.B.Eeprom.chip c.args.reader.now.bench.now)) c.next_after.result (Some c.row_in.new.room.row) c.in-Some.is
      (finds-behind c.args.table c.args.stamp (slots_of c.args.reader.now.store.now c.args.reader.now.side (g.B.Eeprom.chip c.args.reader.now.bench.now)) c.next_after.result (c.next_after.ensures.value (g.B.Eeprom.chip c.args.reader.now.bench.now) c.args.reader.now.over c.args.reader.now.indexes))
      (rw c.if-not-branch.false at c.in_ok-row_in.ensures.row)) c.if-room-stamp.true;
  reads = search rules;
}

pub returns-clause-reads : goal.returns-clause-reads
returns-clause-reads g c = record {
  row = (behind-found c.args.table c.args.stamp c.in-Some.field-0-0 c.in-Some.slot (slots_of c.args.reader.now.store.now c.args.reader.now.side (g.B.Eeprom.chip c.args.reader.now.bench.now)) c.next_after.result (Some c.row_in.new.room.row) c.in-Some.is
      (finds-behind c.args.table c.args.stamp (slots_of c.args.reader.now.store.now c.args.reader.now.side (g.B.Eeprom.chip c.args.reader.now.bench.now)) c.next_after.result (c.next_after.ensures.value (g.B.Eeprom.chip c.args.reader.now.bench.now) c.args.reader.now.over c.args.reader.now.indexes))
      (rw c.if-not-branch.false at c.in_ok-row_in.ensures.row));
  octets_read = row-reached c.args.table c.args.stamp c.in-Some.slot (slots_of c.args.reader.now.store.now c.args.reader.now.side (g.B.Eeprom.chip c.args.reader.now.bench.now)) c.row_in.new.room.row _ _ (rw c.if-not-branch.false at c.in_ok-row_in.ensures.row)
      (behind-found c.args.table c.args.stamp c.in-Some.field-0-0 c.in-Some.slot (slots_of c.args.reader.now.store.now c.args.reader.now.side (g.B.Eeprom.chip c.args.reader.now.bench.now)) c.next_after.result (Some c.row_in.new.room.row) c.in-Some.is
      (finds-behind c.args.table c.args.stamp (slots_of c.args.reader.now.store.now c.args.reader.now.side (g.B.Eeprom.chip c.args.reader.now.bench.now)) c.next_after.result (c.next_after.ensures.value (g.B.Eeprom.chip c.args.reader.now.bench.now) c.args.reader.now.over c.args.reader.now.indexes))
      (rw c.if-not-branch.false at c.in_ok-row_in.ensures.row))
      (rw c.if-not-branch.false at c.in_ok-row_in.ensures.octets_read);
  reads = search rules;
}
