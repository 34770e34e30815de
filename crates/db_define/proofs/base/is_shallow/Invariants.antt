use Rattle.std.proofs.Common.{◌≡◌, ◌+◌, ℕ}
use Rattle.scql_model.specs.Database.{Database}
use Rattle.record_table.specs.Asking.{Holds, SameSide}
use Rattle.db_define.specs.Layers.{reaches_table}
use Rattle.db_define.proofs.base.is_shallow.Given as goal

abbrev pub invariant-loop-depth : goal.invariant-loop-depth
invariant-loop-depth g l = record {
  goes_on : SameSide l.fn.reader l.reader;
  same : g.B.Eeprom.chip l.reader.bench.now ≡ g.B.Eeprom.chip l.fn.reader.bench.now;
  faults : g.B.Eeprom.faults l.reader.bench.now ≡ g.B.Eeprom.faults l.fn.reader.bench.now;
  reached : (db : Database) → Holds l.fn.reader db → (n : ℕ) → n + l._depth ≡ 3 → reaches_table n db.objects l.reached ≡ reaches_table 3 db.objects l.fn.layer;
}
