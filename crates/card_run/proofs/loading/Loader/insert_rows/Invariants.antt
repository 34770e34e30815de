use Rattle.std.proofs.Common.{◌≡◌, ◌<◌, ◌≤◌, ◌+◌}
use Rattle.scql_model.specs.Lines.{state_after}
use Rattle.planner.specs.StatementLines.{statement_lines}
use Rattle.terminal.specs.Load.{filling_lines, insert_lines}
use Rattle.card_run.specs.Loading.{CarriesOut, IsIn}
use Rattle.card_run.specs.Watching.{PassesRows}
use Rattle.card_run.proofs.InsertedRows.{number_after}
use Rattle.card_run.proofs.loading.Loader.insert_rows.Given as goal

abbrev pub invariant-loop-row : goal.invariant-loop-row
invariant-loop-row g l = record {
  carried : CarriesOut g.B.Eeprom.chip g.B.Eeprom.faults (insert_lines l.row 1 l.seed) (record { terminal = l.fn.self.terminal; card = l.fn.self.card; refused = l.fn.self.refused })
      (record { terminal = l.self.terminal; card = l.self.card; refused = l.self.refused });
  few : l.self.refused ≤ 2 + l.row;
  value : l.value ≡ number_after l.row l.seed;
  below : l.value < 65537;
  shows : PassesRows g.P.Person.lost g.P.Person.shown l.seed l.row
      (λ state. IsIn g.B.Eeprom.chip (state_after statement_lines state (filling_lines 0 l.seed)) (record { terminal = l.fn.self.terminal; card = l.fn.self.card; refused = l.fn.self.refused })) l.progress l.fn.person l.person;
}
