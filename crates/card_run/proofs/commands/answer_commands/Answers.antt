-- The run over the input is that of the card over its bench.
use Rattle.std.proofs.Common.{rules, ℕ, List, false, sym, subst, ◌∙◌}
use Rattle.eeprom.specs.Chip.{Becomes}
use Rattle.scql_model.specs.Lines.{command_lines}
use Rattle.card.specs.Behind.{KeepsBehind}
use Rattle.program.specs.declared.status.Status.{Status}
use Rattle.program.specs.Ends.{AllFaults, EndsBy}
use Rattle.program.specs.Ends.{RunsTo}
use Rattle.program.proofs.Ended.{at-longer, input-causes, runs-through}
use Rattle.card_run.proofs.Finishing.{never-refused, never-tells}
use Rattle.card_run.proofs.commands.answer_commands.Goals as goal

pub returns-clause-run : goal.returns-clause-run
returns-clause-run g c =
    let left = g.S.Source.left c.args.source.now in
    let left_now = g.S.Source.left c.run_lines-end.new.source in
    let bench = c.run_lines-end.result.1.bench.now in
    let was : AllFaults = record { eeprom = g.B.Eeprom.faults c.args.bench.now; source = g.S.Source.source_faults c.args.source.now; outlet = g.B.Outlet.sink_faults c.args.bench.now } in
    record {
      runs = λ m at.
          subst (λ (bench : g.row.B.Denot). Becomes (λ (input left : List ℕ). RunsTo g.B.Eeprom.chip g.B.Eeprom.faults command_lines m c.of_input.result input left c.args.bench.now bench) left left_now)
          (search (rules, c.run_lines-end.ensures.goes_on.0))
          (runs-through _ c.run_lines-end.result.1 (λ commands. commands.bench.now) g.B.Eeprom.chip g.B.Eeprom.faults command_lines m c.run_lines-end.result.0 false c.of_input.result left left_now c.of_input.ensures (c.run_lines-end.ensures.runs m at));
      status = search rules;
      whole = search rules;
      too_long = λ is. at-longer c.run_lines-end.result.0 false left left_now c.run_lines-end.ensures.too_long (sym c.of_input.ensures ∙ is);
      refusals = λ m at. never-tells command_lines m c.of_input.result left left_now (λ is. never-refused c.run_lines-end.result.0 (sym c.of_input.ensures ∙ is)) (search rules);
      ends =
          subst (λ (b : g.row.B.Denot). EndsBy c.of_input.result was (record { eeprom = g.B.Eeprom.faults b; source = g.S.Source.source_faults c.run_lines-end.new.source; outlet = g.B.Outlet.sink_faults b }))
          (search (rules, c.run_lines-end.ensures.goes_on.0))
          (subst (λ (status : Status). EndsBy status was (record { eeprom = g.B.Eeprom.faults bench; source = g.S.Source.source_faults c.run_lines-end.new.source; outlet = g.B.Outlet.sink_faults bench })) (sym c.of_input.ensures)
          (input-causes c.run_lines-end.result.0 false (g.B.Eeprom.faults c.args.bench.now) (g.B.Eeprom.faults bench) (g.B.Outlet.sink_faults c.args.bench.now) (g.B.Outlet.sink_faults bench) (g.S.Source.source_faults c.args.source.now)
          (g.S.Source.source_faults c.run_lines-end.new.source) c.run_lines-end.ensures.causes c.run_lines-end.ensures.source));
      behind =
          subst (λ (bench : g.row.B.Denot). KeepsBehind (λ was. c.args.card.store.chains.cells) (g.B.Eeprom.chip c.args.bench.now) (g.B.Eeprom.chip bench)) (search (rules, c.run_lines-end.ensures.goes_on.0))
          c.run_lines-end.ensures.goes_on.1.behind;
    }
