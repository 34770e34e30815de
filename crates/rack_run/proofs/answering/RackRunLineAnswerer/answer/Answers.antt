use Rattle.std.proofs.Common.{refl, ◌∙◌}
use Rattle.std.specs.Prelude.{option_map}
use Rattle.taken_line.specs.declared.TakenLine.{TakenLine}
use Rattle.guide.proofs.Told.{told-then}
use Rattle.rack_run.proofs.Lines.{if-err, is-err, line-carried, line-stopped, not-err, prompt-shown}
use Rattle.rack_run.proofs.answering.RackRunLineAnswerer.answer.Goals as goal

pub returns-in_err-add-clause-stopped : goal.returns-in_err-add-clause-stopped
returns-in_err-add-clause-stopped g c = if-err c.from_residual.result _ (
  (
    line-stopped g.R.LineRack.is_at g.R.LineRack.is_live g.R.LineRack.faults _ c.carry_out-end.result _ _ (c.add.ensures.stops.0 (is-err c.add.result _ c.in_err-add.was)) c.carry_out-end.ensures.ends c.carry_out-end.ensures.does,
    refl,
    refl,
  ),
  (c.tell.ensures, refl),
)

pub returns-clause-answered : goal.returns-clause-answered
returns-clause-answered g c = (
  (
    line-carried g.R.LineRack.is_at g.R.LineRack.is_live g.R.LineRack.faults _ c.carry_out-end.result _ _ (g.met.R.LineRack.is_reader c.args.self.now.rack.now)
        (λ same. not-err c.add.result _ c.in_ok-add.was (c.add.ensures.stops.1 same)) c.carry_out-end.ensures.ends c.carry_out-end.ensures.does c.add.ensures.added,
    prompt-shown g.P.Person.lost g.P.Person.shown (option_map (λ (line : TakenLine). line.octets.now) c.args.line) (g.R.LineRack.current c.args.self.now.rack.now) c.current_reader.result _ _
        (c.current_reader.ensures.current ∙ c.carry_out-end.ensures.does.selects) c.show_prompt.ensures,
    refl,
    refl,
  ),
  (told-then g.N.Person.lost g.N.Person.shown _ _ _ c.tell.ensures c.tell-2.ensures, refl),
)
