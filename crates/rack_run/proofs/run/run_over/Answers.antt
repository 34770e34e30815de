-- What is told of the lines that were handed on is what the run owes.
use Rattle.std.proofs.lemmas.Grind.{common_steps}
use Rattle.std.proofs.Common.{◌≡◌, ◌∙◌, ℕ, arith, rules, refl, subst}
use Rattle.person.specs.Showing.{Shows, ShowsSome}
use Rattle.guide.proofs.Told.{told-then}
use Rattle.rack_run.specs.Prompts.{prompt}
use Rattle.rack_run.proofs.Ending.{read-prompts, read-runs, read-told}
use Rattle.rack_run.proofs.run.run_over.Goals as goal

pub returns-clause-ends : goal.returns-clause-ends
returns-clause-ends g c = record {
  runs = read-runs (λ a. a.rack.now) (λ a. a.tally) g.R.LineRack.readers g.R.LineRack.current g.R.LineRack.given g.R.LineRack.sink_faults g.R.LineRack.is_at g.R.LineRack.is_live g.R.LineRack.faults
      (λ a. a.person) (λ b. b.now) g.P.Person.lost g.P.Person.shown (λ a. a.rack.ghost_name) (λ a. a.person.ghost_name)
      (λ a b. ShowsSome g.N.Person.lost g.N.Person.shown a.notices.now b.notices.now × (b.notices.ghost_name ≡ a.notices.ghost_name)) c.answer_lines-end.result
      _ c.answer_lines-end.new.answerer c.args.rack.now _ _ _ c.of_input.result c.new.ensures refl (search rules) c.of_input.ensures c.answer_lines-end.ensures.read;
  whole = search rules;
  too_long = grind (arith, common_steps);
}

pub returns-clause-shows : goal.returns-clause-shows
returns-clause-shows g c = record {
  prompts = read-prompts (λ a. a.rack.now) (λ a. a.tally) g.R.LineRack.readers g.R.LineRack.current g.R.LineRack.given g.R.LineRack.sink_faults g.R.LineRack.is_at g.R.LineRack.is_live g.R.LineRack.faults
      (λ a. a.person) (λ b. b.now) g.P.Person.lost g.P.Person.shown (λ a. a.rack.ghost_name) (λ a. a.person.ghost_name)
      (λ a b. ShowsSome g.N.Person.lost g.N.Person.shown a.notices.now b.notices.now × (b.notices.ghost_name ≡ a.notices.ghost_name)) c.answer_lines-end.result
      _ c.answer_lines-end.new.answerer c.args.person.now _ (g.R.LineRack.current c.args.rack.now) _ _ c.of_input.result refl
      (subst (λ (n : ℕ). Shows g.P.Person.lost g.P.Person.shown (prompt n) c.args.person.now c.show_prompt.new.person) c.current_reader.ensures.current c.show_prompt.ensures) (search rules) c.of_input.ensures c.answer_lines-end.ensures.read;
  told =
      let run = read-told (λ a. a.rack.now) (λ a. a.tally) g.R.LineRack.readers g.R.LineRack.current g.R.LineRack.given g.R.LineRack.sink_faults g.R.LineRack.is_at g.R.LineRack.is_live g.R.LineRack.faults
      (λ a. a.person) (λ b. b.now) g.P.Person.lost g.P.Person.shown (λ a. a.rack.ghost_name) (λ a. a.person.ghost_name)
      (λ a b. ShowsSome g.N.Person.lost g.N.Person.shown a.notices.now b.notices.now × (b.notices.ghost_name ≡ a.notices.ghost_name))
      (λ a b d first second. (told-then g.N.Person.lost g.N.Person.shown a.notices.now b.notices.now d.notices.now first.0 second.0, second.1 ∙ first.1)) c.answer_lines-end.result _ c.answer_lines-end.new.answerer _ _ c.answer_lines-end.ensures.read in
      subst (λ (notices : g.row.N.Denot). ShowsSome g.N.Person.lost g.N.Person.shown c.args.notices.now notices) (search (rules, run.1)) run.0;
}
