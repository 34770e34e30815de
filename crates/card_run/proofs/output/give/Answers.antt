use Rattle.std.proofs.Common.{List, ℕ, Option, arith, rules, sym, subst}
use Rattle.std.proofs.lemmas.Grind.{common_steps}
use Rattle.std.specs.Prelude.{OnErr}
use Rattle.card.specs.GivenMoments.{behind-gives}
use Rattle.line_run.specs.CutOff.{IsCutShort}
use Rattle.card_run.proofs.Stopping.{cut_short}
use Rattle.card_run.proofs.output.give.Goals as goal

pub returns : goal.returns
returns g c =
    let cut : Option (List ℕ) → Option (List ℕ) → Type 0 = λ before now. OnErr c.give.result (IsCutShort c.args.text.now before now) in
    record {
      text = grind (arith, common_steps);
      fails =
          subst (λ (before : Option (List ℕ)). cut before (g.B.Eeprom.chip c.give.new.self).still.given) (sym (g.met.B.Bench.output c.args.bench.now).0)
          (subst (cut (g.B.Outlet.given c.args.bench.now)) (sym (g.met.B.Bench.output c.give.new.self).0)
          (cut_short c.give.result c.args.text.now (g.B.Outlet.given c.args.bench.now) (g.B.Outlet.given c.give.new.self) c.give.ensures.err));
      image = search rules;
      size = search rules;
      gives = search rules;
      -- output writes nothing
      behind = λ cells. behind-gives cells (g.B.Eeprom.chip c.args.bench.now) (g.B.Eeprom.chip c.give.new.self) (g.met.B.Eeprom.clocked c.args.bench.now) (g.met.B.Bench.gives c.args.bench.now c.give.new.self c.give.ensures.rest).0;
      mark = grind (arith, common_steps);
      within = grind (arith, common_steps);
      counts = search rules;
      faults = search rules;
    }
