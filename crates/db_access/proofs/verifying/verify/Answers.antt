-- What VERIFY answers, by what was tried. Nothing is ever refused that a database says something of.
use Rattle.std.proofs.Common.{rules, Err, refl, ap, ◌∙◌}
use Rattle.db_access.specs.Verifying.{octets_for_verdict, verdict}
use Rattle.db_access.proofs.Verdicts.{Verifies-answered}
use Rattle.record_table.proofs.AtRest.{KeepsRows-idle}
use Rattle.record_table.proofs.Stopped.{IfOk-stop_answer}
use Rattle.db_access.proofs.verifying.verify.Goals as goal

pub returns-in-Ok : goal.returns-in-Ok
returns-in-Ok g c =
    let old = g.B.Eeprom.chip c.args.bench.now in
    let new = g.B.Eeprom.chip c.try_secret.new.bench in
    let done = c.in-Ok.ensures in
    let goes_on = done.goes_on (λ wrong. cc) in
    record {
      verifies = λ db holds. Verifies-answered db (verdict db c.args.user c.args.secret.now) (octets_for_verdict db c.args.user c.args.secret.now) c.try_secret.result _ c.try_secret.new.store old new (rw c.in-Ok.is refl) (c.try_secret.ensures.verifies db holds);
      lowered = done.lowered;
      holds = λ db rest. done.holds db rest (λ wrong. cc);
      goes_on = goes_on;
      rows = λ side. KeepsRows-idle c.args.store.now c.try_secret.new.store old new side c.requires.rests.idle (goes_on.begun ∙ c.requires.rests.idle) (done.rows (λ wrong. cc));
      behind = search rules;
      cause = search rules;
    }

pub returns-in-Err : goal.returns-in-Err
returns-in-Err g c =
    let old = g.B.Eeprom.chip c.args.bench.now in
    let new = g.B.Eeprom.chip c.try_secret.new.bench in
    let stopped = c.in-Err.ensures in
    record {
      verifies = λ db holds. Verifies-answered db (verdict db c.args.user c.args.secret.now) (octets_for_verdict db c.args.user c.args.secret.now) c.try_secret.result _ c.try_secret.new.store old new (rw c.in-Err.is c.answer.ensures) (c.try_secret.ensures.verifies db holds);
      lowered = λ db holder holds named. IfOk-stop_answer c.in-Err.stop c.answer.result _ c.answer.ensures (λ word is. absurd ((c.try_secret.ensures.verifies db holds).unrefused word (c.in-Err.is ∙ ap Err is)));
      holds = λ db rest. IfOk-stop_answer c.in-Err.stop c.answer.result _ c.answer.ensures (λ word is. stopped.holds db rest (λ wrong. cc));
      goes_on = IfOk-stop_answer c.in-Err.stop c.answer.result _ c.answer.ensures (λ word is. stopped.goes_on (λ wrong. cc));
      rows = λ side. IfOk-stop_answer c.in-Err.stop c.answer.result _ c.answer.ensures (λ word is.
          let goes_on = stopped.goes_on (λ wrong. cc) in
          KeepsRows-idle c.args.store.now c.try_secret.new.store old new side c.requires.rests.idle (goes_on.begun ∙ c.requires.rests.idle) (stopped.rows (λ wrong. cc)));
      behind = search rules;
      cause = search rules;
    }
