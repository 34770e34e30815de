-- What is decided on is made.
use Rattle.std.proofs.Common.{refl}
use Rattle.std.proofs.lemmas.Result.{err_from_is_err_and}
use Rattle.scql_model.specs.Changing.{change_of}
use Rattle.plain_database.specs.Changes.{edits_for}
use Rattle.plain_database.specs.Effects.{EndsAsMeant}
use Rattle.plain_database.proofs.ChangesValid.{decided-change, decided-refusal, same-cells, stays-valid}
use Rattle.plain_database.proofs.database.PlainDatabase.change.Goals.{After-make}
use Rattle.plain_database.proofs.database.PlainDatabase.change.Goals as goal

ends : (c : After-make) → EndsAsMeant c.args.self.now c.make.new.self c.make.result (change_of c.args.self.now c.args.actor c.args.cursor.now c.args.operation.now)
ends c =
    let decided = rw (c.in_ok-change.was, c.as_valid.ensures) at c.decided.ensures in
    rw (← decided-change c.args.self.now c.args.actor c.args.cursor.now c.args.operation.now (edits_for c.args.self.now c.in_ok-change.change) decided) c.make.ensures

pub returns-in_err-change : goal.returns-in_err-change
returns-in_err-change c =
    let p = err_from_is_err_and c.from_residual.result c.from_residual.ensures.1 in
    let refused = decided-refusal c.args.self.now c.args.actor c.args.cursor.now c.args.operation.now c.in_err-change.field-0.0 (rw (c.in_err-change.was, c.as_valid.ensures) at c.decided.ensures) in
    record {
      ends = rw (p.1, p.2) (record { ended = refused; same = refl });
      cells = refl;
      valid = λ _ _ _. c.requires.valid;
    }

pub returns : goal.returns
returns c =
    let ended = ends (goal.at.returns c).After-make in
    record {
      ends = ended;
      cells = same-cells c.args.self.now c.make.new.self c.args.actor c.args.cursor.now c.args.operation.now c.make.result ended;
      valid = stays-valid c.args.self.now c.make.new.self c.args.actor c.args.cursor.now c.args.operation.now c.make.result ended c.requires.valid;
    }
