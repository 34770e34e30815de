-- What comes of a change is the machine with the new database, where a command is done.
use Rattle.std.proofs.lemmas.Result.{err_from_is_err_and}
use Rattle.plain_machine.proofs.ChangedMachines.{changed-done, changed-refused}
use Rattle.plain_machine.proofs.engine.Engine.change.Goals as goal

pub returns-in_err-change_base : goal.returns-in_err-change_base
returns-in_err-change_base c =
    let p = err_from_is_err_and c.from_residual.result c.from_residual.ensures.1 in
    let refused = changed-refused c.args.self.now c.args.channel c.args.operation.now c.in_err-change_base.field-0.0 c.in_err-change_base.ensures.ended in
    rw (p.1, p.2) (record { answered = refused; same = c.in_err-change_base.ensures.same })

pub returns : goal.returns
returns c =
    let done = changed-done c.args.self.now c.change_base.new.self c.finish.new.self c.args.channel c.args.operation.now c.finish.new.reply c.in_ok-change_base.ensures.ended c.finish.ensures.reply c.finish.ensures.machine in
    record { answered = done; same = tt }
