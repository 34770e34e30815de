-- DELETE USER is a change, behind which the sessions of the user are left.
use Rattle.std.proofs.Common.{ap, refl}
use Rattle.scql_model.specs.Database.{Database}
use Rattle.plain_machine.proofs.ChangedMachines.{deleted-nobody}
use Rattle.plain_machine.proofs.engine.Engine.delete_user.Goals as goal

pub returns-in_default : goal.returns-in_default
returns-in_default c =
    let refused = deleted-nobody c.args.self.now c.args.channel c.args.name.now c.base.result.now.users (ap (λ (db : Database). db.users) c.base.ensures) c.in_default.ensures in
    record { answered = refused; same = refl }
