-- The records of each kind weigh their part.
use Rattle.std.proofs.Common.{arith}
use Rattle.scql_model.proofs.EditLaws.{weight-kinds}
use Rattle.plain_database.proofs.database.PlainDatabase.weight.Goals as goal

pub returns : goal.returns
returns c =
    let users = rw c.users.ensures at c.weigh-cells.ensures in
    let objects = rw c.objects.ensures at c.weigh-cells-2.ensures in
    let grants = rw c.grants.ensures at c.weigh-cells-3.ensures in
    let rows = rw c.rows.ensures at c.weigh.ensures in
    omega (arith, weight-kinds c.args.self.now)
