-- Some grant gives some privilege.
use Rattle.std.proofs.Common.{sym, ◌∙◌}
use Rattle.plain_database.proofs.SomePrivilege.{appears-granted}
use Rattle.plain_database.proofs.database.PlainDatabase.appears.Goals as goal

pub returns-else-is_owned_by : goal.returns-else-is_owned_by
returns-else-is_owned_by c = c.has_grant.ensures ∙ appears-granted c.args.self.now c.args.actor c.args.object.now (sym c.is_owned_by.ensures ∙ c.if-is_owned_by.false)
