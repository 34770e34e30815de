use Rattle.std.proofs.Common.{subst, sym}
use Rattle.scql_model.specs.Database.{IsValid}
use Rattle.plain_database.proofs.database.PlainDatabase.set_tries.Goals as goal

pub replace-requires : goal.replace-requires
replace-requires c = record { rises = (subst IsValid (sym c.self.view_is) c.requires.valid).users.rises }
