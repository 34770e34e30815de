-- The four privileges.
use Rattle.std.specs.Prelude.{ℕ}
use Rattle.scql_model.specs.Rights.{select_privilege, insert_privilege, update_privilege, delete_privilege}
use Rattle.plain_database.specs.declared.privilege.Privilege.{Privilege}
use Rattle.plain_database.specs.declared.privilege.Privilege.TheVariants.{Select, Insert, Update, Delete}

-- the bit of a privilege among those of a grant
abbrev pub bit_of : Privilege → ℕ
bit_of Select = select_privilege
bit_of Insert = insert_privilege
bit_of Update = update_privilege
bit_of Delete = delete_privilege
