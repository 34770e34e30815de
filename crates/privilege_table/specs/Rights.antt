-- The four privileges, and what an actor may do with an object.
use Rattle.std.specs.Prelude.{◌≡◌, ℕ}
use Rattle.std.specs.List.{list_any}
use Rattle.scql_base.specs.declared.records.Object.{Object}
use Rattle.scql_base.specs.declared.words.Actor.{Actor}
use Rattle.scql_model.specs.Database.{Database}
use Rattle.scql_model.specs.Rights.{all_privileges, appears, delete_privilege, has_bit, holds, insert_privilege, select_privilege, update_privilege}
use Rattle.privilege_table.specs.declared.rights.Rights.{Rights}
use Rattle.privilege_table.specs.declared.rights.Privilege.{Privilege}
use Rattle.privilege_table.specs.declared.rights.Privilege.TheVariants.{Select, Insert, Update, Delete}

-- the bit of a privilege
abbrev pub privilege_bit : Privilege → ℕ
privilege_bit Select = select_privilege
privilege_bit Insert = insert_privilege
privilege_bit Update = update_privilege
privilege_bit Delete = delete_privilege

-- it appears where there is some privilege, and each privilege is held that is among them
pub record AreRights (db : Database) (actor : Actor) (o : Object) (rights : Rights) : Type 0 where
  pub appears : appears db actor o ≡ list_any (λ (bit : ℕ). has_bit bit rights.bits) all_privileges
  pub holds : (privilege : Privilege) → holds db actor o (privilege_bit privilege) ≡ has_bit (privilege_bit privilege) rights.bits
