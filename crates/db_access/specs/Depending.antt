-- The records that depend on a user: users and objects that it owns, and grants to it.
use Rattle.std.specs.Prelude.{ℕ, ◌==◌, Bool}
use Rattle.scql_base.specs.declared.records.Grant.{Grant}
use Rattle.scql_base.specs.declared.records.Object.{Object}
use Rattle.scql_base.specs.declared.records.User.{User}

-- a user, or an object, is owned by the user of a stamp
abbrev pub is_user_of : ℕ → User → Bool
is_user_of stamp u = u.owner == stamp

abbrev pub is_object_of : ℕ → Object → Bool
is_object_of stamp o = o.owner == stamp

-- a grant is to the user of a stamp
abbrev pub is_for : ℕ → Grant → Bool
is_for stamp g = g.grantee == stamp
