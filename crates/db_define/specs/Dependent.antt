-- The records that depend on an object: views and grants.
use Rattle.std.specs.Prelude.{ℕ, ◌==◌, Bool, false}
use Rattle.scql_base.specs.declared.records.Grant.{Grant}
use Rattle.scql_base.specs.declared.records.ObjectKind.{ObjectKind}
use Rattle.scql_base.specs.declared.records.ObjectKind.TheVariants.{View}

-- a view rests on the object of a stamp
abbrev pub is_view_on : ℕ → ObjectKind → Bool
is_view_on stamp (View base columns conditions) = base == stamp
is_view_on stamp kind = false

-- a grant is on the object of a stamp
abbrev pub is_on : ℕ → Grant → Bool
is_on stamp g = g.object == stamp
