-- Objects by their names.
use Rattle.std.specs.Prelude.{ℕ, Bool, List, Option}
use Rattle.std.specs.List.{find}
use Rattle.std.specs.Str.{bytes_eq}
use Rattle.scql_base.specs.declared.records.Object.{Object}

abbrev pub has_name : List ℕ → Object → Bool
has_name name o = bytes_eq name o.name

-- the object of a name
abbrev pub object_named : List Object → List ℕ → Option Object
object_named objects name = find (has_name name) objects
