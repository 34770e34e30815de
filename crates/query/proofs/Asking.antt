-- The SELECT of a query's object can be sent: at most 2 + 9 + 15 times 9 octets are its data.
use Rattle.std.proofs.Common.{◌≡◌, ℕ, ◌*◌, ◌≤◌, ◌<◌, ◌&&◌, nat_le, nat_lt, true, false, List, [], ◌∷◌, ◌++◌, length, refl, length-append, arith}
use Rattle.std.specs.List.{flat_map, list_all}
use Rattle.std.proofs.lemmas.Bool.{and_parts, le-leb}
use Rattle.std.specs.Char.{is_ascii_uppercase}
use Rattle.scql_base.specs.Name.{IsName, is_name, is_name_octet}
use Rattle.scql_base.specs.Strings.{spelled}
use Rattle.scql_base.specs.declared.operation.Operation.TheVariants.{DeclareCursor}
use Rattle.script.specs.declared.statement.Statement.TheVariants.{Select}
use Rattle.script.specs.Sizes.{is_operation_too_large}
use Rattle.script.proofs.Sendable.{formed-sent}
use Rattle.query.specs.declared.query.AskedObject.{AskedObject}
use Rattle.query.specs.Facts.{CanBeAsked}
use Rattle.query.proofs.Gaining.{AreColumns, IsGood}

-- a name has at most 8 octets
short : (name : List ℕ) → IsName name → length name ≤ 8
short [] is = absurd (cc)
short (first ∷ rest) is =
    let few = (and_parts (is_ascii_uppercase first && list_all is_name_octet rest) (nat_lt (length rest) 8) is).1 in
    let within : length rest < 8 = grind (arith, few) in
    omega (arith, within)

spelled-names : (names : List (List ℕ)) → list_all is_name names ≡ true → length (flat_map spelled (names ++ [])) ≤ 9 * length names
spelled-names [] all = omega arith
spelled-names (name ∷ names) all =
    let parts = and_parts (is_name name) (list_all is_name names) all in
    omega (arith, length-append (spelled name) (flat_map spelled (names ++ [])), short name parts.0, spelled-names names parts.1)

data-fits : (object : List ℕ) (columns : List (List ℕ)) → IsName object → AreColumns columns → is_operation_too_large (DeclareCursor object columns []) ≡ false
data-fits object columns is are =
    let names = flat_map spelled (columns ++ []) in
    let size = length-append (spelled object) (spelled (length columns ∷ []) ++ names) in
    let few : nat_le (length (spelled object ++ (spelled (length columns ∷ []) ++ names))) 255 ≡ true =
    le-leb _ 255 (omega (arith, size, length-append (spelled (length columns ∷ [])) names, short object is, spelled-names columns are.named, are.few)) in
    rw few refl

pub asked-sent : (asked : AskedObject) → IsGood asked → CanBeAsked asked
asked-sent asked good = λ channel few.
    formed-sent channel (Select asked.object asked.columns []) few
    (good.named, rw (le-leb (length asked.columns) 15 good.columns.few, good.columns.named, good.columns.different) refl, refl)
    (data-fits asked.object asked.columns good.named good.columns)
