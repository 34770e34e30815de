-- Conditions, changes and values, read one after the other.
use Rattle.std.proofs.Common.{◌≡◌, ◌≤◌, ◌<◌, ◌+◌, ℕ, suc, nat_le, ◌&&◌, Bool, true, false, List, [], ◌∷◌, ◌++◌, length, map, Option, Some, None, refl, ap, subst, sym, ◌∙◌, arith, length-append, if◌then◌else◌}
use Rattle.std.specs.List.{list_all}
use Rattle.std.proofs.lemmas.Bool.{false≢true, leb-true, lt-leb}
use Rattle.std.proofs.lemmas.Option.{none-some, same_Some}
use Rattle.std.proofs.lemmas.List.{length-map, map-append}
use Rattle.std.proofs.lemmas.List.Folds.{list_all-append, list_all-map}
use Rattle.scql_base.specs.declared.condition.Condition.{Condition}
use Rattle.scql_base.specs.declared.words.Comparison.{Comparison}
use Rattle.scql_base.specs.Name.{is_name, name_of}
use Rattle.scql_base.specs.Changes.{ArePacked, change_octets}
use Rattle.scql_base.specs.Octets.{within}
use Rattle.scql_base.specs.Strings.{first_of, with_string}
use Rattle.scql_base.proofs.PackedRuns.{AreChanges-longer, change_octets-size}
use Rattle.scql_base.proofs.Splitting.{first_of-length}
use Rattle.scql_base.specs.Row.{is_narrow}
use Rattle.scql_model.specs.Database.{are_different}
use Rattle.scql_model.specs.Records.{comparison_of, is_count_of_conditions, is_count_of_columns}
use Rattle.scql_model.specs.Parameters as parameters
use Rattle.scql_model.specs.Parameters.{only_where, are_conditions, are_columns, are_different_names, are_changes}
use Rattle.apdu.specs.Fields.{condition_of, conditions_in, changes_in}
use Rattle.apdu.proofs.NamesRead.{behind, behind-next, not_taken, both_of, passed, found}

-- Conditions.
abbrev pub is_condition : Condition → Bool
is_condition c = is_name c.column && is_narrow c.value

abbrev pub tested : Option (List Condition) → Option (List Condition)
tested o = parameters.◌>>=◌ o (λ (conditions : List Condition). only_where (are_conditions conditions) conditions)

-- the condition that three strings are stands before the others
pub record IsRead (column string value : List ℕ) (c : Condition) : Type 0 where
  pub told : (strings : List (List ℕ)) → parameters.conditions_in (column ∷ string ∷ value ∷ strings) ≡ behind (c ∷ []) (parameters.conditions_in strings)
  pub each : is_condition c ≡ true

pub condition_of-some : (column string value : List ℕ) (c : Condition) → condition_of column string value ≡ Some c → IsRead column string value c
condition_of-some column [] value c is = absurd (none-some _ is)
condition_of-some column (a ∷ b ∷ string) value c is = absurd (none-some _ is)
condition_of-some column (code ∷ []) value c is =
    found (comparison_of code) _ c is (λ comparison at is.
    let read : Condition = record { column = column; comparison = comparison; value = value } in
    passed (is_name column && is_narrow value) read c is (λ test same.
    subst (λ (x : Condition). IsRead column (code ∷ []) value x) same
    (record { told = λ strings. rw at refl; each = test })))

-- the conditions of strings, if there are any
abbrev pub conditions_of : Option (List (List ℕ)) → Option (List Condition)
conditions_of o = parameters.◌>>=◌ o parameters.conditions_in

pub conditions-tested : (o : Option (List (List ℕ))) → tested (conditions_of o) ≡ parameters.◌>>=◌ o conditions_in
conditions-tested None = refl
conditions-tested (Some strings) = refl

pub conditions-next : (column string value : List ℕ) (c : Condition) (here o : Option (List (List ℕ))) → IsRead column string value c
    → here ≡ with_string column (with_string string (with_string value o)) → conditions_of here ≡ behind (c ∷ []) (conditions_of o)
conditions-next column string value c here None read is = ap conditions_of is
conditions-next column string value c here (Some strings) read is = ap conditions_of is ∙ read.told strings

-- too many, or one that isn't a condition
record AreAll (conditions : List Condition) : Type 0 where
  few : length conditions ≤ 8
  each : list_all is_condition conditions ≡ true

are_all : (conditions : List Condition) → are_conditions conditions ≡ true → AreAll conditions
are_all conditions is = let t = both_of (is_count_of_conditions (length conditions)) _ is in record { few = leb-true (length conditions) 8 t.0; each = t.1 }

tested-wrong : (xs more : List Condition) (c : Condition) → is_condition c ≡ false → None ≡ tested (Some (xs ++ c ∷ more))
tested-wrong xs more c wrong = not_taken (are_conditions (xs ++ c ∷ more)) (xs ++ c ∷ more) (λ is.
    let each : list_all is_condition xs && (is_condition c && list_all is_condition more) ≡ true = sym (list_all-append is_condition xs (c ∷ more)) ∙ (are_all (xs ++ c ∷ more) is).each in
    false≢true (sym wrong ∙ (both_of (is_condition c) _ (both_of (list_all is_condition xs) _ each).1).0))

tested-many : (xs more : List Condition) (c : Condition) → 8 ≤ length xs → None ≡ tested (Some (xs ++ c ∷ more))
tested-many xs more c many = not_taken (are_conditions (xs ++ c ∷ more)) (xs ++ c ∷ more) (λ is.
    let few : length (xs ++ c ∷ more) ≤ 8 = (are_all (xs ++ c ∷ more) is).few in
    let size : length (xs ++ c ∷ more) ≡ length xs + suc (length more) = length-append xs (c ∷ more) in
    absurd (omega (arith, few, size, many)))

pub conditions_in-many : (xs : List Condition) (c : Condition) (here rest whole : Option (List Condition)) → 8 ≤ length xs → behind xs here ≡ whole → here ≡ behind (c ∷ []) rest → None ≡ tested whole
conditions_in-many xs c here None whole many is at = ap tested (ap (behind xs) (sym at) ∙ is)
conditions_in-many xs c here (Some more) whole many is at = tested-many xs more c many ∙ ap tested (ap (behind xs) (sym at) ∙ is)

pub conditions_in-stuck : (xs : List Condition) (column string value : List ℕ) (here o : Option (List (List ℕ))) (whole : Option (List Condition))
    → here ≡ with_string column (with_string string (with_string value o)) → behind xs (conditions_of here) ≡ whole → condition_of column string value ≡ None → None ≡ tested whole
conditions_in-stuck xs column string value here None whole at is none = ap tested (ap (λ o. behind xs (conditions_of o)) (sym at) ∙ is)
conditions_in-stuck xs column string value here (Some strings) whole at is none = of_string string none (ap (λ o. behind xs (conditions_of o)) (sym at) ∙ is)
  where
    wrong : (comparison : Comparison) (test : Bool) → (is_name column && is_narrow value) ≡ test
        → only_where {A = Condition} test (record { column = column; comparison = comparison; value = value }) ≡ None → (is_name column && is_narrow value) ≡ false
    wrong comparison true at is = absurd (none-some _ (sym is))
    wrong comparison false at is = at

    of_rest : (c : Condition) (rest : Option (List Condition)) → is_condition c ≡ false → None ≡ tested (behind xs (behind (c ∷ []) rest))
    of_rest c None never = refl
    of_rest c (Some more) never = tested-wrong xs more c never

    of_code : (code : ℕ) (o : Option Comparison) → comparison_of code ≡ o → condition_of column (code ∷ []) value ≡ None
        → behind xs (parameters.conditions_in (column ∷ (code ∷ []) ∷ value ∷ strings)) ≡ whole → None ≡ tested whole
    of_code code None at none is = ap tested (rw at at is)
    of_code code (Some comparison) at none is =
        let never : (is_name column && is_narrow value) ≡ false = wrong comparison (is_name column && is_narrow value) refl (rw at at none) in
        of_rest (record { column = column; comparison = comparison; value = value }) (parameters.conditions_in strings) never ∙ ap tested (rw at at is)

    of_string : (string : List ℕ) → condition_of column string value ≡ None → behind xs (parameters.conditions_in (column ∷ string ∷ value ∷ strings)) ≡ whole → None ≡ tested whole
    of_string [] none is = ap tested is
    of_string (a ∷ b ∷ rest) none is = ap tested is
    of_string (code ∷ []) none is = of_code code (comparison_of code) refl none is

pub are-next : (xs : List Condition) (c : Condition) → list_all is_condition xs ≡ true → is_condition c ≡ true → list_all is_condition (xs ++ c ∷ []) ≡ true
are-next xs c all one = list_all-append is_condition xs (c ∷ []) ∙ rw (all, one) refl

-- Changes.
abbrev pub Assigned : Type 0
Assigned = List ℕ × List ℕ

abbrev pub tested_changes : Option (List Assigned) → Option (List Assigned)
tested_changes o = parameters.◌>>=◌ o (λ (changes : List Assigned). only_where (are_changes changes) changes)

record AreFormed (changes : List Assigned) : Type 0 where
  few : length changes ≤ 15
  some : 1 ≤ length changes
  columns : list_all (λ (change : Assigned). is_name change.0) changes ≡ true
  values : list_all (λ (change : Assigned). is_narrow change.1) changes ≡ true

abbrev pub names_of : List Assigned → List (List ℕ)
names_of changes = map (λ (change : Assigned). change.0) changes

are_formed : (changes : List Assigned) → are_changes changes ≡ true → AreFormed changes
are_formed changes is =
    let t = both_of (are_columns (names_of changes)) _ is in
    let u = both_of (is_count_of_columns (length (names_of changes))) (are_different_names (names_of changes)) t.0 in
    let v = both_of (nat_le 1 (length (names_of changes))) _ u.0 in
    let size : length (names_of changes) ≡ length changes = length-map changes (λ (change : Assigned). change.0) in
    let least : 1 ≤ length (names_of changes) = leb-true 1 (length (names_of changes)) v.0 in
    let most : length (names_of changes) ≤ 15 = leb-true (length (names_of changes)) 15 v.1 in
    record {
      few = omega (arith, size, most);
      some = omega (arith, size, least);
      columns = sym (list_all-map is_name (λ (change : Assigned). change.0) changes) ∙ (both_of (list_all is_name (names_of changes)) (are_different (names_of changes)) u.1).0;
      values = t.1;
    }

changes-wrong : (test : Assigned → Bool) (xs more : List Assigned) (x : Assigned) → ((all : List Assigned) → AreFormed all → list_all test all ≡ true) → test x ≡ false
    → None ≡ tested_changes (Some (xs ++ x ∷ more))
changes-wrong test xs more x held wrong = not_taken (are_changes (xs ++ x ∷ more)) (xs ++ x ∷ more) (λ is.
    let each : list_all test xs && (test x && list_all test more) ≡ true = sym (list_all-append test xs (x ∷ more)) ∙ held (xs ++ x ∷ more) (are_formed (xs ++ x ∷ more) is) in
    false≢true (sym wrong ∙ (both_of (test x) _ (both_of (list_all test xs) _ each).1).0))

changes-many : (xs more : List Assigned) (x : Assigned) → 15 ≤ length xs → None ≡ tested_changes (Some (xs ++ x ∷ more))
changes-many xs more x many = not_taken (are_changes (xs ++ x ∷ more)) (xs ++ x ∷ more) (λ is.
    let few : length (xs ++ x ∷ more) ≤ 15 = (are_formed (xs ++ x ∷ more) is).few in
    let size : length (xs ++ x ∷ more) ≡ length xs + suc (length more) = length-append xs (x ∷ more) in
    absurd (omega (arith, few, size, many)))

-- the changes of strings, if there are any
abbrev pub changes_of : Option (List (List ℕ)) → Option (List Assigned)
changes_of o = parameters.◌>>=◌ o parameters.changes_in

pub changes-tested : (o : Option (List (List ℕ))) → tested_changes (changes_of o) ≡ parameters.◌>>=◌ o changes_in
changes-tested None = refl
changes-tested (Some strings) = refl

-- what stands against a change, whatever is behind it
refused : (xs : List Assigned) (column value : List ℕ) (here o : Option (List (List ℕ))) (whole : Option (List Assigned))
    → here ≡ with_string column (with_string value o) → behind xs (changes_of here) ≡ whole → ((more : List Assigned) → None ≡ tested_changes (Some (xs ++ (column, value) ∷ more))) → None ≡ tested_changes whole
refused xs column value here None whole at is never = ap tested_changes (ap (λ o. behind xs (changes_of o)) (sym at) ∙ is)
refused xs column value here (Some rest) whole at is never = go (parameters.changes_in rest) refl
  where
    told : behind xs (parameters.changes_in (column ∷ value ∷ rest)) ≡ whole
    told = ap (λ o. behind xs (changes_of o)) (sym at) ∙ is

    go : (o : Option (List Assigned)) → parameters.changes_in rest ≡ o → None ≡ tested_changes whole
    go None at = ap tested_changes (rw at at told)
    go (Some more) at = never more ∙ ap tested_changes (rw at at told)

pub changes_in-unnamed : (xs : List Assigned) (column value : List ℕ) (here o : Option (List (List ℕ))) (whole : Option (List Assigned))
    → here ≡ with_string column (with_string value o) → behind xs (changes_of here) ≡ whole → is_name column ≡ false → None ≡ tested_changes whole
changes_in-unnamed xs column value here o whole at is none =
    refused xs column value here o whole at is (λ more. changes-wrong (λ (change : Assigned). is_name change.0) xs more (column, value) (λ all are. are.columns) none)

pub changes_in-wide : (xs : List Assigned) (column value : List ℕ) (here o : Option (List (List ℕ))) (whole : Option (List Assigned))
    → here ≡ with_string column (with_string value o) → behind xs (changes_of here) ≡ whole → is_narrow value ≡ false → None ≡ tested_changes whole
changes_in-wide xs column value here o whole at is none =
    refused xs column value here o whole at is (λ more. changes-wrong (λ (change : Assigned). is_narrow change.1) xs more (column, value) (λ all are. are.values) none)

pub changes_in-many : (xs : List Assigned) (column value : List ℕ) (here o : Option (List (List ℕ))) (whole : Option (List Assigned))
    → here ≡ with_string column (with_string value o) → behind xs (changes_of here) ≡ whole → 15 ≤ length xs → None ≡ tested_changes whole
changes_in-many xs column value here o whole at is many = refused xs column value here o whole at is (λ more. changes-many xs more (column, value) many)

-- one change more was read
pub changes-one_more : (xs xs' : List Assigned) (column value name octets : List ℕ) (here o : Option (List (List ℕ))) (whole : Option (List Assigned))
    → behind xs (changes_of here) ≡ whole → here ≡ with_string column (with_string value o) → name ≡ column → octets ≡ value → xs' ≡ xs ++ (name, octets) ∷ []
    → behind xs' (changes_of o) ≡ whole
changes-one_more xs xs' column value name octets here o whole told is at_column at_value more =
    rw (more, at_column, at_value) (behind-next xs (column, value) (changes_of here) (changes_of o) whole told (ap changes_of is ∙ go o))
  where
    go : (o : Option (List (List ℕ))) → changes_of (with_string column (with_string value o)) ≡ behind ((column, value) ∷ []) (changes_of o)
    go None = refl
    go (Some strings) = refl

pub columns-length : (names : List (List ℕ)) (xs : List Assigned) → names ≡ names_of xs → length names ≡ length xs
columns-length names xs is = ap length is ∙ length-map xs (λ (change : Assigned). change.0)

pub columns-one_more : (names names' : List (List ℕ)) (xs xs' : List Assigned) (name column : List ℕ) (value : List ℕ) → names ≡ names_of xs → names' ≡ names ++ name ∷ [] → name ≡ column → xs' ≡ xs ++ (column, value) ∷ []
    → names' ≡ names_of xs'
columns-one_more names names' xs xs' name column value are more same added =
    rw (more, added, are, same) (sym (map-append (λ (change : Assigned). change.0) xs ((column, value) ∷ [])))

-- a name, and a short string, that were read are the strings themselves
pub name-is : (octets name : List ℕ) → Some name ≡ name_of octets → name ≡ octets
name-is octets name is = go (is_name octets) is
  where
    go : (test : Bool) → Some name ≡ (if test then Some octets else None) → name ≡ octets
    go true is = same_Some name octets is
    go false is = absurd (none-some name (sym is))

pub name-read : (octets name : List ℕ) → Some name ≡ name_of octets → is_name name ≡ true
name-read octets name is = go (is_name octets) refl is
  where
    go : (test : Bool) → is_name octets ≡ test → Some name ≡ (if test then Some octets else None) → is_name name ≡ true
    go true at is = ap is_name (same_Some name octets is) ∙ at
    go false at is = absurd (none-some name (sym is))

pub name-none : (octets : List ℕ) → None ≡ name_of octets → is_name octets ≡ false
name-none octets is = go (is_name octets) refl is
  where
    go : (test : Bool) → is_name octets ≡ test → None ≡ (if test then Some octets else None) → is_name octets ≡ false
    go true at is = absurd (none-some octets is)
    go false at is = at

pub within-is : (octets value : List ℕ) → Some value ≡ within 200 octets → value ≡ octets
within-is octets value is = go (is_narrow octets) is
  where
    go : (test : Bool) → Some value ≡ (if test then Some octets else None) → value ≡ octets
    go true is = same_Some value octets is
    go false is = absurd (none-some value (sym is))

pub within-none : (octets : List ℕ) → None ≡ within 200 octets → is_narrow octets ≡ false
within-none octets is = go (is_narrow octets) refl is
  where
    go : (test : Bool) → is_narrow octets ≡ test → None ≡ (if test then Some octets else None) → is_narrow octets ≡ false
    go true at is = absurd (none-some octets is)
    go false at is = at

pub too_wide : (octets : List ℕ) → 200 < length octets → is_narrow octets ≡ false
too_wide octets wide = lt-leb (length octets) 200 wide

-- changes with one more that octets have are changes that one command can have
pub changes-packed : (xs : List Assigned) (column name value rest after behind octets : List ℕ) → ArePacked xs → length xs < 15 → Some name ≡ name_of column → length value ≤ 200
    → Some (column, after) ≡ first_of rest → Some (value, behind) ≡ first_of after → length (change_octets xs) + length rest ≤ length octets → length octets ≤ 1275 → ArePacked (xs ++ (name, value) ∷ [])
changes-packed xs column name value rest after behind octets packed few named narrow one two size short = record {
  list = AreChanges-longer xs name value packed.list few (name-read column name named) narrow;
  size = omega (arith, change_octets-size xs name value, ap length (name-is column name named), first_of-length rest column after one, first_of-length after value behind two, size, short);
}
