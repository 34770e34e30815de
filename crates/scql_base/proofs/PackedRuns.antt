-- Changes as one run of octets: it splits into the changes that it spells, and a change more is its spelling more.
use Rattle.std.proofs.Common.{◌≡◌, ℕ, ◌+◌, ◌<◌, ◌≤◌, ◌==◌, List, [], ◌∷◌, ◌++◌, length, true, false, ◌&&◌, Option, Some, None, if◌then◌else◌, refl, sym, ◌∙◌, ap, arith, append-nil, append_assoc, length-append, Bool, map, take, drop, get_or, subst, lit≤}
use Rattle.std.specs.List.{flat_map, list_all}
use Rattle.std.proofs.lemmas.Bool.{and_from, and_parts, le-leb, leb-true}
use Rattle.std.proofs.lemmas.Grind.{flat_map-append}
use Rattle.std.proofs.lemmas.List.{map-append, take-append-drop, take_more}
use Rattle.std.proofs.lemmas.List.Folds.{list_all-append}
use Rattle.std.proofs.lemmas.Option.{none-some, same_Some}
use Rattle.scql_base.specs.Changes.{ArePacked, change_octets, change_strings, pairs_of}
use Rattle.scql_base.specs.declared.changes.Change as declared
use Rattle.scql_base.specs.Lists.{AreChanges}
use Rattle.scql_base.specs.Name.{is_name}
use Rattle.scql_base.specs.Row.{is_narrow}
use Rattle.scql_base.specs.Strings.{params_of, spelled, strings_of, with_string}
use Rattle.scql_base.proofs.RowOctets.{strings_of-spelled}
use Rattle.scql_base.proofs.Splitting.{AreParams-from_params_of, params_of-again}

abbrev Change : Type 0
Change = List ℕ × List ℕ

-- a change as the code has it
abbrev Pair : Type 0
Pair = declared.Change

abbrev pairs : List Pair → List Change
pairs items = map (λ (change : Pair). change.pair) items

pairs_of-strings : (changes : List Change) → pairs_of (flat_map change_strings changes) ≡ changes
unfolding pairs_of
pairs_of-strings [] = refl
pairs_of-strings (change ∷ changes) = ap (λ (rest : List Change). change ∷ rest) (pairs_of-strings changes)

-- the octets of changes split into the changes
pub changes-again : (changes : List Change) → pairs_of (strings_of (change_octets changes)) ≡ changes
changes-again changes = ap pairs_of (strings_of-spelled (flat_map change_strings changes)) ∙ pairs_of-strings changes

pub changes-empty : (octets : List ℕ) → octets ≡ [] → pairs_of (strings_of octets) ≡ []
changes-empty octets is = ap (λ (o : List ℕ). pairs_of (strings_of o)) is ∙ changes-again []

-- the octets with those of one change more
pub change_octets-longer : (changes : List Change) (column value : List ℕ) → change_octets (changes ++ (column, value) ∷ []) ≡ (change_octets changes ++ spelled column) ++ spelled value
change_octets-longer changes column value =
    ap (flat_map spelled) (flat_map-append change_strings changes ((column, value) ∷ []))
    ∙ (flat_map-append spelled (flat_map change_strings changes) (column ∷ value ∷ [])
    ∙ (ap (λ (back : List ℕ). change_octets changes ++ (spelled column ++ back)) (append-nil (spelled value))
    ∙ sym (append_assoc (change_octets changes) (spelled column) (spelled value))))

pub change_octets-size : (changes : List Change) (column value : List ℕ) → length (change_octets (changes ++ (column, value) ∷ [])) ≡ length (change_octets changes) + length column + length value + 2
change_octets-size changes column value =
    omega (arith, ap length (change_octets-longer changes column value), length-append (change_octets changes ++ spelled column) (spelled value), length-append (change_octets changes) (spelled column))

-- a run with the spellings of a change more
pub longer_changes : (octets middle longer column value : List ℕ) (changes : List Change) → octets ≡ change_octets changes → middle ≡ octets ++ spelled column → longer ≡ middle ++ spelled value
    → longer ≡ change_octets (changes ++ (column, value) ∷ [])
longer_changes octets middle longer column value changes is first second =
    second ∙ (ap (λ (front : List ℕ). front ++ spelled value) (first ∙ ap (λ (front : List ℕ). front ++ spelled column) is) ∙ sym (change_octets-longer changes column value))

pub changes-longer : (longer : List ℕ) (changes : List Change) → longer ≡ change_octets changes → pairs_of (strings_of longer) ≡ changes
changes-longer longer changes is = ap (λ (o : List ℕ). pairs_of (strings_of o)) is ∙ changes-again changes

-- changes with one more
pub AreChanges-longer : (changes : List Change) (column value : List ℕ) → AreChanges changes → length changes < 15 → is_name column ≡ true → length value ≤ 200 → AreChanges (changes ++ (column, value) ∷ [])
AreChanges-longer changes column value are few named narrow = record {
  count = omega (arith, length-append changes ((column, value) ∷ []), few);
  columns = list_all-append (λ (change : Change). is_name change.0) changes ((column, value) ∷ []) ∙ and_from _ _ are.columns (and_from _ _ named refl);
  values = list_all-append (λ (change : Change). is_narrow change.1) changes ((column, value) ∷ []) ∙ and_from _ _ are.values (and_from _ _ (le-leb (length value) 200 narrow) refl);
}

-- no changes at all
pub ArePacked-none : ArePacked []
ArePacked-none = record { list = record { count = lit≤ tt; columns = refl; values = refl }; size = lit≤ tt }

-- what changes with one more say of it
pub last_value : (changes : List Change) (column value : List ℕ) → AreChanges (changes ++ (column, value) ∷ []) → length value ≤ 200
last_value changes column value are =
    let all : list_all (λ (change : Change). is_narrow change.1) changes && (is_narrow value && true) ≡ true =
    sym (list_all-append (λ (change : Change). is_narrow change.1) changes ((column, value) ∷ [])) ∙ are.values in
    leb-true (length value) 200 (and_parts (is_narrow value) true (and_parts (list_all (λ (change : Change). is_narrow change.1) changes) (is_narrow value && true) all).1).0

-- The first of changes, read from their octets.
pub record IsFirst (changes : List Change) (column value behind : List ℕ) : Type 0 where
  pub more : List Change
  pub is : changes ≡ (column, value) ∷ more
  pub octets : behind ≡ change_octets more

split-changes : (octets : List ℕ) (changes : List Change) → octets ≡ change_octets changes → params_of octets ≡ Some (flat_map change_strings changes)
split-changes octets changes is = ap params_of is ∙ params_of-again (flat_map change_strings changes)

first-strings : (changes : List Change) (column value behind : List ℕ) (more : List (List ℕ)) → flat_map change_strings changes ≡ column ∷ value ∷ more → behind ≡ flat_map spelled more → IsFirst changes column value behind
first-strings [] column value behind more is octets = absurd (let wrong : [] ≡ column ∷ value ∷ more = is in cc)
first-strings (change ∷ changes) column value behind more is octets =
    let one : change.0 ≡ column = cc in
    let two : change.1 ≡ value = cc in
    let rest : flat_map change_strings changes ≡ more = cc in
    record { more = changes; is = rw (← one, ← two) refl; octets = octets ∙ ap (flat_map spelled) (sym rest) }

pub first-change : (octets column value rest behind : List ℕ) (changes : List Change) → octets ≡ change_octets changes → params_of octets ≡ with_string column (params_of rest)
    → params_of rest ≡ with_string value (params_of behind) → IsFirst changes column value behind
first-change octets column value rest behind changes is one two = of (params_of behind) refl
  where
    of : (o : Option (List (List ℕ))) → params_of behind ≡ o → IsFirst changes column value behind
    of None at = absurd (none-some _ (sym (sym (split-changes octets changes is) ∙ (one ∙ ap (with_string column) (two ∙ ap (with_string value) at)))))
    of (Some more) at =
        first-strings changes column value behind more
        (same_Some _ _ (sym (split-changes octets changes is) ∙ (one ∙ ap (with_string column) (two ∙ ap (with_string value) at)))) (AreParams-from_params_of more behind at)

pub no-change : (octets : List ℕ) (changes : List Change) → octets ≡ change_octets changes → params_of octets ≡ (if length octets == 0 then Some [] else None) → changes ≡ []
no-change octets changes is none = of (length octets == 0) refl
  where
    empty : (changes : List Change) → flat_map change_strings changes ≡ [] → changes ≡ []
    empty [] is = refl
    empty (change ∷ changes) is = absurd (let wrong : change.0 ∷ change.1 ∷ flat_map change_strings changes ≡ [] = is in cc)

    of : (test : Bool) → (length octets == 0) ≡ test → changes ≡ []
    of true at = empty changes (same_Some _ _ (sym (split-changes octets changes is) ∙ (none ∙ rw at refl)))
    of false at = absurd (none-some _ (sym (sym (split-changes octets changes is) ∙ (none ∙ rw at refl))))

pub no-half : (octets column rest : List ℕ) (changes : List Change) → octets ≡ change_octets changes → params_of octets ≡ with_string column (params_of rest)
    → params_of rest ≡ (if length rest == 0 then Some [] else None) → ⊥
no-half octets column rest changes is one none = of (length rest == 0) refl
  where
    odd : (changes : List Change) → flat_map change_strings changes ≡ column ∷ [] → ⊥
    odd [] is = let wrong : [] ≡ column ∷ [] = is in cc
    odd (change ∷ changes) is = let wrong : change.0 ∷ change.1 ∷ flat_map change_strings changes ≡ column ∷ [] = is in cc

    split : Option (List (List ℕ))
    split = Some (flat_map change_strings changes)

    of : (test : Bool) → (length rest == 0) ≡ test → ⊥
    of true at =
        let one : Some (column ∷ []) ≡ split = sym (sym (split-changes octets changes is) ∙ (one ∙ (ap (with_string column) none ∙ rw at refl))) in
        odd changes (same_Some _ _ (sym one))
    of false at =
        let wrong : None ≡ split = sym (sym (split-changes octets changes is) ∙ (one ∙ (ap (with_string column) none ∙ rw at refl))) in
        none-some _ wrong

-- changes behind the first
pub AreChanges-rest : (change : Change) (changes : List Change) → AreChanges (change ∷ changes) → AreChanges changes
AreChanges-rest change changes are = record {
  count = omega (arith, are.count);
  columns = (and_parts (is_name change.0) _ are.columns).1;
  values = (and_parts (is_narrow change.1) _ are.values).1;
}

-- A part of changes that one command can have is one that it can have.
pub ArePacked-front : (changes more : List Change) → AreChanges (changes ++ more) → length (change_octets (changes ++ more)) ≤ 1275 → ArePacked changes
ArePacked-front changes more are fits =
    let octets : change_octets (changes ++ more) ≡ change_octets changes ++ change_octets more =
    ap (flat_map spelled) (flat_map-append change_strings changes more) ∙ flat_map-append spelled (flat_map change_strings changes) (flat_map change_strings more) in
    record {
      list = record {
        count = omega (arith, length-append changes more, are.count);
        columns = (and_parts _ _ (sym (list_all-append (λ (change : Change). is_name change.0) changes more) ∙ are.columns)).0;
        values = (and_parts _ _ (sym (list_all-append (λ (change : Change). is_narrow change.1) changes more) ∙ are.values)).0;
      };
      size = omega (arith, fits, ap length octets, length-append (change_octets changes) (change_octets more));
    }

-- the first changes of a list, with one more
pub ArePacked-taken : (items : List Pair) (k : ℕ) (item : Pair) → k < length items → item ≡ get_or items k item → AreChanges (pairs items) → length (change_octets (pairs items)) ≤ 1275
    → ArePacked (pairs (take k items) ++ item.pair ∷ [])
ArePacked-taken items k item at is are fits =
    let taken : pairs (take (k + 1) items) ≡ pairs (take k items) ++ item.pair ∷ [] =
    ap pairs (take_more items k item at) ∙ (map-append (λ (change : Pair). change.pair) (take k items) (get_or items k item ∷ []) ∙ rw (← is) refl) in
    let whole : pairs items ≡ pairs (take (k + 1) items) ++ pairs (drop (k + 1) items) =
    ap pairs (sym (take-append-drop (k + 1) items)) ∙ map-append (λ (change : Pair). change.pair) (take (k + 1) items) (drop (k + 1) items) in
    subst ArePacked taken
    (ArePacked-front (pairs (take (k + 1) items)) (pairs (drop (k + 1) items)) (subst AreChanges whole are) (subst (λ (changes : List Change). length (change_octets changes) ≤ 1275) whole fits))
