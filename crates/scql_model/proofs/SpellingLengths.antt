-- What is read of numbers has as many of them as its spelling, whether or not they are octets.
use Rattle.std.proofs.Common.{◌≡◌, ℕ, zero, suc, ◌+◌, nat_lt, ◌==◌, Bool, true, false, List, [], ◌∷◌, length, take, drop, Option, Some, None, option_map, if◌then◌else◌, refl, sym, ◌∙◌, ap, arith}
use Rattle.std.specs.List.{flat_map}
use Rattle.std.proofs.lemmas.Bool.{eqb-true}
use Rattle.std.proofs.lemmas.List.{length-append, take-append-drop}
use Rattle.std.proofs.lemmas.Option.{none-some, same_Some, option_and_then_some}
use Rattle.scql_base.specs.Name.{is_name}
use Rattle.scql_base.specs.Row.{is_narrow}
use Rattle.scql_base.specs.Strings.{params_of}
use Rattle.scql_base.proofs.Splitting.{AreParams-from_params_of}
use Rattle.scql_base.specs.declared.records.User.{User}
use Rattle.scql_base.specs.declared.records.Object.{Object}
use Rattle.scql_base.specs.declared.records.Grant.{Grant}
use Rattle.scql_base.specs.declared.records.RowRecord.{RowRecord}
use Rattle.scql_model.specs.Fields.{Field, number, octet, letter, text, ◌then◌, counted_list, as_record, made_at, many_at, with_front, with_mark, whole, with_rest}
use Rattle.scql_model.specs.Records.{profile_code, profile_of, subject_code, subject_of, comparison_code, comparison_of, is_secret, is_tries, is_privileges, is_row, is_count_of_columns, is_count_of_conditions, columns, conditions, to_condition, from_condition, values_to_the_end, no_rest, to_user, from_user, to_grant, from_grant, to_row, from_row, to_table, to_view, to_dictionary, starts_with, counter_record, user_record, table_record, view_record, dictionary_record, object_record, object_spelling, grant_record, row_record, counter_in, user_in, object_in, grant_in, row_in}
use Rattle.scql_model.proofs.FieldLaws.{mapped_some, chosen_some, not_chosen_some}

-- what is read and what is behind it are as long as the whole
record IsMeasured {A : Type 0} (f : Field A) : Type 0 where
  all : (octets : List ℕ) (x : A) (rest : List ℕ) → f.read octets ≡ Some (x, rest) → length octets ≡ length (f.spell x) + length rest

all-number : (octets : List ℕ) (x : ℕ) (rest : List ℕ) → number.read octets ≡ Some (x, rest) → length octets ≡ length (number.spell x) + length rest
all-number [] x rest is = absurd (none-some (x, rest) is)
all-number (a ∷ []) x rest is = absurd (none-some (x, rest) is)
all-number (a ∷ b ∷ []) x rest is = absurd (none-some (x, rest) is)
all-number (a ∷ b ∷ c ∷ []) x rest is = absurd (none-some (x, rest) is)
all-number (a ∷ b ∷ c ∷ d ∷ octets) x rest is =
    let behind : length octets ≡ length rest = ap (λ (p : ℕ × List ℕ). length p.1) (same_Some _ (x, rest) is) in omega (arith, behind)

all-octet : (test : ℕ → Bool) (octets : List ℕ) (x : ℕ) (rest : List ℕ) → (octet test).read octets ≡ Some (x, rest) → length octets ≡ length ((octet test).spell x) + length rest
all-octet test [] x rest is = absurd (none-some (x, rest) is)
all-octet test (first ∷ octets) x rest is =
    let passes = chosen_some (test first) (Some (first, octets)) (x, rest) is in
    let behind : length octets ≡ length rest = ap (λ (p : ℕ × List ℕ). length p.1) (same_Some _ (x, rest) passes.1) in omega (arith, behind)

all-letter : {A : Type 0} (code : A → ℕ) (value : ℕ → Option A) (octets : List ℕ) (x : A) (rest : List ℕ) → (letter code value).read octets ≡ Some (x, rest) → length octets ≡ length ((letter code value).spell x) + length rest
all-letter code value [] x rest is = absurd (none-some (x, rest) is)
all-letter {A} code value (first ∷ octets) x rest is =
    mapped_some (with_rest octets) (value first) (x, rest) is (λ (y : A) at same.
    let behind : length octets ≡ length rest = ap (λ (p : A × List ℕ). length p.1) same in omega (arith, behind))

all-text : (test : List ℕ → Bool) (octets x rest : List ℕ) → (text test).read octets ≡ Some (x, rest) → length octets ≡ length ((text test).spell x) + length rest
all-text test [] x rest is = absurd (none-some (x, rest) is)
all-text test (len ∷ octets) x rest is =
    let enough = not_chosen_some (nat_lt (length octets) len) (if test (take len octets) then Some (take len octets, drop len octets) else None) (x, rest) is in
    let passes = chosen_some (test (take len octets)) (Some (take len octets, drop len octets)) (x, rest) enough.1 in
    let pair = same_Some (take len octets, drop len octets) (x, rest) passes.1 in
    let front : length (take len octets) ≡ length x = ap (λ (p : List ℕ × List ℕ). length p.0) pair in
    let behind : length (drop len octets) ≡ length rest = ap (λ (p : List ℕ × List ℕ). length p.1) pair in
    let both : length octets ≡ length (take len octets) + length (drop len octets) = ap (λ (xs : List ℕ). length xs) (sym (take-append-drop len octets)) ∙ length-append (take len octets) (drop len octets) in
    omega (arith, front, behind, both)

measured-then : {A B : Type 0} (f : Field A) (g : Field B) → IsMeasured f → IsMeasured g → IsMeasured (f then g)
measured-then {A} {B} f g first second = record {
  all = λ octets (x : A × B) rest is.
      option_and_then_some (λ (a : A × List ℕ). option_map (λ (b : B × List ℕ). ((a.0, b.0), b.1)) (g.read a.1)) (f.read octets) (x, rest) is (λ (a : A × List ℕ) at is'.
      let front = first.all octets a.0 a.1 at in
      mapped_some (λ (b : B × List ℕ). ((a.0, b.0), b.1)) (g.read a.1) (x, rest) is' (λ (b : B × List ℕ) at' same.
      let back = second.all a.1 b.0 b.1 at' in
      let behind : length b.1 ≡ length rest = ap (λ (p : (A × B) × List ℕ). length p.1) same in
      let a-same : length (f.spell a.0) ≡ length (f.spell x.0) = ap (λ (p : (A × B) × List ℕ). length (f.spell p.0.0)) same in
      let b-same : length (g.spell b.0) ≡ length (g.spell x.1) = ap (λ (p : (A × B) × List ℕ). length (g.spell p.0.1)) same in
      let all = length-append (f.spell x.0) (g.spell x.1) in
      omega (arith, front, back, behind, a-same, b-same, all)));
}

-- what is made of what is read is as long, where it has the spelling of its parts
all-made : {A B : Type 0} (to : A → B) (f : Field A) (spell : B → List ℕ) → ((x : A) → spell (to x) ≡ f.spell x) → IsMeasured f
    → (octets : List ℕ) (x : B) (rest : List ℕ) → made_at to f.read octets ≡ Some (x, rest) → length octets ≡ length (spell x) + length rest
all-made {A} {B} to f spell same_spelling measured octets x rest is =
    mapped_some (λ (a : A × List ℕ). (to a.0, a.1)) (f.read octets) (x, rest) is (λ (a : A × List ℕ) at same.
    let whole = measured.all octets a.0 a.1 at in
    let behind : length a.1 ≡ length rest = ap (λ (p : B × List ℕ). length p.1) same in
    let value : length (f.spell a.0) ≡ length (spell x) = ap (λ (front : List ℕ). length front) (sym (same_spelling a.0)) ∙ ap (λ (p : B × List ℕ). length (spell p.0)) same in
    omega (arith, whole, behind, value))

measured-as_record : {A B : Type 0} (to : A → B) (from : B → A) (f : Field A) → ((x : A) → from (to x) ≡ x) → IsMeasured f → IsMeasured (as_record to from f)
measured-as_record {A} {B} to from f back measured = record {
  all = all-made to f (λ (x : B). f.spell (from x)) (λ (x : A). ap f.spell (back x)) measured;
}

all-many : {A : Type 0} (f : Field A) → IsMeasured f → (count : ℕ) (octets : List ℕ) (r : List A × List ℕ) → many_at f.read count octets ≡ Some r
    → length octets ≡ length (flat_map f.spell r.0) + length r.1
all-many {A} f measured zero octets r is =
    let whole : 0 + length octets ≡ length (flat_map f.spell r.0) + length r.1 = ap (λ (r : List A × List ℕ). length (flat_map f.spell r.0) + length r.1) (same_Some ([], octets) r is) in
    omega (arith, whole)
all-many {A} f measured (suc count) octets r is =
    option_and_then_some (λ (a : A × List ℕ). option_map (with_front a.0) (many_at f.read count a.1)) (f.read octets) r is (λ (a : A × List ℕ) at is'.
    mapped_some (with_front a.0) (many_at f.read count a.1) r is' (λ (more : List A × List ℕ) at' same.
    let one = measured.all octets a.0 a.1 at in
    let others = all-many f measured count a.1 more at' in
    let all = length-append (f.spell a.0) (flat_map f.spell more.0) in
    let whole : length (flat_map f.spell (a.0 ∷ more.0)) + length more.1 ≡ length (flat_map f.spell r.0) + length r.1
    = ap (λ (r : List A × List ℕ). length (flat_map f.spell r.0) + length r.1) same in
    omega (arith, one, others, all, whole)))

all-counted : {A : Type 0} (test : ℕ → Bool) (f : Field A) → IsMeasured f → (octets : List ℕ) (xs : List A) (rest : List ℕ) → (counted_list test f).read octets ≡ Some (xs, rest)
    → length octets ≡ length ((counted_list test f).spell xs) + length rest
all-counted test f measured [] xs rest is = absurd (none-some (xs, rest) is)
all-counted test f measured (count ∷ octets) xs rest is =
    let all = all-many f measured count octets (xs, rest) (chosen_some (test count) (many_at f.read count octets) (xs, rest) is).1 in omega (arith, all)

all-values : (octets : List ℕ) (values : List (List ℕ)) (rest : List ℕ) → values_to_the_end.read octets ≡ Some (values, rest) → length octets ≡ length (values_to_the_end.spell values) + length rest
all-values octets values rest is =
    option_and_then_some no_rest (params_of octets) (values, rest) is (λ strings at is'.
    let pair = same_Some (strings, []) (values, rest) (chosen_some (is_row strings) (Some (strings, [])) (values, rest) is').1 in
    let spelling : length octets ≡ length (values_to_the_end.spell strings) = ap (λ (xs : List ℕ). length xs) (AreParams-from_params_of strings octets at) in
    let value : length (values_to_the_end.spell strings) ≡ length (values_to_the_end.spell values) = ap (λ (p : List (List ℕ) × List ℕ). length (values_to_the_end.spell p.0)) pair in
    let behind : 0 ≡ length rest = ap (λ (p : List (List ℕ) × List ℕ). length p.1) pair in
    omega (arith, spelling, value, behind))

all-marked : {A : Type 0} (mark : ℕ) (f : Field A) → IsMeasured f → (octets : List ℕ) (x : A) (rest : List ℕ) → (with_mark mark f).read octets ≡ Some (x, rest) → length octets ≡ length ((with_mark mark f).spell x) + length rest
all-marked mark f measured [] x rest is = absurd (none-some (x, rest) is)
all-marked mark f measured (first ∷ octets) x rest is =
    let whole = measured.all octets x rest (chosen_some (first == mark) (f.read octets) (x, rest) is).1 in omega (arith, whole)

measured-number : IsMeasured number
measured-number = record { all = all-number }

measured-octet : (test : ℕ → Bool) → IsMeasured (octet test)
measured-octet test = record { all = all-octet test }

measured-letter : {A : Type 0} (code : A → ℕ) (value : ℕ → Option A) → IsMeasured (letter code value)
measured-letter code value = record { all = all-letter code value }

measured-text : (test : List ℕ → Bool) → IsMeasured (text test)
measured-text test = record { all = all-text test }

measured-marked : {A : Type 0} (mark : ℕ) (f : Field A) → IsMeasured f → IsMeasured (with_mark mark f)
measured-marked mark f measured = record { all = all-marked mark f measured }

measured-counted : {A : Type 0} (test : ℕ → Bool) (f : Field A) → IsMeasured f → IsMeasured (counted_list test f)
measured-counted test f measured = record { all = all-counted test f measured }

measured-values : IsMeasured values_to_the_end
measured-values = record { all = all-values }

measured-columns : IsMeasured columns
measured-columns = measured-counted is_count_of_columns (text is_name) (measured-text is_name)

measured-conditions : IsMeasured conditions
measured-conditions =
    measured-counted is_count_of_conditions _ (measured-as_record to_condition from_condition _ (λ x. refl) (
    measured-then _ _ (measured-text is_name) (measured-then _ _ (measured-letter comparison_code comparison_of) (measured-text is_narrow))))

measured-table : IsMeasured table_record
measured-table =
    measured-marked _ _ (measured-then _ _ measured-number (measured-then _ _ measured-number (measured-then _ _ (measured-text is_name) measured-columns)))

measured-view : IsMeasured view_record
measured-view =
    measured-marked _ _ (measured-then _ _ measured-number (measured-then _ _ measured-number (measured-then _ _ measured-number (
    measured-then _ _ (measured-text is_name) (measured-then _ _ measured-columns measured-conditions)))))

measured-dictionary : IsMeasured dictionary_record
measured-dictionary =
    measured-marked _ _ (measured-then _ _ measured-number (measured-then _ _ measured-number (
    measured-then _ _ (measured-text is_name) (measured-letter subject_code subject_of))))

-- one of two branches gives what is read
in_branch : {X P : Type 0} (b : Bool) (o p : Option X) (x : X) → (if b then o else p) ≡ Some x → (o ≡ Some x → P) → (p ≡ Some x → P) → P
in_branch true o p x is first second = first is
in_branch false o p x is first second = second is

measured-object : IsMeasured object_record
measured-object = record {
  all = λ octets (o : Object) rest is.
      in_branch (starts_with 0x02 octets) _ _ (o, rest) is
      (all-made to_table table_record object_spelling (λ x. refl) measured-table octets o rest)
      (λ is'. in_branch (starts_with 0x03 octets) _ _ (o, rest) is'
      (all-made to_view view_record object_spelling (λ x. refl) measured-view octets o rest)
      (all-made to_dictionary dictionary_record object_spelling (λ x. refl) measured-dictionary octets o rest));
}

measured-whole : {A : Type 0} (f : Field A) → IsMeasured f → (octets : List ℕ) (x : A) → whole f.read octets ≡ Some x → length octets ≡ length (f.spell x)
measured-whole {A} f measured octets x is =
    option_and_then_some (λ (a : A × List ℕ). if length a.1 == 0 then Some a.0 else None) (f.read octets) x is (λ (a : A × List ℕ) at is'.
    let ends = chosen_some (length a.1 == 0) (Some a.0) x is' in
    let all = measured.all octets a.0 a.1 at in
    let none = eqb-true (length a.1) 0 ends.0 in
    let value : length (f.spell a.0) ≡ length (f.spell x) = ap (λ (y : A). length (f.spell y)) (same_Some a.0 x ends.1) in
    omega (arith, all, none, value))

pub length-counter_in : (octets : List ℕ) (next : ℕ) → counter_in octets ≡ Some next → length octets ≡ length (counter_record.spell next)
length-counter_in = measured-whole counter_record (measured-marked _ _ measured-number)

pub length-user_in : (octets : List ℕ) (u : User) → user_in octets ≡ Some u → length octets ≡ length (user_record.spell u)
length-user_in =
    measured-whole user_record (measured-marked _ _ (measured-as_record to_user from_user _ (λ x. refl) (
    measured-then _ _ measured-number (measured-then _ _ measured-number (
    measured-then _ _ (measured-letter profile_code profile_of) (measured-then _ _ (measured-octet is_tries) (measured-then _ _ (measured-text is_name) (measured-text is_secret))))))))

pub length-object_in : (octets : List ℕ) (o : Object) → object_in octets ≡ Some o → length octets ≡ length (object_spelling o)
length-object_in = measured-whole object_record measured-object

pub length-grant_in : (octets : List ℕ) (g : Grant) → grant_in octets ≡ Some g → length octets ≡ length (grant_record.spell g)
length-grant_in =
    measured-whole grant_record (measured-marked _ _ (measured-as_record to_grant from_grant _ (λ x. refl) (
    measured-then _ _ measured-number (measured-then _ _ measured-number (measured-then _ _ measured-number (measured-octet is_privileges))))))

pub length-row_in : (octets : List ℕ) (r : RowRecord) → row_in octets ≡ Some r → length octets ≡ length (row_record.spell r)
length-row_in =
    measured-whole row_record (measured-marked _ _ (measured-as_record to_row from_row _ (λ x. refl) (
    measured-then _ _ measured-number (measured-then _ _ measured-number measured-values))))
