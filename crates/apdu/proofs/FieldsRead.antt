-- Data fields, by the parts that are read one after the other.
use Rattle.std.proofs.Common.{◌≡◌, ℕ, nat_le, ◌&&◌, Bool, true, false, List, [], ◌∷◌, length, take, drop, Option, Some, None, refl, ap, sym, ◌∙◌}
use Rattle.std.specs.Prelude.{option_map}
use Rattle.scql_base.specs.declared.condition.Condition.{Condition}
use Rattle.scql_base.specs.declared.operation.Operation.{Operation}
use Rattle.scql_base.specs.declared.operation.Operation.TheVariants.{CreateUser, Update}
use Rattle.scql_base.specs.declared.words.Profile.{Profile}
use Rattle.scql_base.specs.Strings.{with_string}
use Rattle.scql_base.specs.Name.{is_name, name_of}
use Rattle.scql_model.specs.Records.{is_privileges}
use Rattle.scql_model.specs.Parameters as parameters
use Rattle.scql_model.specs.Parameters.{◌>>=◌, only_where, are_chosen_columns, are_conditions, are_changes, Choice, choice_in, create_user_in, is_new_secret, made_profile_of, named_in, update_in}
use Rattle.apdu.specs.Fields.{granted_in, name_in, names_in, choice_of, conditions_in, changes_in, made_profile_in, octet_in, privileges_in}

-- A name alone.
pub named-read : (make : List ℕ → Operation) (whole : Option (List (List ℕ))) → option_map make (whole >>= name_in) ≡ whole >>= named_in make
named-read make None = refl
named-read make (Some []) = refl
named-read make (Some (name ∷ [])) = go (is_name name)
  where
    go : (named : Bool) → option_map make (only_where named name) ≡ only_where named (make name)
    go true = refl
    go false = refl
named-read make (Some (name ∷ other ∷ strings)) = refl

-- Privileges and two names.
granted-steps : (string object grantee : List ℕ)
    → granted_in (string ∷ object ∷ grantee ∷ []) ≡ (privileges_in string >>= λ p. name_of object >>= λ o. option_map (λ (g : List ℕ). let all : ℕ × List ℕ × List ℕ = (p, o, g) in all) (name_of grantee))
granted-steps [] object grantee = refl
granted-steps (a ∷ b ∷ string) object grantee = refl
granted-steps (code ∷ []) object grantee = go (is_privileges code) (is_name object) (is_name grantee)
  where
    all : ℕ × List ℕ × List ℕ
    all = (code, object, grantee)

    go : (p o g : Bool) → only_where (p && o && g) all
        ≡ (only_where p code >>= λ p. only_where o object >>= λ o. option_map (λ (g : List ℕ). let all : ℕ × List ℕ × List ℕ = (p, o, g) in all) (only_where g grantee))
    go true true true = refl
    go true true false = refl
    go true false g = refl
    go false o g = refl

-- two strings before a third one
pub three : (whole after : Option (List (List ℕ))) (a b c : List ℕ) (rest : Option (List (List ℕ))) → whole ≡ with_string a after → after ≡ with_string b rest → rest ≡ Some (c ∷ []) → whole ≡ Some (a ∷ b ∷ c ∷ [])
three whole after a b c rest first second third = first ∙ ap (with_string a) (second ∙ ap (with_string b) third)

pub granted-read : (whole : Option (List (List ℕ))) (string object grantee : List ℕ) (p : ℕ) (o g : List ℕ) → whole ≡ Some (string ∷ object ∷ grantee ∷ [])
    → Some p ≡ privileges_in string → Some o ≡ name_of object → Some g ≡ name_of grantee → Some (let all : ℕ × List ℕ × List ℕ = (p, o, g) in all) ≡ whole >>= granted_in
granted-read whole string object grantee p o g is at_p at_o at_g = rw (is, granted-steps string object grantee, ← at_p, ← at_o, ← at_g) refl

pub granted-unnamed : (whole : Option (List (List ℕ))) (string object grantee : List ℕ) (p : ℕ) (o : List ℕ) → whole ≡ Some (string ∷ object ∷ grantee ∷ [])
    → Some p ≡ privileges_in string → Some o ≡ name_of object → None ≡ name_of grantee → None ≡ whole >>= granted_in
granted-unnamed whole string object grantee p o is at_p at_o at_g = rw (is, granted-steps string object grantee, ← at_p, ← at_o, ← at_g) refl

pub granted-nothing : (whole : Option (List (List ℕ))) (string object grantee : List ℕ) (p : ℕ) → whole ≡ Some (string ∷ object ∷ grantee ∷ [])
    → Some p ≡ privileges_in string → None ≡ name_of object → None ≡ whole >>= granted_in
granted-nothing whole string object grantee p is at_p at_o = rw (is, granted-steps string object grantee, ← at_p, ← at_o) refl

-- A name, a profile and a secret.
created-steps : (secrets : Bool) (name string secret : List ℕ)
    → create_user_in secrets (name ∷ string ∷ secret ∷ []) ≡ (made_profile_in string >>= λ profile. name_of name >>= λ n. option_map (CreateUser n profile) (only_where (is_new_secret secrets secret) secret))
created-steps secrets name [] secret = refl
created-steps secrets name (a ∷ b ∷ string) secret = refl
created-steps secrets name (code ∷ []) secret = of_profile (made_profile_of code)
  where
    of_tests : (profile : Profile) (named kept : Bool) → only_where (named && kept) (CreateUser name profile secret) ≡ (only_where named name >>= λ n. option_map (CreateUser n profile) (only_where kept secret))
    of_tests profile true true = refl
    of_tests profile true false = refl
    of_tests profile false kept = refl

    of_profile : (o : Option Profile) → (o >>= λ profile. only_where (is_name name && is_new_secret secrets secret) (CreateUser name profile secret))
        ≡ (o >>= λ profile. name_of name >>= λ n. option_map (CreateUser n profile) (only_where (is_new_secret secrets secret) secret))
    of_profile None = refl
    of_profile (Some profile) = of_tests profile (is_name name) (is_new_secret secrets secret)

-- a name and a secret that were read, or weren't, behind a profile that was
pub created-read : (whole : Option (List (List ℕ))) (secrets : Bool) (name string secret : List ℕ) (profile : Profile) (n s : Option (List ℕ)) → whole ≡ Some (name ∷ string ∷ secret ∷ [])
    → Some profile ≡ made_profile_in string → n ≡ name_of name → s ≡ only_where (is_new_secret secrets secret) secret
    → (n >>= λ n. option_map (CreateUser n profile) s) ≡ whole >>= create_user_in secrets
created-read whole secrets name string secret profile n s is at_p at_n at_s = rw (is, created-steps secrets name string secret, ← at_p, ← at_n, ← at_s) refl

pub created-unnamed : (whole : Option (List (List ℕ))) (secrets : Bool) (name string secret : List ℕ) (profile : Profile) → whole ≡ Some (name ∷ string ∷ secret ∷ [])
    → Some profile ≡ made_profile_in string → None ≡ name_of name → None ≡ whole >>= create_user_in secrets
created-unnamed whole secrets name string secret profile is at_p at_n = rw (is, created-steps secrets name string secret, ← at_p, ← at_n) refl

-- Columns and conditions.
choice-steps : (string : List ℕ) (strings : List (List ℕ))
    → choice_in (string ∷ strings) ≡ option_map choice_of (octet_in string >>= λ count. names_in count strings >>= λ x. option_map (λ (conditions : List Condition). (x.0, conditions)) (conditions_in x.1))
choice-steps [] strings = refl
choice-steps (a ∷ b ∷ string) strings = refl
choice-steps (count ∷ []) strings = of_front (nat_le count (length strings) && are_chosen_columns (take count strings))
  where
    whole : List Condition → Choice
    whole conditions = record { columns = take count strings; conditions = conditions }

    nothing : (o : Option (List Condition)) → (o >>= λ conditions. only_where (false && are_conditions conditions) (whole conditions)) ≡ None
    nothing None = refl
    nothing (Some conditions) = refl

    of_test : (conditions : List Condition) (test : Bool) → only_where test (whole conditions) ≡ option_map choice_of (option_map (λ (conditions : List Condition). (take count strings, conditions)) (only_where test conditions))
    of_test conditions true = refl
    of_test conditions false = refl

    of_conditions : (o : Option (List Condition))
        → (o >>= λ conditions. only_where (are_conditions conditions) (whole conditions))
        ≡ option_map choice_of (option_map (λ (conditions : List Condition). (take count strings, conditions)) (o >>= λ conditions. only_where (are_conditions conditions) conditions))
    of_conditions None = refl
    of_conditions (Some conditions) = of_test conditions (are_conditions conditions)

    of_front : (front : Bool)
        → (parameters.conditions_in (drop count strings) >>= λ conditions. only_where (front && are_conditions conditions) (whole conditions))
        ≡ option_map choice_of (only_where {A = List (List ℕ) × List (List ℕ)} front (take count strings, drop count strings) >>= λ x. option_map (λ (conditions : List Condition). (x.0, conditions)) (conditions_in x.1))
    of_front true = of_conditions (parameters.conditions_in (drop count strings))
    of_front false = nothing (parameters.conditions_in (drop count strings))

-- columns and conditions that were read, or weren't, of strings that octets split into
pub choice-read : (string : List ℕ) (here after : Option (List (List ℕ))) (count : ℕ) (columns : List (List ℕ)) (rest : Option (List (List ℕ))) (conditions : Option (List Condition))
    → here ≡ with_string string after → Some count ≡ octet_in string
    → option_map (λ (strings : List (List ℕ)). let both : List (List ℕ) × List (List ℕ) = (columns, strings) in both) rest ≡ (after >>= names_in count)
    → conditions ≡ (rest >>= conditions_in) → option_map choice_of (option_map (λ (c : List Condition). (columns, c)) conditions) ≡ here >>= choice_in
choice-read string here after count columns rest conditions is at_count at_names at_conditions = rw is (sym (of_after after at_names))
  where
    whole : List (List ℕ) × List (List ℕ) → Option (List (List ℕ) × List Condition)
    whole x = option_map (λ (c : List Condition). (x.0, c)) (conditions_in x.1)

    of_rest : (rest : Option (List (List ℕ))) → conditions ≡ (rest >>= conditions_in)
        → (option_map (λ (strings : List (List ℕ)). let both : List (List ℕ) × List (List ℕ) = (columns, strings) in both) rest >>= whole) ≡ option_map (λ (c : List Condition). (columns, c)) conditions
    of_rest None at = rw at refl
    of_rest (Some strings) at = rw at refl

    of_after : (after : Option (List (List ℕ))) → option_map (λ (strings : List (List ℕ)). let both : List (List ℕ) × List (List ℕ) = (columns, strings) in both) rest ≡ (after >>= names_in count)
        → (with_string string after >>= choice_in) ≡ option_map choice_of (option_map (λ (c : List Condition). (columns, c)) conditions)
    of_after None at = ap (option_map choice_of) (ap (λ o. o >>= whole) (sym at) ∙ of_rest rest at_conditions)
    of_after (Some strings) at =
        choice-steps string strings
        ∙ (ap (λ (o : Option ℕ). option_map choice_of (o >>= λ count. names_in count strings >>= whole)) (sym at_count)
        ∙ ap (option_map choice_of) (ap (λ o. o >>= whole) (sym at) ∙ of_rest rest at_conditions))

-- Changes.
pub update-steps : (strings : List (List ℕ)) → option_map Update (changes_in strings) ≡ update_in strings
update-steps strings = of_changes (parameters.changes_in strings)
  where
    of_test : (changes : List (List ℕ × List ℕ)) (test : Bool) → option_map Update (only_where test changes) ≡ only_where test (Update changes)
    of_test changes true = refl
    of_test changes false = refl

    of_changes : (o : Option (List (List ℕ × List ℕ)))
        → option_map Update (o >>= λ changes. only_where (are_changes changes) changes) ≡ (o >>= λ changes. only_where (are_changes changes) (Update changes))
    of_changes None = refl
    of_changes (Some changes) = of_test changes (are_changes changes)

pub update-read : (o : Option (List (List ℕ))) → option_map Update (o >>= changes_in) ≡ o >>= update_in
update-read None = refl
update-read (Some strings) = update-steps strings
