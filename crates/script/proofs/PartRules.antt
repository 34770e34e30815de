-- The rules of what statements are made of: names, literals, conditions, changes, privileges, secrets, numbers of channels.
use Rattle.std.proofs.Common.{◌≡◌, ℕ, zero, suc, ◌+◌, ◌==◌, ◌≤◌, ◌<◌, bit_or, nat_eq, nat_le, nat_lt, ◌-◌, Bool, true, false, not, ◌&&◌, ◌||◌, List, [], ◌∷◌, ◌++◌, length, map, Option, Some, None, Result, Ok, Err, IfSome, option_and_then, if◌then◌else◌, refl, ◌∙◌, ap, codes, lit≤, lit<, arith}
use Rattle.std.specs.List.{list_all, starts_with, ends_with, slice_range}
use Rattle.std.specs.Result.{result_ok}
use Rattle.std.specs.Str.{bytes_eq}
use Rattle.std.proofs.lemmas.Bool.{and_parts, le-leb, leb-true}
use Rattle.std.proofs.lemmas.Nat.{or_lt, le_or_r}
use Rattle.std.proofs.lemmas.Option.{IfSome_then}
use Rattle.std.proofs.lemmas.List.{length-append}
use Rattle.hex.specs.Hex.{decode_of}
use Rattle.hex.proofs.HexLemmas.{decode_of-ok}
use Rattle.scql_base.specs.declared.condition.Condition.{Condition}
use Rattle.scql_base.specs.declared.words.Profile.{Profile}
use Rattle.scql_base.specs.declared.words.Profile.TheVariants.{DbO, Dboo, Dbbu}
use Rattle.scql_base.specs.declared.words.Subject.{Subject}
use Rattle.scql_base.specs.Name.{IsName, is_name, name_of}
use Rattle.scql_base.specs.Row.{is_narrow}
use Rattle.scql_base.specs.Octets.{within}
use Rattle.scql_model.specs.Records.{is_secret, is_privileges, is_count_of_columns}
use Rattle.scql_model.specs.Parameters.{are_columns, are_chosen_columns, are_conditions, are_changes, is_verified_secret}
use Rattle.scql_model.proofs.LongerLists.{all-added}
use Rattle.script.specs.Reading.{one, optional}
use Rattle.script.specs.Meanings.{literal_of, text_of, hexadecimal_of, undoubled, presented, given, presented_secret_of, given_secret_of, comparison_of, privilege_of, profile_of, subject_of, further_channel_of, channel_of, new_name_of}
use Rattle.script.specs.Grammar as grammar
use Rattle.script.specs.Grammar.{name, literal, with_name, names, columns, with_condition, conditions, where_conditions, with_literal, literals, with_change, changes, with_privilege, privileges}
use Rattle.script.proofs.Formed.{RuleGives, Anything, name_of-is, IsNew, new_name_of-is, AreNames, no_names, name-added}
use Rattle.script.proofs.Fresh.{fresh_name, none-new}
use Rattle.script.proofs.Lawful.{IsLawful, gives-lawful, one-lawful, optional-lawful, after-lawful, bind-lawful, word-lawful, weaker-lawful, listed-lawful}

either : {A : Type 0} (P : A → Type 0) (b : Bool) (x y : Option A) → IfSome x P → IfSome y P → IfSome (if b then x else y) P
either P true x y is-x is-y = is-x
either P false x y is-x is-y = is-y

-- a token of which nothing is asked
any-lawful : {A : Type 0} (meaning : List ℕ → Option A) (octets : List ℕ) {x : A} → meaning octets ≡ Some x → meaning [] ≡ None → IsLawful (Anything A) (one meaning)
any-lawful {A} meaning octets some none = one-lawful meaning octets some none (λ octets. go (meaning octets))
  where
    go : (x : Option A) → IfSome x (Anything A)
    go None = tt
    go (Some x) = tt

-- names
pub name-lawful : IsLawful IsName grammar.name
unfolding name
name-lawful = one-lawful name_of (codes "A") refl refl name_of-is

pub name-reads : RuleGives IsName grammar.name
name-reads = name-lawful.reads

new_name-lawful : (count : ℕ) (names : List (List ℕ)) → count < 15 → AreNames count names → IsLawful (IsNew names) (one (new_name_of names))
new_name-lawful count names few are =
    let new = fresh_name names (omega (arith, few, are.counted)) in
    one-lawful (new_name_of names) new.octets new.is (none-new names) (new_name_of-is names)

with_name-lawful : (count : ℕ) (names : List (List ℕ)) → count < 15 → AreNames count names → IsLawful (AreNames (count + 1)) (grammar.with_name names)
unfolding with_name
with_name-lawful count names few are =
    bind-lawful (new_name-lawful count names few are) (λ name is. gives-lawful (names ++ name ∷ []) (name-added count names name are is))

abbrev pub AreColumns : List (List ℕ) → Type 0
AreColumns columns = are_columns columns ≡ true

AreColumns-of : (count : ℕ) (names : List (List ℕ)) → 1 ≤ count → count ≤ 15 → AreNames count names → AreColumns names
AreColumns-of count names some few are =
    rw (are.named, are.different, le-leb 1 (length names) (rw are.counted some), le-leb (length names) 15 (rw are.counted few)) refl

pub names-lawful : IsLawful AreColumns grammar.names
unfolding names
names-lawful = listed-lawful AreNames AreColumns 15 (codes ",") grammar.with_name refl with_name-lawful AreColumns-of [] (lit≤ tt) no_names

abbrev pub AreChosen : List (List ℕ) → Type 0
AreChosen columns = are_chosen_columns columns ≡ true

chosen-of : (columns : List (List ℕ)) → AreColumns columns → AreChosen columns
chosen-of columns are =
    let parts = and_parts (is_count_of_columns (length columns)) _ are in
    rw ((and_parts (nat_le 1 (length columns)) _ parts.0).1, parts.1) refl

pub columns-lawful : IsLawful AreChosen grammar.columns
unfolding columns
columns-lawful = after-lawful (codes "*") refl (gives-lawful [] refl) (weaker-lawful chosen-of names-lawful)

-- literals
abbrev IsNarrow : List ℕ → Type 0
IsNarrow value = is_narrow value ≡ true

within-is : (most : ℕ) (P : List ℕ → Type 0) (octets : List ℕ) → (nat_le (length octets) most ≡ true → P octets) → IfSome (within most octets) P
within-is most P octets so = go (nat_le (length octets) most) refl
  where
    go : (fits : Bool) → nat_le (length octets) most ≡ fits → IfSome (if fits then Some octets else None) P
    go true is = so is
    go false is = tt

text_of-narrow : (inner : List ℕ) → IfSome (text_of inner) IsNarrow
text_of-narrow inner = go (undoubled false inner)
  where
    go : (text : Option (List ℕ)) → IfSome (option_and_then (within 200) text) IsNarrow
    go None = tt
    go (Some text) = within-is 200 IsNarrow text (λ few. few)

hexadecimal_of-narrow : (digits : List ℕ) → IfSome (hexadecimal_of digits) IsNarrow
hexadecimal_of-narrow digits = go (nat_le (length digits) 400) (decode_of digits) refl refl
  where
    go : (fits : Bool) (octets : Result (List ℕ) _) → nat_le (length digits) 400 ≡ fits → decode_of digits ≡ octets → IfSome (if fits then result_ok octets else None) IsNarrow
    go false octets is read = tt
    go true (Err e) is read = tt
    go true (Ok octets) is read = le-leb (length octets) 200 (omega (arith, leb-true (length digits) 400 is, (decode_of-ok digits octets read).2))

literal_of-narrow : (octets : List ℕ) → IfSome (literal_of octets) IsNarrow
literal_of-narrow octets =
    let text : Option (List ℕ) = text_of (slice_range octets 1 (length octets - 1)) in
    let hexadecimal : Option (List ℕ) = if starts_with nat_eq octets (codes "X'") && nat_lt 2 (length octets) then hexadecimal_of (slice_range octets 2 (length octets - 1)) else None in
    either IsNarrow (nat_lt (length octets) 2 || not (ends_with nat_eq octets (codes "'"))) None (if starts_with nat_eq octets (codes "'") then text else hexadecimal) tt
    (either IsNarrow (starts_with nat_eq octets (codes "'")) text hexadecimal (text_of-narrow (slice_range octets 1 (length octets - 1)))
    (either IsNarrow (starts_with nat_eq octets (codes "X'") && nat_lt 2 (length octets)) (hexadecimal_of (slice_range octets 2 (length octets - 1))) None
    (hexadecimal_of-narrow (slice_range octets 2 (length octets - 1))) tt))

literal-lawful : IsLawful IsNarrow grammar.literal
unfolding literal undoubled
literal-lawful = one-lawful literal_of (codes "''") refl refl literal_of-narrow

-- values of a row
record AreValues (count : ℕ) (values : List (List ℕ)) : Type 0 where
  pub counted : length values ≡ count
  pub narrow : list_all is_narrow values ≡ true

with_literal-lawful : (count : ℕ) (values : List (List ℕ)) → count < 15 → AreValues count values → IsLawful (AreValues (count + 1)) (grammar.with_literal values)
unfolding with_literal
with_literal-lawful count values few are =
    bind-lawful literal-lawful (λ value is. gives-lawful (values ++ value ∷ []) (record {
      counted = length-append values (value ∷ []) ∙ ap (λ n. n + 1) are.counted;
      narrow = all-added is_narrow values value are.narrow is;
    }))

pub record AreRowValues (values : List (List ℕ)) : Type 0 where
  pub count : is_count_of_columns (length values) ≡ true
  pub narrow : list_all is_narrow values ≡ true

pub literals-lawful : IsLawful AreRowValues grammar.literals
unfolding literals
literals-lawful =
    listed-lawful AreValues AreRowValues 15 (codes ",") grammar.with_literal refl with_literal-lawful
    (λ count values some few are. record { count = rw (le-leb 1 (length values) (rw are.counted some), le-leb (length values) 15 (rw are.counted few)) refl; narrow = are.narrow })
    [] (lit≤ tt) (record { counted = refl; narrow = refl })

-- conditions
abbrev is_condition : Condition → Bool
is_condition c = is_name c.column && is_narrow c.value

record AreSome (count : ℕ) (conditions : List Condition) : Type 0 where
  pub counted : length conditions ≡ count
  pub formed : list_all is_condition conditions ≡ true

with_condition-lawful : (count : ℕ) (conditions : List Condition) → count < 8 → AreSome count conditions → IsLawful (AreSome (count + 1)) (grammar.with_condition conditions)
unfolding with_condition
with_condition-lawful count conditions few are =
    bind-lawful name-lawful (λ column is-name. bind-lawful (any-lawful comparison_of (codes "=") refl refl) (λ comparison any.
    bind-lawful literal-lawful (λ value is.
    let c : Condition = record { column = column; comparison = comparison; value = value } in
    gives-lawful (conditions ++ c ∷ []) (record {
      counted = length-append conditions (c ∷ []) ∙ ap (λ n. n + 1) are.counted;
      formed = all-added is_condition conditions c are.formed (rw (is-name, is) refl);
    }))))

abbrev pub AreConditions : List Condition → Type 0
AreConditions conditions = are_conditions conditions ≡ true

conditions-lawful : IsLawful AreConditions grammar.conditions
unfolding conditions
conditions-lawful =
    listed-lawful AreSome AreConditions 8 (codes "AND") grammar.with_condition refl with_condition-lawful
    (λ count conditions some few are. rw (le-leb (length conditions) 8 (rw are.counted few)) are.formed)
    [] (lit≤ tt) (record { counted = refl; formed = refl })

pub where_conditions-lawful : IsLawful AreConditions grammar.where_conditions
unfolding where_conditions
where_conditions-lawful = after-lawful (codes "WHERE") refl conditions-lawful (gives-lawful [] refl)

-- changes
abbrev Change : Type 0
Change = List ℕ × List ℕ

abbrev column_of : Change → List ℕ
column_of change = change.0

abbrev is_narrow_change : Change → Bool
is_narrow_change change = is_narrow change.1

record AreSomeChanges (count : ℕ) (changes : List Change) : Type 0 where
  pub names : AreNames count (map column_of changes)
  pub narrow : list_all is_narrow_change changes ≡ true

map-added : (changes : List Change) (change : Change) → map column_of (changes ++ change ∷ []) ≡ map column_of changes ++ column_of change ∷ []
map-added [] change = refl
map-added (first ∷ changes) change = ap (λ rest. column_of first ∷ rest) (map-added changes change)

with_change-lawful : (count : ℕ) (changes : List Change) → count < 15 → AreSomeChanges count changes → IsLawful (AreSomeChanges (count + 1)) (grammar.with_change changes)
unfolding with_change
with_change-lawful count changes few are =
    let others = map column_of changes in
    bind-lawful (new_name-lawful count others few are.names) (λ column is. word-lawful (codes "=") refl (bind-lawful literal-lawful (λ value narrow.
    gives-lawful (changes ++ (column, value) ∷ []) (record {
      names = rw (map-added changes (column, value)) (name-added count others column are.names is);
      narrow = all-added is_narrow_change changes (column, value) are.narrow narrow;
    }))))

abbrev pub AreChanges : List (List ℕ × List ℕ) → Type 0
AreChanges changes = are_changes changes ≡ true

pub changes-lawful : IsLawful AreChanges grammar.changes
unfolding changes
changes-lawful =
    listed-lawful AreSomeChanges AreChanges 15 (codes ",") grammar.with_change refl with_change-lawful
    (λ count changes some few are. rw (AreColumns-of count (map column_of changes) some few are.names) are.narrow)
    [] (lit≤ tt) (record { names = no_names; narrow = refl })

-- privileges
record AreBits (count bits : ℕ) : Type 0 where
  pub few : bits < 16
  pub some : 1 ≤ count → 1 ≤ bits

privilege_of-is : (octets : List ℕ) → IfSome (privilege_of octets) (λ bit. (1 ≤ bit) × (bit < 16))
privilege_of-is octets = go (bytes_eq octets (codes "SELECT")) (bytes_eq octets (codes "INSERT")) (bytes_eq octets (codes "UPDATE")) (bytes_eq octets (codes "DELETE"))
  where
    go : (a b c d : Bool) → IfSome (if a then Some 1 else if b then Some 2 else if c then Some 4 else if d then Some 8 else None) (λ bit. (1 ≤ bit) × (bit < 16))
    go true b c d = (lit≤ tt, lit< tt)
    go false true c d = (lit≤ tt, lit< tt)
    go false false true d = (lit≤ tt, lit< tt)
    go false false false true = (lit≤ tt, lit< tt)
    go false false false false = tt

with_privilege-lawful : (count bits : ℕ) → count < 500 → AreBits count bits → IsLawful (AreBits (count + 1)) (grammar.with_privilege bits)
unfolding with_privilege
with_privilege-lawful count bits few are =
    bind-lawful (one-lawful privilege_of (codes "SELECT") refl refl privilege_of-is)
    (λ bit is. gives-lawful (bit_or bits bit) (record {
      few = or_lt 4 bits bit are.few is.1;
      some = λ counted. omega (arith, le_or_r bits bit, is.0);
    }))

abbrev pub ArePrivileges : ℕ → Type 0
ArePrivileges bits = is_privileges bits ≡ true

pub privileges-lawful : IsLawful ArePrivileges grammar.privileges
unfolding privileges
privileges-lawful =
    listed-lawful AreBits ArePrivileges 500 (codes ",") grammar.with_privilege refl with_privilege-lawful
    (λ count bits some few are. rw (le-leb 1 bits (are.some some), le-leb bits 15 (omega (arith, are.few))) refl)
    0 (lit≤ tt) (record { few = lit< tt; some = λ counted. absurd (omega (arith, counted)) })

-- secrets and profiles
abbrev pub IsGiven : List ℕ → Type 0
IsGiven secret = is_secret secret ≡ true

abbrev pub IsPresented : List ℕ → Type 0
IsPresented secret = is_verified_secret secret ≡ true

abbrev pub IsMade : Profile → Type 0
IsMade profile = profile ≡ DbO → ⊥

given_secret_of-is : (octets : List ℕ) → IfSome (given_secret_of octets) IsGiven
given_secret_of-is octets = go (literal_of octets)
  where
    tests : (secret : List ℕ) (none some : Bool) → length secret == 0 ≡ none → nat_le 4 (length secret) ≡ some → IfSome (if none || some then within 8 secret else None) IsGiven
    tests secret true some is-none is-some = within-is 8 IsGiven secret (λ few. rw is-none refl)
    tests secret false true is-none is-some = within-is 8 IsGiven secret (λ few. rw (is-none, is-some, few) refl)
    tests secret false false is-none is-some = tt

    go : (secret : Option (List ℕ)) → IfSome (option_and_then given secret) IsGiven
    go None = tt
    go (Some secret) = tests secret (length secret == 0) (nat_le 4 (length secret)) refl refl

pub given_secret-lawful : IsLawful IsGiven (optional given_secret_of [])
unfolding undoubled
given_secret-lawful = optional-lawful given_secret_of [] (codes "''") refl refl given_secret_of-is refl

presented_secret_of-is : (octets : List ℕ) → IfSome (presented_secret_of octets) IsPresented
presented_secret_of-is octets = go (literal_of octets)
  where
    tests : (secret : List ℕ) (none : Bool) → length secret == 0 ≡ none → IfSome (if none then None else within 255 secret) IsPresented
    tests secret true is-none = tt
    tests secret false is-none = within-is 255 IsPresented secret (λ few. rw (some-of (length secret) is-none, few) refl)
      where
        some-of : (n : ℕ) → n == 0 ≡ false → nat_le 1 n ≡ true
        some-of zero is = absurd (cc)
        some-of (suc n) is = le-leb 1 (suc n) (omega arith)

    go : (secret : Option (List ℕ)) → IfSome (option_and_then presented secret) IsPresented
    go None = tt
    go (Some secret) = tests secret (length secret == 0) refl

pub presented_secret-lawful : IsLawful IsPresented (one presented_secret_of)
unfolding undoubled
presented_secret-lawful = one-lawful presented_secret_of (codes "'A'") refl refl presented_secret_of-is

profile_of-is : (octets : List ℕ) → IfSome (profile_of octets) IsMade
profile_of-is octets = go (bytes_eq octets (codes "DBOO")) (bytes_eq octets (codes "DBBU"))
  where
    go : (a b : Bool) → IfSome (if a then Some Dboo else if b then Some Dbbu else None) IsMade
    go true b = λ is. cc
    go false true = λ is. cc
    go false false = tt

pub profile-lawful : IsLawful IsMade (one profile_of)
profile-lawful = one-lawful profile_of (codes "DBOO") refl refl profile_of-is

pub subject-lawful : IsLawful (Anything Subject) (one subject_of)
subject-lawful = any-lawful subject_of (codes "O") refl refl

-- numbers of channels
abbrev pub IsFurther : ℕ → Type 0
IsFurther number = (1 ≤ number) × (number ≤ 3)

abbrev pub IsChannel : ℕ → Type 0
IsChannel number = number ≤ 3

further_channel_of-is : (octets : List ℕ) → IfSome (further_channel_of octets) IsFurther
further_channel_of-is octets = go (bytes_eq octets (codes "1")) (bytes_eq octets (codes "2")) (bytes_eq octets (codes "3"))
  where
    go : (a b c : Bool) → IfSome (if a then Some 1 else if b then Some 2 else if c then Some 3 else None) IsFurther
    go true b c = (lit≤ tt, lit≤ tt)
    go false true c = (lit≤ tt, lit≤ tt)
    go false false true = (lit≤ tt, lit≤ tt)
    go false false false = tt

pub further_channel-lawful : IsLawful IsFurther (one further_channel_of)
further_channel-lawful = one-lawful further_channel_of (codes "1") refl refl further_channel_of-is

channel_of-is : (octets : List ℕ) → IfSome (channel_of octets) IsChannel
channel_of-is octets =
    either IsChannel (bytes_eq octets (codes "0")) (Some 0) (further_channel_of octets) (lit≤ tt)
    (IfSome_then (further_channel_of octets) (further_channel_of-is octets) (λ number is. is.1))

pub channel-lawful : IsLawful IsChannel (one channel_of)
channel-lawful = one-lawful channel_of (codes "0") refl refl channel_of-is
