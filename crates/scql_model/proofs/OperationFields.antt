-- The data field of each operation is read back as that operation, and what is read has its form: first by their parameters, then by the cases of all operations.
use Rattle.std.proofs.Common.{◌≡◌, ◌≤◌, ℕ, ◌==◌, nat_le, ◌&&◌, Bool, true, false, List, [], ◌∷◌, ◌++◌, length, take, drop, Option, Some, None, if◌then◌else◌, refl, ap, subst, ◌∙◌, arith, length-append}
use Rattle.std.specs.List.{flat_map, list_all}
use Rattle.std.proofs.lemmas.Bool.{false≢true, and_parts, and_from, and_right, leb-true, le-leb}
use Rattle.std.proofs.lemmas.Option.{none-some, same_Some}
use Rattle.std.proofs.Math.Seq.{take-append_seam, drop-append_seam}
use Rattle.scql_base.specs.declared.condition.Condition.{Condition}
use Rattle.scql_base.specs.declared.words.Comparison.{Comparison}
use Rattle.scql_base.specs.declared.words.Comparison.TheVariants.{Equal, Less, Greater, AtMost, AtLeast, NotEqual}
use Rattle.scql_base.specs.declared.words.Subject.{Subject}
use Rattle.scql_base.specs.declared.words.Subject.TheVariants.{Objects, Users, Grants}
use Rattle.scql_base.specs.declared.words.Profile.{Profile}
use Rattle.scql_base.specs.declared.words.Profile.TheVariants.{DbO, Dboo, Dbbu}
use Rattle.scql_base.specs.declared.operation.Operation.{Operation}
use Rattle.scql_base.specs.declared.operation.Operation.TheVariants.{CreateTable, CreateView, CreateDictionary, DropTable, DropView, Grant, Revoke, DeclareCursor, Insert, Update, PresentUser, CreateUser, DeleteUser, Verify}
use Rattle.scql_base.specs.declared.operation.OperationKind.{OperationKind}
use Rattle.scql_base.specs.declared.operation.OperationKind.TheVariants as kind
use Rattle.scql_base.specs.Changes.{change_strings}
use Rattle.scql_base.specs.Name.{is_name}
use Rattle.scql_base.specs.Row.{is_narrow, row_size}
use Rattle.scql_base.specs.Strings.{spelled, params_of}
use Rattle.scql_base.proofs.Splitting.{params_of-again}
use Rattle.scql_model.specs.Operations.{kind_of}
use Rattle.scql_model.specs.Records.{comparison_code, comparison_of, subject_code, subject_of, profile_code, is_secret, is_privileges, is_row, is_row_within, is_count_of_columns}
use Rattle.scql_model.specs.Parameters.{◌>>=◌, only_where, are_chosen_columns, are_conditions, are_changes, Choice, conditions_in, condition_strings, choice_in, choice_strings, changes_in, create_table_in, create_view_in, create_dictionary_in, named_in, granted_in, declare_cursor_in, insert_in, update_in, made_profile_of, is_new_secret, create_user_in, is_verified_secret, operation_in, HasForm}
use Rattle.scql_model.specs.Spelling.{field_of, IsTaken}

-- what passed a test
pub passed : {A P : Type 0} (test : Bool) (x y : A) → only_where test x ≡ Some y → (test ≡ true → x ≡ y → P) → P
passed true x y is then' = then' refl (same_Some x y is)
passed false x y is then' = absurd (none-some y is)

-- a value came of what went before
pub found : {A B P : Type 0} (o : Option A) (f : A → Option B) (y : B) → (o >>= f) ≡ Some y → ((x : A) → o ≡ Some x → f x ≡ Some y → P) → P
found None f y is then' = absurd (none-some y is)
found (Some x) f y is then' = then' x refl is

-- an operation of a kind whose fields have their forms
pub record IsRead (asked : OperationKind) (operation : Operation) : Type 0 where
  pub form : HasForm operation
  pub kind : kind_of operation ≡ asked

read-is : (operation operation' : Operation) → HasForm operation → operation ≡ operation' → IsRead (kind_of operation) operation'
read-is operation operation' form is = subst (IsRead (kind_of operation)) is (record { form = form; kind = refl })

-- what spells strings is read as what they are read as
of_strings : (strings : List (List ℕ)) (f : List (List ℕ) → Option Operation) → (params_of (flat_map spelled strings) >>= f) ≡ f strings
of_strings strings f = ap (λ (o : Option (List (List ℕ))). o >>= f) (params_of-again strings)

-- what is read of a data field is read of its parameters
listed : (octets : List ℕ) (f : List (List ℕ) → Option Operation) (asked : OperationKind) → ((strings : List (List ℕ)) (o : Operation) → f strings ≡ Some o → IsRead asked o)
    → (o : Operation) → (params_of octets >>= f) ≡ Some o → IsRead asked o
listed octets f asked formed o is = found (params_of octets) f o is (λ strings at is. formed strings o is)

-- columns and conditions
comparison-again : (comparison : Comparison) → comparison_of (comparison_code comparison) ≡ Some comparison
comparison-again Equal = refl
comparison-again Less = refl
comparison-again Greater = refl
comparison-again AtMost = refl
comparison-again AtLeast = refl
comparison-again NotEqual = refl

conditions-again : (conditions : List Condition) → conditions_in (flat_map condition_strings conditions) ≡ Some conditions
conditions-again [] = refl
conditions-again (c ∷ conditions) = rw (comparison-again c.comparison, conditions-again conditions) refl

choice-again : (columns : List (List ℕ)) (conditions : List Condition) → are_chosen_columns columns ≡ true → are_conditions conditions ≡ true
    → choice_in (choice_strings columns conditions) ≡ Some (record { columns = columns; conditions = conditions })
choice-again columns conditions chosen formed =
    let enough : nat_le (length columns) (length (columns ++ flat_map condition_strings conditions)) ≡ true
    = le-leb (length columns) (length (columns ++ flat_map condition_strings conditions)) (omega (arith, length-append columns (flat_map condition_strings conditions))) in
    rw (drop-append_seam columns (flat_map condition_strings conditions), conditions-again conditions, enough, take-append_seam columns (flat_map condition_strings conditions), chosen, formed) refl

choice-formed : (strings : List (List ℕ)) (choice : Choice) → choice_in strings ≡ Some choice → (are_chosen_columns choice.columns ≡ true) × (are_conditions choice.conditions ≡ true)
choice-formed [] choice is = absurd (none-some choice is)
choice-formed ([] ∷ strings) choice is = absurd (none-some choice is)
choice-formed ((a ∷ b ∷ rest) ∷ strings) choice is = absurd (none-some choice is)
choice-formed ((count ∷ []) ∷ strings) choice is = found (conditions_in (drop count strings)) _ choice is (λ conditions at is.
    passed _ (let c : Choice = record { columns = take count strings; conditions = conditions } in c) choice is (λ test same.
    subst (λ (c : Choice). (are_chosen_columns c.columns ≡ true) × (are_conditions c.conditions ≡ true)) same
    (let t = and_parts _ _ test in ((and_parts _ _ t.0).1, t.1))))

-- CREATE TABLE
read-table : (strings : List (List ℕ)) (o : Operation) → create_table_in strings ≡ Some o → IsRead kind.CreateTable o
read-table [] o is = absurd (none-some o is)
read-table (name ∷ columns) o is = passed _ (CreateTable name columns) o is (λ test same. read-is (CreateTable name columns) o (and_parts _ _ test) same)

-- CREATE VIEW
view-again : (name base : List ℕ) (columns : List (List ℕ)) (conditions : List Condition) → HasForm (CreateView name base columns conditions)
    → create_view_in (name ∷ base ∷ choice_strings columns conditions) ≡ Some (CreateView name base columns conditions)
view-again name base columns conditions form = rw (choice-again columns conditions form.2 form.3, form.0, form.1) refl

read-view : (strings : List (List ℕ)) (o : Operation) → create_view_in strings ≡ Some o → IsRead kind.CreateView o
read-view [] o is = absurd (none-some o is)
read-view (name ∷ []) o is = absurd (none-some o is)
read-view (name ∷ base ∷ strings) o is = found (choice_in strings) _ o is (λ choice at is.
    passed _ (CreateView name base choice.columns choice.conditions) o is (λ test same.
    let names = and_parts _ _ test in
    let chosen = choice-formed strings choice at in
    read-is (CreateView name base choice.columns choice.conditions) o (names.0, names.1, chosen.0, chosen.1) same))

-- CREATE DICTIONARY
subject-again : (subject : Subject) → subject_of (subject_code subject) ≡ Some subject
subject-again Objects = refl
subject-again Users = refl
subject-again Grants = refl

read-dictionary : (strings : List (List ℕ)) (o : Operation) → create_dictionary_in strings ≡ Some o → IsRead kind.CreateDictionary o
read-dictionary (name ∷ (code ∷ []) ∷ []) o is = found (subject_of code) _ o is (λ subject at is.
    passed _ (CreateDictionary name subject) o is (λ test same. read-is (CreateDictionary name subject) o test same))
read-dictionary [] o is = absurd (none-some o is)
read-dictionary (name ∷ []) o is = absurd (none-some o is)
read-dictionary (name ∷ [] ∷ rest) o is = absurd (none-some o is)
read-dictionary (name ∷ (a ∷ b ∷ rest) ∷ strings) o is = absurd (none-some o is)
read-dictionary (name ∷ (a ∷ []) ∷ string ∷ strings) o is = absurd (none-some o is)

-- DROP TABLE, DROP VIEW, PRESENT USER, DELETE USER: a name
named-again : (operation : List ℕ → Operation) (name : List ℕ) → is_name name ≡ true → (params_of (flat_map spelled (name ∷ [])) >>= named_in operation) ≡ Some (operation name)
named-again operation name form = of_strings (name ∷ []) (named_in operation) ∙ rw form refl

read-named : (operation : List ℕ → Operation) (asked : OperationKind) → ((name : List ℕ) → is_name name ≡ true → HasForm (operation name)) → ((name : List ℕ) → kind_of (operation name) ≡ asked)
    → (octets : List ℕ) (o : Operation) → (params_of octets >>= named_in operation) ≡ Some o → IsRead asked o
read-named operation asked formed same octets o is = listed octets (named_in operation) asked go o is
  where
    go : (strings : List (List ℕ)) (o : Operation) → named_in operation strings ≡ Some o → IsRead asked o
    go [] o is = absurd (none-some o is)
    go (name ∷ string ∷ strings) o is = absurd (none-some o is)
    go (name ∷ []) o is = passed (is_name name) (operation name) o is (λ test at. subst (IsRead asked) at (record { form = formed name test; kind = same name }))

-- GRANT, REVOKE: privileges, an object's name and a user's
abbrev AreGranted : ℕ → List ℕ → List ℕ → Type 0
AreGranted privileges object grantee = (is_privileges privileges ≡ true) × (is_name object ≡ true) × (is_name grantee ≡ true)

granted-again : (operation : ℕ → List ℕ → List ℕ → Operation) (privileges : ℕ) (object grantee : List ℕ) → AreGranted privileges object grantee
    → (params_of (flat_map spelled ((privileges ∷ []) ∷ object ∷ grantee ∷ [])) >>= granted_in operation) ≡ Some (operation privileges object grantee)
granted-again operation privileges object grantee form =
    of_strings ((privileges ∷ []) ∷ object ∷ grantee ∷ []) (granted_in operation) ∙ rw (form.0, form.1, form.2) refl

read-granted : (operation : ℕ → List ℕ → List ℕ → Operation) (asked : OperationKind)
    → ((privileges : ℕ) (object grantee : List ℕ) → AreGranted privileges object grantee → HasForm (operation privileges object grantee))
    → ((privileges : ℕ) (object grantee : List ℕ) → kind_of (operation privileges object grantee) ≡ asked)
    → (octets : List ℕ) (o : Operation) → (params_of octets >>= granted_in operation) ≡ Some o → IsRead asked o
read-granted operation asked formed same octets o is = listed octets (granted_in operation) asked go o is
  where
    go : (strings : List (List ℕ)) (o : Operation) → granted_in operation strings ≡ Some o → IsRead asked o
    go ((privileges ∷ []) ∷ object ∷ grantee ∷ []) o is =
        passed _ (operation privileges object grantee) o is (λ test at.
        let ends = and_parts (is_privileges privileges && is_name object) (is_name grantee) test in
        let starts = and_parts (is_privileges privileges) (is_name object) ends.0 in
        subst (IsRead asked) at (record { form = formed privileges object grantee (starts.0, starts.1, ends.1); kind = same privileges object grantee }))
    go [] o is = absurd (none-some o is)
    go ([] ∷ strings) o is = absurd (none-some o is)
    go ((a ∷ b ∷ rest) ∷ strings) o is = absurd (none-some o is)
    go ((a ∷ []) ∷ []) o is = absurd (none-some o is)
    go ((a ∷ []) ∷ b ∷ []) o is = absurd (none-some o is)
    go ((a ∷ []) ∷ b ∷ c ∷ d ∷ strings) o is = absurd (none-some o is)

-- DECLARE CURSOR
cursor-again : (object : List ℕ) (columns : List (List ℕ)) (conditions : List Condition) → HasForm (DeclareCursor object columns conditions)
    → declare_cursor_in (object ∷ choice_strings columns conditions) ≡ Some (DeclareCursor object columns conditions)
cursor-again object columns conditions form = rw (choice-again columns conditions form.1 form.2, form.0) refl

read-cursor : (strings : List (List ℕ)) (o : Operation) → declare_cursor_in strings ≡ Some o → IsRead kind.DeclareCursor o
read-cursor [] o is = absurd (none-some o is)
read-cursor (object ∷ strings) o is = found (choice_in strings) _ o is (λ choice at is.
    passed _ (DeclareCursor object choice.columns choice.conditions) o is (λ test same.
    let chosen = choice-formed strings choice at in
    read-is (DeclareCursor object choice.columns choice.conditions) o (test, chosen.0, chosen.1) same))

-- INSERT: a row within one limit is one within another, where it has no more octets than that
row-again : (values : List (List ℕ)) (most limit : ℕ) → is_row_within most values ≡ true → nat_le (row_size values) limit ≡ true → is_row_within limit values ≡ true
row-again values most limit row fits =
    let parts = and_parts (is_count_of_columns (length values) && list_all is_narrow values) (nat_le (row_size values) most) row in
    and_from (is_count_of_columns (length values) && list_all is_narrow values) (nat_le (row_size values) limit) parts.0 fits

-- a row within a card's limit is one within the largest limit
row-within : (limit : ℕ) (values : List (List ℕ)) → limit ≤ 1020 → is_row_within limit values ≡ true → is_row values ≡ true
row-within limit values least is =
    let t = and_parts (is_count_of_columns (length values) && list_all is_narrow values) (nat_le (row_size values) limit) is in
    let fits : row_size values ≤ 1020 = omega (arith, leb-true (row_size values) limit t.1) in
    row-again values limit 1020 is (le-leb (row_size values) 1020 fits)

read-insert : (limit : ℕ) → limit ≤ 1020 → (strings : List (List ℕ)) (o : Operation) → insert_in limit strings ≡ Some o → IsRead kind.Insert o
read-insert limit least [] o is = absurd (none-some o is)
read-insert limit least (table ∷ values) o is = passed _ (Insert table values) o is (λ test same.
    let t = and_parts _ _ test in
    read-is (Insert table values) o (t.0, row-within limit values least t.1) same)

-- a row beyond the limit
pub row-beyond : (secrets : Bool) (limit : ℕ) (table : List ℕ) (values : List (List ℕ)) → nat_le (row_size values) limit ≡ false
    → operation_in secrets (kind_of (Insert table values)) limit (field_of (Insert table values)) ≡ None
row-beyond secrets limit table values long =
    of_strings (table ∷ values) (insert_in limit)
    ∙ rw (and_right (is_name table) (is_row_within limit values) (and_right (is_count_of_columns (length values) && list_all is_narrow values) (nat_le (row_size values) limit) long)) refl

-- UPDATE
changes-again : (changes : List (List ℕ × List ℕ)) → changes_in (flat_map change_strings changes) ≡ Some changes
changes-again [] = refl
changes-again (change ∷ changes) = rw (changes-again changes) refl

read-update : (strings : List (List ℕ)) (o : Operation) → update_in strings ≡ Some o → IsRead kind.Update o
read-update strings o is = found (changes_in strings) _ o is (λ changes at is.
    passed (are_changes changes) (Update changes) o is (λ test same. read-is (Update changes) o test same))

-- CREATE USER
profile-again : (profile : Profile) → (profile ≡ DbO → ⊥) → made_profile_of (profile_code profile) ≡ Some profile
profile-again DbO made = absurd (made refl)
profile-again Dboo made = refl
profile-again Dbbu made = refl

-- OWNER's profile isn't asked for
no_owner : (code : ℕ) (profile : Profile) → made_profile_of code ≡ Some profile → profile ≡ DbO → ⊥
no_owner code profile is e = go (code == 0x02) (code == 0x03) (is ∙ ap Some e)
  where
    other : Profile → Bool
    other DbO = true
    other p = false

    go : (two three : Bool) → (if two then Some Dboo else if three then Some Dbbu else None) ≡ Some DbO → ⊥
    go true three is = false≢true (ap other (same_Some Dboo DbO is))
    go false true is = false≢true (ap other (same_Some Dbbu DbO is))
    go false false is = none-some DbO is

-- a new user's secret is one
secret-new : (secrets : Bool) (secret : List ℕ) → is_new_secret secrets secret ≡ true → is_secret secret ≡ true
secret-new true secret is = is
secret-new false secret is = rw is refl

read-user : (secrets : Bool) (strings : List (List ℕ)) (o : Operation) → create_user_in secrets strings ≡ Some o → IsRead kind.CreateUser o
read-user secrets (name ∷ (code ∷ []) ∷ secret ∷ []) o is = found (made_profile_of code) _ o is (λ profile at is.
    passed _ (CreateUser name profile secret) o is (λ test same.
    let t = and_parts _ _ test in
    read-is (CreateUser name profile secret) o (t.0, secret-new secrets secret t.1, no_owner code profile at) same))
read-user secrets [] o is = absurd (none-some o is)
read-user secrets (name ∷ []) o is = absurd (none-some o is)
read-user secrets (name ∷ [] ∷ rest) o is = absurd (none-some o is)
read-user secrets (name ∷ (a ∷ b ∷ rest) ∷ strings) o is = absurd (none-some o is)
read-user secrets (name ∷ (a ∷ []) ∷ []) o is = absurd (none-some o is)
read-user secrets (name ∷ (a ∷ []) ∷ secret ∷ string ∷ strings) o is = absurd (none-some o is)

-- VERIFY
read-verify : (octets : List ℕ) (o : Operation) → only_where (is_verified_secret octets) (Verify octets) ≡ Some o → IsRead kind.Verify o
read-verify octets o is = passed (is_verified_secret octets) (Verify octets) o is (λ test same. read-is (Verify octets) o test same)

-- no data field
read-alone : (asked : OperationKind) (operation operation' : Operation) → Some operation ≡ Some operation' → HasForm operation → kind_of operation ≡ asked → IsRead asked operation'
read-alone asked operation operation' is form same = subst (IsRead asked) (same_Some operation operation' is) (record { form = form; kind = same })

-- The data field of an operation that a card takes is read back as that operation.
pub operation-again : (secrets : Bool) (limit : ℕ) (operation : Operation) → HasForm operation → IsTaken secrets limit operation
    → operation_in secrets (kind_of operation) limit (field_of operation) ≡ Some operation
operation-again secrets limit (CreateTable name columns) form taken = of_strings (name ∷ columns) create_table_in ∙ rw (form.0, form.1) refl
operation-again secrets limit (CreateView name base columns conditions) form taken =
    of_strings (name ∷ base ∷ choice_strings columns conditions) create_view_in ∙ view-again name base columns conditions form
operation-again secrets limit (CreateDictionary name subject) form taken =
    of_strings (name ∷ (subject_code subject ∷ []) ∷ []) create_dictionary_in ∙ rw (subject-again subject, form) refl
operation-again secrets limit (DropTable name) form taken = named-again DropTable name form
operation-again secrets limit (DropView name) form taken = named-again DropView name form
operation-again secrets limit (Grant privileges object grantee) form taken = granted-again Grant privileges object grantee form
operation-again secrets limit (Revoke privileges object grantee) form taken = granted-again Revoke privileges object grantee form
operation-again secrets limit (DeclareCursor object columns conditions) form taken =
    of_strings (object ∷ choice_strings columns conditions) declare_cursor_in ∙ cursor-again object columns conditions form
operation-again secrets limit (Insert table values) form taken =
    of_strings (table ∷ values) (insert_in limit) ∙ rw (form.0, row-again values 1020 limit form.1 taken) refl
operation-again secrets limit (Update changes) form taken =
    of_strings (flat_map change_strings changes) update_in ∙ rw (changes-again changes, form) refl
operation-again secrets limit (PresentUser name) form taken = named-again PresentUser name form
operation-again secrets limit (CreateUser name profile secret) form taken =
    of_strings (name ∷ (profile_code profile ∷ []) ∷ secret ∷ []) (create_user_in secrets) ∙ rw (profile-again profile form.2, form.0, taken) refl
operation-again secrets limit (DeleteUser name) form taken = named-again DeleteUser name form
operation-again secrets limit (Verify secret) form taken = rw form refl
operation-again secrets limit operation form taken = refl

-- a number of a channel, in the kinds that have one
abbrev pub has_channel : OperationKind → Bool
has_channel (kind.OpenChannel number) = nat_le number 3
has_channel (kind.CloseChannel number) = nat_le number 3
has_channel asked = true

-- What is read of a data field is an operation of the kind that is asked for, and its fields have their forms.
pub read-operation : (secrets : Bool) (asked : OperationKind) (limit : ℕ) → limit ≤ 1020 → has_channel asked ≡ true → (octets : List ℕ) (o : Operation)
    → operation_in secrets asked limit octets ≡ Some o → IsRead asked o
read-operation secrets kind.CreateTable limit least number octets o is = listed octets create_table_in kind.CreateTable read-table o is
read-operation secrets kind.CreateView limit least number octets o is = listed octets create_view_in kind.CreateView read-view o is
read-operation secrets kind.CreateDictionary limit least number octets o is = listed octets create_dictionary_in kind.CreateDictionary read-dictionary o is
read-operation secrets kind.DropTable limit least number octets o is = read-named DropTable kind.DropTable (λ name form. form) (λ name. refl) octets o is
read-operation secrets kind.DropView limit least number octets o is = read-named DropView kind.DropView (λ name form. form) (λ name. refl) octets o is
read-operation secrets kind.Grant limit least number octets o is = read-granted Grant kind.Grant (λ privileges object grantee form. form) (λ privileges object grantee. refl) octets o is
read-operation secrets kind.Revoke limit least number octets o is = read-granted Revoke kind.Revoke (λ privileges object grantee form. form) (λ privileges object grantee. refl) octets o is
read-operation secrets kind.DeclareCursor limit least number octets o is = listed octets declare_cursor_in kind.DeclareCursor read-cursor o is
read-operation secrets kind.Insert limit least number octets o is = listed octets (insert_in limit) kind.Insert (read-insert limit least) o is
read-operation secrets kind.Update limit least number octets o is = listed octets update_in kind.Update read-update o is
read-operation secrets kind.PresentUser limit least number octets o is = read-named PresentUser kind.PresentUser (λ name form. form) (λ name. refl) octets o is
read-operation secrets kind.CreateUser limit least number octets o is = listed octets (create_user_in secrets) kind.CreateUser (read-user secrets) o is
read-operation secrets kind.DeleteUser limit least number octets o is = read-named DeleteUser kind.DeleteUser (λ name form. form) (λ name. refl) octets o is
read-operation secrets kind.Verify limit least number octets o is = read-verify octets o is
read-operation secrets (kind.OpenChannel channel) limit least number octets o is = read-alone (kind.OpenChannel channel) _ o is (leb-true channel 3 number) refl
read-operation secrets (kind.CloseChannel channel) limit least number octets o is = read-alone (kind.CloseChannel channel) _ o is (leb-true channel 3 number) refl
read-operation secrets asked limit least number octets o is = read-alone asked _ o is tt refl
