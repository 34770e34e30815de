-- Each record is read back from its spelling, and what is read as a record is its spelling and within its limits.
use Rattle.std.proofs.Common.{◌≡◌, ℕ, ◌==◌, Bool, true, false, Option, Some, if◌then◌else◌, refl, sym, ◌∙◌, ap}
use Rattle.std.proofs.lemmas.Bool.{eqb-true}
use Rattle.std.proofs.lemmas.Option.{none-some, same_Some}
use Rattle.scql_base.specs.declared.words.Profile.TheVariants.{DbO, Dboo, Dbbu}
use Rattle.scql_base.specs.declared.words.Subject.TheVariants.{Objects, Users, Grants}
use Rattle.scql_base.specs.declared.words.Comparison.TheVariants.{Equal, Less, Greater, AtMost, AtLeast, NotEqual}
use Rattle.scql_base.specs.Name.{is_name}
use Rattle.scql_base.specs.Row.{is_narrow}
use Rattle.scql_model.specs.Fields.{number, text, ◌then◌}
use Rattle.scql_model.specs.Records.{profile_code, profile_of, subject_code, subject_of, comparison_code, comparison_of, is_secret, is_tries, is_privileges, is_count_of_columns, is_count_of_conditions, columns, conditions, to_condition, from_condition, to_user, from_user, to_grant, from_grant, to_row, from_row, counter_record, user_record, table_record, view_record, dictionary_record, grant_record, row_record}
use Rattle.scql_model.proofs.FieldLaws.{Codes, CodesAlone, IsField, IsLastField, IsLastField-from_IsField, IsField-number, IsField-octet, IsField-letter, IsField-text, IsField-then, IsLastField-then, IsField-counted, IsField-as_record, IsLastField-as_record, IsField-marked, IsLastField-marked, IsLastField-values_to_the_end}

-- Codes. A chain of choices among numbers gives a value only for its code.
chosen_alone : {A : Type 0} (code : A → ℕ) (n m : ℕ) (y x : A) (o : Option A) (b : Bool) → (n == m) ≡ b → code y ≡ m → (o ≡ Some x → n ≡ code x)
    → (if b then Some y else o) ≡ Some x → n ≡ code x
chosen_alone code n m y x o true same is others chosen = eqb-true n m same ∙ (sym is ∙ ap code (same_Some y x chosen))
chosen_alone code n m y x o false same is others chosen = others chosen

choice_alone : {A : Type 0} (code : A → ℕ) (n m : ℕ) (y x : A) (o : Option A) → code y ≡ m → (o ≡ Some x → n ≡ code x)
    → (if n == m then Some y else o) ≡ Some x → n ≡ code x
choice_alone code n m y x o is others chosen = chosen_alone code n m y x o (n == m) refl is others chosen

codes-profile : Codes profile_code profile_of
codes-profile DbO = refl
codes-profile Dboo = refl
codes-profile Dbbu = refl

codes_alone-profile : CodesAlone profile_code profile_of
codes_alone-profile n x =
    choice_alone profile_code n 1 DbO x _ refl (choice_alone profile_code n 2 Dboo x _ refl (choice_alone profile_code n 3 Dbbu x _ refl (λ no. absurd (none-some x no))))

codes-subject : Codes subject_code subject_of
codes-subject Objects = refl
codes-subject Users = refl
codes-subject Grants = refl

codes_alone-subject : CodesAlone subject_code subject_of
codes_alone-subject n x =
    choice_alone subject_code n 0x4F Objects x _ refl (choice_alone subject_code n 0x55 Users x _ refl (
    choice_alone subject_code n 0x50 Grants x _ refl (λ no. absurd (none-some x no))))

codes-comparison : Codes comparison_code comparison_of
codes-comparison Equal = refl
codes-comparison Less = refl
codes-comparison Greater = refl
codes-comparison AtMost = refl
codes-comparison AtLeast = refl
codes-comparison NotEqual = refl

codes_alone-comparison : CodesAlone comparison_code comparison_of
codes_alone-comparison n x =
    choice_alone comparison_code n 0x3D Equal x _ refl (choice_alone comparison_code n 0x3C Less x _ refl (
    choice_alone comparison_code n 0x3E Greater x _ refl (choice_alone comparison_code n 0x4C AtMost x _ refl (
    choice_alone comparison_code n 0x47 AtLeast x _ refl (choice_alone comparison_code n 0x23 NotEqual x _ refl (λ no. absurd (none-some x no)))))))

-- Lists in records.
IsField-columns : IsField columns
IsField-columns = IsField-counted is_count_of_columns (text is_name) (IsField-text is_name)

IsField-conditions : IsField conditions
IsField-conditions =
    IsField-counted is_count_of_conditions _ (IsField-as_record to_condition from_condition _ (λ x. refl) (λ c. refl) (
    IsField-then _ _ (IsField-text is_name) (IsField-then _ _ (IsField-letter comparison_code comparison_of codes-comparison codes_alone-comparison) (IsField-text is_narrow))))

-- Records.
pub IsField-counter : IsField counter_record
IsField-counter = IsField-marked 0x00 number IsField-number

pub IsField-user : IsField user_record
IsField-user =
    IsField-marked 0x01 _ (IsField-as_record to_user from_user _ (λ x. refl) (λ u. refl) (
    IsField-then _ _ IsField-number (IsField-then _ _ IsField-number (
    IsField-then _ _ (IsField-letter profile_code profile_of codes-profile codes_alone-profile) (
    IsField-then _ _ (IsField-octet is_tries) (IsField-then _ _ (IsField-text is_name) (IsField-text is_secret)))))))

pub IsField-table : IsField table_record
IsField-table =
    IsField-marked 0x02 _ (IsField-then _ _ IsField-number (IsField-then _ _ IsField-number (IsField-then _ _ (IsField-text is_name) IsField-columns)))

pub IsField-view : IsField view_record
IsField-view =
    IsField-marked 0x03 _ (IsField-then _ _ IsField-number (IsField-then _ _ IsField-number (IsField-then _ _ IsField-number (
    IsField-then _ _ (IsField-text is_name) (IsField-then _ _ IsField-columns IsField-conditions)))))

pub IsField-dictionary : IsField dictionary_record
IsField-dictionary =
    IsField-marked 0x04 _ (IsField-then _ _ IsField-number (IsField-then _ _ IsField-number (
    IsField-then _ _ (IsField-text is_name) (IsField-letter subject_code subject_of codes-subject codes_alone-subject))))

pub IsField-grant : IsField grant_record
IsField-grant =
    IsField-marked 0x05 _ (IsField-as_record to_grant from_grant _ (λ x. refl) (λ g. refl) (
    IsField-then _ _ IsField-number (IsField-then _ _ IsField-number (IsField-then _ _ IsField-number (IsField-octet is_privileges)))))

-- a row's values go to the end, so that no field may follow a row
pub IsLastField-row : IsLastField row_record
IsLastField-row =
    IsLastField-marked 0x06 _ (IsLastField-as_record to_row from_row _ (λ x. refl) (λ r. refl) (
    IsLastField-then _ _ IsField-number (IsLastField-then _ _ IsField-number IsLastField-values_to_the_end)))

pub IsLastField-counter : IsLastField counter_record
IsLastField-counter = IsLastField-from_IsField counter_record IsField-counter

pub IsLastField-user : IsLastField user_record
IsLastField-user = IsLastField-from_IsField user_record IsField-user
