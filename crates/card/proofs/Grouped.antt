-- The rules of records one by one are those of each kind.
use Rattle.std.proofs.Common.{◌≡◌, ℕ, Bool, true, false, ◌&&◌, List, [], ◌∷◌, filter, refl, sym, ap, ◌∙◌}
use Rattle.std.specs.Prelude.{nat_le}
use Rattle.std.specs.List.{list_all}
use Rattle.std.proofs.lemmas.Bool.{false≢true}
use Rattle.scql_base.specs.declared.records.User.{User}
use Rattle.scql_base.specs.declared.records.Object.{Object}
use Rattle.scql_base.specs.declared.records.Grant.{Grant}
use Rattle.scql_base.specs.declared.records.RowRecord.{RowRecord}
use Rattle.scql_model.specs.Rules.{is_db_o, has_object_and_grantee, has_table}
use Rattle.card.specs.declared.apart.Label.TheVariants.{UserName, ObjectName, GrantPair}
use Rattle.card.specs.declared.kept_record.KeptRecord.{KeptRecord}
use Rattle.card.specs.declared.kept_record.KeptRecord.TheVariants as kept_as
use Rattle.card.specs.KeptRecords.{users_in, objects_in, grants_in, rows_in}
use Rattle.card.specs.Apart.{is_never_shared}
use Rattle.card.specs.Validity.{is_owner_alone, is_stamp_before, is_right_user, is_right_object, is_right_record, is_valid_database}

second : (p a b c d : Bool) → (p && (a && b && c && d)) ≡ (a && (p && b) && c && d)
second true a b c d = refl
second false true b c d = refl
second false false b c d = refl

third : (p a b c d : Bool) → (p && (a && b && c && d)) ≡ (a && b && (p && c) && d)
third true a b c d = refl
third false true true c d = refl
third false true false c d = refl
third false false b c d = refl

fourth : (p a b c d : Bool) → (p && (a && b && c && d)) ≡ (a && b && c && (p && d))
fourth true a b c d = refl
fourth false true true true d = refl
fourth false true true false d = refl
fourth false true false c d = refl
fourth false false b c d = refl

first : (p a b c d : Bool) → (p && (a && b && c && d)) ≡ ((p && a) && b && c && d)
first true a b c d = refl
first false a b c d = refl

-- those of each kind have stamps that were given out, and meet the rules of their kind
abbrev right_users : ℕ → List User → List KeptRecord → Bool
right_users next us records = list_all (λ (u : User). is_stamp_before next u.stamp && is_right_user us u) (users_in records)

abbrev right_objects : ℕ → List User → List Object → List KeptRecord → Bool
right_objects next us os records = list_all (λ (o : Object). is_stamp_before next o.stamp && is_right_object us os o) (objects_in records)

abbrev right_grants : ℕ → List User → List Object → List KeptRecord → Bool
right_grants next us os records = list_all (λ (g : Grant). is_stamp_before next g.stamp && has_object_and_grantee us os g) (grants_in records)

abbrev right_rows : ℕ → List Object → List KeptRecord → Bool
right_rows next os records = list_all (λ (r : RowRecord). is_stamp_before next r.stamp && has_table os r) (rows_in records)

-- what holds of all records holds of those of each kind
pub all-kinds : (next : ℕ) (us : List User) (os : List Object) (records : List KeptRecord)
    → list_all (is_right_record next us os) records ≡ (right_users next us records && right_objects next us os records && right_grants next us os records && right_rows next os records)
all-kinds next us os [] = refl
all-kinds next us os (kept_as.User u ∷ records) =
    let here = is_right_record next us os (kept_as.User u) in
    ap (λ (b : Bool). here && b) (all-kinds next us os records) ∙ first here (right_users next us records) (right_objects next us os records) (right_grants next us os records) (right_rows next os records)
all-kinds next us os (kept_as.Object o ∷ records) =
    let here = is_right_record next us os (kept_as.Object o) in
    ap (λ (b : Bool). here && b) (all-kinds next us os records) ∙ second here (right_users next us records) (right_objects next us os records) (right_grants next us os records) (right_rows next os records)
all-kinds next us os (kept_as.Grant g ∷ records) =
    let here = is_right_record next us os (kept_as.Grant g) in
    ap (λ (b : Bool). here && b) (all-kinds next us os records) ∙ third here (right_users next us records) (right_objects next us os records) (right_grants next us os records) (right_rows next os records)
all-kinds next us os (kept_as.Row slot r ∷ records) =
    let here = is_right_record next us os (kept_as.Row slot r) in
    ap (λ (b : Bool). here && b) (all-kinds next us os records) ∙ fourth here (right_users next us records) (right_objects next us os records) (right_grants next us os records) (right_rows next os records)

-- the tests in the order of the rules
regrouped : (l o u du t dt g dg r : Bool) → (l && o && (u && t && g && r) && (du && dt && dg)) ≡ (l && (u && o && du) && (t && dt) && (g && dg) && r)
regrouped false o u du t dt g dg r = refl
regrouped true false true du t dt g dg r = refl
regrouped true false false du t dt g dg r = refl
regrouped true true false du t dt g dg r = refl
regrouped true true true true false dt g dg r = refl
regrouped true true true true true true false dg r = refl
regrouped true true true true true true true true true = refl
regrouped true true true true true true true true false = refl
regrouped true true true true true true true false true = refl
regrouped true true true true true true true false false = refl
regrouped true true true true true false true dg true = refl
regrouped true true true true true false true dg false = refl
regrouped true true true true true false false dg r = refl
regrouped true true true false true dt true dg true = refl
regrouped true true true false true dt true dg false = refl
regrouped true true true false true dt false dg r = refl
regrouped true true true false false dt g dg r = refl

-- So the tests together are those of a valid database.
pub grouped : (next : ℕ) (records : List KeptRecord)
    → (nat_le 2 next && is_owner_alone (filter is_db_o (users_in records)) && list_all (is_right_record next (users_in records) (objects_in records)) records
    && (is_never_shared UserName records && is_never_shared ObjectName records && is_never_shared GrantPair records))
    ≡ is_valid_database next (users_in records) (objects_in records) (grants_in records) (rows_in records)
grouped next records =
    let us = users_in records in
    let os = objects_in records in
    let owner = is_owner_alone (filter is_db_o us) in
    ap (λ (b : Bool). nat_le 2 next && owner && b && (is_never_shared UserName records && is_never_shared ObjectName records && is_never_shared GrantPair records)) (all-kinds next us os records)
    ∙ regrouped (nat_le 2 next) owner (right_users next us records) (is_never_shared UserName records) (right_objects next us os records) (is_never_shared ObjectName records)
    (right_grants next us os records) (is_never_shared GrantPair records) (right_rows next os records)

-- Where a test fails they aren't.
none-before : (a o e s : Bool) → (a && o) ≡ false → (a && o && e && s) ≡ false
none-before false o e s fails = refl
none-before true false e s fails = refl
none-before true true e s fails = absurd (false≢true (sym fails))

none-then : (a o e s : Bool) → e ≡ false → (a && o && e && s) ≡ false
none-then false o e s fails = refl
none-then true false e s fails = refl
none-then true true e s fails = rw fails refl

module _ (next : ℕ) (records : List KeptRecord) where
  pub no-owner : (nat_le 2 next && is_owner_alone (filter is_db_o (users_in records))) ≡ false → is_valid_database next (users_in records) (objects_in records) (grants_in records) (rows_in records) ≡ false
  no-owner fails = sym (grouped next records) ∙ none-before (nat_le 2 next) (is_owner_alone (filter is_db_o (users_in records))) _ _ fails

  pub not-each : list_all (is_right_record next (users_in records) (objects_in records)) records ≡ false → is_valid_database next (users_in records) (objects_in records) (grants_in records) (rows_in records) ≡ false
  not-each fails = sym (grouped next records) ∙ none-then (nat_le 2 next) (is_owner_alone (filter is_db_o (users_in records))) _ _ fails
