-- Which records a transaction has touched, and what the edits of one command take.
use Rattle.std.proofs.Common.{◌≡◌, ℕ, ◌+◌, ◌*◌, ◌==◌, Bool, true, false, eqb, not, ◌&&◌, ◌||◌, List, [], ◌∷◌, ◌++◌, filter, refl, ap, sym, ◌∙◌, inl, inr, arith}
use Rattle.std.specs.List.{list_any}
use Rattle.std.proofs.lemmas.Bool.{cases_Bool, and_parts, and_from, not-true, eqb-true, eq-eqb}
use Rattle.std.proofs.lemmas.List.Folds.{list_any-append}
use Rattle.std.proofs.lemmas.Map.Views.{any-filter_same}
use Rattle.eeprom.specs.StoreOf.{is_distinct}
use Rattle.scql_model.specs.Database.{Database}
use Rattle.scql_model.specs.Edits.{AnyRecord, Edit, making, touched, cells_of_record, cells_written, octets_for, has_record, joined, touched_after}

-- a stamp is among stamps
abbrev is_in : List ℕ → ℕ → Bool
is_in stamps stamp = list_any (λ other. stamp == other) stamps

in_filtered : (p : ℕ → Bool) (stamp : ℕ) (stamps : List ℕ) → is_in (filter p stamps) stamp ≡ (p stamp && is_in stamps stamp)
in_filtered p stamp stamps = any-filter_same (λ other. stamp == other) p (p stamp) (λ other (same : eqb stamp other ≡ true). ap p (sym (eqb-true stamp other same))) stamps

or_not : (a b : Bool) → (a || (not a && b)) ≡ (a || b)
or_not true b = refl
or_not false b = refl

in_joined : (before more : List ℕ) (stamp : ℕ) → is_in (joined before more) stamp ≡ (is_in before stamp || is_in more stamp)
in_joined before more stamp =
    list_any-append (λ other. stamp == other) before (filter (λ s. not (is_in before s)) more)
    ∙ ap (λ b. is_in before stamp || b) (in_filtered (λ s. not (is_in before s)) stamp more)
    ∙ or_not (is_in before stamp) (is_in more stamp)

-- Touched are the records, among those touched before and those of the edits, that the committed or the working database has.
pub touched_after-in : (committed working : Database) (before : List ℕ) (edits : List Edit) (stamp : ℕ)
    → is_in (touched_after committed working before edits) stamp
    ≡ ((has_record committed stamp || has_record working stamp) && (is_in before stamp || is_in (touched edits) stamp))
touched_after-in committed working before edits stamp =
    in_filtered (λ s. has_record committed s || has_record working s) stamp (joined before (touched edits))
    ∙ ap (λ b. (has_record committed stamp || has_record working stamp) && b) (in_joined before (touched edits) stamp)

-- Each is named once.
filter-distinct : (p : ℕ → Bool) (stamps : List ℕ) → is_distinct stamps ≡ true → is_distinct (filter p stamps) ≡ true
filter-distinct p [] apart = refl
filter-distinct p (s ∷ stamps) apart =
    let parts = and_parts (not (is_in stamps s)) (is_distinct stamps) apart in
    let rest = filter-distinct p stamps parts.1 in
    elim (cases_Bool (p s)) [
      | inl t ↦ rw t (rw (in_filtered p s stamps, not-true (is_in stamps s) parts.0, t) rest)
      | inr f ↦ rw f rest
    ]

append-distinct : (xs ys : List ℕ) → is_distinct xs ≡ true → is_distinct ys ≡ true → ((s : ℕ) → is_in xs s ≡ true → is_in ys s ≡ false) → is_distinct (xs ++ ys) ≡ true
append-distinct [] ys first second apart = second
append-distinct (x ∷ xs) ys first second apart =
    let parts = and_parts (not (is_in xs x)) (is_distinct xs) first in
    let here : is_in ys x ≡ false = apart x (rw (eq-eqb x x refl) refl) in
    let rest = append-distinct xs ys parts.1 second (λ s (among : is_in xs s ≡ true). apart s (or_true (eqb s x) (is_in xs s) among)) in
    let none : is_in (xs ++ ys) x ≡ false = rw (list_any-append, not-true (is_in xs x) parts.0, here) refl in
    and_from (not (is_in (xs ++ ys) x)) (is_distinct (xs ++ ys)) (rw none refl) rest
  where
    or_true : (a b : Bool) → b ≡ true → (a || b) ≡ true
    or_true true b h = refl
    or_true false b h = h

pub touched_after-distinct : (committed working : Database) (before : List ℕ) (edits : List Edit) → is_distinct before ≡ true → is_distinct (touched edits) ≡ true
    → is_distinct (touched_after committed working before edits) ≡ true
touched_after-distinct committed working before edits first second =
    filter-distinct _ (joined before (touched edits)) (
    append-distinct before (filter (λ s. not (is_in before s)) (touched edits)) first (filter-distinct _ (touched edits) second)
    (λ s (among : is_in before s ≡ true). in_filtered (λ other. not (is_in before other)) s (touched edits) ∙ rw among refl))

-- A record that is made takes its own cells and the counter's, and two records are touched.
pub cells_written-making : (db : Database) (r : AnyRecord) → cells_written (making db r) ≡ cells_of_record r + 1
cells_written-making db r = omega arith

pub octets_for-making : (db : Database) (r : AnyRecord) → octets_for (making db r) ≡ 32 * cells_of_record r + 48
octets_for-making db r = omega arith
