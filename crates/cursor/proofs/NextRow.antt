-- FETCH NEXT hands out the row behind a place in the reading that finds it.
use Rattle.std.proofs.Common.{◌≡◌, ◌⊎◌, ℕ, ◌≤◌, ◌==◌, true, List, Option, Some, None, IfSome, refl, ◌∙◌, ap, subst, inl, inr, arith}
use Rattle.std.proofs.lemmas.Bool.{not-true, or_parts}
use Rattle.eeprom.specs.Chip.{Becomes}
use Rattle.scql_base.specs.Words.{done, end_reached}
use Rattle.scql_base.specs.declared.cursor.Cursor.{Cursor}
use Rattle.scql_base.specs.declared.cursor.Place.{Place}
use Rattle.scql_base.specs.declared.words.StatusWord.{StatusWord}
use Rattle.scql_model.specs.Matching.{Values}
use Rattle.scql_model.specs.Moves.{gave_next, row_behind}
use Rattle.scql_model.specs.Objects.{StampedRow}
use Rattle.scql_model.specs.ReadBound.{place_reached}
use Rattle.cursor.specs.Costs.{Cost, RisesBetween, cost_between, size_handed}
use Rattle.cursor.specs.Moved.{fetched, place_at, refuses, row_handed}

-- a refusal tells nothing of the place
fetched-refused : (here there : Place) (c : Cursor) (le : ℕ) (word : StatusWord) (values : Values) → refuses word ≡ true → fetched here c le word values ≡ fetched there c le word values
fetched-refused here there c le word values refused =
    let parts = or_parts (word.word == done.word) (word.word == end_reached.word) (not-true _ refused) in
    rw (parts.0, parts.1) refl

fetched-now : (now reached : Place) (c : Cursor) (le : ℕ) (word : StatusWord) (values : Values) → (now ≡ reached) ⊎ (refuses word ≡ true) → fetched now c le word values ≡ fetched reached c le word values
fetched-now now reached c le word values (inl same) = ap (λ place. fetched place c le word values) same
fetched-now now reached c le word values (inr refused) = fetched-refused now reached c le word values refused

-- the row that was handed out is the next one, so FETCH NEXT gives it
pub fetched-next : (tells : List StampedRow → Type 0) (place now : Place) (next : Option ℕ) (le : ℕ) (word : StatusWord) (values : Values)
    → ((rows : List StampedRow) → tells rows → row_handed next values ≡ row_behind place rows)
    → ((c : Cursor) → fetched (place_at next) c le word values ≡ gave_next c le (row_handed next values))
    → (now ≡ place_at next) ⊎ (refuses word ≡ true)
    → (rows : List StampedRow) → tells rows → (c : Cursor) → fetched now c le word values ≡ gave_next c le (row_behind place rows)
fetched-next tells place now next le word values behind given stands =
    λ rows told c. fetched-now now (place_at next) c le word values stands ∙ (given c ∙ ap (gave_next c le) (behind rows told))

reached-handed : (next : Option ℕ) (values : Values) → place_at next ≡ place_reached (row_handed next values)
reached-handed None values = refl
reached-handed (Some stamp) values = refl

-- what was read reaches to the next row
pub read-next : (tells : List StampedRow → Type 0) (costs : Option (List Cost)) (place : Place) (next : Option ℕ) (values : Values) (least : ℕ) (a b : Option ℕ)
    → ((rows : List StampedRow) → tells rows → row_handed next values ≡ row_behind place rows) → least ≤ size_handed next values
    → IfSome costs (λ costs. Becomes (RisesBetween (size_handed next values) (cost_between place (place_at next) costs)) a b)
    → (rows : List StampedRow) → tells rows → IfSome costs (λ costs. Becomes (RisesBetween least (cost_between place (place_reached (row_behind place rows)) costs)) a b)
read-next tells None place next values least a b behind fewer read = λ rows told. tt
read-next tells (Some costs) place next values least a b behind fewer read = λ rows told.
    let reached = reached-handed next values ∙ ap place_reached (behind rows told) in
    subst (λ (to : Place). Becomes (RisesBetween least (cost_between place to costs)) a b) reached
    (λ after is. (let h = read after is in (h.0, h.1, (omega (arith, h.2.0, fewer), h.2.1))))
