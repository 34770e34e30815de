-- What the searches for an object and a move of its cursor read together.
use Rattle.std.proofs.Common.{◌≡◌, ℕ, ◌+◌, ◌*◌, ◌≤◌, nat_lt, List, [], ◌∷◌, Option, Result, refl, sym, subst, ◌∙◌, arith}
use Rattle.std.specs.Prelude.{IfOk}
use Rattle.std.specs.List.{list_all}
use Rattle.std.proofs.lemmas.Bool.{and_parts}
use Rattle.std.proofs.lemmas.Option.{same_Some}
use Rattle.eeprom.specs.Chip.{Becomes, Chip, RisesAtMost}
use Rattle.eeprom.specs.StoreOf.{cell_size}
use Rattle.eeprom.specs.declared.fault.EepromFault.{EepromFault}
use Rattle.record_store.specs.Held.{Held}
use Rattle.record_store.specs.declared.side.Side.{Side}
use Rattle.scql_base.specs.declared.cursor.Place.{Place}
use Rattle.scql_base.specs.declared.cursor.Place.TheVariants.{NotOpen, At, End}
use Rattle.scql_base.specs.declared.words.StatusWord.{StatusWord}
use Rattle.scql_model.specs.Database.{Database}
use Rattle.scql_model.specs.Moves.{first_row, row_behind}
use Rattle.scql_model.specs.Objects.{StampedRow}
use Rattle.scql_model.specs.ReadBound.{RisesAtLeast, is_at, is_passed}
use Rattle.privilege_table.proofs.Seen.{told-held}
use Rattle.record_table.specs.Listed.{slots_of}
use Rattle.record_table.specs.Making.{IsHeld, stop_answer}
use Rattle.record_table.specs.Reading.{NeverFalls}
use Rattle.record_table.specs.declared.stop.Stop.{Stop}
use Rattle.record_table.specs.declared.stop.Stop.TheVariants.{Refused, Fault}
use Rattle.cursor.specs.Costs.{Cost, RisesBetween, cost_at, cost_between, cost_where}
use Rattle.cursor.specs.Moved.{AreStamped}
use Rattle.db_read.specs.Answered.{WhereStopped}

-- where nothing was read
pub nothing-read : (most : ℕ) (a : Option ℕ) → Becomes (RisesAtMost most) a a
nothing-read most a = λ after told. (after, told, omega arith)

-- where nothing was read, since it was chosen before
pub nothing-chosen : (most : ℕ) (a : Option ℕ) → Becomes (RisesBetween 0 most) a a
nothing-chosen most a = λ after told. (after, told, (omega arith, omega arith))

-- what is passed between two places, and what is at a place
pub between-passed : (from to : Place) (costs : List Cost) → cost_between from to costs ≤ cost_where (λ stamp. is_passed from to stamp) costs
between-passed (At from) (At to) costs = omega arith
between-passed (At from) NotOpen costs = omega arith
between-passed (At from) End costs = omega arith
between-passed NotOpen to costs = omega arith
between-passed End to costs = omega arith

pub at-place : (place : Place) (costs : List Cost) → cost_at place costs ≤ cost_where (λ stamp. is_at place stamp) costs
at-place NotOpen costs = omega arith
at-place (At stamp) costs = omega arith
at-place End costs = omega arith

-- the first row is the first behind 0
pub first-behind : (rows : List StampedRow) → AreStamped rows → first_row rows ≡ row_behind (At 0) rows
first-behind [] stamped = refl
first-behind (r ∷ rows) stamped = (let first = (and_parts (nat_lt 0 r.stamp) (list_all (λ (x : StampedRow). nat_lt 0 x.stamp) rows) stamped).0 in rw first refl)

module _ (store : Held) (side : Side) (chip : Chip) (db : Database) (held : IsHeld store side chip db) where
  -- What was read to choose: of an object that was refused,
  pub object-chosen : (most more : ℕ) (a b : Option ℕ) → Becomes (RisesAtMost (cell_size * most)) a b × NeverFalls (slots_of store side chip) a b → Becomes (RisesBetween 0 (cell_size * (most + more))) a b
  object-chosen most more a b reads = λ after told.
      let upper = reads.0 after told in
      let lower = told-held store side chip db (λ _. Becomes (RisesAtLeast 0) a b) held reads.1 after told in
      let same : lower.0 ≡ upper.0 = same_Some lower.0 upper.0 (sym lower.1 ∙ upper.1) in
      (upper.0, upper.1, (omega (arith, lower.2, same), omega (arith, upper.2)))

  -- and of one with what is under it
  pub way-chosen : (most more : ℕ) (a b c : Option ℕ) → Becomes (RisesAtMost (cell_size * most)) a b → NeverFalls (slots_of store side chip) a b
      → Becomes (RisesAtMost (cell_size * more)) b c → NeverFalls (slots_of store side chip) b c → Becomes (RisesBetween 0 (cell_size * (most + more))) a c
  way-chosen most more a b c first least way rises = λ after told.
      let w = way after told in
      let r = told-held store side chip db (λ _. Becomes (RisesAtLeast 0) b c) held rises after told in
      let same : r.0 ≡ w.0 = same_Some r.0 w.0 (sym r.1 ∙ w.1) in
      let s = object-chosen most 0 a b (first, least) w.0 w.1 in
      (s.0, s.1, (omega (arith, s.2.0, r.2, same), omega (arith, s.2.1, w.2)))

-- what holds of an operation that stopped by a refusal, if it holds where its parts were read
pub where-read : (said P : Type 0) (stop : Stop) (result : Result StatusWord EepromFault) → result ≡ stop_answer stop → WhereStopped stop said → (said → P) → IfOk result (λ _. P)
where-read said P (Refused word) result is read gives = subst (λ r. IfOk r (λ _. P)) (sym is) (gives read)
where-read said P Fault result is read gives = subst (λ r. IfOk r (λ _. P)) (sym is) tt
