-- What a motion over the rows under a cursor is as a command, and what it reads.
use Rattle.std.proofs.Common.{◌≡◌, ℕ, ◌+◌, ◌*◌, ◌≤◌, ◌==◌, true, List, Option, Some, Result, Ok, Err, refl, sym, ap, subst, ◌∙◌, inl, inr, arith}
use Rattle.std.specs.Prelude.{IfOk, IfSome}
use Rattle.std.proofs.lemmas.Bool.{cases_Bool, false≢true, not-true, or_parts}
use Rattle.eeprom.specs.Chip.{Becomes, Chip, RisesAtMost}
use Rattle.eeprom.specs.StoreOf.{cell_size}
use Rattle.eeprom.specs.declared.fault.EepromFault.{EepromFault}
use Rattle.record_store.specs.Held.{Held}
use Rattle.record_store.specs.declared.side.Side.{Side}
use Rattle.scql_base.specs.Words.{done, end_reached}
use Rattle.scql_base.specs.declared.cursor.Cursor.{Cursor}
use Rattle.scql_base.specs.declared.cursor.Place.{Place}
use Rattle.scql_base.specs.declared.cursor.Place.TheVariants.{At}
use Rattle.scql_base.specs.declared.words.Actor.{Actor}
use Rattle.scql_base.specs.declared.words.StatusWord.{StatusWord}
use Rattle.scql_model.specs.Database.{Database}
use Rattle.scql_model.specs.Matching.{Values}
use Rattle.scql_model.specs.Moves.{first_row, moved, row_behind, rows_under}
use Rattle.scql_model.specs.Objects.{StampedRow}
use Rattle.scql_model.specs.ReadBound.{IsOnTableOrView, RisesAtLeast, cells_moved, is_passed, place_reached, row_cells}
use Rattle.record_table.specs.Making.{IsHeld, stop_answer}
use Rattle.record_table.specs.declared.stop.Stop.{Stop}
use Rattle.record_table.specs.declared.stop.Stop.TheVariants.{Refused, Fault}
use Rattle.cursor.specs.Costs.{Cost, RisesBetween, cost_between, cost_where}
use Rattle.cursor.specs.Moved.{AreStamped, fetched, refuses}
use Rattle.db_read.specs.Advanced.{Advances}
use Rattle.db_read.specs.Answered.{Chooses, Stops, WhereStopped, given}
use Rattle.db_read.specs.Searched.{cells_chosen, cells_searched, octets_for_operation}
use Rattle.db_read.specs.Motion.{Goes, KeepsPlace, answer_of, asks_opened, command_of, cost_by, is_on_way, least_by}
use Rattle.db_read.specs.declared.motion.Motion.{Motion}
use Rattle.db_read.specs.declared.motion.Motion.TheVariants.{Open, Next, Fetch, FetchNext}
use Rattle.db_read.proofs.Adding.{at-place, between-passed, first-behind}
use Rattle.db_read.proofs.Went.{went-place, went-word}

-- a word with a row is given as it was fetched
given-fetched : (place : Place) (c : Cursor) (le : ℕ) (word : StatusWord) (values : Values) → given le word (Some (record c { place = place })) values ≡ fetched place c le word values
given-fetched place c le word values =
    elim (cases_Bool (word.word == done.word)) [
      | inl t ↦ rw t refl
      | inr f ↦ elim (cases_Bool (word.word == end_reached.word)) [
        | inl t ↦ rw (f, t) refl
        | inr e ↦ rw (f, e) refl
      ]
    ]

-- a motion is the model's command
pub moved-by : (motion : Motion) (db : Database) (actor : Actor) (c : Cursor) (to : Place) (word : StatusWord) (values : Values) (pending : List ℕ) (rows : List StampedRow) → rows_under db actor c ≡ Ok rows
    → asks_opened motion c.place ≡ true → Goes motion c.place to word values rows c → KeepsPlace motion c.place to word
    → moved db actor (record { cursor = Some c; pending = pending }) (command_of motion) ≡ answer_of motion word (Some (record c { place = to })) values
moved-by Open db actor c to word values pending rows under asks goes stays = rw (under, went-word to c word (first_row rows) goes) (ap Ok (sym goes))
moved-by Next db actor c to word values pending rows under asks goes stays = rw (asks, under, went-word to c word (row_behind c.place rows) goes) (ap Ok (sym goes))
moved-by (Fetch le) db actor c to word values pending rows under asks goes stays =
    rw (asks, under, stays) (sym goes ∙ sym (given-fetched c.place c le word values))
moved-by (FetchNext le) db actor c to word values pending rows under asks goes stays = rw (asks, under) (sym goes ∙ sym (given-fetched to c le word values))

-- a motion that is refused leaves the place
pub refused-stays : (motion : Motion) (from to : Place) (word : StatusWord) (values : Values) (rows : List StampedRow) (c : Cursor) → Goes motion from to word values rows c → KeepsPlace motion from to word → refuses word ≡ true → to ≡ from
refused-stays Open from to word values rows c goes stays refusing = absurd (false≢true (sym (went-word to c word (first_row rows) goes) ∙ refusing))
refused-stays Next from to word values rows c goes stays refusing = absurd (false≢true (sym (went-word to c word (row_behind from rows) goes) ∙ refusing))
refused-stays (Fetch le) from to word values rows c goes stays refusing = stays
refused-stays (FetchNext le) from to word values rows c goes stays refusing = stays refusing

-- a motion that is refused gives no row
refused-least : (motion : Motion) (word : StatusWord) (values : Values) → refuses word ≡ true → least_by motion word values ≡ 0
refused-least Open word values is = refl
refused-least Next word values is = refl
refused-least (Fetch le) word values is = (let parts = or_parts (word.word == done.word) (word.word == end_reached.word) (not-true _ is) in rw parts.0 refl)
refused-least (FetchNext le) word values is = (let parts = or_parts (word.word == done.word) (word.word == end_reached.word) (not-true _ is) in rw parts.0 refl)

pub stopped-least : {U : Type 0} (motion : Motion) (values : Values) (outcome : Result U StatusWord) (stop : Stop) (result : Result StatusWord EepromFault) (a b : Option ℕ) → result ≡ stop_answer stop → Stops outcome stop
    → WhereStopped stop (Becomes (RisesAtLeast 0) a b) → IfOk result (λ word. Becomes (RisesAtLeast (least_by motion word values)) a b)
stopped-least motion values outcome (Refused word) result a b is stops read =
    subst (λ r. IfOk r (λ w. Becomes (RisesAtLeast (least_by motion w values)) a b)) (sym is) (subst (λ (n : ℕ). Becomes (RisesAtLeast n) a b) (sym (refused-least motion word values stops.1)) read)
stopped-least motion values outcome Fault result a b is stops read = subst (λ r. IfOk r (λ w. Becomes (RisesAtLeast (least_by motion w values)) a b)) (sym is) tt

-- what a motion may cost is twice what the rows on its way may cost
cost-on-way : (motion : Motion) (from to : Place) (word : StatusWord) (values : Values) (rows : List StampedRow) (c : Cursor) (list : List Cost) → AreStamped rows → Goes motion from to word values rows c
    → cost_by motion from to rows list ≤ 2 * cost_where (is_on_way motion from rows) list
cost-on-way Open from to word values rows c list stamped goes =
    let reached : to ≡ place_reached (row_behind (At 0) rows) = went-place to c word (first_row rows) goes ∙ ap place_reached (first-behind rows stamped) in
    let passed = between-passed (At 0) to list in
    subst (λ (place : Place). cost_between (At 0) to list ≤ 2 * cost_where (λ stamp. is_passed (At 0) place stamp) list) reached (omega (arith, passed))
cost-on-way Next from to word values rows c list stamped goes =
    let reached : to ≡ place_reached (row_behind from rows) = went-place to c word (row_behind from rows) goes in
    let passed = between-passed from to list in
    subst (λ (place : Place). cost_between from to list ≤ 2 * cost_where (λ stamp. is_passed from place stamp) list) reached (omega (arith, passed))
cost-on-way (Fetch le) from to word values rows c list stamped goes = (let here = at-place from list in omega (arith, here))
cost-on-way (FetchNext le) from to word values rows c list stamped goes = (let passed = between-passed from (place_reached (row_behind from rows)) list in omega (arith, passed))

module _ (store : Held) (side : Side) (chip : Chip) (db : Database) (held : IsHeld store side chip db) where
  module _ (actor : Actor) (c : Cursor) (tells : List StampedRow → Type 0) (costs : Option (List Cost)) (chooses : Chooses db actor c tells costs) (motion : Motion) (from to : Place) (word : StatusWord) (values : Values) (a b : Option ℕ)
      (goes : (rows : List StampedRow) → tells rows → AreStamped rows → (on : Cursor) → Goes motion from to word values rows on)
      (read : (rows : List StampedRow) → tells rows → IfSome costs (λ list. Becomes (RisesBetween (least_by motion word values) (cost_by motion from to rows list)) a b)) where
    reads-rows : IsOnTableOrView db c → Becomes (RisesBetween (least_by motion word values) (64 * row_cells db c.object (is_on_way motion from chooses.rows))) a b
    reads-rows kind = λ after told.
        let are = chooses.costs_are kind in
        let P : Option (List Cost) → Type 0 = λ o. IfSome o (λ list. Becomes (RisesBetween (least_by motion word values) (cost_by motion from to chooses.rows list)) a b) in
        let moves : Becomes (RisesBetween (least_by motion word values) (cost_by motion from to chooses.rows are.list)) a b = subst P are.told (read chooses.rows chooses.told) in
        let h = moves after told in
        let most = cost-on-way motion from to word values chooses.rows c are.list chooses.stamped (goes chooses.rows chooses.told chooses.stamped c) in
        let cells = are.cells (is_on_way motion from chooses.rows) in
        let least : h.0 + least_by motion word values ≤ after = h.2.0 in
        let greatest : after ≤ h.0 + 64 * row_cells db c.object (is_on_way motion from chooses.rows) = omega (arith, h.2.1, most, cells) in
        (h.0, h.1, (least, greatest))

    -- a motion over what is chosen
    advances-so : Advances db actor c motion from to word values a b
    advances-so = record {
      rows = chooses.rows;
      under = chooses.under;
      stamped = chooses.stamped;
      goes = λ on. goes chooses.rows chooses.told chooses.stamped on;
      reads = reads-rows;
    }

  -- what a motion answers that moves over what is chosen
  pub Advances-ok : (actor : Actor) (c : Cursor) (tells : List StampedRow → Type 0) (costs : Option (List Cost)) → Chooses db actor c tells costs → (motion : Motion) (from to : Place) (values : Values) (a b : Option ℕ) (r : Result StatusWord EepromFault)
      → IfOk r (λ word. (rows : List StampedRow) → tells rows → AreStamped rows → (on : Cursor) → Goes motion from to word values rows on)
      → IfOk r (λ word. (rows : List StampedRow) → tells rows → IfSome costs (λ list. Becomes (RisesBetween (least_by motion word values) (cost_by motion from to rows list)) a b))
      → IfOk r (λ word. Advances db actor c motion from to word values a b)
  Advances-ok actor c tells costs chooses motion from to values a b (Ok word) goes read = advances-so actor c tells costs chooses motion from to word values a b goes read
  Advances-ok actor c tells costs chooses motion from to values a b (Err fault) goes read = tt

-- the cells of the rows on the way are those of the command
cells-by : (motion : Motion) (db : Database) (actor : Actor) (c : Cursor) (rows : List StampedRow) → rows_under db actor c ≡ Ok rows → cells_moved db actor c (command_of motion) ≡ row_cells db c.object (is_on_way motion c.place rows)
cells-by Open db actor c rows under = rw under refl
cells-by Next db actor c rows under = rw under refl
cells-by (Fetch le) db actor c rows under = rw under refl
cells-by (FetchNext le) db actor c rows under = rw under refl

-- and its searches those of the command
searched-by : (motion : Motion) (db : Database) (actor : Actor) (c : Cursor) → cells_searched db actor (Some c) (command_of motion) ≡ cells_chosen db actor c.object
searched-by Open db actor c = refl
searched-by Next db actor c = refl
searched-by (Fetch le) db actor c = refl
searched-by (FetchNext le) db actor c = refl

module _ (db : Database) (actor : Actor) (c : Cursor) (motion : Motion) (to : Place) (word : StatusWord) (values : Values) (z a b : Option ℕ) (kind : IsOnTableOrView db c)
    (chose : Becomes (RisesBetween 0 (cell_size * cells_chosen db actor c.object)) z a) (advances : Advances db actor c motion c.place to word values a b) where
  -- what was read to choose, and the motion
  pub advanced-most : Becomes (RisesAtMost (octets_for_operation db actor (Some c) (command_of motion))) z b
  advanced-most = λ after told.
      let h = advances.reads kind after told in
      let s = chose h.0 h.1 in
      let cells = cells-by motion db actor c advances.rows advances.under in
      let searched = searched-by motion db actor c in
      (s.0, s.1, omega (arith, h.2.1, s.2.1, searched, cells))

  pub advanced-least : Becomes (RisesAtLeast (least_by motion word values)) z b
  advanced-least = λ after told.
      let h = advances.reads kind after told in
      let s = chose h.0 h.1 in
      (s.0, s.1, omega (arith, h.2.0, s.2.0))

-- what was read to choose, where that was refused
pub chosen-most : (db : Database) (actor : Actor) (c : Cursor) (motion : Motion) (a b : Option ℕ) → Becomes (RisesBetween 0 (cell_size * cells_chosen db actor c.object)) a b
    → Becomes (RisesAtMost (octets_for_operation db actor (Some c) (command_of motion))) a b
chosen-most db actor c motion a b chose = λ after told.
    let s = chose after told in
    let searched = searched-by motion db actor c in
    (s.0, s.1, omega (arith, s.2.1, searched))

pub chosen-least : (most : ℕ) (stop : Stop) (a b : Option ℕ) → WhereStopped stop (Becomes (RisesBetween 0 most) a b) → WhereStopped stop (Becomes (RisesAtLeast 0) a b)
chosen-least most (Refused word) a b chose = λ after told. let s = chose after told in (s.0, s.1, s.2.0)
chosen-least most Fault a b chose = tt
