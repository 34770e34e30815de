-- What was found is gone over, or else looked for first.
use Rattle.std.proofs.Common.{rules, ◌≡◌, ◌*◌, Option, Some, is_some, true, sym, ap, subst, ◌∙◌}
use Rattle.eeprom.specs.Chip.{Becomes}
use Rattle.eeprom.specs.StoreOf.{cell_size}
use Rattle.scql_base.specs.declared.cursor.Place.{Place}
use Rattle.scql_model.specs.Cursors.{IsCursorOf}
use Rattle.scql_model.specs.Database.{Database}
use Rattle.scql_model.specs.Moves.{rows_under}
use Rattle.record_table.specs.Making.{IsHeld}
use Rattle.cursor.specs.Costs.{RisesBetween}
use Rattle.db_read.specs.Scan.{Found, IsRight}
use Rattle.db_read.specs.Searched.{cells_chosen}
use Rattle.db_read.proofs.Adding.{nothing-chosen, where-read}
use Rattle.db_read.proofs.Chooses.{found-chosen, right-moved}
use Rattle.db_read.proofs.MotionLaws.{advanced-least, advanced-most, chosen-least, chosen-most, moved-by, refused-stays, stopped-least}
use Rattle.db_read.proofs.advancing.advance.Goals.{After-go, then-not-has_found+in_default-choose, else-not-has_found}
use Rattle.db_read.proofs.advancing.advance.Goals as goal

-- what is gone over is right for the cursor,
chosen : (g : _) (c : After-go g) (db : Database) → IsHeld c.args.reader.now.store.now c.args.reader.now.side (g.B.Eeprom.chip c.args.reader.now.bench.now) db → IsRight db c.args.actor c.args.scan.now c.in-Some.held
    → (is_some c.if-not-has_found.scan ≡ true) × IsRight db c.args.actor c.if-not-has_found.scan c.in-Some.held
chosen g c db held right =
    elim c.if-not-has_found.branch [
      | then-not-has_found+in_default-choose w ↦ (ap is_some w.scan-is ∙ w.in_default-choose.ensures.there, subst (λ (o : Option Found). IsRight db c.args.actor o c.in-Some.held) (sym w.scan-is) (w.choose.ensures.right db held))
      | else-not-has_found w ↦ (ap is_some w.scan-is ∙ sym w.if-not-has_found.ensures, subst (λ (o : Option Found). IsRight db c.args.actor o c.in-Some.held) (sym w.scan-is) right)
    ]

-- read where it was,
still : (g : _) (c : After-go g) (db : Database) → IsHeld c.args.reader.now.store.now c.args.reader.now.side (g.B.Eeprom.chip c.args.reader.now.bench.now) db
    → IsHeld c.if-not-has_found.reader.store.now c.if-not-has_found.reader.side (g.B.Eeprom.chip c.if-not-has_found.reader.bench.now) db
still g c db held =
    elim c.if-not-has_found.branch [
      | then-not-has_found+in_default-choose w ↦ rw (w.reader-is, w.choose.ensures.reads.goes_on.store, w.choose.ensures.reads.goes_on.side, w.choose.ensures.reads.frame.same) held
      | else-not-has_found w ↦ rw w.reader-is held
    ]

-- and what was read to choose it
read : (g : _) (c : After-go g) (db : Database) → IsHeld c.args.reader.now.store.now c.args.reader.now.side (g.B.Eeprom.chip c.args.reader.now.bench.now) db → IsCursorOf db c.in-Some.held
    → Becomes (RisesBetween 0 (cell_size * cells_chosen db c.args.actor c.in-Some.held.object)) (g.B.Eeprom.octets_read c.args.reader.now.bench.now) (g.B.Eeprom.octets_read c.if-not-has_found.reader.bench.now)
read g c db held cursor =
    elim c.if-not-has_found.branch [
      | then-not-has_found+in_default-choose w ↦ rw w.reader-is (w.in_default-choose.ensures.octets_read db held cursor)
      | else-not-has_found w ↦ rw w.reader-is (nothing-chosen _ _)
    ]

pub returns-clause-answers : goal.returns-clause-answers
returns-clause-answers g c = λ db held cursor right.
    let w = (goal.at.returns-clause-answers g c).After-go in
    let on = c.in-Some.held in
    let own : IsCursorOf db on = rw c.in-Some.is at cursor in
    let own_right : IsRight db c.args.actor c.args.scan.now on = rw c.in-Some.is at right in
    let found = chosen g w db held own_right in
    let advances = c.in_ok-word.ensures.advances db c.args.actor on (still g w db held) own (found-chosen db c.args.actor on c.scan-2.inside.is_found c.scan-2.inside.choice _ c.scan-2.view_is found.0 found.1) in
    record {
      moved = λ pending. rw c.in-Some.is (moved-by c.args.motion db c.args.actor on c.go.new.place c.in_ok-word.word c.go.new.out pending advances.rows advances.under (sym c.goes_from.ensures ∙ c.if-not-goes_from.false) (advances.goes on) c.in_ok-word.ensures.stays);
      refused = λ refusing.
          ap (λ (place : Place). Some (record on { place = place })) (refused-stays c.args.motion on.place c.go.new.place c.in_ok-word.word c.go.new.out advances.rows on (advances.goes on) c.in_ok-word.ensures.stays refusing) ∙ sym c.in-Some.is;
      octets_read = λ kind. rw c.in-Some.is (advanced-most db c.args.actor on c.args.motion c.go.new.place c.in_ok-word.word c.go.new.out _ _ _ (rw c.in-Some.is at kind) (read g w db held own) advances);
      least = λ kind. advanced-least db c.args.actor on c.args.motion c.go.new.place c.in_ok-word.word c.go.new.out _ _ _ (rw c.in-Some.is at kind) (read g w db held own) advances;
    }

pub returns-clause-right : goal.returns-clause-right
returns-clause-right g c = λ db held right.
    let own_right : IsRight db c.args.actor c.args.scan.now c.in-Some.held = rw c.in-Some.is at right in
    let found = chosen g (goal.at.returns-clause-right g c).After-go db held own_right in
    right-moved db c.args.actor c.in-Some.held c.go.new.place _ (subst (λ (o : Option Found). IsRight db c.args.actor o c.in-Some.held) (sym c.scan-2.view_is) found.1)

pub returns-in-Err-clause-answers : goal.returns-in-Err-clause-answers
returns-in-Err-clause-answers g c = λ db held cursor right.
    let on = c.in-Some.held in
    let own : IsCursorOf db on = rw c.in-Some.is at cursor in
    record {
      moved = search rules;
      refused = search rules;
      octets_read = λ kind. rw c.in-Some.is (where-read _ _ c.in-Err.stop c.answer.result c.answer.ensures (c.in-Err.ensures.octets_read db held own) (chosen-most db c.args.actor on c.args.motion _ _));
      least = λ kind. stopped-least c.args.motion c.args.out.now (rows_under db c.args.actor on) c.in-Err.stop c.answer.result _ _ c.answer.ensures (c.in-Err.ensures.refused db held own)
          (chosen-least _ c.in-Err.stop _ _ (c.in-Err.ensures.octets_read db held own));
    }
