-- A changing command leaves a valid database valid, on a card of as many cells.
use Rattle.std.proofs.Common.{◌≡◌, List, Option, ap, Ok, Err, refl, subst, sym, ◌∙◌}
use Rattle.std.specs.Prelude.{Result}
use Rattle.scql_base.specs.declared.cursor.Cursor.{Cursor}
use Rattle.scql_base.specs.declared.operation.Operation.{Operation}
use Rattle.scql_base.specs.declared.words.Actor.{Actor}
use Rattle.scql_base.specs.declared.words.StatusWord.{StatusWord}
use Rattle.scql_model.specs.Changing.{change_of, edits_of}
use Rattle.scql_model.specs.Creating.{IsActorOf}
use Rattle.scql_model.specs.Database.{Database, IsValid}
use Rattle.scql_model.specs.Edits.{Edit, with_edits}
use Rattle.scql_model.specs.WellFormed.{FitsCard, HasForm}
use Rattle.scql_model.proofs.ChangeLaws.{change_of-edits, change_of-ok}
use Rattle.scql_model.proofs.OperationLaws.{IsValid-edits_of}
use Rattle.plain_database.specs.Effects.{EndsAsMeant}

-- what is decided on is the change, or the refusal
module _ (db : Database) (actor : Actor) (cursor : Option Cursor) (operation : Operation) where
  pub decided-change : (edits : List Edit) → Ok edits ≡ edits_of db actor cursor operation → with_edits db edits ≡ change_of db actor cursor operation
  decided-change edits is = sym (change_of-edits db actor cursor operation edits (sym is))

  pub decided-refusal : (word : StatusWord) → Err word ≡ edits_of db actor cursor operation → Err word ≡ change_of db actor cursor operation
  unfolding change_of
  decided-refusal word is = rw (sym is) refl

module _ (db new : Database) (actor : Actor) (cursor : Option Cursor) (operation : Operation) where
  pub stays-valid : (result : Result (Unit {0}) StatusWord) → EndsAsMeant db new result (change_of db actor cursor operation)
      → IsValid db → IsActorOf db actor → HasForm operation → FitsCard db.limit operation → IsValid new
  stays-valid (Ok done) ends valid acts form fits =
      let made = change_of-ok db actor cursor operation new (sym ends.ended) in
      IsValid-edits_of db actor cursor operation made.0 new valid acts form fits made.1 (sym (change_of-edits db actor cursor operation made.0 made.1) ∙ sym ends.ended)
  stays-valid (Err word) ends valid acts form fits = subst IsValid (sym ends.same) valid

  pub same-cells : (result : Result (Unit {0}) StatusWord) → EndsAsMeant db new result (change_of db actor cursor operation) → new.cells ≡ db.cells
  same-cells (Ok done) ends =
      let made = change_of-ok db actor cursor operation new (sym ends.ended) in
      made.2.cells
  same-cells (Err word) ends = ap (λ (d : Database). d.cells) ends.same
