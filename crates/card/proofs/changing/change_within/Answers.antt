-- Each way in which a change within a transaction ends.
use Rattle.std.proofs.Common.{rules, ◌≡◌, ℕ, List, Option, Result, Ok, Err, is_some, refl, sym, ap, subst, ◌∙◌, inl, inr}
use Rattle.std.specs.Prelude.{IfSome, IsErrOf}
use Rattle.eeprom.specs.Chip.{Chip}
use Rattle.record_store.specs.Held.{Held}
use Rattle.record_store.specs.declared.side.Side.TheVariants.{Working}
use Rattle.scql_base.specs.declared.cursor.Cursor.{Cursor}
use Rattle.scql_base.specs.declared.words.Actor.{Actor}
use Rattle.scql_base.specs.declared.words.StatusWord.{StatusWord}
use Rattle.scql_model.specs.Changing.{edits_of, with_edits}
use Rattle.scql_model.specs.Edits.{Edit}
use Rattle.scql_model.specs.Refusals.{◌>>=◌}
use Rattle.scql_model.specs.Creating.{IsActorOf}
use Rattle.scql_model.specs.Cursors.{IsCursorOf}
use Rattle.scql_model.specs.Database.{Database}
use Rattle.scql_model.specs.WellFormed.{FitsCard}
use Rattle.record_table.specs.Making.{Ends, IsHeld, Makes}
use Rattle.record_table.specs.declared.stop.Stop.{Stop}
use Rattle.record_table.specs.declared.stop.Stop.TheVariants.{Fault, Refused}
use Rattle.record_table.proofs.Stopped.{IfOk-stop_answer}
use Rattle.row_index.specs.Index.{Indexes}
use Rattle.db_read.specs.Scan.{IsRightFor}
use Rattle.row_table.specs.Tables.{Stand}
use Rattle.card.specs.Acting.{acting}
use Rattle.card.specs.Changing.{MayChange}
use Rattle.card.proofs.Ended.{ends-as}
use Rattle.card.proofs.CatalogKept.{catalog-kept, catalog-made, same-catalog}
use Rattle.card.proofs.ChangingOperations.{IsActorOf-acting}
use Rattle.card.proofs.IndexedStore.{HoldsSome-changed, Indexes-held}
use Rattle.card.proofs.changing.change_within.Goals.{After-make}
use Rattle.card.proofs.changing.change_within.Goals as goal

-- the operation that was made ended as through a cursor
abbrev EndsThrough : (g : _) (c : After-make g) → Database → Option Cursor → Type 0
EndsThrough g c db cursor =
    Ends db (edits_of db (acting db c.args.user) cursor c.args.operation.now) c.make.result c.args.tables.now.store c.make.new.tables.store (g.B.Eeprom.chip c.actor_known.new.bench) (g.B.Eeprom.chip c.make.new.bench)

-- what is held when it is made, and for whom
held-made : (g : _) (c : After-make g) (db : Database) → IsHeld c.args.tables.now.store Working (g.B.Eeprom.chip c.args.bench.now) db → IsHeld c.args.tables.now.store Working (g.B.Eeprom.chip c.actor_known.new.bench) db
held-made g c db held = subst (λ (chip : Chip). IsHeld c.args.tables.now.store Working chip db) (sym c.in_ok-actor.ensures.frame.same) held

acts-made : (g : _) (c : After-make g) (db : Database) → IsHeld c.args.tables.now.store Working (g.B.Eeprom.chip c.args.bench.now) db → IsActorOf db c.in_ok-actor.actor
acts-made g c db held = subst (IsActorOf db) (sym (c.in_ok-actor.ensures.actor db held)) (IsActorOf-acting db c.args.user)

fits-made : (g : _) (c : After-make g) (db : Database) → IsHeld c.args.tables.now.store Working (g.B.Eeprom.chip c.args.bench.now) db → FitsCard db.limit c.args.operation.now
fits-made g c db held = subst (λ (limit : ℕ). FitsCard limit c.args.operation.now) (sym held.limit) c.requires.may.fits

may-made : (g : _) (c : After-make g) (db : Database) → IsHeld c.args.tables.now.store Working (g.B.Eeprom.chip c.args.bench.now) db → MayChange db c.in_ok-actor.actor c.args.operation.now
may-made g c db held = record { acts = acts-made g c db held; form = c.requires.formed; fits = fits-made g c db held }

-- It ended as through the cursor that it was given, where that is one of the database,
ended : (g : _) (c : After-make g) (db : Database) → IsHeld c.args.tables.now.store Working (g.B.Eeprom.chip c.args.bench.now) db → IfSome c.args.cursor.now (IsCursorOf db) → EndsThrough g c db c.args.cursor.now
ended g c db held of =
    let ends = c.make.ensures.ended.ends db (held-made g c db held) (may-made g c db held) in
    ends-as db _ _ c.make.result _ _ _ _ (ends.1.given of ∙ ap (λ actor. edits_of db actor c.args.cursor.now c.args.operation.now) (c.in_ok-actor.ensures.actor db held)) ends.2

-- and as through some cursor in any case.
through : (g : _) (c : After-make g) (db : Database) → IsHeld c.args.tables.now.store Working (g.B.Eeprom.chip c.args.bench.now) db → (cursor : Option Cursor) × EndsThrough g c db cursor
through g c db held =
    let ends = c.make.ensures.ended.ends db (held-made g c db held) (may-made g c db held) in
    let some = ends.1.through in
    (some.0, ends-as db _ _ c.make.result _ _ _ _ (some.1 ∙ ap (λ actor. edits_of db actor some.0 c.args.operation.now) (c.in_ok-actor.ensures.actor db held)) ends.2)

-- the index stands for what was made, where nothing failed
followed : (g : _) (c : After-make g) → ¬ IsErrOf c.make.result Fault → Indexes c.make.new.tables.index c.make.new.tables.store (g.B.Eeprom.chip c.make.new.bench)
followed g c whole =
    let goes_on = c.make.ensures.ended.goes_on whole in
    Indexes-held c.make.new.tables.index c.make.new.tables.store c.args.tables.now.store Working (g.B.Eeprom.chip c.args.bench.now) (g.B.Eeprom.chip c.make.new.bench) c.requires.works
    (goes_on.told ∙ ap (λ (chip : Chip). is_some chip.image) c.in_ok-actor.ensures.frame.same) (c.make.ensures.ended.index_cells ∙ (c.requires.may.open.stand.index.cells ∙ sym goes_on.cells)) (λ db held.
    c.make.ensures.ended.index db (held-made g c db held) (may-made g c db held) whole)

-- so the tables stand
stood : (g : _) (c : After-make g) → ¬ IsErrOf c.make.result Fault → Stand c.make.new.tables (g.B.Eeprom.chip c.make.new.bench)
stood g c whole = record {
  over = (c.make.ensures.ended.goes_on whole).over;
  index = followed g c whole;
  together = c.make.ensures.ended.index_begun ∙ (c.requires.may.open.stand.together ∙ sym (c.make.ensures.ended.goes_on whole).begun);
}

-- what is so of an operation that was done, and of one that was refused
of-ok : {T : Type 0} (db : Database) (outcome : Result (List Edit) StatusWord) (result : Result T Stop) (x : T) (old new : Held) (before after : Chip) → result ≡ Ok x → Ends db outcome result old new before after
    → (edits : List Edit) × (outcome ≡ Ok edits) × Makes db edits old new before after
of-ok {T} db outcome result x old new before after is ends = subst (λ (r : Result T Stop). Ends db outcome r old new before after) is ends

of-refused : {T : Type 0} (db : Database) (outcome : Result (List Edit) StatusWord) (result : Result T Stop) (word : StatusWord) (old new : Held) (before after : Chip) → result ≡ Err (Refused word) → Ends db outcome result old new before after
    → ((outcome >>= with_edits db) ≡ Err word) × (new ≡ old) × (after ≡ before)
of-refused {T} db outcome result word old new before after is ends = subst (λ (r : Result T Stop). Ends db outcome r old new before after) is ends

pub returns-in-Ok-clause-changes : goal.returns-in-Ok-clause-changes
returns-in-Ok-clause-changes g c = λ db held of.
    let made = rw c.in-Ok.is at (ended g (goal.at.returns-in-Ok-clause-changes g c).After-make db held of) in
    inl (made.0, made.1, refl, subst (λ (chip : Chip). Makes db made.0 c.args.tables.now.store c.make.new.tables.store chip (g.B.Eeprom.chip c.make.new.bench)) c.in_ok-actor.ensures.frame.same made.2)

pub returns-in-Err-clause-changes : goal.returns-in-Err-clause-changes
returns-in-Err-clause-changes g c = λ db held of. IfOk-stop_answer c.in-Err.stop c.answer.result _ c.answer.ensures (λ word is.
    let refused = rw (c.in-Err.is, is) at (ended g (goal.at.returns-in-Err-clause-changes g c).After-make db held of) in
    inr (refused.0, refused.1, refused.2 ∙ c.in_ok-actor.ensures.frame.same))

pub returns-in-Ok-clause-works : goal.returns-in-Ok-clause-works
returns-in-Ok-clause-works g c =
    HoldsSome-changed c.make.new.tables.store c.args.tables.now.store Working (g.B.Eeprom.chip c.args.bench.now) (g.B.Eeprom.chip c.make.new.bench) c.requires.works
    ((c.in-Ok.ensures.ended.goes_on (λ wrong. cc)).told ∙ ap (λ (chip : Chip). is_some chip.image) c.in_ok-actor.ensures.frame.same) (λ db held.
    let made = of-ok db _ c.make.result _ c.args.tables.now.store c.make.new.tables.store (g.B.Eeprom.chip c.actor_known.new.bench) (g.B.Eeprom.chip c.make.new.bench) c.in-Ok.is (through g (goal.at.returns-in-Ok-clause-works g c).After-make db held).1 in
    (_, made.2.held))

pub returns-in-Err-clause-works : goal.returns-in-Err-clause-works
returns-in-Err-clause-works g c = IfOk-stop_answer c.in-Err.stop c.answer.result _ c.answer.ensures (λ word is.
    HoldsSome-changed c.make.new.tables.store c.args.tables.now.store Working (g.B.Eeprom.chip c.args.bench.now) (g.B.Eeprom.chip c.make.new.bench) c.requires.works
    ((c.in-Err.ensures.ended.goes_on (λ wrong. cc)).told ∙ ap (λ (chip : Chip). is_some chip.image) c.in_ok-actor.ensures.frame.same) (λ db held.
    let refused = of-refused db _ c.make.result word c.args.tables.now.store c.make.new.tables.store (g.B.Eeprom.chip c.actor_known.new.bench) (g.B.Eeprom.chip c.make.new.bench) (c.in-Err.is ∙ ap Err is) (through g (goal.at.returns-in-Err-clause-works g c).After-make db held).1 in
    (db, subst (λ (store : Held). IsHeld store Working (g.B.Eeprom.chip c.make.new.bench) db) (sym refused.1) (subst (λ (chip : Chip). IsHeld c.args.tables.now.store Working chip db) (sym (refused.2 ∙ c.in_ok-actor.ensures.frame.same)) held))))

pub returns-in-Ok-clause-ends : goal.returns-in-Ok-clause-ends
returns-in-Ok-clause-ends g c = record {
  stand = stood g (goal.at.returns-in-Ok-clause-ends g c).After-make (rw c.in-Ok.is (λ wrong. cc));
  behind = search rules;
  cause = search rules;
}

pub returns-in-Err-clause-ends : goal.returns-in-Err-clause-ends
returns-in-Err-clause-ends g c = record {
  stand = IfOk-stop_answer c.in-Err.stop c.answer.result _ c.answer.ensures (λ word is.
      stood g (goal.at.returns-in-Err-clause-ends g c).After-make (rw (c.in-Err.is, is) (λ wrong. cc)));
  behind = search rules;
  cause = search rules;
}

pub returns-in-Ok-clause-catalog : goal.returns-in-Ok-clause-catalog
returns-in-Ok-clause-catalog g c = λ rows.
    let new = g.B.Eeprom.chip c.make.new.bench in
    catalog-kept c.make.new.tables.store c.args.tables.now.store Working new (g.B.Eeprom.chip c.args.bench.now) c.requires.works
    ((c.in-Ok.ensures.ended.goes_on (λ wrong. cc)).told ∙ ap (λ (chip : Chip). is_some chip.image) c.in_ok-actor.ensures.frame.same) (λ db next held after.
    let ends = through g (goal.at.returns-in-Ok-clause-catalog g c).After-make db held in
    let made = of-ok db _ c.make.result _ c.args.tables.now.store c.make.new.tables.store (g.B.Eeprom.chip c.actor_known.new.bench) new c.in-Ok.is ends.1 in
    catalog-made c.make.new.tables.store Working new db next (acting db c.args.user) ends.0 c.args.operation.now made.0 rows made.1 made.2.held after)

pub returns-in-Err-clause-catalog : goal.returns-in-Err-clause-catalog
returns-in-Err-clause-catalog g c = λ rows. IfOk-stop_answer c.in-Err.stop c.answer.result _ c.answer.ensures (λ word is.
    let old = g.B.Eeprom.chip c.args.bench.now in
    let new = g.B.Eeprom.chip c.make.new.bench in
    catalog-kept c.make.new.tables.store c.args.tables.now.store Working new old c.requires.works
    ((c.in-Err.ensures.ended.goes_on (λ wrong. cc)).told ∙ ap (λ (chip : Chip). is_some chip.image) c.in_ok-actor.ensures.frame.same) (λ db next held after.
    let ends = through g (goal.at.returns-in-Err-clause-catalog g c).After-make db held in
    let refused = of-refused db _ c.make.result word c.args.tables.now.store c.make.new.tables.store (g.B.Eeprom.chip c.actor_known.new.bench) new (c.in-Err.is ∙ ap Err is) ends.1 in
    let back = subst (λ (chip : Chip). IsHeld c.args.tables.now.store Working chip next) (refused.2 ∙ c.in_ok-actor.ensures.frame.same) (subst (λ (store : Held). IsHeld store Working new next) refused.1 after) in
    same-catalog c.args.tables.now.store c.args.tables.now.store Working Working old old db next refl held back))

pub make-requires-clause-right : goal.make-requires-clause-right
make-requires-clause-right g c = λ db held.
    let before = subst (λ (chip : Chip). IsHeld c.args.tables.now.store Working chip db) c.in_ok-actor.ensures.frame.same held in
    subst (λ (actor : Actor). IsRightFor db actor c.args.scan.now c.args.cursor.now) (sym (c.in_ok-actor.ensures.actor db before)) (c.requires.right db before)
