-- Each way in which a change ends.
use Rattle.std.proofs.Common.{List, Result, Err, ◌≡◌, ℕ, Option, is_some, sym, ap, subst, ◌∙◌, rules}
use Rattle.eeprom.specs.Chip.{Chip, Keeps}
use Rattle.eeprom.specs.StoreOf.{store_of}
use Rattle.record_store.specs.Held.{Held}
use Rattle.record_store.specs.declared.side.Side.TheVariants.{Committed, Working}
use Rattle.scql_base.specs.declared.cursor.Cursor.{Cursor}
use Rattle.scql_base.specs.declared.words.Actor.{Actor}
use Rattle.scql_model.specs.Changing.{edits_of}
use Rattle.scql_model.specs.Creating.{IsActorOf}
use Rattle.scql_model.specs.Cursors.{IsCursorOf}
use Rattle.scql_model.specs.Database.{Database}
use Rattle.scql_model.specs.WellFormed.{FitsCard}
use Rattle.record_table.specs.Making.{IsHeld, Ends}
use Rattle.record_table.specs.declared.stop.Stop.{Stop}
use Rattle.record_table.specs.declared.stop.Stop.TheVariants.{Fault, Refused}
use Rattle.scql_base.specs.declared.words.StatusWord.{StatusWord}
use Rattle.scql_model.specs.Edits.{Edit}
use Rattle.std.specs.Prelude.{IfSome, IsErrOf, Ok}
use Rattle.eeprom.proofs.Leaves.{Keeps-none}
use Rattle.scql_base.specs.Words.{done}
use Rattle.record_table.specs.AtRest.{IsAtRest}
use Rattle.db_read.specs.Scan.{IsRightFor}
use Rattle.row_table.specs.Tables.{Stand}
use Rattle.card.specs.Acting.{acting}
use Rattle.card.specs.Changing.{Changes, MayChange, new_of}
use Rattle.row_index.specs.Index.{Index, Indexes}
use Rattle.card.proofs.IndexedStore.{HoldsSome-changed, Indexes-held, rest-concluded}
use Rattle.record_table.proofs.AtRest.{held-begun, held-before, opens-rest, committed-begun, behind-changed}
use Rattle.card.proofs.ChangedStore.{rest-rolled_back, Changes-failed, Changes-refused, Changes-half_committed, Changes-committed}
use Rattle.card.proofs.CatalogKept.{catalog-concluded, catalog-kept}
use Rattle.card.proofs.ChangingOperations.{IsActorOf-acting}
use Rattle.card.proofs.Performing.{refused-not_done}
use Rattle.card.proofs.Ended.{ends-as}
use Rattle.card.proofs.changing.change.Goals.{In_ok-commit-in-Ok, After-make, After-rollback}
use Rattle.card.proofs.changing.change.Goals as goal

pub returns-in_err-actor-clause-changes : goal.returns-in_err-actor-clause-changes
returns-in_err-actor-clause-changes g c = λ db rest of.
    Changes-failed db (edits_of db (acting db c.args.user) c.args.cursor.now c.args.operation.now) (g.B.Eeprom.chip c.args.bench.now) (opens-rest c.args.tables.now.store (g.B.Eeprom.chip c.args.bench.now) db c.requires.stand.over rest)
    c.from_residual.result c.args.tables.now.store (g.B.Eeprom.chip c.actor_known.new.bench) (search rules)
    (Keeps-none store_of (g.B.Eeprom.chip c.args.bench.now) (g.B.Eeprom.chip c.actor_known.new.bench) c.in_err-actor.ensures.frame.same)

-- the operation that was made ended as through a cursor
abbrev EndsThrough : (g : _) (c : After-make g) → Database → Option Cursor → Type 0
EndsThrough g c db cursor =
    Ends db (edits_of db (acting db c.args.user) cursor c.args.operation.now) c.make.result c.begin.new.self.store c.make.new.tables.store (g.B.Eeprom.chip c.actor_known.new.bench) (g.B.Eeprom.chip c.make.new.bench)

-- what is held when it is made
held-made : (g : _) (c : After-make g) (db : Database) → IsAtRest c.args.tables.now.store (g.B.Eeprom.chip c.args.bench.now) db → IsHeld c.begin.new.self.store Working (g.B.Eeprom.chip c.actor_known.new.bench) db
held-made g c db rest =
    held-begun c.args.tables.now.store c.begin.new.self.store (g.B.Eeprom.chip c.args.bench.now) (g.B.Eeprom.chip c.actor_known.new.bench) db rest c.in_ok-actor.ensures.frame.same c.begin.ensures.store c.begin.ensures.starts

-- and for whom
actor-made : (g : _) (c : After-make g) (db : Database) → IsAtRest c.args.tables.now.store (g.B.Eeprom.chip c.args.bench.now) db → c.in_ok-actor.actor ≡ acting db c.args.user
actor-made g c db rest = let before : IsHeld c.args.tables.now.store Committed (g.B.Eeprom.chip c.args.bench.now) db = rest in c.in_ok-actor.ensures.actor db before

acts-made : (g : _) (c : After-make g) (db : Database) → IsAtRest c.args.tables.now.store (g.B.Eeprom.chip c.args.bench.now) db → IsActorOf db c.in_ok-actor.actor
acts-made g c db rest = subst (IsActorOf db) (sym (actor-made g c db rest)) (IsActorOf-acting db c.args.user)

fits-made : (g : _) (c : After-make g) (db : Database) → IsAtRest c.args.tables.now.store (g.B.Eeprom.chip c.args.bench.now) db → FitsCard db.limit c.args.operation.now
fits-made g c db rest = subst (λ (limit : ℕ). FitsCard limit c.args.operation.now) (sym rest.limit) c.requires.fits

may-made : (g : _) (c : After-make g) (db : Database) → IsAtRest c.args.tables.now.store (g.B.Eeprom.chip c.args.bench.now) db → MayChange db c.in_ok-actor.actor c.args.operation.now
may-made g c db rest = record { acts = acts-made g c db rest; form = c.requires.formed; fits = fits-made g c db rest }

-- It ended as through the cursor that it was given, where that is one of the database.
ended : (g : _) (c : After-make g) (db : Database) → IsAtRest c.args.tables.now.store (g.B.Eeprom.chip c.args.bench.now) db → IfSome c.args.cursor.now (IsCursorOf db) → EndsThrough g c db c.args.cursor.now
ended g c db rest of =
    let ends = c.make.ensures.ended.ends db (held-made g c db rest) (may-made g c db rest) in
    ends-as db _ _ c.make.result _ _ _ _ (ends.1.given of ∙ ap (λ actor. edits_of db actor c.args.cursor.now c.args.operation.now) (actor-made g c db rest)) ends.2

-- It ended as through some cursor in any case.
through : (g : _) (c : After-make g) (db : Database) → IsAtRest c.args.tables.now.store (g.B.Eeprom.chip c.args.bench.now) db → (cursor : Option Cursor) × EndsThrough g c db cursor
through g c db rest =
    let ends = c.make.ensures.ended.ends db (held-made g c db rest) (may-made g c db rest) in
    let some = ends.1.through in
    (some.0, ends-as db _ _ c.make.result _ _ _ _ (some.1 ∙ ap (λ actor. edits_of db actor some.0 c.args.operation.now) (actor-made g c db rest)) ends.2)

-- The index stands for what was made, where nothing failed.
followed : (g : _) (c : After-make g) → ¬ IsErrOf c.make.result Fault → Indexes c.make.new.tables.index c.make.new.tables.store (g.B.Eeprom.chip c.make.new.bench)
followed g c whole =
    let old = g.B.Eeprom.chip c.args.bench.now in
    let goes_on = c.make.ensures.ended.goes_on whole in
    Indexes-held c.make.new.tables.index c.make.new.tables.store c.args.tables.now.store Committed old (g.B.Eeprom.chip c.make.new.bench) c.requires.holds
    (goes_on.told ∙ ap (λ (chip : Chip). is_some chip.image) c.in_ok-actor.ensures.frame.same)
    (c.make.ensures.ended.index_cells ∙ (ap (λ (i : Index). i.cells) c.begin.ensures.index ∙ (c.requires.stand.index.cells ∙ sym (goes_on.cells ∙ ap (λ (h : Held). h.chains.cells) c.begin.ensures.store)))) (λ db rest.
    c.make.ensures.ended.index db (held-made g c db rest) (may-made g c db rest) whole)

-- so the tables stand
stood : (g : _) (c : After-make g) → ¬ IsErrOf c.make.result Fault → Stand c.make.new.tables (g.B.Eeprom.chip c.make.new.bench)
stood g c whole = record {
  over = (c.make.ensures.ended.goes_on whole).over;
  index = followed g c whole;
  together = c.make.ensures.ended.index_begun ∙ ((c.begin.ensures.stand _ c.requires.stand).together ∙ sym (c.make.ensures.ended.goes_on whole).begun);
}

-- the store of the image stayed so far
kept : (g : _) (c : After-make g) → Keeps store_of (g.B.Eeprom.chip c.args.bench.now) (g.B.Eeprom.chip c.make.new.bench)
kept g c = subst (λ (chip : Chip). Keeps store_of chip (g.B.Eeprom.chip c.make.new.bench)) c.in_ok-actor.ensures.frame.same c.make.ensures.ended.moments

-- a refusal did nothing
refused-still : (g : _) (c : After-rollback g) (db : Database) (cursor : Option Cursor) → EndsThrough g (goal.at.returns-in-Err-Refused-clause-changes g c).After-make db cursor
    → (c.make.new.tables.store ≡ c.begin.new.self.store) × (g.B.Eeprom.chip c.make.new.bench ≡ g.B.Eeprom.chip c.actor_known.new.bench)
refused-still g c db cursor ends = let refused = rw (c.in-Err-Refused.is, c.in-Err-Refused.field-0-is) at ends in (refused.1, refused.2)

refused-through : (g : _) (c : After-rollback g) (db : Database) (cursor : Option Cursor) → IsAtRest c.args.tables.now.store (g.B.Eeprom.chip c.args.bench.now) db → EndsThrough g (goal.at.returns-in-Err-Refused-clause-changes g c).After-make db cursor
    → Changes db (edits_of db (acting db c.args.user) cursor c.args.operation.now) (Ok c.in-Err-Refused.word) c.rollback.new.self.store (g.B.Eeprom.chip c.args.bench.now) (g.B.Eeprom.chip c.make.new.bench)
refused-through g c db cursor rest ends =
    let old = g.B.Eeprom.chip c.args.bench.now in
    let refused = rw (c.in-Err-Refused.is, c.in-Err-Refused.field-0-is) at ends in
    Changes-refused db (edits_of db (acting db c.args.user) cursor c.args.operation.now) old (opens-rest c.args.tables.now.store old db c.requires.stand.over rest) c.in-Err-Refused.word c.rollback.new.self.store (g.B.Eeprom.chip c.make.new.bench)
    (refused.2 ∙ c.in_ok-actor.ensures.frame.same) refused.0
    (rest-rolled_back c.args.tables.now.store c.begin.new.self.store c.make.new.tables.store c.rollback.new.self.store old (g.B.Eeprom.chip c.actor_known.new.bench) (g.B.Eeprom.chip c.make.new.bench) db rest
    c.in_ok-actor.ensures.frame.same c.begin.ensures.store c.begin.ensures.committed refused.1 refused.2 c.rollback.ensures.committed c.rollback.ensures.cells c.rollback.ensures.rows)

pub returns-in-Err-Refused-clause-changes : goal.returns-in-Err-Refused-clause-changes
returns-in-Err-Refused-clause-changes g c = λ db rest of. refused-through g c db c.args.cursor.now rest (ended g (goal.at.returns-in-Err-Refused-clause-changes g c).After-make db rest of)

pub returns-in_err-commit-in-Ok-clause-changes : goal.returns-in_err-commit-in-Ok-clause-changes
returns-in_err-commit-in-Ok-clause-changes g c = λ db rest of.
    let w = (goal.at.returns-in_err-commit-in-Ok-clause-changes g c).After-make in
    let old = g.B.Eeprom.chip c.args.bench.now in
    let cursor = c.args.cursor.now in
    let edited = edits_of db (acting db c.args.user) cursor c.args.operation.now in
    let made = rw c.in-Ok.is at (ended g w db rest of) in
    let goes_on = c.in-Ok.ensures.ended.goes_on (λ wrong. cc) in
    Changes-half_committed db edited old (opens-rest c.args.tables.now.store old db c.requires.stand.over rest) made.0 made.1 c.begin.new.self.store c.make.new.tables.store (g.B.Eeprom.chip c.actor_known.new.bench) (g.B.Eeprom.chip c.make.new.bench) made.2
    c.from_residual-in_err-commit-in-Ok.result c.commit.new.self.store (g.B.Eeprom.chip c.commit.new.bench) (search rules) (kept g w)
    (committed-begun c.args.tables.now.store c.begin.new.self.store c.make.new.tables.store old (g.B.Eeprom.chip c.actor_known.new.bench) (g.B.Eeprom.chip c.make.new.bench) db rest c.in_ok-actor.ensures.frame.same c.begin.ensures.store c.begin.ensures.committed made.2.committed goes_on.cells goes_on.rows)
    c.commit.ensures.moments

done-through : (g : _) (c : In_ok-commit-in-Ok g) (db : Database) (cursor : Option Cursor) → IsAtRest c.args.tables.now.store (g.B.Eeprom.chip c.args.bench.now) db → EndsThrough g (goal.at.returns-in_ok-commit-in-Ok-clause-changes g c).After-make db cursor
    → Changes db (edits_of db (acting db c.args.user) cursor c.args.operation.now) (Ok done) c.commit.new.self.store (g.B.Eeprom.chip c.args.bench.now) (g.B.Eeprom.chip c.commit.new.bench)
done-through g c db cursor rest ends =
    let w = (goal.at.returns-in_ok-commit-in-Ok-clause-changes g c).After-make in
    let old = g.B.Eeprom.chip c.args.bench.now in
    let edited = edits_of db (acting db c.args.user) cursor c.args.operation.now in
    let made = rw c.in-Ok.is at ends in
    let goes_on = c.in-Ok.ensures.ended.goes_on (λ wrong. cc) in
    Changes-committed db edited old (opens-rest c.args.tables.now.store old db c.requires.stand.over rest) made.0 made.1 c.begin.new.self.store c.make.new.tables.store (g.B.Eeprom.chip c.actor_known.new.bench) (g.B.Eeprom.chip c.make.new.bench) made.2
    c.commit.new.self.store (g.B.Eeprom.chip c.commit.new.bench) goes_on.over (kept g w)
    (committed-begun c.args.tables.now.store c.begin.new.self.store c.make.new.tables.store old (g.B.Eeprom.chip c.actor_known.new.bench) (g.B.Eeprom.chip c.make.new.bench) db rest c.in_ok-actor.ensures.frame.same c.begin.ensures.store c.begin.ensures.committed made.2.committed goes_on.cells goes_on.rows)
    c.commit.ensures.moments c.in_ok-commit-in-Ok.ensures.done c.in_ok-commit-in-Ok.ensures.told c.in_ok-commit-in-Ok.ensures.cells c.in_ok-commit-in-Ok.ensures.rows
    (ap (λ (chip : Chip). chip.written) c.in_ok-actor.ensures.frame.same) c.begin.ensures.no_entries c.in_ok-commit-in-Ok.ensures.octets_written

pub returns-in_ok-commit-in-Ok-clause-changes : goal.returns-in_ok-commit-in-Ok-clause-changes
returns-in_ok-commit-in-Ok-clause-changes g c = λ db rest of. done-through g c db c.args.cursor.now rest (ended g (goal.at.returns-in_ok-commit-in-Ok-clause-changes g c).After-make db rest of)

pub returns-in_err-commit-in-Ok-clause-ends : goal.returns-in_err-commit-in-Ok-clause-ends
returns-in_err-commit-in-Ok-clause-ends g c = record {
  stand = search rules;
  behind =
      behind-changed (g.B.Eeprom.chip c.args.bench.now) (g.B.Eeprom.chip c.actor_known.new.bench) (g.B.Eeprom.chip c.make.new.bench) (g.B.Eeprom.chip c.commit.new.bench) c.args.tables.now.store c.begin.new.self.store c.make.new.tables.store
      c.in_ok-actor.ensures.frame.same c.begin.ensures.store (c.in-Ok.ensures.ended.goes_on (λ wrong. cc)).cells c.make.ensures.ended.behind c.commit.ensures.behind;
  cause = search rules;
}

pub returns-in_ok-commit-in-Ok-clause-ends : goal.returns-in_ok-commit-in-Ok-clause-ends
returns-in_ok-commit-in-Ok-clause-ends g c = record {
  stand = search rules;
  behind =
      behind-changed (g.B.Eeprom.chip c.args.bench.now) (g.B.Eeprom.chip c.actor_known.new.bench) (g.B.Eeprom.chip c.make.new.bench) (g.B.Eeprom.chip c.commit.new.bench) c.args.tables.now.store c.begin.new.self.store c.make.new.tables.store
      c.in_ok-actor.ensures.frame.same c.begin.ensures.store (c.in-Ok.ensures.ended.goes_on (λ wrong. cc)).cells c.make.ensures.ended.behind c.commit.ensures.behind;
  cause = search rules;
}

pub returns-in-Err-Fault-clause-changes : goal.returns-in-Err-Fault-clause-changes
returns-in-Err-Fault-clause-changes g c = λ db rest of.
    let old = g.B.Eeprom.chip c.args.bench.now in
    Changes-failed db (edits_of db (acting db c.args.user) c.args.cursor.now c.args.operation.now) old (opens-rest c.args.tables.now.store old db c.requires.stand.over rest) _ c.make.new.tables.store (g.B.Eeprom.chip c.make.new.bench) tt
    (kept g (goal.at.returns-in-Err-Fault-clause-changes g c).After-make)

pub returns-in_ok-commit-in-Ok-clause-holds : goal.returns-in_ok-commit-in-Ok-clause-holds
returns-in_ok-commit-in-Ok-clause-holds g c =
    HoldsSome-changed c.commit.new.self.store c.args.tables.now.store Committed (g.B.Eeprom.chip c.args.bench.now) (g.B.Eeprom.chip c.commit.new.bench) c.requires.holds
    (c.in_ok-commit-in-Ok.ensures.told ∙ ((c.in-Ok.ensures.ended.goes_on (λ wrong. cc)).told ∙ ap (λ (chip : Chip). is_some chip.image) c.in_ok-actor.ensures.frame.same))
    (λ db rest.
    let ends = through g (goal.at.returns-in_ok-commit-in-Ok-clause-changes g c).After-make db rest in
    rest-concluded db _ _ _ _ (done-through g c db ends.0 rest ends.1).step)

pub returns-in-Err-Refused-clause-holds : goal.returns-in-Err-Refused-clause-holds
returns-in-Err-Refused-clause-holds g c =
    HoldsSome-changed c.rollback.new.self.store c.args.tables.now.store Committed (g.B.Eeprom.chip c.args.bench.now) (g.B.Eeprom.chip c.make.new.bench) c.requires.holds
    ((c.in-Err-Refused.ensures.ended.goes_on (λ wrong. cc)).told ∙ ap (λ (chip : Chip). is_some chip.image) c.in_ok-actor.ensures.frame.same)
    (λ db rest.
    let ends = through g (goal.at.returns-in-Err-Refused-clause-changes g c).After-make db rest in
    rest-concluded db _ _ _ _ (refused-through g c db ends.0 rest ends.1).step)

pub make-requires-clause-may : goal.make-requires-clause-may
make-requires-clause-may g c = record {
  «open» = record { stand = c.begin.ensures.stand _ (rw (sym c.in_ok-actor.ensures.frame.same) at c.requires.stand); begun = search rules };
  fits = subst (λ (store : Held). FitsCard store.row_limit c.args.operation.now) (sym c.begin.ensures.store) c.requires.fits;
}

pub commit-requires : goal.commit-requires
commit-requires g c = record { «open» = record { stand = stood g (goal.at.commit-requires g c).After-make (rw c.in-Ok.is (λ wrong. cc)); begun = search rules } }

pub returns-in-Err-Refused-clause-ends : goal.returns-in-Err-Refused-clause-ends
returns-in-Err-Refused-clause-ends g c = record {
  stand = c.rollback.ensures.stand _ (stood g (goal.at.returns-in-Err-Refused-clause-ends g c).After-make (rw (c.in-Err-Refused.is, c.in-Err-Refused.field-0-is) (λ wrong. cc)));
  behind = search rules;
  cause = search rules;
}

pub returns-in_ok-commit-in-Ok-clause-catalog : goal.returns-in_ok-commit-in-Ok-clause-catalog
returns-in_ok-commit-in-Ok-clause-catalog g c = λ rows.
    let new = g.B.Eeprom.chip c.commit.new.bench in
    catalog-kept c.commit.new.self.store c.args.tables.now.store Committed new (g.B.Eeprom.chip c.args.bench.now) c.requires.holds
    (c.in_ok-commit-in-Ok.ensures.told ∙ ((c.in-Ok.ensures.ended.goes_on (λ wrong. cc)).told ∙ ap (λ (chip : Chip). is_some chip.image) c.in_ok-actor.ensures.frame.same)) (λ db next rest after.
    let ends = through g (goal.at.returns-in_ok-commit-in-Ok-clause-changes g c).After-make db rest in
    catalog-concluded c.commit.new.self.store new db next (acting db c.args.user) ends.0 c.args.operation.now done rows (done-through g c db ends.0 rest ends.1).step after)

pub returns-in-Err-Refused-clause-catalog : goal.returns-in-Err-Refused-clause-catalog
returns-in-Err-Refused-clause-catalog g c = λ rows.
    let new = g.B.Eeprom.chip c.make.new.bench in
    catalog-kept c.rollback.new.self.store c.args.tables.now.store Committed new (g.B.Eeprom.chip c.args.bench.now) c.requires.holds
    ((c.in-Err-Refused.ensures.ended.goes_on (λ wrong. cc)).told ∙ ap (λ (chip : Chip). is_some chip.image) c.in_ok-actor.ensures.frame.same) (λ db next rest after.
    let ends = through g (goal.at.returns-in-Err-Refused-clause-changes g c).After-make db rest in
    catalog-concluded c.rollback.new.self.store new db next (acting db c.args.user) ends.0 c.args.operation.now c.in-Err-Refused.word rows (refused-through g c db ends.0 rest ends.1).step after)

pub make-requires-clause-right : goal.make-requires-clause-right
make-requires-clause-right g c = λ db held.
    let rest : IsHeld c.args.tables.now.store Committed (g.B.Eeprom.chip c.args.bench.now) db = held-before c.args.tables.now.store c.begin.new.self.store (g.B.Eeprom.chip c.args.bench.now) (g.B.Eeprom.chip c.actor_known.new.bench) db held
    c.in_ok-actor.ensures.frame.same c.begin.ensures.store c.begin.ensures.starts in
    subst (λ (actor : Actor). IsRightFor db actor c.args.scan.now c.args.cursor.now) (sym (c.in_ok-actor.ensures.actor db rest)) (c.requires.right db rest)

pub returns-in_ok-commit-in-Ok-clause-gone : goal.returns-in_ok-commit-in-Ok-clause-gone
returns-in_ok-commit-in-Ok-clause-gone g c = λ db name rest deletes. c.in-Ok.ensures.gone.gone db name (held-made g (goal.at.returns-in_ok-commit-in-Ok-clause-gone g c).After-make db rest) deletes

-- the word of a refusal is that of the operation
word-refused : {T : Type 0} (db : Database) (outcome : Result (List Edit) StatusWord) (result : Result T Stop) (word : StatusWord) (old new : Held) (before after : Chip) → result ≡ Err (Refused word) → Ends db outcome result old new before after
    → new_of db outcome ≡ Err word
word-refused {T} db outcome result word old new before after is ends = (subst (λ (r : Result T Stop). Ends db outcome r old new before after) is ends).0

pub returns-in-Err-Refused-clause-gone : goal.returns-in-Err-Refused-clause-gone
returns-in-Err-Refused-clause-gone g c = λ db name rest deletes.
    let ends = through g (goal.at.returns-in-Err-Refused-clause-gone g c).After-make db rest in
    rw (refused-not_done db (acting db c.args.user) ends.0 c.args.operation.now c.in-Err-Refused.word (word-refused db _ c.make.result c.in-Err-Refused.word _ _ _ _ (c.in-Err-Refused.is ∙ ap Err c.in-Err-Refused.field-0-is) ends.1))
    c.in-Err-Refused.ensures.gone.none
