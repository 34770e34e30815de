-- The record is changed in a transaction of its own, and the store holds the database with it.
use Rattle.std.proofs.Common.{rules, ◌≡◌, [], ◌∷◌, Some, Ok, refl, sym, ◌∙◌}
use Rattle.std.specs.Prelude.{IfSome}
use Rattle.record_store.specs.declared.side.Side.TheVariants.{Committed, Working}
use Rattle.scql_model.specs.Database.{Database, IsValid}
use Rattle.scql_model.specs.Edits.{applied, changing, octets_for}
use Rattle.record_table.specs.AtRest.{IsAtRest}
use Rattle.record_table.specs.Listed.{at_slot, slots_of}
use Rattle.record_table.specs.Making.{Ends}
use Rattle.record_table.proofs.AtRest.{Replaces-done, Replaces-failed, Replaces-fault, Replaces-half, behind-changed, held-begun, made-edits, not-refused, over-begun, same-slots, slots-committed}
use Rattle.record_table.proofs.committing.commit_in_place.Given.{Over}
use Rattle.record_table.proofs.committing.commit_in_place.Goals as goal
use Rattle.record_table.proofs.committing.commit_in_place.Goals.{After-change_in_place}

pub change_in_place-requires-clause-open : goal.change_in_place-requires-clause-open
change_in_place-requires-clause-open g c = record {
  begun = search rules;
  over = over-begun c.args.store.now c.begin.new.self (g.B.Eeprom.chip c.args.bench.now) (g.B.Eeprom.chip c.args.bench.now) c.requires.rests.over refl c.begin.ensures.begun c.begin.ensures.stands;
}

-- the slots with which the transaction begins are those that are committed
begun_slots : (g : Over) (c : After-change_in_place g) → slots_of c.args.store.now Committed (g.B.Eeprom.chip c.args.bench.now) ≡ slots_of c.begin.new.self Working (g.B.Eeprom.chip c.args.bench.now)
begun_slots g c = sym (same-slots c.begin.new.self c.args.store.now Working Committed (g.B.Eeprom.chip c.args.bench.now) c.begin.ensures.starts)

-- how the change ended
ended : (g : Over) (c : After-change_in_place g) (db : Database) (was : g.row.R.Denot) → IsAtRest c.args.store.now (g.B.Eeprom.chip c.args.bench.now) db
    → IfSome (slots_of c.args.store.now Committed (g.B.Eeprom.chip c.args.bench.now)) (λ slots. Some was ≡ at_slot g.R.Record.kind c.args.slot slots) → g.R.Record.kind.key was ≡ g.R.Record.kind.key c.args.value.now
    → IsValid (applied db (changing (g.R.Editable.any c.args.value.now) ∷ []))
    → Ends db (Ok (changing (g.R.Editable.any c.args.value.now) ∷ [])) c.change_in_place.result c.begin.new.self c.change_in_place.new.store (g.B.Eeprom.chip c.args.bench.now) (g.B.Eeprom.chip c.change_in_place.new.bench)
ended g c db was rest there key valid =
    let old = g.B.Eeprom.chip c.args.bench.now in
    c.change_in_place.ensures.ends db was (held-begun c.args.store.now c.begin.new.self old old db rest refl c.begin.ensures.begun c.begin.ensures.starts)
    (rw (begun_slots g c) at there) key (λ room. valid)

pub returns-in_ok-commit-in-Ok : goal.returns-in_ok-commit-in-Ok
returns-in_ok-commit-in-Ok g c =
    let w = (goal.at.returns-in_ok-commit-in-Ok g c).After-change_in_place in
    let old = g.B.Eeprom.chip c.args.bench.now in
    let mid = g.B.Eeprom.chip c.change_in_place.new.bench in
    let new = g.B.Eeprom.chip c.commit.new.bench in
    let changed = c.in-Ok.ensures.leaves.goes_on (λ wrong. cc) in
    let done = c.in_ok-commit-in-Ok.ensures in
    record {
      replaces = λ db was rest there key room valid.
          let edits = changing (g.R.Editable.any c.args.value.now) ∷ [] in
          let makes = made-edits db edits (Ok edits) c.begin.new.self c.change_in_place.new.store old mid refl (rw c.in-Ok.is at (ended g w db was rest there key valid)) in
          Replaces-done _ db edits c.args.store.now c.begin.new.self c.change_in_place.new.store old mid c.requires.rests.over rest c.begin.ensures.begun c.begin.ensures.committed c.change_in_place.ensures.leaves.moments makes
          changed new c.commit.ensures.moments _ c.commit.new.self done.done done.told done.cells done.rows c.begin.ensures.no_entries done.octets_written;
      changed = rw (begun_slots g w, slots-committed c.change_in_place.new.store c.commit.new.self mid new changed.over done.done done.told) (c.in-Ok.ensures.changed);
      refused = λ word is. absurd cc;
      goes_on = search rules;
      behind = behind-changed old old mid new c.args.store.now c.begin.new.self c.change_in_place.new.store refl c.begin.ensures.begun changed.cells c.change_in_place.ensures.leaves.behind c.commit.ensures.behind;
      cause = search rules;
    }

pub returns-in_err-commit-in-Ok : goal.returns-in_err-commit-in-Ok
returns-in_err-commit-in-Ok g c =
    let w = (goal.at.returns-in_err-commit-in-Ok g c).After-change_in_place in
    let old = g.B.Eeprom.chip c.args.bench.now in
    let mid = g.B.Eeprom.chip c.change_in_place.new.bench in
    let new = g.B.Eeprom.chip c.commit.new.bench in
    let changed = c.in-Ok.ensures.leaves.goes_on (λ wrong. cc) in
    record {
      replaces = λ db was rest there key room valid.
          let edits = changing (g.R.Editable.any c.args.value.now) ∷ [] in
          let makes = made-edits db edits (Ok edits) c.begin.new.self c.change_in_place.new.store old mid refl (rw c.in-Ok.is at (ended g w db was rest there key valid)) in
          Replaces-fault db (applied db edits) (octets_for edits) c.from_residual.result c.commit.new.self old new c.from_residual.ensures.1
          (Replaces-half _ db edits c.args.store.now c.begin.new.self c.change_in_place.new.store old mid c.requires.rests.over rest c.begin.ensures.begun c.begin.ensures.committed c.change_in_place.ensures.leaves.moments makes
          changed new c.commit.ensures.moments c.commit.new.self);
      changed = search rules;
      refused = search rules;
      goes_on = search rules;
      behind = behind-changed old old mid new c.args.store.now c.begin.new.self c.change_in_place.new.store refl c.begin.ensures.begun changed.cells c.change_in_place.ensures.leaves.behind c.commit.ensures.behind;
      cause = search rules;
    }

pub returns-in-Err-Refused : goal.returns-in-Err-Refused
returns-in-Err-Refused g c =
    let w = (goal.at.returns-in-Err-Refused g c).After-change_in_place in
    let old = g.B.Eeprom.chip c.args.bench.now in
    record {
      replaces = λ db was rest there key room valid.
          absurd (not-refused db (changing (g.R.Editable.any c.args.value.now) ∷ []) c.in-Err-Refused.word room (rw (c.in-Err-Refused.is, c.in-Err-Refused.field-0-is) at (ended g w db was rest there key valid)).0);
      changed = search rules;
      refused = λ word is.
          same-slots c.rollback.new.self c.change_in_place.new.store Committed Committed (g.B.Eeprom.chip c.change_in_place.new.bench) c.rollback.ensures.committed
          ∙ (c.in-Err-Refused.ensures.leaves.committed (λ wrong. cc) ∙ same-slots c.begin.new.self c.args.store.now Committed Committed old c.begin.ensures.committed);
      goes_on = search rules;
      behind = search rules;
      cause = search rules;
    }

pub returns-in-Err-Fault : goal.returns-in-Err-Fault
returns-in-Err-Fault g c = record {
  replaces = λ db was rest there key room valid.
      Replaces-failed _ db (changing (g.R.Editable.any c.args.value.now) ∷ []) c.args.store.now c.begin.new.self c.change_in_place.new.store (g.B.Eeprom.chip c.args.bench.now) (g.B.Eeprom.chip c.change_in_place.new.bench) c.requires.rests.over rest
      c.begin.ensures.begun c.begin.ensures.committed c.change_in_place.ensures.leaves.moments c.change_in_place.new.store;
  changed = search rules;
  refused = search rules;
  goes_on = search rules;
  behind = search rules;
  cause = search rules;
}
