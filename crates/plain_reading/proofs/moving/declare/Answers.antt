-- The columns of the object are those of what it contains.
use Rattle.std.proofs.Common.{Ok, refl, sym, ap, ◌∙◌}
use Rattle.scql_base.specs.declared.cursor.Cursor.{Cursor}
use Rattle.scql_base.specs.declared.cursor.Place.TheVariants.{NotOpen}
use Rattle.plain_reading.proofs.ReadableObjects.{declares-named, declares-unnamed}
use Rattle.plain_reading.proofs.moving.declare.Goals as goal

pub returns-then-not-are_named_among : goal.returns-then-not-are_named_among
returns-then-not-are_named_among c =
    let unnamed = declares-unnamed c.args.database.now c.args.actor c.args.reading.now c.args.object.now c.args.columns.now c.args.conditions.now c.in-Some.object.now c.database-records.ensures.valid (rw c.database-records.ensures.same at (sym c.in-Some.ensures))
    (rw c.database-records.ensures.same at (sym c.if-not-holds.ensures)) (rw c.columns_of-all.ensures at (sym c.if-not-are_named_among.ensures)) in
    record { answered = sym unnamed; same = refl }

pub returns : goal.returns
returns c =
    let cursor : Cursor = record { object = c.in-Some.object.now.stamp; columns = c.copy.result; conditions = c.copy-2.result; place = NotOpen } in
    let named = declares-named c.args.database.now c.args.actor c.args.reading.now c.args.object.now c.args.columns.now c.args.conditions.now c.in-Some.object.now c.database-records.ensures.valid (rw c.database-records.ensures.same at (sym c.in-Some.ensures))
    (rw c.database-records.ensures.same at (sym c.if-not-holds.ensures)) (rw c.columns_of-all.ensures at (sym c.if-not-are_named_among.ensures)) in
    record {
      answered = ap Ok (c.stand_at.ensures cursor refl) ∙ (rw (c.copy.ensures, c.wanted_of.ensures, c.columns_of-all.ensures, c.copy-2.ensures) (sym named));
      same = tt;
    }
