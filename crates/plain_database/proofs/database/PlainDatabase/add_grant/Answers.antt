-- There is room, and the grant stands behind the others.
use Rattle.std.proofs.Common.{length, refl, sym, ap, arith}
use Rattle.scql_model.specs.Database.{Database}
use Rattle.scql_model.specs.Edits.{of_grant}
use Rattle.plain_database.proofs.MadeRecords.{is_made}
use Rattle.plain_database.proofs.database.PlainDatabase.add_grant.Goals as goal

pub push_reserved-requires : goal.push_reserved-requires
push_reserved-requires c =
    let made = is_made c.args.self.now (of_grant c.args.grant) (rw c.cells.ensures.number at (sym c.if-not-has_room.ensures)) in
    let cells = ap (λ (db : Database). db.cells) c.self.view_is in
    let many = ap (λ (db : Database). length db.grants) c.self.view_is in
    omega (arith, made.few.grants, made.room, cells, many, c.self.inside.grants.ok.0, c.self.invariant.for_grants)

pub returns : goal.returns
returns c =
    let made = is_made c.args.self.now (of_grant c.args.grant) (rw c.cells.ensures.number at (sym c.if-not-has_room.ensures)) in
    record { ended = rw (made.edits, c.push_reserved.ensures.items, ← c.self.view_is) refl; same = tt }
