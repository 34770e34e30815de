-- There is room, and the user stands behind the others.
use Rattle.std.proofs.Common.{length, refl, sym, ap, arith}
use Rattle.scql_model.specs.Database.{Database}
use Rattle.scql_model.specs.Edits.{of_user}
use Rattle.plain_database.proofs.MadeRecords.{is_made}
use Rattle.plain_database.proofs.database.PlainDatabase.add_user.Goals as goal

pub push_reserved-requires : goal.push_reserved-requires
push_reserved-requires c =
    let made = is_made c.args.self.now (of_user c.args.user) (rw c.cells.ensures.number at (sym c.if-not-has_room.ensures)) in
    let cells = ap (λ (db : Database). db.cells) c.self.view_is in
    let many = ap (λ (db : Database). length db.users) c.self.view_is in
    omega (arith, made.few.users, made.room, cells, many, c.self.inside.users.ok.0, c.self.invariant.for_users)

pub returns : goal.returns
returns c =
    let made = is_made c.args.self.now (of_user c.args.user) (rw c.cells.ensures.number at (sym c.if-not-has_room.ensures)) in
    record { ended = rw (made.edits, c.push_reserved.ensures.items, ← c.self.view_is) refl; same = tt }
