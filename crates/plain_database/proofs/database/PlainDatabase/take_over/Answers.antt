-- The lists have room for as many records as a valid database of so many cells has.
use Rattle.std.proofs.Common.{ap, ◌∙◌, arith}
use Rattle.scql_model.specs.Database.{Database}
use Rattle.plain_database.proofs.RoomOfKinds.{few-valid}
use Rattle.plain_database.proofs.database.PlainDatabase.take_over.Goals as goal

pub refill-requires : goal.refill-requires
refill-requires c =
    let few = few-valid c.args.other.now c.database-source.ensures.valid in
    let own = ap (λ (db : Database). db.cells) c.self.view_is in
    let its = ap (λ (db : Database). db.users) (c.source.view_is ∙ c.database-source.ensures.same) in
    rw (c.deref.ensures.value, its) (omega (arith, few, own, c.requires, c.self.invariant))

pub refill-requires-2 : goal.refill-requires-2
refill-requires-2 c =
    let few = few-valid c.args.other.now c.database-source.ensures.valid in
    let own = ap (λ (db : Database). db.cells) c.self.view_is in
    let its = ap (λ (db : Database). db.objects) (c.source.view_is ∙ c.database-source.ensures.same) in
    rw (c.deref-2.ensures.value, its) (omega (arith, few, own, c.requires, c.self.invariant))

pub refill-requires-3 : goal.refill-requires-3
refill-requires-3 c =
    let few = few-valid c.args.other.now c.database-source.ensures.valid in
    let own = ap (λ (db : Database). db.cells) c.self.view_is in
    let its = ap (λ (db : Database). db.grants) (c.source.view_is ∙ c.database-source.ensures.same) in
    rw (c.deref-3.ensures.value, its) (omega (arith, few, own, c.requires, c.self.invariant))

pub refill-requires-4 : goal.refill-requires-4
refill-requires-4 c =
    let few = few-valid c.args.other.now c.database-source.ensures.valid in
    let own = ap (λ (db : Database). db.cells) c.self.view_is in
    let its = ap (λ (db : Database). db.rows) (c.source.view_is ∙ c.database-source.ensures.same) in
    rw (c.deref-4.ensures.value, its) (omega (arith, few, own, c.requires, c.self.invariant))
