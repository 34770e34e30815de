-- The record of the place at an index.
use Rattle.std.proofs.Common.{◌∙◌, ap, arith, get_or}
use Rattle.card.specs.Pool.{record_at}
use Rattle.card.proofs.Pooled.{entry-at, items-seen, length-pool, place-at}
use Rattle.card.proofs.kept_records.KeptRecords.at.Goals as goal

pub index-requires : goal.index-requires
index-requires c =
    let many = length-pool c.self.inside.octets.items c.self.inside.places.items _ c.args.self.now c.self.view_is c.self.invariant.all in
    omega (arith, many, c.requires, c.self.inside.places.ok.0)

pub spelled_at-requires : goal.spelled_at-requires
spelled_at-requires c =
    let many = length-pool c.self.inside.octets.items c.self.inside.places.items _ c.args.self.now c.self.view_is c.self.invariant.all in
    rw c.as_slice.ensures.value (place-at c.self.inside.octets.items c.self.inside.places.items c.args.index c.index.result.now c.self.invariant.all (omega (arith, many, c.requires)) c.index.ensures)

pub returns : goal.returns
returns c =
    let octets = c.self.inside.octets.items in
    let places = c.self.inside.places.items in
    let many = length-pool octets places _ c.args.self.now c.self.view_is c.self.invariant.all in
    entry-at octets places c.args.index c.index.result.now c.spelled_at.result c.self.invariant.all (omega (arith, many, c.requires)) c.index.ensures (c.spelled_at.ensures ∙ ap (λ o. record_at o c.index.result.now) c.as_slice.ensures.value)
    ∙ ap (λ rs. get_or rs c.args.index c.spelled_at.result) (items-seen octets places _ c.args.self.now c.self.view_is)
