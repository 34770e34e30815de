use Rattle.std.proofs.Common.{◌≡◌, slice_index, ap, ◌∙◌, refl, arith}
use Rattle.cell_store.proofs.Freeing.{link-read}
use Rattle.record_store.specs.Held.{Held}
use Rattle.record_store.proofs.FirstOctets.{first-room, kept-told}
use Rattle.record_store.proofs.store.Store.first_octet.Goals as goal

pub index-requires : goal.index-requires
index-requires c = omega (arith, c.self.inside.first_octets.ok.0, first-room _ c.args.self.now c.args.side c.args.slot c.first_cell-first.result c.self.view_is c.self.invariant.weighed.sound c.first_cell-first.ensures.there c.first_cell-first.ensures.first c.if-first.false)

pub returns-clause-octet : goal.returns-clause-octet
returns-clause-octet c =
    let octets = c.self.inside.first_octets.items in
    let room = first-room _ c.args.self.now c.args.side c.args.slot c.first_cell-first.result c.self.view_is c.self.invariant.weighed.sound c.first_cell-first.ensures.there c.first_cell-first.ensures.first c.if-first.false in
    let octet : c.index.result.now ≡ slice_index octets c.first_cell-first.result = link-read octets octets c.first_cell-first.result c.index.result.now refl room c.index.ensures in
    kept-told c.args.self.now c.args.side c.args.slot c.first_cell-first.result c.index.result.now c.first_cell-first.ensures.first c.first_cell-first.ensures.there c.if-first.false
    (octet ∙ ap (λ (held : Held). slice_index held.first_octets c.first_cell-first.result) c.self.view_is)
