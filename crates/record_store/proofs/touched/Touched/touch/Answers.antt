use Rattle.std.proofs.Common.{◌<◌, length, ap, ◌∙◌, arith}
use Rattle.std.specs.Vec.{vec_capacity}
use Rattle.record_store.specs.Touched.{TouchedSlots}
use Rattle.record_store.proofs.Touching.{mark-read, touch-room, marked-more}
use Rattle.record_store.proofs.touched.Touched.touch.Goals as goal

pub push_reserved-requires : goal.push_reserved-requires
push_reserved-requires c =
    let marks = c.self.inside.marks.items in
    let inside : c.args.slot < length marks = omega (arith, c.requires.inside, ap (λ (touched : TouchedSlots). touched.size) c.self.view_is) in
    let free = mark-read marks c.args.slot c.index-marked.result.now inside c.index-marked.ensures ∙ c.if-marked.false in
    omega (arith, touch-room c.self.inside.slots.items marks (vec_capacity c.self.inside.slots) c.args.slot c.self.invariant inside free, c.self.inside.slots.ok.0)

pub invariant_of-self : goal.invariant_of-self
invariant_of-self c =
    let marks = c.self.inside.marks.items in
    let inside : c.args.slot < length marks = omega (arith, c.requires.inside, ap (λ (touched : TouchedSlots). touched.size) c.self.view_is) in
    let free = mark-read marks c.args.slot c.index-marked.result.now inside c.index-marked.ensures ∙ c.if-marked.false in
    rw (c.push_reserved.ensures.items, c.push_reserved.ensures.capacity) (marked-more c.self.inside.slots.items marks (vec_capacity c.self.inside.slots) c.args.slot c.self.invariant inside free)
