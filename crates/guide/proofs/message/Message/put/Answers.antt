use Rattle.std.proofs.Common.{◌∙◌, ◌-◌, ◌++◌, ℕ, List, ap, length, min, take}
use Rattle.guide.proofs.Fitting.{take-append-room}
use Rattle.guide.proofs.message.Message.put.Goals as goal

pub returns : goal.returns
returns c =
    let count = c.min.ensures ∙ ap (λ (k : ℕ). min (length c.args.octets.now) (2600 - k)) c.len-room.ensures.value in
    c.put.ensures ∙ ap (λ (n : ℕ). c.self.inside.octets.items ++ take n c.args.octets.now) count
    ∙ take-append-room 2600 c.self.inside.octets.items c.args.octets.now c.self.invariant ∙ ap (λ (xs : List ℕ). take 2600 (xs ++ c.args.octets.now)) c.self.view_is
