-- A part stands behind the others.
use Rattle.std.proofs.Common.{◌≡◌, ◌<◌, List, ℕ, [], ◌∷◌, ◌++◌, length, sym, ap, ◌∙◌, arith}
use Rattle.scql_model.specs.Machine.{Chain}
use Rattle.apdu_chain.specs.Parts.{cut_by}
use Rattle.apdu_chain.proofs.PartsJoined.{AreKept, AreKept-append, length-cut_by, cut_by-append}
use Rattle.apdu_chain.proofs.chain.Chain.push.Goals as goal

pub push-requires : goal.push-requires
push-requires c =
    let count : length c.self.inside.sizes.items ≡ length c.args.self.now.parts = sym (length-cut_by c.self.inside.sizes.items c.self.inside.octets.items) ∙ ap (λ (k : Chain). length k.parts) c.self.view_is in
    let few : length c.self.inside.sizes.items < 4 = omega (arith, count, c.requires.few) in
    (omega arith, few)

pub invariant_of-self : goal.invariant_of-self
invariant_of-self c =
    let count : length c.self.inside.sizes.items ≡ length c.args.self.now.parts = sym (length-cut_by c.self.inside.sizes.items c.self.inside.octets.items) ∙ ap (λ (k : Chain). length k.parts) c.self.view_is in
    let few : length c.self.inside.sizes.items < 4 = omega (arith, count, c.requires.few) in
    let kept : AreKept (c.self.inside.sizes.items ++ length c.args.part.now ∷ []) (c.self.inside.octets.items ++ c.args.part.now) =
    AreKept-append c.self.inside.sizes.items c.self.inside.octets.items c.args.part.now c.self.invariant.0 c.self.invariant.1 few c.requires.short in
    rw (c.push.ensures.items, c.append.ensures) (kept.all, kept.short, kept.few)

pub returns : goal.returns
returns c =
    let parts : cut_by c.push.new.self.items c.append.new.octets.items ≡ cut_by c.self.inside.sizes.items c.self.inside.octets.items ++ c.args.part.now ∷ [] =
    rw (c.push.ensures.items, c.append.ensures) (cut_by-append c.self.inside.sizes.items c.self.inside.octets.items c.args.part.now c.self.invariant.0) in
    ap (λ (parts : List (List ℕ)). let k : Chain = record { operation = c.self.inside.kind; parts = parts } in k) parts
    ∙ ap (λ (k : Chain). let more : Chain = record k { parts = k.parts ++ c.args.part.now ∷ [] } in more) c.self.view_is
