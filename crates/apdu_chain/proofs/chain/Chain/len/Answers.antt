use Rattle.std.proofs.Common.{◌≡◌, length, sym, ap, ◌∙◌, arith}
use Rattle.scql_model.specs.Machine.{Chain}
use Rattle.apdu_chain.proofs.PartsJoined.{length-cut_by}
use Rattle.apdu_chain.proofs.chain.Chain.len.Goals as goal

pub returns-clause-count : goal.returns-clause-count
returns-clause-count c = c.len.ensures.value ∙ (sym (length-cut_by c.self.inside.sizes.items c.self.inside.octets.items) ∙ ap (λ (k : Chain). length k.parts) c.self.view_is)

pub returns-clause-most : goal.returns-clause-most
returns-clause-most c =
    let count : length c.self.inside.sizes.items ≡ length c.args.self.now.parts = sym (length-cut_by c.self.inside.sizes.items c.self.inside.octets.items) ∙ ap (λ (k : Chain). length k.parts) c.self.view_is in
    omega (arith, count, c.self.invariant.2)
