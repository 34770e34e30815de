-- A part is kept behind those that it goes on with.
use Rattle.std.proofs.Common.{◌≡◌, ◌<◌, true, length, sym, ◌∙◌, arith}
use Rattle.scql_model.specs.Operations.{comes_in_parts}
use Rattle.scql_model.specs.Form.{parts_of}
use Rattle.apdu_chain.specs.Chaining.{chain_on}
use Rattle.apdu_chain.proofs.ChainsSet.{unwrap_or-going_on, chains_after-kept}
use Rattle.apdu_chain.proofs.chains.Chains.keep.Goals as goal

pub returns-clause-chains : goal.returns-clause-chains
returns-clause-chains c = λ limit.
    let comes : comes_in_parts c.args.received.now.apdu.kind ≡ true = sym c.comes_in_parts.ensures ∙ c.if-not-comes_in_parts.false in
    let chain : c.unwrap_or-chain.result ≡ record { operation = c.args.received.now.apdu.kind; parts = parts_of c.args.received.now.apdu.kind (chain_on c.args.self.now c.args.received.now.apdu.channel) } =
    rw (c.unwrap_or-chain.ensures, c.end-begun.ensures.chain, c.new.ensures) (unwrap_or-going_on c.args.received.now.apdu.kind (chain_on c.args.self.now c.args.received.now.apdu.channel)) in
    let room : length c.unwrap_or-chain.result.parts < 4 = omega (arith, c.len.ensures.count, c.len.ensures.most, c.if-len-eq4.false) in
    chains_after-kept c.args.self.now c.self.inside.chains c.args.received.now.apdu limit c.from.result c.unwrap_or-chain.result c.push.new.self c.requires comes (c.self.view_is ∙ c.end-begun.ensures.ended) chain room
    c.push.ensures c.from.ensures
