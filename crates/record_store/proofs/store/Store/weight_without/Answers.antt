use Rattle.std.proofs.Common.{◌≡◌, ◌+◌, ◌<◌, ◌≤◌, true, slice_index, ap, ◌∙◌, refl, arith}
use Rattle.eeprom.specs.StoreOf.{longest_chain}
use Rattle.cell_store.specs.Chains.{steps}
use Rattle.cell_store.proofs.Freeing.{link-read}
use Rattle.record_store.specs.Held.{Held}
use Rattle.record_store.specs.Slots.{steps_without}
use Rattle.record_store.proofs.Weighing.{weighed-without, weighed-most}
use Rattle.record_store.specs.declared.side.Side.TheVariants.{Working}
use Rattle.record_store.proofs.store.Store.weight_without.Goals.{After-length_of_chain}
use Rattle.record_store.proofs.store.Store.weight_without.Goals as goal

abbrev mine : After-length_of_chain → Held
mine c = record { chains = c.self.inside.chains; row_limit = c.self.inside.row_limit; committed = c.self.inside.committed.items; working = c.self.inside.working.items; begun = c.self.inside.begun; first_octets = c.self.inside.first_octets.items; tags = c.self.inside.tags }

-- the weight is that of the chain of the slot, and of the others
parts : (c : After-length_of_chain) → c.self.inside.working_weight ≡ steps_without c.self.inside.chains.links c.self.inside.working.items c.args.slot + c.length_of_chain.result
parts c =
    let begun : c.self.inside.begun ≡ true = ap (λ (held : Held). held.begun) c.self.view_is ∙ c.requires.begun in
    let cells : c.self.inside.chains.cells ≡ c.args.self.now.chains.cells = ap (λ (held : Held). held.chains.cells) c.self.view_is in
    let inside : c.args.slot < c.self.inside.chains.cells = omega (arith, cells, c.requires.slot) in
    let first : c.index.result.now ≡ slice_index c.self.inside.working.items c.args.slot =
    link-read c.self.inside.working.items c.self.inside.working.items c.args.slot c.index.result.now refl (omega (arith, inside, c.self.invariant.weighed.sound.working_count)) c.index.ensures in
    omega (arith, weighed-without (mine c) c.self.inside.committed_weight c.self.inside.working_weight c.args.slot c.self.invariant.weighed begun inside, c.length_of_chain.ensures.length, ap (steps c.self.inside.chains.links longest_chain) first)

most : (c : After-length_of_chain) → c.self.inside.working_weight ≤ c.args.self.now.chains.cells
most c = omega (arith, weighed-most (mine c) c.self.inside.committed_weight c.self.inside.working_weight Working c.self.invariant.weighed, ap (λ (held : Held). held.chains.cells) c.self.view_is)

pub overflow_sub-result : goal.overflow_sub-result
overflow_sub-result c = omega (arith, parts (goal.at.overflow_sub-result c).After-length_of_chain)

pub returns-clause-weight : goal.returns-clause-weight
returns-clause-weight c = omega (arith, parts (goal.at.returns-clause-weight c).After-length_of_chain, ap (λ (held : Held). steps_without held.chains.links held.working c.args.slot) c.self.view_is)

pub returns-clause-few : goal.returns-clause-few
returns-clause-few c = omega (arith, most (goal.at.returns-clause-few c).After-length_of_chain)
