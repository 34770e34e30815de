use Rattle.std.proofs.Common.{◌≡◌, ℕ, slice_index, ap, sym, ◌∙◌, arith, subst, ◌+◌, ◌-◌}
use Rattle.eeprom.specs.StoreOf.{longest_chain}
use Rattle.cell_store.specs.Cells.{Cells, IsInRange}
use Rattle.cell_store.specs.Chains.{steps}
use Rattle.cell_store.proofs.Linking.{steps-counted, steps-ended, steps-used}
use Rattle.cell_store.proofs.Freeing.{length-links, link-read}
use Rattle.cell_store.proofs.store.CellStore.length_of_chain.Goals as goal

pub returns-then-cell-len-clause-length : goal.returns-then-cell-len-clause-length
returns-then-cell-len-clause-length c =
    steps-ended c.args.self.now.links c.args.first c.loop-count.count c.loop-count.cell (omega (arith, c.if-cell-len.true, c.len.ensures, c.self.inside.links.ok.0, length-links _ c.args.self.now c.self.view_is)) c.loop-count.invariant

pub loop-count-preserved : goal.loop-count-preserved
loop-count-preserved c =
    let size = length-links _ c.args.self.now c.self.view_is in
    let next : c.index.result.now ≡ slice_index c.args.self.now.links c.loop-count.cell =
    link-read c.self.inside.links.items c.args.self.now.links c.loop-count.cell c.index.result.now (ap (λ (store : Cells). store.links) c.self.view_is) (omega (arith, c.if-cell-len.false, c.len.ensures, c.self.inside.links.ok.0)) c.index.ensures in
    subst (λ (cell : ℕ). (c.loop-count.count + 1) + steps c.args.self.now.links (longest_chain - (c.loop-count.count + 1)) cell ≡ steps c.args.self.now.links longest_chain c.args.first) (sym next)
    (steps-counted c.args.self.now.links c.args.first c.loop-count.count c.loop-count.cell c.loop-count-test.true (omega (arith, c.if-cell-len.false, c.len.ensures, c.self.inside.links.ok.0, size)) c.loop-count.invariant)

pub returns-then-cell-len-clause-chain : goal.returns-then-cell-len-clause-chain
returns-then-cell-len-clause-chain c = λ chain is.
    let at : c.loop-count.count ≡ steps c.args.self.now.links longest_chain c.args.first =
    steps-ended c.args.self.now.links c.args.first c.loop-count.count c.loop-count.cell (omega (arith, c.if-cell-len.true, c.len.ensures, c.self.inside.links.ok.0, length-links _ c.args.self.now c.self.view_is)) c.loop-count.invariant in
    at ∙ steps-used c.args.self.now c.args.first chain (subst IsInRange c.self.view_is c.self.invariant) is

pub returns-clause-chain : goal.returns-clause-chain
returns-clause-chain c = λ chain is.
    let whole = steps-used c.args.self.now c.args.first chain (subst IsInRange c.self.view_is c.self.invariant) is in
    omega (arith, whole, is.short, c.loop-count.invariant, c.loop-count-test.false)
