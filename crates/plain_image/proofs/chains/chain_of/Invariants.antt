-- The chain is the cells so far, and the chain from this cell on.
use Rattle.std.proofs.Common.{◌≡◌, ℕ, ◌+◌, ◌*◌, ◌++◌, option_map}
use Rattle.eeprom.specs.StoreOf as image
use Rattle.plain_image.proofs.chains.chain_of.Given as goal

abbrev pub invariant-loop : goal.invariant-loop
invariant-loop l = record {
  left : (most : ℕ) → most + l.counter ≡ 2 * l.fn.cells → image.chain_of l.octets l.fn.cells (2 * l.fn.cells) l.first ≡ option_map (λ rest. l.chain.items ++ rest) (image.chain_of l.octets l.fn.cells most l.cell);
}
