-- A number more.
use Rattle.std.proofs.Common.{◌++◌, ◌∷◌, [], ap₂, ◌∙◌, ℕ, List, sym, arith}
use Rattle.eeprom.specs.declared.layout.TheConstants.{HEADER_SIZE}
use Rattle.eeprom.proofs.Places.{numbers_at-more}
use Rattle.plain_image.proofs.journal.written_firsts.Goals as goal

pub loop-index-preserved : goal.loop-index-preserved
loop-index-preserved c = record {
  numbers = c.in_ok-push.ensures.items ∙ ap₂ (λ (xs : List ℕ) (x : ℕ). xs ++ x ∷ []) c.loop-index.invariant.numbers c.number_at.ensures
      ∙ sym (numbers_at-more c.args.octets.now HEADER_SIZE c.loop-index.index);
  count = omega (arith, c.in_ok-push.ensures.len, c.loop-index.invariant.count);
}
