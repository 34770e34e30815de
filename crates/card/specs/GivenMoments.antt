-- Lemmas on what lies behind an image while nothing is written, a piece of output goes out, or calls follow one another, in specs/ since `LiveCardLaws.antt` cites them.
use Rattle.std.proofs.Common.{◌≡◌, inl, inr, ℕ, List, length, drop, Some, IfSome, refl, sym, subst, ◌∙◌, arith}
use Rattle.eeprom.specs.Chip.{Becomes, Chip, Gives, Keeps}
use Rattle.eeprom.specs.StoreOf.{image_size}
use Rattle.eeprom.proofs.Moments.{gives-throughout, throughout-same, throughout-weaker}
use Rattle.card.specs.Behind.{KeepsBehind}

-- What lies behind the image stays: nothing is written,
pub behind-same : (cells : List ℕ → ℕ) (old new : Chip) → new ≡ old → KeepsBehind cells old new
behind-same cells old new same = subst (λ (chip : Chip). KeepsBehind cells old chip) (sym same) (throughout-same old _ (λ image told. (image, told, refl)))

-- or a piece of output goes out,
pub behind-gives : (cells : List ℕ → ℕ) (old new : Chip) → IfSome old.past (λ past. length past ≡ old.clock) → Gives old new → KeepsBehind cells old new
behind-gives cells old new clocked gives = throughout-weaker old new _ _ (gives-throughout old new clocked gives) (λ g left during. (left, during.2, refl))

-- or a call gives nothing, and keeps what lies behind so many cells,
pub behind-keeps : (cells : ℕ) (old new : Chip) → Keeps (drop (image_size cells)) old new → KeepsBehind (λ was. cells) old new
behind-keeps cells old new keeps = record {
  later = keeps.later;
  only = λ t g left since there. elim (keeps.only t g left since there) [
    | inl before ↦ inl before
    | inr now ↦ inr (now.1, now.2, now.3)
  ];
  stays = keeps.stays;
  now = keeps.image;
}

-- or one call does, and then another that speaks of as many cells,
pub behind-then : (first second : List ℕ → ℕ) (old mid new : Chip) → Becomes (λ was between. second between ≡ first was) old.image mid.image → KeepsBehind first old mid → KeepsBehind second mid new → KeepsBehind first old new
behind-then first second old mid new alike before after = record {
  later = omega (arith, before.later, after.later);
  only = λ t g left since there. elim (after.only t g left (omega (arith, since, before.later)) there) [
    | inl earlier ↦ before.only t g left since earlier
    | inr now ↦ inr (both left now.0 now.1 now.2)
  ];
  stays = λ t g left since there. after.stays t g left (omega (arith, since, before.later)) (before.stays t g left since there);
  now = λ image told. let now = after.now image told in both image now.0 now.1 now.2;
}
  where
    both : (left between : List ℕ) → mid.image ≡ Some between → drop (image_size (second between)) left ≡ drop (image_size (second between)) between
        → (was : List ℕ) × (old.image ≡ Some was) × (drop (image_size (first was)) left ≡ drop (image_size (first was)) was)
    both left between told stays =
        let from = before.now between told in
        let cells = alike between told in
        let same : cells.0 ≡ from.0 = cc (cells.1, from.1) in
        let number : second between ≡ first from.0 = subst (λ (was : List ℕ). second between ≡ first was) same cells.2 in
        (from.0, from.1, subst (λ (n : ℕ). drop (image_size n) left ≡ drop (image_size n) between) number stays ∙ from.2)

-- as of a card whose number of cells stays.
pub behind-on : (first second : ℕ) (old mid new : Chip) → second ≡ first → KeepsBehind (λ was. first) old mid → KeepsBehind (λ was. second) mid new → KeepsBehind (λ was. first) old new
behind-on first second old mid new same before after =
    behind-then (λ was. first) (λ was. second) old mid new (λ between told. let from = before.now between told in (from.0, from.1, same)) before after
