-- What a power loss may leave from one call on to another.
use Rattle.std.proofs.Common.{◌≡◌, inl, inr, ℕ, List, length, Option, Some, IfSome, refl, sym, ap, ◌∙◌, subst, arith}
use Rattle.eeprom.specs.Chip.{Chip, Writes, Becomes, LeavesOf, Keeps}
use Rattle.eeprom.specs.Image.{IsTorn}
use Rattle.eeprom.proofs.Moments.{throughout-same, write-throughout}

-- what is told has what holds of it where it is told
pub at-told : (P : List ℕ → Type 0) (image : Option (List ℕ)) (was : List ℕ) → image ≡ Some was → IfSome image P → P was
at-told P image was told holds = subst (λ (image : Option (List ℕ)). IfSome image P) told holds

-- nothing happens
pub leaves-same : (P : List ℕ → List ℕ → Type 0) (old new : Chip) → new ≡ old → ((was : List ℕ) → P was was) → LeavesOf P old new
leaves-same P old new same holds =
    subst (λ (chip : Chip). LeavesOf P old chip) (sym same) (throughout-same old _ (λ image told. (refl, image, told, holds image)))

pub Keeps-none : {A : Type 0} (look : List ℕ → A) (old new : Chip) → new ≡ old → Keeps look old new
Keeps-none look old new same = subst (Keeps look old) (sym same) (record {
  still = refl;
  image = λ after told. (after, told, refl);
  later = omega arith;
  only = λ t g left since there. inl there;
  stays = λ t g left since there. there;
})

-- a write, done or not
pub write-leaves : (at : ℕ) (octets : List ℕ) (old new : Chip) → IfSome old.past (λ past. length past ≡ old.clock) → Writes at octets old new → LeavesOf (λ was left. IsTorn was at (length octets) left) old new
write-leaves at octets old new clocked w =
    write-throughout at octets old new (λ g left. (g ≡ old.still.mark) × (was : List ℕ) × (old.image ≡ Some was) × IsTorn was at (length octets) left) clocked w (λ was left told torn. (refl, was, told, torn))

-- the same moments, of which more is said
pub leaves-weaker : (old new : Chip) (P R : List ℕ → List ℕ → Type 0) → ((was left : List ℕ) → old.image ≡ Some was → P was left → R was left) → LeavesOf P old new → LeavesOf R old new
leaves-weaker old new P R weaker all = record {
  later = all.later;
  only = λ t g left since there. elim (all.only t g left since there) [
    | inl before ↦ inl before
    | inr now ↦ inr (now.0, now.1, now.2, weaker now.1 left now.2 now.3)
  ];
  stays = all.stays;
  now = λ image told. (let now = all.now image told in (now.0, now.1, now.2, weaker now.1 image now.2 now.3));
}

-- the moments up to a call, and those from it on
pub leaves-then : (old mid new : Chip) (M Q R : List ℕ → List ℕ → Type 0) → mid.still ≡ old.still → Becomes M old.image mid.image → ((was mid left : List ℕ) → M was mid → Q mid left → R was left)
    → LeavesOf R old mid → LeavesOf Q mid new → LeavesOf R old new
leaves-then old mid new M Q R still between glue first second =
    let mark : mid.still.mark ≡ old.still.mark = ap (λ still. still.mark) still in
    record {
      later = omega (arith, first.later, second.later);
      only = λ t g left since there. elim (second.only t g left (omega (arith, first.later)) there) [
        | inl before ↦ first.only t g left since before
        | inr now ↦ (let from = between now.1 now.2 in inr (now.0 ∙ mark, from.0, from.1, glue from.0 now.1 left from.2 now.3))
      ];
      stays = λ t g left since there. second.stays t g left (omega (arith, since, first.later)) (first.stays t g left since there);
      now = λ image told.
          let now = second.now image told in
          let from = between now.1 now.2 in
          (now.0 ∙ mark, from.0, from.1, glue from.0 now.1 image from.2 now.3);
    }

-- what the last moment leaves
pub leaves-last : (P : List ℕ → List ℕ → Type 0) (old new : Chip) → LeavesOf P old new → Becomes P old.image new.image
leaves-last P old new all after told = let now = all.now after told in (now.1, now.2, now.3)
