-- The first four octets of an image: what is written behind them keeps them, and without the magic there is no store.
use Rattle.std.proofs.Common.{◌≡◌, ◌⊎◌, ℕ, ◌+◌, ◌≤◌, ◌==◌, false, ◌&&◌, List, [], ◌∷◌, ◌++◌, length, take, drop, Option, Some, None, IfSome, refl, sym, ap, subst, ◌∙◌, inl, inr, arith}
use Rattle.std.proofs.lemmas.Bool.{and_parts, eqb-true, cases_Bool}
use Rattle.std.proofs.lemmas.List.{take-append-le, take-take, length-take-le, take-append-drop}
use Rattle.eeprom.specs.Chip.{Chip, Writes, Keeps}
use Rattle.eeprom.specs.Image.{overwrite, IsTorn}
use Rattle.eeprom.specs.StoreOf.{starts_with_magic, store_of, fresh_store}
use Rattle.record_store.specs.FreshImage.{magic, HasOldStore, LeavesCleared, LeavesFormatted}
use Rattle.eeprom.proofs.Leaves.{write-leaves}
use Rattle.eeprom.proofs.Moments.{write-throughout, throughout-then, throughout-weaker}
use Rattle.record_store.proofs.Keeping.{keeps-leaves}

pub Keeps-then : {A : Type 0} (look : List ℕ → A) (old mid new : Chip) → Keeps look old mid → Keeps look mid new → Keeps look old new
Keeps-then look old mid new first second = record {
  still = second.still ∙ first.still;
  image = λ now told.
      let b = second.image now told in
      let a = first.image b.0 b.1 in
      (a.0, a.1, b.2 ∙ a.2);
  later = omega (arith, first.later, second.later);
  only = λ t g left since there. elim (second.only t g left (omega (arith, first.later)) there) [
    | inl before ↦ first.only t g left since before
    | inr now ↦ (let a = first.image now.1 now.2 in inr (now.0 ∙ ap (λ still. still.mark) first.still, a.0, a.1, now.3 ∙ a.2))
  ];
  stays = λ t g left since there. second.stays t g left (omega (arith, since, first.later)) (first.stays t g left since there);
}

-- a write behind the front
take-torn : (image left : List ℕ) (at count : ℕ) → 4 ≤ at → at ≤ length image → IsTorn image at count left → take 4 left ≡ take 4 image
take-torn image left at count behind within torn = ap (take 4) torn.is
    ∙ (take-append-le 4 (take at image) (torn.octets ++ drop (at + length torn.octets) image) (omega (arith, length-take-le at image within)) ∙ take-take 4 at image behind)

pub Keeps-write : (at : ℕ) (octets : List ℕ) (old new : Chip) → 4 ≤ at → at + length octets ≤ old.still.size → IfSome old.image (λ image. length image ≡ old.still.size)
    → IfSome old.past (λ past. length past ≡ old.clock) → Writes at octets old new → Keeps (take 4) old new
Keeps-write at octets old new behind room sized clocked w =
    keeps-leaves (take 4) (λ was left. IsTorn was at (length octets) left) old new w.still
    (λ was left told torn. take-torn was left at (length octets) behind (omega (arith, size was told)) torn) (write-leaves at octets old new clocked w)
  where
    size : (image : List ℕ) → old.image ≡ Some image → length image ≡ old.still.size
    size image told = subst (λ (o : Option (List ℕ)). IfSome o (λ image. length image ≡ old.still.size)) told sized

-- the magic is in the front
magic-front : (xs : List ℕ) → starts_with_magic xs ≡ starts_with_magic (take 4 xs)
magic-front [] = refl
magic-front (a ∷ []) = refl
magic-front (a ∷ b ∷ []) = refl
magic-front (a ∷ b ∷ c ∷ []) = refl
magic-front (a ∷ b ∷ c ∷ d ∷ rest) = refl

pub no_store : (image : List ℕ) → starts_with_magic image ≡ false → store_of image ≡ None
no_store image none = rw none refl

-- with the same front there is no store either
pub no_store-kept : (left was : List ℕ) → take 4 left ≡ take 4 was → starts_with_magic was ≡ false → store_of left ≡ None
no_store-kept left was same none = no_store left (magic-front left ∙ (ap starts_with_magic same ∙ (sym (magic-front was) ∙ none)))

-- four octets over the front are the magic, or there is no store
front_torn : (image left octets : List ℕ) → length octets ≡ 4 → left ≡ overwrite image 0 octets → (store_of left ≡ None) ⊎ (left ≡ overwrite image 0 magic)
front_torn image left [] four is = absurd (omega (arith, four))
front_torn image left (a ∷ []) four is = absurd (omega (arith, four))
front_torn image left (a ∷ b ∷ []) four is = absurd (omega (arith, four))
front_torn image left (a ∷ b ∷ c ∷ []) four is = absurd (omega (arith, four))
front_torn image left (a ∷ b ∷ c ∷ d ∷ e ∷ rest) four is = absurd (omega (arith, four))
front_torn image left (a ∷ b ∷ c ∷ d ∷ []) four is = elim (cases_Bool ((a == 0x53) && (b == 0x43) && (c == 0x51) && (d == 0x4C))) [
  | inr none ↦ inl (no_store left (ap starts_with_magic is ∙ none))
  | inl all ↦ (let p = and_parts ((a == 0x53) && (b == 0x43) && (c == 0x51)) (d == 0x4C) all in
      let q = and_parts ((a == 0x53) && (b == 0x43)) (c == 0x51) p.0 in
      let r = and_parts (a == 0x53) (b == 0x43) q.0 in
      inr (is ∙ rw (eqb-true a 0x53 r.0, eqb-true b 0x43 r.1, eqb-true c 0x51 q.1, eqb-true d 0x4C p.1) refl))
]

pub torn_front : (image left : List ℕ) → IsTorn image 0 4 left → (store_of left ≡ None) ⊎ (left ≡ overwrite image 0 magic)
torn_front image left torn = front_torn image left torn.octets torn.count_is torn.is

-- an image that begins with the magic is the same with the magic written over its front
magic-again : (image : List ℕ) → take 4 image ≡ magic → overwrite image 0 magic ≡ image
magic-again image front = ap (λ (xs : List ℕ). xs ++ drop 4 image) (sym front) ∙ take-append-drop 4 image

-- the front of an image that begins with the magic is written over
pub clear_moments : (octets : List ℕ) (old new : Chip) → length octets ≡ 4 → IfSome old.image (λ image. take 4 image ≡ magic) → IfSome old.past (λ past. length past ≡ old.clock) → Writes 0 octets old new → LeavesCleared old new
clear_moments octets old new four begins clocked w =
    write-throughout 0 octets old new (λ g left. (g ≡ old.still.mark) × (HasOldStore old left ⊎ (store_of left ≡ None))) clocked w (λ image left told torn. (
      refl,
      elim (torn_front image left (subst (λ (n : ℕ). IsTorn image 0 n left) four torn)) [
        | inl none ↦ inr none
        | inr is ↦ inl (image, told, ap store_of (is ∙ magic-again image (subst (λ (o : Option (List ℕ)). IfSome o (λ image. take 4 image ≡ magic)) told begins)))
      ],
    ))

cleared_moments : (n : ℕ) (first second : List ℕ) (old new : Chip) → LeavesCleared old new → LeavesFormatted n first second old new
cleared_moments n first second old new cleared = throughout-weaker old new _ _ cleared (λ g left now. (
  now.0,
  elim now.1 [
    | inl same ↦ inl same
    | inr none ↦ inr (inl none)
  ],
))

-- the front of an image without a store is written, behind which all is there
pub front_moments : (n : ℕ) (first second octets : List ℕ) (old mid new : Chip) → length octets ≡ 4 → mid.still ≡ old.still → IfSome mid.image (λ image. store_of (overwrite image 0 magic) ≡ Some (fresh_store n first second))
    → IfSome mid.past (λ past. length past ≡ mid.clock) → Writes 0 octets mid new → LeavesFormatted n first second old mid → LeavesFormatted n first second old new
front_moments n first second octets old mid new four still there clocked w before =
    throughout-then old mid new _ before (write-throughout 0 octets mid new (λ g left. (g ≡ old.still.mark) × (HasOldStore old left ⊎ ((store_of left ≡ None) ⊎ (store_of left ≡ Some (fresh_store n first second))))) clocked w
    (λ image left told torn. (
      ap (λ still. still.mark) still,
      elim (torn_front image left (subst (λ (k : ℕ). IsTorn image 0 k left) four torn)) [
        | inl none ↦ inr (inl none)
        | inr is ↦ inr (inr (ap store_of is ∙ subst (λ (o : Option (List ℕ)). IfSome o (λ image. store_of (overwrite image 0 magic) ≡ Some (fresh_store n first second))) told there))
      ],
    )))

-- before it no image has the magic
pub body_moments : (n : ℕ) (first second : List ℕ) (old mid new : Chip) → mid.still ≡ old.still → IfSome mid.image (λ image. starts_with_magic image ≡ false) → LeavesCleared old mid → Keeps (take 4) mid new
    → LeavesFormatted n first second old new
body_moments n first second old mid new still cleared before keeps =
    throughout-then old mid new _ (cleared_moments n first second old mid before) (record {
      later = keeps.later;
      only = λ t g left since there. elim (keeps.only t g left since there) [
        | inl was ↦ inl was
        | inr now ↦ inr (now.0 ∙ ap (λ still. still.mark) still, inr (inl (no_store-kept left now.1 now.3 (none now.1 now.2))))
      ];
      stays = keeps.stays;
      now = λ image told. (let from = keeps.image image told in
          (ap (λ still. still.mark) (keeps.still ∙ still), inr (inl (no_store-kept image from.0 from.2 (none from.0 from.1)))));
    })
  where
    none : (was : List ℕ) → mid.image ≡ Some was → starts_with_magic was ≡ false
    none was told = subst (λ (o : Option (List ℕ)). IfSome o (λ image. starts_with_magic image ≡ false)) told cleared
