-- The moments of writes and of pieces of output: what a power loss may leave from one on.
use Rattle.std.proofs.Common.{◌≡◌, ◌⊎◌, inl, inr, ℕ, zero, suc, ◌+◌, ◌≤◌, List, [], ◌∷◌, ◌++◌, length, drop, Option, Some, None, MatchOption, IfSome, sym, refl, ap, ◌∙◌, arith, subst}
use Rattle.std.proofs.lemmas.Option.{same_Some}
use Rattle.eeprom.specs.Chip.{Chip, Stretch, writing, giving, MayLeave, LeftIn, LeftSince, MayBeLeftSince, Writes, Gives, IsInPiece, Throughout}
use Rattle.eeprom.specs.Image.{IsTorn}
use Rattle.eeprom.proofs.Replayed.{overwrite-own}

pub left-in-more : (past : List Stretch) (stretch : Stretch) (g : ℕ) (left : List ℕ) → LeftIn (past ++ stretch ∷ []) g left → LeftIn past g left ⊎ MayLeave stretch g left
left-in-more [] stretch g left (inl there) = inr there
left-in-more [] stretch g left (inr none) = absurd none
left-in-more (first ∷ past) stretch g left (inl there) = inl (inl there)
left-in-more (first ∷ past) stretch g left (inr there) = elim (left-in-more past stretch g left there) [
  | inl before ↦ inl (inr before)
  | inr now ↦ inr now
]

pub drop-more : (t : ℕ) (past : List Stretch) (stretch : Stretch) → t ≤ length past → drop t (past ++ stretch ∷ []) ≡ drop t past ++ stretch ∷ []
drop-more zero past stretch within = refl
drop-more (suc t) [] stretch within = absurd (omega arith)
drop-more (suc t) (first ∷ past) stretch within = drop-more t past stretch (omega arith)

pub left-told : (chip : Chip) (past : List Stretch) (t g : ℕ) (left : List ℕ) → chip.past ≡ Some past → LeftIn (drop t past) g left → LeftSince chip t g left
unfolding LeftSince
left-told chip past t g left told there = rw told (inr there)

pub left-cases : (chip : Chip) (t g : ℕ) (left : List ℕ) → LeftSince chip t g left → (past : List Stretch) × (chip.past ≡ Some past) × (((chip.image ≡ Some left) × (g ≡ chip.still.mark)) ⊎ LeftIn (drop t past) g left)
unfolding LeftSince
left-cases chip t g left there = left-match chip.past refl there
  where
    left-match : (past : Option (List Stretch)) → chip.past ≡ past → MatchOption past ⊥ (λ past. ((chip.image ≡ Some left) × (g ≡ chip.still.mark)) ⊎ LeftIn (drop t past) g left)
        → (past : List Stretch) × (chip.past ≡ Some past) × (((chip.image ≡ Some left) × (g ≡ chip.still.mark)) ⊎ LeftIn (drop t past) g left)
    left-match None told there = absurd there
    left-match (Some past) told there = (past, told, there)

-- what may be left in stretches, or in one more behind them
pub left-in-longer : (past : List Stretch) (stretch : Stretch) (g : ℕ) (left : List ℕ) → LeftIn past g left ⊎ MayLeave stretch g left → LeftIn (past ++ stretch ∷ []) g left
left-in-longer [] stretch g left (inl none) = absurd none
left-in-longer [] stretch g left (inr there) = inl there
left-in-longer (first ∷ past) stretch g left (inl (inl there)) = inl there
left-in-longer (first ∷ past) stretch g left (inl (inr there)) = inr (left-in-longer past stretch g left (inl there))
left-in-longer (first ∷ past) stretch g left (inr there) = inr (left-in-longer past stretch g left (inr there))

-- what may be left, as far as the moments are told
pub may-be-left : (chip : Chip) (t g : ℕ) (left : List ℕ) → ((past : List Stretch) → chip.past ≡ Some past → ((chip.image ≡ Some left) × (g ≡ chip.still.mark)) ⊎ LeftIn (drop t past) g left) → MayBeLeftSince chip t g left
unfolding MayBeLeftSince
may-be-left chip t g left each = of chip.past refl
  where
    of : (past : Option (List Stretch)) → chip.past ≡ past → IfSome past (λ past. ((chip.image ≡ Some left) × (g ≡ chip.still.mark)) ⊎ LeftIn (drop t past) g left)
    of None told = tt
    of (Some past) told = each past told

pub may-be-cases : (chip : Chip) (t g : ℕ) (left : List ℕ) → MayBeLeftSince chip t g left → (past : List Stretch) → chip.past ≡ Some past → ((chip.image ≡ Some left) × (g ≡ chip.still.mark)) ⊎ LeftIn (drop t past) g left
unfolding MayBeLeftSince
may-be-cases chip t g left there past told = subst (λ (o : Option (List Stretch)). IfSome o (λ past. ((chip.image ≡ Some left) × (g ≡ chip.still.mark)) ⊎ LeftIn (drop t past) g left)) told there

-- the image that is there is one moment
pub left-now : (chip : Chip) (t : ℕ) (left : List ℕ) → chip.image ≡ Some left → MayBeLeftSince chip t chip.still.mark left
left-now chip t left told = may-be-left chip t chip.still.mark left (λ past is. inl (told, refl))

-- a moment before a write that was done or failed stays one: the write may have left the image as it was
pub write-stays : (at : ℕ) (octets : List ℕ) (old new : Chip) → IfSome old.past (λ past. length past ≡ old.clock) → Writes at octets old new
    → (t g : ℕ) (left : List ℕ) → t ≤ old.clock → MayBeLeftSince old t g left → MayBeLeftSince new t g left
write-stays at octets old new clocked w t g left since there = may-be-left new t g left (λ past told.
    let from = w.past past told in
    let was = may-be-cases old t g left there from.0 from.1 in
    let within : t ≤ length from.0 = omega (arith, since, rw (from.1) at clocked) in
    elim (from.2) [
      | inl more ↦
          let stretch = writing (record { image = more.0; at = at; count = length octets; mark = old.still.mark }) in
          let longer : LeftIn (drop t from.0 ++ stretch ∷ []) g left = left-in-longer (drop t from.0) stretch g left (elim was [
            | inl now ↦ inr (now.1, torn more.0 left more.1 now.0)
            | inr before ↦ inl before
          ]) in
          inr (subst (λ (past : List Stretch). LeftIn (drop t past) g left) (sym more.2) (subst (λ (past : List Stretch). LeftIn past g left) (sym (drop-more t from.0 stretch within)) longer))
      | inr none ↦ elim was [
        | inl now ↦ inl (none.1 ∙ now.0, now.1 ∙ sym none.2)
        | inr before ↦ inr (subst (λ (past : List Stretch). LeftIn (drop t past) g left) (sym none.0) before)
      ]
    ])
  where
    torn : (image left : List ℕ) → old.image ≡ Some image → old.image ≡ Some left → IsTorn image at (length octets) left
    torn image left is told =
        let within : at + length octets ≤ length left = subst (λ (o : Option (List ℕ)). IfSome o (λ image. at + length octets ≤ length image)) told w.within in
        subst (λ (image : List ℕ). IsTorn image at (length octets) left) (same_Some left image (sym told ∙ is)) (overwrite-own left at (length octets) within)

-- what a write that was done or failed may leave, where each torn image has P
pub write-throughout : (at : ℕ) (octets : List ℕ) (old new : Chip) (P : ℕ → List ℕ → Type 0) → IfSome old.past (λ past. length past ≡ old.clock) → Writes at octets old new
    → ((image left : List ℕ) → old.image ≡ Some image → IsTorn image at (length octets) left → P old.still.mark left) → Throughout old new P
write-throughout at octets old new P clocked w torn = record {
  later = w.later;
  only = λ t g left since there.
      let case = left-cases new t g left there in
      let told = w.past case.0 case.1 in
      let within : t ≤ length told.0 = omega (arith, since, rw (told.1) at clocked) in
      elim case.2 [
        | inl now ↦
            let image = w.image left now.0 in
            let mark : g ≡ old.still.mark = now.1 ∙ ap (λ still. still.mark) w.still in
            inr (subst (λ (g : ℕ). P g left) (sym mark) (torn image.0 left image.1 image.2))
        | inr past ↦ elim (told.2) [
          | inl more ↦
              let longer : LeftIn (drop t told.0 ++ writing (record { image = more.0; at = at; count = length octets; mark = old.still.mark }) ∷ []) g left =
              rw (drop-more t told.0 (writing (record { image = more.0; at = at; count = length octets; mark = old.still.mark })) within) at (rw (more.2) at past) in
              elim (left-in-more (drop t told.0) (writing (record { image = more.0; at = at; count = length octets; mark = old.still.mark })) g left longer) [
                | inl before ↦ inl (left-told old told.0 t g left told.1 before)
                | inr during ↦ inr (subst (λ (g : ℕ). P g left) (sym during.0) (torn more.0 left more.1 during.1))
              ]
          | inr none ↦ inl (left-told old told.0 t g left told.1 (rw (none.0) at past))
        ]
      ];
  stays = write-stays at octets old new clocked w;
  now = λ image told.
      let was = w.image image told in
      let mark : new.still.mark ≡ old.still.mark = ap (λ still. still.mark) w.still in
      subst (λ (g : ℕ). P g image) (sym mark) (torn was.0 image was.1 was.2);
}

-- a moment before a piece of output stays one
gives-stays : (old new : Chip) → IfSome old.past (λ past. length past ≡ old.clock) → Gives old new → (t g : ℕ) (left : List ℕ) → t ≤ old.clock → MayBeLeftSince old t g left → MayBeLeftSince new t g left
gives-stays old new clocked gives t g left since there = may-be-left new t g left (λ past told.
    let from = gives.past past told in
    let was = may-be-cases old t g left there from.0 from.1 in
    let within : t ≤ length from.0 = omega (arith, since, rw (from.1) at clocked) in
    elim (from.2) [
      | inl more ↦
          let stretch = giving more.0 old.still.mark new.still.mark in
          let longer : LeftIn (drop t from.0 ++ stretch ∷ []) g left = left-in-longer (drop t from.0) stretch g left (elim was [
            | inl now ↦ inr (omega (arith, now.1), omega (arith, now.1, gives.mark), same_Some left more.0 (sym now.0 ∙ more.1))
            | inr before ↦ inl before
          ]) in
          inr (subst (λ (past : List Stretch). LeftIn (drop t past) g left) (sym more.2) (subst (λ (past : List Stretch). LeftIn past g left) (sym (drop-more t from.0 stretch within)) longer))
      | inr none ↦ elim was [
        | inl now ↦ inl (none.1 ∙ now.0, now.1 ∙ sym none.2)
        | inr before ↦ inr (subst (λ (past : List Stretch). LeftIn (drop t past) g left) (sym none.0) before)
      ]
    ])

-- while a piece of output goes out, the image stays
pub gives-throughout : (old new : Chip) → IfSome old.past (λ past. length past ≡ old.clock) → Gives old new → Throughout old new (IsInPiece old new.still.mark)
gives-throughout old new clocked gives = record {
  later = gives.later;
  only = λ t g left since there.
      let case = left-cases new t g left there in
      let told = gives.past case.0 case.1 in
      let within : t ≤ length told.0 = omega (arith, since, rw (told.1) at clocked) in
      elim case.2 [
        | inl now ↦ inr (omega (arith, gives.mark, now.1), omega (arith, now.1), sym gives.image ∙ now.0)
        | inr past ↦ elim (told.2) [
          | inl more ↦
              let longer : LeftIn (drop t told.0 ++ giving more.0 old.still.mark new.still.mark ∷ []) g left =
              rw (drop-more t told.0 (giving more.0 old.still.mark new.still.mark) within) at (rw (more.2) at past) in
              elim (left-in-more (drop t told.0) (giving more.0 old.still.mark new.still.mark) g left longer) [
                | inl before ↦ inl (left-told old told.0 t g left told.1 before)
                | inr during ↦ inr (during.0, during.1, more.1 ∙ ap Some (sym during.2))
              ]
          | inr none ↦ inl (left-told old told.0 t g left told.1 (rw (none.0) at past))
        ]
      ];
  stays = gives-stays old new clocked gives;
  now = λ image told. (gives.mark, omega arith, sym gives.image ∙ told);
}

-- nothing happens
pub throughout-same : (chip : Chip) (P : ℕ → List ℕ → Type 0) → ((image : List ℕ) → chip.image ≡ Some image → P chip.still.mark image) → Throughout chip chip P
throughout-same chip P now = record {
  later = omega arith;
  only = λ t g left since there. inl there;
  stays = λ t g left since there. there;
  now = now;
}

-- one run of calls, and then another
pub throughout-then : (old mid new : Chip) (P : ℕ → List ℕ → Type 0) → Throughout old mid P → Throughout mid new P → Throughout old new P
throughout-then old mid new P first second = record {
  later = omega (arith, first.later, second.later);
  only = λ t g left since there. elim (second.only t g left (omega (arith, first.later)) there) [
    | inl before ↦ first.only t g left since before
    | inr now ↦ inr now
  ];
  stays = λ t g left since there. second.stays t g left (omega (arith, since, first.later)) (first.stays t g left since there);
  now = second.now;
}

pub throughout-weaker : (old new : Chip) (P Q : ℕ → List ℕ → Type 0) → Throughout old new P → ((g : ℕ) (left : List ℕ) → P g left → Q g left) → Throughout old new Q
throughout-weaker old new P Q all weaker = record {
  later = all.later;
  only = λ t g left since there. elim (all.only t g left since there) [
    | inl before ↦ inl before
    | inr now ↦ inr (weaker g left now)
  ];
  stays = all.stays;
  now = λ image told. weaker new.still.mark image (all.now image told);
}

-- one run of calls, and then another, each with moments of its own
pub throughout-both : (old mid new : Chip) (P Q R : ℕ → List ℕ → Type 0) → Throughout old mid P → Throughout mid new Q
    → ((g : ℕ) (left : List ℕ) → P g left → R g left) → ((g : ℕ) (left : List ℕ) → Q g left → R g left) → Throughout old new R
throughout-both old mid new P Q R first second of_first of_second = throughout-then old mid new R (throughout-weaker old mid P R first of_first) (throughout-weaker mid new Q R second of_second)
