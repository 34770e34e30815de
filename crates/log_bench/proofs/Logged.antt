-- One write more, at the end of a log; and what a log tells of whoever makes its writes.
use Rattle.std.proofs.Common.{Some, ◌≡◌, ◌⊎◌, inl, inr, ℕ, ◌+◌, ◌≤◌, min, List, [], ◌∷◌, ◌++◌, length, slice_range, refl, ap, sym, ◌∙◌, subst, arith}
use Rattle.std.proofs.lemmas.Grind.{common_steps}
use Rattle.eeprom.specs.Chip.{Stretch, LeftIn, LeftSince, Writes, writing, giving}
use Rattle.eeprom.specs.Image.{overwrite}
use Rattle.eeprom.proofs.PutBack.{overwrite-back}
use Rattle.eeprom.proofs.Replayed.{length-overwrite, overwrite-own}
use Rattle.eeprom.proofs.Telling.{counted-more, becomes_told}
use Rattle.log_bench.specs.LogBench.{log_chip}
use Rattle.log_bench.specs.Writes.{Write, AllFit, MayBeCutTo, applied, undone, stretches}

pub applied-append : (xs ys : List Write) (image : List ℕ) → applied (xs ++ ys) image ≡ applied ys (applied xs image)
applied-append [] ys image = refl
applied-append (w ∷ xs) ys image = applied-append xs ys (overwrite image w.at w.octets)

pub undone-append : (xs ys : List Write) (image : List ℕ) → undone (xs ++ ys) image ≡ undone xs (undone ys image)
undone-append [] ys image = refl
undone-append (w ∷ xs) ys image = ap (λ (image : List ℕ). overwrite image w.at w.replaced) (undone-append xs ys image)

pub stretches-append : (mark : ℕ) (xs ys : List Write) (image : List ℕ) → stretches mark (xs ++ ys) image ≡ stretches mark xs image ++ stretches mark ys (applied xs image)
stretches-append mark [] ys image = refl
stretches-append mark (w ∷ xs) ys image =
    ap (λ (past : List Stretch). writing (record { image = image; at = w.at; count = length w.octets; mark = mark }) ∷ past) (stretches-append mark xs ys (overwrite image w.at w.octets))

pub AllFit-more : (size : ℕ) (xs : List Write) (w : Write) → AllFit size xs → w.at + length w.octets ≤ size → AllFit size (xs ++ w ∷ [])
AllFit-more size [] w fits within = (within, tt)
AllFit-more size (x ∷ xs) w fits within = (fits.0, AllFit-more size xs w fits.1 within)

pub length-applied : (log : List Write) (image : List ℕ) → AllFit (length image) log → length (applied log image) ≡ length image
length-applied [] image fits = refl
length-applied (w ∷ log) image fits =
    let size = length-overwrite image w.at w.octets fits.0 in
    length-applied log (overwrite image w.at w.octets) (subst (λ (size : ℕ). AllFit size log) (sym size) fits.1) ∙ size

-- the image at a log's beginning stays when a write is logged
pub first-kept : (log : List Write) (image octets : List ℕ) (at : ℕ) → at + length octets ≤ length image →
    undone (log ++ record { at = at; octets = octets; replaced = slice_range image at (at + length octets) } ∷ []) (overwrite image at octets) ≡ undone log image
first-kept log image octets at within =
    undone-append log (record { at = at; octets = octets; replaced = slice_range image at (at + length octets) } ∷ []) (overwrite image at octets) ∙ ap (undone log) (overwrite-back image at octets within)

-- what an EEPROM keeps of its log after a write: the image at the beginning, from which the writes lead to the image, and that each lies within
pub first-logged : (log log2 : List Write) (image image2 octets : List ℕ) (at : ℕ) → at + length octets ≤ length image → image2 ≡ overwrite image at octets
    → log2 ≡ log ++ record { at = at; octets = octets; replaced = slice_range image at (at + length octets) } ∷ [] → undone log2 image2 ≡ undone log image
first-logged log log2 image image2 octets at within is more = rw (is, more) (first-kept log image octets at within)

pub replays-logged : (log log2 : List Write) (image image2 octets : List ℕ) (at : ℕ) → applied log (undone log image) ≡ image → at + length octets ≤ length image → image2 ≡ overwrite image at octets
    → log2 ≡ log ++ record { at = at; octets = octets; replaced = slice_range image at (at + length octets) } ∷ [] → applied log2 (undone log2 image2) ≡ image2
replays-logged log log2 image image2 octets at replays within is more =
    ap (applied log2) (first-logged log log2 image image2 octets at within is more) ∙ ap (λ (writes : List Write). applied writes (undone log image)) more
    ∙ applied-append log (record { at = at; octets = octets; replaced = slice_range image at (at + length octets) } ∷ []) (undone log image)
    ∙ ap (λ (image : List ℕ). overwrite image at octets) replays ∙ sym is

pub fits-logged : (log log2 : List Write) (image image2 octets : List ℕ) (at : ℕ) → AllFit (length (undone log image)) log → applied log (undone log image) ≡ image → at + length octets ≤ length image
    → image2 ≡ overwrite image at octets → log2 ≡ log ++ record { at = at; octets = octets; replaced = slice_range image at (at + length octets) } ∷ [] → AllFit (length (undone log2 image2)) log2
fits-logged log log2 image image2 octets at fits replays within is more =
    let w : Write = record { at = at; octets = octets; replaced = slice_range image at (at + length octets) } in
    let size : length image ≡ length (undone log image) = ap length (sym replays) ∙ length-applied log (undone log image) fits in
    let first = first-logged log log2 image image2 octets at within is more in
    rw (first, more) (AllFit-more (length (undone log image)) log w fits (omega (arith, within, size)))

-- what a log tells after one write more
pub writes-logged : (image image2 first first2 : List ℕ) (log log2 : List Write) (w : Write) (written written2 : ℕ) → w.at + length w.octets ≤ length image → image2 ≡ overwrite image w.at w.octets
    → log2 ≡ log ++ w ∷ [] → first2 ≡ first → applied log first ≡ image → written2 ≡ min (written + length w.octets) 340282366920938463463374607431768211455
    → Writes w.at w.octets (log_chip image first log written) (log_chip image2 first2 log2 written2)
writes-logged image image2 first first2 log log2 w written written2 within is more same replays counted = rw (is, more, same) (record {
  within = within;
  still = rw (length-overwrite image w.at w.octets within) refl;
  written = counted-more written (length w.octets) written2 counted;
  image = becomes_told _ image (overwrite image w.at w.octets) (record { octets = w.octets; count_is = refl; is = refl });
  later = grind (arith, common_steps);
  past = becomes_told _ _ _ (inl (
    image,
    refl,
    ap (λ (past : List Stretch). giving first 0 1 ∷ past) (stretches-append 1 log (w ∷ []) first
        ∙ ap (λ (image : List ℕ). stretches 1 log first ++ writing (record { image = image; at = w.at; count = length w.octets; mark = 1 }) ∷ []) replays),
  ));
})

-- and after one for which there was no memory
pub writes-nothing : (image first octets : List ℕ) (log log2 : List Write) (at written written2 : ℕ) → at + length octets ≤ length image → log2 ≡ log → first ≡ undone log image
    → written2 ≡ min (written + length octets) 340282366920938463463374607431768211455
    → Writes at octets (log_chip image first log written) (log_chip image (undone log2 image) log2 written2)
writes-nothing image first octets log log2 at written written2 within same is counted = rw (same, is) (record {
  within = within;
  still = refl;
  written = counted-more written (length octets) written2 counted;
  image = becomes_told _ image image (overwrite-own image at (length octets) within);
  later = omega arith;
  past = becomes_told _ _ _ (inr (refl, refl, refl));
})

-- whoever makes the writes leaves what a loss of power may leave in their stretches
pub cut-left : (mark : ℕ) (log : List Write) (image left : List ℕ) → AllFit (length image) log → MayBeCutTo log image left → (left ≡ applied log image) ⊎ LeftIn (stretches mark log image) mark left
cut-left mark [] image left fits is = inl is
cut-left mark (w ∷ log) image left fits (inl same) = inr (inl (refl, rw same (overwrite-own image w.at (length w.octets) fits.0)))
cut-left mark (w ∷ log) image left fits (inr (inl torn)) = inr (inl (refl, torn))
cut-left mark (w ∷ log) image left fits (inr (inr later)) =
    let size = length-overwrite image w.at w.octets fits.0 in
    elim (cut-left mark log (overwrite image w.at w.octets) left (subst (λ (size : ℕ). AllFit size log) (sym size) fits.1) later) [
      | inl all ↦ inl all
      | inr there ↦ inr (inr there)
    ]

pub cut-since : (image first : List ℕ) (log : List Write) (written : ℕ) → AllFit (length first) log → applied log first ≡ image → (left : List ℕ) → MayBeCutTo log first left
    → LeftSince (log_chip image first log written) 1 1 left
unfolding LeftSince
cut-since image first log written fits replays left cut = elim (cut-left 1 log first left fits cut) [
  | inl all ↦ inl (ap Some (sym replays ∙ sym all), refl)
  | inr there ↦ inr there
]
