-- A walk along a chain reads its payload.
use Rattle.std.proofs.Common.{◌≡◌, ℕ, zero, suc, ◌+◌, ◌*◌, ◌-◌, ◌<◌, ◌≤◌, ◌==◌, Bool, true, false, List, [], ◌∷◌, ◌++◌, length, drop, slice_range, slice_index, flat_map, nat_lt, Option, Some, None, option_map, IfSome, sym, refl, ap, ◌∙◌, arith, append_assoc, append-nil, if◌then◌else◌, add-zero, get_or-take, get_or-drop, drop-drop, take-take}
use Rattle.std.proofs.lemmas.List.{drop-take, nil_from_length}
use Rattle.std.proofs.lemmas.Bool.Decides.{nat_tests}
use Rattle.std.proofs.lemmas.Option.{same_Some, none-some}
use Rattle.eeprom.specs.StoreOf.{chain_of, cell_place, payload_of, number_at}
use Rattle.cell_store.specs.Walk.{IsLeft, Walked}

-- where a walk comes to a cell that is one, there is that cell and then the chain from its link on
record Step (image : List ℕ) (n cell : ℕ) (rest : List ℕ) : Type 0 where
  tail : List ℕ
  left : IsLeft image n (number_at image (cell_place n cell)) tail
  is : rest ≡ cell ∷ tail

step-some : (image : List ℕ) (n cell most : ℕ) (rest : List ℕ) (tail : Option (List ℕ)) → chain_of image n most (number_at image (cell_place n cell)) ≡ tail → option_map (λ cells. cell ∷ cells) tail ≡ Some rest → Step image n cell rest
step-some image n cell most rest None e h = absurd (none-some rest h)
step-some image n cell most rest (Some tail) e h = record { tail = tail; left = record { most = most; is = e }; is = sym (same_Some _ _ h) }

step-at : (image : List ℕ) (n cell most : ℕ) (rest : List ℕ) → n ≤ 2048 → cell < 2 * n → chain_of image n most cell ≡ Some rest → Step image n cell rest
step-at image n cell zero rest few inside h =
    let other : (cell == 65535) ≡ false = grind (arith, nat_tests) in
    absurd (none-some rest (rw other at h))
step-at image n cell (suc most) rest few inside h =
    let other : (cell == 65535) ≡ false = grind (arith, nat_tests) in
    let below : nat_lt cell (2 * n) ≡ true = grind (arith, nat_tests) in
    step-some image n cell most rest _ refl (rw (other, below) at h)

step-cell : (image : List ℕ) (n cell : ℕ) (rest : List ℕ) → n ≤ 2048 → cell < 2 * n → IsLeft image n cell rest → Step image n cell rest
step-cell image n cell rest few inside left = step-at image n cell left.most rest few inside left.is

end-if : (is_end : Bool) (rest : List ℕ) → (if is_end then Some [] else None) ≡ Some rest → rest ≡ []
end-if true rest h = sym (same_Some _ _ h)
end-if false rest h = absurd (none-some rest h)

end-at : (image : List ℕ) (n cell most : ℕ) (rest : List ℕ) → 2 * n ≤ cell → chain_of image n most cell ≡ Some rest → rest ≡ []
end-at image n cell zero rest outside h = end-if (cell == 65535) rest h
end-at image n cell (suc most) rest outside h =
    let above : nat_lt cell (2 * n) ≡ false = grind (arith, nat_tests) in
    end-if (cell == 65535) rest (rw above at h)

pub end-cell : (image : List ℕ) (n cell : ℕ) (rest : List ℕ) → 2 * n ≤ cell → IsLeft image n cell rest → rest ≡ []
end-cell image n cell rest outside left = end-at image n cell left.most rest outside left.is

pub Walked-start : (n first : ℕ) (octets : List ℕ) (image : Option (List ℕ)) → octets ≡ [] → IfSome image (λ image. (chain : List ℕ) → chain_of image n (2 * n) first ≡ Some chain → Walked n chain first octets 0 image)
Walked-start n first octets None e = tt
Walked-start n first octets (Some image) e = λ chain is. record {
  rest = chain;
  left = record { most = 2 * n; is = is };
  payload = ap (λ (xs : List ℕ). xs ++ flat_map (payload_of image n) chain) (sym e);
  steps = omega arith;
}

number-read : (image read : List ℕ) (place : ℕ) → read ≡ slice_range image place (place + 32) → 256 * slice_index read 0 + slice_index read 1 ≡ number_at image place
number-read image read place is =
    let size : (place + 32) - place ≡ 32 = omega arith in
    let high : slice_index read 0 ≡ slice_index image place = rw (is, size, get_or-take 32 (drop place image) 0 0 (omega arith), get_or-drop place image 0 0, add-zero) refl in
    let low : slice_index read 1 ≡ slice_index image (place + 1) = rw (is, size, get_or-take 32 (drop place image) 1 0 (omega arith), get_or-drop place image 1 0) refl in
    rw (high, low) refl

payload-read : (image read : List ℕ) (n cell : ℕ) → read ≡ slice_range image (cell_place n cell) (cell_place n cell + 32) → slice_range read 2 32 ≡ payload_of image n cell
payload-read image read n cell is =
    let size : (cell_place n cell + 32) - cell_place n cell ≡ 2 + 30 = omega arith in
    let behind : (cell_place n cell + 32) - (cell_place n cell + 2) ≡ 30 = omega arith in
    rw (is, size, behind, drop-take 2 30 (drop (cell_place n cell) image), drop-drop 2 (cell_place n cell) image, take-take 30 30 (drop (cell_place n cell + 2) image) (omega arith)) refl

-- the octets of a cell tell its link and its payload
pub cell-link : (n cell next : ℕ) (image : Option (List ℕ)) (read : List ℕ) → IfSome image (λ image. read ≡ slice_range image (cell_place n cell) (cell_place n cell + 32)) → next ≡ 256 * slice_index read 0 + slice_index read 1
    → IfSome image (λ image. next ≡ number_at image (cell_place n cell))
cell-link n cell next None read is link = tt
cell-link n cell next (Some image) read is link = link ∙ number-read image read (cell_place n cell) is

pub cell-payload : (n cell : ℕ) (octets octets' : List ℕ) (image : Option (List ℕ)) (read : List ℕ) → IfSome image (λ image. read ≡ slice_range image (cell_place n cell) (cell_place n cell + 32)) → octets' ≡ octets ++ slice_range read 2 32
    → IfSome image (λ image. octets' ≡ octets ++ payload_of image n cell)
cell-payload n cell octets octets' None read is more = tt
cell-payload n cell octets octets' (Some image) read is more = more ∙ ap (λ (xs : List ℕ). octets ++ xs) (payload-read image read n cell is)

pub walked-more : (n : ℕ) (chain : List ℕ) (cell : ℕ) (octets octets' : List ℕ) (step next : ℕ) (image : List ℕ) → n ≤ 2048 → cell < 2 * n → next ≡ number_at image (cell_place n cell) → octets' ≡ octets ++ payload_of image n cell
    → Walked n chain cell octets step image → Walked n chain next octets' (step + 1) image
walked-more n chain cell octets octets' step next image few inside link more w =
    let s = step-cell image n cell w.rest few inside w.left in
    record {
      rest = s.tail;
      left = record { most = s.left.most; is = rw link s.left.is };
      payload = w.payload
          ∙ (ap (λ (xs : List ℕ). octets ++ flat_map (payload_of image n) xs) s.is
          ∙ (sym (append_assoc octets (payload_of image n cell) (flat_map (payload_of image n) s.tail))
          ∙ ap (λ (xs : List ℕ). xs ++ flat_map (payload_of image n) s.tail) (sym more)));
      steps = omega (arith, w.steps, ap (length {A = ℕ}) s.is);
    }

walked-end : (n : ℕ) (chain : List ℕ) (cell : ℕ) (octets : List ℕ) (step : ℕ) (image : List ℕ) → 2 * n ≤ cell → Walked n chain cell octets step image → octets ≡ flat_map (payload_of image n) chain
walked-end n chain cell octets step image outside w =
    let none = end-cell image n cell w.rest outside w.left in
    sym (w.payload ∙ rw (none, append-nil) refl)

walked-full : (n : ℕ) (chain : List ℕ) (cell : ℕ) (octets : List ℕ) (step : ℕ) (image : List ℕ) → length chain ≤ step → Walked n chain cell octets step image → octets ≡ flat_map (payload_of image n) chain
walked-full n chain cell octets step image long w =
    let none : w.rest ≡ [] = nil_from_length w.rest (omega (arith, w.steps)) in
    sym (w.payload ∙ rw (none, append-nil) refl)

-- these, where the image is told
pub Walked-more : (n first cell : ℕ) (octets octets' : List ℕ) (step next : ℕ) (image : Option (List ℕ)) → n ≤ 2048 → cell < 2 * n
    → IfSome image (λ image. next ≡ number_at image (cell_place n cell)) → IfSome image (λ image. octets' ≡ octets ++ payload_of image n cell)
    → IfSome image (λ image. (chain : List ℕ) → chain_of image n (2 * n) first ≡ Some chain → Walked n chain cell octets step image)
    → IfSome image (λ image. (chain : List ℕ) → chain_of image n (2 * n) first ≡ Some chain → Walked n chain next octets' (step + 1) image)
Walked-more n first cell octets octets' step next None few inside link more w = tt
Walked-more n first cell octets octets' step next (Some image) few inside link more w = λ chain h. walked-more n chain cell octets octets' step next image few inside link more (w chain h)

pub Walked-end : (n first cell : ℕ) (octets : List ℕ) (step most : ℕ) (image : Option (List ℕ)) → 2 * n ≤ cell
    → IfSome image (λ image. (chain : List ℕ) → chain_of image n (2 * n) first ≡ Some chain → Walked n chain cell octets step image)
    → IfSome image (λ image. (chain : List ℕ) → chain_of image n (2 * n) first ≡ Some chain → length chain ≤ most → octets ≡ flat_map (payload_of image n) chain)
Walked-end n first cell octets step most None outside w = tt
Walked-end n first cell octets step most (Some image) outside w = λ chain h _. walked-end n chain cell octets step image outside (w chain h)

pub Walked-full : (n first cell : ℕ) (octets : List ℕ) (step most : ℕ) (image : Option (List ℕ)) → most ≤ step
    → IfSome image (λ image. (chain : List ℕ) → chain_of image n (2 * n) first ≡ Some chain → Walked n chain cell octets step image)
    → IfSome image (λ image. (chain : List ℕ) → chain_of image n (2 * n) first ≡ Some chain → length chain ≤ most → octets ≡ flat_map (payload_of image n) chain)
Walked-full n first cell octets step most None long w = tt
Walked-full n first cell octets step most (Some image) long w = λ chain h short. walked-full n chain cell octets step image (omega arith) (w chain h)
