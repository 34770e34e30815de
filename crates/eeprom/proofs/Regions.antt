-- What a write leaves of an image, and what it puts there.
use Rattle.std.proofs.Common.{◌≡◌, ℕ, zero, suc, ◌+◌, ◌*◌, ◌-◌, ◌<◌, ◌≤◌, List, [], ◌∷◌, ◌++◌, length, take, drop, slice_index, slice_range, get_or, sym, refl, ap, ap₂, ◌∙◌, arith, length-append, length-take, length-take-le, length-drop, get_or-take, get_or-drop, get_or-append-add, drop-drop}
use Rattle.std.proofs.lemmas.List.{get_or_append_left}
use Rattle.eeprom.specs.Image.{overwrite}
use Rattle.eeprom.specs.StoreOf.{number_at, numbers_at, starts_with_magic, has_header, row_limit}
use Rattle.eeprom.proofs.Places.{drop-behind, numbers_at-behind}

pub length-overwrite : (image : List ℕ) (at : ℕ) (octets : List ℕ) → at + length octets ≤ length image → length (overwrite image at octets) ≡ length image
length-overwrite image at octets fits = simp (length-append, length-take, length-drop) (omega arith)

take-front : (k at : ℕ) (image rest : List ℕ) → k ≤ at → at ≤ length image → take k (take at image ++ rest) ≡ take k image
take-front zero at image rest before fits = refl
take-front (suc k) zero image rest before fits = absurd (omega arith)
take-front (suc k) (suc at) [] rest before fits = absurd (omega arith)
take-front (suc k) (suc at) (x ∷ image) rest before fits = ap (λ (xs : List ℕ). x ∷ xs) (take-front k at image rest (omega arith) (omega arith))

pub take-overwrite : (k at : ℕ) (image octets : List ℕ) → k ≤ at → at ≤ length image → take k (overwrite image at octets) ≡ take k image
take-overwrite k at image octets before fits = take-front k at image (octets ++ drop (at + length octets) image) before fits

pub drop-overwrite : (m at : ℕ) (image octets : List ℕ) → at + length octets ≤ m → at + length octets ≤ length image → drop m (overwrite image at octets) ≡ drop m image
drop-overwrite m at image octets behind fits =
    let front : length (take at image) ≡ at = length-take-le at image (omega arith) in
    let more = m - (at + length octets) in
    let past : m ≡ length (take at image) + (length octets + more) = omega arith in
    let rest : (at + length octets) + more ≡ m = omega arith in
    ap (λ (k : ℕ). drop k (overwrite image at octets)) past
    ∙ drop-behind (take at image) (octets ++ drop (at + length octets) image) (length octets + more)
    ∙ drop-behind octets (drop (at + length octets) image) more
    ∙ drop-drop more (at + length octets) image
    ∙ ap (λ (k : ℕ). drop k image) rest

pub get-before : (image : List ℕ) (at : ℕ) (octets : List ℕ) (k : ℕ) → k < at → at ≤ length image → slice_index (overwrite image at octets) k ≡ slice_index image k
get-before image at octets k before fits =
    let front : length (take at image) ≡ at = length-take-le at image fits in
    get_or_append_left (take at image) (octets ++ drop (at + length octets) image) 0 k (omega arith) ∙ get_or-take at image k 0 before

pub get-inside : (image : List ℕ) (at : ℕ) (octets : List ℕ) (k : ℕ) → k < length octets → at ≤ length image → slice_index (overwrite image at octets) (at + k) ≡ slice_index octets k
get-inside image at octets k inside fits =
    let front : length (take at image) ≡ at = length-take-le at image fits in
    let past : at + k ≡ length (take at image) + k = omega arith in
    ap (λ (j : ℕ). slice_index (overwrite image at octets) j) past
    ∙ get_or-append-add (take at image) (octets ++ drop (at + length octets) image) k 0
    ∙ get_or_append_left octets (drop (at + length octets) image) 0 k inside

pub get-behind : (image : List ℕ) (at : ℕ) (octets : List ℕ) (k : ℕ) → at + length octets ≤ k → at + length octets ≤ length image → slice_index (overwrite image at octets) k ≡ slice_index image k
get-behind image at octets k behind fits =
    let more = k - (at + length octets) in
    let rest : (at + length octets) + more ≡ k = omega arith in
    let same = drop-overwrite (at + length octets) at image octets (omega arith) fits in
    sym (ap (λ (j : ℕ). slice_index (overwrite image at octets) j) rest)
    ∙ sym (get_or-drop (at + length octets) (overwrite image at octets) more 0)
    ∙ ap (λ (xs : List ℕ). get_or xs more 0) same
    ∙ get_or-drop (at + length octets) image more 0
    ∙ ap (λ (j : ℕ). slice_index image j) rest

-- numbers are the same where their octets are
pub numbers-agree : (a b : List ℕ) (place count : ℕ) → ((k : ℕ) → place ≤ k → k < place + 2 * count → slice_index a k ≡ slice_index b k) → numbers_at a place count ≡ numbers_at b place count
numbers-agree a b place zero same = refl
numbers-agree a b place (suc count) same =
    let high = same place (omega arith) (omega arith) in
    let low = same (place + 1) (omega arith) (omega arith) in
    ap₂ (λ (x : ℕ) (rest : List ℕ). x ∷ rest) (rw (high, low) refl)
    (numbers-agree a b (place + 2) count (λ k from below. same k (omega arith) (omega arith)))

-- those that were written
pub numbers-written : (image : List ℕ) (at : ℕ) (octets : List ℕ) (count : ℕ) → at ≤ length image → 2 * count ≤ length octets → numbers_at (overwrite image at octets) at count ≡ numbers_at octets 0 count
numbers-written image at octets count fits long =
    let front : length (take at image) ≡ at = length-take-le at image fits in
    numbers_at-behind (take at image) (octets ++ drop (at + length octets) image) at 0 count (omega arith)
    ∙ numbers-agree (octets ++ drop (at + length octets) image) octets 0 count
    (λ k from below. get_or_append_left octets (drop (at + length octets) image) 0 k (omega arith))

-- all octets before the gate and behind it up to the directory, which say whether there is a store, and of which size
pub record SameFront (left was : List ℕ) : Type 0 where
  pub size : length left ≡ length was
  pub front : take 8 left ≡ take 8 was
  pub behind_gate : slice_range left 9 32 ≡ slice_range was 9 32

magic-front : (image : List ℕ) → starts_with_magic image ≡ starts_with_magic (take 8 image)
magic-front [] = refl
magic-front (a ∷ []) = refl
magic-front (a ∷ b ∷ []) = refl
magic-front (a ∷ b ∷ c ∷ []) = refl
magic-front (a ∷ b ∷ c ∷ d ∷ rest) = refl

pub same-magic : (left was : List ℕ) → SameFront left was → starts_with_magic left ≡ starts_with_magic was
same-magic left was same = magic-front left ∙ ap starts_with_magic same.front ∙ sym (magic-front was)

same-octet : (left was : List ℕ) (k : ℕ) → k < 8 → SameFront left was → slice_index left k ≡ slice_index was k
same-octet left was k inside same =
    sym (get_or-take 8 left k 0 inside) ∙ ap (λ (xs : List ℕ). get_or xs k 0) same.front ∙ get_or-take 8 was k 0 inside

same-behind : (left was : List ℕ) (k : ℕ) → k < 23 → SameFront left was → slice_index left (9 + k) ≡ slice_index was (9 + k)
same-behind left was k inside same =
    sym (get_or-take 23 (drop 9 left) k 0 inside ∙ get_or-drop 9 left k 0)
    ∙ ap (λ (xs : List ℕ). get_or xs k 0) same.behind_gate ∙ get_or-take 23 (drop 9 was) k 0 inside ∙ get_or-drop 9 was k 0

pub same-cells : (left was : List ℕ) → SameFront left was → number_at left 6 ≡ number_at was 6
same-cells left was same = rw (same-octet left was 6 (omega arith) same, same-octet left was 7 (omega arith) same) refl

pub same-limit : (left was : List ℕ) → SameFront left was → row_limit left ≡ row_limit was
same-limit left was same = rw (same-octet left was 5 (omega arith) same) refl

pub same-header : (left was : List ℕ) → SameFront left was → has_header left ≡ has_header was
same-header left was same =
    rw (
      same-octet left was 4 (omega arith) same,
      same-octet left was 5 (omega arith) same,
      same-octet left was 6 (omega arith) same,
      same-octet left was 7 (omega arith) same,
      same-behind left was 0 (omega arith) same,
      same-behind left was 1 (omega arith) same,
      same.size,
    ) refl
