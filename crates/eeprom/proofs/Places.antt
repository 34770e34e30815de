-- What stands behind other octets.
use Rattle.std.proofs.Common.{◌≡◌, ℕ, zero, suc, ◌+◌, ◌*◌, ◌-◌, ◌<◌, ◌≤◌, List, [], ◌∷◌, ◌++◌, length, drop, replicate, get_or, slice_range, sym, refl, ap, ap₂, ◌∙◌, arith, suc-add, zero-add, get_or-append-add, add-zero, get_or-take, get_or-drop}
use Rattle.eeprom.specs.StoreOf.{number_at, numbers_at, cell_place, payload_of}

pub drop-behind : (xs ys : List ℕ) (n : ℕ) → drop (length xs + n) (xs ++ ys) ≡ drop n ys
drop-behind [] ys n = rw zero-add refl
drop-behind (x ∷ xs) ys n = rw suc-add (drop-behind xs ys n)

pub number_at-behind : (xs ys : List ℕ) (place k : ℕ) → place ≡ length xs + k → number_at (xs ++ ys) place ≡ number_at ys k
number_at-behind xs ys place k e =
    let next : place + 1 ≡ length xs + (k + 1) = omega arith in
    rw (next, e, get_or-append-add xs ys k 0, get_or-append-add xs ys (k + 1) 0) refl

pub numbers_at-behind : (xs ys : List ℕ) (place k count : ℕ) → place ≡ length xs + k → numbers_at (xs ++ ys) place count ≡ numbers_at ys k count
numbers_at-behind xs ys place k zero e = refl
numbers_at-behind xs ys place k (suc count) e =
    ap₂ (λ (x : ℕ) (rest : List ℕ). x ∷ rest) (number_at-behind xs ys place k e) (numbers_at-behind xs ys (place + 2) (k + 2) count (omega arith))

pub payload_of-behind : (xs ys : List ℕ) (n cell : ℕ) → cell_place n cell ≡ length xs → payload_of (xs ++ ys) n cell ≡ slice_range ys 2 32
payload_of-behind xs ys n cell e =
    let size : (cell_place n cell + 32) - (cell_place n cell + 2) ≡ 30 = omega arith in
    rw (size, e, drop-behind xs ys 2) refl

pub numbers_at-full : (k : ℕ) (rest : List ℕ) → numbers_at (replicate (2 * k) 255 ++ rest) 0 k ≡ replicate k 65535
numbers_at-full zero rest = refl
numbers_at-full (suc k) rest =
    let twice : 2 * suc k ≡ suc (suc (2 * k)) = omega arith in
    ap (λ (m : ℕ). numbers_at (replicate m 255 ++ rest) 0 (suc k)) twice
    ∙ ap (λ (xs : List ℕ). 65535 ∷ xs) (numbers_at-behind (255 ∷ 255 ∷ []) (replicate (2 * k) 255 ++ rest) (0 + 2) 0 k refl ∙ numbers_at-full k rest)

pub numbers_at-more : (octets : List ℕ) (place count : ℕ) → numbers_at octets place (count + 1) ≡ numbers_at octets place count ++ number_at octets (place + 2 * count) ∷ []
numbers_at-more octets place zero = rw add-zero refl
numbers_at-more octets place (suc count) =
    let next : (place + 2) + 2 * count ≡ place + 2 * suc count = omega arith in
    rw (suc-add) (ap (λ (rest : List ℕ). number_at octets place ∷ rest) (numbers_at-more octets (place + 2) count
    ∙ ap (λ (k : ℕ). numbers_at octets (place + 2) count ++ number_at octets k ∷ []) next))

pub length-numbers_at : (octets : List ℕ) (place count : ℕ) → length (numbers_at octets place count) ≡ count
length-numbers_at octets place zero = refl
length-numbers_at octets place (suc count) = ap (λ (n : ℕ). suc n) (length-numbers_at octets (place + 2) count)

pub get_or-numbers_at : (octets : List ℕ) (place count k d : ℕ) → k < count → get_or (numbers_at octets place count) k d ≡ number_at octets (place + 2 * k)
get_or-numbers_at octets place zero k d inside = absurd (omega arith)
get_or-numbers_at octets place (suc count) zero d inside = rw add-zero refl
get_or-numbers_at octets place (suc count) (suc k) d inside =
    let next : (place + 2) + 2 * k ≡ place + 2 * suc k = omega arith in
    get_or-numbers_at octets (place + 2) count k d (omega arith) ∙ ap (λ (at : ℕ). number_at octets at) next

pub number_at-within : (image : List ℕ) (place size k : ℕ) → k + 2 ≤ size → number_at (slice_range image place (place + size)) k ≡ number_at image (place + k)
number_at-within image place size k inside =
    let width : (place + size) - place ≡ size = omega arith in
    let next : place + (k + 1) ≡ (place + k) + 1 = omega arith in
    rw (width, get_or-take size (drop place image) k 0 (omega arith), get_or-take size (drop place image) (k + 1) 0 (omega arith), get_or-drop place image k 0, get_or-drop place image (k + 1) 0, next) refl

pub numbers_at-within : (image : List ℕ) (place size k count : ℕ) → k + 2 * count ≤ size → numbers_at (slice_range image place (place + size)) k count ≡ numbers_at image (place + k) count
numbers_at-within image place size k zero inside = refl
numbers_at-within image place size k (suc count) inside =
    let next : place + (k + 2) ≡ (place + k) + 2 = omega arith in
    ap₂ (λ (x : ℕ) (rest : List ℕ). x ∷ rest) (number_at-within image place size k (omega arith))
    (numbers_at-within image place size (k + 2) count (omega arith) ∙ ap (λ (at : ℕ). numbers_at image at count) next)

pub numbers_at-push : (octets items : List ℕ) (count first : ℕ) → items ≡ numbers_at octets 0 count → first ≡ number_at octets (2 * count) → items ++ first ∷ [] ≡ numbers_at octets 0 (count + 1)
numbers_at-push octets items count first e is = rw (e, is) (sym (rw zero-add at (numbers_at-more octets 0 count)))
