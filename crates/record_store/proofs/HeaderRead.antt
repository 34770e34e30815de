-- The first octets of an image tell what its header says.
use Rattle.std.proofs.Common.{◌≡◌, ℕ, ◌<◌, ◌&&◌, Bool, true, false, List, [], ◌∷◌, length, take, slice_index, Option, Some, None, is_some, IfSome, IfOk, ok_or, sym, refl, ap, ◌∙◌, arith, get_or-take}
use Rattle.std.proofs.lemmas.Bool.{and_parts}
use Rattle.eeprom.specs.StoreOf.{starts_with_magic, has_header, number_at, row_limit, is_gate_open, store_of}
use Rattle.record_store.specs.Header.{begins_store, IsHeaderOf}
use Rattle.record_store.specs.declared.header.Header.{Header}

-- of these octets as many are those of an image as a header has
record IsFront (octets image : List ℕ) : Type 0 where
  each : (k : ℕ) → k < 11 → slice_index octets k ≡ slice_index image k
  magic : starts_with_magic octets ≡ starts_with_magic image

magic-taken : (image : List ℕ) → starts_with_magic (take 11 image) ≡ starts_with_magic image
magic-taken [] = refl
magic-taken (a ∷ []) = refl
magic-taken (a ∷ b ∷ []) = refl
magic-taken (a ∷ b ∷ c ∷ []) = refl
magic-taken (a ∷ b ∷ c ∷ d ∷ rest) = refl

front-of : (octets image : List ℕ) → octets ≡ take 11 image → IsFront octets image
front-of octets image is = record {
  each = λ k inside. ap (λ (xs : List ℕ). slice_index xs k) is ∙ get_or-take 11 image k 0 inside;
  magic = ap starts_with_magic is ∙ magic-taken image;
}

front-cells : (octets image : List ℕ) → IsFront octets image → number_at octets 6 ≡ number_at image 6
front-cells octets image f = rw (f.each 6 (omega arith), f.each 7 (omega arith)) refl

front-limit : (octets image : List ℕ) → IsFront octets image → row_limit octets ≡ row_limit image
front-limit octets image f = rw (f.each 5 (omega arith)) refl

front-gate : (octets image : List ℕ) → IsFront octets image → is_gate_open octets ≡ is_gate_open image
front-gate octets image f = rw (f.each 8 (omega arith)) refl

front-begins : (octets image : List ℕ) → IsFront octets image → begins_store octets (length image) ≡ (starts_with_magic image && has_header image)
front-begins octets image f =
    rw (f.magic, f.each 4 (omega arith), f.each 5 (omega arith), f.each 6 (omega arith), f.each 7 (omega arith), f.each 9 (omega arith), f.each 10 (omega arith)) refl

-- a header is that of the image, or there is none and no store
pub record HeaderTold (header : Option Header) (octets : List ℕ) (size : ℕ) : Type 0 where
  pub there : is_some header ≡ begins_store octets size
  pub cells : IfSome header (λ header. header.cells ≡ number_at octets 6)
  pub limit : IfSome header (λ header. header.row_limit ≡ row_limit octets)
  pub gate : IfSome header (λ header. header.is_open ≡ is_gate_open octets)

told : (header : Header) (octets image : List ℕ) (size : ℕ) → HeaderTold (Some header) octets size → octets ≡ take 11 image → length image ≡ size → IsHeaderOf image header
told header octets image size t is size_is =
    let f = front-of octets image is in
    let begins : (starts_with_magic image && has_header image) ≡ true = sym (front-begins octets image f) ∙ (ap (begins_store octets) size_is ∙ sym t.there) in
    let parts = and_parts (starts_with_magic image) (has_header image) begins in
    record {
      front = parts.0;
      fields = parts.1;
      cells = sym (front-cells octets image f) ∙ sym t.cells;
      limit = sym (front-limit octets image f) ∙ sym t.limit;
      gate = sym (front-gate octets image f) ∙ sym t.gate;
    }

untold : (octets image : List ℕ) (size : ℕ) → HeaderTold None octets size → octets ≡ take 11 image → length image ≡ size → store_of image ≡ None
untold octets image size t is size_is =
    let f = front-of octets image is in
    none (starts_with_magic image) (has_header image) refl refl (sym (front-begins octets image f) ∙ (ap (begins_store octets) size_is ∙ sym t.there))
  where
    none : (magic header : Bool) → starts_with_magic image ≡ magic → has_header image ≡ header → (magic && header) ≡ false → store_of image ≡ None
    none true true m h both = absurd (cc)
    none true false m h both = rw (m, h) refl
    none false header m h both = rw m refl

pub header-read : {E : Type 0} (header : Option Header) (octets : List ℕ) (error : E) (size : ℕ) (image : Option (List ℕ)) → HeaderTold header octets size → IfSome image (λ image. octets ≡ take 11 image) → IfSome image (λ image. length image ≡ size)
    → IfOk (ok_or header error) (λ header. IfSome image (λ image. IsHeaderOf image header))
header-read None octets error size image t is sized = tt
header-read (Some header) octets error size None t is sized = tt
header-read (Some header) octets error size (Some image) t is sized = told header octets image size t is sized

pub header-missing : (header : Option Header) (octets : List ℕ) (size : ℕ) (image : Option (List ℕ)) → HeaderTold header octets size → is_some header ≡ false → IfSome image (λ image. octets ≡ take 11 image) → IfSome image (λ image. length image ≡ size)
    → IfSome image (λ image. store_of image ≡ None)
header-missing header octets size None t none is sized = tt
header-missing (Some header) octets size (Some image) t none is sized = absurd (cc)
header-missing None octets size (Some image) t none is sized = untold octets image size t is sized
