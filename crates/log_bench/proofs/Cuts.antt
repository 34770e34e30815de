-- What a log tells of whoever makes its writes, by what a run of calls from its beginning on says of the moments.
use Rattle.std.proofs.Common.{◌≡◌, ◌⊎◌, inl, inr, ℕ, List, [], length, refl, ap, sym, ◌∙◌, subst, arith}
use Rattle.std.proofs.lemmas.Option.{same_Some}
use Rattle.eeprom.specs.Chip.{Chip, LeftSince, Throughout}
use Rattle.log_bench.specs.LogBench.{chip_of, first_of, image_of, log_chip, log_of}
use Rattle.log_bench.specs.declared.log_bench.LogBench.{LogBench}
use Rattle.log_bench.specs.Writes.{Write, AllFit, MayBeCutTo, applied, undone}
use Rattle.log_bench.proofs.Logged.{cut-since}

-- at mark 0 a loss of power leaves the image at the log's beginning, and at mark 1 too as long as nothing is written
first-since : (image first : List ℕ) (log : List Write) (written : ℕ) → LeftSince (log_chip image first log written) 0 0 first
unfolding LeftSince
first-since image first log written = inr (inl (omega arith, omega arith, refl))

begun-since : (image left : List ℕ) (written g : ℕ) → LeftSince (log_chip image image [] written) 0 g left → left ≡ image
unfolding LeftSince
begun-since image left written g (inl now) = sym (same_Some image left now.0)
begun-since image left written g (inr (inl giving)) = giving.2
begun-since image left written g (inr (inr none)) = absurd none

unwritten-since : (image left : List ℕ) (written g : ℕ) → LeftSince (log_chip image image [] written) 1 g left → left ≡ image
unfolding LeftSince
unwritten-since image left written g (inl now) = sym (same_Some image left now.0)
unwritten-since image left written g (inr none) = absurd none

-- a run of calls neither gives anything nor begins the log anew: so the log began where the run did
pub first-stays : (P : List ℕ → Type 0) (image image2 first2 : List ℕ) (log2 : List Write) (written written2 : ℕ)
    → Throughout (log_chip image image [] written) (log_chip image2 first2 log2 written2) (λ g left. (g ≡ 1) × P left) → first2 ≡ image
first-stays P image image2 first2 log2 written written2 moments = elim (moments.only 0 0 first2 (omega arith) (first-since image2 first2 log2 written2)) [
  | inl before ↦ begun-since image first2 written 0 before
  | inr now ↦ absurd (omega (arith, now.0))
]

-- whoever makes the log's writes and is cut off leaves the image as it was, or one of those that the run says that a loss of power may leave
pub cut-run : (P : List ℕ → Type 0) (image image2 first2 : List ℕ) (log2 : List Write) (written written2 : ℕ) → AllFit (length first2) log2 → applied log2 first2 ≡ image2
    → Throughout (log_chip image image [] written) (log_chip image2 first2 log2 written2) (λ g left. (g ≡ 1) × P left)
    → (left : List ℕ) → MayBeCutTo log2 image left → (left ≡ image) ⊎ P left
cut-run P image image2 first2 log2 written written2 fits replays moments left cut =
    let first = first-stays P image image2 first2 log2 written written2 moments in
    let there = cut-since image2 first2 log2 written2 fits replays left (subst (λ (image : List ℕ). MayBeCutTo log2 image left) (sym first) cut) in
    elim (moments.only 1 1 left (omega arith) there) [
      | inl before ↦ inl (unwritten-since image left written 1 before)
      | inr now ↦ inr now.1
    ]

-- the same of benches: one whose log was just begun on an image, and the same as a run of calls left it
begun-chip : (image image2 : List ℕ) (log : List Write) (written : ℕ) → image2 ≡ image → log ≡ [] → log_chip image2 (undone log image2) log written ≡ log_chip image image [] written
begun-chip image image2 log written same none = rw (none, same) refl

begun-run : (P : List ℕ → Type 0) (image : List ℕ) (begun new : LogBench) → image_of begun ≡ image → log_of begun ≡ [] → Throughout (chip_of begun) (chip_of new) (λ g left. (g ≡ 1) × P left)
    → Throughout (log_chip image image [] begun.octets_written) (chip_of new) (λ g left. (g ≡ 1) × P left)
begun-run P image begun new same none moments =
    subst (λ (chip : Chip). Throughout chip (chip_of new) (λ g left. (g ≡ 1) × P left)) (begun-chip image (image_of begun) (log_of begun) begun.octets_written same none) moments

pub all-begun : (P : List ℕ → Type 0) (image : List ℕ) (begun new : LogBench) → image_of begun ≡ image → log_of begun ≡ [] → Throughout (chip_of begun) (chip_of new) (λ g left. (g ≡ 1) × P left)
    → applied (log_of new) image ≡ image_of new
all-begun P image begun new same none moments =
    let first = first-stays P image (image_of new) (first_of new) (log_of new) begun.octets_written new.octets_written (begun-run P image begun new same none moments) in
    ap (applied (log_of new)) (sym first) ∙ new.replays

pub cut-begun : (P : List ℕ → Type 0) (image : List ℕ) (begun new : LogBench) → image_of begun ≡ image → log_of begun ≡ [] → Throughout (chip_of begun) (chip_of new) (λ g left. (g ≡ 1) × P left)
    → (left : List ℕ) → MayBeCutTo (log_of new) image left → (left ≡ image) ⊎ P left
cut-begun P image begun new same none moments =
    cut-run P image (image_of new) (first_of new) (log_of new) begun.octets_written new.octets_written new.fits new.replays (begun-run P image begun new same none moments)
