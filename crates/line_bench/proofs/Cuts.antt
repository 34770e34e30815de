-- What a log tells of whoever makes its writes, by what a run of calls from its beginning on says of the moments.
use Rattle.std.proofs.Common.{◌≡◌, ◌⊎◌, inl, inr, ℕ, zero, suc, ◌-◌, ◌≤◌, List, [], ◌∷◌, ◌++◌, Some, length, refl, ap, sym, ◌∙◌, subst, arith}
use Rattle.std.proofs.lemmas.Option.{same_Some}
use Rattle.eeprom.specs.Chip.{Chip, Stretch, LeftIn, LeftSince, Throughout}
use Rattle.eeprom.specs.Image.{overwrite}
use Rattle.eeprom.proofs.Replayed.{length-overwrite, overwrite-own}
use Rattle.log_bench.specs.Writes.{Write, AllFit, MayBeCutTo, applied, undone}
use Rattle.line_bench.specs.Spans.{givings, spans}
use Rattle.line_bench.specs.LineBench.{chip_of, first_of, image_of, line_chip, text_of, writes_of}
use Rattle.line_bench.specs.declared.line_bench.LineBench.{LineBench}

-- what may be left in some stretches, or in stretches behind them
left-behind : (past more : List Stretch) (g : ℕ) (left : List ℕ) → LeftIn more g left → LeftIn (past ++ more) g left
left-behind [] more g left there = there
left-behind (stretch ∷ past) more g left there = inr (left-behind past more g left there)

-- whoever makes the writes leaves what a loss of power may leave in their stretches, at some mark
cut-left : (from : ℕ) (log : List Write) (marks image : List ℕ) (now : ℕ) (left : List ℕ) → length marks ≡ length log → AllFit (length image) log → MayBeCutTo log image left
    → (left ≡ applied log image) ⊎ ((g : ℕ) × LeftIn (spans from log marks image now) g left)
cut-left from [] marks image now left paired fits is = inl is
cut-left from (w ∷ log) [] image now left paired fits cut = absurd (omega (arith, paired))
cut-left from (w ∷ log) (mark ∷ marks) image now left paired fits (inl same) =
    inr (suc mark, left-behind (givings image (suc from) (mark - from)) _ (suc mark) left (inl (refl, rw same (overwrite-own image w.at (length w.octets) fits.0))))
cut-left from (w ∷ log) (mark ∷ marks) image now left paired fits (inr (inl torn)) = inr (suc mark, left-behind (givings image (suc from) (mark - from)) _ (suc mark) left (inl (refl, torn)))
cut-left from (w ∷ log) (mark ∷ marks) image now left paired fits (inr (inr later)) =
    let size = length-overwrite image w.at w.octets fits.0 in
    elim (cut-left mark log marks (overwrite image w.at w.octets) now left (omega (arith, paired)) (subst (λ (size : ℕ). AllFit size log) (sym size) fits.1) later) [
      | inl all ↦ inl all
      | inr there ↦ inr (there.0, left-behind (givings image (suc from) (mark - from)) _ there.0 left (inr there.1))
    ]

-- at mark 0 a loss of power leaves the image at the log's beginning, and as long as nothing is written it leaves the image at any mark
first-since : (image first : List ℕ) (log : List Write) (marks text : List ℕ) (sink_faults : ℕ) → LeftSince (line_chip image first log marks text sink_faults) 0 0 first
unfolding LeftSince
first-since image first log marks text sink_faults = inr (inl (omega arith, omega arith, refl))

begun-since : (image left : List ℕ) (t g sink_faults : ℕ) → LeftSince (line_chip image image [] [] [] sink_faults) t g left → t ≤ 1 → left ≡ image
unfolding LeftSince
begun-since image left t g sink_faults (inl now) early = sym (same_Some image left now.0)
begun-since image left zero g sink_faults (inr (inl giving)) early = giving.2
begun-since image left zero g sink_faults (inr (inr none)) early = absurd none
begun-since image left (suc zero) g sink_faults (inr none) early = absurd none
begun-since image left (suc (suc t)) g sink_faults (inr there) early = absurd (omega (arith, early))

cut-since : (image first : List ℕ) (log : List Write) (marks text : List ℕ) (sink_faults : ℕ) → length marks ≡ length log → AllFit (length first) log → applied log first ≡ image → (left : List ℕ) → MayBeCutTo log first left
    → (g : ℕ) × LeftSince (line_chip image first log marks text sink_faults) 1 g left
unfolding LeftSince
cut-since image first log marks text sink_faults paired fits replays left cut = elim (cut-left 0 log marks first (length text) left paired fits cut) [
  | inl all ↦ (suc (length text), inl (ap Some (sym replays ∙ sym all), refl))
  | inr there ↦ (there.0, inr there.1)
]

-- a run of calls neither gives anything at mark 0 nor begins the log anew: so the log began where the run did
first-stays : (P : ℕ → List ℕ → Type 0) → ((g : ℕ) (left : List ℕ) → P g left → 1 ≤ g) → (image image2 first2 : List ℕ) (log2 : List Write) (marks2 text2 : List ℕ) (sink sink2 : ℕ)
    → Throughout (line_chip image image [] [] [] sink) (line_chip image2 first2 log2 marks2 text2 sink2) P → first2 ≡ image
first-stays P later image image2 first2 log2 marks2 text2 sink sink2 moments = elim (moments.only 0 0 first2 (omega arith) (first-since image2 first2 log2 marks2 text2 sink2)) [
  | inl before ↦ begun-since image first2 0 0 sink before (omega arith)
  | inr now ↦ absurd (omega (arith, later 0 first2 now))
]

-- The same of benches: one that was just begun on an image, and the same as a run of calls left it, whose moments have P at a later mark than 0.
begun-chip : (image now : List ℕ) (log : List Write) (marks text : List ℕ) (sink : ℕ) → now ≡ image → log ≡ [] → text ≡ [] → length marks ≡ length log
    → line_chip now (undone log now) log marks text sink ≡ line_chip image image [] [] [] sink
begun-chip image now log [] text sink same none silent paired = rw (none, silent, same) refl
begun-chip image now log (mark ∷ marks) text sink same none silent paired = absurd (omega (arith, paired, ap length none))

begun-run : (P : ℕ → List ℕ → Type 0) (image : List ℕ) (begun new : LineBench) → image_of begun ≡ image → (writes_of begun ≡ []) × (text_of begun ≡ []) → Throughout (chip_of begun) (chip_of new) P
    → Throughout (line_chip image image [] [] [] begun.text_faults) (chip_of new) P
begun-run P image begun new same none moments =
    subst (λ (chip : Chip). Throughout chip (chip_of new) P) (begun-chip image (image_of begun) (writes_of begun) begun.marks.items (text_of begun) begun.text_faults same none.0 none.1 begun.paired) moments

-- all writes make the image of now
pub all-begun : (P : ℕ → List ℕ → Type 0) → ((g : ℕ) (left : List ℕ) → P g left → 1 ≤ g) → (image : List ℕ) (begun new : LineBench) → image_of begun ≡ image → (writes_of begun ≡ []) × (text_of begun ≡ [])
    → Throughout (chip_of begun) (chip_of new) P → applied (writes_of new) image ≡ image_of new
all-begun P later image begun new same none moments =
    let first = first-stays P later image (image_of new) (first_of new) (writes_of new) new.marks.items (text_of new) begun.text_faults new.text_faults (begun-run P image begun new same none moments) in
    ap (applied (writes_of new)) (sym first) ∙ new.log.replays

-- whoever makes the writes and is cut off leaves the image as it was, or one of which the run says what P does
pub cut-begun : (P : ℕ → List ℕ → Type 0) → ((g : ℕ) (left : List ℕ) → P g left → 1 ≤ g) → (image : List ℕ) (begun new : LineBench) → image_of begun ≡ image → (writes_of begun ≡ []) × (text_of begun ≡ [])
    → Throughout (chip_of begun) (chip_of new) P → (left : List ℕ) → MayBeCutTo (writes_of new) image left → (left ≡ image) ⊎ ((g : ℕ) × P g left)
cut-begun P later image begun new same none moments left cut =
    let run = begun-run P image begun new same none moments in
    let first = first-stays P later image (image_of new) (first_of new) (writes_of new) new.marks.items (text_of new) begun.text_faults new.text_faults run in
    let there = cut-since (image_of new) (first_of new) (writes_of new) new.marks.items (text_of new) new.text_faults new.paired new.log.fits new.log.replays left
    (subst (λ (image : List ℕ). MayBeCutTo (writes_of new) image left) (sym first) cut) in
    elim (run.only 1 there.0 left (omega arith) there.1) [
      | inl before ↦ inl (begun-since image left 1 there.0 begun.text_faults before (omega arith))
      | inr now ↦ inr (there.0, now)
    ]
