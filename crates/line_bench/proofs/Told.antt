-- What the EEPROM tells after a write more, or an octet of text more.
use Rattle.std.proofs.Common.{Bool, true, false, ◌≡◌, inl, inr, ℕ, suc, ◌+◌, ◌≤◌, List, [], ◌∷◌, ◌++◌, length, slice_range, refl, ap, ap₂, sym, ◌∙◌, subst, arith, length-append, append_assoc}
use Rattle.std.specs.Prelude.{if◌then◌else◌}
use Rattle.std.proofs.lemmas.List.{append-nil}
use Rattle.eeprom.specs.Chip.{LeftSince, MayBeLeftSince, Stretch, Gives, Throughout, Writes, giving, writing}
use Rattle.eeprom.specs.Image.{overwrite}
use Rattle.eeprom.proofs.Moments.{gives-throughout, throughout-then, throughout-weaker}
use Rattle.eeprom.proofs.Replayed.{length-overwrite, overwrite-own}
use Rattle.eeprom.proofs.Telling.{becomes_told}
use Rattle.log_bench.specs.LogBench.{first_of as log_first, image_of as log_image, log_of as log_writes}
use Rattle.log_bench.specs.declared.log_bench.LogBench.{LogBench}
use Rattle.log_bench.specs.Writes.{Write, applied, undone}
use Rattle.line_bench.specs.Spans.{IsInTurn, spans}
use Rattle.line_bench.specs.LineBench.{Enters, IsAsBefore, LeavesLog, chip_of, first_of, image_of, line_chip, line_past, text_of, writes_of}
use Rattle.line_bench.specs.declared.line_bench.LineBench.{LineBench}
use Rattle.line_bench.proofs.Spans.{spans-give, spans-write, turn-give}

-- a write that was done
pub writes-done : (image image2 first first2 : List ℕ) (log log2 : List Write) (marks marks2 text : List ℕ) (w : Write) (sink_faults : ℕ) → length marks ≡ length log → w.at + length w.octets ≤ length image
    → applied log first ≡ image → image2 ≡ overwrite image w.at w.octets → log2 ≡ log ++ w ∷ [] → first2 ≡ first → marks2 ≡ marks ++ length text ∷ []
    → Writes w.at w.octets (line_chip image first log marks text sink_faults) (line_chip image2 first2 log2 marks2 text sink_faults)
writes-done image image2 first first2 log log2 marks marks2 text w sink_faults paired within replays is more same marked = rw (is, more, same, marked) (
    let stretch = λ (image : List ℕ). writing (record { image = image; at = w.at; count = length w.octets; mark = suc (length text) }) in
    let longer : line_past first (log ++ w ∷ []) (marks ++ length text ∷ []) (length text) ≡ line_past first log marks (length text) ++ stretch image ∷ [] =
    ap (λ (past : List Stretch). giving first 0 1 ∷ past) (spans-write 0 log marks first (length text) w paired ∙ ap (λ (image : List ℕ). spans 0 log marks first (length text) ++ stretch image ∷ []) replays) in
    record {
      within = within;
      still = rw (length-overwrite image w.at w.octets within) refl;
      written = λ after none. absurd cc;
      image = becomes_told _ image (overwrite image w.at w.octets) (record { octets = w.octets; count_is = refl; is = refl });
      later = omega (arith, ap length longer ∙ length-append (line_past first log marks (length text)) (stretch image ∷ []));
      past = becomes_told _ _ _ (inl (image, refl, longer));
    })

-- and one for which there was no memory
pub writes-nothing : (image image2 first first2 octets : List ℕ) (log log2 : List Write) (marks marks2 text : List ℕ) (at sink_faults : ℕ) → at + length octets ≤ length image → image2 ≡ image → log2 ≡ log → first2 ≡ first → marks2 ≡ marks
    → Writes at octets (line_chip image first log marks text sink_faults) (line_chip image2 first2 log2 marks2 text sink_faults)
writes-nothing image image2 first first2 octets log log2 marks marks2 text at sink_faults within is more same marked = rw (is, more, same, marked) (record {
  within = within;
  still = refl;
  written = λ after none. absurd cc;
  image = becomes_told _ image image (overwrite-own image at (length octets) within);
  later = omega arith;
  past = becomes_told _ _ _ (inr (refl, refl, refl));
})

-- one octet of text
gives-one : (image first : List ℕ) (log : List Write) (marks text : List ℕ) (octet sink_faults : ℕ) → length marks ≡ length log → IsInTurn 0 marks (length text) → applied log first ≡ image
    → Gives (line_chip image first log marks text sink_faults) (line_chip image first log marks (text ++ octet ∷ []) sink_faults)
gives-one image first log marks text octet sink_faults paired turn replays =
    let count : length (text ++ octet ∷ []) ≡ suc (length text) = length-append text (octet ∷ []) ∙ omega arith in
    let stretch = λ (image : List ℕ). giving image (suc (length text)) (suc (suc (length text))) in
    let longer : line_past first log marks (length (text ++ octet ∷ [])) ≡ line_past first log marks (length text) ++ giving image (suc (length text)) (suc (length (text ++ octet ∷ []))) ∷ [] =
    ap (line_past first log marks) count ∙ ap (λ (past : List Stretch). giving first 0 1 ∷ past) (spans-give 0 log marks first (length text) paired turn
    ∙ ap (λ (image : List ℕ). spans 0 log marks first (length text) ++ stretch image ∷ []) replays)
    ∙ ap (λ (n : ℕ). line_past first log marks (length text) ++ giving image (suc (length text)) (suc n) ∷ []) (sym count) in
    record {
      size = refl;
      image = refl;
      written = refl;
      mark = omega (arith, count);
      later = omega (arith, ap length longer ∙ length-append (line_past first log marks (length text)) (giving image (suc (length text)) (suc (length (text ++ octet ∷ []))) ∷ []));
      past = becomes_told _ _ _ (inl (image, refl, longer));
    }

-- the outlet's count of faults is no matter of moments
counts-apart : (image first : List ℕ) (log : List Write) (marks text : List ℕ) (sink_faults sink_faults2 : ℕ)
    → Throughout (line_chip image first log marks text sink_faults) (line_chip image first log marks text sink_faults2) (λ g left. (suc (length text) ≤ g) × (g ≤ suc (length text)) × (left ≡ image))
unfolding LeftSince MayBeLeftSince
counts-apart image first log marks text sink_faults sink_faults2 = record {
  later = omega arith;
  only = λ t g left before since. inl since;
  stays = λ t g left before since. since;
  now = λ left told. (omega arith, omega arith, cc told);
}

-- octets of text: the image stays meanwhile
gives-text : (image first : List ℕ) (log : List Write) (marks text more : List ℕ) (sink_faults sink_faults2 : ℕ) → length marks ≡ length log → IsInTurn 0 marks (length text) → applied log first ≡ image
    → Throughout (line_chip image first log marks text sink_faults) (line_chip image first log marks (text ++ more) sink_faults2) (λ g left. (suc (length text) ≤ g) × (g ≤ suc (length (text ++ more))) × (left ≡ image))
gives-text image first log marks text [] sink_faults sink_faults2 paired turn replays =
    subst (λ (after : List ℕ). Throughout (line_chip image first log marks text sink_faults) (line_chip image first log marks after sink_faults2) (λ g left. (suc (length text) ≤ g) × (g ≤ suc (length after)) × (left ≡ image))) (sym (append-nil text))
    (counts-apart image first log marks text sink_faults sink_faults2)
gives-text image first log marks text (octet ∷ more) sink_faults sink_faults2 paired turn replays =
    let before = line_chip image first log marks text sink_faults in
    let between = line_chip image first log marks (text ++ octet ∷ []) sink_faults in
    let after = line_chip image first log marks (text ++ octet ∷ more) sink_faults2 in
    let count : length (text ++ octet ∷ []) ≡ suc (length text) = length-append text (octet ∷ []) ∙ omega arith in
    let whole : (text ++ octet ∷ []) ++ more ≡ text ++ octet ∷ more = append_assoc text (octet ∷ []) more in
    let most : length (text ++ octet ∷ []) ≤ length (text ++ octet ∷ more) = omega (arith, ap length whole, length-append (text ++ octet ∷ []) more) in
    throughout-then before between after _
    (throughout-weaker before between _ _ (gives-throughout before between refl (gives-one image first log marks text octet sink_faults paired turn replays))
    (λ g left during. (omega (arith, during.0), omega (arith, during.1, most), cc during.2)))
    (throughout-weaker between after _ _
    (subst (λ (now : List ℕ). Throughout between (line_chip image first log marks now sink_faults2) (λ g left. (suc (length (text ++ octet ∷ [])) ≤ g) × (g ≤ suc (length now)) × (left ≡ image))) whole
    (gives-text image first log marks (text ++ octet ∷ []) more sink_faults sink_faults2 paired (turn-give 0 marks (length text) (length (text ++ octet ∷ [])) (omega (arith, count)) turn) replays))
    (λ g left during. (omega (arith, during.0, count), during.1, during.2)))

-- the same of an EEPROM before and after
pub writes-entered : (old new : LineBench) (at : ℕ) (octets : List ℕ) → at + length octets ≤ length (image_of old) → Enters at octets old new → text_of new ≡ text_of old → new.text_faults ≡ old.text_faults → Writes at octets (chip_of old) (chip_of new)
writes-entered old new at octets within entered text faults =
    let w : Write = record { at = at; octets = octets; replaced = slice_range (image_of old) at (at + length octets) } in
    subst (λ (now : List ℕ). Writes at octets (chip_of old) (line_chip (image_of new) (first_of new) (writes_of new) new.marks.items now new.text_faults)) (sym text)
    (subst (λ (faults : ℕ). Writes at octets (chip_of old) (line_chip (image_of new) (first_of new) (writes_of new) new.marks.items (text_of old) faults)) (sym faults)
    (writes-done (image_of old) (image_of new) (first_of old) (first_of new) (writes_of old) (writes_of new) old.marks.items new.marks.items (text_of old) w old.text_faults old.paired within old.log.replays
    entered.logged.image entered.logged.log entered.logged.first entered.mark))

pub writes-wanting : (old new : LineBench) (at : ℕ) (octets : List ℕ) → at + length octets ≤ length (image_of old) → IsAsBefore old new → text_of new ≡ text_of old → new.text_faults ≡ old.text_faults → Writes at octets (chip_of old) (chip_of new)
writes-wanting old new at octets within same text faults =
    subst (λ (now : List ℕ). Writes at octets (chip_of old) (line_chip (image_of new) (first_of new) (writes_of new) new.marks.items now new.text_faults)) (sym text)
    (subst (λ (faults : ℕ). Writes at octets (chip_of old) (line_chip (image_of new) (first_of new) (writes_of new) new.marks.items (text_of old) faults)) (sym faults)
    (writes-nothing (image_of old) (image_of new) (first_of old) (first_of new) octets (writes_of old) (writes_of new) old.marks.items new.marks.items (text_of old) at old.text_faults within same.image same.writes
    (ap₂ undone same.writes same.image) same.marks))

-- a write more, and the marks of before it: as many, and in turn
pub paired-more : (log log2 : List Write) (marks marks2 : List ℕ) (w : Write) (mark : ℕ) → length marks ≡ length log → log2 ≡ log ++ w ∷ [] → marks2 ≡ marks ++ mark ∷ [] → length marks2 ≡ length log2
paired-more log log2 marks marks2 w mark paired more marked = omega (arith, paired, ap length more, ap length marked, length-append log (w ∷ []), length-append marks (mark ∷ []))

-- what giving leaves is told so
pub left-text : (old new : LineBench) → LeavesLog old new → Throughout (chip_of old) (chip_of new) (λ g left. (suc (length (text_of old)) ≤ g) × (g ≤ suc (length (text_of new))) × (left ≡ image_of old))
left-text old new left =
    let P = λ (text : List ℕ) (g : ℕ) (image : List ℕ). (suc (length (text_of old)) ≤ g) × (g ≤ suc (length text)) × (image ≡ image_of old) in
    subst (λ (text : List ℕ). Throughout (chip_of old) (line_chip (image_of new) (first_of new) (writes_of new) new.marks.items text new.text_faults) (P text)) (sym left.text)
    (subst (λ (log : LogBench). Throughout (chip_of old) (line_chip (log_image log) (log_first log) (log_writes log) new.marks.items (text_of old ++ left.more) new.text_faults) (P (text_of old ++ left.more))) (sym left.log)
    (subst (λ (marks : List ℕ). Throughout (chip_of old) (line_chip (image_of old) (first_of old) (writes_of old) marks (text_of old ++ left.more) new.text_faults) (P (text_of old ++ left.more))) (sym left.marks)
    (gives-text (image_of old) (first_of old) (writes_of old) old.marks.items (text_of old) left.more old.text_faults new.text_faults old.paired old.in_turn old.log.replays)))

-- a vector that may have grown is no shorter
pub longer-either : (grown : Bool) (xs more ys : List ℕ) → ys ≡ (if grown then xs ++ more else xs) → length xs ≤ length ys
longer-either true xs more ys is = omega (arith, ap length is, length-append xs more)
longer-either false xs more ys is = omega (arith, ap length is)
