-- One write more, or one octet of text, at the end.
use Rattle.std.proofs.Common.{◌≡◌, ℕ, zero, suc, ◌+◌, ◌-◌, ◌≤◌, List, [], ◌∷◌, ◌++◌, length, ap, sym, ◌∙◌, arith, append_assoc}
use Rattle.eeprom.specs.Chip.{Stretch, writing, giving}
use Rattle.eeprom.specs.Image.{overwrite}
use Rattle.log_bench.specs.Writes.{Write, applied}
use Rattle.line_bench.specs.Spans.{IsInTurn, givings, spans}

givings-last : (image : List ℕ) (from count : ℕ) → givings image from (suc count) ≡ givings image from count ++ giving image (from + count) (suc (from + count)) ∷ []
givings-last image from zero = let same : from ≡ from + 0 = omega arith in ap (λ (at : ℕ). giving image at (suc at) ∷ []) same
givings-last image from (suc count) =
    let same : suc from + count ≡ from + suc count = omega arith in
    ap (λ (past : List Stretch). giving image from (suc from) ∷ past) (givings-last image (suc from) count ∙ ap (λ (at : ℕ). givings image (suc from) count ++ giving image at (suc at) ∷ []) same)

-- a write
pub spans-write : (from : ℕ) (log : List Write) (marks image : List ℕ) (now : ℕ) (w : Write) → length marks ≡ length log →
    spans from (log ++ w ∷ []) (marks ++ now ∷ []) image now ≡ spans from log marks image now ++ writing (record { image = applied log image; at = w.at; count = length w.octets; mark = suc now }) ∷ []
spans-write from [] [] image now w same =
    let none : now - now ≡ 0 = omega arith in
    ap (λ (count : ℕ). givings image (suc from) (now - from) ++ writing (record { image = image; at = w.at; count = length w.octets; mark = suc now }) ∷ givings (overwrite image w.at w.octets) (suc now) count) none
spans-write from [] (mark ∷ marks) image now w same = absurd (omega (arith, same))
spans-write from (x ∷ log) [] image now w same = absurd (omega (arith, same))
spans-write from (x ∷ log) (mark ∷ marks) image now w same =
    let first = writing (record { image = image; at = x.at; count = length x.octets; mark = suc mark }) in
    let behind = overwrite image x.at x.octets in
    let last = writing (record { image = applied log behind; at = w.at; count = length w.octets; mark = suc now }) in
    ap (λ (past : List Stretch). givings image (suc from) (mark - from) ++ first ∷ past) (spans-write mark log marks behind now w (omega (arith, same)))
    ∙ sym (append_assoc (givings image (suc from) (mark - from)) (first ∷ spans mark log marks behind now) (last ∷ []))

-- an octet of text
pub spans-give : (from : ℕ) (log : List Write) (marks image : List ℕ) (now : ℕ) → length marks ≡ length log → IsInTurn from marks now →
    spans from log marks image (suc now) ≡ spans from log marks image now ++ giving (applied log image) (suc now) (suc (suc now)) ∷ []
spans-give from [] [] image now same turn =
    let count : suc now - from ≡ suc (now - from) = omega (arith, turn) in
    let at : suc from + (now - from) ≡ suc now = omega (arith, turn) in
    ap (givings image (suc from)) count ∙ givings-last image (suc from) (now - from) ∙ ap (λ (at : ℕ). givings image (suc from) (now - from) ++ giving image at (suc at) ∷ []) at
spans-give from [] (mark ∷ marks) image now same turn = absurd (omega (arith, same))
spans-give from (x ∷ log) [] image now same turn = absurd (omega (arith, same))
spans-give from (x ∷ log) (mark ∷ marks) image now same turn =
    let first = writing (record { image = image; at = x.at; count = length x.octets; mark = suc mark }) in
    let behind = overwrite image x.at x.octets in
    let last = giving (applied log behind) (suc now) (suc (suc now)) in
    ap (λ (past : List Stretch). givings image (suc from) (mark - from) ++ first ∷ past) (spans-give mark log marks behind now (omega (arith, same)) turn.1)
    ∙ sym (append_assoc (givings image (suc from) (mark - from)) (first ∷ spans mark log marks behind now) (last ∷ []))

-- they stay in turn
pub turn-write : (from : ℕ) (marks : List ℕ) (now : ℕ) → IsInTurn from marks now → IsInTurn from (marks ++ now ∷ []) now
turn-write from [] now turn = (turn, omega arith)
turn-write from (mark ∷ marks) now turn = (turn.0, turn-write mark marks now turn.1)

pub turn-give : (from : ℕ) (marks : List ℕ) (now later : ℕ) → now ≤ later → IsInTurn from marks now → IsInTurn from marks later
turn-give from [] now later less turn = omega (arith, less, turn)
turn-give from (mark ∷ marks) now later less turn = (turn.0, turn-give mark marks now later less turn.1)
