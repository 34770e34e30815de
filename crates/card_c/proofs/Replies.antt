-- A reply as octets in a place that is lent.
use Rattle.std.proofs.Common.{◌≡◌, ℕ, ◌+◌, List, ◌++◌, length, take, drop, ap, sym, ◌∙◌, zero-add, length-append}
use Rattle.std.proofs.Math.Seq.{take-append_seam}
use Rattle.eeprom.specs.Image.{overwrite}
use Rattle.eeprom.specs.StoreOf.{two_octets}
use Rattle.eeprom.proofs.Overwrite.{overwrite-behind}
use Rattle.scql_model.specs.Replies.{Reply}
use Rattle.card_c.specs.HeldCard.{AnswersInto, reply_octets}

pub answers-into : (reply : Reply) (body word into into1 into2 : List ℕ) → body ≡ reply.body → word ≡ two_octets reply.word.word → into1 ≡ overwrite into 0 body → into2 ≡ overwrite into1 (length body) word
    → AnswersInto reply (length body + 2) into2
answers-into reply body word into into1 into2 eb ew e1 e2 =
    let octets : body ++ word ≡ reply_octets reply = ap (λ (xs : List ℕ). xs ++ word) eb ∙ ap (λ (xs : List ℕ). reply.body ++ xs) ew in
    let size : length (body ++ word) ≡ length body + 2 = length-append body word ∙ ap (λ (xs : List ℕ). length body + length xs) ew in
    let whole : into2 ≡ overwrite into 0 (body ++ word) =
    e2 ∙ ap (λ (xs : List ℕ). overwrite xs (length body) word) e1 ∙ ap (λ (at : ℕ). overwrite (overwrite into 0 body) at word) (sym (zero-add (length body))) ∙ overwrite-behind into 0 body word in (
      ap (λ (n : ℕ). take n into2) (sym size) ∙ ap (take (length (body ++ word))) whole ∙ take-append_seam (body ++ word) (drop (0 + length (body ++ word)) into) ∙ octets,
      sym size ∙ ap length octets,
    )
