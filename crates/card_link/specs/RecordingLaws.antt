-- Lemmas, in specs/ since the ghost members of the recorder cite them: what is recorded stays.
use Rattle.std.proofs.Common.{ℕ, List, [], ◌++◌, append_assoc, sym, ◌∙◌, ap}
use Rattle.std.proofs.lemmas.List.{append-nil}
use Rattle.card_link.specs.Recording.{Continues}

pub continues-same : (words : List ℕ) → Continues words words
continues-same words = record { more = []; whole = sym (append-nil words) }

pub continues-then : (old mid new : List ℕ) → Continues old mid → Continues mid new → Continues old new
continues-then old mid new first second = record {
  more = first.more ++ second.more;
  whole = second.whole ∙ (ap (λ (words : List ℕ). words ++ second.more) first.whole ∙ append_assoc old first.more second.more);
}
