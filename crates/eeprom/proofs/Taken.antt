-- A piece that is taken from the front of what is left.
use Rattle.std.proofs.Common.{◌≡◌, ℕ, ◌+◌, ◌-◌, ◌<◌, ◌≤◌, min, List, ◌++◌, length, take, drop, Some, sym, ◌∙◌, ap, arith}
use Rattle.std.proofs.lemmas.Grind.{common_steps}
use Rattle.std.proofs.lemmas.List.{drop-drop, take-append-drop, nil_from_length}
use Rattle.eeprom.specs.Input.{TakesPiece}
use Rattle.eeprom.proofs.Telling.{becomes_told}

takes-front : (rest into copied behind : List ℕ) (piece smaller count : ℕ) → 0 < piece → 0 < length into → smaller ≡ min (length rest) piece → count ≡ min smaller (length into) →
    copied ≡ take count rest → behind ≡ drop count rest → TakesPiece count (copied ++ drop count into) (Some rest) (Some behind)
takes-front rest into copied behind piece smaller count some room a b front back =
    let most : count ≤ length rest = omega arith in
    let long : length copied ≡ count = grind (arith, common_steps) in
    let taken : take count (copied ++ drop count into) ≡ copied = grind (arith, common_steps) in
    let none : count ≡ 0 → length rest ≡ 0 = λ zero. omega arith in
    record {
      fits = grind (arith, common_steps);
      octets = becomes_told _ rest behind (rw (taken, front, back) (sym (take-append-drop count rest)), λ zero. nil_from_length rest (none zero));
    }

pub takes-piece : (octets lent into copied : List ℕ) (taken piece smaller count : ℕ) → lent ≡ octets → taken ≤ length octets → 0 < piece → 0 < length into →
    smaller ≡ min (length (take (length lent - taken) (drop taken lent))) piece → count ≡ min smaller (length into) → copied ≡ take count (take (length lent - taken) (drop taken lent)) →
    TakesPiece count (copied ++ drop count into) (Some (drop taken octets)) (Some (drop (taken + count) octets))
takes-piece octets lent into copied taken piece smaller count same within some room a b copy =
    let whole : take (length lent - taken) (drop taken lent) ≡ drop taken octets = grind (arith, common_steps) in
    takes-front (drop taken octets) into copied (drop (taken + count) octets) piece smaller count some room (a ∙ ap (λ left. min (length left) piece) whole) b (copy ∙ ap (take count) whole) (sym (drop-drop count taken octets))
