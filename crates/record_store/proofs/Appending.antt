-- Appending is one step after another.
use Rattle.std.proofs.Common.{◌≡◌, ℕ, ◌+◌, List, [], ◌∷◌, ◌++◌, length, Option, option_map, sym, ap, ◌∙◌, arith, length-append, ◌<◌, take, get_or, replicate, Result, Ok, Err, OnOk}
use Rattle.std.proofs.lemmas.List.{take_more, replicate_more}
use Rattle.eeprom.specs.Chip.{Chip}
use Rattle.eeprom.specs.Image.{overwrite}
use Rattle.record_store.specs.declared.writer.Writer.{Writer}
use Rattle.record_store.specs.Appends.{Appends, end_of, promised}
use Rattle.eeprom.proofs.Overwrite.{option-nil, option-behind}

pub Appends-then : {xs ys : List ℕ} {first second third : Writer} {before between after : Chip} → Appends xs first second before between → Appends ys second third between after → Appends (xs ++ ys) first third before after
Appends-then {xs} {ys} {first} {second} {third} {before} {between} {after} a b = record {
  end = omega (arith, a.end, b.end, length-append xs ys);
  image = b.image ∙ (rw (a.image, a.end) (option-behind (promised first before) (end_of first) xs ys));
}

pub Appends-pushed : (first second third : Writer) (before between : Chip) (octet : ℕ) → Appends [] first second before between → third.at ≡ second.at → third.pending.items ≡ second.pending.items ++ octet ∷ [] → Appends (octet ∷ []) first third before between
Appends-pushed first second third before between octet a at items =
    Appends-then a (record {
      end = rw (at, items) (omega (arith, length-append second.pending.items (octet ∷ [])));
      image = rw (at, items) (sym (option-behind between.image second.at second.pending.items (octet ∷ [])));
    })

pub Appends-more : (octets : List ℕ) (i : ℕ) {first second third : Writer} {before between after : Chip} → i < length octets → Appends (take i octets) first second before between → Appends (get_or octets i 0 ∷ []) second third between after → Appends (take (i + 1) octets) first third before after
Appends-more octets i inside a b = rw (take_more octets i 0 inside) (Appends-then a b)

pub Appends-again : (octet n : ℕ) {first second third : Writer} {before between after : Chip} → Appends (replicate n octet) first second before between → Appends (octet ∷ []) second third between after → Appends (replicate (n + 1) octet) first third before after
Appends-again octet n a b = rw (← replicate_more n octet) (Appends-then a b)

-- the same at a last call, whose result is returned as it is
pub Appends-last : {T E : Type 0} {xs : List ℕ} {first second : Writer} {before between : Chip} (result : Result T E) (ys : List ℕ) (third : Writer) (after : Chip)
    → Appends xs first second before between → OnOk result (Appends ys second third between after) → OnOk result (Appends (xs ++ ys) first third before after)
Appends-last (Ok value) ys third after a b = Appends-then a b
Appends-last (Err error) ys third after a b = tt

pub Appends-new : {xs : List ℕ} {first second : Writer} {before after : Chip} (at : ℕ) → first.at ≡ at → first.pending.items ≡ [] → Appends xs first second before after
    → promised second after ≡ option_map (λ image. overwrite image at xs) before.image
Appends-new {xs} {first} {second} {before} {after} at place empty a =
    let e : end_of first ≡ at = omega (arith, place, ap (length {A = ℕ}) empty) in
    let p : promised first before ≡ before.image = rw empty (option-nil before.image first.at) in
    a.image ∙ (ap (λ (o : Option (List ℕ)). option_map (λ image. overwrite image (end_of first) xs) o) p
    ∙ ap (λ (n : ℕ). option_map (λ image. overwrite image n xs) before.image) e)
