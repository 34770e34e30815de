-- The octets of a directory tell its numbers.
use Rattle.std.proofs.Common.{◌≡◌, ℕ, ◌+◌, ◌*◌, List, slice_range, Option, Some, None, IfSome, ap, ◌∙◌, arith, add-zero}
use Rattle.eeprom.specs.StoreOf.{numbers_at}
use Rattle.eeprom.proofs.Places.{numbers_at-within}

numbers-read : (image octets : List ℕ) (n place size : ℕ) → size ≡ 2 * n → octets ≡ slice_range image place (place + size) → numbers_at octets 0 n ≡ numbers_at image place n
numbers-read image octets n place size fits e =
    ap (λ (xs : List ℕ). numbers_at xs 0 n) e ∙ (numbers_at-within image place size 0 n (omega arith) ∙ ap (λ (at : ℕ). numbers_at image at n) (add-zero place))

pub directory-read : (image : Option (List ℕ)) (octets : List ℕ) (n place size : ℕ) (numbers : List ℕ) → size ≡ 2 * n → IfSome image (λ image. octets ≡ slice_range image place (place + size)) → numbers ≡ numbers_at octets 0 n
    → IfSome image (λ image. numbers ≡ numbers_at image place n)
directory-read None octets n place size numbers fits e is = tt
directory-read (Some image) octets n place size numbers fits e is = is ∙ numbers-read image octets n place size fits e
