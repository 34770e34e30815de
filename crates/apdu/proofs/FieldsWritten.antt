-- Octets put behind a data field, one run after the other.
use Rattle.std.proofs.Common.{◌≡◌, ◌≤◌, ◌<◌, ℕ, ◌+◌, ◌-◌, nat_le, Bool, true, false, List, [], ◌++◌, length, Option, Some, None, if◌then◌else◌, refl, ap, arith, length-append, append_assoc, append-nil}
use Rattle.std.proofs.lemmas.Bool.{leb-true, leb-false, le-leb, lt-leb}
use Rattle.apdu.specs.Writing.{with_more}

-- no octets more
pub with_none : (field : Option (List ℕ)) → with_more [] field ≡ field
with_none None = refl
with_none (Some octets) = rw (le-leb 0 (1275 - length octets) (omega arith), append-nil octets) refl

-- octets for which there is room, and for which there is none
pub with_some : (xs octets : List ℕ) → length octets + length xs ≤ 1275 → with_more xs (Some octets) ≡ Some (octets ++ xs)
with_some xs octets room = rw (le-leb (length xs) (1275 - length octets) (omega (arith, room))) refl

pub with_no_room : (xs octets : List ℕ) → length octets ≤ 1275 → 1275 < length octets + length xs → with_more xs (Some octets) ≡ None
with_no_room xs octets held full = rw (lt-leb (length xs) (1275 - length octets) (omega (arith, held, full))) refl

-- some octets, and then others
pub with_both : (xs ys : List ℕ) (field : Option (List ℕ)) → with_more ys (with_more xs field) ≡ with_more (xs ++ ys) field
with_both xs ys None = refl
with_both xs ys (Some octets) = go (nat_le (length xs) (1275 - length octets)) refl
  where
    both : length (xs ++ ys) ≡ length xs + length ys
    both = length-append xs ys

    front : length (octets ++ xs) ≡ length octets + length xs
    front = length-append octets xs

    behind : (fits : Bool) → nat_le (length ys) (1275 - length (octets ++ xs)) ≡ fits → length xs ≤ 1275 - length octets
        → (if fits then Some ((octets ++ xs) ++ ys) else None) ≡ with_more (xs ++ ys) (Some octets)
    behind true at room =
        let more : length ys ≤ 1275 - length (octets ++ xs) = leb-true (length ys) (1275 - length (octets ++ xs)) at in
        rw (le-leb (length (xs ++ ys)) (1275 - length octets) (omega (arith, room, more, both, front))) (ap Some (append_assoc octets xs ys))
    behind false at room =
        let many : 1275 - length (octets ++ xs) < length ys = leb-false (length ys) (1275 - length (octets ++ xs)) at in
        rw (lt-leb (length (xs ++ ys)) (1275 - length octets) (omega (arith, room, many, both, front))) refl

    go : (fits : Bool) → nat_le (length xs) (1275 - length octets) ≡ fits
        → with_more ys (if fits then Some (octets ++ xs) else None) ≡ with_more (xs ++ ys) (Some octets)
    go true at = behind (nat_le (length ys) (1275 - length (octets ++ xs))) refl (leb-true (length xs) (1275 - length octets) at)
    go false at =
        let many : 1275 - length octets < length xs = leb-false (length xs) (1275 - length octets) at in
        rw (lt-leb (length (xs ++ ys)) (1275 - length octets) (omega (arith, many, both))) refl
