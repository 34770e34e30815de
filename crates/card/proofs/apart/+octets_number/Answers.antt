-- Eight digits fit.
use Rattle.std.proofs.Common.{ℕ, ◌-◌, ◌<◌, ◌≤◌, ◌^◌, List, length, take, drop, arith, length-drop}
use Rattle.std.proofs.lemmas.List.{length-take}
use Rattle.std.proofs.Math.Nat.{pow-le-pow_right}
use Rattle.card.proofs.apart.+octets_number.Goals as goal

few : (r n : ℕ) → r < 256 ^ n → n ≤ 7 → r < 256 ^ 7
few r n small le = let h : 256 ^ n ≤ 256 ^ 7 = pow-le-pow_right {n = 256} (omega arith) le in omega arith

-- all but the first of at most eight
left : (xs : List ℕ) → 1 ≤ length xs → length xs ≤ 8 → length (take (length xs - 1) (drop 1 xs)) ≤ 7
left xs some short = let a = length-take (length xs - 1) (drop 1 xs) in let b = length-drop 1 xs in omega arith

pub overflow_mul-result : goal.overflow_mul-result
overflow_mul-result t c =
    let h = few c.octets_number.result _ c.octets_number.ensures.small (left c.args.octets.now c.in-len1-up.len_at_least c.requires.short) in
    omega arith

pub overflow_add-result : goal.overflow_add-result
overflow_add-result t c =
    let h = few c.octets_number.result _ c.octets_number.ensures.small (left c.args.octets.now c.in-len1-up.len_at_least c.requires.short) in
    let first : c.from.result < 256 = omega (arith, c.from.ensures, c.type_inv.octets 0) in
    omega arith
