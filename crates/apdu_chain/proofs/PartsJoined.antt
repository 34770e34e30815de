-- Parts that are kept one behind the other: they are joined by what is kept, and a further one stands behind them.
use Rattle.std.proofs.Common.{◌≡◌, ◌≤◌, ◌<◌, ◌+◌, ◌-◌, ◌*◌, ℕ, suc, List, [], ◌∷◌, ◌++◌, length, take, drop, refl, ap, ◌∙◌, arith, length-append, length-drop}
use Rattle.std.specs.List.{concat}
use Rattle.std.proofs.lemmas.List.{take-append-le, take-append-drop, drop-append-le}
use Rattle.std.proofs.lemmas.List.Sums.{sum_by-append, sum_by-cons}
use Rattle.std.proofs.Math.Seq.{take-length}
use Rattle.apdu_chain.specs.Parts.{cut_by, total}

pub length-cut_by : (sizes octets : List ℕ) → length (cut_by sizes octets) ≡ length sizes
length-cut_by [] octets = refl
length-cut_by (size ∷ sizes) octets = ap suc (length-cut_by sizes (drop size octets))

behind : (size : ℕ) (sizes octets : List ℕ) → total (size ∷ sizes) ≡ length octets → total sizes ≡ length (drop size octets)
behind size sizes octets is =
    let left : length (drop size octets) ≡ length octets - size = length-drop size octets in
    let first : total (size ∷ sizes) ≡ size + total sizes = sum_by-cons (λ (n : ℕ). n) size sizes in
    omega (arith, is, left, first)

pub concat-cut_by : (sizes octets : List ℕ) → total sizes ≡ length octets → concat (cut_by sizes octets) ≡ octets
concat-cut_by [] [] is = refl
concat-cut_by [] (x ∷ octets) is = absurd (omega (arith, is))
concat-cut_by (size ∷ sizes) octets is =
    ap (λ (more : List ℕ). take size octets ++ more) (concat-cut_by sizes (drop size octets) (behind size sizes octets is)) ∙ take-append-drop size octets

pub cut_by-append : (sizes octets part : List ℕ) → total sizes ≡ length octets → cut_by (sizes ++ length part ∷ []) (octets ++ part) ≡ cut_by sizes octets ++ part ∷ []
cut_by-append [] [] part is = ap (λ (p : List ℕ). p ∷ []) (take-length part)
cut_by-append [] (x ∷ octets) part is = absurd (omega (arith, is))
cut_by-append (size ∷ sizes) octets part is =
    let first : total (size ∷ sizes) ≡ size + total sizes = sum_by-cons (λ (n : ℕ). n) size sizes in
    let enough : size ≤ length octets = omega (arith, is, first) in
    rw (take-append-le size octets part enough, drop-append-le size octets part enough)
    (ap (λ (parts : List (List ℕ)). take size octets ∷ parts) (cut_by-append sizes (drop size octets) part (behind size sizes octets is)))

-- what holds of parts that are kept, with one part more
pub record AreKept (sizes octets : List ℕ) : Type 0 where
  pub all : total sizes ≡ length octets
  pub short : length octets ≤ 255 * length sizes
  pub few : length sizes ≤ 4

pub AreKept-append : (sizes octets part : List ℕ) → total sizes ≡ length octets → length octets ≤ 255 * length sizes → length sizes < 4 → length part ≤ 255 → AreKept (sizes ++ length part ∷ []) (octets ++ part)
AreKept-append sizes octets part all short few size =
    let one : total (length part ∷ []) ≡ length part + total [] = sum_by-cons (λ (n : ℕ). n) (length part) [] in
    let sum : total (sizes ++ length part ∷ []) ≡ total sizes + total (length part ∷ []) = sum_by-append (λ (n : ℕ). n) sizes (length part ∷ []) in
    let longer : length (octets ++ part) ≡ length octets + length part = length-append octets part in
    let more : length (sizes ++ length part ∷ []) ≡ length sizes + 1 = length-append sizes (length part ∷ []) in
    let none : total [] ≡ 0 = refl in
    record { all = omega (arith, one, none, sum, longer, all); short = omega (arith, longer, more, short, size); few = omega (arith, more, few) }
