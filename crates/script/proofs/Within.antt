-- No token is longer than the line that begins with it.
use Rattle.std.proofs.Common.{◌≡◌, ℕ, zero, suc, ◌+◌, ◌≤◌, ◌==◌, ◌%◌, Bool, true, false, ◌&&◌, ◌||◌, List, [], ◌∷◌, length, drop, Option, Some, None, IfSome, option_map, unwrap_or, refl, arith, codes, if◌then◌else◌}
use Rattle.std.specs.Prelude.{cond, nat_eq}
use Rattle.std.specs.List.{starts_with, take_while}
use Rattle.std.proofs.Math.Nat.{max-le}
use Rattle.std.proofs.lemmas.Bool.{ne_eqb}
use Rattle.std.proofs.lemmas.List.{length-drop}
use Rattle.std.proofs.lemmas.List.Sums.{take_while-cons}
use Rattle.scql_base.specs.Name.{is_name_octet}
use Rattle.std.specs.Char.{is_ascii_digit}
use Rattle.script.specs.Tokens.{begins_word, closed, digits_len, hexadecimal_len, is_closed_digits, is_quote, literal_len, longest_len, sign_len, token_len}

cond-within : (passes : Bool) (octet : ℕ) (front rest : List ℕ) → length front ≤ length rest → length (cond passes (octet ∷ front) []) ≤ suc (length rest)
cond-within true octet front rest within = omega arith
cond-within false octet front rest within = omega arith

pub take_while-within : (p : ℕ → Bool) (line : List ℕ) → length (take_while p line) ≤ length line
take_while-within p [] = omega arith
take_while-within p (octet ∷ rest) = rw (take_while-cons p octet rest) (cond-within (p octet) octet (take_while p rest) rest (take_while-within p rest))

if-within : (b : Bool) (n most : ℕ) → (b ≡ true → n ≤ most) → (if b then n else 0) ≤ most
if-within true n most within = within refl
if-within false n most within = omega arith

-- behind a quote, or inside a literal, it ends within the octets that are left
closed-cons : (quote : Bool) (more : Option ℕ) (most : ℕ) → IfSome more (λ n. n ≤ most) → unwrap_or (option_map (λ n. n + 1) more) 0 ≤ suc most
closed-cons quote None most within = omega arith
closed-cons quote (Some n) most within = omega arith

closed-inside : (more : Option ℕ) (most : ℕ) → IfSome more (λ n. n ≤ most) → IfSome (option_map (λ n. n + 1) more) (λ n. n ≤ suc most)
closed-inside None most within = tt
closed-inside (Some n) most within = omega arith

closed-behind : (quote : Bool) (more : Option ℕ) (most : ℕ) → IfSome more (λ n. n ≤ most)
    → IfSome (if quote then Some (unwrap_or (option_map (λ n. n + 1) more) 0) else Some 0) (λ n. n ≤ suc most)
closed-behind true more most within = closed-cons true more most within
closed-behind false more most within = omega arith

closed-within : (behind : Bool) (rest : List ℕ) → IfSome (closed behind rest) (λ n. n ≤ length rest)
unfolding closed
closed-within false [] = tt
closed-within true [] = omega arith
closed-within false (octet ∷ rest) = closed-inside (closed (is_quote octet) rest) (length rest) (closed-within (is_quote octet) rest)
closed-within true (octet ∷ rest) = closed-behind (is_quote octet) (closed false rest) (length rest) (closed-within false rest)

literal_len-within : (line : List ℕ) → literal_len line ≤ length line
literal_len-within [] = omega arith
literal_len-within (first ∷ rest) = if-within (is_quote first) _ _ (λ _. closed-cons true (closed false rest) (length rest) (closed-within false rest))

both : (a b : Bool) → a && b ≡ true → (a ≡ true) × (b ≡ true)
both true true is = (refl, refl)
both true false is = absurd (cc)
both false b is = absurd (cc)

-- octets that begin with an octet are some
starts-some : (rest : List ℕ) (octet : ℕ) → starts_with nat_eq rest (octet ∷ []) ≡ true → 1 ≤ length rest
starts-some [] octet is = absurd (cc)
starts-some (first ∷ rest) octet is = omega arith

digits-within : (rest : List ℕ) → is_closed_digits rest ≡ true → digits_len rest + 3 ≤ length rest + 2
digits-within rest is =
    let behind : 1 ≤ length (drop (digits_len rest) rest) = starts-some (drop (digits_len rest) rest) 39 (both (digits_len rest % 2 == 0) _ is).1 in
    omega (arith, behind, length-drop (digits_len rest) rest)

-- one octet doesn't begin with two
second-missing : (octet first second : ℕ) → starts_with nat_eq (octet ∷ []) (first ∷ second ∷ []) ≡ false
second-missing octet first second = grind arith

not-both : (a b : Bool) → a ≡ false → a && b ≡ true → ⊥
not-both true b is-not is = absurd (cc)
not-both false b is-not is = absurd (cc)

neither : (a b c : Bool) → a ≡ false → b ≡ false → c ≡ false → a || b || c ≡ true → ⊥
neither true b c first second third is = absurd (cc)
neither false true c first second third is = absurd (cc)
neither false false true first second third is = absurd (cc)
neither false false false first second third is = absurd (cc)

hexadecimal_len-within : (line : List ℕ) → hexadecimal_len line ≤ length line
hexadecimal_len-within [] = omega arith
hexadecimal_len-within (first ∷ []) = if-within (starts_with nat_eq (first ∷ []) (codes "X'") && is_closed_digits []) _ _ (λ is. absurd (not-both (starts_with nat_eq (first ∷ []) (codes "X'")) (is_closed_digits []) (second-missing first 0x58 0x27) is))
hexadecimal_len-within (first ∷ second ∷ rest) =
    let begins : Bool = starts_with nat_eq (first ∷ second ∷ rest) (codes "X'") in
    if-within (begins && is_closed_digits rest) (digits_len rest + 3) (length (first ∷ second ∷ rest)) (λ is. omega (arith, digits-within rest (both begins (is_closed_digits rest) is).1))

signs-within : (two one : Bool) (rest : List ℕ) (octet : ℕ) → (two ≡ true → 1 ≤ length rest) → (if two then 2 else if one then 1 else 0) ≤ length (octet ∷ rest)
signs-within true one rest octet longer = let more : 1 ≤ length rest = longer refl in omega arith
signs-within false true rest octet longer = omega arith
signs-within false false rest octet longer = omega arith

sign_len-within : (line : List ℕ) → sign_len line ≤ length line
sign_len-within [] = omega arith
sign_len-within (first ∷ []) = signs-within _ _ [] first (λ is. absurd (neither _ _ _ (second-missing first 0x3C 0x3D) (second-missing first 0x3E 0x3D) (second-missing first 0x3C 0x3E) is))
sign_len-within (first ∷ second ∷ rest) = signs-within _ _ (second ∷ rest) first (λ _. omega arith)

longest_len-within : (line : List ℕ) → longest_len line ≤ length line
longest_len-within line =
    max-le (if-within (begins_word line) _ _ (λ _. take_while-within is_name_octet line))
    (max-le (take_while-within is_ascii_digit line) (max-le (literal_len-within line) (max-le (hexadecimal_len-within line) (sign_len-within line))))

or_whole-within : (longest size : ℕ) → longest ≤ size → (if longest == 0 then size else longest) ≤ size
or_whole-within zero size within = omega arith
or_whole-within (suc n) size within = rw (ne_eqb (suc n) 0 (λ none. absurd (omega arith))) within

pub token_len-within : (line : List ℕ) → token_len line ≤ length line
token_len-within line = or_whole-within (longest_len line) (length line) (longest_len-within line)
