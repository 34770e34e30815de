-- The tokens of a line, cut off from its front.
use Rattle.std.proofs.Common.{◌≡◌, ℕ, zero, suc, ◌-◌, ◌≤◌, ◌==◌, Bool, true, false, List, [], ◌∷◌, length, take, drop, if◌then◌else◌, refl, sym, ◌∙◌, ap, arith}
use Rattle.std.proofs.lemmas.Bool.{ne_eqb}
use Rattle.std.proofs.lemmas.List.Sums.{take_while-cons}
use Rattle.scql_model.specs.Lines.{is_blank}
use Rattle.script.specs.Tokens.{Token, token_len, longest_len, token_at, tokens_from, tokens_of, after_blanks}
use Rattle.script.specs.Reading.{is_end, octets_of, behind, left_of}

or_whole-some : (size longest : ℕ) → 1 ≤ size → 1 ≤ (if longest == 0 then size else longest)
or_whole-some size zero some = some
or_whole-some size (suc n) some = rw (ne_eqb (suc n) 0 (λ none. absurd (omega arith))) (omega arith)

token_len-some : (octet : ℕ) (rest : List ℕ) → 1 ≤ token_len (octet ∷ rest)
token_len-some octet rest = or_whole-some (length (octet ∷ rest)) (longest_len (octet ∷ rest)) (omega arith)

drop-behind : (n octet : ℕ) (rest : List ℕ) → 1 ≤ n → drop (n - 1) rest ≡ drop n (octet ∷ rest)
drop-behind zero octet rest some = absurd (omega arith)
drop-behind (suc n) octet rest some = let same : suc n - 1 ≡ n = omega arith in rw same refl

tokens_from-drop : (n : ℕ) (line : List ℕ) → tokens_from n line ≡ tokens_of (drop n line)
unfolding tokens_from tokens_of
tokens_from-drop zero [] = refl
tokens_from-drop (suc n) [] = refl
tokens_from-drop zero (octet ∷ rest) = refl
tokens_from-drop (suc n) (octet ∷ rest) = tokens_from-drop n rest

-- the tokens of a line that begins with no blank
abbrev pub cut : List ℕ → List Token
cut [] = []
cut (octet ∷ rest) = token_at (octet ∷ rest) ∷ tokens_of (drop (token_len (octet ∷ rest)) (octet ∷ rest))

tokens_of-plain : (octet : ℕ) (rest : List ℕ) → is_blank octet ≡ false → tokens_of (octet ∷ rest) ≡ cut (octet ∷ rest)
unfolding tokens_from tokens_of
tokens_of-plain octet rest is =
    rw is (ap (λ tokens. token_at (octet ∷ rest) ∷ tokens) (tokens_from-drop (token_len (octet ∷ rest) - 1) rest
    ∙ ap tokens_of (drop-behind (token_len (octet ∷ rest)) octet rest (token_len-some octet rest))))

tokens_of-blank : (octet : ℕ) (rest : List ℕ) → is_blank octet ≡ true → tokens_of (octet ∷ rest) ≡ tokens_of rest
unfolding tokens_from tokens_of
tokens_of-blank octet rest is = rw is refl

after_blanks-plain : (octet : ℕ) (rest : List ℕ) → is_blank octet ≡ false → after_blanks (octet ∷ rest) ≡ octet ∷ rest
after_blanks-plain octet rest is = rw (take_while-cons is_blank octet rest, is) refl

after_blanks-blank : (octet : ℕ) (rest : List ℕ) → is_blank octet ≡ true → after_blanks (octet ∷ rest) ≡ after_blanks rest
after_blanks-blank octet rest is = rw (take_while-cons is_blank octet rest, is) refl

tokens_of-none : tokens_of [] ≡ []
unfolding tokens_from tokens_of
tokens_of-none = refl

tokens_of-first : (octet : ℕ) (rest : List ℕ) (blank : Bool) → is_blank octet ≡ blank → tokens_of rest ≡ cut (after_blanks rest)
    → tokens_of (octet ∷ rest) ≡ cut (after_blanks (octet ∷ rest))
tokens_of-first octet rest true is behind = tokens_of-blank octet rest is ∙ (behind ∙ ap cut (sym (after_blanks-blank octet rest is)))
tokens_of-first octet rest false is behind = tokens_of-plain octet rest is ∙ ap cut (sym (after_blanks-plain octet rest is))

pub tokens_of-cut : (line : List ℕ) → tokens_of line ≡ cut (after_blanks line)
tokens_of-cut [] = tokens_of-none
tokens_of-cut (octet ∷ rest) = tokens_of-first octet rest (is_blank octet) refl (tokens_of-cut rest)

octets_of-cut : (line : List ℕ) → octets_of (cut line) ≡ take (token_len line) line
octets_of-cut [] = refl
octets_of-cut (octet ∷ rest) = refl

behind-cut : (line : List ℕ) → behind (cut line) ≡ tokens_of (drop (token_len line) line)
unfolding tokens_from tokens_of
behind-cut [] = refl
behind-cut (octet ∷ rest) = refl

left_of-cut : (line : List ℕ) → left_of (cut line) ≡ length line
left_of-cut [] = refl
left_of-cut (octet ∷ rest) = refl

pub octets_of-tokens : (line : List ℕ) → octets_of (tokens_of line) ≡ take (token_len (after_blanks line)) (after_blanks line)
octets_of-tokens line = ap octets_of (tokens_of-cut line) ∙ octets_of-cut (after_blanks line)

pub behind-tokens : (line : List ℕ) → behind (tokens_of line) ≡ tokens_of (drop (token_len (after_blanks line)) (after_blanks line))
behind-tokens line = ap behind (tokens_of-cut line) ∙ behind-cut (after_blanks line)

pub left_of-tokens : (line : List ℕ) → left_of (tokens_of line) ≡ length (after_blanks line)
left_of-tokens line = ap left_of (tokens_of-cut line) ∙ left_of-cut (after_blanks line)

is_end-cut : (line : List ℕ) → is_end (cut line) ≡ (length line == 0)
is_end-cut [] = refl
is_end-cut (octet ∷ rest) = sym (ne_eqb (length (octet ∷ rest)) 0 (λ none. absurd (omega arith)))

pub is_end-tokens : (line : List ℕ) → is_end (tokens_of line) ≡ (length (after_blanks line) == 0)
is_end-tokens line = ap is_end (tokens_of-cut line) ∙ is_end-cut (after_blanks line)
