-- Where a literal ends, octet by octet.
use Rattle.std.proofs.Common.{◌≡◌, ℕ, ◌+◌, ◌<◌, ◌≤◌, Bool, true, false, List, [], ◌∷◌, length, drop, get_or, Option, Some, None, option_map, unwrap_or, refl, ◌∙◌, ap, arith, drop-cons, add-one, if◌then◌else◌}
use Rattle.std.proofs.lemmas.Bool.{ne_eqb, eq-eqb}
use Rattle.std.proofs.lemmas.List.{drop_all}
use Rattle.script.specs.Tokens.{closed, is_quote}

-- the octets of a literal up to its end, of which those from a place on are read, and so many where they have no end
abbrev pub end_by : ℕ → ℕ → Option ℕ → ℕ
end_by i len more = unwrap_or (option_map (λ n. i + n + 1) more) len

abbrev pub literal_end : Bool → ℕ → ℕ → List ℕ → ℕ
literal_end behind i len rest = end_by i len (closed behind (drop i rest))

end_by-suc : (i len : ℕ) (more : Option ℕ) → end_by i len (option_map (λ n. n + 1) more) ≡ end_by (i + 1) len more
end_by-suc i len None = refl
end_by-suc i len (Some n) = omega arith

end_by-twice : (i len : ℕ) (more : Option ℕ) → len ≡ i + 1 → i + unwrap_or (option_map (λ n. n + 1) more) 0 + 1 ≡ end_by (i + 1) len more
end_by-twice i len None last = omega arith
end_by-twice i len (Some n) last = omega arith

-- behind a quote there is an end
abbrev behind_octet : Bool → Option ℕ → Option ℕ
behind_octet quote more = if quote then Some (unwrap_or (option_map (λ n. n + 1) more) 0) else Some 0

behind_octet-any : (i len other : ℕ) (quote : Bool) (more : Option ℕ) → end_by i len (behind_octet quote more) ≡ end_by i other (behind_octet quote more)
behind_octet-any i len other true more = refl
behind_octet-any i len other false more = refl

end_by-behind : (i len other : ℕ) (rest : List ℕ) → end_by i len (closed true rest) ≡ end_by i other (closed true rest)
unfolding closed
end_by-behind i len other [] = refl
end_by-behind i len other (octet ∷ rest) = behind_octet-any i len other (is_quote octet) (closed false rest)

-- the next octet, which is a quote or isn't
closed-opens : (octet : ℕ) (rest : List ℕ) → octet ≡ 0x27 → closed false (octet ∷ rest) ≡ option_map (λ n. n + 1) (closed true rest)
unfolding closed
closed-opens octet rest quote = rw (eq-eqb octet 0x27 quote) refl

closed-plain : (octet : ℕ) (rest : List ℕ) → (octet ≡ 0x27 → ⊥) → closed false (octet ∷ rest) ≡ option_map (λ n. n + 1) (closed false rest)
unfolding closed
closed-plain octet rest plain = rw (ne_eqb octet 0x27 plain) refl

closed-doubled : (octet : ℕ) (rest : List ℕ) → octet ≡ 0x27 → closed true (octet ∷ rest) ≡ Some (unwrap_or (option_map (λ n. n + 1) (closed false rest)) 0)
unfolding closed
closed-doubled octet rest quote = rw (eq-eqb octet 0x27 quote) refl

closed-ended : (octet : ℕ) (rest : List ℕ) → (octet ≡ 0x27 → ⊥) → closed true (octet ∷ rest) ≡ Some 0
unfolding closed
closed-ended octet rest plain = rw (ne_eqb octet 0x27 plain) refl

here : (behind : Bool) (i : ℕ) (rest : List ℕ) → i < length rest → closed behind (drop i rest) ≡ closed behind (get_or rest i 0 ∷ drop (i + 1) rest)
here behind i rest inside = ap (closed behind) (rw (add-one, drop-cons rest i 0) refl)

pub opens : (behind : Bool) (i len : ℕ) (rest : List ℕ) → i < length rest → behind ≡ false → get_or rest i 0 ≡ 0x27 → literal_end behind i len rest ≡ literal_end true (i + 1) (i + 2) rest
opens true i len rest inside state quote = absurd (cc)
opens false i len rest inside state quote =
    ap (end_by i len) (here false i rest inside ∙ closed-opens (get_or rest i 0) (drop (i + 1) rest) quote)
    ∙ (end_by-suc i len (closed true (drop (i + 1) rest)) ∙ end_by-behind (i + 1) len (i + 2) (drop (i + 1) rest))

pub plain : (behind : Bool) (i len : ℕ) (rest : List ℕ) → i < length rest → behind ≡ false → (get_or rest i 0 ≡ 0x27 → ⊥) → literal_end behind i len rest ≡ literal_end behind (i + 1) len rest
plain true i len rest inside state other = absurd (cc)
plain false i len rest inside state other =
    ap (end_by i len) (here false i rest inside ∙ closed-plain (get_or rest i 0) (drop (i + 1) rest) other) ∙ end_by-suc i len (closed false (drop (i + 1) rest))

pub doubled : (behind : Bool) (i len : ℕ) (rest : List ℕ) → i < length rest → behind ≡ true → len ≡ i + 1 → get_or rest i 0 ≡ 0x27 → literal_end behind i len rest ≡ literal_end false (i + 1) len rest
doubled false i len rest inside state last quote = absurd (cc)
doubled true i len rest inside state last quote =
    ap (end_by i len) (here true i rest inside ∙ closed-doubled (get_or rest i 0) (drop (i + 1) rest) quote) ∙ end_by-twice i len (closed false (drop (i + 1) rest)) last

pub ended : (behind : Bool) (i len : ℕ) (rest : List ℕ) → i < length rest → behind ≡ true → len ≡ i + 1 → (get_or rest i 0 ≡ 0x27 → ⊥) → literal_end behind i len rest ≡ len
ended false i len rest inside state last other = absurd (cc)
ended true i len rest inside state last other = ap (end_by i len) (here true i rest inside ∙ closed-ended (get_or rest i 0) (drop (i + 1) rest) other) ∙ omega arith

over-empty : (behind : Bool) (i len : ℕ) → (behind ≡ true → len ≡ i + 1) → end_by i len (closed behind []) ≡ len
unfolding closed
over-empty false i len last = refl
over-empty true i len last = omega (arith, last refl)

pub over : (behind : Bool) (i len : ℕ) (rest : List ℕ) → length rest ≤ i → (behind ≡ true → len ≡ i + 1) → literal_end behind i len rest ≡ len
over behind i len rest past last = ap (λ none. end_by i len (closed behind none)) (drop_all i rest past) ∙ over-empty behind i len last

pub first : (rest : List ℕ) → literal_end false 0 0 rest ≡ unwrap_or (option_map (λ n. n + 1) (closed false rest)) 0
first rest = from_zero (closed false rest)
  where
    from_zero : (more : Option ℕ) → end_by 0 0 more ≡ unwrap_or (option_map (λ n. n + 1) more) 0
    from_zero None = refl
    from_zero (Some n) = omega arith
