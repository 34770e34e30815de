-- What a literal's inner octets stand for, octet by octet.
use Rattle.std.proofs.Common.{◌≡◌, ℕ, ◌+◌, ◌<◌, ◌≤◌, ◌==◌, nat_le, Bool, true, false, not, List, [], ◌∷◌, ◌++◌, length, drop, get_or, Option, Some, None, option_map, refl, sym, ◌∙◌, ap, arith, drop-cons, add-one, append_assoc, append-nil, length-append}
use mathlib.Core.Bool.{beq}
use Rattle.std.specs.Prelude.{option_and_then}
use Rattle.std.proofs.lemmas.Bool.{eq-eqb, lt-leb}
use Rattle.std.proofs.lemmas.List.{drop_all}
use Rattle.scql_base.specs.Octets.{within}
use Rattle.script.specs.Meanings.{undoubled, with_octet}

-- the text, of which so much is read and this is to come
abbrev pub told : List ℕ → Option (List ℕ) → Option (List ℕ)
told text more = option_and_then (within 200) (option_map (λ rest. text ++ rest) more)

told-octet : (text : List ℕ) (octet : ℕ) (more : Option (List ℕ)) → told text (with_octet octet more) ≡ told (text ++ octet ∷ []) more
told-octet text octet None = refl
told-octet text octet (Some rest) = ap (within 200) (sym (append_assoc text (octet ∷ []) rest))

here : (behind : Bool) (i : ℕ) (inner : List ℕ) → i < length inner → undoubled behind (drop i inner) ≡ undoubled behind (get_or inner i 0 ∷ drop (i + 1) inner)
here behind i inner inside = ap (undoubled behind) (rw (add-one, drop-cons inner i 0) refl)

gt-leb-append : (text rest : List ℕ) → 200 < length text → nat_le (length (text ++ rest)) 200 ≡ false
gt-leb-append text rest long = lt-leb (length (text ++ rest)) 200 (omega (arith, length-append text rest))

step-opens : (behind : Bool) (octet : ℕ) (rest : List ℕ) → behind ≡ false → octet ≡ 39 → undoubled behind (octet ∷ rest) ≡ undoubled true rest
unfolding undoubled
step-opens true octet rest state quote = absurd (cc)
step-opens false octet rest state quote = rw (eq-eqb octet 39 quote) refl

step-lone : (behind : Bool) (octet : ℕ) (rest : List ℕ) → behind ≡ true → (octet == 39) ≡ false → undoubled behind (octet ∷ rest) ≡ None
unfolding undoubled
step-lone false octet rest state other = absurd (cc)
step-lone true octet rest state other = rw other refl

step-kept : (behind quote : Bool) (octet : ℕ) (rest : List ℕ) → behind ≡ quote → (octet == 39) ≡ quote → undoubled behind (octet ∷ rest) ≡ with_octet octet (undoubled false rest)
unfolding undoubled
step-kept false true octet rest state is = absurd (cc)
step-kept true false octet rest state is = absurd (cc)
step-kept false false octet rest state is = rw is refl
step-kept true true octet rest state is = rw is refl

pub kept : (text : List ℕ) (behind quote : Bool) (i : ℕ) (inner : List ℕ) → i < length inner → behind ≡ quote → (get_or inner i 0 == 39) ≡ quote
    → told text (undoubled behind (drop i inner)) ≡ told (text ++ get_or inner i 0 ∷ []) (undoubled false (drop (i + 1) inner))
kept text behind quote i inner inside state is =
    ap (told text) (here behind i inner inside ∙ step-kept behind quote (get_or inner i 0) (drop (i + 1) inner) state is) ∙ told-octet text (get_or inner i 0) (undoubled false (drop (i + 1) inner))

pub opened : (text : List ℕ) (behind : Bool) (i : ℕ) (inner : List ℕ) → i < length inner → behind ≡ false → get_or inner i 0 ≡ 39
    → told text (undoubled behind (drop i inner)) ≡ told text (undoubled true (drop (i + 1) inner))
opened text behind i inner inside state quote = ap (told text) (here behind i inner inside ∙ step-opens behind (get_or inner i 0) (drop (i + 1) inner) state quote)

pub alone : (text : List ℕ) (behind : Bool) (i : ℕ) (inner : List ℕ) → i < length inner → behind ≡ true → (get_or inner i 0 == 39) ≡ false
    → told text (undoubled behind (drop i inner)) ≡ None
alone text behind i inner inside state other = ap (told text) (here behind i inner inside ∙ step-lone behind (get_or inner i 0) (drop (i + 1) inner) state other)

-- a text of 200 octets takes none more
pub told-full : (text : List ℕ) (more : Option (List ℕ)) → 200 < length text → told text more ≡ None
told-full text None long = refl
told-full text (Some rest) long = rw (gt-leb-append text rest long) refl

over-none : (text : List ℕ) → told text (undoubled false []) ≡ within 200 text
unfolding undoubled
over-none text = ap (within 200) (append-nil text)

over-none-open : (text : List ℕ) → told text (undoubled true []) ≡ None
unfolding undoubled
over-none-open text = refl

pub over : (text : List ℕ) (i : ℕ) (inner : List ℕ) → length inner ≤ i → told text (undoubled false (drop i inner)) ≡ within 200 text
over text i inner past = ap (λ none. told text (undoubled false none)) (drop_all i inner past) ∙ over-none text

pub over-open : (text : List ℕ) (i : ℕ) (inner : List ℕ) → length inner ≤ i → told text (undoubled true (drop i inner)) ≡ None
over-open text i inner past = ap (λ none. told text (undoubled true none)) (drop_all i inner past) ∙ over-none-open text

-- a quote and the state behind one
pub opens-state : (behind quote : Bool) → not (beq behind quote) ≡ true → quote ≡ true → behind ≡ false
opens-state true true other is = absurd (cc)
opens-state true false other is = absurd (cc)
opens-state false quote other is = refl

pub alone-state : (behind quote : Bool) → not (beq behind quote) ≡ true → quote ≡ false → behind ≡ true
alone-state false true other is = absurd (cc)
alone-state false false other is = absurd (cc)
alone-state true quote other is = refl

pub kept-state : (behind quote : Bool) → not (beq behind quote) ≡ false → behind ≡ quote
kept-state true true same = refl
kept-state false false same = refl
kept-state true false same = absurd (cc)
kept-state false true same = absurd (cc)
