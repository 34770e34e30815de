-- Octets split into strings in one way, string by string.
use Rattle.std.proofs.Common.{◌≡◌, ℕ, zero, suc, ◌+◌, ◌<◌, ◌≤◌, nat_lt, List, [], ◌∷◌, ◌++◌, length, take, drop, Option, Some, None, refl, sym, ◌∙◌, ap, arith, ◌-◌, ◌==◌, if◌then◌else◌, get_or, Bool, true, false, slice_get, add-one, option_map, unwrap_or, ◌≢◌, append-nil}
use Rattle.std.proofs.lemmas.Bool.{false≢true, eqb-true, ltb-false, ltb-true}
use Rattle.std.proofs.lemmas.List.{length-take-le, take-append-drop, length-append, length-drop}
use Rattle.std.proofs.lemmas.Option.{none-some, same_Some}
use Rattle.std.proofs.Math.Seq.{take-append_seam, drop-append_seam, take-length}
use Rattle.std.specs.List.{flat_map}
use Rattle.scql_base.specs.Strings.{spelled, AreParams, Pieces, begun, with_octet, strings_in, pieces_of, params_of, first_of, with_string}

-- a string's rest before the strings behind it
abbrev piece : List ℕ → Option (List (List ℕ)) → Pieces
piece string None = None
piece string (Some strings) = Some (string, strings)

begun_again : (pieces : Pieces) → begun pieces ≡ piece [] (strings_in (begun pieces))
begun_again None = refl
begun_again (Some pieces) = refl

with_octet-piece : (octet : ℕ) (string : List ℕ) (strings : Option (List (List ℕ))) → with_octet octet (piece string strings) ≡ piece (octet ∷ string) strings
with_octet-piece octet string None = refl
with_octet-piece octet string (Some strings) = refl

begun-piece : (string : List ℕ) (strings : Option (List (List ℕ))) → strings_in (begun (piece string strings)) ≡ with_string string strings
begun-piece string None = refl
begun-piece string (Some strings) = refl

pieces_of-short : (n : ℕ) (octets : List ℕ) → length octets < n → pieces_of n octets ≡ None
unfolding pieces_of
pieces_of-short zero octets short = absurd (omega arith)
pieces_of-short (suc n) [] short = refl
pieces_of-short (suc n) (octet ∷ octets) short = ap (with_octet octet) (pieces_of-short n octets (omega arith))

pieces_of-zero : (octets : List ℕ) → pieces_of 0 octets ≡ piece [] (params_of octets)
unfolding pieces_of params_of
pieces_of-zero [] = refl
pieces_of-zero (octet ∷ octets) = begun_again (pieces_of octet octets)

pieces_of-whole : (n : ℕ) (octets : List ℕ) → n ≤ length octets → pieces_of n octets ≡ piece (take n octets) (params_of (drop n octets))
unfolding pieces_of
pieces_of-whole zero octets fits = pieces_of-zero octets
pieces_of-whole (suc n) [] fits = absurd (omega arith)
pieces_of-whole (suc n) (octet ∷ octets) fits =
    ap (with_octet octet) (pieces_of-whole n octets (omega arith)) ∙ with_octet-piece octet (take n octets) (params_of (drop n octets))

pub params_of-empty : params_of [] ≡ Some []
unfolding pieces_of params_of
params_of-empty = refl

pub params_of-short : (len : ℕ) (octets : List ℕ) → length octets < len → params_of (len ∷ octets) ≡ None
unfolding pieces_of params_of
params_of-short len octets short = ap (λ p. strings_in (begun p)) (pieces_of-short len octets short)

pub params_of-whole : (len : ℕ) (octets : List ℕ) → len ≤ length octets → params_of (len ∷ octets) ≡ with_string (take len octets) (params_of (drop len octets))
unfolding pieces_of params_of
params_of-whole len octets fits =
    ap (λ p. strings_in (begun p)) (pieces_of-whole len octets fits) ∙ begun-piece (take len octets) (params_of (drop len octets))

-- a string spelled in front stands in front
pub params_of-spelled : (string octets : List ℕ) → params_of (spelled string ++ octets) ≡ with_string string (params_of octets)
params_of-spelled string octets =
    let whole : params_of (length string ∷ (string ++ octets)) ≡ with_string (take (length string) (string ++ octets)) (params_of (drop (length string) (string ++ octets)))
    = params_of-whole (length string) (string ++ octets) (omega (arith, length-append string octets)) in
    whole ∙ (ap (λ front. with_string front (params_of (drop (length string) (string ++ octets)))) (take-append_seam string octets)
    ∙ ap (λ back. with_string string (params_of back)) (drop-append_seam string octets))

pub params_of-one : (string : List ℕ) → params_of (spelled string) ≡ Some (string ∷ [])
params_of-one string = rw (← append-nil (spelled string)) (params_of-spelled string [] ∙ ap (with_string string) params_of-empty)

-- what strings spell splits into them
pub params_of-again : (strings : List (List ℕ)) → params_of (flat_map spelled strings) ≡ Some strings
params_of-again [] = params_of-empty
params_of-again (string ∷ strings) = params_of-spelled string (flat_map spelled strings) ∙ ap (with_string string) (params_of-again strings)

pub params_of-none : (octets : List ℕ) → length octets < 1 → params_of octets ≡ (if length octets == 0 then Some [] else None)
params_of-none [] short = params_of-empty
params_of-none (octet ∷ octets) short = absurd (omega arith)

pub params_of-split :
    (octets : List ℕ) (len : ℕ) (string rest : List ℕ) → 1 ≤ length octets → len ≡ get_or octets 0 0
    → len ≤ length (take (length octets - 1) (drop 1 octets)) → string ≡ take len (take (length octets - 1) (drop 1 octets))
    → rest ≡ drop len (take (length octets - 1) (drop 1 octets)) → params_of octets ≡ with_string string (params_of rest)
params_of-split [] len string rest some is fits front back = absurd (omega arith)
params_of-split (octet ∷ octets) len string rest some is fits front back =
    let size : length (octet ∷ octets) - 1 ≡ length octets = omega arith in
    let whole : take (length (octet ∷ octets) - 1) octets ≡ octets = rw size (take-length octets) in
    let fits' : len ≤ length octets = rw whole at fits in
    let front' : string ≡ take len octets = rw whole at front in
    let back' : rest ≡ drop len octets = rw whole at back in
    rw (front', back', ← is) (params_of-whole len octets fits')

pub params_of-cut :
    (octets : List ℕ) (len : ℕ) → 1 ≤ length octets → len ≡ get_or octets 0 0 → length (take (length octets - 1) (drop 1 octets)) < len
    → params_of octets ≡ (if length octets == 0 then Some [] else None)
params_of-cut [] len some is short = absurd (omega arith)
params_of-cut (octet ∷ octets) len some is short =
    let size : length (octet ∷ octets) - 1 ≡ length octets = omega arith in
    let whole : take (length (octet ∷ octets) - 1) octets ≡ octets = rw size (take-length octets) in
    let short' : length octets < len = rw whole at short in
    let none : params_of (octet ∷ octets) ≡ None = params_of-short octet octets (rw is at short') in
    grind arith

-- what a first string leaves of the strings
record Splits (len : ℕ) (octets : List ℕ) (strings : List (List ℕ)) : Type 0 where
  others : List (List ℕ)
  fits : len ≤ length octets
  whole : strings ≡ take len octets ∷ others
  rest : params_of (drop len octets) ≡ Some others

splits_behind : (len : ℕ) (octets : List ℕ) (strings : List (List ℕ)) (rest : Option (List (List ℕ))) → len ≤ length octets → params_of (drop len octets) ≡ rest → with_string (take len octets) rest ≡ Some strings → Splits len octets strings
splits_behind len octets strings None fits at same = absurd (cc)
splits_behind len octets strings (Some others) fits at same = record { others = others; fits = fits; whole = grind arith; rest = at }

splits_first : (len : ℕ) (octets : List ℕ) (strings : List (List ℕ)) (is_short : Bool) → nat_lt (length octets) len ≡ is_short → params_of (len ∷ octets) ≡ Some strings → Splits len octets strings
splits_first len octets strings true short split = absurd (let none = params_of-short len octets (ltb-true _ _ short) in cc)
splits_first len octets strings false fits split =
    splits_behind len octets strings (params_of (drop len octets)) (ltb-false _ _ fits) refl (sym (params_of-whole len octets (ltb-false _ _ fits)) ∙ split)

-- octets that split are what their strings spell
pub AreParams-from_params_of : (strings : List (List ℕ)) (octets : List ℕ) → params_of octets ≡ Some strings → AreParams octets strings
AreParams-from_params_of [] [] splits = refl
AreParams-from_params_of (string ∷ strings) [] splits = absurd (let none = params_of-empty in cc)
AreParams-from_params_of [] (len ∷ octets) splits = absurd (let s = splits_first len octets [] (nat_lt (length octets) len) refl splits in let w = s.whole in cc)
AreParams-from_params_of (string ∷ strings) (len ∷ octets) splits =
    let s = splits_first len octets (string ∷ strings) (nat_lt (length octets) len) refl splits in
    let w : string ∷ strings ≡ take len octets ∷ s.others = s.whole in
    let behind : params_of (drop len octets) ≡ Some strings = grind (arith, s.rest) in
    let again : drop len octets ≡ flat_map spelled strings = AreParams-from_params_of strings (drop len octets) behind in
    let size : length string ≡ len = grind (arith, length-take-le len octets s.fits) in
    grind (arith, take-append-drop len octets)

-- the strings of octets that are spelled are no others
pub params_of-from_AreParams : (octets : List ℕ) (strings : List (List ℕ)) → AreParams octets strings → params_of octets ≡ Some strings
params_of-from_AreParams octets strings are = rw are (params_of-again strings)

-- the string that stands first in a rest
pub first_here : (strings : List (List ℕ)) (n : ℕ) (string : List ℕ) (rest : Option (List (List ℕ))) → Some (drop n strings) ≡ with_string string rest → Some string ≡ slice_get strings n
first_here strings n string None at = absurd cc
first_here [] zero string (Some rest) at = absurd cc
first_here [] (suc n) string (Some rest) at = absurd cc
first_here (x ∷ strings) zero string (Some rest) at = grind arith
first_here (x ∷ strings) (suc n) string (Some rest) at = first_here strings n string (Some rest) at

behind : (strings : List (List ℕ)) (n : ℕ) (string : List ℕ) (rest : Option (List (List ℕ))) → Some (drop n strings) ≡ with_string string rest → rest ≡ Some (drop (suc n) strings)
behind strings n string None at = absurd cc
behind [] zero string (Some rest) at = absurd cc
behind [] (suc n) string (Some rest) at = absurd cc
behind (x ∷ strings) zero string (Some rest) at = grind arith
behind (x ∷ strings) (suc n) string (Some rest) at = behind strings n string (Some rest) at

pub first_behind : (strings : List (List ℕ)) (n : ℕ) (string : List ℕ) (rest : Option (List (List ℕ))) → Some (drop n strings) ≡ with_string string rest → rest ≡ Some (drop (n + 1) strings)
first_behind strings n string rest at = rw add-one (behind strings n string rest at)

-- where no string stands first, the strings are at an end
pub at_end : (strings : List (List ℕ)) (n : ℕ) (is_empty : Bool) → Some (drop n strings) ≡ (if is_empty then Some [] else None) → length strings ≤ n
at_end strings n false at = absurd cc
at_end strings n true at = let none : drop n strings ≡ [] = grind arith in let size : length (drop n strings) ≡ 0 = ap length none in omega (arith, length-drop n strings)

-- octets of which the number of strings is known split
pub splits_counted : (strings : Option (List (List ℕ))) (count : ℕ) → Some count ≡ option_map length strings → strings ≡ Some (unwrap_or strings [])
splits_counted None count counted = absurd cc
splits_counted (Some strings) count counted = refl

-- one string, and nothing behind it
pub params_of-last : (octets string after : List ℕ) → params_of octets ≡ with_string string (params_of after) → (length after == 0) ≡ true → params_of octets ≡ Some (string ∷ [])
params_of-last octets string [] is end = is ∙ ap (with_string string) params_of-empty
params_of-last octets string (octet ∷ after) is end = absurd (let none : length (octet ∷ after) ≡ 0 = eqb-true (length (octet ∷ after)) 0 end in omega (arith, none))

-- octets that have something behind their first string aren't one string
pub params_of-not_last : (octets string after other : List ℕ) → params_of octets ≡ with_string string (params_of after) → (length after == 0) ≡ false → params_of octets ≢ Some (other ∷ [])
params_of-not_last octets string after other is more = λ one. false≢true (sym more ∙ ap (λ (xs : List ℕ). length xs == 0) (go (params_of after) refl (sym is ∙ one)))
  where
    go : (strings : Option (List (List ℕ))) → params_of after ≡ strings → with_string string strings ≡ Some (other ∷ []) → after ≡ []
    go None at one = absurd (cc)
    go (Some []) at one = AreParams-from_params_of [] after at
    go (Some (x ∷ strings)) at one = absurd (let same : string ∷ x ∷ strings ≡ other ∷ [] = grind arith in cc)

-- there is one split
pub AreParams-one : (octets : List ℕ) (strings others : List (List ℕ)) → AreParams octets strings → AreParams octets others → strings ≡ others
AreParams-one octets strings others are are' =
    let same : Some strings ≡ Some others = sym (params_of-from_AreParams octets strings are) ∙ params_of-from_AreParams octets others are' in
    grind arith

-- the one string of a list of one
pub the_one : (strings : List (List ℕ)) (string : List ℕ) → length strings ≡ 1 → slice_get strings 0 ≡ Some string → strings ≡ string ∷ []
the_one [] string one at = absurd (omega arith)
the_one (first ∷ []) string one at = grind arith
the_one (first ∷ other ∷ others) string one at = absurd (omega arith)

-- the first string, its length and what is behind it are the octets
pub first_of-length : (octets string rest : List ℕ) → Some (string, rest) ≡ first_of octets → length octets ≡ length string + 1 + length rest
first_of-length [] string rest is = absurd (none-some _ (sym is))
first_of-length (len ∷ octets) string rest is = of (nat_lt (length octets) len) refl is
  where
    found : Bool → Option (List ℕ × List ℕ)
    found test = if test then None else Some (take len octets, drop len octets)

    of : (test : Bool) → nat_lt (length octets) len ≡ test → Some (string, rest) ≡ found test → length (len ∷ octets) ≡ length string + 1 + length rest
    of true at is = absurd (none-some _ (sym is))
    of false at is =
        let short : len ≤ length octets = omega (arith, ltb-false (length octets) len at) in
        let both = same_Some _ _ is in
        let front : string ≡ take len octets = ap (λ (x : List ℕ × List ℕ). x.0) both in
        let back : rest ≡ drop len octets = ap (λ (x : List ℕ × List ℕ). x.1) both in
        omega (arith, ap length front, ap length back, length-take-le len octets short, length-drop len octets)
