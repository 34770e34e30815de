-- Octets that are cut one by one have the lines of the whole.
use Rattle.std.proofs.Common.{◌≡◌, ◌≢◌, ℕ, ◌+◌, Bool, true, false, eqb, List, [], ◌∷◌, ◌++◌, length, get_or, map, Option, Some, refl, sym, ap, subst, ◌∙◌, arith, inl, inr, length-append, append-nil, append_assoc}
use Rattle.std.proofs.lemmas.Bool.Decides.{nat_tests}
use Rattle.std.proofs.lemmas.Bool.{cases_Bool, ne_eqb}
use Rattle.std.proofs.lemmas.List.{map-append}
use Rattle.std.proofs.lemmas.List.Elements.{All-tail}
use Rattle.std.proofs.lemmas.List.Splits.{slice_split-cons_yes, slice_split-cons_no, slice_split_none}
use Rattle.std.specs.List.{slice_split, onto_first}
use Rattle.scql_model.specs.Lines.{is_line_feed, lines, without_open_end, taken_line}
use Rattle.line_input.specs.Answering.{LacksLineFeed}
use Rattle.line_input.specs.Cutting.{Cut, cut_from, nothing_cut, longer_by, is_empty_line, last_lines, last_piece, open_end, taken_lines}

abbrev pub cut_of : List (Option (List ℕ)) → Option (List ℕ) → Cut
cut_of whole begun = record { whole = whole; begun = begun }

pub longer_by-taken_line : (line : List ℕ) (octet : ℕ) → longer_by octet (taken_line line) ≡ taken_line (line ++ octet ∷ [])
longer_by-taken_line line octet =
    let longer : length (line ++ octet ∷ []) ≡ length line + 1 = length-append line (octet ∷ []) in
    grind (arith, nat_tests)

-- a line that has begun and has no octet is empty
pub is_empty_line-taken_line : (line : List ℕ) → is_empty_line (taken_line line) ≡ eqb (length line) 0
is_empty_line-taken_line line = grind (arith, nat_tests)

-- a line before the first piece
abbrev with_front : List ℕ → List (List ℕ) → List (List ℕ)
with_front line [] = line ∷ []
with_front line (piece ∷ pieces) = (line ++ piece) ∷ pieces

with_front-onto_first : (line : List ℕ) (octet : ℕ) (pieces : List (List ℕ)) → with_front line (onto_first octet pieces) ≡ with_front (line ++ octet ∷ []) pieces
with_front-onto_first line octet [] = refl
with_front-onto_first line octet (piece ∷ pieces) = ap (λ (x : List ℕ). x ∷ pieces) (sym (append_assoc line (octet ∷ []) piece))

-- there is a first piece
split_some : (octets : List ℕ) → (piece : List ℕ) × (pieces : List (List ℕ)) × (slice_split is_line_feed octets ≡ piece ∷ pieces)
split_some [] = ([], [], refl)
split_some (octet ∷ octets) =
    elim (cases_Bool (is_line_feed octet)) [
      | inl t ↦ ([], slice_split is_line_feed octets, slice_split-cons_yes is_line_feed octet octets t)
      | inr e ↦ let s = split_some octets in (octet ∷ s.0, s.1, slice_split-cons_no is_line_feed octet octets e ∙ ap (onto_first octet) s.2)
    ]

-- what is cut behind some lines, where octets have these pieces: all but the last are whole
abbrev cut_as : List (Option (List ℕ)) → List (List ℕ) → Cut
cut_as whole pieces = cut_of (whole ++ map taken_line (without_open_end false pieces)) (taken_line (last_piece pieces))

-- one octet more
cut-line_feed : (octet : ℕ) (octets : List ℕ) (whole : List (Option (List ℕ))) (begun : Option (List ℕ)) → is_line_feed octet ≡ true → cut_from (cut_of whole begun) (octet ∷ octets) ≡ cut_from (cut_of (whole ++ begun ∷ []) (Some [])) octets
cut-line_feed octet octets whole begun is = rw is refl

cut-other : (octet : ℕ) (octets : List ℕ) (whole : List (Option (List ℕ))) (begun : Option (List ℕ)) → is_line_feed octet ≡ false → cut_from (cut_of whole begun) (octet ∷ octets) ≡ cut_from (cut_of whole (longer_by octet begun)) octets
cut-other octet octets whole begun is = rw is refl

cut-pieces : (octets : List ℕ) (whole : List (Option (List ℕ))) (line : List ℕ) → cut_from (cut_of whole (taken_line line)) octets ≡ cut_as whole (with_front line (slice_split is_line_feed octets))
cut-pieces [] whole line =
    ap (λ (w : List (Option (List ℕ))). cut_of w (taken_line line)) (sym (append-nil whole)) ∙ ap (λ (l : List ℕ). cut_of (whole ++ []) (taken_line l)) (sym (append-nil line))
cut-pieces (octet ∷ octets) whole line =
    elim (cases_Bool (is_line_feed octet)) [
      | inl t ↦
          let s = split_some octets in
          let longer : List (Option (List ℕ)) = whole ++ taken_line line ∷ [] in
          let pieces : with_front line (slice_split is_line_feed (octet ∷ octets)) ≡ line ∷ s.0 ∷ s.1 =
          ap (with_front line) (slice_split-cons_yes is_line_feed octet octets t) ∙ (ap (λ (x : List ℕ). x ∷ slice_split is_line_feed octets) (append-nil line) ∙ ap (λ (x : List (List ℕ)). line ∷ x) s.2) in
          cut-line_feed octet octets whole (taken_line line) t
          ∙ (cut-pieces octets longer []
          ∙ (ap (λ (x : List (List ℕ)). cut_as longer (with_front [] x)) s.2
          ∙ (ap (λ (w : List (Option (List ℕ))). cut_of w (taken_line (last_piece (s.0 ∷ s.1)))) (append_assoc whole (taken_line line ∷ []) (map taken_line (without_open_end false (s.0 ∷ s.1))))
          ∙ ap (cut_as whole) (sym pieces))))
      | inr e ↦
          let pieces : with_front line (slice_split is_line_feed (octet ∷ octets)) ≡ with_front (line ++ octet ∷ []) (slice_split is_line_feed octets) =
          ap (with_front line) (slice_split-cons_no is_line_feed octet octets e) ∙ with_front-onto_first line octet (slice_split is_line_feed octets) in
          cut-other octet octets whole (taken_line line) e
          ∙ (ap (λ (l : Option (List ℕ)). cut_from (cut_of whole l) octets) (longer_by-taken_line line octet)
          ∙ (cut-pieces octets whole (line ++ octet ∷ []) ∙ ap (cut_as whole) (sym pieces)))
    ]

-- From the start on, octet by octet the lines are cut that the octets have.
pub cut-lines : (octets : List ℕ) → cut_from nothing_cut octets ≡ cut_of (taken_lines octets false) (taken_line (open_end octets))
cut-lines octets =
    let s = split_some octets in
    cut-pieces octets [] [] ∙ ap (cut_as []) (ap (with_front []) s.2 ∙ sym s.2)

-- octets in two parts
pub cut_from-append : (xs ys : List ℕ) (cut : Cut) → cut_from cut (xs ++ ys) ≡ cut_from (cut_from cut xs) ys
cut_from-append [] ys cut = refl
cut_from-append (x ∷ xs) ys cut = cut_from-append xs ys (cut_from cut (x ∷ []))

-- octets without a line feed go behind the line that has begun
pub cut-others : (octets line : List ℕ) (whole : List (Option (List ℕ))) → LacksLineFeed octets → cut_from (cut_of whole (taken_line line)) octets ≡ cut_of whole (taken_line (line ++ octets))
cut-others [] line whole lacks = ap (λ (l : List ℕ). cut_of whole (taken_line l)) (sym (append-nil line))
cut-others (octet ∷ octets) line whole lacks =
    cut-other octet octets whole (taken_line line) (ne_eqb octet 10 (lacks 0 0 (omega arith)))
    ∙ (ap (λ (l : Option (List ℕ)). cut_from (cut_of whole l) octets) (longer_by-taken_line line octet)
    ∙ (cut-others octets (line ++ octet ∷ []) whole (All-tail (λ (other : ℕ). other ≢ 10) octet octets lacks)
    ∙ ap (λ (l : List ℕ). cut_of whole (taken_line l)) (append_assoc line (octet ∷ []) octets)))

-- where the input has ended, what stands behind the last line feed is a line too, unless it is empty
without_open_end-closed : (pieces : List (List ℕ)) → eqb (length (last_piece pieces)) 0 ≡ true → without_open_end true pieces ≡ without_open_end false pieces
without_open_end-closed [] is = refl
without_open_end-closed (piece ∷ []) is = rw is refl
without_open_end-closed (piece ∷ other ∷ pieces) is = ap (λ (x : List (List ℕ)). piece ∷ x) (without_open_end-closed (other ∷ pieces) is)

without_open_end-open : (pieces : List (List ℕ)) → eqb (length (last_piece pieces)) 0 ≡ false → without_open_end true pieces ≡ without_open_end false pieces ++ last_piece pieces ∷ []
without_open_end-open [] is = absurd cc
without_open_end-open (piece ∷ []) is = rw is refl
without_open_end-open (piece ∷ other ∷ pieces) is = ap (λ (x : List (List ℕ)). piece ∷ x) (without_open_end-open (other ∷ pieces) is)

pub lines-open : (octets : List ℕ) → is_empty_line (taken_line (open_end octets)) ≡ false → lines octets true ≡ lines octets false ++ open_end octets ∷ []
lines-open octets is = without_open_end-open (slice_split is_line_feed octets) (sym (is_empty_line-taken_line (open_end octets)) ∙ is)

pub lines-closed : (octets : List ℕ) → is_empty_line (taken_line (open_end octets)) ≡ true → lines octets true ≡ lines octets false
lines-closed octets is = without_open_end-closed (slice_split is_line_feed octets) (sym (is_empty_line-taken_line (open_end octets)) ∙ is)

-- the lines of an input that has ended
pub taken_lines-last : (octets : List ℕ) → taken_lines octets false ++ last_lines (taken_line (open_end octets)) ≡ taken_lines octets true
taken_lines-last octets =
    elim (cases_Bool (is_empty_line (taken_line (open_end octets)))) [
      | inl t ↦ rw t (append-nil (taken_lines octets false) ∙ ap (map taken_line) (sym (lines-closed octets t)))
      | inr e ↦ rw e (sym (map-append taken_line (lines octets false) (open_end octets ∷ [])) ∙ ap (map taken_line) (sym (lines-open octets e)))
    ]

-- a line feed ends a line, and what follows begins anew
slice_split-line_feed : (octets : List ℕ) (octet : ℕ) (rest : List ℕ) → is_line_feed octet ≡ true
    → slice_split is_line_feed (octets ++ octet ∷ rest) ≡ slice_split is_line_feed octets ++ slice_split is_line_feed rest
slice_split-line_feed [] octet rest is = slice_split-cons_yes is_line_feed octet rest is
slice_split-line_feed (first ∷ octets) octet rest is =
    elim (cases_Bool (is_line_feed first)) [
      | inl t ↦ slice_split-cons_yes is_line_feed first (octets ++ octet ∷ rest) t
          ∙ (ap (λ (x : List (List ℕ)). [] ∷ x) (slice_split-line_feed octets octet rest is)
          ∙ ap (λ (x : List (List ℕ)). x ++ slice_split is_line_feed rest) (sym (slice_split-cons_yes is_line_feed first octets t)))
      | inr e ↦
          let s = split_some octets in
          slice_split-cons_no is_line_feed first (octets ++ octet ∷ rest) e
          ∙ (ap (onto_first first) (slice_split-line_feed octets octet rest is ∙ ap (λ (x : List (List ℕ)). x ++ slice_split is_line_feed rest) s.2)
          ∙ ap (λ (x : List (List ℕ)). x ++ slice_split is_line_feed rest) (sym (slice_split-cons_no is_line_feed first octets e ∙ ap (onto_first first) s.2)))
    ]

without_open_end-append : (ended : Bool) (first : List ℕ) (pieces : List (List ℕ)) (piece : List ℕ) (others : List (List ℕ))
    → without_open_end ended ((first ∷ pieces) ++ piece ∷ others) ≡ without_open_end false (first ∷ pieces) ++ last_piece (first ∷ pieces) ∷ without_open_end ended (piece ∷ others)
without_open_end-append ended first [] piece others = refl
without_open_end-append ended first (second ∷ pieces) piece others = ap (λ (x : List (List ℕ)). first ∷ x) (without_open_end-append ended second pieces piece others)

pub lines-line_feed : (octets rest : List ℕ) (ended : Bool) → lines (octets ++ 10 ∷ rest) ended ≡ lines octets false ++ open_end octets ∷ lines rest ended
lines-line_feed octets rest ended =
    let s = split_some octets in
    let t = split_some rest in
    ap (without_open_end ended) (slice_split-line_feed octets 10 rest refl)
    ∙ subst (λ (ps : List (List ℕ)). without_open_end ended (ps ++ slice_split is_line_feed rest) ≡ without_open_end false ps ++ last_piece ps ∷ lines rest ended) (sym s.2)
    (subst (λ (qs : List (List ℕ)). without_open_end ended ((s.0 ∷ s.1) ++ qs) ≡ without_open_end false (s.0 ∷ s.1) ++ last_piece (s.0 ∷ s.1) ∷ without_open_end ended qs) (sym t.2)
    (without_open_end-append ended s.0 s.1 t.0 t.1))

-- The first line of octets that have ended.

slice_split-line : (octets : List ℕ) → LacksLineFeed octets → slice_split is_line_feed octets ≡ octets ∷ []
slice_split-line octets lacks = slice_split_none is_line_feed octets (λ place default within. ne_eqb (get_or octets place default) 10 (lacks place default within))

-- a line feed ends it
pub lines-first : (octets rest : List ℕ) → LacksLineFeed octets → lines (octets ++ 10 ∷ rest) true ≡ octets ∷ lines rest true
lines-first octets rest lacks =
    lines-line_feed octets rest true
    ∙ ap (λ (pieces : List (List ℕ)). without_open_end false pieces ++ last_piece pieces ∷ lines rest true) (slice_split-line octets lacks)

-- or nothing does, and it is the last one
pub lines-last : (octets : List ℕ) → LacksLineFeed octets → eqb (length octets) 0 ≡ false → lines octets true ≡ octets ∷ []
lines-last octets lacks some = ap (without_open_end true) (slice_split-line octets lacks) ∙ rw some refl
