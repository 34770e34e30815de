-- What was taken of a source so far, and how its lines came to an end.
use Rattle.std.proofs.Common.{◌≡◌, ℕ, ◌+◌, ◌-◌, ◌<◌, ◌≤◌, false, List, [], ◌∷◌, ◌++◌, length, take, drop, Option, Some, refl, sym, ap, subst, ◌∙◌, inl, inr, arith, append-nil, append_assoc, length-append, length-take-le, length-drop, take-append-drop}
use Rattle.std.proofs.lemmas.List.{take-append-le}
use Rattle.std.proofs.lemmas.Bool.{eqb-false}
use Rattle.eeprom.specs.Chip.{Becomes}
use Rattle.eeprom.specs.Input.{TakesPiece}
use Rattle.scql_model.specs.Lines.{taken_line}
use Rattle.line_input.specs.declared.input.InputEnd.TheVariants.{Ended, ReadFault, TooLong, Stopped}
use Rattle.line_input.specs.Answering.{Feeds, Halts}
use Rattle.line_input.specs.Cutting.{is_empty_line, last_lines, open_end, taken_lines}
use Rattle.line_input.specs.Reading.{IsRead, longest_input}
use Rattle.line_input.proofs.CutLines.{is_empty_line-taken_line, taken_lines-last}
use Rattle.line_input.proofs.Feeding.{Feeds-lines, Feeds-nothing, Feeds-then}

-- the first octets of a piece, and the others
take-part : (k count : ℕ) (piece : List ℕ) → k ≤ count → count ≤ length piece → take count piece ≡ take k piece ++ drop k (take count piece)
take-part k count piece fits within =
    let short : k ≤ length (take count piece) = omega (arith, length-take-le count piece within, fits) in
    sym (take-append-drop k (take count piece))
    ∙ ap (λ (x : List ℕ). x ++ drop k (take count piece)) (sym (take-append-le k (take count piece) (drop count piece) short) ∙ ap (take k) (take-append-drop count piece))

module _ {A E : Type 0} (answers : A → List (Option (List ℕ)) → A → Type 0) (stops : A → Option (List ℕ) → E → A → Type 0) where
  -- what was taken so far, so that so many octets may still come
  pub record HasTaken (room : ℕ) (old mid : A) (line : Option (List ℕ)) (start now : Option (List ℕ)) : Type 0 where
    pub octets : List ℕ
    pub feeds : Feeds answers octets old (Some []) mid line
    pub count : length octets + room ≡ longest_input
    pub source : Becomes (λ (input left : List ℕ). input ≡ octets ++ left) start now

  -- before the first read
  pub HasTaken-nothing : (a : A) (start : Option (List ℕ)) → answers a [] a → HasTaken longest_input a a (Some []) start start
  HasTaken-nothing a start none = record { octets = []; feeds = Feeds-nothing answers a (Some []) none; count = refl; source = λ left told. (left, told, refl) }

  -- the source failed
  pub read-fault : (room : ℕ) (old mid : A) (line : Option (List ℕ)) (start before now : Option (List ℕ)) → HasTaken room old mid line start before → now ≡ before → IsRead answers stops ReadFault old mid start now
  read-fault room old mid line start before now so_far same =
      (so_far.octets, (Feeds-lines answers so_far.octets old mid line so_far.feeds).0, omega (arith, so_far.count), subst (Becomes (λ (input left : List ℕ). input ≡ so_far.octets ++ left) start) (sym same) so_far.source)

  -- nothing was left
  taken_all : (octets piece : List ℕ) (start before now : Option (List ℕ)) → Becomes (λ (input left : List ℕ). input ≡ octets ++ left) start before → TakesPiece 0 piece before now
      → Becomes (λ (input left : List ℕ). (input ≡ octets) × (left ≡ [])) start now
  taken_all octets piece start before now so_far takes = λ left told.
      let last = takes.octets left told in
      let first = so_far last.0 last.1 in
      let none : last.0 ≡ [] = last.2.1 refl in
      (first.0, first.1, (first.2 ∙ (ap (λ (x : List ℕ). octets ++ x) none ∙ append-nil octets), sym last.2.0 ∙ none))

  -- a stop in the last line
  pub read-stopped_last : (room : ℕ) (piece : List ℕ) (old mid : A) (line : Option (List ℕ)) (stop : E) (new : A) (start before now : Option (List ℕ)) → HasTaken room old mid line start before → TakesPiece 0 piece before now
      → is_empty_line line ≡ false → stops mid line stop new → IsRead answers stops (Stopped stop) old new start now
  read-stopped_last room piece old mid line stop new start before now so_far takes some stopped =
      let octets : List ℕ = so_far.octets in
      let cut = Feeds-lines answers octets old mid line so_far.feeds in
      let other : length (open_end octets) ≡ 0 → ⊥ = eqb-false (length (open_end octets)) 0 (sym (is_empty_line-taken_line (open_end octets)) ∙ (ap is_empty_line (sym cut.1) ∙ some)) in (
        octets,
        record { mid = mid; answered = cut.0; stopped = subst (λ (l : Option (List ℕ)). stops mid l stop new) cut.1 stopped },
        omega (arith, so_far.count),
        λ left told. let all = taken_all octets piece start before now so_far.source takes left told in (all.0, all.1, inl (all.2.0, all.2.1, omega (arith, other))),
      )

  module _ (then : (a b c : A) (first second : List (Option (List ℕ))) → answers a first b → answers b second c → answers a (first ++ second) c) where
    -- the last line was answered
    pub read-ended : (room : ℕ) (piece : List ℕ) (old mid : A) (line : Option (List ℕ)) (new : A) (start before now : Option (List ℕ)) → HasTaken room old mid line start before → TakesPiece 0 piece before now
        → answers mid (last_lines line) new → IsRead answers stops Ended old new start now
    read-ended room piece old mid line new start before now so_far takes answered =
        let octets : List ℕ = so_far.octets in
        let cut = Feeds-lines answers octets old mid line so_far.feeds in
        let last : answers mid (last_lines (taken_line (open_end octets))) new = subst (λ (l : Option (List ℕ)). answers mid (last_lines l) new) cut.1 answered in (
          octets,
          subst (λ (lines : List (Option (List ℕ))). answers old lines new) (taken_lines-last octets) (then old mid new (taken_lines octets false) (last_lines (taken_line (open_end octets))) cut.0 last),
          omega (arith, so_far.count),
          taken_all octets piece start before now so_far.source takes,
        )

    -- a piece more
    pub HasTaken-more : (room count : ℕ) (piece : List ℕ) (old mid new : A) (line left : Option (List ℕ)) (start before now : Option (List ℕ)) → count ≤ length piece → count ≤ room
        → HasTaken room old mid line start before → TakesPiece count piece before now → Feeds answers (take count piece) mid line new left → HasTaken (room - count) old new left start now
    HasTaken-more room count piece old mid new line left start before now within fits so_far takes feeds = record {
      octets = so_far.octets ++ take count piece;
      feeds = Feeds-then answers then so_far.octets (take count piece) old mid new (Some []) line left so_far.feeds feeds;
      count = omega (arith, length-append so_far.octets (take count piece), length-take-le count piece within, so_far.count, fits);
      source = λ rest told.
          let last = takes.octets rest told in
          let first = so_far.source last.0 last.1 in
          (first.0, first.1, first.2 ∙ (ap (λ (x : List ℕ). so_far.octets ++ x) last.2.0 ∙ sym (append_assoc so_far.octets (take count piece) rest)));
    }

    -- more came than is taken
    pub read-too_long : (room count : ℕ) (piece : List ℕ) (old mid new : A) (line left : Option (List ℕ)) (start before now : Option (List ℕ)) → room < count → count ≤ length piece
        → HasTaken room old mid line start before → TakesPiece count piece before now → Feeds answers (take room piece) mid line new left → IsRead answers stops TooLong old new start now
    read-too_long room count piece old mid new line left start before now over within so_far takes feeds =
        let octets : List ℕ = so_far.octets in
        let whole : List ℕ = octets ++ take room piece in
        let more : List ℕ = drop room (take count piece) in
        let cut = Feeds-lines answers whole old new left (Feeds-then answers then octets (take room piece) old mid new (Some []) line left so_far.feeds feeds) in (
          whole,
          cut.0,
          omega (arith, length-append octets (take room piece), length-take-le room piece (omega (arith, over, within)), so_far.count),
          λ rest told.
              let last = takes.octets rest told in
              let first = so_far.source last.0 last.1 in (
                first.0,
                first.1,
                (
                  more,
                  first.2 ∙ (ap (λ (x : List ℕ). octets ++ x) (last.2.0 ∙ (ap (λ (x : List ℕ). x ++ rest) (take-part room count piece (omega (arith, over)) within) ∙ append_assoc (take room piece) more rest))
                      ∙ sym (append_assoc octets (take room piece) (more ++ rest))),
                  omega (arith, length-drop room (take count piece), length-take-le count piece within, over),
                ),
              ),
        )

    -- a stop among the octets of a piece, of which so many were looked at
    pub read-stopped : (room count k : ℕ) (piece : List ℕ) (old mid : A) (line : Option (List ℕ)) (stop : E) (new : A) (start before now : Option (List ℕ)) → k ≤ count → k ≤ room → count ≤ length piece
        → HasTaken room old mid line start before → TakesPiece count piece before now → Halts answers stops (take k piece) mid line stop new → IsRead answers stops (Stopped stop) old new start now
    read-stopped room count k piece old mid line stop new start before now fits short within so_far takes halts =
        let octets : List ℕ = so_far.octets in
        let whole : List ℕ = octets ++ halts.first in
        let more : List ℕ = drop k (take count piece) in
        let cut = Feeds-lines answers whole old halts.mid halts.line (Feeds-then answers then octets halts.first old mid halts.mid (Some []) line halts.line so_far.feeds halts.feeds) in
        let size : length (take k piece) ≡ length halts.first + length (10 ∷ halts.rest) = ap length halts.split ∙ length-append halts.first (10 ∷ halts.rest) in (
          whole,
          record { mid = halts.mid; answered = cut.0; stopped = subst (λ (l : Option (List ℕ)). stops halts.mid l stop new) cut.1 halts.stopped },
          omega (arith, length-append octets halts.first, size, length-take-le k piece (omega (arith, fits, within)), so_far.count, short),
          λ left told.
              let last = takes.octets left told in
              let first = so_far.source last.0 last.1 in
              let piece_is : take count piece ++ left ≡ halts.first ++ (10 ∷ ((halts.rest ++ more) ++ left)) =
              ap (λ (x : List ℕ). x ++ left) (take-part k count piece fits within ∙ ap (λ (x : List ℕ). x ++ more) halts.split)
              ∙ (append_assoc (halts.first ++ 10 ∷ halts.rest) more left
              ∙ (append_assoc halts.first (10 ∷ halts.rest) (more ++ left)
              ∙ ap (λ (x : List ℕ). halts.first ++ (10 ∷ x)) (sym (append_assoc halts.rest more left)))) in (
                first.0,
                first.1,
                inr (
                  halts.rest ++ more,
                  first.2 ∙ (ap (λ (x : List ℕ). octets ++ x) (last.2.0 ∙ piece_is) ∙ sym (append_assoc octets halts.first (10 ∷ ((halts.rest ++ more) ++ left)))),
                ),
              ),
        )
