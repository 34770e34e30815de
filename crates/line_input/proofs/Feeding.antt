-- How an answerer goes on, octets after octets.
use Rattle.std.proofs.Common.{◌≡◌, ℕ, ◌+◌, ◌<◌, true, false, List, [], ◌∷◌, ◌++◌, length, take, drop, get_or, Option, Some, Result, Ok, Err, refl, sym, ap, subst, ◌∙◌, arith, append-nil, append_assoc, take-append-drop}
use Rattle.std.specs.Prelude.{OnOk, IfErr}
use Rattle.std.proofs.lemmas.Bool.{eqb-true}
use Rattle.std.proofs.lemmas.List.{drop_more}
use Rattle.scql_model.specs.Lines.{taken_line}
use Rattle.line_input.specs.Answering.{Feeds, Halts, LacksLineFeed}
use Rattle.line_input.specs.Cutting.{Cut, cut_from, is_empty_line, open_end, taken_lines}
use Rattle.line_input.proofs.CutLines.{cut_of, cut-lines, cut-others, cut_from-append, is_empty_line-taken_line}

-- a line without octets has just begun
pub empty-begun : (begun : List ℕ) → is_empty_line (taken_line begun) ≡ true → taken_line begun ≡ Some []
empty-begun [] is = refl
empty-begun (octet ∷ begun) is = absurd (omega (arith, eqb-true (length (octet ∷ begun)) 0 (sym (is_empty_line-taken_line (octet ∷ begun)) ∙ is)))

-- octets up to a line feed
pub cut_at : (octets : List ℕ) (end : ℕ) → end < length octets → get_or octets end 0 ≡ 10 → octets ≡ (take end octets ++ 10 ∷ []) ++ drop (end + 1) octets
cut_at octets end within found =
    sym (take-append-drop end octets)
    ∙ (ap (λ (rest : List ℕ). take end octets ++ rest) (drop_more octets end 0 within ∙ ap (λ (octet : ℕ). octet ∷ drop (end + 1) octets) found)
    ∙ sym (append_assoc (take end octets) (10 ∷ []) (drop (end + 1) octets)))

-- where an answerer answers so, and lines after others as all of them
module _ {A : Type 0} (answers : A → List (Option (List ℕ)) → A → Type 0) where
  pub Feeds-nothing : (a : A) (begun : Option (List ℕ)) → answers a [] a → Feeds answers [] a begun a begun
  Feeds-nothing a begun none = record { lines = []; answered = none; cut = λ whole. ap (λ (w : List (Option (List ℕ))). cut_of w begun) (sym (append-nil whole)) }

  -- octets without a line feed go behind the line that has begun
  pub Feeds-others : (a : A) (begun octets : List ℕ) → LacksLineFeed octets → answers a [] a → Feeds answers octets a (taken_line begun) a (taken_line (begun ++ octets))
  Feeds-others a begun octets lacks none = record {
    lines = [];
    answered = none;
    cut = λ whole. cut-others octets begun whole lacks ∙ ap (λ (w : List (Option (List ℕ))). cut_of w (taken_line (begun ++ octets))) (sym (append-nil whole));
  }

  -- they end the line, which is answered
  pub Feeds-ended : (old new : A) (begun octets : List ℕ) → LacksLineFeed octets → answers old (taken_line (begun ++ octets) ∷ []) new → Feeds answers (octets ++ 10 ∷ []) old (taken_line begun) new (Some [])
  Feeds-ended old new begun octets lacks answered = record {
    lines = taken_line (begun ++ octets) ∷ [];
    answered = answered;
    cut = λ whole. cut_from-append octets (10 ∷ []) (cut_of whole (taken_line begun)) ∙ ap (λ (cut : Cut). cut_from cut (10 ∷ [])) (cut-others octets begun whole lacks);
  }

  -- from the start on the lines are those of the octets
  pub Feeds-lines : (octets : List ℕ) (old new : A) (left : Option (List ℕ)) → Feeds answers octets old (Some []) new left → answers old (taken_lines octets false) new × (left ≡ taken_line (open_end octets))
  Feeds-lines octets old new left feeds =
      let same : cut_of feeds.lines left ≡ cut_of (taken_lines octets false) (taken_line (open_end octets)) = sym (feeds.cut []) ∙ cut-lines octets in
      (subst (λ (lines : List (Option (List ℕ))). answers old lines new) (ap (λ (cut : Cut). cut.whole) same) feeds.answered, ap (λ (cut : Cut). cut.begun) same)

  module _ (then : (a b c : A) (first second : List (Option (List ℕ))) → answers a first b → answers b second c → answers a (first ++ second) c) where
    pub Feeds-then : (xs ys : List ℕ) (a b c : A) (begun mid left : Option (List ℕ)) → Feeds answers xs a begun b mid → Feeds answers ys b mid c left → Feeds answers (xs ++ ys) a begun c left
    Feeds-then xs ys a b c begun mid left p q = record {
      lines = p.lines ++ q.lines;
      answered = then a b c p.lines q.lines p.answered q.answered;
      cut = λ whole. cut_from-append xs ys (cut_of whole begun)
          ∙ (ap (λ (cut : Cut). cut_from cut ys) (p.cut whole)
          ∙ (q.cut (whole ++ p.lines) ∙ ap (λ (w : List (Option (List ℕ))). cut_of w left) (append_assoc whole p.lines q.lines)));
    }

    -- a stop among octets is one among more of them
    pub Halts-within : {E : Type 0} (stops : A → Option (List ℕ) → E → A → Type 0) (xs ys zs : List ℕ) (a b : A) (begun mid : Option (List ℕ)) (stop : E) (new : A) → Feeds answers xs a begun b mid
        → Halts answers stops ys b mid stop new → Halts answers stops (xs ++ (ys ++ zs)) a begun stop new
    Halts-within stops xs ys zs a b begun mid stop new p h = record {
      first = xs ++ h.first;
      rest = h.rest ++ zs;
      split = ap (λ (x : List ℕ). xs ++ (x ++ zs)) h.split ∙ (ap (λ (x : List ℕ). xs ++ x) (append_assoc h.first (10 ∷ h.rest) zs) ∙ sym (append_assoc xs h.first (10 ∷ (h.rest ++ zs))));
      mid = h.mid;
      line = h.line;
      feeds = Feeds-then xs h.first a b h.mid begun mid h.line p h.feeds;
      stopped = h.stopped;
    }

  -- the line that these octets end is the one in which the answerer stopped
  pub Halts-ended : {E : Type 0} (stops : A → Option (List ℕ) → E → A → Type 0) (old : A) (begun octets : List ℕ) (stop : E) (new : A) → LacksLineFeed octets → answers old [] old
      → stops old (taken_line (begun ++ octets)) stop new → Halts answers stops (octets ++ 10 ∷ []) old (taken_line begun) stop new
  Halts-ended stops old begun octets stop new lacks none stopped = record {
    first = octets;
    rest = [];
    split = refl;
    mid = old;
    line = taken_line (begun ++ octets);
    feeds = Feeds-others old begun octets lacks none;
    stopped = stopped;
  }

  -- the same of what answering a line returns
  pub ended-feeds : {E : Type 0} (result : Result (Unit {0}) E) (old new : A) (line : Option (List ℕ)) (begun octets : List ℕ) → LacksLineFeed octets → line ≡ taken_line (begun ++ octets)
      → OnOk result (answers old (line ∷ []) new) → OnOk result (Feeds answers (octets ++ 10 ∷ []) old (taken_line begun) new (Some []))
  ended-feeds (Ok x) old new line begun octets lacks is answered = Feeds-ended old new begun octets lacks (subst (λ (l : Option (List ℕ)). answers old (l ∷ []) new) is answered)
  ended-feeds (Err stop) old new line begun octets lacks is answered = tt

  pub ended-halts : {E : Type 0} (stops : A → Option (List ℕ) → E → A → Type 0) (result : Result (Unit {0}) E) (old new : A) (line : Option (List ℕ)) (begun octets : List ℕ) → LacksLineFeed octets → line ≡ taken_line (begun ++ octets)
      → answers old [] old → IfErr result (λ stop. stops old line stop new) → IfErr result (λ stop. Halts answers stops (octets ++ 10 ∷ []) old (taken_line begun) stop new)
  ended-halts stops (Ok x) old new line begun octets lacks is none stopped = tt
  ended-halts stops (Err stop) old new line begun octets lacks is none stopped = Halts-ended stops old begun octets stop new lacks none (subst (λ (l : Option (List ℕ)). stops old l stop new) is stopped)
