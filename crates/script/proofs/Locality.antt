-- A rule reads tokens from the front, and looks at no more than one token behind them.
use Rattle.std.proofs.Common.{◌≡◌, ℕ, Bool, true, false, List, [], ◌∷◌, ◌++◌, take, Option, Some, None, IfSome, refl, sym, ◌∙◌, ap, subst, append_assoc}
use Rattle.std.specs.Str.{bytes_eq}
use Rattle.script.specs.Tokens.{Token}
use Rattle.script.specs.Reading.{octets_of, behind, is_end, Rule, gives, fault, continued, ◌>>=◌, read_token, read_or, one, optional, is_next, after, the}
use Rattle.script.proofs.Formed.{RuleGives}

-- what was read of tokens, and that it is read again where other tokens stand behind the next one
pub record Read (A : Type 0) (r : Rule A) (tokens : List Token) (x : Option A) (rest : List Token) : Type 0 where
  pub before : List Token
  pub split : tokens ≡ before ++ rest
  pub again : (others : List Token) → take 1 others ≡ take 1 rest → r (before ++ others) ≡ (x, others)

pub record IsLocal (A : Type 0) (r : Rule A) : Type 0 where
  pub reads : (tokens : List Token) → Read A r tokens (r tokens).0 (r tokens).1

pub turned : {A : Type 0} (r : Rule A) (tokens : List Token) (x : Option A) (rest : List Token) → r tokens ≡ (x, rest) → Read A r tokens x rest
    → Read A r tokens (r tokens).0 (r tokens).1
turned {A} r tokens x rest is read = let P : Option A × List Token → Type 0 = λ p. Read A r tokens p.0 p.1 in subst P (sym is) read

pub taken : {A : Type 0} (r : Rule A) (tokens : List Token) (x : Option A) (rest : List Token) → r tokens ≡ (x, rest) → Read A r tokens (r tokens).0 (r tokens).1
    → Read A r tokens x rest
taken {A} r tokens x rest is read = let P : Option A × List Token → Type 0 = λ p. Read A r tokens p.0 p.1 in subst P is read

-- the first token is the same
take-front : (before others rest : List Token) → take 1 others ≡ take 1 rest → take 1 (before ++ others) ≡ take 1 (before ++ rest)
take-front [] others rest same = same
take-front (token ∷ before) others rest same = refl

first_of : {A : Type 0} (f : List Token → A) → ((token : Token) (tokens : List Token) → f (token ∷ tokens) ≡ f (token ∷ [])) → (others rest : List Token)
    → take 1 others ≡ take 1 rest → f others ≡ f rest
first_of f by_first [] [] same = refl
first_of f by_first [] (token ∷ rest) same = absurd (cc)
first_of f by_first (token ∷ others) [] same = absurd (cc)
first_of f by_first (token ∷ others) (token₂ ∷ rest) same = by_first token others ∙ (ap f same ∙ sym (by_first token₂ rest))

octets_of-same : (others rest : List Token) → take 1 others ≡ take 1 rest → octets_of others ≡ octets_of rest
octets_of-same others rest same = first_of octets_of (λ token tokens. refl) others rest same

pub is_end-same : (others rest : List Token) → take 1 others ≡ take 1 rest → is_end others ≡ is_end rest
is_end-same others rest same = first_of is_end (λ token tokens. refl) others rest same

none-same : (others : List Token) → take 1 others ≡ [] → others ≡ []
none-same [] same = refl
none-same (token ∷ others) same = absurd (cc)

pub gives-local : {A : Type 0} (x : A) → IsLocal A (gives x)
gives-local x = record { reads = λ tokens. record { before = []; split = refl; again = λ others same. refl } }

pub fault-local : (A : Type 0) → IsLocal A (fault {A = A})
fault-local A = record { reads = λ tokens. record { before = []; split = refl; again = λ others same. refl } }

-- one token
pub one-is : {A : Type 0} (meaning : List ℕ → Option A) (tokens : List Token) (x : Option A) → meaning (octets_of tokens) ≡ x → one meaning tokens ≡ read_token x tokens
unfolding one
one-is {A} meaning tokens x is = ap (λ (y : Option A). read_token y tokens) is

one-by : {A : Type 0} (meaning : List ℕ → Option A) (tokens : List Token) (x : Option A) → meaning (octets_of tokens) ≡ x
    → Read A (one meaning) tokens (one meaning tokens).0 (one meaning tokens).1
one-by meaning tokens None is = turned (one meaning) tokens None tokens (one-is meaning tokens None is) (record {
  before = [];
  split = refl;
  again = λ others same. one-is meaning others None (ap meaning (octets_of-same others tokens same) ∙ is);
})
one-by meaning [] (Some x) is = turned (one meaning) [] (Some x) [] (one-is meaning [] (Some x) is) (record {
  before = [];
  split = refl;
  again = λ others same. let none = none-same others same in rw none (one-is meaning [] (Some x) is);
})
one-by meaning (token ∷ tokens) (Some x) is = turned (one meaning) (token ∷ tokens) (Some x) tokens (one-is meaning (token ∷ tokens) (Some x) is) (record {
  before = token ∷ [];
  split = refl;
  again = λ others same. one-is meaning (token ∷ others) (Some x) is;
})

pub one-local : {A : Type 0} (meaning : List ℕ → Option A) → IsLocal A (one meaning)
one-local meaning = record { reads = λ tokens. one-by meaning tokens (meaning (octets_of tokens)) refl }

pub optional-is : {A : Type 0} (meaning : List ℕ → Option A) (otherwise : A) (tokens : List Token) (x : Option A) → meaning (octets_of tokens) ≡ x
    → optional meaning otherwise tokens ≡ read_or otherwise x tokens
unfolding optional
optional-is {A} meaning otherwise tokens x is = ap (λ (y : Option A). read_or otherwise y tokens) is

optional-by : {A : Type 0} (meaning : List ℕ → Option A) (otherwise : A) (tokens : List Token) (x : Option A) → meaning (octets_of tokens) ≡ x
    → Read A (optional meaning otherwise) tokens (optional meaning otherwise tokens).0 (optional meaning otherwise tokens).1
optional-by meaning otherwise tokens None is = turned (optional meaning otherwise) tokens (Some otherwise) tokens (optional-is meaning otherwise tokens None is) (record {
  before = [];
  split = refl;
  again = λ others same. optional-is meaning otherwise others None (ap meaning (octets_of-same others tokens same) ∙ is);
})
optional-by meaning otherwise [] (Some x) is = turned (optional meaning otherwise) [] (Some x) [] (optional-is meaning otherwise [] (Some x) is) (record {
  before = [];
  split = refl;
  again = λ others same. let none = none-same others same in rw none (optional-is meaning otherwise [] (Some x) is);
})
optional-by meaning otherwise (token ∷ tokens) (Some x) is =
    turned (optional meaning otherwise) (token ∷ tokens) (Some x) tokens (optional-is meaning otherwise (token ∷ tokens) (Some x) is) (record {
      before = token ∷ [];
      split = refl;
      again = λ others same. optional-is meaning otherwise (token ∷ others) (Some x) is;
    })

pub optional-local : {A : Type 0} (meaning : List ℕ → Option A) (otherwise : A) → IsLocal A (optional meaning otherwise)
optional-local meaning otherwise = record { reads = λ tokens. optional-by meaning otherwise tokens (meaning (octets_of tokens)) refl }

-- a text, or another thing
pub after-yes : {A : Type 0} (text : List ℕ) (r s : Rule A) (tokens : List Token) → is_next text tokens ≡ true → after text r s tokens ≡ r (behind tokens)
after-yes text r s tokens is = rw is refl

pub after-no : {A : Type 0} (text : List ℕ) (r s : Rule A) (tokens : List Token) → is_next text tokens ≡ false → after text r s tokens ≡ s tokens
after-no text r s tokens is = rw is refl

after-by : {A : Type 0} (text : List ℕ) (r s : Rule A) (tokens : List Token) (next : Bool) → is_next text [] ≡ false → IsLocal A r → IsLocal A s
    → is_next text tokens ≡ next → Read A (after text r s) tokens (after text r s tokens).0 (after text r s tokens).1
after-by text r s tokens false none r-local s-local is =
    let read = s-local.reads tokens in
    turned (after text r s) tokens (s tokens).0 (s tokens).1 (after-no text r s tokens is) (record {
      before = read.before;
      split = read.split;
      again = λ others same.
          after-no text r s (read.before ++ others)
          (ap (λ (octets : List ℕ). bytes_eq octets text) (octets_of-same (read.before ++ others) tokens (take-front read.before others (s tokens).1 same ∙ ap (take 1) (sym read.split))) ∙ is)
          ∙ read.again others same;
    })
after-by text r s [] true none r-local s-local is = absurd (cc)
after-by text r s (token ∷ tokens) true none r-local s-local is =
    let read = r-local.reads tokens in
    turned (after text r s) (token ∷ tokens) (r tokens).0 (r tokens).1 (after-yes text r s (token ∷ tokens) is) (record {
      before = token ∷ read.before;
      split = ap (λ (rest : List Token). token ∷ rest) read.split;
      again = λ others same. after-yes text r s (token ∷ (read.before ++ others)) is ∙ read.again others same;
    })

pub after-local : {A : Type 0} (text : List ℕ) (r s : Rule A) → is_next text [] ≡ false → IsLocal A r → IsLocal A s → IsLocal A (after text r s)
after-local text r s none r-local s-local = record { reads = λ tokens. after-by text r s tokens (is_next text tokens) none r-local s-local refl }

pub the-local : (text : List ℕ) → is_next text [] ≡ false → IsLocal (Unit {0}) (the text)
unfolding the
the-local text none = after-local text (gives tt) fault none (gives-local tt) (fault-local (Unit {0}))

-- one thing behind another
pub bind-is : {A B : Type 0} (r : Rule A) (f : A → Rule B) (tokens : List Token) (x : Option A) (rest : List Token) → r tokens ≡ (x, rest)
    → (r >>= f) tokens ≡ continued f x rest
bind-is {A} r f tokens x rest is = ap (λ (p : Option A × List Token). continued f p.0 p.1) is

bind-by : {A B : Type 0} (P : A → Type 0) (r : Rule A) (f : A → Rule B) (tokens : List Token) (x : Option A) (rest : List Token) → IsLocal A r → ((y : A) → P y → IsLocal B (f y))
    → IfSome x P → r tokens ≡ (x, rest) → Read B (r >>= f) tokens ((r >>= f) tokens).0 ((r >>= f) tokens).1
bind-by P r f tokens None rest r-local f-local holds is =
    let read = taken r tokens None rest is (r-local.reads tokens) in
    turned (r >>= f) tokens None rest (bind-is r f tokens None rest is) (record {
      before = read.before;
      split = read.split;
      again = λ others same. bind-is r f (read.before ++ others) None others (read.again others same);
    })
bind-by P r f tokens (Some x) rest r-local f-local holds is =
    let read = taken r tokens (Some x) rest is (r-local.reads tokens) in
    let second = (f-local x holds).reads rest in
    turned (r >>= f) tokens (f x rest).0 (f x rest).1 (bind-is r f tokens (Some x) rest is) (record {
      before = read.before ++ second.before;
      split = read.split ∙ (ap (λ (back : List Token). read.before ++ back) second.split ∙ sym (append_assoc read.before second.before (f x rest).1));
      again = λ others same.
          ap (r >>= f) (append_assoc read.before second.before others)
          ∙ (bind-is r f (read.before ++ (second.before ++ others)) (Some x) (second.before ++ others)
          (read.again (second.before ++ others) (take-front second.before others (f x rest).1 same ∙ ap (take 1) (sym second.split)))
          ∙ second.again others same);
    })

pub bind-local : {A B : Type 0} (P : A → Type 0) (r : Rule A) (f : A → Rule B) → IsLocal A r → RuleGives P r → ((y : A) → P y → IsLocal B (f y)) → IsLocal B (r >>= f)
bind-local P r f r-local r-reads f-local = record { reads = λ tokens. bind-by P r f tokens (r tokens).0 (r tokens).1 r-local f-local (r-reads.found tokens) refl }
