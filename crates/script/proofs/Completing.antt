-- What stands before a fault is the beginning of a statement: it can be completed.
use Rattle.std.proofs.Common.{◌≡◌, ℕ, Bool, true, false, List, [], ◌∷◌, ◌++◌, Option, Some, None, IfSome, refl, sym, ◌∙◌, ap, subst}
use Rattle.std.specs.Str.{bytes_eq}
use Rattle.script.specs.declared.statement.Statement.{Statement}
use Rattle.script.specs.Tokens.{Token}
use Rattle.script.specs.Reading.{octets_of, Rule, gives, fault, ◌>>=◌, one, optional, is_next, after, the}
use Rattle.script.proofs.Formed.{Anything}
use Rattle.script.proofs.Locality.{one-is, optional-is, after-yes, after-no, bind-is}

-- the tokens before those at fault, and others that make a statement behind them
pub record Begun (r : Rule Statement) (tokens rest : List Token) : Type 0 where
  pub before : List Token
  pub split : tokens ≡ before ++ rest
  pub others : List Token
  pub statement : Statement
  pub made : (r (before ++ others)).0 ≡ Some statement

-- there is a statement, and what stands before a fault begins one
pub record IsCompleted (r : Rule Statement) : Type 0 where
  pub others : List Token
  pub statement : Statement
  pub made : (r others).0 ≡ Some statement
  pub begun : (tokens rest : List Token) → r tokens ≡ (None, rest) → Begun r tokens rest

-- with whatever completes what is behind it, where that completes each of what it gives
pub record CompletesTo (A : Type 0) (P : A → Type 0) (r : Rule A) : Type 0 where
  pub goes_on : (k : A → Rule Statement) → ((x : A) → P x → IsCompleted (k x)) → IsCompleted (r >>= k)

abbrev token_for : List ℕ → Token
token_for text = record { octets = text; left = 0 }

completed-same : (r s : Rule Statement) → ((tokens : List Token) → r tokens ≡ s tokens) → IsCompleted s → IsCompleted r
completed-same r s same completed = record {
  others = completed.others;
  statement = completed.statement;
  made = ap (λ (p : Option Statement × List Token). p.0) (same completed.others) ∙ completed.made;
  begun = λ tokens rest is.
      let b = completed.begun tokens rest (sym (same tokens) ∙ is) in
      record {
        before = b.before;
        split = b.split;
        others = b.others;
        statement = b.statement;
        made = ap (λ (p : Option Statement × List Token). p.0) (same (b.before ++ b.others)) ∙ b.made;
      };
}

pub gives-to : {A : Type 0} {P : A → Type 0} (x : A) → P x → CompletesTo A P (gives x)
gives-to x holds = record { goes_on = λ k completed. completed x holds }

pub weaker-to : {A : Type 0} {P Q : A → Type 0} {r : Rule A} → ((x : A) → P x → Q x) → CompletesTo A P r → CompletesTo A Q r
weaker-to gives-it completes = record { goes_on = λ k completed. completes.goes_on k (λ x holds. completed x (gives-it x holds)) }

-- a text, or another thing
after-from_nothing : (text : List ℕ) (r s : Rule Statement) (tokens rest : List Token) → bytes_eq text text ≡ true → IsCompleted r → tokens ≡ rest
    → Begun (after text r s) tokens rest
after-from_nothing text r s tokens rest same completed all = record {
  before = [];
  split = all;
  others = token_for text ∷ completed.others;
  statement = completed.statement;
  made = ap (λ (p : Option Statement × List Token). p.0) (after-yes text r s (token_for text ∷ completed.others) same) ∙ completed.made;
}

after-other : (text : List ℕ) (r s : Rule Statement) (tokens rest before others : List Token) (statement : Statement) → bytes_eq text text ≡ true → IsCompleted r
    → is_next text tokens ≡ false → tokens ≡ before ++ rest → (s (before ++ others)).0 ≡ Some statement → Begun (after text r s) tokens rest
after-other text r s tokens rest [] others one_made same completed other split made = after-from_nothing text r s tokens rest same completed split
after-other text r s tokens rest (token ∷ before) others one_made same completed other split made = record {
  before = token ∷ before;
  split = split;
  others = others;
  statement = one_made;
  made = ap (λ (p : Option Statement × List Token). p.0) (after-no text r s (token ∷ (before ++ others)) (ap (is_next text) (sym split) ∙ other)) ∙ made;
}

after-text : (text : List ℕ) (r s : Rule Statement) (tokens rest : List Token) → is_next text [] ≡ false → IsCompleted r
    → is_next text tokens ≡ true → after text r s tokens ≡ (None, rest) → Begun (after text r s) tokens rest
after-text text r s [] rest none completed next is = absurd (cc)
after-text text r s (token ∷ tokens) rest none completed next is =
    let b = completed.begun tokens rest (sym (after-yes text r s (token ∷ tokens) next) ∙ is) in
    record {
      before = token ∷ b.before;
      split = ap (λ (all : List Token). token ∷ all) b.split;
      others = b.others;
      statement = b.statement;
      made = ap (λ (p : Option Statement × List Token). p.0) (after-yes text r s (token ∷ (b.before ++ b.others)) next) ∙ b.made;
    }

after-begun : (text : List ℕ) (r s : Rule Statement) (tokens rest : List Token) (next : Bool) → is_next text [] ≡ false → bytes_eq text text ≡ true → IsCompleted r → IsCompleted s
    → is_next text tokens ≡ next → after text r s tokens ≡ (None, rest) → Begun (after text r s) tokens rest
after-begun text r s tokens rest true none same r-completed s-completed next is = after-text text r s tokens rest none r-completed next is
after-begun text r s tokens rest false none same r-completed s-completed next is =
    let b = s-completed.begun tokens rest (sym (after-no text r s tokens next) ∙ is) in
    after-other text r s tokens rest b.before b.others b.statement same r-completed next b.split b.made

last-begun : (text : List ℕ) (r : Rule Statement) (tokens rest : List Token) (next : Bool) → is_next text [] ≡ false → bytes_eq text text ≡ true → IsCompleted r
    → is_next text tokens ≡ next → after text r fault tokens ≡ (None, rest) → Begun (after text r fault) tokens rest
last-begun text r tokens rest true none same completed next is = after-text text r fault tokens rest none completed next is
last-begun text r tokens rest false none same completed next is =
    after-from_nothing text r fault tokens rest same completed (ap (λ (p : Option Statement × List Token). p.1) (sym (after-no text r fault tokens next) ∙ is))

pub after-completed : (text : List ℕ) (r s : Rule Statement) → is_next text [] ≡ false → bytes_eq text text ≡ true → IsCompleted r → IsCompleted s → IsCompleted (after text r s)
after-completed text r s none same r-completed s-completed = record {
  others = token_for text ∷ r-completed.others;
  statement = r-completed.statement;
  made = ap (λ (p : Option Statement × List Token). p.0) (after-yes text r s (token_for text ∷ r-completed.others) same) ∙ r-completed.made;
  begun = λ tokens rest is. after-begun text r s tokens rest (is_next text tokens) none same r-completed s-completed refl is;
}

last-completed : (text : List ℕ) (r : Rule Statement) → is_next text [] ≡ false → bytes_eq text text ≡ true → IsCompleted r → IsCompleted (after text r fault)
last-completed text r none same completed = record {
  others = token_for text ∷ completed.others;
  statement = completed.statement;
  made = ap (λ (p : Option Statement × List Token). p.0) (after-yes text r fault (token_for text ∷ completed.others) same) ∙ completed.made;
  begun = λ tokens rest is. last-begun text r tokens rest (is_next text tokens) none same completed refl is;
}

after-bind : {A : Type 0} (text : List ℕ) (r s : Rule A) (k : A → Rule Statement) (tokens : List Token) (next : Bool) → is_next text tokens ≡ next
    → (after text r s >>= k) tokens ≡ after text (r >>= k) (s >>= k) tokens
after-bind text r s k tokens true is = rw is refl
after-bind text r s k tokens false is = rw is refl

pub after-completes : {A : Type 0} {P : A → Type 0} (text : List ℕ) (r s : Rule A) → is_next text [] ≡ false → bytes_eq text text ≡ true → CompletesTo A P r → CompletesTo A P s
    → CompletesTo A P (after text r s)
after-completes text r s none same r-completes s-completes = record {
  goes_on = λ k completed.
      completed-same (after text r s >>= k) (after text (r >>= k) (s >>= k)) (λ tokens. after-bind text r s k tokens (is_next text tokens) refl)
      (after-completed text (r >>= k) (s >>= k) none same (r-completes.goes_on k completed) (s-completes.goes_on k completed));
}

-- a text, or nothing else
pub last-completes : {A : Type 0} {P : A → Type 0} (text : List ℕ) (r : Rule A) → is_next text [] ≡ false → bytes_eq text text ≡ true → CompletesTo A P r → CompletesTo A P (after text r fault)
last-completes text r none same completes = record {
  goes_on = λ k completed.
      completed-same (after text r fault >>= k) (after text (r >>= k) fault) (λ tokens. after-bind text r fault k tokens (is_next text tokens) refl)
      (last-completed text (r >>= k) none same (completes.goes_on k completed));
}

pub the-completes : (text : List ℕ) → is_next text [] ≡ false → bytes_eq text text ≡ true → CompletesTo (Unit {0}) (Anything (Unit {0})) (the text)
unfolding the
the-completes text none same = last-completes text (gives tt) none same (gives-to tt tt)

-- one token
one-begun : {A : Type 0} (P : A → Type 0) (meaning : List ℕ → Option A) (octets : List ℕ) (x : A) (k : A → Rule Statement) (tokens rest : List Token) (found : Option A)
    → meaning octets ≡ Some x → meaning [] ≡ None → P x → IfSome found P → ((y : A) → P y → IsCompleted (k y)) → meaning (octets_of tokens) ≡ found
    → (one meaning >>= k) tokens ≡ (None, rest) → Begun (one meaning >>= k) tokens rest
one-begun P meaning octets x k tokens rest None some none holds found-holds completed found is = record {
  before = [];
  split = ap (λ (p : Option Statement × List Token). p.1) (sym (bind-is (one meaning) k tokens None tokens (one-is meaning tokens None found)) ∙ is);
  others = token_for octets ∷ (completed x holds).others;
  statement = (completed x holds).statement;
  made =
      ap (λ (p : Option Statement × List Token). p.0) (bind-is (one meaning) k (token_for octets ∷ (completed x holds).others) (Some x) (completed x holds).others
      (one-is meaning (token_for octets ∷ (completed x holds).others) (Some x) some)) ∙ (completed x holds).made;
}
one-begun P meaning octets x k [] rest (Some y) some none holds found-holds completed found is = absurd (cc)
one-begun P meaning octets x k (token ∷ tokens) rest (Some y) some none holds found-holds completed found is =
    let b = (completed y found-holds).begun tokens rest (sym (bind-is (one meaning) k (token ∷ tokens) (Some y) tokens (one-is meaning (token ∷ tokens) (Some y) found)) ∙ is) in
    record {
      before = token ∷ b.before;
      split = ap (λ (all : List Token). token ∷ all) b.split;
      others = b.others;
      statement = b.statement;
      made =
          ap (λ (p : Option Statement × List Token). p.0) (bind-is (one meaning) k (token ∷ (b.before ++ b.others)) (Some y) (b.before ++ b.others)
          (one-is meaning (token ∷ (b.before ++ b.others)) (Some y) found)) ∙ b.made;
    }

pub one-completes : {A : Type 0} (P : A → Type 0) (meaning : List ℕ → Option A) (octets : List ℕ) {x : A} → meaning octets ≡ Some x → meaning [] ≡ None
    → ((octets : List ℕ) → IfSome (meaning octets) P) → CompletesTo A P (one meaning)
one-completes {A} P meaning octets {x} some none all =
    let holds : P x = subst (λ (y : Option A). IfSome y P) some (all octets) in
    record {
      goes_on = λ k completed. record {
        others = token_for octets ∷ (completed x holds).others;
        statement = (completed x holds).statement;
        made =
            ap (λ (p : Option Statement × List Token). p.0) (bind-is (one meaning) k (token_for octets ∷ (completed x holds).others) (Some x) (completed x holds).others
            (one-is meaning (token_for octets ∷ (completed x holds).others) (Some x) some)) ∙ (completed x holds).made;
        begun = λ tokens rest is. one-begun P meaning octets x k tokens rest (meaning (octets_of tokens)) some none holds (all (octets_of tokens)) completed refl is;
      };
    }

-- one token, or none
optional-given : {A : Type 0} (meaning : List ℕ → Option A) (otherwise : A) (k : A → Rule Statement) (token : Token) (tokens : List Token) (x : A) → meaning token.octets ≡ Some x
    → (optional meaning otherwise >>= k) (token ∷ tokens) ≡ k x tokens
optional-given meaning otherwise k token tokens x is = bind-is (optional meaning otherwise) k (token ∷ tokens) (Some x) tokens (optional-is meaning otherwise (token ∷ tokens) (Some x) is)

optional-none : {A : Type 0} (meaning : List ℕ → Option A) (otherwise : A) (k : A → Rule Statement) (tokens : List Token) → meaning (octets_of tokens) ≡ None
    → (optional meaning otherwise >>= k) tokens ≡ k otherwise tokens
optional-none meaning otherwise k tokens is = bind-is (optional meaning otherwise) k tokens (Some otherwise) tokens (optional-is meaning otherwise tokens None is)

optional-other : {A : Type 0} (meaning : List ℕ → Option A) (otherwise : A) (octets : List ℕ) (x : A) (k : A → Rule Statement) (tokens rest before others : List Token) (statement : Statement)
    → meaning octets ≡ Some x → IsCompleted (k x) → meaning (octets_of tokens) ≡ None → tokens ≡ before ++ rest
    → (k otherwise (before ++ others)).0 ≡ Some statement → Begun (optional meaning otherwise >>= k) tokens rest
optional-other meaning otherwise octets x k tokens rest [] others one_made some completed found split made = record {
  before = [];
  split = split;
  others = token_for octets ∷ completed.others;
  statement = completed.statement;
  made = ap (λ (p : Option Statement × List Token). p.0) (optional-given meaning otherwise k (token_for octets) completed.others x some) ∙ completed.made;
}
optional-other meaning otherwise octets x k tokens rest (token ∷ before) others one_made some completed found split made = record {
  before = token ∷ before;
  split = split;
  others = others;
  statement = one_made;
  made =
      ap (λ (p : Option Statement × List Token). p.0) (optional-none meaning otherwise k (token ∷ (before ++ others))
      (ap (λ (all : List Token). meaning (octets_of all)) (sym split) ∙ found)) ∙ made;
}

optional-begun : {A : Type 0} (P : A → Type 0) (meaning : List ℕ → Option A) (otherwise : A) (octets : List ℕ) (x : A) (k : A → Rule Statement) (tokens rest : List Token) (found : Option A)
    → meaning octets ≡ Some x → meaning [] ≡ None → P x → P otherwise → IfSome found P → ((y : A) → P y → IsCompleted (k y)) → meaning (octets_of tokens) ≡ found
    → (optional meaning otherwise >>= k) tokens ≡ (None, rest) → Begun (optional meaning otherwise >>= k) tokens rest
optional-begun P meaning otherwise octets x k tokens rest None some none holds other-holds found-holds completed found is =
    let b = (completed otherwise other-holds).begun tokens rest (sym (optional-none meaning otherwise k tokens found) ∙ is) in
    optional-other meaning otherwise octets x k tokens rest b.before b.others b.statement some (completed x holds) found b.split b.made
optional-begun P meaning otherwise octets x k [] rest (Some y) some none holds other-holds found-holds completed found is = absurd (cc)
optional-begun P meaning otherwise octets x k (token ∷ tokens) rest (Some y) some none holds other-holds found-holds completed found is =
    let b = (completed y found-holds).begun tokens rest (sym (optional-given meaning otherwise k token tokens y found) ∙ is) in
    record {
      before = token ∷ b.before;
      split = ap (λ (all : List Token). token ∷ all) b.split;
      others = b.others;
      statement = b.statement;
      made = ap (λ (p : Option Statement × List Token). p.0) (optional-given meaning otherwise k token (b.before ++ b.others) y found) ∙ b.made;
    }

pub optional-completes : {A : Type 0} (P : A → Type 0) (meaning : List ℕ → Option A) (otherwise : A) (octets : List ℕ) {x : A} → meaning octets ≡ Some x → meaning [] ≡ None
    → ((octets : List ℕ) → IfSome (meaning octets) P) → P otherwise → CompletesTo A P (optional meaning otherwise)
optional-completes {A} P meaning otherwise octets {x} some none all other-holds =
    let holds : P x = subst (λ (y : Option A). IfSome y P) some (all octets) in
    record {
      goes_on = λ k completed. record {
        others = token_for octets ∷ (completed x holds).others;
        statement = (completed x holds).statement;
        made = ap (λ (p : Option Statement × List Token). p.0) (optional-given meaning otherwise k (token_for octets) (completed x holds).others x some) ∙ (completed x holds).made;
        begun = λ tokens rest is.
            optional-begun P meaning otherwise octets x k tokens rest (meaning (octets_of tokens)) some none holds other-holds (all (octets_of tokens)) completed refl is;
      };
    }

-- one thing behind another
bind-bind : {A B : Type 0} (r : Rule A) (f : A → Rule B) (k : B → Rule Statement) (tokens : List Token) (x : Option A) (rest : List Token) → r tokens ≡ (x, rest)
    → ((r >>= f) >>= k) tokens ≡ (r >>= (λ y. f y >>= k)) tokens
bind-bind r f k tokens None rest is = rw is refl
bind-bind r f k tokens (Some x) rest is = rw is refl

pub bind-to : {A B : Type 0} {P : A → Type 0} {Q : B → Type 0} {r : Rule A} {f : A → Rule B} → CompletesTo A P r → ((x : A) → P x → CompletesTo B Q (f x))
    → CompletesTo B Q (r >>= f)
bind-to {r = r} {f = f} r-completes f-completes = record {
  goes_on = λ k completed.
      completed-same ((r >>= f) >>= k) (r >>= (λ y. f y >>= k)) (λ tokens. bind-bind r f k tokens (r tokens).0 (r tokens).1 refl)
      (r-completes.goes_on (λ y. f y >>= k) (λ y holds. (f-completes y holds).goes_on k completed));
}
