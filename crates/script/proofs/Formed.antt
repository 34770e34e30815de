-- What a rule reads has its form.
use Rattle.std.proofs.Common.{◌≡◌, ℕ, zero, suc, ◌+◌, ◌-◌, ◌≤◌, Bool, true, false, not, ◌||◌, List, [], ◌∷◌, ◌++◌, length, Option, Some, None, IfSome, if◌then◌else◌, refl, ◌∙◌, ap, lit≤, arith}
use Rattle.std.specs.List.{list_all, list_any}
use Rattle.std.specs.Str.{bytes_eq}
use Rattle.std.proofs.lemmas.Bool.{and_parts}
use Rattle.std.proofs.lemmas.List.Folds.{list_any-append}
use Rattle.std.proofs.lemmas.List.{length-append}
use Rattle.scql_base.specs.Name.{IsName, is_name, name_of}
use Rattle.scql_model.specs.Rules.{are_different}
use Rattle.scql_model.proofs.LongerLists.{all-added}
use Rattle.script.specs.Tokens.{Token}
use Rattle.script.specs.Reading.{octets_of, behind, Rule, gives, fault, continued, ◌>>=◌, read_token, read_or, one, optional, is_next, after, the, more, listed}
use Rattle.script.specs.Meanings.{is_among, new_name_of}

-- a rule reads only what has a property
pub record RuleGives {A : Type 0} (P : A → Type 0) (r : Rule A) : Type 0 where
  pub found : (tokens : List Token) → IfSome (r tokens).0 P

pub gives-reads : {A : Type 0} (P : A → Type 0) (x : A) → P x → RuleGives P (gives x)
gives-reads P x is = record { found = λ tokens. is }

pub fault-reads : {A : Type 0} (P : A → Type 0) → RuleGives P fault
fault-reads P = record { found = λ tokens. tt }

pub after-reads : {A : Type 0} (P : A → Type 0) (text : List ℕ) (r s : Rule A) → RuleGives P r → RuleGives P s → RuleGives P (after text r s)
after-reads {A} P text r s r-reads s-reads = record { found = λ tokens. go tokens (is_next text tokens) }
  where
    go : (tokens : List Token) (next : Bool) → IfSome (if next then r (behind tokens) else s tokens).0 P
    go tokens true = r-reads.found (behind tokens)
    go tokens false = s-reads.found tokens

pub bind-reads : {A B : Type 0} (Q : A → Type 0) (P : B → Type 0) (r : Rule A) (f : A → Rule B) → RuleGives Q r → ((x : A) → Q x → RuleGives P (f x)) → RuleGives P (r >>= f)
bind-reads {A} {B} Q P r f r-reads f-reads = record { found = λ tokens. go (r tokens).0 (r tokens).1 (r-reads.found tokens) }
  where
    go : (x : Option A) (rest : List Token) → IfSome x Q → IfSome (continued f x rest).0 P
    go None rest is = tt
    go (Some x) rest is = (f-reads x is).found rest

pub one-reads : {A : Type 0} (P : A → Type 0) (meaning : List ℕ → Option A) → ((octets : List ℕ) → IfSome (meaning octets) P) → RuleGives P (one meaning)
unfolding one
one-reads {A} P meaning all = record { found = λ tokens. go tokens (meaning (octets_of tokens)) (all (octets_of tokens)) }
  where
    go : (tokens : List Token) (x : Option A) → IfSome x P → IfSome (read_token x tokens).0 P
    go tokens None is = tt
    go tokens (Some x) is = is

pub optional-reads : {A : Type 0} (P : A → Type 0) (meaning : List ℕ → Option A) (otherwise : A) → ((octets : List ℕ) → IfSome (meaning octets) P) → P otherwise
    → RuleGives P (optional meaning otherwise)
unfolding optional
optional-reads {A} P meaning otherwise all is-otherwise = record { found = λ tokens. go tokens (meaning (octets_of tokens)) (all (octets_of tokens)) }
  where
    go : (tokens : List Token) (x : Option A) → IfSome x P → IfSome (read_or otherwise x tokens).0 P
    go tokens None is = is-otherwise
    go tokens (Some x) is = is

abbrev pub Anything : (A : Type 0) → A → Type 0
Anything A x = Unit {0}

pub the-reads : (text : List ℕ) → RuleGives (Anything (Unit {0})) (the text)
unfolding the
the-reads text = after-reads (Anything (Unit {0})) text (gives tt) fault (gives-reads (Anything (Unit {0})) tt tt) (fault-reads (Anything (Unit {0})))

-- a list has so many items and a form; with each item it has one more and the form still
pub more-reads : {A : Type 0} (P : ℕ → A → Type 0) (Q : A → Type 0) (n most k : ℕ) (separator : List ℕ) (item : A → Rule A) (items : A)
    → ((k : ℕ) (items : A) → P k items → RuleGives (P (k + 1)) (item items)) → ((k : ℕ) (items : A) → k ≤ most → P k items → Q items)
    → k + n ≤ most → P k items → RuleGives Q (more n separator item items)
unfolding more
more-reads P Q zero most k separator item items grows ends fits is = gives-reads Q items (ends k items (omega (arith, fits)) is)
more-reads P Q (suc n) most k separator item items grows ends fits is =
    after-reads Q separator (item items >>= more n separator item) (gives items)
    (bind-reads (P (k + 1)) Q (item items) (more n separator item) (grows k items is) (λ longer has. more-reads P Q n most (k + 1) separator item longer grows ends (omega (arith, fits)) has))
    (gives-reads Q items (ends k items (omega (arith, fits)) is))

pub weaker-reads : {A : Type 0} (P Q : A → Type 0) (r : Rule A) → ((x : A) → P x → Q x) → RuleGives P r → RuleGives Q r
weaker-reads {A} P Q r gives-it reads = record { found = λ tokens. go (r tokens).0 (reads.found tokens) }
  where
    go : (x : Option A) → IfSome x P → IfSome x Q
    go None is = tt
    go (Some x) is = gives-it x is

pub listed-reads : {A : Type 0} (P : ℕ → A → Type 0) (Q : A → Type 0) (most : ℕ) (separator : List ℕ) (item : A → Rule A) (none : A)
    → ((k : ℕ) (items : A) → P k items → RuleGives (P (k + 1)) (item items)) → ((k : ℕ) (items : A) → 1 ≤ k → k ≤ most → P k items → Q items)
    → 1 ≤ most → P 0 none → RuleGives Q (listed most separator item none)
unfolding listed
listed-reads {A} P Q most separator item none grows ends some is =
    bind-reads (P 1) Q (item none) (more (most - 1) separator item) (grows 0 none is)
    (λ items has. more-reads Some-of Q (most - 1) most 1 separator item items
    (λ k items of. grows-of k items of) (λ k items fits of. ends k items of.0 fits of.1) (omega (arith, some)) (lit≤ tt, has))
  where
    Some-of : ℕ → A → Type 0
    Some-of k items = (1 ≤ k) × P k items

    grows-of : (k : ℕ) (items : A) → Some-of k items → RuleGives (Some-of (k + 1)) (item items)
    grows-of k items of = weaker-reads (P (k + 1)) (Some-of (k + 1)) (item items) (λ x is. (omega arith, is)) (grows k items of.1)

-- Names.
pub name_of-is : (octets : List ℕ) → IfSome (name_of octets) IsName
name_of-is octets = go (is_name octets) refl
  where
    go : (named : Bool) → is_name octets ≡ named → IfSome (if named then Some octets else None) IsName
    go true is = is
    go false is = tt

-- a name that isn't among others
pub record IsNew (names : List (List ℕ)) (name : List ℕ) : Type 0 where
  pub named : is_name name ≡ true
  pub new : is_among name names ≡ false

pub new_name_of-is : (names : List (List ℕ)) (octets : List ℕ) → IfSome (new_name_of names octets) (IsNew names)
new_name_of-is names octets = go (is_among octets names) (is_name octets) refl refl
  where
    go : (among named : Bool) → is_among octets names ≡ among → is_name octets ≡ named → IfSome (if among then None else (if named then Some octets else None)) (IsNew names)
    go true named is is-named = tt
    go false true is is-named = record { named = is-named; new = is }
    go false false is is-named = tt

-- names stay different with a new one behind them
pub different-added : (names : List (List ℕ)) (name : List ℕ) → are_different names ≡ true → is_among name names ≡ false → are_different (names ++ name ∷ []) ≡ true
different-added [] name different new = refl
different-added (first ∷ names) name different new =
    let parts = and_parts (not (list_any (bytes_eq first) names)) (are_different names) different in
    let apart = none-parts (bytes_eq first name) (is_among name names) new in
    rw (list_any-append (bytes_eq first) names (name ∷ []), not-true (list_any (bytes_eq first) names) parts.0, apart.0) (different-added names name parts.1 apart.1)
  where
    none-parts : (a b : Bool) → (a || b) ≡ false → (a ≡ false) × (b ≡ false)
    none-parts true b is = absurd (cc)
    none-parts false b is = (refl, is)

    not-true : (a : Bool) → not a ≡ true → a ≡ false
    not-true true is = absurd (cc)
    not-true false is = refl

-- so many different names
pub record AreNames (count : ℕ) (names : List (List ℕ)) : Type 0 where
  pub counted : length names ≡ count
  pub named : list_all is_name names ≡ true
  pub different : are_different names ≡ true

pub no_names : AreNames 0 []
no_names = record { counted = refl; named = refl; different = refl }

pub name-added : (count : ℕ) (names : List (List ℕ)) (name : List ℕ) → AreNames count names → IsNew names name → AreNames (count + 1) (names ++ name ∷ [])
name-added count names name are is = record {
  counted = length-append names (name ∷ []) ∙ ap (λ n. n + 1) are.counted;
  named = all-added is_name names name are.named is.named;
  different = different-added names name are.different is.new;
}
