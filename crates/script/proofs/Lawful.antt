-- What is proved of each rule of the grammar, and how it goes from a rule's parts to the rule.
use Rattle.std.proofs.Common.{◌≡◌, ℕ, zero, suc, ◌+◌, ◌-◌, ◌≤◌, ◌<◌, false, List, [], Option, Some, None, IfSome, lit≤, arith}
use Rattle.script.specs.Reading.{Rule, gives, fault, ◌>>=◌, one, optional, is_next, after, the, more, listed}
use Rattle.script.proofs.Formed.{RuleGives, Anything, gives-reads, fault-reads, after-reads, bind-reads, one-reads, optional-reads, the-reads, weaker-reads}
use Rattle.script.proofs.Fresh.{bytes_eq-refl}
use Rattle.script.proofs.Locality.{IsLocal, gives-local, fault-local, one-local, optional-local, after-local, the-local, bind-local}
use Rattle.script.proofs.Completing.{CompletesTo, gives-to, after-completes, last-completes, the-completes, one-completes, optional-completes, weaker-to, bind-to}

-- A rule looks at no more than one token behind those that it reads, what it reads is completed by what completes the rest, and what it gives has a property.
pub record IsLawful {A : Type 0} (P : A → Type 0) (r : Rule A) : Type 0 where
  pub local : IsLocal A r
  pub completes : CompletesTo A P r
  pub reads : RuleGives P r

pub gives-lawful : {A : Type 0} {P : A → Type 0} (x : A) → P x → IsLawful P (gives x)
gives-lawful {P = P} x is = record { local = gives-local x; completes = gives-to x is; reads = gives-reads P x is }

-- a token, of which these octets are one
pub one-lawful : {A : Type 0} {P : A → Type 0} (meaning : List ℕ → Option A) (octets : List ℕ) {x : A} → meaning octets ≡ Some x → meaning [] ≡ None
    → ((octets : List ℕ) → IfSome (meaning octets) P) → IsLawful P (one meaning)
one-lawful {P = P} meaning octets some none all = record {
  local = one-local meaning;
  completes = one-completes P meaning octets some none all;
  reads = one-reads P meaning all;
}

pub optional-lawful : {A : Type 0} {P : A → Type 0} (meaning : List ℕ → Option A) (otherwise : A) (octets : List ℕ) {x : A} → meaning octets ≡ Some x → meaning [] ≡ None
    → ((octets : List ℕ) → IfSome (meaning octets) P) → P otherwise → IsLawful P (optional meaning otherwise)
optional-lawful {P = P} meaning otherwise octets some none all is = record {
  local = optional-local meaning otherwise;
  completes = optional-completes P meaning otherwise octets some none all is;
  reads = optional-reads P meaning otherwise all is;
}

-- a word, and what stands behind it, or another thing
pub after-lawful : {A : Type 0} {P : A → Type 0} (text : List ℕ) {r s : Rule A} → is_next text [] ≡ false → IsLawful P r → IsLawful P s → IsLawful P (after text r s)
after-lawful {P = P} text {r} {s} none first second = record {
  local = after-local text r s none first.local second.local;
  completes = after-completes text r s none (bytes_eq-refl text) first.completes second.completes;
  reads = after-reads P text r s first.reads second.reads;
}

-- or nothing else
pub last-lawful : {A : Type 0} {P : A → Type 0} (text : List ℕ) {r : Rule A} → is_next text [] ≡ false → IsLawful P r → IsLawful P (after text r fault)
last-lawful {A} {P = P} text {r} none first = record {
  local = after-local text r fault none first.local (fault-local A);
  completes = last-completes text r none (bytes_eq-refl text) first.completes;
  reads = after-reads P text r fault first.reads (fault-reads P);
}

pub bind-lawful : {A B : Type 0} {P : A → Type 0} {Q : B → Type 0} {r : Rule A} {f : A → Rule B} → IsLawful P r → ((x : A) → P x → IsLawful Q (f x)) → IsLawful Q (r >>= f)
bind-lawful {P = P} {Q = Q} {r = r} {f = f} first second = record {
  local = bind-local P r f first.local first.reads (λ x is. (second x is).local);
  completes = bind-to first.completes (λ x is. (second x is).completes);
  reads = bind-reads P Q r f first.reads (λ x is. (second x is).reads);
}

the-lawful : (text : List ℕ) → is_next text [] ≡ false → IsLawful (Anything (Unit {0})) (the text)
the-lawful text none = record { local = the-local text none; completes = the-completes text none (bytes_eq-refl text); reads = the-reads text }

-- a word that must be next, and what stands behind it
pub word-lawful : {A : Type 0} {P : A → Type 0} (text : List ℕ) {r : Rule A} → is_next text [] ≡ false → IsLawful P r → IsLawful P (the text >>= λ word. r)
word-lawful text none behind = bind-lawful (the-lawful text none) (λ word any. behind)

pub weaker-lawful : {A : Type 0} {P Q : A → Type 0} {r : Rule A} → ((x : A) → P x → Q x) → IsLawful P r → IsLawful Q r
weaker-lawful {P = P} {Q = Q} {r = r} gives-it is = record {
  local = is.local;
  completes = weaker-to gives-it is.completes;
  reads = weaker-reads P Q r gives-it is.reads;
}

-- A list has so many items and a form; while there is room, an item is read, and with it the list has one more and the form still.
module _ {A : Type 0} (P : ℕ → A → Type 0) (Q : A → Type 0) (most : ℕ) (separator : List ℕ) (item : A → Rule A) (none : is_next separator [] ≡ false)
    (grows : (k : ℕ) (items : A) → k < most → P k items → IsLawful (P (k + 1)) (item items))
    (ends : (k : ℕ) (items : A) → 1 ≤ k → k ≤ most → P k items → Q items) where
  more-lawful : (n k : ℕ) (items : A) → 1 ≤ k → k + n ≤ most → P k items → IsLawful Q (more n separator item items)
  unfolding more
  more-lawful zero k items some fits is = gives-lawful items (ends k items some (omega (arith, fits)) is)
  more-lawful (suc n) k items some fits is =
      after-lawful separator none
      (bind-lawful (grows k items (omega (arith, fits)) is) (λ longer has. more-lawful n (k + 1) longer (omega arith) (omega (arith, fits)) has))
      (gives-lawful items (ends k items some (omega (arith, fits)) is))

  pub listed-lawful : (nothing : A) → 1 ≤ most → P 0 nothing → IsLawful Q (listed most separator item nothing)
  unfolding listed
  listed-lawful nothing some is =
      bind-lawful (grows 0 nothing (omega (arith, some)) is) (λ items has. more-lawful (most - 1) 1 items (lit≤ tt) (omega (arith, some)) has)
