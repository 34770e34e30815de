-- Lists of items, read one by one.
use Rattle.std.proofs.Common.{◌≡◌, ℕ, zero, suc, ◌-◌, ◌<◌, true, false, List, Option, Some, None, refl, sym, ◌∙◌, arith}
use Rattle.script.specs.Tokens.{Token}
use Rattle.script.specs.Reading.{Rule, behind, is_next, continued, more, listed}

more-read : {A : Type 0} (n : ℕ) (separator : List ℕ) (item : A → Rule A) (items : A) (tokens : List Token) → 0 < n → is_next separator tokens ≡ true
    → more n separator item items tokens ≡ continued (more (n - 1) separator item) (item items (behind tokens)).0 (item items (behind tokens)).1
unfolding more
more-read zero separator item items tokens some next = absurd (omega arith)
more-read (suc n) separator item items tokens some next = let same : suc n - 1 ≡ n = omega arith in rw (next, same) refl

more-ended : {A : Type 0} (n : ℕ) (separator : List ℕ) (item : A → Rule A) (items : A) (tokens : List Token) → is_next separator tokens ≡ false
    → more n separator item items tokens ≡ (Some items, tokens)
unfolding more
more-ended zero separator item items tokens other = refl
more-ended (suc n) separator item items tokens other = rw other refl

more-none : {A : Type 0} (n : ℕ) (separator : List ℕ) (item : A → Rule A) (items : A) (tokens : List Token) → n ≡ 0
    → more n separator item items tokens ≡ (Some items, tokens)
unfolding more
more-none zero separator item items tokens none = refl
more-none (suc n) separator item items tokens none = absurd (omega arith)

pub listed-fault : {A : Type 0} (most : ℕ) (separator : List ℕ) (item : A → Rule A) (none : A) (tokens rest : List Token)
    → item none tokens ≡ (None, rest) → listed most separator item none tokens ≡ (None, rest)
unfolding listed
listed-fault most separator item none tokens rest read = rw read refl

-- A list is being read, and so many items may still come: the items so far, with those that the tokens have, are the whole of it.
pub record IsReading {A : Type 0} (n : ℕ) (separator : List ℕ) (item : A → Rule A) (whole : Option A × List Token) (items : A) (tokens : List Token) : Type 0 where
  pub same : more n separator item items tokens ≡ whole

pub begins : {A : Type 0} {n : ℕ} {separator : List ℕ} {item : A → Rule A} {items : A} {rest : List Token} (most : ℕ) (none : A) (tokens : List Token)
    → item none tokens ≡ (Some items, rest) → n ≡ most - 1 → IsReading n separator item (listed most separator item none tokens) items rest
unfolding listed
begins most none tokens read left = record { same = rw (read, left) refl }

pub goes_on : {A : Type 0} {n m : ℕ} {separator : List ℕ} {item : A → Rule A} {whole : Option A × List Token} {items longer : A} {tokens rest : List Token}
    → IsReading n separator item whole items tokens → 0 < n → is_next separator tokens ≡ true → item items (behind tokens) ≡ (Some longer, rest) → m ≡ n - 1
    → IsReading m separator item whole longer rest
goes_on {n = n} {separator = separator} {item = item} {items = items} {tokens = tokens} reading some next read left = record {
  same = sym (more-read n separator item items tokens some next ∙ rw (read, ← left) refl) ∙ reading.same;
}

pub fails : {A : Type 0} {n : ℕ} {separator : List ℕ} {item : A → Rule A} {whole : Option A × List Token} {items : A} {tokens rest : List Token}
    → IsReading n separator item whole items tokens → 0 < n → is_next separator tokens ≡ true → item items (behind tokens) ≡ (None, rest) → whole ≡ (None, rest)
fails {n = n} {separator = separator} {item = item} {items = items} {tokens = tokens} reading some next read =
    sym reading.same ∙ (more-read n separator item items tokens some next ∙ rw read refl)

pub ends : {A : Type 0} {n : ℕ} {separator : List ℕ} {item : A → Rule A} {whole : Option A × List Token} {items : A} {tokens : List Token}
    → IsReading n separator item whole items tokens → is_next separator tokens ≡ false → whole ≡ (Some items, tokens)
ends {n = n} {separator = separator} {item = item} {items = items} {tokens = tokens} reading other = sym reading.same ∙ more-ended n separator item items tokens other

pub is_full : {A : Type 0} {n : ℕ} {separator : List ℕ} {item : A → Rule A} {whole : Option A × List Token} {items : A} {tokens : List Token}
    → IsReading n separator item whole items tokens → n ≡ 0 → whole ≡ (Some items, tokens)
is_full {n = n} {separator = separator} {item = item} {items = items} {tokens = tokens} reading none = sym reading.same ∙ more-none n separator item items tokens none
