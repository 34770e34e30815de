-- How many exchanges there are.
use Rattle.std.proofs.Common.{◌≡◌, ℕ, suc, true, false, List, [], ◌∷◌, ◌++◌, length, refl, ap, ◌∙◌}
use Rattle.audit_run.specs.Transcript.{Entry, input, output, neither, Exchange, entry_of, exchange_at, exchanges_from, is_input}

with_first : (n k : ℕ) (entry : Entry) (rest : List (List ℕ)) (xs ys : List Exchange) → length xs ≡ length ys → length (exchange_at n entry rest ++ xs) ≡ length (exchange_at k entry rest ++ ys)
with_first n k (input text) rest xs ys same = ap suc same
with_first n k (output text) rest xs ys same = same
with_first n k neither rest xs ys same = same

-- whatever the number of the first line is
pub count-number : (n k : ℕ) (lines : List (List ℕ)) → length (exchanges_from n lines) ≡ length (exchanges_from k lines)
count-number n k [] = refl
count-number n k (line ∷ rest) = with_first n k (entry_of line) rest (exchanges_from (suc n) rest) (exchanges_from (suc k) rest) (count-number (suc n) (suc k) rest)

-- a line of input begins one more, and every other line none
pub count-input : (line : List ℕ) (rest : List (List ℕ)) → is_input (entry_of line) ≡ true → length (exchanges_from 1 (line ∷ rest)) ≡ suc (length (exchanges_from 1 rest))
count-input line rest is = of_input (entry_of line) is ∙ ap suc (count-number 2 1 rest) where
  of_input : (entry : Entry) → is_input entry ≡ true → length (exchange_at 1 entry rest ++ exchanges_from 2 rest) ≡ suc (length (exchanges_from 2 rest))
  of_input (input text) is = refl
  of_input (output text) is = absurd cc
  of_input neither is = absurd cc

pub count-other : (line : List ℕ) (rest : List (List ℕ)) → is_input (entry_of line) ≡ false → length (exchanges_from 1 (line ∷ rest)) ≡ length (exchanges_from 1 rest)
count-other line rest is = of_other (entry_of line) is ∙ count-number 2 1 rest where
  of_other : (entry : Entry) → is_input entry ≡ false → length (exchange_at 1 entry rest ++ exchanges_from 2 rest) ≡ length (exchanges_from 2 rest)
  of_other (input text) is = absurd cc
  of_other (output text) is = refl
  of_other neither is = refl
