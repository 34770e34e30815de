-- Refusals: an outcome is a value, or the status word of the first refusal that applies.
use Rattle.std.specs.Prelude.{Bool, true, false, Option, Some, None, Result, Ok, Err}
use Rattle.scql_base.specs.declared.words.StatusWord.{StatusWord}

infixl 10 ◌>>=◌
abbrev pub ◌>>=◌ : {A B : Type 0} → Result A StatusWord → (A → Result B StatusWord) → Result B StatusWord
(Ok x) >>= f = f x
(Err word) >>= f = Err word

-- the value, or where there is none a refusal
abbrev pub or_refused : {A : Type 0} → Option A → StatusWord → Result A StatusWord
or_refused None word = Err word
or_refused (Some x) word = Ok x

-- what is asked holds, or the command is refused
abbrev pub provided : Bool → StatusWord → Result (Unit {0}) StatusWord
provided true word = Ok tt
provided false word = Err word
