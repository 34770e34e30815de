-- Answers to commands (ISO/IEC 7816-4, response APDU).
use Rattle.std.specs.Prelude.{ℕ, List, []}
use Rattle.scql_base.specs.declared.words.StatusWord.{StatusWord}

-- data octets and a status word
pub record Reply : Type 0 where
  pub body : List ℕ
  pub word : StatusWord

-- an answer without data
abbrev pub said : StatusWord → Reply
said word = record { body = []; word = word }
