-- What a search for what an operation names answers.
use Rattle.std.specs.Prelude.{◌≡◌, Result, Ok, Err}
use Rattle.scql_base.specs.declared.words.StatusWord.{StatusWord}
use Rattle.record_table.specs.declared.stop.Stop.{Stop}
use Rattle.record_table.specs.declared.stop.Stop.TheVariants.{Refused, Fault}

-- It answers what there is, as `named` says, or is refused with the first word that applies; where the EEPROM fails nothing is said.
abbrev pub AnswersNamed : {S T : Type 0} → (T → S) → Result S StatusWord → Result T Stop → Type 0
AnswersNamed {S} {T} named outcome (Ok found) = outcome ≡ Ok (named found)
AnswersNamed {S} {T} named outcome (Err (Refused word)) = outcome ≡ Err word
AnswersNamed {S} {T} named outcome (Err Fault) = Unit {0}
