-- What is said of the answer to a command that stopped.
use Rattle.std.proofs.Common.{◌≡◌, Result, refl, sym, subst}
use Rattle.std.specs.Prelude.{IfOk}
use Rattle.eeprom.specs.declared.fault.EepromFault.{EepromFault}
use Rattle.scql_base.specs.declared.words.StatusWord.{StatusWord}
use Rattle.record_table.specs.Making.{stop_answer}
use Rattle.record_table.specs.declared.stop.Stop.{Stop}
use Rattle.record_table.specs.declared.stop.Stop.TheVariants.{Refused, Fault}

-- it holds where it holds at the word of each refusal
pub IfOk-stop_answer : (stop : Stop) (answer : Result StatusWord EepromFault) (P : StatusWord → Type 0) → answer ≡ stop_answer stop → ((word : StatusWord) → stop ≡ Refused word → P word) → IfOk answer P
IfOk-stop_answer (Refused word) answer P is each = subst (λ r. IfOk r P) (sym is) (each word refl)
IfOk-stop_answer Fault answer P is each = subst (λ r. IfOk r P) (sym is) tt
