-- What found no memory, where log and text were begun anew before: their counts of faults stay.
use Rattle.std.proofs.Common.{◌≡◌, ◌⊎◌, inl, inr, ℕ, false, subst, ◌∙◌}
use Rattle.eeprom.specs.Fault.{Rose}
use Rattle.line_bench.specs.LineBench.{KeepsFaults, faults_of, text_faults_of}
use Rattle.line_bench.specs.declared.line_bench.LineBench.{LineBench}
use Rattle.terminal.specs.declared.line_end.LineEnd.{LineEnd}
use Rattle.terminal.specs.declared.line_end.LineEnd.TheVariants as ends
use Rattle.terminal.specs.Line.{EndsBy}
use Rattle.card_c.specs.HeldCard.{LacksLog, LacksText}
use Rattle.card_c.specs.Lines.{status_in}
use Rattle.card_c.specs.OnLog.{OnLog, faults_of as desk_faults, is_live, text_faults_of as desk_text_faults}
use Rattle.card_c.specs.declared.status.TheConstants.{NO_MEMORY}

pub lacks-log : (old begun new : LineBench) → KeepsFaults old begun → Rose (faults_of begun) (faults_of new) → text_faults_of new ≡ text_faults_of begun → LacksLog old new
lacks-log old begun new keeps rose same = record { rose = subst (λ (before : ℕ). Rose before (faults_of new)) keeps.writes rose; texts = same ∙ keeps.texts }

pub lacks-text : (old begun new : LineBench) → KeepsFaults old begun → Rose (text_faults_of begun) (text_faults_of new) → faults_of new ≡ faults_of begun → LacksText old new
lacks-text old begun new keeps rose same = record { rose = subst (λ (before : ℕ). Rose before (text_faults_of new)) keeps.texts rose; writes = same ∙ keeps.writes }

-- a line that ends for want of memory
pub lacks-line : (end : LineEnd) (old : LineBench) (begun new : OnLog) → KeepsFaults old begun.bench → EndsBy is_live desk_faults desk_text_faults end begun new → status_in end ≡ NO_MEMORY
    → ((new.card.live ≡ false) × LacksLog old new.bench) ⊎ LacksText old new.bench
lacks-line ends.Answered old begun new keeps by is = absurd cc
lacks-line (ends.Refused why) old begun new keeps by is = absurd cc
lacks-line ends.Mute old begun new keeps by is = inl (by.0.gone, lacks-log old begun.bench new.bench keeps by.0.rose by.1)
lacks-line ends.SinkFault old begun new keeps by is = inr (lacks-text old begun.bench new.bench keeps by.0.rose by.0.same)
