-- A card together with its EEPROM that has a log and a text.
use Rattle.std.specs.Prelude.{◌≡◌, ℕ, Bool, List, Option}
use Rattle.std.proofs.Common.{refl}
use Rattle.std.specs.Coded.{Coded, code_by, coded×}
use Rattle.eeprom.specs.Chip.{Chip}
use Rattle.scql_model.specs.Machine.{Machine}
use Rattle.card.specs.contracts.card.Card as card
use Rattle.card.specs.Card.{Kept}
use Rattle.card.specs.LiveCard.{IsReadyAt}
use Rattle.line_bench.specs.contracts.line_bench.LineBench as bench
use Rattle.line_bench.specs.LineBench as line_bench
use Rattle.line_bench.specs.LineBench.{LeavesLog, chip_of, given_of}
use Rattle.line_bench.specs.declared.line_bench.LineBench.{LineBench}

pub record OnLog : Type 0 where
  pub card : Kept
  pub bench : LineBench

-- by which proofs tell them apart
abbrev pub on_log_code : Coded OnLog
on_log_code = code_by (Kept × LineBench) (coded× card.the_row.coded bench.the_row.coded) (λ d. (d.card, d.bench)) (λ p. record { card = p.0; bench = p.1 }) (λ d. refl)

-- as a link and an outlet tell of them
abbrev pub IsDeskAt : OnLog → Machine → Type 0
IsDeskAt d m = IsReadyAt d.card (chip_of d.bench) m

abbrev pub is_live : OnLog → Bool
is_live d = d.card.live

abbrev pub faults_of : OnLog → ℕ
faults_of d = line_bench.faults_of d.bench

abbrev pub desk_chip : OnLog → Chip
desk_chip d = chip_of d.bench

abbrev pub mark_of : OnLog → ℕ
mark_of d = (desk_chip d).still.mark

abbrev pub given_by : OnLog → Option (List ℕ)
given_by d = given_of d.bench

abbrev pub text_faults_of : OnLog → ℕ
text_faults_of d = line_bench.text_faults_of d.bench

-- giving leaves the card
abbrev pub LeavesCard : OnLog → OnLog → Type 0
LeavesCard old new = (new.card ≡ old.card) × LeavesLog old.bench new.bench

-- log and text are begun anew, with room for a text of so many octets, and the card stays
pub record IsBegun (octets : ℕ) (old new : OnLog) : Type 0 where
  pub card : new.card ≡ old.card
  pub bench : line_bench.IsBegun octets old.bench new.bench
