-- Calls that follow one another.
use Rattle.std.proofs.Common.{◌≡◌, ℕ, ◌≤◌, Bool, Result, Err, refl, sym, ◌∙◌, subst}
use Rattle.eeprom.specs.Chip.{Chip}
use Rattle.eeprom.specs.Fault.{Rose}
use Rattle.scql_base.specs.Words.{memory_failure}
use Rattle.scql_model.specs.Database.{Database}
use Rattle.scql_model.specs.Replies.{Reply, said}
use Rattle.card_link.specs.Link.{Holds, LeavesOpen, Mutes}
use Rattle.card_asking.specs.Calls.{AskingLeaves, HasGoneOn, StillAnswers}
use Rattle.card_asking.specs.declared.mute.Mute.{Mute}
use Rattle.card_asking.proofs.Moments.{leaves-all, leaves-both}

pub rest-same : {L : Type 0} (mark : L → ℕ) (keeps goes_on : L → L → Type 0) (l : L) → keeps l l → goes_on l l → HasGoneOn mark keeps goes_on l l
rest-same mark keeps goes_on l kept goes = record { marked = refl; kept = kept; goes = goes }

pub rest-both : {L : Type 0} (mark : L → ℕ) (keeps goes_on : L → L → Type 0) (old mid new : L) → (keeps old mid → keeps mid new → keeps old new) → (goes_on old mid → goes_on mid new → goes_on old new) → HasGoneOn mark keeps goes_on old mid
    → HasGoneOn mark keeps goes_on mid new → HasGoneOn mark keeps goes_on old new
rest-both mark keeps goes_on old mid new keeps-both goes-both first second =
    record { marked = second.marked ∙ first.marked; kept = keeps-both first.kept second.kept; goes = goes-both first.goes second.goes }

-- the database is one all along
pub holds-both : {L : Type 0} (chip : L → Chip) (mark : L → ℕ) (db : Database) (old mid new : L) → mark mid ≡ mark old → LeavesOpen (Holds (mark old) db) (chip old) (chip mid) → LeavesOpen (Holds (mark mid) db) (chip mid) (chip new)
    → LeavesOpen (Holds (mark old) db) (chip old) (chip new)
holds-both chip mark db old mid new marked first second =
    leaves-both chip (Holds (mark old) db) old mid new first (leaves-all chip (Holds (mark mid) db) (Holds (mark old) db) mid new (λ n left is. (is.0 ∙ marked, is.1)) second)

pub answers-both : {L : Type 0} (is_live : L → Bool) (faults : L → ℕ) (old mid new : L) → StillAnswers is_live faults old mid → StillAnswers is_live faults mid new → StillAnswers is_live faults old new
answers-both is_live faults old mid new first second = record { live = second.live; same = second.same ∙ first.same }

-- a card failed behind calls that it answered
pub mutes-then : {L : Type 0} (is_live : L → Bool) (faults : L → ℕ) (old mid new : L) → StillAnswers is_live faults old mid → Mutes is_live faults mid new → Mutes is_live faults old new
mutes-then is_live faults old mid new first mutes = record {
  gone = mutes.gone;
  rose = subst (λ n. Rose n (faults new)) first.same mutes.rose;
  later = subst (λ n. n ≤ faults new) first.same mutes.later;
}

-- a card that is mute ends what it was asked for
pub leaves-mute : {L A : Type 0} (is_live : L → Bool) (faults mark : L → ℕ) (keeps goes_on : L → L → Type 0) (result : Result A Mute) (e : Mute) (reply : Reply) (old new : L) → result ≡ Err e → Mutes is_live faults old new × (reply ≡ said memory_failure)
    → HasGoneOn mark keeps goes_on old new → AskingLeaves is_live faults mark keeps goes_on result reply old new
leaves-mute {L} {A} is_live faults mark keeps goes_on result e reply old new is mute rest =
    subst (λ (r : Result A Mute). AskingLeaves is_live faults mark keeps goes_on r reply old new) (sym is) (record { replied = tt; mute = mute; rest = rest })
