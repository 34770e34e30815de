-- Lemmas, in specs/ since the ghost members of the desk cite them.
use Rattle.std.proofs.Common.{◌≡◌, ℕ, Bool, sym, ap, subst, arith}
use Rattle.std.proofs.lemmas.Option.{none-some}
use Rattle.eeprom.specs.Chip.{LeftSince, MayBeLeftSince}
use Rattle.scql_model.specs.Machine.{Machine}
use Rattle.card_link.specs.Link.{AfterOutput, LeavesOpen}
use Rattle.scql_model.specs.Database.{Database}
use Rattle.reader_rack.specs.Desks.{untold}

-- where nothing is told, nothing is left
pub leaves-untold : (P : ℕ → Database → Type 0) → LeavesOpen P untold untold
unfolding LeftSince MayBeLeftSince
leaves-untold P = record { later = omega arith; only = λ t g left early there. absurd there; stays = λ t g left early there. tt; now = λ image is. absurd (none-some image is) }

-- what leaves the link is a piece of output that leaves the card
pub gives-untold : {D L : Type 0} (link : D → L) (is_at : L → Machine → Type 0) (is_live : L → Bool) (faults : L → ℕ) (old new : D) → link new ≡ link old
    → AfterOutput (λ d. is_at (link d)) (λ d. is_live (link d)) (λ d. faults (link d)) (λ d. 0) (λ d. untold) old new
gives-untold link is_at is_live faults old new same = record {
  machine = λ m at. subst (λ l. is_at l m) (sym same) at;
  live = ap is_live same;
  faults = ap faults same;
  later = omega arith;
  moments = λ m at. leaves-untold _;
}
