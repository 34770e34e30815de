-- What a copy leaves of its two cards, and which of them failed where one did.
use Rattle.std.specs.Prelude.{◌≡◌, ◌⊎◌, ℕ, Bool, IsTrue, Result, Ok, Err}
use Rattle.scql_model.specs.Database.{Database}
use Rattle.scql_model.specs.Lives.{after_all}
use Rattle.scql_model.specs.Machine.{Machine}
use Rattle.card_link.specs.Link.{Mutes}
use Rattle.card_asking.specs.Calls.{StillAnswers}
use Rattle.card_asking.specs.Giving.{IsLike}
use Rattle.table_copy.specs.Copy.{Copy}
use Rattle.table_copy.specs.declared.copy_end.CopyEnd.{CopyEnd}
use Rattle.table_copy.specs.declared.copy_end.CopyEnd.TheVariants.{Copied, SourceMute, DestMute}

-- a link is at a machine that has the committed database of this one, and whose open transaction is the same channel's
pub record StaysAt {L : Type 0} (is_at : L → Machine → Type 0) (m : Machine) (now : L) : Type 0 where
  pub machine : Machine
  pub at : is_at now machine
  pub like : IsLike m machine

-- so it is, but that the committed database is this one
abbrev pub StandsAt : {L : Type 0} → (L → Machine → Type 0) → Machine → Database → L → Type 0
StandsAt is_at m db now = StaysAt is_at (record m { committed = db }) now

-- A destination that was at this machine: the copy ends as it is to, and all of it was committed. Where the source is mute all is as before.
abbrev pub CopiesSo : {L : Type 0} → (L → Machine → Type 0) → Machine → Copy → CopyEnd → L → Type 0
CopiesSo is_at d c DestMute now = Unit {0}
CopiesSo is_at d c SourceMute now = StaysAt is_at d now
CopiesSo is_at d c end now = (end ≡ c.ends) × StandsAt is_at d (after_all d.committed c.commits) now

-- whatever the source is, where the copy wasn't done a destination that answers is as before
abbrev pub UndoneSo : {L : Type 0} → (L → Machine → Type 0) → Machine → CopyEnd → L → Type 0
UndoneSo is_at d (Copied rows) now = Unit {0}
UndoneSo is_at d DestMute now = Unit {0}
UndoneSo is_at d end now = StaysAt is_at d now

-- a source that still answers stays as it was
abbrev pub ReadsSo : {L : Type 0} → (L → Machine → Type 0) → (L → Bool) → Machine → L → Type 0
ReadsSo is_at is_live s now = IsTrue (is_live now) → StaysAt is_at s now

-- A copy says that a card is mute only where it failed. The destination goes before the source.
abbrev pub EndsBy : {S D : Type 0} → (S → Bool) → (S → ℕ) → (D → Bool) → (D → ℕ) → CopyEnd → S → S → D → D → Type 0
EndsBy s_live s_faults d_live d_faults DestMute source next dest new = Mutes d_live d_faults dest new × (StillAnswers s_live s_faults source next ⊎ Mutes s_live s_faults source next)
EndsBy s_live s_faults d_live d_faults SourceMute source next dest new = Mutes s_live s_faults source next × StillAnswers d_live d_faults dest new
EndsBy s_live s_faults d_live d_faults end source next dest new = StillAnswers s_live s_faults source next × StillAnswers d_live d_faults dest new

-- so of a piece of it, which is done or ends the copy
abbrev pub GoesBy : {S D A : Type 0} → (S → Bool) → (S → ℕ) → (D → Bool) → (D → ℕ) → Result A CopyEnd → S → S → D → D → Type 0
GoesBy s_live s_faults d_live d_faults (Ok x) source next dest new = StillAnswers s_live s_faults source next × StillAnswers d_live d_faults dest new
GoesBy s_live s_faults d_live d_faults (Err (Copied rows)) source next dest new = ⊥
GoesBy s_live s_faults d_live d_faults (Err end) source next dest new = EndsBy s_live s_faults d_live d_faults end source next dest new
