-- A card together with the bench that it answers over.
use Rattle.std.specs.Prelude.{◌≡◌, ℕ, ◌≤◌, false, IsTrue}
use Rattle.eeprom.specs.Chip.{Chip, Throughout}
use Rattle.scql_model.specs.Machine.{Machine}
use Rattle.card.specs.Behind.{KeepsBehind}
use Rattle.card.specs.Card.{Kept, IsAt, IsReady}

-- the card, the bench as it is now, and the name of the reference to it
pub record OnBench (B : Type 0) : Type 0 where
  pub card : Kept
  pub bench : B
  pub name : ℕ

-- the card is ready, and at this machine
pub record IsReadyAt (card : Kept) (chip : Chip) (m : Machine) : Type 0 where
  pub ready : IsReady card chip
  pub at : IsAt card chip m

-- What calls keep: a card that answers has answered before and has its number of cells still, and nothing is written behind its image. A card that is mute
-- writes nothing at all. No moment has a later mark than there is now.
pub record Lasts (was now : Kept) (old new : Chip) : Type 0 where
  pub live : IsTrue now.live → IsTrue was.live
  pub cells : IsTrue now.live → now.store.chains.cells ≡ was.store.chains.cells
  pub behind : KeepsBehind (λ image. was.store.chains.cells) old new
  pub mute : was.live ≡ false → (cells : ℕ) → KeepsBehind (λ image. cells) old new
  pub later : old.still.mark ≤ new.still.mark
  pub marks : Throughout old new (λ g left. g ≤ new.still.mark)

-- the same of a card on its bench, which is the same reference still
pub record LastsOn {B : Type 0} (chip : B → Chip) (old new : OnBench B) : Type 0 where
  pub name : new.name ≡ old.name
  pub lasts : Lasts old.card new.card (chip old.bench) (chip new.bench)

-- a piece of output goes out, and the card stays
pub record LeavesCard {B : Type 0} (leaves : B → B → Type 0) (old new : OnBench B) : Type 0 where
  pub name : new.name ≡ old.name
  pub card : new.card ≡ old.card
  pub bench : leaves old.bench new.bench

-- nothing is given, and the outlet doesn't fail
abbrev pub KeepsStill : {B : Type 0} → (B → Chip) → OnBench B → OnBench B → Type 0
KeepsStill chip old new = (chip new.bench).still ≡ (chip old.bench).still
