-- What an EEPROM has become: its image, its output, and each stretch of time in which a power loss may have come.
use Rattle.std.specs.Prelude.{◌≡◌, ◌⊎◌, ℕ, ◌+◌, ◌≤◌, List, [], ◌∷◌, ◌++◌, length, drop, Option, Some, IfSome, MatchOption}
use Rattle.eeprom.specs.Image.{IsTorn}

-- the time of a write of so many octets at a place of an image
pub record Writing : Type 0 where
  pub image : List ℕ
  pub at : ℕ
  pub count : ℕ
  pub mark : ℕ

-- a stretch of time: a write is under way, or a piece of output goes out while the image stays
pub data Stretch : Type 0 where
  writing : Writing → Stretch
  giving : (image : List ℕ) (from to : ℕ) → Stretch

-- a power loss in that stretch, while the mark is g, may leave this image
abbrev pub MayLeave : Stretch → ℕ → List ℕ → Type 0
MayLeave (writing w) g left = (g ≡ w.mark) × IsTorn w.image w.at w.count left
MayLeave (giving image from to) g left = (from ≤ g) × (g ≤ to) × (left ≡ image)

-- in one of these stretches
abbrev pub LeftIn : List Stretch → ℕ → List ℕ → Type 0
LeftIn [] g left = ⊥
LeftIn (stretch ∷ past) g left = MayLeave stretch g left ⊎ LeftIn past g left

-- what no call of an EEPROM changes
pub record Still : Type 0 where
  pub size : ℕ
  -- how many octets of output had gone out
  pub mark : ℕ
  pub given : Option (List ℕ)
  pub sink_faults : ℕ

pub record Chip : Type 0 where
  pub still : Still
  pub image : Option (List ℕ)
  -- how many octets were written
  pub written : Option ℕ
  pub clock : ℕ
  pub past : Option (List Stretch)

-- at a moment since t, while the mark was g, a power loss may leave this image
unfoldable pub LeftSince : Chip → ℕ → ℕ → List ℕ → Type 0
LeftSince chip t g left =
    MatchOption chip.past ⊥ (λ past. ((chip.image ≡ Some left) × (g ≡ chip.still.mark)) ⊎ LeftIn (drop t past) g left)

-- the same, as far as the moments are told: where they aren't, nothing is said
unfoldable pub MayBeLeftSince : Chip → ℕ → ℕ → List ℕ → Type 0
MayBeLeftSince chip t g left = IfSome chip.past (λ past. ((chip.image ≡ Some left) × (g ≡ chip.still.mark)) ⊎ LeftIn (drop t past) g left)

-- what is told afterwards was told before, and is this of it
abbrev pub Becomes : {A B : Type 0} → (A → B → Type 0) → Option A → Option B → Type 0
Becomes {A} {B} step old new = (after : B) → new ≡ Some after → (before : A) × (old ≡ Some before) × step before after

-- a count rises by so many
abbrev pub RisesBy : ℕ → ℕ → ℕ → Type 0
RisesBy count before after = after ≡ before + count

-- a count rises by at most so many
abbrev pub RisesAtMost : ℕ → ℕ → ℕ → Type 0
RisesAtMost most before after = after ≤ before + most

-- time goes on by one stretch of the image as it is, or nothing happens
abbrev pub GoesOn : (List ℕ → Stretch) → Chip → Chip → Type 0
GoesOn stretch old new =
    Becomes (λ before after.
    ((image : List ℕ) × (old.image ≡ Some image) × (after ≡ before ++ stretch image ∷ [])) ⊎ ((after ≡ before) × (new.image ≡ old.image) × (new.still.mark ≡ old.still.mark))) old.past new.past

-- a write of these octets at this place, which lies within the image, whether it was done or failed
pub record Writes (at : ℕ) (octets : List ℕ) (old new : Chip) : Type 0 where
  pub within : IfSome old.image (λ image. at + length octets ≤ length image)
  pub still : new.still ≡ old.still
  pub written : Becomes (RisesBy (length octets)) old.written new.written
  pub image : Becomes (λ was now. IsTorn was at (length octets) now) old.image new.image
  pub later : old.clock ≤ new.clock
  pub past : GoesOn (λ image. writing (record { image = image; at = at; count = length octets; mark = old.still.mark })) old new

-- a piece of output: the mark rises, and the image stays
pub record Gives (old new : Chip) : Type 0 where
  pub size : new.still.size ≡ old.still.size
  pub image : new.image ≡ old.image
  pub written : new.written ≡ old.written
  pub mark : old.still.mark ≤ new.still.mark
  pub later : old.clock ≤ new.clock
  pub past : GoesOn (λ image. giving image old.still.mark new.still.mark) old new

-- while a piece of output goes out, up to this mark: the image stays
abbrev pub IsInPiece : Chip → ℕ → ℕ → List ℕ → Type 0
IsInPiece old to g left = (old.still.mark ≤ g) × (g ≤ to) × (old.image ≡ Some left)

-- from old on to new, each image that a power loss may leave has P; and each moment that was stays one
pub record Throughout (old new : Chip) (P : ℕ → List ℕ → Type 0) : Type 0 where
  pub later : old.clock ≤ new.clock
  pub only : (t g : ℕ) (left : List ℕ) → t ≤ old.clock → LeftSince new t g left → LeftSince old t g left ⊎ P g left
  pub stays : (t g : ℕ) (left : List ℕ) → t ≤ old.clock → MayBeLeftSince old t g left → MayBeLeftSince new t g left
  pub now : (image : List ℕ) → new.image ≡ Some image → P new.still.mark image

-- from old on to new nothing is given, and each image that a power loss may leave has P
abbrev pub Leaves : (List ℕ → Type 0) → Chip → Chip → Type 0
Leaves P old new = Throughout old new (λ g left. (g ≡ old.still.mark) × P left)

-- the same of the image that was there, where it was told, and the one that is left
abbrev pub LeavesOf : (List ℕ → List ℕ → Type 0) → Chip → Chip → Type 0
LeavesOf P old new = Throughout old new (λ g left. (g ≡ old.still.mark) × (was : List ℕ) × (old.image ≡ Some was) × P was left)

-- from old on to new, each image that a power loss may leave looks as the old one did, and each moment that was stays one; nothing is given
pub record Keeps {A : Type 0} (look : List ℕ → A) (old new : Chip) : Type 0 where
  pub still : new.still ≡ old.still
  pub image : Becomes (λ was now. look now ≡ look was) old.image new.image
  pub later : old.clock ≤ new.clock
  pub only : (t g : ℕ) (left : List ℕ) → t ≤ old.clock → LeftSince new t g left
      → LeftSince old t g left ⊎ ((g ≡ old.still.mark) × (was : List ℕ) × (old.image ≡ Some was) × (look left ≡ look was))
  pub stays : (t g : ℕ) (left : List ℕ) → t ≤ old.clock → MayBeLeftSince old t g left → MayBeLeftSince new t g left
