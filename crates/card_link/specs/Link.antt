-- What a call of a link makes of its card, and which moments it adds.
use Rattle.std.specs.Prelude.{◌≡◌, ◌⊎◌, ℕ, ◌≤◌, Bool, true, false, List, [], ◌∷◌, IfSome}
use Rattle.eeprom.specs.Chip.{Chip, Throughout}
use Rattle.eeprom.specs.Fault.{Rose}
use Rattle.scql_model.specs.Replies.{Reply}
use Rattle.scql_model.specs.Database.{Database, IsValid}
use Rattle.scql_model.specs.Machine.{Machine, Transaction}
use Rattle.scql_model.specs.Opens.{Opens}
use Rattle.scql_model.specs.Sessions.{is_channel_open}
use Rattle.scql_model.specs.Step.{Answer}

-- the reply is that of a step of the machine, and the link is at the next machine
pub record Answered {L : Type 0} (is_at : L → Machine → Type 0) (answer : Answer) (heard : Reply) (link : L) : Type 0 where
  pub reply : heard ≡ answer.reply
  pub at : is_at link answer.machine

-- a card answers no more, and its count rose
pub record Mutes {L : Type 0} (is_live : L → Bool) (faults : L → ℕ) (old new : L) : Type 0 where
  pub gone : is_live new ≡ false
  pub rose : Rose (faults old) (faults new)
  pub later : faults old ≤ faults new

-- with this mark, the database is this one, or one of these
abbrev pub Holds : ℕ → Database → ℕ → Database → Type 0
Holds mark db g left = (g ≡ mark) × (left ≡ db)

abbrev pub IsOneOf : ℕ → List Database → ℕ → Database → Type 0
IsOneOf mark [] g left = ⊥
IsOneOf mark (db ∷ dbs) g left = Holds mark db g left ⊎ IsOneOf mark dbs g left

-- with a mark between two, the database is this one
pub record HoldsWithin (from to : ℕ) (db : Database) (g : ℕ) (left : Database) : Type 0 where
  pub above : from ≤ g
  pub below : g ≤ to
  pub same : left ≡ db

-- From old on to new, each image that a power loss may leave opens to a database that has P with its mark.
abbrev pub LeavesOpen : (ℕ → Database → Type 0) → Chip → Chip → Type 0
LeavesOpen P old new = Throughout old new (λ g left. (db : Database) × Opens left db × P g db)

-- what a piece of output leaves of a link
pub record AfterOutput {L : Type 0} (is_at : L → Machine → Type 0) (is_live : L → Bool) (count mark : L → ℕ) (chip : L → Chip) (old new : L) : Type 0 where
  pub machine : (m : Machine) → is_at old m → is_at new m
  pub live : is_live new ≡ is_live old
  pub faults : count new ≡ count old
  pub later : mark old ≤ mark new
  pub moments : (m : Machine) → is_at old m → LeavesOpen (HoldsWithin (mark old) (mark new) m.committed) (chip old) (chip new)

-- The committed database is valid, and so is that of a transaction. Channel 0 is open, as it always is.
pub record HasValidData (m : Machine) : Type 0 where
  pub committed : IsValid m.committed
  pub transaction : IfSome m.transaction (λ (t : Transaction). IsValid t.working)
  pub basic : is_channel_open m 0 ≡ true
