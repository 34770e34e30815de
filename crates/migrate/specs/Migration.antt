-- What a migration makes of an image, and what a power loss may leave of it.
use Rattle.std.specs.Prelude.{◌≡◌, ◌⊎◌, ℕ, ◌%◌, ◌==◌, Bool, true, if◌then◌else◌, List, length, take, drop, slice_index, slice_range, Option, Some, option_map, Result, IfSome, IfOk, OnOk, is_some}
use Rattle.eeprom.specs.Calls.{ReadsOnly}
use Rattle.eeprom.specs.Chip.{Chip, Becomes, LeavesOf, RisesBy}
use Rattle.eeprom.specs.Fault.{Counts, each_error}
use Rattle.eeprom.specs.declared.layout.TheConstants.{MIGRATED_ROW_LIMIT, ROW_LIMIT}
use Rattle.eeprom.specs.StoreOf.{Stored, row_limit, store_of}

-- an even version says that the card wasn't migrated
abbrev pub has_even_version : List ℕ → Bool
has_even_version image = slice_index image 5 % 2 == 0

-- all octets but the version and the two that repeat the row limit are as they were
pub record KeepsAllElse (was left : List ℕ) : Type 0 where
  pub size : length left ≡ length was
  pub before_version : take 5 left ≡ take 5 was
  pub between : slice_range left 6 9 ≡ slice_range was 6 9
  pub behind_limit : drop 11 left ≡ drop 11 was

-- the same slots, with rows of at most so many octets
abbrev pub with_rows_up_to : ℕ → Stored → Stored
with_rows_up_to limit stored = record stored { row_limit = limit }

-- the version of a migrated card is 01, and behind the gate the row limit is repeated
pub record HasLongRows (now : List ℕ) : Type 0 where
  pub version : slice_index now 5 ≡ 0x01
  pub limit_high : slice_index now 9 ≡ 0x03
  pub limit_low : slice_index now 10 ≡ 0xFC

-- after a migration the store is the one from before, with the longer rows; and where the version was even it is that of a migrated card
pub record IsMigrated (was now : List ℕ) : Type 0 where
  pub rest : KeepsAllElse was now
  pub octets : has_even_version was ≡ true → HasLongRows now
  pub store : store_of now ≡ option_map (with_rows_up_to MIGRATED_ROW_LIMIT) (store_of was)

-- during a migration the store is the one from before, or the one with the longer rows
pub record IsBetweenVersions (was left : List ℕ) : Type 0 where
  pub rest : KeepsAllElse was left
  pub one : (store_of left ≡ store_of was) ⊎ (store_of left ≡ option_map (with_rows_up_to MIGRATED_ROW_LIMIT) (store_of was))

-- A card is migrated, once: it is answered whether it wasn't before.
pub record Migrates {S E : Type 0} (chip : S → Chip) (faults : S → ℕ) (octets : S → Option ℕ) (old new : S) (result : Result Bool E) : Type 0 where
  pub migrates : IfOk result (λ migrates. IfSome (chip old).image (λ image. migrates ≡ (row_limit image == ROW_LIMIT)))
  pub done : OnOk result (Becomes IsMigrated (chip old).image (chip new).image)
  pub told : OnOk result (is_some (chip new).image ≡ is_some (chip old).image)
  -- A card that was migrated stays as it is.
  pub already : (image : List ℕ) → (chip old).image ≡ Some image → row_limit image ≡ MIGRATED_ROW_LIMIT → chip new ≡ chip old
  pub still : (chip new).still ≡ (chip old).still
  -- At each moment it has one version or the other.
  pub moments : LeavesOf IsBetweenVersions (chip old) (chip new)
  pub octets_written : IfOk result (λ migrates. Becomes (RisesBy (if migrates then 3 else 0)) (chip old).written (chip new).written)
  pub octets_read : Becomes (RisesBy 1) (octets old) (octets new)
  pub cause : Counts (faults old) (faults new) result

-- The version is read.
pub record ReadsVersion {S E : Type 0} (chip : S → Chip) (faults : S → ℕ) (octets : S → Option ℕ) (old new : S) (result : Result Bool E) : Type 0 where
  pub version : IfOk result (λ is_even. IfSome (chip old).image (λ image. is_even ≡ has_even_version image))
  pub reads : ReadsOnly each_error chip faults octets (RisesBy 1) old new result
