-- How the making of a store ends.
use Rattle.std.specs.Prelude.{◌≡◌, ◌↔◌, ℕ, ◌<◌, ◌≤◌, List, length, Some, false, Result, option_map, take, drop, IfSome, OnOk, IsErrOf}
use Rattle.eeprom.specs.Chip.{Chip, Keeps}
use Rattle.eeprom.specs.Fault.{Counts, CountsFaults}
use Rattle.eeprom.specs.Frame.{HasRoom}
use Rattle.eeprom.specs.Image.{overwrite}
use Rattle.eeprom.specs.StoreOf.{fewest_cells, most_cells, starts_with_magic, store_of, fresh_store, image_size}
use Rattle.record_store.specs.Faults.{is_format_fault}
use Rattle.record_store.specs.FreshImage.{LeavesFormatted, LeavesCleared, fresh_image, fresh_body, one_cell_record}
use Rattle.record_store.specs.declared.refusal.FormatRefusal.{FormatRefusal}
use Rattle.record_store.specs.declared.refusal.FormatRefusal.TheVariants.{TooSmall}

-- A new store of so many cells has these two records.
pub record Formats {S T : Type 0} (chip : S → Chip) (faults : S → ℕ) (n : ℕ) (first second : List ℕ) (before after : S) (result : Result T FormatRefusal) : Type 0 where
  pub image : OnOk result ((chip after).image ≡ option_map (λ image. overwrite image 0 (fresh_image n first second)) (chip before).image)
  pub formatted : OnOk result (IfSome (chip after).image (λ image. store_of image ≡ Some (fresh_store n first second)))
  pub still : (chip after).still ≡ (chip before).still
  -- At each moment the store is what it was, or none, or the new one,
  pub moments : LeavesFormatted n first second (chip before) (chip after)
  -- and nothing is written behind the image.
  pub behind : Keeps (drop (image_size n)) (chip before) (chip after)
  -- It is refused exactly where the EEPROM has no room for it.
  pub too_small : IsErrOf result TooSmall ↔ ((chip before).still.size < image_size n)
  pub unchanged : IsErrOf result TooSmall → after ≡ before
  pub cause : CountsFaults is_format_fault (faults before) (faults after) result

-- What an image with a store begins with is taken away.
pub record ClearsFront {S T E : Type 0} (chip : S → Chip) (faults : S → ℕ) (before after : S) (result : Result T E) : Type 0 where
  pub cleared : OnOk result (IfSome (chip after).image (λ image. starts_with_magic image ≡ false))
  -- All behind it stays.
  pub rest : OnOk result (option_map (λ image. drop 4 image) (chip after).image ≡ option_map (λ image. drop 4 image) (chip before).image)
  pub still : (chip after).still ≡ (chip before).still
  pub moments : LeavesCleared (chip before) (chip after)
  pub behind : (limit : ℕ) → 4 ≤ limit → Keeps (drop limit) (chip before) (chip after)
  pub cause : Counts (faults before) (faults after) result

-- All is written that comes behind the first four octets of a new store.
pub record WritesBody {S T E : Type 0} (chip : S → Chip) (faults : S → ℕ) (n : ℕ) (first second : List ℕ) (before after : S) (result : Result T E) : Type 0 where
  pub image : OnOk result ((chip after).image ≡ option_map (λ image. overwrite image 4 (fresh_body n first second)) (chip before).image)
  -- What comes before it stays, and what comes behind the image.
  pub front : Keeps (take 4) (chip before) (chip after)
  pub behind : Keeps (drop (image_size n)) (chip before) (chip after)
  pub cause : Counts (faults before) (faults after) result

-- The body of a new store may be written: it has so many cells, for which the EEPROM has room, and two records of one cell each.
pub record MayWriteBody (n : ℕ) (one another : List ℕ) (chip : Chip) : Type 0 where
  pub few : fewest_cells ≤ n
  pub many : n ≤ most_cells
  pub first : length one ≤ one_cell_record
  pub second : length another ≤ one_cell_record
  pub room : HasRoom n chip

-- A store may be made: it has so many cells, and two records of one cell each, which aren't empty.
pub record MayFormat (n : ℕ) (one another : List ℕ) : Type 0 where
  pub few : fewest_cells ≤ n
  pub many : n ≤ most_cells
  pub first : (1 ≤ length one) × (length one ≤ one_cell_record)
  pub second : (1 ≤ length another) × (length another ≤ one_cell_record)
