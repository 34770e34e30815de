-- What the slots of a card hold, as far as they were read.
use Rattle.std.specs.Prelude.{◌≡◌, ℕ, suc, ◌+◌, ◌*◌, ◌&&◌, Bool, true, List, [], ◌∷◌, Option, option_map, unwrap_or}
use Rattle.std.specs.Option.{option_or, option_map_or}
use Rattle.std.specs.List.{cons_option}
use Rattle.eeprom.specs.Chip.{RisesBy}
use Rattle.eeprom.specs.StoreOf.{Slots}
use Rattle.eeprom.specs.Slots.{AreApart, in_order, in_slot}
use Rattle.record_store.specs.Opening.{front_octets}
use Rattle.scql_base.specs.declared.records.Object.{Object}
use Rattle.scql_base.specs.declared.records.RowRecord.{RowRecord}
use Rattle.scql_model.specs.Records.{counter_record, user_record, grant_record, row_record, object_fits, counter_in, user_in, object_in, grant_in, row_in}
use Rattle.scql_model.specs.Rules.{is_short, is_within_limit, owner}
use Rattle.scql_model.specs.Database.{Database, weight}
use Rattle.scql_model.specs.Opens.{is_spelled}
use Rattle.card.specs.declared.kept_record.KeptRecord.{KeptRecord}
use Rattle.card.specs.declared.kept_record.KeptRecord.TheVariants as kept_as
use Rattle.card.specs.KeptRecords.{stamp_of, users_in, objects_in, grants_in, rows_in}
use Rattle.card.specs.Validity.{is_valid_database}

-- what a reader gives of a slot passes a test, where it gives something
abbrev pub gives_only : {X : Type 0} → (X → Bool) → (List ℕ → Option X) → Option (List ℕ) → Bool
gives_only test read v = option_map_or test (in_slot read v) true

-- an object within its limits whose record isn't too long
abbrev pub is_sound_object : Object → Bool
is_sound_object o = object_fits o && is_short o

-- a row within the limits of rows and those of a card with this row limit
abbrev pub is_sound_row : ℕ → RowRecord → Bool
is_sound_row limit r = row_record.fits r && is_within_limit limit r

-- An empty slot, or the record of some kind within its limits, on a card with this row limit.
abbrev pub is_admitted : ℕ → Option (List ℕ) → Bool
is_admitted limit v =
    is_spelled v && (gives_only counter_record.fits counter_in v && (gives_only user_record.fits user_in v && (gives_only is_sound_object object_in v
    && (gives_only grant_record.fits grant_in v && gives_only (is_sound_row limit) row_in v))))

-- the record in a slot, where it isn't the counter
abbrev pub record_in : ℕ → List ℕ → Option KeptRecord
record_in slot octets =
    option_or (option_map kept_as.User (user_in octets)) (option_or (option_map kept_as.Object (object_in octets))
    (option_or (option_map kept_as.Grant (grant_in octets)) (option_map (kept_as.Row slot) (row_in octets))))

-- the same where there is one
abbrev pub record_of : ℕ → List ℕ → KeptRecord
record_of slot octets = unwrap_or (record_in slot octets) (kept_as.User owner)

-- the records in slots but for the counter; the first slot has this number
abbrev pub gathered : ℕ → Slots → List KeptRecord
gathered slot [] = []
gathered slot (v ∷ slots) = cons_option (in_slot (record_in slot) v) (gathered (suc slot) slots)

-- Records, in any order, of which no two have one stamp, and which pass the test of a valid database.
pub record PassTest (next : ℕ) (records : List KeptRecord) : Type 0 where
  pub apart : AreApart stamp_of records
  pub valid : is_valid_database next (users_in (in_order stamp_of records)) (objects_in (in_order stamp_of records)) (grants_in (in_order stamp_of records)) (rows_in (in_order stamp_of records)) ≡ true

-- So many octets are read where a card is opened at this database: those that begin its image, and as many as the cells of its records have.
abbrev pub ReadsCard : Database → ℕ → ℕ → Type 0
ReadsCard db = RisesBy (front_octets db.cells + 32 * weight db)
