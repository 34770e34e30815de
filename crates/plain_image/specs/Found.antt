-- What is found in the slots of a store.
use Rattle.std.specs.Prelude.{◌≡◌, ℕ, ◌≤◌, ◌&&◌, Bool, true, List, [], ◌∷◌, length, Option, Some, None, Result, IfOk, OnOk, is_some}
use Rattle.std.specs.List.{list_all}
use Rattle.std.specs.Option.{option_map_or}
use Rattle.eeprom.specs.StoreOf.{Slots, Stored}
use Rattle.eeprom.specs.Slots.{kept, put_in_order}
use Rattle.scql_base.specs.declared.records.User.{User}
use Rattle.scql_base.specs.declared.records.Object.{Object}
use Rattle.scql_base.specs.declared.records.Grant.{Grant}
use Rattle.scql_base.specs.declared.records.RowRecord.{RowRecord}
use Rattle.scql_model.specs.Records.{counter_in, user_in, object_in, grant_in, row_in, user_record, object_fits, grant_record, row_record}
use Rattle.scql_model.specs.Rules.{is_short}
use Rattle.scql_model.specs.Opens.{Holds, counter_stamp, is_spelled}
use Rattle.scql_model.specs.Database.{Database}
use Rattle.plain_image.specs.declared.counters.Counters.{Counters}
use Rattle.plain_image.specs.declared.counters.Counters.TheVariants.{Missing, Single, Several}

-- what is found, put in order before the first of a greater key
abbrev pub put_found : {X : Type 0} → (X → ℕ) → Option X → List X → List X
put_found key None xs = xs
put_found key (Some x) xs = put_in_order key x xs

-- the database of these records: of each kind those that its reader finds in the slots
abbrev pub records_in : ℕ → ℕ → Slots → Database
records_in cells limit slots = record {
  cells = cells;
  limit = limit;
  next = 2;
  users = kept (λ (u : User). u.stamp) user_in slots;
  objects = kept (λ (o : Object). o.stamp) object_in slots;
  grants = kept (λ (g : Grant). g.stamp) grant_in slots;
  rows = kept (λ (r : RowRecord). r.stamp) row_in slots;
}

-- what is known of the counters found
abbrev pub AreCounters : Counters → List ℕ → Type 0
AreCounters Missing found = found ≡ []
AreCounters (Single next) found = found ≡ next ∷ []
AreCounters Several found = 2 ≤ length found

-- octets that are an object's aren't too many
abbrev pub is_short_object : List ℕ → Bool
is_short_object octets = option_map_or is_short (object_in octets) true

-- an empty slot, or the spelling of a record of some kind that isn't too long
abbrev pub is_admitted : Option (List ℕ) → Bool
is_admitted None = true
is_admitted (Some octets) = is_short_object octets && is_spelled (Some octets)

-- The records of a database are within the limits of their kinds.
pub record AreWithin (db : Database) : Type 0 where
  pub users : list_all user_record.fits db.users ≡ true
  pub objects : list_all object_fits db.objects ≡ true
  pub grants : list_all grant_record.fits db.grants ≡ true
  pub rows : list_all row_record.fits db.rows ≡ true

-- Octets were put among the records of a kind, where they are one.
pub record PutsFound {X E : Type 0} (fits : X → Bool) (found : Option X) (old new : List X) (result : Result Bool E) (put' : Type 0) : Type 0 where
  -- it is said whether they are one
  pub known : IfOk result (λ known. known ≡ is_some found)
  -- they were put
  pub put : OnOk result put'
  -- records that were within the limits of the kind are so still
  pub limits : list_all fits old ≡ true → OnOk result (list_all fits new ≡ true)

-- A database was filled from slots, which have these counters.
pub record IsFilledFrom (slots : Slots) (old new : Database) (told : Counters) : Type 0 where
  -- it has the records that are in the slots
  pub records : new ≡ records_in old.cells old.limit slots
  -- the counters in the slots are these
  pub counters : AreCounters told (kept counter_stamp counter_in slots)
  -- its records are within their limits
  pub limits : AreWithin new

-- A database is what is found in a store.
pub record IsFoundIn (store : Stored) (db : Database) : Type 0 where
  -- its rows have as many octets as those of the store
  pub limit : db.limit ≡ store.row_limit
  -- the slots hold it
  pub holds : Holds store.slots db
  -- its records are within their limits, and no object is too long
  pub limits : AreWithin db
  pub short : list_all is_short db.objects ≡ true
