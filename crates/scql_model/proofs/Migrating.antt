-- An image with the same records and longer rows opens to the same database with longer rows.
use Rattle.std.proofs.Common.{◌≡◌, ◌⊎◌, inl, inr, ℕ, ◌≤◌, ◌==◌, ◌||◌, Bool, true, false, if◌then◌else◌, List, Option, Some, None, option_map, option_and_then, refl, sym, ap, ◌∙◌, arith}
use Rattle.std.proofs.lemmas.Option.{same_Some}
use Rattle.eeprom.specs.StoreOf.{Slots, Stored, store_of, starts_with_magic, has_header, number_at, row_limit, slots_at, directory}
use Rattle.scql_base.specs.declared.row.TheConstants.Row.{LARGEST, LARGEST_UNMIGRATED}
use Rattle.scql_base.specs.declared.records.RowRecord.{RowRecord}
use Rattle.scql_model.specs.Database.{Database, IsValid}
use Rattle.scql_model.specs.Rules.{is_within_limit}
use Rattle.scql_model.specs.Opens.{Opens}
use Rattle.scql_model.specs.Migrating.{migrated}
use Rattle.scql_model.proofs.LongerLists.{all-weaker}

-- the limit of a valid database is one of two
pub limit-cases : (limit : ℕ) → (limit == LARGEST_UNMIGRATED || limit == LARGEST) ≡ true → (limit ≡ 240) ⊎ (limit ≡ 1020)
limit-cases limit either = grind arith

-- a row of a valid database has at most 1,020 octets
longer-row : (limit : ℕ) → limit ≤ 1020 → (r : RowRecord) → is_within_limit limit r ≡ true → is_within_limit LARGEST r ≡ true
longer-row limit most r within = grind arith

most-limit : (db : Database) → IsValid db → db.limit ≤ 1020
most-limit db valid = elim (limit-cases db.limit valid.limit) [ inl short ↦ omega arith | inr long ↦ omega arith ]

pub IsValid-migrated : (db : Database) → IsValid db → IsValid (migrated db)
IsValid-migrated db valid = record {
  cells = valid.cells;
  limit = refl;
  next = valid.next;
  counter = valid.counter;
  stored = valid.stored;
  users = valid.users;
  objects = valid.objects;
  grants = valid.grants;
  rows = record {
    rises = valid.rows.rises;
    limits = valid.rows.limits;
    lengths = all-weaker (is_within_limit db.limit) (is_within_limit LARGEST) db.rows (longer-row db.limit (most-limit db valid)) valid.rows.lengths;
    tables = valid.rows.tables;
  };
}

-- the same records, and rows of at most 1,020 octets
pub Opens-migrated : (was left : List ℕ) (db : Database) → (opens : Opens was db) → store_of left ≡ Some (record opens.store { row_limit = 1020 }) → Opens left (migrated db)
Opens-migrated was left db opens stored = record {
  store = record opens.store { row_limit = 1020 };
  stored = stored;
  limit = refl;
  holds = record {
    cells = opens.holds.cells;
    spelled = opens.holds.spelled;
    counter = opens.holds.counter;
    users = opens.holds.users;
    objects = opens.holds.objects;
    grants = opens.holds.grants;
    rows = opens.holds.rows;
  };
  valid = IsValid-migrated db opens.valid;
}

-- the row limit of a store is that of its image
row_limit-store : (image : List ℕ) (store : Stored) → store_of image ≡ Some store → store.row_limit ≡ row_limit image
row_limit-store image store is = of (starts_with_magic image) (has_header image) (option_and_then (slots_at image (number_at image 6)) (directory image (number_at image 6))) (row_limit image) is
  where
    of : (magic header : Bool) (slots : Option Slots) (limit : ℕ)
        → (if magic then (if header then option_map (λ (slots : Slots). let made : Stored = record { row_limit = limit; slots = slots } in made) slots else None) else None) ≡ Some store → store.row_limit ≡ limit
    of false header slots limit is = absurd (cc)
    of true false slots limit is = absurd (cc)
    of true true None limit is = absurd (cc)
    of true true (Some slots) limit is = ap (λ (s : Stored). s.row_limit) (sym (same_Some _ _ is))

-- and so is the limit of a database to which it opens
pub limit-opens : (image : List ℕ) (db : Database) → Opens image db → db.limit ≡ row_limit image
limit-opens image db opens = opens.limit ∙ row_limit-store image opens.store opens.stored
