-- How a run of `migrate` ends, and what a power loss leaves at any moment of it.
use Rattle.std.specs.Prelude.{◌≡◌, ℕ, ◌+◌, ◌<◌, ◌≤◌, true, false, List, ◌∷◌, length, Option, Some, IsSome, IfSome}
use Rattle.eeprom.specs.Chip.{Chip, Throughout}
use Rattle.eeprom.specs.StoreOf.{row_limit, is_gate_open}
use Rattle.eeprom.specs.declared.layout.TheConstants.{MIGRATED_ROW_LIMIT}
use Rattle.migrate.specs.Migration.{KeepsAllElse}
use Rattle.record_store.specs.Recovery.{KeepsStore}
use Rattle.scql_model.specs.Database.{Database}
use Rattle.scql_model.specs.Migrating.{migrated, migrate_text, migrate_commits}
use Rattle.scql_model.specs.Opens.{Opens, OpensToOneOf}
use Rattle.program.specs.declared.status.Status.{Status}
use Rattle.program.specs.declared.status.Status.TheVariants.{Done, Eeprom, WriteFault, NoMemory}
use Rattle.card.specs.Opened.{IsOpenTo}
use Rattle.line_run.specs.CutOff.{IsCutShort}
use Rattle.program.specs.Ends.{AllFaults}
use Rattle.card_run.specs.Ends.{has_opened}
use Rattle.line_run.specs.Moments.{IfGiven}
use Rattle.card_run.specs.Run.{IsQuiet, AnswersAll}
use Rattle.eeprom.specs.Output.{Prints}

-- While a card of this database is migrated, from this mark on: the image opens to it, or to the one that is committed. At most the text goes out, and the first octet of it not before the rows are longer.
pub record IsInMigration (db : Database) (mark g : ℕ) (image : List ℕ) : Type 0 where
  pub later : mark ≤ g
  pub within : g ≤ mark + length (migrate_text db)
  pub opens : OpensToOneOf (db ∷ migrate_commits db) image
  pub done : mark < g → Opens image (migrated db)

-- where what was given is told, it is so at each moment
abbrev pub StaysMigrating : Database → Chip → Chip → Type 0
StaysMigrating db old new = IfGiven new (Throughout old new (IsInMigration db old.still.mark))

-- a migration that came to its end: the image, where told, opens to the database with the longer rows
abbrev pub IsMigratedFrom : Database → Chip → Type 0
IsMigratedFrom db new = IfSome new.image (λ image. Opens image (migrated db))

-- How a migration of this database ends so, where the EEPROM's count of faults goes from one number to another: with its text; or with the start of it, where the outlet alone fails; or without it, where the EEPROM fails, or memory is missing and the database stays.
abbrev pub MigratesTo : Status → ℕ → ℕ → Database → Option (List ℕ) → Chip → Type 0
MigratesTo Done from to db before now = Prints (migrate_text db) before now.still.given × IsMigratedFrom db now
MigratesTo WriteFault from to db before now = IsCutShort (migrate_text db) before now.still.given × IsMigratedFrom db now × (to ≡ from)
MigratesTo Eeprom from to db before now = (now.still.given ≡ before) × IfSome now.image (OpensToOneOf (db ∷ migrate_commits db))
MigratesTo NoMemory from to db before now = (now.still.given ≡ before) × IfSome now.image (λ image. Opens image db)
MigratesTo status from to db before now = ⊥

-- Nothing is written: the EEPROM is as it was but for what went out, at each moment.
pub record WritesNothing (old new : Chip) : Type 0 where
  pub image : new.image ≡ old.image
  pub written : new.written ≡ old.written
  pub moments : Throughout old new (λ g left. old.image ≡ Some left)

-- nothing is written where the rows are long already
abbrev pub LeavesLongRows : Chip → Chip → Type 0
LeavesLongRows old new = (image : List ℕ) → old.image ≡ Some image → row_limit image ≡ MIGRATED_ROW_LIMIT → WritesNothing old new

-- at each moment from old on to new all octets but the version and the row limit are as they were
abbrev pub KeepsOthers : Chip → Chip → Type 0
KeepsOthers old new = Throughout old new (λ g left. (was : List ℕ) × (old.image ≡ Some was) × KeepsAllElse was left)

-- What a run of `migrate` owes that ended so.
pub record Migrates {S : Type 0} (status : Status) (before after : S) (old new : Chip) (was now : AllFaults) : Type 0 where
  -- It reads no input.
  pub source : after ≡ before
  -- Where it came to its text, a database was there.
  pub begins : has_opened status ≡ true → IsSome old.image → (db : Database) × IsOpenTo old db
  -- Over a database it ends with its text, or as a device or want of memory ends it;
  pub ends : (db : Database) → IsOpenTo old db → MigratesTo status was.eeprom now.eeprom db old.still.given new
  -- without a fault the output is exactly its text, or memory was missing.
  pub text : (db : Database) → IsOpenTo old db → IsQuiet was now → AnswersAll Done status (migrate_text db) old.still.given new.still.given
  -- At each moment a power loss leaves the database as it was, or with longer rows.
  pub moments : (db : Database) → IsOpenTo old db → StaysMigrating db old new
  -- An image whose rows are long already and whose gate is closed isn't written,
  pub already : (image : List ℕ) → old.image ≡ Some image → row_limit image ≡ MIGRATED_ROW_LIMIT → is_gate_open image ≡ false → WritesNothing old new
  -- and of any other no octets but the version and the row limit are, from the opening on.
  pub others : (opened : Chip) × KeepsStore old opened × KeepsOthers opened new
