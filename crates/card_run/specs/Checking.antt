-- How a run of `check` ends.
use Rattle.std.specs.Prelude.{◌≡◌, ℕ, true, List, Option, IsSome}
use Rattle.eeprom.specs.Chip.{Chip}
use Rattle.record_store.specs.Recovery.{KeepsStore}
use Rattle.scql_model.specs.Database.{Database}
use Rattle.card.specs.Counting.{check_text}
use Rattle.program.specs.declared.status.Status.{Status}
use Rattle.program.specs.declared.status.Status.TheVariants.{Done, Eeprom, WriteFault, NoMemory}
use Rattle.card.specs.Opened.{IsOpenTo}
use Rattle.line_run.specs.CutOff.{IsCutShort}
use Rattle.program.specs.Ends.{AllFaults}
use Rattle.card_run.specs.Ends.{has_opened}
use Rattle.card_run.specs.Migrating.{WritesNothing}
use Rattle.card_run.specs.Run.{AnswersAll, IsQuiet}
use Rattle.eeprom.specs.Output.{Prints}

-- How a check of this database ends so, where the EEPROM's count of faults goes from one number to another: with its text; or with the start of it, where the outlet alone fails; or without it, where the EEPROM fails, or memory is missing.
abbrev pub Says : Status → Database → ℕ → ℕ → Option (List ℕ) → Option (List ℕ) → Type 0
Says Done db from to before now = Prints (check_text db) before now
Says WriteFault db from to before now = IsCutShort (check_text db) before now × (to ≡ from)
Says Eeprom db from to before now = now ≡ before
Says NoMemory db from to before now = now ≡ before
Says status db from to before now = ⊥

-- What a run of `check` owes that ended so.
pub record Checks {S : Type 0} (status : Status) (before after : S) (old new : Chip) (was now : AllFaults) : Type 0 where
  -- It reads no input.
  pub source : after ≡ before
  -- Where it came to its text, a database was there.
  pub begins : has_opened status ≡ true → IsSome old.image → (db : Database) × IsOpenTo old db
  -- Over a database it ends with its text, or as a device or want of memory ends it;
  pub ends : (db : Database) → IsOpenTo old db → Says status db was.eeprom now.eeprom old.still.given new.still.given
  -- without a fault the output is exactly its text, or memory was missing.
  pub text : (db : Database) → IsOpenTo old db → IsQuiet was now → AnswersAll Done status (check_text db) old.still.given new.still.given
  -- The card is opened, which may finish a commit, and from then on nothing is written.
  pub nothing : (opened : Chip) × KeepsStore old opened × WritesNothing opened new
