-- What a run of `check` says of a card.
use Rattle.std.proofs.Common.{◌≡◌, ◌⊎◌, inl, inr, ℕ, true, List, Option, refl, sym, ap, subst}
use Rattle.std.specs.Prelude.{IsSome}
use Rattle.eeprom.specs.Chip.{Chip, Still, Gives, Throughout, IsInPiece}
use Rattle.eeprom.proofs.Moments.{throughout-weaker, throughout-same}
use Rattle.record_store.specs.Recovery.{KeepsStore}
use Rattle.scql_model.specs.Database.{Database}
use Rattle.card.specs.Counting.{check_text}
use Rattle.program.specs.declared.status.Status.{Status}
use Rattle.program.specs.declared.status.Status.TheVariants.{Done, Eeprom, WriteFault, NoMemory}
use Rattle.card.specs.Opened.{IsOpenTo}
use Rattle.card_run.specs.Checking.{Checks, Says}
use Rattle.program.specs.Ends.{AllFaults, EndsBy}
use Rattle.card_run.specs.Ends.{ends_opening}
use Rattle.card_run.specs.Migrating.{WritesNothing}
use Rattle.card_run.specs.Run.{AnswersAll, IsQuiet}
use Rattle.card_run.proofs.Asking.{unopened}

-- nothing was done
pub nothing-done : (chip : Chip) → WritesNothing chip chip
nothing-done chip = record { image = refl; written = refl; moments = throughout-same chip _ (λ image told. told) }

-- or its text went out
pub nothing-given : (old new : Chip) → Gives old new → Throughout old new (IsInPiece old new.still.mark) → WritesNothing old new
nothing-given old new gives piece = record { image = gives.image; written = gives.written; moments = throughout-weaker old new _ _ piece (λ g left during. during.2) }

-- without a fault it said its text, or memory was missing
says-quiet : (status : Status) (db : Database) (was now : AllFaults) (before after : Option (List ℕ)) → Says status db was.eeprom now.eeprom before after → EndsBy status was now → IsQuiet was now → AnswersAll Done status (check_text db) before after
says-quiet Done db was now before after says ends quiet = inl (refl, says)
says-quiet NoMemory db was now before after says ends quiet = inr (refl, says)
says-quiet WriteFault db was now before after says ends quiet = absurd (quiet.outlet ends.0)
says-quiet Eeprom db was now before after says ends quiet = absurd (quiet.eeprom ends.0)
says-quiet status db was now before after says ends quiet = absurd says

says-unopened : (status : Status) (from to : ℕ) (db : Database) (old new : Chip) → (status ≡ NoMemory) ⊎ (status ≡ Eeprom) → KeepsStore old new → Says status db from to old.still.given new.still.given
says-unopened status from to db old new (inl is) keeps = subst (λ (s : Status). Says s db from to old.still.given new.still.given) (sym is) (ap (λ (s : Still). s.given) keeps.keeps.still)
says-unopened status from to db old new (inr is) keeps = subst (λ (s : Status). Says s db from to old.still.given new.still.given) (sym is) (ap (λ (s : Still). s.given) keeps.keeps.still)

-- what a run of `check` owes whose card wasn't opened,
pub Checks-unopened : {S : Type 0} (status : Status) (source : S) (old new : Chip) (was now : AllFaults) → ends_opening status ≡ true
    → ((db : Database) → IsOpenTo old db → (status ≡ NoMemory) ⊎ (status ≡ Eeprom)) → EndsBy status was now → KeepsStore old new → Checks status source source old new was now
Checks-unopened status source old new was now opening stopped ends keeps =
    let says : (db : Database) → IsOpenTo old db → Says status db was.eeprom now.eeprom old.still.given new.still.given = λ db opens. says-unopened status was.eeprom now.eeprom db old new (stopped db opens) keeps in
    record {
      source = refl;
      begins = λ opened told. absurd (unopened status opening opened);
      ends = says;
      text = λ db opens quiet. says-quiet status db was now old.still.given new.still.given (says db opens) ends quiet;
      nothing = (new, keeps, nothing-done new);
    }

-- and whose card was opened
pub Checks-opened : {S : Type 0} (status : Status) (source : S) (old mid new : Chip) (was now : AllFaults) → KeepsStore old mid → (IsSome old.image → (db : Database) × IsOpenTo old db)
    → ((db : Database) → IsOpenTo old db → Says status db was.eeprom now.eeprom mid.still.given new.still.given) → WritesNothing mid new → EndsBy status was now → Checks status source source old new was now
Checks-opened status source old mid new was now keeps begins says nothing ends =
    let from : (db : Database) → IsOpenTo old db → Says status db was.eeprom now.eeprom old.still.given new.still.given =
    λ db opens. subst (λ (s : Still). Says status db was.eeprom now.eeprom s.given new.still.given) keeps.keeps.still (says db opens) in
    record {
      source = refl;
      begins = λ opened told. begins told;
      ends = from;
      text = λ db opens quiet. says-quiet status db was now old.still.given new.still.given (from db opens) ends quiet;
      nothing = (mid, keeps, nothing);
    }
