-- What a migration leaves of the database of a card, and what it says.
use Rattle.std.proofs.Common.{◌≡◌, ◌⊎◌, inl, inr, ℕ, ◌+◌, ◌<◌, ◌≤◌, ◌==◌, Bool, true, false, if◌then◌else◌, List, ◌∷◌, length, drop, slice_index, get_or, get_or-take, get_or-drop, Option, Some, None, option_map, refl, sym, ap, subst, ◌∙◌, arith}
use Rattle.std.specs.Prelude.{IsSome, IfSome, codes}
use Rattle.std.proofs.lemmas.Bool.{cases_Bool, false≢true}
use Rattle.eeprom.specs.Chip.{Chip, Still, Becomes, Gives, LeavesOf, Throughout, IsInPiece}
use Rattle.eeprom.specs.StoreOf.{store_of, row_limit, is_gate_open, image_size}
use Rattle.eeprom.proofs.SameFrom.{drop-from}
use Rattle.eeprom.proofs.Moments.{throughout-weaker, throughout-then, throughout-same, throughout-both}
use Rattle.eeprom.proofs.Leaves.{at-told}
use Rattle.migrate.specs.Migration.{KeepsAllElse, IsMigrated, IsBetweenVersions, with_rows_up_to}
use Rattle.record_store.specs.Recovery.{KeepsStore}
use Rattle.scql_model.specs.Database.{Database, IsValid}
use Rattle.scql_model.specs.Machine.{start}
use Rattle.scql_model.specs.Migrating.{migrated, migrate_text, migrate_commits}
use Rattle.scql_model.specs.Opens.{Opens, OpensToOneOf}
use Rattle.scql_model.proofs.Migrating.{Opens-migrated, limit-opens, limit-cases}
use Rattle.card.specs.Behind.{KeepsBehind, own_cells}
use Rattle.card.specs.Card.{Kept, IsReady, IsAt, committed_slots}
use Rattle.card.proofs.Leaving.{Opens-at}
use Rattle.card.proofs.Starting.{opens-same}
use Rattle.program.specs.declared.status.Status.{Status}
use Rattle.program.specs.declared.status.Status.TheVariants.{Done, Eeprom, WriteFault, NoMemory}
use Rattle.card.specs.Opened.{IsOpenTo}
use Rattle.program.specs.Ends.{AllFaults, EndsBy}
use Rattle.card_run.specs.Ends.{ends_opening}
use Rattle.card_run.specs.Migrating.{IsInMigration, IsMigratedFrom, KeepsOthers, LeavesLongRows, WritesNothing, MigratesTo, Migrates, StaysMigrating}
use Rattle.card_run.specs.Run.{IsQuiet, AnswersAll}
use Rattle.card.specs.GivenMoments.{behind-then}
use Rattle.card_run.proofs.Asking.{unopened}
use Rattle.card_run.proofs.Finishing.{kept_open}

-- the image that is told opens to the database
opens-told : (chip : Chip) (db : Database) (image : List ℕ) → IsOpenTo chip db → chip.image ≡ Some image → Opens image db
opens-told chip db image opens told = let same : opens.0 ≡ image = cc (opens.1, told) in subst (λ (i : List ℕ). Opens i db) same opens.2

pub open-told : (chip : Chip) (db : Database) → IsOpenTo chip db → IfSome chip.image (λ image. Opens image db)
open-told chip db opens = subst (λ (o : Option (List ℕ)). IfSome o (λ image. Opens image db)) (sym opens.1) opens.2

-- the card that was opened is over an image that is told, and opens to its database
pub open-at : (card : Kept) (chip : Chip) (db : Database) → IsReady card chip → IsAt card chip (start db) → IsOpenTo chip db
unfolding committed_slots
open-at card chip db ready at = of chip.image refl
  where
    of : (o : Option (List ℕ)) → chip.image ≡ o → IsOpenTo chip db
    of None is = let none : None ≡ Some at.held.slots = subst (λ (o : Option (List ℕ)). committed_slots card.store o ≡ Some at.held.slots) is at.held.committed in absurd (cc)
    of (Some image) is = (image, is, Opens-at card chip (start db) ready at image is)

-- a database whose rows are long already is the one with longer rows
pub same-migrated : (db : Database) → IsValid db → (db.limit == 240) ≡ false → migrated db ≡ db
same-migrated db valid long = elim (limit-cases db.limit valid.limit) [
  | inl short ↦ absurd (false≢true (sym long ∙ rw short refl))
  | inr is ↦ ap (λ (limit : ℕ). let d : Database = record db { limit = limit } in d) (sym is)
]

-- the database with longer rows is committed, or is the one from before
longer-among : (image : List ℕ) (db : Database) → IsValid db → Opens image (migrated db) → OpensToOneOf (db ∷ migrate_commits db) image
longer-among image db valid opens = elim (cases_Bool (db.limit == 240)) [
  | inl short ↦ rw short (inr (inl opens))
  | inr long ↦ inl (subst (λ (d : Database). Opens image d) (same-migrated db valid long) opens)
]

-- the same records with longer rows
opens-longer : (was left : List ℕ) (db : Database) → Opens was db → store_of left ≡ option_map (with_rows_up_to 1020) (store_of was) → Opens left (migrated db)
opens-longer was left db opens longer = Opens-migrated was left db opens (longer ∙ ap (option_map (with_rows_up_to 1020)) opens.stored)

-- what a power loss leaves of a migration
opens-between : (was left : List ℕ) (db : Database) → Opens was db → IsBetweenVersions was left → OpensToOneOf (db ∷ migrate_commits db) left
opens-between was left db opens between = elim between.one [
  | inl same ↦ inl (opens-same was left (sym same) db opens)
  | inr longer ↦ longer-among left db opens.valid (opens-longer was left db opens longer)
]

-- nothing is given, and the image opens to one of these
abbrev pub LeavesSome : Database → Chip → Chip → Type 0
LeavesSome db old new = Throughout old new (λ g left. (g ≡ old.still.mark) × OpensToOneOf (db ∷ migrate_commits db) left)

pub leaves-between : (old mid : Chip) (db : Database) → IsOpenTo old db → LeavesOf IsBetweenVersions old mid → LeavesSome db old mid
leaves-between old mid db opens leaves = throughout-weaker old mid _ _ leaves (λ g left during. (
  during.0,
  opens-between during.1 left db (opens-told old db during.1 opens during.2) during.3,
))

-- and so does an opening
pub leaves-opening : (old mid : Chip) (db : Database) → IsOpenTo old db → KeepsStore old mid → LeavesSome db old mid
leaves-opening old mid db opens keeps = record {
  later = keeps.keeps.later;
  only = λ t g left since there. elim (keeps.keeps.only t g left since there) [
    | inl before ↦ inl before
    | inr at ↦ inr (at.0, inl (opens-same at.1 left (sym at.3) db (opens-told old db at.1 opens at.2)))
  ];
  stays = keeps.keeps.stays;
  now = λ image told.
      let at = keeps.keeps.image image told in
      (ap (λ (s : Still). s.mark) keeps.keeps.still, inl (opens-same at.0 image (sym at.2) db (opens-told old db at.0 opens at.1)));
}

-- nothing was said
pub silent-moments : (db : Database) (old new : Chip) → LeavesSome db old new → Throughout old new (IsInMigration db old.still.mark)
silent-moments db old new leaves = throughout-weaker old new _ (IsInMigration db old.still.mark) leaves (λ g left during. record {
  later = omega (arith, during.0);
  within = omega (arith, during.0);
  opens = during.1;
  done = λ past. absurd (omega (arith, past, during.0));
})

-- some of the text goes out behind the migration
pub told-moments : (db : Database) (old mid new : Chip) → LeavesSome db old mid → mid.still ≡ old.still → Throughout mid new (IsInPiece mid new.still.mark) → IsMigratedFrom db mid
    → new.still.mark ≤ mid.still.mark + length (migrate_text db) → Throughout old new (IsInMigration db old.still.mark)
told-moments db old mid new leaves still gives longer within =
    let same : mid.still.mark ≡ old.still.mark = ap (λ (s : Still). s.mark) still in
    throughout-both old mid new (λ g left. (g ≡ old.still.mark) × OpensToOneOf (db ∷ migrate_commits db) left) (IsInPiece mid new.still.mark) (IsInMigration db old.still.mark) leaves gives
    (λ g left during. record {
      later = omega (arith, during.0);
      within = omega (arith, during.0);
      opens = during.1;
      done = λ past. absurd (omega (arith, past, during.0));
    })
    (λ g left during. record {
      later = omega (arith, same, during.0);
      within = omega (arith, same, within, during.1);
      opens = (leaves.now left during.2).1;
      done = λ past. at-told (λ image. Opens image (migrated db)) mid.image left during.2 longer;
    })

-- the image behind a migration that was done
pub migrated-from : (old new : Chip) (db : Database) → IsOpenTo old db → Becomes IsMigrated old.image new.image → IsMigratedFrom db new
migrated-from old new db opens done = of new.image refl
  where
    of : (o : Option (List ℕ)) → new.image ≡ o → IfSome o (λ image. Opens image (migrated db))
    of None is = tt
    of (Some image) is = let from = done image is in opens-longer from.0 image db (opens-told old db from.0 opens from.1) from.2.store

pub migrated-same : (old new : Chip) (db : Database) → new.image ≡ old.image → IsMigratedFrom db old → IsMigratedFrom db new
migrated-same old new db same longer = subst (λ (o : Option (List ℕ)). IfSome o (λ image. Opens image (migrated db))) (sym same) longer

-- one of the two, where it failed
pub left-some : (old new : Chip) (db : Database) → LeavesSome db old new → IfSome new.image (OpensToOneOf (db ∷ migrate_commits db))
left-some old new db leaves = of new.image refl
  where
    of : (o : Option (List ℕ)) → new.image ≡ o → IfSome o (OpensToOneOf (db ∷ migrate_commits db))
    of None is = tt
    of (Some image) is = (leaves.now image is).1

-- the text is by the rows that there were
pub text-migrated : (old : Chip) (db : Database) (migrates : Bool) (text : List ℕ) → IsOpenTo old db → IfSome old.image (λ image. migrates ≡ (row_limit image == 240))
    → text ≡ (if migrates then codes "migrated\n" else codes "already migrated\n") → text ≡ migrate_text db
text-migrated old db migrates text opens by is =
    let migrates_is : migrates ≡ (row_limit opens.0 == 240) = at-told (λ image. migrates ≡ (row_limit image == 240)) old.image opens.0 opens.1 by in
    is ∙ ap (λ (b : Bool). if b then codes "migrated\n" else codes "already migrated\n") (migrates_is ∙ ap (λ (limit : ℕ). limit == 240) (sym (limit-opens opens.0 db opens.2)))

-- without a fault it said its text, or memory was missing
pub text-quiet : (status : Status) (db : Database) (was now : AllFaults) (before : Option (List ℕ)) (new : Chip) → MigratesTo status was.eeprom now.eeprom db before new → EndsBy status was now → IsQuiet was now
    → AnswersAll Done status (migrate_text db) before new.still.given
text-quiet Done db was now before new to ends quiet = inl (refl, to.0)
text-quiet NoMemory db was now before new to ends quiet = inr (refl, to.0)
text-quiet WriteFault db was now before new to ends quiet = absurd (quiet.outlet ends.0)
text-quiet Eeprom db was now before new to ends quiet = absurd (quiet.eeprom ends.0)
text-quiet status db was now before new to ends quiet = absurd to

-- a card that wasn't opened, though one was there
pub migrates-unopened : (status : Status) (from to : ℕ) (db : Database) (old new : Chip) → (status ≡ NoMemory) ⊎ (status ≡ Eeprom) → IsOpenTo old db → KeepsStore old new
    → MigratesTo status from to db old.still.given new
migrates-unopened status from to db old new (inl is) opens keeps =
    subst (λ (s : Status). MigratesTo s from to db old.still.given new) (sym is) (ap (λ (s : Still). s.given) keeps.keeps.still, kept_open old new db keeps opens)
migrates-unopened status from to db old new (inr is) opens keeps =
    subst (λ (s : Status). MigratesTo s from to db old.still.given new) (sym is) (ap (λ (s : Still). s.given) keeps.keeps.still, left-some old new db (leaves-opening old new db opens keeps))

-- Behind the image.

-- a migration writes three octets of the front
pub migration-behind : (old mid : Chip) → LeavesOf IsBetweenVersions old mid → KeepsBehind own_cells old mid
migration-behind old mid leaves = throughout-weaker old mid _ _ leaves (λ g left during. (
  during.1,
  during.2,
  drop-from 11 (image_size (own_cells during.1)) left during.1 (omega arith) during.3.rest.behind_limit,
))

-- and no more of the number of cells
migration-cells : (was left : List ℕ) → KeepsAllElse was left → own_cells left ≡ own_cells was
migration-cells was left rest = rw (octet 0 (omega arith), octet 1 (omega arith)) refl
  where
    octet : (k : ℕ) → k < 3 → slice_index left (6 + k) ≡ slice_index was (6 + k)
    octet k inside =
        sym (get_or-take 3 (drop 6 left) k 0 inside ∙ get_or-drop 6 left k 0)
        ∙ ap (λ (xs : List ℕ). get_or xs k 0) rest.between ∙ get_or-take 3 (drop 6 was) k 0 inside ∙ get_or-drop 6 was k 0

-- what goes out behind it writes nothing
pub told-behind : (old mid new : Chip) → LeavesOf IsBetweenVersions old mid → KeepsBehind own_cells mid new → KeepsBehind own_cells old new
told-behind old mid new leaves after =
    behind-then own_cells own_cells old mid new (λ now told. let from = leaves.now now told in (from.1, from.2, migration-cells from.1 now from.3.rest)) (migration-behind old mid leaves) after

-- What is written.

nothing-same : (old new : Chip) → new ≡ old → WritesNothing old new
nothing-same old new same = subst (λ (chip : Chip). WritesNothing old chip) (sym same) (record { image = refl; written = refl; moments = throughout-same old _ (λ image told. told) })

-- nothing by a migration of rows that are long already, and by what goes out behind it
pub long-untold : (old mid : Chip) → ((image : List ℕ) → old.image ≡ Some image → row_limit image ≡ 1020 → mid ≡ old) → LeavesLongRows old mid
long-untold old mid same = λ image told long. nothing-same old mid (same image told long)

pub long-told : (old mid new : Chip) → ((image : List ℕ) → old.image ≡ Some image → row_limit image ≡ 1020 → mid ≡ old) → Gives mid new → Throughout mid new (IsInPiece mid new.still.mark) → LeavesLongRows old new
long-told old mid new same gives piece = λ image told long.
    subst (λ (chip : Chip). WritesNothing chip new) (same image told long)
    (record { image = gives.image; written = gives.written; moments = throughout-weaker mid new _ _ piece (λ g left during. during.2) })

-- and else no octets but the version and the row limit
pub others-untold : (old mid : Chip) → LeavesOf IsBetweenVersions old mid → KeepsOthers old mid
others-untold old mid leaves = throughout-weaker old mid _ _ leaves (λ g left during. (during.1, during.2, during.3.rest))

pub others-told : (old mid new : Chip) → LeavesOf IsBetweenVersions old mid → Throughout mid new (IsInPiece mid new.still.mark) → KeepsOthers old new
others-told old mid new leaves piece =
    throughout-then old mid new _ (others-untold old mid leaves)
    (throughout-weaker mid new _ _ piece (λ g left during. let from = leaves.now left during.2 in (from.1, from.2, from.3.rest)))

-- no octets at all are written behind an opening that fails
others-none : (chip : Chip) → KeepsOthers chip chip
others-none chip = throughout-same chip _ (λ image told. (image, told, record { size = refl; before_version = refl; between = refl; behind_limit = refl }))

-- a closed gate is left so
opened-closed : (old new : Chip) → KeepsStore old new → (image : List ℕ) → old.image ≡ Some image → is_gate_open image ≡ false → new ≡ old
opened-closed old new keeps image told = at-told (λ image. is_gate_open image ≡ false → new ≡ old) old.image image told keeps.closed

-- what a run of `migrate` owes whose card wasn't opened,
pub Migrates-unopened : {S : Type 0} (status : Status) (source : S) (old new : Chip) (was now : AllFaults) → ends_opening status ≡ true
    → ((db : Database) → IsOpenTo old db → (status ≡ NoMemory) ⊎ (status ≡ Eeprom)) → EndsBy status was now → KeepsStore old new → Migrates status source source old new was now
Migrates-unopened status source old new was now opening stopped ends keeps =
    let to : (db : Database) → IsOpenTo old db → MigratesTo status was.eeprom now.eeprom db old.still.given new =
    λ db opens. migrates-unopened status was.eeprom now.eeprom db old new (stopped db opens) opens keeps in
    record {
      source = refl;
      begins = λ opened told. absurd (unopened status opening opened);
      ends = to;
      text = λ db opens quiet. text-quiet status db was now old.still.given new (to db opens) ends quiet;
      moments = λ db opens told. silent-moments db old new (leaves-opening old new db opens keeps);
      already = λ image told long shut. nothing-same old new (opened-closed old new keeps image told shut);
      others = (new, keeps, others-none new);
    }

-- and whose card was opened, and migrated then
pub Migrates-opened : {S : Type 0} (status : Status) (source : S) (old mid new : Chip) (was now : AllFaults) → KeepsStore old mid
    → (IsSome old.image → (db : Database) × IsOpenTo old db) → ((db : Database) → IsOpenTo old db → IsOpenTo mid db)
    → ((db : Database) → IsOpenTo mid db → MigratesTo status was.eeprom now.eeprom db mid.still.given new)
    → ((db : Database) → IsOpenTo mid db → StaysMigrating db mid new) → LeavesLongRows mid new → KeepsOthers mid new → EndsBy status was now → Migrates status source source old new was now
Migrates-opened status source old mid new was now keeps begins stays migrates moments already others ends =
    let to : (db : Database) → IsOpenTo old db → MigratesTo status was.eeprom now.eeprom db old.still.given new =
    λ db opens. subst (λ (s : Still). MigratesTo status was.eeprom now.eeprom db s.given new) keeps.keeps.still (migrates db (stays db opens)) in
    record {
      source = refl;
      begins = λ opened told. begins told;
      ends = to;
      text = λ db opens quiet. text-quiet status db was now old.still.given new (to db opens) ends quiet;
      moments = λ db opens told. throughout-then old mid new (IsInMigration db old.still.mark) (silent-moments db old mid (leaves-opening old mid db opens keeps))
          (subst (λ (s : Still). Throughout mid new (IsInMigration db s.mark)) keeps.keeps.still (moments db (stays db opens) told));
      already = λ image told long shut.
          let same : mid ≡ old = opened-closed old mid keeps image told shut in
          subst (λ (chip : Chip). WritesNothing chip new) same (already image (subst (λ (chip : Chip). chip.image ≡ Some image) (sym same) told) long);
      others = (mid, keeps, others);
    }
