-- A migration commits longer rows, and then its text goes out.
use Rattle.std.proofs.Common.{List, ℕ, Option, ◌≡◌, ◌∙◌, ap, subst, arith, length, ◌+◌, ◌≤◌}
use Rattle.eeprom.specs.Chip.{Chip, Still, Throughout}
use Rattle.scql_model.specs.Database.{Database}
use Rattle.scql_model.specs.Migrating.{migrate_text}
use Rattle.card.specs.Behind.{KeepsBehind, own_cells}
use Rattle.card.specs.Opened.{IsOpenTo}
use Rattle.line_run.specs.CutOff.{IsCutShort}
use Rattle.card_run.specs.Migrating.{KeepsOthers, LeavesLongRows, IsInMigration, IsMigratedFrom}
use Rattle.eeprom.specs.Output.{Prints}
use Rattle.eeprom.proofs.Moments.{gives-throughout}
use Rattle.card_run.proofs.LongerRows.{long-untold, long-told, others-untold, others-told, leaves-between, silent-moments, told-moments, migration-behind, told-behind, migrated-from, migrated-same, text-migrated, left-some}
use Rattle.card_run.proofs.migration.run_migration.Goals as goal
use Rattle.card_run.proofs.migration.run_migration.Goals.{After-give as Told}

-- the text that goes out is that of the database
text_is : (g : _) (c : Told g) (db : Database) → IsOpenTo (g.B.Eeprom.chip c.args.bench.now) db → c.text_of.result.now ≡ migrate_text db
text_is g c db opens = text-migrated (g.B.Eeprom.chip c.args.bench.now) db c.in-Ok.migrates c.text_of.result.now opens c.in-Ok.ensures.migrates c.text_of.ensures

-- what is said of it behind the migration is said of it from the beginning on
said : (g : _) (c : Told g) (db : Database) (P : List ℕ → Option (List ℕ) → Type 0) → IsOpenTo (g.B.Eeprom.chip c.args.bench.now) db
    → P c.text_of.result.now (g.B.Eeprom.chip c.migrate.new.bench).still.given → P (migrate_text db) (g.B.Eeprom.chip c.args.bench.now).still.given
said g c db P opens behind =
    subst (λ (s : Still). P (migrate_text db) s.given) c.migrate.ensures.still
    (subst (λ (text : List ℕ). P text (g.B.Eeprom.chip c.migrate.new.bench).still.given) (text_is g c db opens) behind)

longer : (g : _) (c : Told g) (db : Database) → IsOpenTo (g.B.Eeprom.chip c.args.bench.now) db → IsMigratedFrom db (g.B.Eeprom.chip c.migrate.new.bench)
longer g c db opens = migrated-from (g.B.Eeprom.chip c.args.bench.now) (g.B.Eeprom.chip c.migrate.new.bench) db opens c.in-Ok.ensures.done

moments : (g : _) (c : Told g) (db : Database) → IsOpenTo (g.B.Eeprom.chip c.args.bench.now) db
    → (g.B.Eeprom.chip c.give.new.bench).still.mark ≤ (g.B.Eeprom.chip c.migrate.new.bench).still.mark + length c.text_of.result.now
    → Throughout (g.B.Eeprom.chip c.args.bench.now) (g.B.Eeprom.chip c.give.new.bench) (IsInMigration db (g.B.Eeprom.chip c.args.bench.now).still.mark)
moments g c db opens within =
    let old : Chip = g.B.Eeprom.chip c.args.bench.now in
    let mid : Chip = g.B.Eeprom.chip c.migrate.new.bench in
    let new : Chip = g.B.Eeprom.chip c.give.new.bench in
    told-moments db old mid new (leaves-between old mid db opens c.migrate.ensures.moments) c.migrate.ensures.still
    (gives-throughout mid new (g.met.B.Eeprom.clocked c.migrate.new.bench) c.give.ensures.gives) (longer g c db opens) (omega (arith, within, ap length (text_is g c db opens)))

pub returns-in_default-clause-moments : goal.returns-in_default-clause-moments
returns-in_default-clause-moments g c = λ db opens told.
    silent-moments db (g.B.Eeprom.chip c.args.bench.now) (g.B.Eeprom.chip c.migrate.new.bench)
    (leaves-between (g.B.Eeprom.chip c.args.bench.now) (g.B.Eeprom.chip c.migrate.new.bench) db opens c.migrate.ensures.moments)

pub returns-in_default-clause-migrates : goal.returns-in_default-clause-migrates
returns-in_default-clause-migrates g c = λ db opens.
    let old : Chip = g.B.Eeprom.chip c.args.bench.now in
    let new : Chip = g.B.Eeprom.chip c.migrate.new.bench in (
      ap (λ (s : Still). s.given) c.migrate.ensures.still,
      left-some old new db (leaves-between old new db opens c.migrate.ensures.moments),
    )

pub returns-in-Ok-give-clause-migrates : goal.returns-in-Ok-give-clause-migrates
returns-in-Ok-give-clause-migrates g c = λ db opens.
    let told : Told g = (goal.at.returns-in-Ok-give-clause-migrates g c).After-give in (
      said g told db (λ (text : List ℕ) (before : Option (List ℕ)). Prints text before (g.B.Eeprom.chip c.give.new.bench).still.given) opens c.in-Ok-give.ensures.text,
      migrated-same (g.B.Eeprom.chip c.migrate.new.bench) (g.B.Eeprom.chip c.give.new.bench) db c.give.ensures.image (longer g told db opens),
    )

pub returns-in-Ok-give-clause-moments : goal.returns-in-Ok-give-clause-moments
returns-in-Ok-give-clause-moments g c = λ db opens told. moments g (goal.at.returns-in-Ok-give-clause-moments g c).After-give db opens (c.give.ensures.within told)

pub returns-in-Err-clause-migrates : goal.returns-in-Err-clause-migrates
returns-in-Err-clause-migrates g c = λ db opens.
    let told : Told g = (goal.at.returns-in-Err-clause-migrates g c).After-give in (
      said g told db (λ (text : List ℕ) (before : Option (List ℕ)). IsCutShort text before (g.B.Eeprom.chip c.give.new.bench).still.given) opens c.in-Err.ensures.fails,
      migrated-same (g.B.Eeprom.chip c.migrate.new.bench) (g.B.Eeprom.chip c.give.new.bench) db c.give.ensures.image (longer g told db opens),
      c.give.ensures.faults ∙ c.in-Ok.ensures.cause.1,
    )

pub returns-in-Err-clause-moments : goal.returns-in-Err-clause-moments
returns-in-Err-clause-moments g c = λ db opens told. moments g (goal.at.returns-in-Err-clause-moments g c).After-give db opens (c.give.ensures.within told)

pub returns-in_default-clause-behind : goal.returns-in_default-clause-behind
returns-in_default-clause-behind g c = migration-behind (g.B.Eeprom.chip c.args.bench.now) (g.B.Eeprom.chip c.migrate.new.bench) c.migrate.ensures.moments

-- what goes out behind a migration writes nothing
behind : (g : _) (c : Told g) → KeepsBehind own_cells (g.B.Eeprom.chip c.args.bench.now) (g.B.Eeprom.chip c.give.new.bench)
behind g c = told-behind (g.B.Eeprom.chip c.args.bench.now) (g.B.Eeprom.chip c.migrate.new.bench) (g.B.Eeprom.chip c.give.new.bench) c.migrate.ensures.moments (c.give.ensures.behind own_cells)

pub returns-in-Ok-give-clause-behind : goal.returns-in-Ok-give-clause-behind
returns-in-Ok-give-clause-behind g c = behind g (goal.at.returns-in-Ok-give-clause-behind g c).After-give

pub returns-in-Err-clause-behind : goal.returns-in-Err-clause-behind
returns-in-Err-clause-behind g c = behind g (goal.at.returns-in-Err-clause-behind g c).After-give

-- what is written before the text and while it goes out
pub returns-in_default-clause-already : goal.returns-in_default-clause-already
returns-in_default-clause-already g c = long-untold (g.B.Eeprom.chip c.args.bench.now) (g.B.Eeprom.chip c.migrate.new.bench) c.migrate.ensures.already

pub returns-in_default-clause-others : goal.returns-in_default-clause-others
returns-in_default-clause-others g c = others-untold (g.B.Eeprom.chip c.args.bench.now) (g.B.Eeprom.chip c.migrate.new.bench) c.migrate.ensures.moments

already : (g : _) (c : Told g) → LeavesLongRows (g.B.Eeprom.chip c.args.bench.now) (g.B.Eeprom.chip c.give.new.bench)
already g c =
    let mid : Chip = g.B.Eeprom.chip c.migrate.new.bench in
    let new : Chip = g.B.Eeprom.chip c.give.new.bench in
    long-told (g.B.Eeprom.chip c.args.bench.now) mid new c.migrate.ensures.already c.give.ensures.gives (gives-throughout mid new (g.met.B.Eeprom.clocked c.migrate.new.bench) c.give.ensures.gives)

others : (g : _) (c : Told g) → KeepsOthers (g.B.Eeprom.chip c.args.bench.now) (g.B.Eeprom.chip c.give.new.bench)
others g c =
    let mid : Chip = g.B.Eeprom.chip c.migrate.new.bench in
    let new : Chip = g.B.Eeprom.chip c.give.new.bench in
    others-told (g.B.Eeprom.chip c.args.bench.now) mid new c.migrate.ensures.moments (gives-throughout mid new (g.met.B.Eeprom.clocked c.migrate.new.bench) c.give.ensures.gives)

pub returns-in-Ok-give-clause-already : goal.returns-in-Ok-give-clause-already
returns-in-Ok-give-clause-already g c = already g (goal.at.returns-in-Ok-give-clause-already g c).After-give

pub returns-in-Ok-give-clause-others : goal.returns-in-Ok-give-clause-others
returns-in-Ok-give-clause-others g c = others g (goal.at.returns-in-Ok-give-clause-others g c).After-give

pub returns-in-Err-clause-already : goal.returns-in-Err-clause-already
returns-in-Err-clause-already g c = already g (goal.at.returns-in-Err-clause-already g c).After-give

pub returns-in-Err-clause-others : goal.returns-in-Err-clause-others
returns-in-Err-clause-others g c = others g (goal.at.returns-in-Err-clause-others g c).After-give
