-- The database to which an image opens, from what its slots hold and the test of it.
use Rattle.std.proofs.Common.{◌≡◌, ℕ, ◌≤◌, ◌==◌, ◌%◌, ◌||◌, Bool, true, false, if◌then◌else◌, List, [], ◌∷◌, length, Option, Some, None, IsSome, is_some, refl, sym, ap, ◌∙◌, subst, arith}
use Rattle.std.specs.Prelude.{IfSome}
use Rattle.std.specs.List.{cons_option, sum_by}
use Rattle.std.proofs.lemmas.Bool.{and_parts, false≢true}
use Rattle.eeprom.specs.Chip.{Chip, Becomes, Keeps}
use Rattle.eeprom.specs.StoreOf.{Slots, Stored, store_of, is_gate_open, slots_at, cells_of, row_limit}
use Rattle.std.specs.Prelude.{slice_index}
use Rattle.eeprom.specs.Slots.{AreApart, in_order, kept}
use Rattle.record_store.specs.declared.side.Side.TheVariants.{Committed}
use Rattle.record_store.specs.Held.{Held, contents, stored, with_limit}
use Rattle.record_store.specs.Opening.{HeldSoFar, ReadsStore, StandsSoFar, slots_so_far}
use Rattle.record_store.proofs.Replaying.{kept-image}
use Rattle.record_store.proofs.Weights.{limited, store-begins}
use Rattle.scql_model.specs.Records.{user_in, object_in, grant_in, row_in}
use Rattle.scql_model.specs.Database.{Database, weight}
use Rattle.scql_model.specs.Opens.{Holds, Opens, counter_stamp, is_spelled}
use Rattle.scql_model.proofs.LongerLists.{all-weaker}
use Rattle.scql_model.proofs.Room.{cells-filled}
use Rattle.card.specs.Opening.{PassTest, ReadsCard, gathered, is_admitted}
use Rattle.card.specs.KeptRecords.{stamp_of}
use Rattle.card.specs.declared.kept_record.KeptRecord.{KeptRecord}
use Rattle.card.proofs.GatheredSlots.{Gathers, GathersSoFar, HoldsNone}
use Rattle.card.proofs.HeldKinds.{user_stamp, object_stamp, grant_stamp, row_stamp, admitted-held, admitted-parts}
use Rattle.card.proofs.HeldInOrder.{apart-held, records-held}
use Rattle.card.proofs.Starting.{opens-same}
use Rattle.card.proofs.Tested.{IsValid-tested, tested-IsValid}
use Rattle.card.proofs.SortedTest.{is_valid_list}

-- what was found in all slots
pub gathered-all : (held : HeldSoFar) (image : Option (List ℕ)) (count : ℕ) (counter : Option ℕ) (records : List KeptRecord) (store : Held) → ((image : List ℕ) → StandsSoFar held image → store_of image ≡ stored store Committed image)
    → ((image : List ℕ) → StandsSoFar held image → contents store Committed image ≡ slots_so_far held image) → IfSome image (StandsSoFar held) → GathersSoFar held count image counter records
    → IfSome image (λ image. (was : Stored) → store_of image ≡ Some was → Gathers was.row_limit count was.slots counter records)
gathered-all held None count counter records store opened same stands g = tt
gathered-all held (Some image) count counter records store opened same stands g = λ was is.
    let limit = (limited held.row_limit (slots_at image held.chains.cells held.firsts) was (sym (store-begins held.chains.cells held.row_limit held.firsts image stands.begins) ∙ is)).1 in
    let all = subst (λ (o : Option Slots). IfSome o (λ slots. Gathers held.row_limit count slots counter records))
    (sym (same image stands) ∙ (limited store.row_limit (contents store Committed image) was (sym (opened image stands) ∙ is)).0) g in
    subst (λ (limit : ℕ). Gathers limit count was.slots counter records) limit all

-- the database that slots hold
abbrev database_of : Stored → ℕ → Database
database_of was next = record {
  cells = length was.slots;
  limit = was.row_limit;
  next = next;
  users = kept user_stamp user_in was.slots;
  objects = kept object_stamp object_in was.slots;
  grants = kept grant_stamp grant_in was.slots;
  rows = kept row_stamp row_in was.slots;
}

spelled-admitted : (limit : ℕ) (v : Option (List ℕ)) → is_admitted limit v ≡ true → is_spelled v ≡ true
spelled-admitted limit v admitted = (and_parts (is_spelled v) _ admitted).0

holds-database : (was : Stored) (count next : ℕ) (records : List KeptRecord) → Gathers was.row_limit count was.slots (Some next) records → Holds was.slots (database_of was next)
holds-database was count next records g = record {
  cells = refl;
  spelled = all-weaker (is_admitted was.row_limit) is_spelled was.slots (spelled-admitted was.row_limit) g.admitted;
  counter = ap (in_order counter_stamp) g.counters;
  users = refl;
  objects = refl;
  grants = refl;
  rows = refl;
}

-- slots that pass the test hold a valid database
pub opens-tested : (image : List ℕ) (was : Stored) (count next : ℕ) (records : List KeptRecord) → store_of image ≡ Some was → (16 ≤ length was.slots) × (length was.slots ≤ 2048) → (was.row_limit == 240 || was.row_limit == 1020) ≡ true
    → sum_by cells_of was.slots ≤ length was.slots → Gathers was.row_limit count was.slots (Some next) records → PassTest next records → (db : Database) × Opens image db
opens-tested image was count next records there cells limit room g passed =
    let db = database_of was next in
    let holds : Holds was.slots db = holds-database was count next records g in
    let apart = subst (λ (records : List KeptRecord). AreApart stamp_of records) (sym g.records_are) passed.apart in
    let admitted = admitted-parts db (sym (admitted-held db.limit was.slots db holds) ∙ g.admitted) in
    let room' : weight db ≤ db.cells = subst (λ (w : ℕ). w ≤ length was.slots) (cells-filled was.slots db holds) room in
    let sorted = in_order stamp_of (gathered 0 was.slots) in
    let valid = subst (λ (records : List KeptRecord). is_valid_list next (in_order stamp_of records) ≡ true) (sym g.records_are) passed.valid in (
      db,
      record {
        store = was;
        stored = there;
        limit = refl;
        holds = holds;
        valid = IsValid-tested db sorted (records-held was.slots db holds apart) (admitted cells limit room') valid;
      },
    )

counter-held : (counter : Option ℕ) (next : ℕ) → in_order counter_stamp (cons_option counter []) ≡ next ∷ [] → counter ≡ Some next
counter-held None next is = absurd (cc)
counter-held (Some n) next is = ap Some (cc)

-- slots that don't pass the test hold none
pub none-tested : (was : Stored) (count : ℕ) (counter : Option ℕ) (records : List KeptRecord) → Gathers was.row_limit count was.slots counter records → ((next : ℕ) → counter ≡ Some next → PassTest next records → ⊥) → HoldsNone was
none-tested was count counter records g failed = λ db limit holds valid.
    let apart = apart-held was.slots db holds valid in
    let passes = tested-IsValid db (in_order stamp_of (gathered 0 was.slots)) (records-held was.slots db holds apart) valid in
    failed db.next (counter-held counter db.next (sym (ap (in_order counter_stamp) g.counters) ∙ holds.counter))
    (subst (λ (records : List KeptRecord). PassTest db.next records) g.records_are (record { apart = apart; valid = passes }))

-- The same where the image may not be told.
limit-one : (image : List ℕ) → (row_limit image == 240 || row_limit image == 1020) ≡ true
limit-one image = go (slice_index image 5 % 2 == 0)
  where
    go : (even : Bool) → ((if even then 240 else 1020) == 240 || (if even then 240 else 1020) == 1020) ≡ true
    go true = refl
    go false = refl

opens-whole : (held : HeldSoFar) (image : List ℕ) (count next : ℕ) (records : List KeptRecord) (slots : Slots) → StandsSoFar held image → store_of image ≡ Some (record { row_limit = held.row_limit; slots = slots })
    → held.weight ≡ sum_by cells_of slots → held.weight ≤ held.chains.cells → held.chains.cells ≡ count → 16 ≤ count → count ≤ 2048
    → Gathers held.row_limit count slots (Some next) records → PassTest next records → (db : Database) × Opens image db
opens-whole held image count next records slots stands there weight few cells least most g passed =
    opens-tested image (record { row_limit = held.row_limit; slots = slots }) count next records there (omega (arith, g.count_is), omega (arith, g.count_is))
    (subst (λ (limit : ℕ). (limit == 240 || limit == 1020) ≡ true) stands.begins.rows (limit-one image)) (omega (arith, weight, few, cells, g.count_is)) g passed

pub opens-finished : (held : HeldSoFar) (image : Option (List ℕ)) (count next : ℕ) (records : List KeptRecord) (store : Held) → ((image : List ℕ) → StandsSoFar held image → contents store Committed image ≡ slots_so_far held image)
    → ((image : List ℕ) → StandsSoFar held image → store_of image ≡ stored store Committed image)
    → ((image : List ℕ) (slots : Slots) → StandsSoFar held image → contents store Committed image ≡ Some slots → held.weight ≡ sum_by cells_of slots) → IfSome image (StandsSoFar held) → held.weight ≤ held.chains.cells
    → held.chains.cells ≡ count → 16 ≤ count → count ≤ 2048 → GathersSoFar held count image (Some next) records → PassTest next records → IfSome image (λ image. (db : Database) × Opens image db)
opens-finished held None count next records store same opened weight stands few cells least most g passed = tt
opens-finished held (Some image) count next records store same opened weight stands few cells least most g passed = go (slots_so_far held image) refl g
  where
    go : (o : Option Slots) → slots_so_far held image ≡ o → IfSome o (λ slots. Gathers held.row_limit count slots (Some next) records) → (db : Database) × Opens image db
    go None is g = absurd (false≢true (subst IsSome is stands.claimed))
    go (Some slots) is g =
        let all : contents store Committed image ≡ Some slots = same image stands ∙ is in
        let there = opened image stands ∙ ap (with_limit store.row_limit) all in
        let limit = (limited held.row_limit (slots_at image held.chains.cells held.firsts) _ (sym (store-begins held.chains.cells held.row_limit held.firsts image stands.begins) ∙ there)).1 in
        opens-whole held image count next records slots stands (subst (λ (limit : ℕ). store_of image ≡ Some (record { row_limit = limit; slots = slots })) (sym limit) there) (weight image slots stands all) few cells least most g passed

pub none-tested_told : (image : Option (List ℕ)) (count : ℕ) (counter : Option ℕ) (records : List KeptRecord) → IfSome image (λ image. (was : Stored) → store_of image ≡ Some was → Gathers was.row_limit count was.slots counter records)
    → ((next : ℕ) → counter ≡ Some next → PassTest next records → ⊥) → IfSome image (λ image. (was : Stored) → store_of image ≡ Some was → HoldsNone was)
none-tested_told None count counter records g failed = tt
none-tested_told (Some image) count counter records g failed = λ was there. none-tested was count counter records (g was there) failed

pub opens-kept : (old new : Chip) → Keeps store_of old new → is_some new.image ≡ is_some old.image → IfSome new.image (λ image. (db : Database) × Opens image db) → IfSome old.image (λ image. (db : Database) × Opens image db)
opens-kept old new keeps told opens =
    kept-image (λ image. (db : Database) × Opens image db) (λ image. (db : Database) × Opens image db) old new keeps told (λ left was same opens. (opens.0, opens-same left was same opens.0 opens.1)) opens

-- where the store holds none, neither does an image before with the same store
refused_told : (image : Option (List ℕ)) → IfSome image (λ image. (was : Stored) → store_of image ≡ Some was → HoldsNone was) → IfSome image (λ image. (db : Database) → Opens image db → ⊥)
refused_told None none = tt
refused_told (Some image) none = λ db opens. none opens.store opens.stored db opens.limit opens.holds opens.valid

pub refused-kept : (old new : Chip) → Keeps store_of old new → is_some new.image ≡ is_some old.image → IfSome new.image (λ image. (was : Stored) → store_of image ≡ Some was → HoldsNone was)
    → IfSome old.image (λ image. (db : Database) → Opens image db → ⊥)
refused-kept old new keeps told none =
    kept-image (λ image. (db : Database) → Opens image db → ⊥) (λ image. (db : Database) → Opens image db → ⊥) old new keeps told (λ left was same none db opens. none db (opens-same was left (sym same) db opens))
    (refused_told new.image none)

-- the octets of its records are those of the database
pub reads-card : (old start : Chip) (cells count : ℕ) (counter : Option ℕ) (records : List KeptRecord) (before now : Option ℕ) → IfSome old.image (λ image. is_gate_open image ≡ false → start ≡ old) → cells ≡ count
    → IfSome start.image (λ image. (was : Stored) → store_of image ≡ Some was → Gathers was.row_limit count was.slots counter records)
    → IfSome old.image (λ image. (was : Stored) → store_of image ≡ Some was → is_gate_open image ≡ false → Becomes (ReadsStore cells was.slots) before now)
    → IfSome old.image (λ image. (db : Database) → Opens image db → is_gate_open image ≡ false → Becomes (ReadsCard db) before now)
reads-card old start cells count counter records before now closed all g read = cases old.image refl closed read
  where
    cases : (image : Option (List ℕ)) → old.image ≡ image → IfSome image (λ image. is_gate_open image ≡ false → start ≡ old)
        → IfSome image (λ image. (was : Stored) → store_of image ≡ Some was → is_gate_open image ≡ false → Becomes (ReadsStore cells was.slots) before now)
        → IfSome image (λ image. (db : Database) → Opens image db → is_gate_open image ≡ false → Becomes (ReadsCard db) before now)
    cases None is closed read = tt
    cases (Some image) is closed read = λ db opens shut.
        let told : start.image ≡ Some image = ap (λ (chip : Chip). chip.image) (closed shut) ∙ is in
        let g' = subst (λ (o : Option (List ℕ)). IfSome o (λ image. (was : Stored) → store_of image ≡ Some was → Gathers was.row_limit count was.slots counter records)) told g opens.store opens.stored in
        let same : cells ≡ db.cells = all ∙ sym g'.count_is ∙ opens.holds.cells in
        rw (same, cells-filled opens.store.slots db opens.holds) at (read opens.store opens.stored shut)
