-- The records of a database that slots hold: they are admitted where it is valid, and those gathered are its own.
use Rattle.std.proofs.Common.{◌≡◌, ℕ, suc, ◌+◌, ◌≤◌, ◌==◌, ◌||◌, Bool, true, ◌&&◌, List, [], ◌∷◌, Option, Some, None, option_map, refl, sym, ap, ◌∙◌, arith}
use Rattle.std.specs.Option.{option_and_then, option_map_or, option_or}
use Rattle.std.specs.List.{list_all, filter_map, cons_option}
use Rattle.std.proofs.lemmas.Bool.{and_parts}
use Rattle.eeprom.specs.StoreOf.{Slots}
use Rattle.eeprom.specs.Slots.{in_slot, kept}
use Rattle.eeprom.proofs.InOrder.{list_all-in_order}
use Rattle.scql_base.specs.declared.row.TheConstants.Row.{LARGEST, LARGEST_UNMIGRATED}
use Rattle.scql_base.specs.declared.records.User.{User}
use Rattle.scql_base.specs.declared.records.Object.{Object}
use Rattle.scql_base.specs.declared.records.Grant.{Grant}
use Rattle.scql_base.specs.declared.records.RowRecord.{RowRecord}
use Rattle.scql_model.specs.Records.{counter_record, user_record, grant_record, row_record, object_fits, counter_in, user_in, object_in, grant_in, row_in}
use Rattle.scql_model.specs.Rules.{is_short, is_within_limit}
use Rattle.scql_model.specs.Database.{Database, IsValid, weight}
use Rattle.scql_model.specs.Opens.{Holds, is_spelled, counter_stamp}
use Rattle.scql_model.proofs.KindsApart.{given, one_kind}
use Rattle.card.specs.Opening.{gives_only, is_sound_object, is_sound_row, is_admitted, record_in, gathered}
use Rattle.card.specs.KeptRecords.{as_user, as_object, as_grant, as_row, users_in, objects_in, grants_in, rows_in}
use Rattle.card.specs.declared.kept_record.KeptRecord.{KeptRecord}
use Rattle.card.specs.declared.kept_record.KeptRecord.TheVariants as kept_as
use Rattle.card.specs.Validity.{HasFittingRecords}
use Rattle.card.proofs.Tested.{HasFittingRecords-valid}
use Rattle.card.proofs.ListsInOrder.{filter_map-cons_option, and-same, list_all-both}

abbrev pub user_stamp : User → ℕ
user_stamp u = u.stamp

abbrev pub object_stamp : Object → ℕ
object_stamp o = o.stamp

abbrev pub grant_stamp : Grant → ℕ
grant_stamp g = g.stamp

abbrev pub row_stamp : RowRecord → ℕ
row_stamp r = r.stamp

-- Slots are admitted where the records of each kind pass their tests.
list_all-gives_only : {X : Type 0} (test : X → Bool) (read : List ℕ → Option X) (slots : Slots) → list_all (gives_only test read) slots ≡ list_all test (filter_map (in_slot read) slots)
list_all-gives_only test read [] = refl
list_all-gives_only {X} test read (v ∷ slots) = go (in_slot read v) (list_all-gives_only test read slots)
  where
    go : (o : Option X) → list_all (gives_only test read) slots ≡ list_all test (filter_map (in_slot read) slots)
        → (option_map_or test o true && list_all (gives_only test read) slots) ≡ list_all test (cons_option o (filter_map (in_slot read) slots))
    go None rest = rest
    go (Some x) rest = ap (λ rest. test x && rest) rest

gives_only-kept : {X : Type 0} (key : X → ℕ) (test : X → Bool) (read : List ℕ → Option X) (slots : Slots) → list_all (gives_only test read) slots ≡ list_all test (kept key read slots)
gives_only-kept key test read slots = list_all-gives_only test read slots ∙ sym (list_all-in_order key test (filter_map (in_slot read) slots))

-- the tests of a database's records
abbrev pub are_admitted : ℕ → Database → Bool
are_admitted limit db =
    list_all counter_record.fits (db.next ∷ []) && (list_all user_record.fits db.users && (list_all is_sound_object db.objects
    && (list_all grant_record.fits db.grants && list_all (is_sound_row limit) db.rows)))

pub admitted-held : (limit : ℕ) (slots : Slots) (db : Database) → Holds slots db → list_all (is_admitted limit) slots ≡ are_admitted limit db
admitted-held limit slots db holds =
    let counter : list_all (gives_only counter_record.fits counter_in) slots ≡ list_all counter_record.fits (db.next ∷ []) = gives_only-kept counter_stamp counter_record.fits counter_in slots ∙ ap (list_all counter_record.fits) holds.counter in
    let users : list_all (gives_only user_record.fits user_in) slots ≡ list_all user_record.fits db.users = gives_only-kept user_stamp user_record.fits user_in slots ∙ ap (list_all user_record.fits) holds.users in
    let objects : list_all (gives_only is_sound_object object_in) slots ≡ list_all is_sound_object db.objects = gives_only-kept object_stamp is_sound_object object_in slots ∙ ap (list_all is_sound_object) holds.objects in
    let grants : list_all (gives_only grant_record.fits grant_in) slots ≡ list_all grant_record.fits db.grants = gives_only-kept grant_stamp grant_record.fits grant_in slots ∙ ap (list_all grant_record.fits) holds.grants in
    let rows : list_all (gives_only (is_sound_row limit) row_in) slots ≡ list_all (is_sound_row limit) db.rows = gives_only-kept row_stamp (is_sound_row limit) row_in slots ∙ ap (list_all (is_sound_row limit)) holds.rows in
    list_all-both is_spelled _ slots ∙ and-same holds.spelled (list_all-both (gives_only counter_record.fits counter_in) _ slots ∙ and-same counter (
    list_all-both (gives_only user_record.fits user_in) _ slots ∙ and-same users (list_all-both (gives_only is_sound_object object_in) _ slots ∙ and-same objects (
    list_all-both (gives_only grant_record.fits grant_in) (gives_only (is_sound_row limit) row_in) slots ∙ and-same grants rows))))

-- A valid database is admitted.
pub admitted-valid : (db : Database) → IsValid db → are_admitted db.limit db ≡ true
admitted-valid db valid =
    let within = HasFittingRecords-valid db valid in
    let objects = list_all-both object_fits is_short db.objects ∙ and-same within.objects within.object_lengths in
    let rows = list_all-both row_record.fits (is_within_limit db.limit) db.rows ∙ and-same within.rows within.lengths in
    and-same (and-same within.counter refl) (and-same within.users (and-same objects (and-same within.grants rows)))

-- A database that is admitted is within its limits.
pub admitted-parts : (db : Database) → are_admitted db.limit db ≡ true
    → (16 ≤ db.cells) × (db.cells ≤ 2048) → (db.limit == LARGEST_UNMIGRATED || db.limit == LARGEST) ≡ true → weight db ≤ db.cells → HasFittingRecords db
admitted-parts db admitted =
    let a = and_parts (list_all counter_record.fits (db.next ∷ [])) _ admitted in
    let b = and_parts (list_all user_record.fits db.users) _ a.1 in
    let c = and_parts (list_all is_sound_object db.objects) _ b.1 in
    let d = and_parts (list_all grant_record.fits db.grants) _ c.1 in
    let o = and_parts (list_all object_fits db.objects) (list_all is_short db.objects) (sym (list_all-both object_fits is_short db.objects) ∙ c.0) in
    let r = and_parts (list_all row_record.fits db.rows) (list_all (is_within_limit db.limit) db.rows) (sym (list_all-both row_record.fits (is_within_limit db.limit) db.rows) ∙ d.1) in
    λ cells limit room. record {
      cells = cells;
      limit = limit;
      room = room;
      counter = (and_parts (counter_record.fits db.next) true a.0).0;
      users = b.0;
      objects = o.0;
      object_lengths = o.1;
      grants = d.0;
      rows = r.0;
      lengths = r.1;
    }

-- The record of a slot is, of each kind, what its reader gives.
abbrev pub parts : ℕ → Option User → Option Object → Option Grant → Option RowRecord → Option KeptRecord
parts slot u o g r = option_or (option_map kept_as.User u) (option_or (option_map kept_as.Object o) (option_or (option_map kept_as.Grant g) (option_map (kept_as.Row slot) r)))

pub user-parts : (slot : ℕ) (u : Option User) (o : Option Object) (g : Option Grant) (r : Option RowRecord) → option_and_then as_user (parts slot u o g r) ≡ u
user-parts slot (Some u) o g r = refl
user-parts slot None (Some o) g r = refl
user-parts slot None None (Some g) r = refl
user-parts slot None None None (Some r) = refl
user-parts slot None None None None = refl

pub object-parts : (slot : ℕ) (u : Option User) (o : Option Object) (g : Option Grant) (r : Option RowRecord) → given u + (given o + (given g + given r)) ≤ 1 → option_and_then as_object (parts slot u o g r) ≡ o
object-parts slot (Some u) (Some o) g r one = absurd (omega (arith, one))
object-parts slot (Some u) None g r one = refl
object-parts slot None (Some o) g r one = refl
object-parts slot None None (Some g) r one = refl
object-parts slot None None None (Some r) one = refl
object-parts slot None None None None one = refl

pub grant-parts : (slot : ℕ) (u : Option User) (o : Option Object) (g : Option Grant) (r : Option RowRecord) → given u + (given o + (given g + given r)) ≤ 1 → option_and_then as_grant (parts slot u o g r) ≡ g
grant-parts slot (Some u) o (Some g) r one = absurd (omega (arith, one))
grant-parts slot (Some u) o None r one = refl
grant-parts slot None (Some o) (Some g) r one = absurd (omega (arith, one))
grant-parts slot None (Some o) None r one = refl
grant-parts slot None None (Some g) r one = refl
grant-parts slot None None None (Some r) one = refl
grant-parts slot None None None None one = refl

pub row-parts : (slot : ℕ) (u : Option User) (o : Option Object) (g : Option Grant) (r : Option RowRecord) → given u + (given o + (given g + given r)) ≤ 1 → option_and_then as_row (parts slot u o g r) ≡ r
row-parts slot (Some u) o g (Some r) one = absurd (omega (arith, one))
row-parts slot (Some u) o g None one = refl
row-parts slot None (Some o) g (Some r) one = absurd (omega (arith, one))
row-parts slot None (Some o) g None one = refl
row-parts slot None None (Some g) (Some r) one = absurd (omega (arith, one))
row-parts slot None None (Some g) None one = refl
row-parts slot None None None (Some r) one = refl
row-parts slot None None None None one = refl

pub others : (octets : List ℕ) → given (user_in octets) + (given (object_in octets) + (given (grant_in octets) + given (row_in octets))) ≤ 1
others octets = omega (arith, one_kind octets)

-- so of all slots
of_kind : {Y : Type 0} (pick : KeptRecord → Option Y) (read : List ℕ → Option Y) (slot : ℕ) (slots : Slots) → ((slot : ℕ) (octets : List ℕ) → option_and_then pick (record_in slot octets) ≡ read octets)
    → filter_map pick (gathered slot slots) ≡ filter_map (in_slot read) slots
of_kind pick read slot [] is = refl
of_kind {Y} pick read slot (v ∷ slots) is =
    filter_map-cons_option pick (in_slot (record_in slot) v) (gathered (suc slot) slots) ∙ (rw (go v) (ap (cons_option (in_slot read v)) (of_kind pick read (suc slot) slots is)))
  where
    go : (v : Option (List ℕ)) → option_and_then pick (in_slot (record_in slot) v) ≡ in_slot read v
    go None = refl
    go (Some octets) = is slot octets

pub users-gathered : (slots : Slots) → users_in (gathered 0 slots) ≡ filter_map (in_slot user_in) slots
users-gathered slots = of_kind as_user user_in 0 slots (λ slot octets. user-parts slot (user_in octets) (object_in octets) (grant_in octets) (row_in octets))

pub objects-gathered : (slots : Slots) → objects_in (gathered 0 slots) ≡ filter_map (in_slot object_in) slots
objects-gathered slots = of_kind as_object object_in 0 slots (λ slot octets. object-parts slot (user_in octets) (object_in octets) (grant_in octets) (row_in octets) (others octets))

pub grants-gathered : (slots : Slots) → grants_in (gathered 0 slots) ≡ filter_map (in_slot grant_in) slots
grants-gathered slots = of_kind as_grant grant_in 0 slots (λ slot octets. grant-parts slot (user_in octets) (object_in octets) (grant_in octets) (row_in octets) (others octets))

pub rows-gathered : (slots : Slots) → rows_in (gathered 0 slots) ≡ filter_map (in_slot row_in) slots
rows-gathered slots = of_kind as_row row_in 0 slots (λ slot octets. row-parts slot (user_in octets) (object_in octets) (grant_in octets) (row_in octets) (others octets))
