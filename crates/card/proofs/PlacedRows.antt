-- Where the rows stand that were gathered: they are the row places of the slots, and an index can hold them.
use Rattle.std.proofs.Common.{◌≡◌, ℕ, suc, ◌+◌, ◌<◌, ◌≤◌, Bool, false, List, [], ◌∷◌, Option, Some, None, option_map, refl, sym, ap, subst, ◌∙◌, arith}
use Rattle.std.specs.Prelude.{IfSome, if◌then◌else◌}
use Rattle.std.specs.Option.{option_and_then}
use Rattle.std.specs.List.{filter_map, cons_option}
use Rattle.std.proofs.lemmas.Option.{none-some, same_Some}
use Rattle.eeprom.specs.Chip.{Chip, Becomes, RisesAtMost}
use Rattle.eeprom.specs.Slots.{AreApart, Rises, in_order, in_slot}
use Rattle.eeprom.specs.StoreOf.{Slots, Stored, slots_at, store_of}
use Rattle.eeprom.proofs.InOrder.{AreApart-rising, Rises-in_order}
use Rattle.record_store.specs.declared.side.Side.TheVariants.{Committed, Working}
use Rattle.record_store.specs.Held.{Held, contents, stored, with_limit}
use Rattle.record_store.specs.Opening.{HeldSoFar, front_octets, journal_octets, most_octets}
use Rattle.record_store.proofs.OpeningSlots.{ReadsSoFar}
use Rattle.record_store.proofs.Weights.{limited}
use Rattle.cell_store.specs.Reading.{ReadsCells}
use Rattle.scql_base.specs.declared.records.User.{User}
use Rattle.scql_base.specs.declared.records.Object.{Object}
use Rattle.scql_base.specs.declared.records.Grant.{Grant}
use Rattle.scql_base.specs.declared.records.RowRecord.{RowRecord}
use Rattle.scql_model.specs.Records.{row_in, user_in, object_in, grant_in}
use Rattle.scql_model.specs.Database.{Database}
use Rattle.scql_model.specs.Opens.{Opens}
use Rattle.row_index.specs.Index.{ArePlacesIn, HasRows, Index, Indexes}
use Rattle.row_index.specs.Places.{numbered, place_in, place_of, place_stamp}
use Rattle.row_index.specs.declared.place.RowPlace.{RowPlace}
use Rattle.record_table.specs.Listed.{slots_of}
use Rattle.record_table.specs.AtRest.{IsAtRest}
use Rattle.card.specs.Card.{HoldsSome}
use Rattle.card.specs.Opening.{gathered, record_in}
use Rattle.card.specs.KeptRecords.{as_place, places_in, stamp_of}
use Rattle.card.specs.declared.kept_record.KeptRecord.{KeptRecord}
use Rattle.card.specs.declared.kept_record.KeptRecord.TheVariants as kept_as
use Rattle.card.proofs.GatheredSlots.{Gathers}
use Rattle.card.proofs.HeldKinds.{parts, others}
use Rattle.scql_model.proofs.KindsApart.{given}
use Rattle.card.proofs.ListsInOrder.{all-filter_map, filter_map-cons_option, filter_map-in_order}

-- what is gathered of a slot's row stands where the slot's row does
pub place-parts : (slot : ℕ) (u : Option User) (o : Option Object) (g : Option Grant) (r : Option RowRecord) → given u + (given o + (given g + given r)) ≤ 1 → option_and_then as_place (parts slot u o g r) ≡ option_map (place_of slot) r
place-parts slot (Some u) o g (Some r) one = absurd (omega (arith, one))
place-parts slot (Some u) o g None one = refl
place-parts slot None (Some o) g (Some r) one = absurd (omega (arith, one))
place-parts slot None (Some o) g None one = refl
place-parts slot None None (Some g) (Some r) one = absurd (omega (arith, one))
place-parts slot None None (Some g) None one = refl
place-parts slot None None None (Some r) one = refl
place-parts slot None None None None one = refl

place-gathered : (slot : ℕ) (v : Option (List ℕ)) → option_and_then as_place (in_slot (record_in slot) v) ≡ place_in (slot, v)
place-gathered slot None = refl
place-gathered slot (Some octets) = place-parts slot (user_in octets) (object_in octets) (grant_in octets) (row_in octets) (others octets)

places-gathered : (slot : ℕ) (slots : Slots) → places_in (gathered slot slots) ≡ filter_map place_in (numbered slot slots)
places-gathered slot [] = refl
places-gathered slot (v ∷ slots) =
    filter_map-cons_option as_place (in_slot (record_in slot) v) (gathered (suc slot) slots)
    ∙ (rw (place-gathered slot v) (ap (cons_option (place_in (slot, v))) (places-gathered (suc slot) slots)))

place-stamp : (s : KeptRecord) (place : RowPlace) → as_place s ≡ Some place → place_stamp place ≡ stamp_of s
place-stamp (kept_as.User u) place is = absurd (none-some place is)
place-stamp (kept_as.Object o) place is = absurd (none-some place is)
place-stamp (kept_as.Grant g) place is = absurd (none-some place is)
place-stamp (kept_as.Row slot r) place is = sym (ap place_stamp (same_Some (place_of slot r) place is))

-- The rows among the records of slots, in rising order of their stamps, stand where those of the slots do.
stamped-gathered : (slots : Slots) → AreApart stamp_of (gathered 0 slots) → places_in (in_order stamp_of (gathered 0 slots)) ≡ in_order place_stamp (filter_map place_in (numbered 0 slots))
stamped-gathered slots apart = filter_map-in_order stamp_of place_stamp as_place (gathered 0 slots) place-stamp apart ∙ ap (in_order place_stamp) (places-gathered 0 slots)

rises-places : (records : List KeptRecord) → Rises stamp_of records → Rises place_stamp (places_in records)
rises-places [] rises = tt
rises-places (s ∷ records) rises = go (as_place s) refl (rises-places records rises.1)
  where
    go : (o : Option RowPlace) → as_place s ≡ o → Rises place_stamp (places_in records) → Rises place_stamp (cons_option o (places_in records))
    go None is rest = rest
    go (Some place) is rest = (
      all-filter_map (λ r. stamp_of s < stamp_of r) (λ next. place_stamp place < place_stamp next) as_place records
          (λ r next at above. let a = place-stamp s place is in let b = place-stamp r next at in omega arith) rises.0,
      rest,
    )

-- Where the committed slots have these records, their rows stand in these places.
rows_told : (store : Held) (image : Option (List ℕ)) (count next : ℕ) (records sorted : List KeptRecord) → IfSome image (λ image. store_of image ≡ stored store Committed image)
    → IfSome image (λ image. (was : Stored) → store_of image ≡ Some was → Gathers was.row_limit count was.slots (Some next) records) → AreApart stamp_of records → sorted ≡ in_order stamp_of records
    → IfSome (option_and_then (contents store Committed) image) (ArePlacesIn count (places_in sorted))
rows_told store None count next records sorted opened gathers apart sort = tt
rows_told store (Some image) count next records sorted opened gathers apart sort = go (contents store Committed image) refl
  where
    go : (o : Option Slots) → contents store Committed image ≡ o → IfSome o (ArePlacesIn count (places_in sorted))
    go None is = tt
    go (Some slots) is =
        let g = gathers (record { row_limit = store.row_limit; slots = slots }) (opened ∙ ap (with_limit store.row_limit) is) in
        record {
          all = g.count_is;
          are = ap places_in sort ∙ ap (λ (records : List KeptRecord). places_in (in_order stamp_of records)) (sym g.records_are) ∙ stamped-gathered slots (subst (AreApart stamp_of) (sym g.records_are) apart);
          apart = AreApart-rising place_stamp (places_in sorted) (rises-places sorted (subst (Rises stamp_of) (sym sort) (Rises-in_order stamp_of records apart)));
        }

-- without a transaction both sides have the same slots
idle_sides : (store : Held) (image : Option (List ℕ)) → store.begun ≡ false → option_and_then (contents store Committed) image ≡ option_and_then (contents store Working) image
idle_sides store None idle = refl
idle_sides store (Some image) idle = sym (ap (λ (begun : Bool). slots_at image store.chains.cells (if begun then store.working else store.committed)) idle)

-- So an index of them stands for the store.
pub indexed : (index : Index) (store : Held) (chip : Chip) (cells count next : ℕ) (records sorted : List KeptRecord) → index.cells ≡ cells → index.working ≡ index.committed → cells ≡ count
    → store.begun ≡ false → count ≡ store.chains.cells → IfSome (slots_of store Committed chip) (λ slots. ArePlacesIn cells (places_in sorted) slots → HasRows index.cells index.committed slots) → IfSome chip.image (λ image. store_of image ≡ stored store Committed image)
    → IfSome chip.image (λ image. (was : Stored) → store_of image ≡ Some was → Gathers was.row_limit count was.slots (Some next) records) → AreApart stamp_of records → sorted ≡ in_order stamp_of records
    → Indexes index store chip
indexed index store chip cells count next records sorted same both all idle claimed filled opened gathers apart sort =
    let places = subst (λ (n : ℕ). IfSome (option_and_then (contents store Committed) chip.image) (ArePlacesIn n (places_in sorted))) (sym all) (rows_told store chip.image count next records sorted opened gathers apart sort) in
    let rows = told (slots_of store Committed chip) places filled in
    record {
      cells = same ∙ all ∙ claimed;
      committed = rows;
      working = rw both (subst (λ (o : Option Slots). IfSome o (HasRows index.cells index.committed)) (idle_sides store chip.image idle) rows);
    }
  where
    told : (o : Option Slots) → IfSome o (ArePlacesIn cells (places_in sorted)) → IfSome o (λ slots. ArePlacesIn cells (places_in sorted) slots → HasRows index.cells index.committed slots) → IfSome o (HasRows index.cells index.committed)
    told None places filled = tt
    told (Some slots) places filled = filled places

-- The store holds the database that its image opens to.
pub holds-opened : (store : Held) (chip : Chip) (count next : ℕ) (records : List KeptRecord) → count ≡ store.chains.cells → IfSome chip.image (λ image. store_of image ≡ stored store Committed image)
    → IfSome chip.image (λ image. (was : Stored) → store_of image ≡ Some was → Gathers was.row_limit count was.slots (Some next) records) → IfSome chip.image (λ image. (db : Database) × Opens image db) → HoldsSome store Committed chip
holds-opened store chip count next records cells opened gathers opens = go chip.image refl opened gathers opens
  where
    go : (image : Option (List ℕ)) → chip.image ≡ image → IfSome image (λ image. store_of image ≡ stored store Committed image)
        → IfSome image (λ image. (was : Stored) → store_of image ≡ Some was → Gathers was.row_limit count was.slots (Some next) records) → IfSome image (λ image. (db : Database) × Opens image db)
        → IfSome image (λ image. (db : Database) × IsAtRest store chip db)
    go None told opened gathers opens = tt
    go (Some image) told opened gathers opens =
        let o = opens.1 in
        let there = limited store.row_limit (contents store Committed image) o.store (sym opened ∙ o.stored) in (
          opens.0,
          record {
            slots = o.store.slots;
            told = ap (option_and_then (contents store Committed)) told ∙ there.0;
            cells = sym o.holds.cells ∙ (gathers o.store o.stored).count_is ∙ cells;
            limit = o.limit ∙ sym there.1;
            holds = o.holds;
            valid = o.valid;
          },
        )

-- how many octets were read once so many cells were claimed
pub most-read : (held : HeldSoFar) (a b c : Option ℕ) → held.weight ≤ held.chains.cells → held.chains.cells ≤ 2048 → Becomes (RisesAtMost (front_octets 2048 + journal_octets 2048)) a b → Becomes (ReadsSoFar held) b c
    → Becomes (RisesAtMost most_octets) a c
most-read held a b c few many first second = λ after is.
    let last = second after is in
    let start = first last.0 last.1 in
    (start.0, start.1, omega (arith, few, many, start.2, last.2))

pub read-next : (held next : HeldSoFar) (count : ℕ) (a b c : Option ℕ) → next.weight ≡ held.weight + count → Becomes (ReadsSoFar held) a b → Becomes (ReadsCells count) b c → Becomes (ReadsSoFar next) a c
read-next held next count a b c more first second = λ after is.
    let last = second after is in
    let start = first last.0 last.1 in
    (start.0, start.1, omega (arith, more, start.2, last.2))
