-- The stamps that a store tells are those of its rows' places; so the rows are in order.
use Rattle.std.proofs.Common.{◌≡◌, ℕ, zero, suc, ◌+◌, ◌<◌, List, [], ◌∷◌, Option, Some, None, get_or, refl, sym, ap, ◌∙◌, arith, subst}
use Rattle.std.proofs.lemmas.Option.{none-some}
use Rattle.std.specs.Prelude.{IfSome, option_and_then, option_map}
use Rattle.std.specs.List.{cons_option, AllByRecursion}
use Rattle.eeprom.specs.Chip.{Chip}
use Rattle.eeprom.specs.Slots.{AreApart, has}
use Rattle.eeprom.specs.StoreOf.{Slots}
use Rattle.eeprom.proofs.InOrder.{count_by-in_order}
use Rattle.record_store.specs.Held.{Held, IsOver, StandsFor, contents, record_at}
use Rattle.record_store.specs.Tags.{stamp_of}
use Rattle.record_store.specs.declared.side.Side.{Side}
use Rattle.record_store.specs.declared.side.Side.TheVariants.{Committed, Working}
use Rattle.scql_base.specs.declared.records.RowRecord.{RowRecord}
use Rattle.catalog_codec.specs.Catalog.{row_kind}
use Rattle.record_table.specs.Listed.{at_slot, slots_of}
use Rattle.record_table.specs.TagLaws.{stamped-row}
use Rattle.row_index.specs.Index.{AreStamps, HasRows, Index, Indexes, WhereIndexed, side_rows}
use Rattle.row_index.specs.Places.{place_of, place_key, place_slot, place_stamp, row_places}
use Rattle.row_index.specs.SideRows.{AreInOrder, SideRows, places_of}
use Rattle.row_index.specs.declared.place.RowPlace.{RowPlace}
use Rattle.row_index.proofs.Filtered.{all-in_order, all-out_of_order}
use Rattle.row_index.proofs.Scans.{places_from, row_in_slot}
use Rattle.row_index.proofs.SlotPlaces.{places-of_rows}
use Rattle.row_index.proofs.Tables.{AreInOrder-put}

-- the stamps that a store tells of a side
abbrev pub TellsStamps : Held → Side → List ℕ → Type 0
TellsStamps store side stamps = (image : List ℕ) (slot : ℕ) (octets : List ℕ) → StandsFor store image → record_at store side slot image ≡ Some octets → get_or stamps slot 0 ≡ stamp_of octets

-- are those of the records of its slots
pub stamps-told : (store : Held) (side : Side) (chip : Chip) (stamps : List ℕ) → IsOver store chip → TellsStamps store side stamps → IfSome (slots_of store side chip) (AreStamps stamps)
stamps-told store side chip stamps over tells = of chip.image over.stands
  where
    told : (image : List ℕ) → StandsFor store image → (o : Option Slots) → contents store side image ≡ o → IfSome o (AreStamps stamps)
    told image stands None is = tt
    told image stands (Some slots) is = λ slot octets at. tells image slot octets stands (ap (option_and_then (λ (slots : Slots). get_or slots slot None)) is ∙ at)

    of : (image : Option (List ℕ)) → IfSome image (StandsFor store) → IfSome (option_and_then (contents store side) image) (AreStamps stamps)
    of None stands = tt
    of (Some image) stands = told image stands (contents store side image) refl

-- what is so of all of them is so where they are told
pub IfSome-both : {X : Type 0} (o : Option X) (P Q : X → Type 0) → ((x : X) → P x → Q x) → IfSome o P → IfSome o Q
IfSome-both None P Q says told = tt
IfSome-both (Some x) P Q says told = says x told

-- of a row it is the row's stamp
pub row-stamped : (stamps : List ℕ) (slots : Slots) (slot : ℕ) (row : RowRecord) → AreStamps stamps slots → at_slot row_kind slot slots ≡ Some row → get_or stamps slot 0 ≡ row.stamp
row-stamped stamps slots slot row are at = of (get_or slots slot None) refl at
  where
    of : (entry : Option (List ℕ)) → get_or slots slot None ≡ entry → row_in_slot entry ≡ Some row → get_or stamps slot 0 ≡ row.stamp
    of None is at = absurd (none-some row at)
    of (Some octets) is at = are slot octets is ∙ stamped-row octets row at

-- so of each place
pub each_from : (stamps : List ℕ) (first : ℕ) (slots : Slots) → ((at : ℕ) (row : RowRecord) → at_slot row_kind at slots ≡ Some row → get_or stamps (first + at) 0 ≡ row.stamp)
    → AllByRecursion (λ (place : RowPlace). get_or stamps place.slot 0 ≡ place.stamp) (places_from first slots)
each_from stamps first [] stamped = tt
each_from stamps first (entry ∷ slots) stamped =
    let same : (n : ℕ) → suc first + n ≡ first + suc n = λ n. omega arith in
    one (row_in_slot entry) refl (each_from stamps (suc first) slots (λ at row is. ap (λ n. get_or stamps n 0) (same at) ∙ stamped (suc at) row is))
  where
    own : first + 0 ≡ first
    own = omega arith

    one : (row : Option RowRecord) → row_in_slot entry ≡ row → AllByRecursion (λ (place : RowPlace). get_or stamps place.slot 0 ≡ place.stamp) (places_from (suc first) slots)
        → AllByRecursion (λ (place : RowPlace). get_or stamps place.slot 0 ≡ place.stamp) (cons_option (option_map (place_of first) row) (places_from (suc first) slots))
    one None is rest = rest
    one (Some row) is rest = (ap (λ n. get_or stamps n 0) (sym own) ∙ stamped 0 row is, rest)

pub stamped-each : (stamps : List ℕ) (slots : Slots) → ((at : ℕ) (row : RowRecord) → at_slot row_kind at slots ≡ Some row → get_or stamps at 0 ≡ row.stamp)
    → AllByRecursion (λ (place : RowPlace). get_or stamps place.slot 0 ≡ place.stamp) (row_places slots)
stamped-each stamps slots stamped = all-in_order place_key (λ (place : RowPlace). get_or stamps place.slot 0 ≡ place.stamp) (places_from 0 slots) (each_from stamps 0 slots (λ at row is. ap (λ n. get_or stamps n 0) (less_zero at) ∙ stamped at row is))
  where
    less_zero : (n : ℕ) → 0 + n ≡ n
    less_zero n = omega arith

pub places-stamped : (stamps : List ℕ) (slots : Slots) → AreStamps stamps slots → AllByRecursion (λ (place : RowPlace). get_or stamps place.slot 0 ≡ place.stamp) (row_places slots)
places-stamped stamps slots are = stamped-each stamps slots (λ at row is. row-stamped stamps slots at row are is)

-- the rows of slots are in order
pub order-told : (cells : ℕ) (rows : SideRows) (slots : Slots) → HasRows cells rows slots → AreInOrder (row_places slots)
order-told cells rows slots has_rows =
    AreInOrder-put (places_from 0 slots) (λ k. let a = has_rows.apart k in let c = count_by-in_order place_key (has place_stamp k) (places_from 0 slots) in omega arith)
    (all-out_of_order place_key (λ (place : RowPlace). place_stamp place < 4294967296) (places_from 0 slots) has_rows.fits)

-- An index that stands for a store has the places of its rows, in order.
pub where-indexed : (index : Index) (store : Held) (side : Side) (stamps : List ℕ) (P : Slots → Type 0) → TellsStamps store side stamps
    → ((slots : Slots) → places_of stamps (side_rows index side) ≡ row_places slots → AreInOrder (places_of stamps (side_rows index side)) → P slots) → WhereIndexed index store side P
where-indexed index store side stamps P tells says chip over stands = told (slots_of store side chip) (rows side) (stamps-told store side chip stamps over tells)
  where
    rows : (side : Side) → IfSome (slots_of store side chip) (HasRows index.cells (side_rows index side))
    rows Committed = stands.committed
    rows Working = stands.working

    told : (o : Option Slots) → IfSome o (HasRows index.cells (side_rows index side)) → IfSome o (AreStamps stamps) → IfSome o P
    told None has_rows are = tt
    told (Some slots) has_rows are =
        let here = places-of_rows stamps (side_rows index side) (row_places slots) has_rows.are (places-stamped stamps slots are) in
        says slots here (subst AreInOrder (sym here) (order-told index.cells (side_rows index side) slots has_rows))
