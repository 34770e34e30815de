-- The index of a card stands for its store before, in and after each change.
use Rattle.std.proofs.Common.{◌≡◌, ℕ, Bool, false, List, length, Option, Some, None, is_some, Result, Ok, Err, refl, sym, ap, subst, ◌∙◌}
use Rattle.std.specs.Prelude.{IfSome, option_and_then, if◌then◌else◌}
use Rattle.eeprom.specs.Chip.{Chip}
use Rattle.eeprom.specs.StoreOf.{Slots, slots_at}
use Rattle.record_store.specs.Held.{Held, contents}
use Rattle.record_store.specs.declared.side.Side.{Side}
use Rattle.record_store.specs.declared.side.Side.TheVariants.{Committed, Working}
use Rattle.scql_base.specs.declared.words.StatusWord.{StatusWord}
use Rattle.scql_model.specs.Database.{Database}
use Rattle.record_table.specs.Listed.{slots_of}
use Rattle.record_table.specs.Making.{IsHeld, GoesOn, KeepsRows}
use Rattle.row_index.specs.Index.{HasRows, Index, Indexes, side_rows}
use Rattle.row_index.proofs.IndexLaws.{HasRows-kept, Indexes-untold}
use Rattle.row_index.specs.SideRows.{SideRows}
use Rattle.record_table.specs.AtRest.{IsAtRest}
use Rattle.card.specs.Card.{HoldsSome, committed_slots}
use Rattle.card.specs.Changing.{Concludes}
use Rattle.card.proofs.SlotCount.{length-committed_slots}
use Rattle.card.proofs.Told.{if_some-at}

-- the rows of a side are those of its slots
rows-told : (index : Index) (store : Held) (chip : Chip) (side : Side) → Indexes index store chip → IfSome (slots_of store side chip) (HasRows index.cells (side_rows index side))
rows-told index store chip Committed stands = stands.committed
rows-told index store chip Working stands = stands.working

-- without a transaction both sides have the same slots
pub working-idle : (store : Held) (chip : Chip) → store.begun ≡ false → slots_of store Working chip ≡ slots_of store Committed chip
working-idle store chip idle = of chip.image
  where
    of : (image : Option (List ℕ)) → option_and_then (contents store Working) image ≡ option_and_then (contents store Committed) image
    of None = refl
    of (Some image) = ap (λ (begun : Bool). slots_at image store.chains.cells (if begun then store.working else store.committed)) idle

-- One with the places of a side on both stands for a store without a transaction that has committed the slots of that side.
pub Indexes-ended : (index next : Index) (side : Side) (store ended : Held) (old new : Chip) → Indexes index store old → next ≡ record { cells = index.cells; begun = false; committed = side_rows index side; working = side_rows index side }
    → ended.begun ≡ false → ended.chains.cells ≡ store.chains.cells → slots_of ended Committed new ≡ slots_of store side old → Indexes next ended new
Indexes-ended index next side store ended old new stands is_next idle cells same =
    let rows = subst (λ o. IfSome o (HasRows index.cells (side_rows index side))) (sym same) (rows-told index store old side stands) in
    subst (λ (i : Index). Indexes i ended new) (sym is_next) (record {
      cells = stands.cells ∙ sym cells;
      committed = rows;
      working = subst (λ o. IfSome o (HasRows index.cells (side_rows index side))) (sym (working-idle ended new idle)) rows;
    })

-- Where a side held some database if its image was told, an index stands that does so for each database.
pub Indexes-held : (index : Index) (store before : Held) (side : Side) (old new : Chip) → HoldsSome before side old → is_some new.image ≡ is_some old.image → index.cells ≡ store.chains.cells
    → ((db : Database) → IsHeld before side old db → Indexes index store new) → Indexes index store new
Indexes-held index store before side old new holds told cells each = of old.image new.image refl holds told
  where
    of : (was now : Option (List ℕ)) → new.image ≡ now → IfSome was (λ image. (db : Database) × IsHeld before side old db) → is_some now ≡ is_some was → Indexes index store new
    of (Some image) now is holds told = each holds.0 holds.1
    of None None is holds told = Indexes-untold index store new cells (ap is_some is)
    of None (Some image) is holds told = absurd cc

-- And so does the side hold some database again.
pub HoldsSome-changed : (store before : Held) (side : Side) (old new : Chip) → HoldsSome before side old → is_some new.image ≡ is_some old.image
    → ((db : Database) → IsHeld before side old db → (next : Database) × IsHeld store side new next) → HoldsSome store side new
HoldsSome-changed store before side old new holds told each = of old.image new.image holds told
  where
    of : (was now : Option (List ℕ)) → IfSome was (λ image. (db : Database) × IsHeld before side old db) → is_some now ≡ is_some was → IfSome now (λ image. (db : Database) × IsHeld store side new db)
    of was None holds told = tt
    of (Some image) (Some now) holds told = each holds.0 holds.1
    of None (Some now) holds told = absurd cc

-- what was concluded is held
pub rest-concluded : (db : Database) (outcome : Result Database StatusWord) (word : StatusWord) (store : Held) (chip : Chip) → Concludes db outcome word store chip → (next : Database) × IsAtRest store chip next
rest-concluded db (Ok next) word store chip concludes = (next, concludes.1)
rest-concluded db (Err refused) word store chip concludes = (db, concludes.1)

-- Rows that stay in their slots are those that an index has.
kept_rows : (cells : ℕ) (rows : SideRows) (old new : Option Slots) → IfSome old (HasRows cells rows) → IfSome new (λ slots. length slots ≡ cells) → KeepsRows old new → IfSome new (HasRows cells rows)
kept_rows cells rows old None are many keeps = tt
kept_rows cells rows old (Some after) are many keeps =
    let kept = keeps after refl in
    HasRows-kept cells rows kept.0 after (if_some-at (HasRows cells rows) old kept.0 kept.1 are) many kept.2

-- So an index stands for a store that goes on with every row in its slot, on both sides.
pub Indexes-on : (index : Index) (old new : Held) (before after : Chip) → Indexes index old before → GoesOn old new before after → new.begun ≡ false
    → ((side : Side) → KeepsRows (slots_of old side before) (slots_of new side after)) → Indexes index new after
unfolding committed_slots
Indexes-on index old new before after stands goes_on idle keeps =
    let cells : index.cells ≡ new.chains.cells = stands.cells ∙ sym goes_on.cells in
    let many = subst (λ (n : ℕ). IfSome (slots_of new Committed after) (λ slots. length slots ≡ n)) (sym cells) (length-committed_slots new after.image goes_on.over.stands) in
    record {
      cells = cells;
      committed = kept_rows index.cells index.committed (slots_of old Committed before) (slots_of new Committed after) stands.committed many (keeps Committed);
      working = kept_rows index.cells index.working (slots_of old Working before) (slots_of new Working after) stands.working
          (subst (λ o. IfSome o (λ (slots : Slots). length slots ≡ index.cells)) (sym (working-idle new after idle)) many) (keeps Working);
    }
