-- Edits that only remove records: what the slots that are left weigh, which rows they have, and the database that they hold.
use Rattle.std.proofs.Common.{◌≡◌, ℕ, zero, suc, ◌+◌, ◌≤◌, Bool, true, false, List, [], ◌∷◌, length, Option, Some, None, Result, Ok, refl, sym, subst, ◌∙◌, inl, inr, arith}
use Rattle.std.specs.Prelude.{IfSome, is_some}
use Rattle.std.specs.List.{sum_by}
use Rattle.std.proofs.Math.ListN.{set}
use Rattle.std.proofs.lemmas.Bool.{cases_Bool, false≢true, le-ltb}
use Rattle.std.proofs.lemmas.List.Sums.{sum_by-cons}
use Rattle.std.proofs.lemmas.Option.{none-some, same_Some}
use Rattle.eeprom.specs.Chip.{Chip}
use Rattle.eeprom.specs.StoreOf.{Slots, cells_of}
use Rattle.record_store.specs.Held.{Held, StandsFor}
use Rattle.record_store.specs.Transaction.{entries}
use Rattle.record_store.specs.declared.side.Side.TheVariants.{Committed, Working}
use Rattle.scql_base.specs.declared.words.StatusWord.{StatusWord}
use Rattle.scql_model.specs.Database.{Database, weight}
use Rattle.scql_model.specs.Edits.{Edit, applied, is_overfull, takes_stamp, touched}
use Rattle.scql_model.specs.Opens.{Holds}
use Rattle.scql_model.proofs.EditLaws.{applied-cells, applied-limit}
use Rattle.scql_model.proofs.Keeping.{Keeps}
use Rattle.scql_model.proofs.RightEdits.{Yields}
use Rattle.scql_model.proofs.Room.{cells-filled}
use Rattle.catalog_codec.specs.Catalog.{row_kind}
use Rattle.catalog_codec.specs.Kinds.{Kind}
use Rattle.record_table.specs.Listed.{at_slot, slots_of}
use Rattle.record_table.specs.Making.{IsHeld, KeepsRows, Makes}
use Rattle.record_table.specs.Touching.{Touches}
use Rattle.record_table.specs.Swept.{all_without, has_passing, without_passing}
use Rattle.record_table.proofs.Steps.{unless-told}
use Rattle.record_table.proofs.TouchedSlots.{Touches-told}

-- no more cells are taken than before
pub less-without : {X : Type 0} (kind : Kind X) (p : X → Bool) (slots : Slots) → sum_by cells_of (all_without kind p slots) ≤ sum_by cells_of slots
less-without kind p [] = omega arith
less-without kind p (entry ∷ slots) =
    let rest = less-without kind p slots in
    let now = sum_by-cons cells_of (without_passing kind p entry) (all_without kind p slots) in
    let was = sum_by-cons cells_of entry slots in
    let one : cells_of (without_passing kind p entry) ≤ cells_of entry = elim (cases_Bool (has_passing kind p entry)) [ inl t ↦ rw t (omega arith) | inr f ↦ rw f (omega arith) ] in
    omega (arith, rest, now, was, one)

pub less-emptied : (slots : Slots) (slot : ℕ) → sum_by cells_of (set slots slot None) ≤ sum_by cells_of slots
less-emptied [] slot = omega arith
less-emptied (entry ∷ slots) zero = let now = sum_by-cons cells_of None slots in let was = sum_by-cons cells_of entry slots in let none : cells_of None ≡ 0 = refl in omega (arith, now, was, none)
less-emptied (entry ∷ slots) (suc slot) =
    let rest = less-emptied slots slot in
    omega (arith, rest, sum_by-cons cells_of entry (set slots slot None), sum_by-cons cells_of entry slots)

-- what is told of slots where they are told
pub of-told : (store : Held) (chip : Chip) (slots : Slots) (P : Slots → Type 0) → slots_of store Working chip ≡ Some slots → IfSome (slots_of store Working chip) P → P slots
of-told store chip slots P told all = subst (λ (o : Option Slots). IfSome o P) told all

-- what becomes of slots in two steps
pub told-then : (old mid new : Held) (before after : Chip) (first second : Slots → Slots) → IfSome (slots_of old Working before) (λ slots. slots_of mid Working before ≡ Some (first slots))
    → IfSome (slots_of mid Working before) (λ slots. slots_of new Working after ≡ Some (second slots)) → IfSome (slots_of old Working before) (λ slots. slots_of new Working after ≡ Some (second (first slots)))
told-then old mid new before after first second one two = go (slots_of old Working before) one
  where
    go : (o : Option Slots) → IfSome o (λ slots. slots_of mid Working before ≡ Some (first slots)) → IfSome o (λ slots. slots_of new Working after ≡ Some (second (first slots)))
    go None one = tt
    go (Some slots) one = subst (λ (o : Option Slots). IfSome o (λ slots. slots_of new Working after ≡ Some (second slots))) one two

-- all rows stay where each slot that is left has the row that it had
pub KeepsRows-left : (old new : Held) (before after : Chip) → IfSome before.image (StandsFor old) → is_some after.image ≡ is_some before.image
    → IfSome (slots_of old Working before) (λ slots. (left : Slots) × (slots_of new Working after ≡ Some left) × ((place : ℕ) → at_slot row_kind place left ≡ at_slot row_kind place slots))
    → KeepsRows (slots_of old Working before) (slots_of new Working after)
KeepsRows-left old new before after stands told left = go (slots_of old Working before) refl left
  where
    go : (o : Option Slots) → slots_of old Working before ≡ o → IfSome o (λ slots. (left : Slots) × (slots_of new Working after ≡ Some left) × ((place : ℕ) → at_slot row_kind place left ≡ at_slot row_kind place slots))
        → KeepsRows (slots_of old Working before) (slots_of new Working after)
    go None none left = λ last is. absurd (none-some last (sym (unless-told old new Working before after stands told (λ slots here. none-some slots (sym none ∙ here)) ∙ none) ∙ is))
    go (Some slots) some left = λ last is. (slots, some, subst (λ s. (place : ℕ) → at_slot row_kind place s ≡ at_slot row_kind place slots) (same_Some left.0 last (sym left.1 ∙ is)) left.2)

-- A store whose slots lost records has made edits that take no stamp, where the database with them is what the slots hold.
pub Makes-left : (db : Database) (edits : List Edit) (outcome : Result (List Edit) StatusWord) (left : Slots) (old new : Held) (chip : Chip) (held : IsHeld old Working chip db) → Yields (Keeps db) outcome → outcome ≡ Ok edits
    → Holds left (applied db edits) → takes_stamp edits ≡ false → sum_by cells_of left ≤ sum_by cells_of held.slots → slots_of new Working chip ≡ Some left
    → new.chains.cells ≡ old.chains.cells → new.row_limit ≡ old.row_limit → slots_of new Committed chip ≡ slots_of old Committed chip → entries new ≤ entries old + length (touched edits)
    → Touches (touched edits) db.next held.slots left old new → Makes db edits old new chip chip
Makes-left db edits outcome left old new chip held keeps is holds none less told cells limit committed few touches =
    let after = applied db edits in
    let room : weight db ≤ db.cells = held.valid.stored.room in
    let weighs : weight after ≤ after.cells = omega (arith, room, less, cells-filled held.slots db held.holds, cells-filled left after holds, applied-cells db edits) in
    let over : is_overfull after ≡ false = le-ltb after.cells (weight after) weighs in
    record {
      room = rw (none, over) refl;
      held = record {
        slots = left;
        told = told;
        cells = applied-cells db edits ∙ held.cells ∙ sym cells;
        limit = applied-limit db edits ∙ held.limit ∙ sym limit;
        holds = holds;
        valid = keeps.each edits is (record {
          stamps_left = λ (takes : takes_stamp edits ≡ true). absurd (false≢true (sym none ∙ takes));
          room = weighs;
        });
      };
      committed = committed;
      octets = λ after told. (after, told, omega arith);
      entries = few;
      unwritten = λ none. refl;
      touches = Touches-told (touched edits) db.next old new chip chip held.slots left held.told told touches;
    }
