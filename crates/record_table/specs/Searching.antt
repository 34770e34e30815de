-- How a search of the records of a kind ends, on a side of a store.
use Rattle.std.specs.Prelude.{◌≡◌, ℕ, ◌<◌, ◌≤◌, Bool, List, Option, Some, Result, IfOk, IfSome, count_by, is_some, option_map}
use Rattle.std.specs.List.{find, list_any}
use Rattle.eeprom.specs.Fault.{each_error}
use Rattle.eeprom.specs.Frame.{Reads}
use Rattle.eeprom.specs.Slots.{Rises, has, is_after}
use Rattle.eeprom.specs.declared.device.Eeprom.{Ghosts}
use Rattle.record_store.specs.declared.found.Found.{Found}
use Rattle.record_store.specs.declared.side_reader.SideReader.{SideReader}
use Rattle.record_store.specs.declared.tags.Tag.{Tag}
use Rattle.record_store.specs.declared.tags.Tag.TheVariants.{Stamp}
use Rattle.catalog_codec.specs.Kinds.{Kind}
use Rattle.record_table.specs.Asking.{SameSide, octets_so_far, slots_asked}
use Rattle.record_table.specs.Listed.{at_slot, cells_marked, in_slots, listed}
use Rattle.record_table.specs.Reading.{NeverFalls, ReadsCells}
use Rattle.record_table.specs.Tagged.{cells_tagged}

module _ {B X E : Type 0} {g : Ghosts B} (kind : Kind X) where
  -- A record that is wanted is found, with its slot: that of the lowest slot. All that are wanted have the tag, where there is one.
  pub record Finds (wants : X → Bool) (tag : Option Tag) (old new : SideReader B g) (result : Result (Option (Found X)) E) : Type 0 where
    -- The slot has the record,
    pub there : IfOk result (λ found. IfSome found (λ found. found.slot < old.store.now.chains.cells))
    pub at : IfOk result (λ found. IfSome found (λ found. IfSome (slots_asked old) (λ slots. Some found.value ≡ at_slot kind found.slot slots)))
    -- one is found where there is one, and it is the first as the slots have them.
    pub some : IfOk result (λ found. IfSome (slots_asked old) (λ slots. is_some found ≡ list_any wants (listed kind slots)))
    pub first : IfOk result (λ found. IfSome (slots_asked old) (λ slots. option_map (λ found. found.value) found ≡ find wants (in_slots kind slots)))
    -- Where there is one at most, it is the one that the list has.
    pub found : IfOk result (λ found. IfSome (slots_asked old)
        (λ slots. count_by wants (listed kind slots) ≤ 1 → option_map (λ found. found.value) found ≡ find wants (listed kind slots)))
    -- Records of the tag alone are read.
    pub octets_read : IfOk result (λ _. ReadsCells (cells_tagged kind tag) (slots_asked old) (octets_so_far old) (octets_so_far new))
    pub rises : IfOk result (λ _. NeverFalls (slots_asked old) (octets_so_far old) (octets_so_far new))
    -- The same side of the same store is read further, and nothing is written.
    pub goes_on : SameSide old new
    pub frame : Reads each_error g.chip g.faults old.bench.now new.bench.now result

  -- The same, where the record is read into a place and its slot is answered. Where there is none the place is empty.
  pub record FindsInto (wants : X → Bool) (tag : Option Tag) (old new : SideReader B g) (place : Option X) (result : Result (Option ℕ) E) : Type 0 where
    pub there : IfOk result (λ slot. IfSome slot (λ slot. slot < old.store.now.chains.cells))
    pub at : IfOk result (λ slot. IfSome slot (λ slot. IfSome (slots_asked old) (λ slots. place ≡ at_slot kind slot slots)))
    pub both : IfOk result (λ slot. is_some slot ≡ is_some place)
    pub some : IfOk result (λ _. IfSome (slots_asked old) (λ slots. is_some place ≡ list_any wants (listed kind slots)))
    pub first : IfOk result (λ _. IfSome (slots_asked old) (λ slots. place ≡ find wants (in_slots kind slots)))
    pub found : IfOk result (λ _. IfSome (slots_asked old) (λ slots. count_by wants (listed kind slots) ≤ 1 → place ≡ find wants (listed kind slots)))
    pub octets_read : IfOk result (λ _. ReadsCells (cells_tagged kind tag) (slots_asked old) (octets_so_far old) (octets_so_far new))
    pub rises : IfOk result (λ _. NeverFalls (slots_asked old) (octets_so_far old) (octets_so_far new))
    pub goes_on : SameSide old new
    pub frame : Reads each_error g.chip g.faults old.bench.now new.bench.now result

  -- The record of a stamp is found, with its slot.
  pub record FindsStamp (stamp : ℕ) (old new : SideReader B g) (result : Result (Option (Found X)) E) : Type 0 where
    pub there : IfOk result (λ found. IfSome found (λ found. found.slot < old.store.now.chains.cells))
    pub at : IfOk result (λ found. IfSome found (λ found. IfSome (slots_asked old) (λ slots. Some found.value ≡ at_slot kind found.slot slots)))
    -- Where stamps rise, as they do in a database, it is the one that the list has.
    pub found : IfOk result (λ found. IfSome (slots_asked old)
        (λ slots. Rises kind.key (listed kind slots) → option_map (λ found. found.value) found ≡ find (has kind.key stamp) (listed kind slots)))
    -- That record alone is read, the same side of the same store is read further, and nothing is written.
    pub octets_read : IfOk result (λ _. ReadsCells (cells_tagged kind (Some (Stamp stamp))) (slots_asked old) (octets_so_far old) (octets_so_far new))
    pub rises : IfOk result (λ _. NeverFalls (slots_asked old) (octets_so_far old) (octets_so_far new))
    pub goes_on : SameSide old new
    pub frame : Reads each_error g.chip g.faults old.bench.now new.bench.now result

  -- The same, where the record is read into a place and its slot is answered. Where there is none the place is empty.
  pub record FindsStampInto (stamp : ℕ) (old new : SideReader B g) (place : Option X) (result : Result (Option ℕ) E) : Type 0 where
    pub there : IfOk result (λ slot. IfSome slot (λ slot. slot < old.store.now.chains.cells))
    pub at : IfOk result (λ slot. IfSome slot (λ slot. IfSome (slots_asked old) (λ slots. place ≡ at_slot kind slot slots)))
    pub both : IfOk result (λ slot. is_some slot ≡ is_some place)
    pub found : IfOk result (λ _. IfSome (slots_asked old) (λ slots. Rises kind.key (listed kind slots) → place ≡ find (has kind.key stamp) (listed kind slots)))
    pub octets_read : IfOk result (λ _. ReadsCells (cells_tagged kind (Some (Stamp stamp))) (slots_asked old) (octets_so_far old) (octets_so_far new))
    pub rises : IfOk result (λ _. NeverFalls (slots_asked old) (octets_so_far old) (octets_so_far new))
    pub goes_on : SameSide old new
    pub frame : Reads each_error g.chip g.faults old.bench.now new.bench.now result

  -- Of some of the kind's records the one of the least stamp above a stamp is found, with its slot. Of each record of the kind the octets are read at most.
  pub record FindsNext (stamp : ℕ) (among : List X → List X) (old new : SideReader B g) (result : Result (Option (Found X)) E) : Type 0 where
    pub there : IfOk result (λ next. IfSome next (λ next. next.slot < old.store.now.chains.cells))
    pub at : IfOk result (λ next. IfSome next (λ next. IfSome (slots_asked old) (λ slots. Some next.value ≡ at_slot kind next.slot slots)))
    pub next : IfOk result (λ next. IfSome (slots_asked old)
        (λ slots. Rises kind.key (listed kind slots) → option_map (λ next. next.value) next ≡ find (is_after kind.key stamp) (among (listed kind slots))))
    pub octets_read : IfOk result (λ _. ReadsCells (cells_marked kind) (slots_asked old) (octets_so_far old) (octets_so_far new))
    pub rises : IfOk result (λ _. NeverFalls (slots_asked old) (octets_so_far old) (octets_so_far new))
    pub goes_on : SameSide old new
    pub frame : Reads each_error g.chip g.faults old.bench.now new.bench.now result
