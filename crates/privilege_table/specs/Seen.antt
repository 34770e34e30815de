-- How a search ends for the object of a name that appears to an actor, on a side of a store.
use Rattle.std.specs.Prelude.{◌≡◌, ℕ, ◌+◌, ◌<◌, List, Option, Some, Result, IfOk, IfSome, is_some, option_map}
use Rattle.std.specs.List.{find}
use Rattle.eeprom.specs.Fault.{each_error}
use Rattle.eeprom.specs.Frame.{Reads}
use Rattle.eeprom.specs.StoreOf.{Slots}
use Rattle.eeprom.specs.declared.device.Eeprom.{Ghosts}
use Rattle.record_store.specs.Tags.{name_tag}
use Rattle.record_store.specs.declared.found.Found.{Found}
use Rattle.record_store.specs.declared.side_reader.SideReader.{SideReader}
use Rattle.record_store.specs.declared.tags.Tag.TheVariants.{Name}
use Rattle.scql_base.specs.declared.records.Object.{Object}
use Rattle.scql_base.specs.declared.words.Actor.{Actor}
use Rattle.scql_model.specs.Database.{Database}
use Rattle.scql_model.specs.Rights.{seen_named}
use Rattle.catalog_codec.specs.Catalog.{object_kind}
use Rattle.record_table.specs.Asking.{Holds, SameSide, octets_so_far, slots_asked}
use Rattle.record_table.specs.Listed.{at_slot, in_slots}
use Rattle.record_table.specs.Reading.{NeverFalls, ReadsCells}
use Rattle.record_table.specs.Tagged.{cells_tagged}
use Rattle.object_table.specs.Named.{has_name}
use Rattle.privilege_table.specs.Granted.{cells_granted_on}

-- how many cells the objects have that have the tag of a name, and the grants that tell whether the one of the name appears
abbrev pub cells_seen : Actor → List ℕ → Slots → ℕ
cells_seen actor name slots = cells_tagged object_kind (Some (Name (name_tag name))) slots + cells_granted_on actor (find (has_name name) (in_slots object_kind slots)) slots

module _ {B E : Type 0} {g : Ghosts B} where
  -- It is found, with its slot.
  pub record FindsSeen (actor : Actor) (name : List ℕ) (old new : SideReader B g) (result : Result (Option (Found Object)) E) : Type 0 where
    pub there : IfOk result (λ found. IfSome found (λ found. found.slot < old.store.now.chains.cells))
    pub at : IfOk result (λ found. IfSome found (λ found. IfSome (slots_asked old) (λ slots. Some found.value ≡ at_slot object_kind found.slot slots)))
    pub seen : (db : Database) → Holds old db → IfOk result (λ found. option_map (λ found. found.value) found ≡ seen_named db actor name)
    -- Of the objects those of the name's tag are read, and grants where there is one; the same side of the same store is read further, and nothing is written.
    pub octets_read : IfOk result (λ _. ReadsCells (cells_seen actor name) (slots_asked old) (octets_so_far old) (octets_so_far new))
    pub rises : IfOk result (λ _. NeverFalls (slots_asked old) (octets_so_far old) (octets_so_far new))
    pub goes_on : SameSide old new
    pub frame : Reads each_error g.chip g.faults old.bench.now new.bench.now result

  -- The same, where it is read into a place and its slot is answered. Where none appears the place is empty.
  pub record FindsSeenInto (actor : Actor) (name : List ℕ) (old new : SideReader B g) (place : Option Object) (result : Result (Option ℕ) E) : Type 0 where
    pub there : IfOk result (λ slot. IfSome slot (λ slot. slot < old.store.now.chains.cells))
    pub at : IfOk result (λ slot. IfSome slot (λ slot. IfSome (slots_asked old) (λ slots. place ≡ at_slot object_kind slot slots)))
    pub both : IfOk result (λ slot. is_some slot ≡ is_some place)
    pub seen : (db : Database) → Holds old db → IfOk result (λ _. place ≡ seen_named db actor name)
    pub octets_read : IfOk result (λ _. ReadsCells (cells_seen actor name) (slots_asked old) (octets_so_far old) (octets_so_far new))
    pub rises : IfOk result (λ _. NeverFalls (slots_asked old) (octets_so_far old) (octets_so_far new))
    pub goes_on : SameSide old new
    pub frame : Reads each_error g.chip g.faults old.bench.now new.bench.now result
