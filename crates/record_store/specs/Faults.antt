-- Which refusals are faults of the EEPROM.
use Rattle.std.specs.Prelude.{Bool, true, false}
use Rattle.record_store.specs.declared.refusal.FormatRefusal.{FormatRefusal}
use Rattle.record_store.specs.declared.refusal.FormatRefusal.TheVariants.{TooSmall, Fault as FormatFault}
use Rattle.record_store.specs.declared.refusal.OpenRefusal.{OpenRefusal}
use Rattle.record_store.specs.declared.refusal.OpenRefusal.TheVariants.{NoMemory, NotACard, Fault as OpenFault}
use Rattle.record_store.specs.declared.refusal.StoreRefusal.{StoreRefusal}
use Rattle.record_store.specs.declared.refusal.StoreRefusal.TheVariants.{Full, Fault as PutFault}

-- where a store is made
abbrev pub is_format_fault : FormatRefusal → Bool
is_format_fault TooSmall = false
is_format_fault FormatFault = true

-- where a store is opened
abbrev pub is_open_fault : OpenRefusal → Bool
is_open_fault NoMemory = false
is_open_fault NotACard = false
is_open_fault OpenFault = true

-- where a record is put
abbrev pub is_put_fault : StoreRefusal → Bool
is_put_fault Full = false
is_put_fault PutFault = true
