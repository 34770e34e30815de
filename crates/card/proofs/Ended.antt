-- An operation that ended by one outcome ended by another that is the same.
use Rattle.std.proofs.Common.{◌≡◌, List, Result, subst}
use Rattle.eeprom.specs.Chip.{Chip}
use Rattle.record_store.specs.Held.{Held}
use Rattle.scql_base.specs.declared.words.StatusWord.{StatusWord}
use Rattle.scql_model.specs.Database.{Database}
use Rattle.scql_model.specs.Edits.{Edit}
use Rattle.record_table.specs.Making.{Ends}
use Rattle.record_table.specs.declared.stop.Stop.{Stop}

pub ends-as : {T : Type 0} (db : Database) (outcome other : Result (List Edit) StatusWord) (result : Result T Stop) (old new : Held) (before after : Chip) → outcome ≡ other → Ends db outcome result old new before after → Ends db other result old new before after
ends-as db outcome other result old new before after same ends = subst (λ outcome. Ends db outcome result old new before after) same ends
