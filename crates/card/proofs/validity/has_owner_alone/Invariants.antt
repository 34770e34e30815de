use Rattle.std.proofs.Common.{◌≡◌, filter, drop}
use Rattle.scql_model.specs.Rules as rules
use Rattle.card.specs.Validity as validity
use Rattle.card.specs.KeptRecords.{users_in}
use Rattle.card.proofs.OwnerSearch.{is_owner_left}
use Rattle.card.proofs.validity.has_owner_alone.Given as goal

abbrev pub invariant-loop-index : goal.invariant-loop-index
invariant-loop-index l = record {
  left : validity.is_owner_alone (filter rules.is_db_o (users_in l.records.items)) ≡ is_owner_left l.found (users_in (drop l.index l.records.items));
}
