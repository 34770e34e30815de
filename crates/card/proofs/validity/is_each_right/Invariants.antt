use Rattle.std.proofs.Common.{◌≡◌, drop}
use Rattle.std.specs.Prelude.{IfSome}
use Rattle.std.specs.List.{list_all}
use Rattle.card.specs.Validity as validity
use Rattle.card.specs.KeptRecords.{users_in, objects_in}
use Rattle.card.proofs.validity.is_each_right.Given as goal

abbrev pub invariant-loop-index : goal.invariant-loop-index
invariant-loop-index l = record {
  left : list_all (validity.is_right_record l.next (users_in l.records.items) (objects_in l.records.items)) l.records.items
      ≡ list_all (validity.is_right_record l.next (users_in l.records.items) (objects_in l.records.items)) (drop l.index l.records.items);
  kept : IfSome l.table (validity.IsOfItsStamp (objects_in l.records.items));
}
