-- The list has the records so far, and its room.
use Rattle.std.proofs.Common.{◌≡◌, take, vec_capacity}
use Rattle.plain_database.proofs.filling.refill.Given as goal

abbrev pub invariant-loop-record : goal.invariant-loop-record
invariant-loop-record g l = record {
  items : l.list.items ≡ take l.record-index l.from;
  capacity : vec_capacity l.list ≡ vec_capacity l.fn.list;
}
