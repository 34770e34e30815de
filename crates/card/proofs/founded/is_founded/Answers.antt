-- A base is found by its own stamp.
use Rattle.std.proofs.Common.{sym}
use Rattle.card.specs.KeptRecords.{objects_in}
use Rattle.card.proofs.Founding.{found-there}
use Rattle.card.proofs.founded.is_founded.Goals as goal

pub rests_on-requires : goal.rests_on-requires
rests_on-requires c = record { there = found-there (objects_in c.args.records.now.items) _ c.in-Some.base (sym c.in-Some.ensures) }
