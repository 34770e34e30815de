-- The table that was found is of its own stamp.
use Rattle.std.proofs.Common.{sym, ◌∙◌}
use Rattle.card.specs.KeptRecords.{objects_in}
use Rattle.card.proofs.Founding.{found-there}
use Rattle.card.proofs.validity.is_right_row.Goals as goal

pub returns-in-Some-clause-kept : goal.returns-in-Some-clause-kept
returns-in-Some-clause-kept c = found-there (objects_in c.args.records.now.items) c.args.row.now.table c.in-Some.object (sym c.find_again.ensures ∙ c.in-Some.is)
