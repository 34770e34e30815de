-- What is counted of a load, as the model tells it.
use Rattle.terminal.specs.Load as model
use Rattle.card_run.specs.declared.load_lines.LoadCounts.{LoadCounts}

abbrev pub counts_of : LoadCounts → model.LoadCounts
counts_of counts = record { rows = counts.rows; changed = counts.changed; deleted = counts.deleted; refused = counts.refused }
