use Rattle.planner.proofs.Readings.{reads-on}
use Rattle.planner.proofs.laws.a_select_sends_reading_commands.Goals as goal

pub returns : goal.returns
returns c = reads-on
