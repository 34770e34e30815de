use Rattle.scql_model.proofs.CardReads.{reads-step}
use Rattle.scql_model.proofs.laws.reading.a_card_reads_what_is_shown.Goals as goal

pub returns : goal.returns
returns c = reads-step
