-- There is a record for each place.
use Rattle.std.proofs.Common.{◌∙◌}
use Rattle.card.proofs.Pooled.{length-pool}
use Rattle.card.proofs.kept_records.KeptRecords.len.Goals as goal

pub returns : goal.returns
returns c = c.len.ensures ∙ c.self.inside.places.ok.0 ∙ length-pool c.self.inside.octets.items c.self.inside.places.items _ c.args.self.now c.self.view_is c.self.invariant.all
