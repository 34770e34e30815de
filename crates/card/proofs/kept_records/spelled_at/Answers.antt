-- What is in a place of the pool is a record, of the stamp that its place has.
use Rattle.std.proofs.Common.{sym}
use Rattle.card.proofs.Pooled.{entry-stamp, found}
use Rattle.card.proofs.kept_records.spelled_at.Goals as goal

pub returns : goal.returns
returns c = rw c.from.ensures (sym (found c.args.octets.now c.args.place.now c.requires))

pub invariant_of-result : goal.invariant_of-result
invariant_of-result c = rw c.from.ensures (found c.args.octets.now c.args.place.now c.requires, sym (entry-stamp c.args.octets.now c.args.place.now c.requires))
