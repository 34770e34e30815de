use Rattle.std.proofs.Common.{length}
use Rattle.card.proofs.apart.+octets_number.Given as goal

abbrev pub decreases-octets_number : goal.decreases-octets_number
decreases-octets_number l = length l.octets.now
