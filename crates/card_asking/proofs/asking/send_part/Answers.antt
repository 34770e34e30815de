use Rattle.std.proofs.Common.{rules}
use Rattle.card_asking.proofs.asking.send_part.Goals as goal

pub returns-in-Replied-clause-asks : goal.returns-in-Replied-clause-asks
returns-in-Replied-clause-asks g c = λ m at. record {
  answered = search rules;
  moments = (rw (c.deref.ensures.0, c.write_part.ensures.octets) at c.exchange.ensures.moments) m at;
}

pub returns-in-Mute-clause-asks : goal.returns-in-Mute-clause-asks
returns-in-Mute-clause-asks g c = λ m at. record {
  answered = search rules;
  moments = (rw (c.deref.ensures.0, c.write_part.ensures.octets) at c.exchange.ensures.moments) m at;
}
