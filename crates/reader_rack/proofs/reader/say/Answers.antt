use Rattle.std.proofs.Common.{refl, inr}
use Rattle.terminal.proofs.Went.{start-of}
use Rattle.reader_rack.proofs.reader.say.Goals as goal

pub returns-in-Err : goal.returns-in-Err
returns-in-Err g c = inr (record { ends = refl; start = start-of _ _ _ _ refl c.in-Err.ensures.err; rose = c.in-Err.ensures.cause.1; later = c.in-Err.ensures.cause.0 })
