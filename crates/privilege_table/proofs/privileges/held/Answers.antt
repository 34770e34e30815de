-- A user holds what grants give to PUBLIC and what they give to the user.
use Rattle.std.proofs.Common.{arith}
use Rattle.record_table.specs.Asking.{slots_asked}
use Rattle.record_table.proofs.Asking.{same-slots}
use Rattle.record_table.proofs.ReadingCosts.{ReadsSide-both}
use Rattle.privilege_table.proofs.Bits.{held-both}
use Rattle.privilege_table.proofs.privileges.held.Goals as goal

pub returns-clause-held : goal.returns-clause-held
returns-clause-held g c =
    held-both c.args.object c.args.grantee c.in_ok-public.public c.in_ok-own.own (slots_asked c.args.reader.now) c.in_ok-public.ensures.granted (rw (same-slots c.in_ok-public.ensures.reads.goes_on c.in_ok-public.ensures.reads.frame.same) at c.in_ok-own.ensures.granted)

pub returns-clause-reads : goal.returns-clause-reads
returns-clause-reads g c = ReadsSide-both c.in_ok-public.ensures.reads c.in_ok-own.ensures.reads (λ slots. omega arith)
