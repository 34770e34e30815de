use Rattle.std.proofs.Common.{sym, subst}
use Rattle.card_link.specs.Link.{Holds, LeavesOpen}
use Rattle.card.specs.LiveCardLaws.{opens-unwritten}
use Rattle.line_bench.specs.LineBench.{chip_of}
use Rattle.card_c.specs.OnLog.{IsDeskAt, OnLog, desk_chip, mark_of}
use Rattle.card_c.proofs.card_desk.CardDeskCardLink.reset.Goals as goal

pub returns-clause-moments : goal.returns-clause-moments
returns-clause-moments c = λ m at.
    subst (λ (d : OnLog). LeavesOpen (Holds (mark_of d) m.committed) (desk_chip d) (chip_of c.self.inside.bench)) c.self.view_is
    (opens-unwritten c.self.inside.card (chip_of c.self.inside.bench) m (subst (λ (d : OnLog). IsDeskAt d m) (sym c.self.view_is) at))
