use Rattle.std.proofs.Common.{List, Option, ap, map, ◌∙◌}
use Rattle.std.specs.Prelude.{option_map}
use Rattle.scql_model.specs.Machine as machine
use Rattle.scql_model.specs.Sessions.{left_by}
use Rattle.plain_machine.specs.Sessions.{sessions_of}
use Rattle.plain_machine.specs.declared.session.Session.{Session}
use Rattle.plain_machine.proofs.SeenSessions.{seen-left}
use Rattle.plain_machine.proofs.sessions.Sessions.leave.Goals as goal

pub returns : goal.returns
returns c =
    ap (λ (left : List (Option Session)). sessions_of left c.self.inside.chains) c.leave_each.ensures
    ∙ (seen-left c.args.stamp c.self.inside.channels c.self.inside.chains
    ∙ ap (λ (seen : List (Option machine.Session)). map (option_map (left_by c.args.stamp)) seen) c.self.view_is)
