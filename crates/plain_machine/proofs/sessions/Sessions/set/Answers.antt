use Rattle.std.proofs.Common.{List, Option, None, ap, ◌∙◌}
use Rattle.std.specs.Prelude.{option_map, slice_set}
use Rattle.scql_model.specs.Machine as machine
use Rattle.plain_machine.specs.Sessions.{session_seen}
use Rattle.plain_machine.proofs.SeenSessions.{seen-set}
use Rattle.plain_machine.proofs.sessions.Sessions.set.Goals as goal

pub returns : goal.returns
returns c =
    rw (c.forget.ensures, c.number.ensures, c.place-place.ensures.place)
    (seen-set c.self.inside.channels c.self.inside.chains c.args.channel c.args.session
    ∙ ap (λ (seen : List (Option machine.Session)). slice_set seen c.args.channel (option_map (session_seen None) c.args.session)) c.self.view_is)
