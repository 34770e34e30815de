use Rattle.std.proofs.Common.{◌≡◌, ◌++◌, drop, map, take}
use Rattle.std.specs.Prelude.{option_map}
use Rattle.plain_machine.specs.Sessions.{left_session}
use Rattle.plain_machine.proofs.sessions.leave_each.Given as goal

abbrev pub invariant-loop-session : goal.invariant-loop-session
invariant-loop-session l = l.sessions ≡ map (option_map (left_session l.stamp)) (take l.session-index l.initial.sessions) ++ drop l.session-index l.initial.sessions
