use Rattle.card.proofs.rooms.Rooms.new.Goals as goal

pub returns-clause-starts : goal.returns-clause-starts
returns-clause-starts c = λ db. rw c.in_ok-room_for_chains.ensures (c.in_ok-room_for_sessions.ensures.starts db)
