use Rattle.std.proofs.Common.{◌≡◌, rules}
use Rattle.card.proofs.rooms.room_for_sessions.Goals as goal

pub returns-clause-starts : goal.returns-clause-starts
returns-clause-starts c = λ db.
    let is : c.in_ok-new.field-0.value ≡ c.first_sessions.result = search rules in
    rw is (c.first_sessions.ensures db)
