use Rattle.guide.proofs.Told.{told-then}
use Rattle.guide.proofs.guide.Guide.tell.Goals.{then-is_titled, else-is_titled}
use Rattle.guide.proofs.guide.Guide.tell.Goals as goal

pub returns : goal.returns
returns g c =
    elim c.if-is_titled.branch [
      | then-is_titled w ↦ told-then g.P.Person.lost g.P.Person.shown _ _ _ (rw w.person-is w.show_title.ensures) c.show_message.ensures
      | else-is_titled w ↦ told-then g.P.Person.lost g.P.Person.shown _ _ _ (rw w.person-is (_, w.show-else-is_titled.ensures)) c.show_message.ensures
    ]
