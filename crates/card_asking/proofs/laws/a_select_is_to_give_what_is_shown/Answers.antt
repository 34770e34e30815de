use Rattle.card_asking.proofs.Rows.{gives-shown}
use Rattle.card_asking.proofs.laws.a_select_is_to_give_what_is_shown.Goals as goal

pub returns : goal.returns
returns g c = λ m channel object columns conditions inside now opened can at. gives-shown g.L.CardLink.is_at m channel object columns conditions inside now opened (g.met.L.CardLink.valid now m at) can at
