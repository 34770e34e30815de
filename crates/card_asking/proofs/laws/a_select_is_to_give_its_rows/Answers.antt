use Rattle.card_asking.proofs.Rows.{gives-first}
use Rattle.card_asking.proofs.laws.a_select_is_to_give_its_rows.Goals as goal

pub returns : goal.returns
returns g c = λ m channel s inside now select can at. gives-first g.L.CardLink.is_at m channel s inside now select (g.met.L.CardLink.valid now m at) can at
