use Rattle.card_asking.proofs.Rows.{next-row}
use Rattle.card_asking.proofs.laws.a_row_is_the_next.Goals as goal

pub returns : goal.returns
returns g c = next-row g.L.CardLink.is_at
