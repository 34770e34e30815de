use Rattle.card_asking.proofs.Rows.{all-given}
use Rattle.card_asking.proofs.laws.all_rows_are_given.Goals as goal

pub returns : goal.returns
returns g c = all-given g.L.CardLink.is_at
