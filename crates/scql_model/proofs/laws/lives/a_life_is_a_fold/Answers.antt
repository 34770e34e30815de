use Rattle.scql_model.proofs.Folding.{folded, opened-fold}
use Rattle.scql_model.proofs.laws.lives.a_life_is_a_fold.Goals as goal

pub returns-clause-folded : goal.returns-clause-folded
returns-clause-folded g c = folded

pub returns-clause-opened : goal.returns-clause-opened
returns-clause-opened g c = opened-fold
