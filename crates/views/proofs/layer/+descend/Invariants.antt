-- Fewer views may be under the base of a view.
use Rattle.views.proofs.layer.+descend.Given as goal

abbrev pub decreases-descend : goal.decreases-descend
decreases-descend g l = l.most
