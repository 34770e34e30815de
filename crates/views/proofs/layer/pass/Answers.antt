-- Conditions that can't be bound aren't known.
use Rattle.std.proofs.Common.{◌≡◌, true, sym, subst, ◌∙◌}
use Rattle.std.proofs.lemmas.Bool.{false≢true}
use Rattle.scql_model.specs.Matching.{Columns}
use Rattle.scql_model.specs.Resolving.{AreKnown}
use Rattle.views.proofs.Bindings.{AreKnown-unknown}
use Rattle.views.proofs.layer.pass.Goals as goal

pub returns-in_default-clause-passed : goal.returns-in_default-clause-passed
returns-in_default-clause-passed c = λ r here known.
    let conditions = c.args.conditions.now in
    let unknown = AreKnown-unknown c.args.resolved.now.all conditions c.in_default.field-0 c.in_default.ensures.unknown in
    absurd (false≢true (sym unknown ∙ subst (λ (all : Columns). AreKnown all conditions ≡ true) (sym here.all) known))
