-- The object is refused before the grantee.
use Rattle.std.proofs.Common.{rules, refl}
use Rattle.scql_model.specs.Defining.{owned_by}
use Rattle.scql_model.specs.Rights.{seen_named}
use Rattle.db_access.specs.Pairs.{pair_named}
use Rattle.db_access.specs.declared.pairs.Pair.{Pair}
use Rattle.db_access.proofs.PairsFound.{Answers-stopped}
use Rattle.db_access.proofs.pairs.find_named.Goals as goal

pub returns-in_err-object : goal.returns-in_err-object
returns-in_err-object g c = record {
  answers = λ db held.
      Answers-stopped (λ object. object) (λ (p : Pair). (p.object, p.grantee)) (owned_by c.args.actor (seen_named db c.args.actor c.args.object)) (pair_named db c.args.actor c.args.object c.args.grantee) c.from_residual.result
      c.in_err-object.field-0.0 c.from_residual.ensures.1 (c.in_err-object.ensures.answers db held) (λ word is. rw is refl);
  goes_on = search rules;
  frame = search rules;
}
