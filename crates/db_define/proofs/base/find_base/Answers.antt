-- The table or the view that is seen, or the first refusal.
use Rattle.std.proofs.Common.{rules, refl, sym, ◌∙◌}
use Rattle.db_define.proofs.Layers.{base-seen}
use Rattle.db_define.proofs.base.find_base.Goals as goal

pub returns : goal.returns
returns g c = record {
  answers = λ db held.
      let seen = rw c.in-Some.is at (c.in_ok-find_seen_into.ensures.seen db held) in
      let base = c.in-Some-base_of.ensures in
      base-seen db c.args.actor c.args.name c.in-Some.found c.in-Some-base_of.base held.valid seen (base.some.0 refl) (sym c.is_owned_by.ensures ∙ c.if-not-is_owned_by.false) base.stamp base.columns base.layer;
  goes_on = search rules;
  frame = search rules;
}
