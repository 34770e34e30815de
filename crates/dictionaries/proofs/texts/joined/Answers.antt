-- The text so far and the names that are left make the whole.
use Rattle.std.proofs.Common.{◌+◌, ◌<◌, ℕ, List, ◌∷◌, length, drop, sym, ap, ◌∙◌, arith}
use Rattle.std.proofs.lemmas.List.{at_drop_more, at_drop_all}
use Rattle.dictionaries.proofs.Joining.{joined-names, joined-none, joined-one, joined_onto}
use Rattle.dictionaries.proofs.texts.joined.Goals as goal

pub loop-name-preserved : goal.loop-name-preserved
loop-name-preserved c =
    let names = c.args.names.now in
    let rest = drop (c.loop-name.name-index + 1) names in
    let lt : c.loop-name.name-index < length names = rw c.as_slice-name-items.ensures.names at c.loop-name-test.true in
    let is = rw c.as_slice-name-items.ensures.names at c.name-item.is in
    record {
      text = c.loop-name.invariant.text ∙ at_drop_more (joined_onto c.loop-name.text.items) names c.loop-name.name-index c.name-item.result lt
          ∙ ap (λ (name : List ℕ). joined_onto c.loop-name.text.items (name ∷ rest)) (sym is) ∙ joined-one c.loop-name.text.items c.name-item.result rest ∙ ap (λ (text : List ℕ). joined_onto text rest) (sym c.add_name.ensures.text);
      short = omega (arith, c.add_name.ensures.length, c.loop-name.invariant.short);
    }

pub returns-clause-text : goal.returns-clause-text
returns-clause-text c =
    let text = c.loop-name.text.items in
    let names = c.args.names.now in
    let behind = rw c.as_slice-name-items.ensures.names at c.loop-name-test.false in
    sym (joined-none text) ∙ sym (at_drop_all (joined_onto text) names c.loop-name.name-index behind) ∙ sym c.loop-name.invariant.text ∙ joined-names names c.as_slice-name-items.ensures.list.each
