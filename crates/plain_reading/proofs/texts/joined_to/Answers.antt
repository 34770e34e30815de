-- Each name comes behind a comma.
use Rattle.std.proofs.Common.{◌≡◌, ℕ, ◌+◌, ◌<◌, ◌∷◌, [], ◌++◌, List, length, length-append, drop, refl, sym, ap, ◌∙◌, arith}
use Rattle.std.proofs.lemmas.List.{at_drop_all, at_drop_more}
use Rattle.plain_reading.proofs.JoinedNames.{commas, commas-more, commas-none, join-commas}
use Rattle.plain_reading.proofs.texts.joined_to.Goals as goal

pub loop-name-init : goal.loop-name-init
loop-name-init c =
    let begun : c.extend.new.text.items ≡ c.args.first.now = rw (c.extend.ensures, c.new-text.ensures, c.octets.ensures.octets) refl in
    record {
      text = join-commas c.args.first.now c.args.others.now ∙ ap (λ (text : List ℕ). text ++ commas c.args.others.now) (sym begun);
      short = rw begun (rw c.octets.ensures.octets at c.octets.ensures.short);
    }

pub loop-name-preserved : goal.loop-name-preserved
loop-name-preserved c =
    let others = c.args.others.now in
    let text = c.loop-name.text.items in
    let lt : c.loop-name.name-index < length others = c.loop-name-test.true in
    let rest = drop (c.loop-name.name-index + 1) others in
    let name = c.name-item.result in
    let extended : c.extend-in-loop-name.new.text.items ≡ (text ++ 0x2C ∷ []) ++ name = rw (c.extend-in-loop-name.ensures, c.push.ensures.items, c.octets-in-loop-name.ensures.octets) refl in
    let size = ap length c.extend-in-loop-name.ensures ∙ length-append c.push.new.self.items c.octets-in-loop-name.result.now in
    record {
      text = c.loop-name.invariant.text ∙ at_drop_more (λ (names : List (List ℕ)). text ++ commas names) others c.loop-name.name-index name lt
          ∙ ap (λ (name : List ℕ). text ++ commas (name ∷ rest)) (sym c.name-item.is) ∙ commas-more text name rest ∙ ap (λ (text : List ℕ). text ++ commas rest) (sym extended);
      short = omega (arith, size, c.push.ensures.len, c.octets-in-loop-name.ensures.short, c.loop-name.invariant.short);
    }

pub returns : goal.returns
returns c =
    let text = c.loop-name.text.items in
    record {
      value = sym (commas-none text) ∙ sym (at_drop_all (λ (names : List (List ℕ)). text ++ commas names) c.args.others.now c.loop-name.name-index c.loop-name-test.false) ∙ sym c.loop-name.invariant.text;
      short = omega (arith, c.loop-name.invariant.short, c.loop-name-test.false, c.requires.few);
    }
