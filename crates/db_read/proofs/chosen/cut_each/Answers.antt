-- Each push takes one value more.
use Rattle.std.proofs.Common.{◌≡◌, ℕ, ◌<◌, ◌≤◌, length, get_or, refl, sym, ap, ◌∙◌, List}
use Rattle.std.proofs.lemmas.Bool.{false≢true}
use Rattle.std.proofs.lemmas.List.{get_or_default, take_all}
use Rattle.search_cond.proofs.Binding.{value_there}
use Rattle.db_read.specs.Chosen.{values_at}
use Rattle.db_read.proofs.CutRows.{cut-more, emptied}
use Rattle.db_read.proofs.chosen.cut_each.Goals as goal

pub prove-unreachable-requires : goal.prove-unreachable-requires
prove-unreachable-requires c = absurd (false≢true (sym c.if-prove.true ∙ (c.is_some-emptied.ensures ∙ (emptied c.read_into.result c.read_into.new.self c.read_into.ensures).0)))

pub loop-place-init : goal.loop-place-init
loop-place-init c = λ row. (emptied c.read_into.result c.read_into.new.self c.read_into.ensures).1

pub loop-place-preserved : goal.loop-place-preserved
loop-place-preserved c =
    let places : List ℕ = c.args.places.now.items in
    let values = c.args.row.now in
    let i : ℕ = c.loop-place.place-index in
    let within : i < length places = rw c.as_slice-place-items.ensures.value at c.loop-place-test.true in
    let is : c.from.result ≡ get_or places i c.from.result = (rw c.as_slice-place-items.ensures.value at c.from.ensures) ∙ get_or_default places i 0 c.from.result within in
    let value = ap (λ v. v.now) c.unwrap_or-value.ensures ∙ value_there c.get.result _ values c.from.result c.get.ensures.value refl in
    cut-more places values i c.from.result c.unwrap_or-value.result.now c.loop-place.out c.push.new.self c.push.result within is value c.push.ensures.ok c.push.ensures.err c.loop-place.invariant

pub returns : goal.returns
returns c = λ row.
    let places : List ℕ = c.args.places.now.items in
    let values = c.args.row.now in
    let whole : length places ≤ c.loop-place.place-index = rw c.as_slice-place-items.ensures.value at c.loop-place-test.false in
    c.loop-place.invariant row ∙ ap (λ (ps : List ℕ). values_at ps values) (take_all c.loop-place.place-index places whole)
