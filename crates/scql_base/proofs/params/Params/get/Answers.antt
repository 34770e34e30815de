use Rattle.std.proofs.Common.{rules, ◌≡◌, Some, length, ◌≤◌, slice_get, refl, sym, ◌∙◌, arith}
use Rattle.std.proofs.lemmas.Option.{slice_get_past, slice_get_within}
use Rattle.scql_base.proofs.Splitting.{first_here, first_behind, at_end}
use Rattle.scql_base.proofs.params.Params.get.Goals as goal

pub loop-preserved : goal.loop-preserved
loop-preserved c = first_behind c.args.self.now c.loop.counter _ _ (sym c.loop.invariant ∙ c.in_ok-after.ensures.some)

pub returns-in_err-after : goal.returns-in_err-after
returns-in_err-after c =
    let past : length c.args.self.now ≤ c.loop.counter = at_end c.args.self.now c.loop.counter _ (sym c.loop.invariant ∙ c.in_err-after.ensures.none) in
    record {
      value = rw c.from_residual.ensures (sym (slice_get_past c.args.self.now c.args.place (omega (arith, c.loop-test.true))));
      found = rw c.from_residual.ensures (search rules);
    }

pub returns-in_err-string : goal.returns-in_err-string
returns-in_err-string c =
    let past : length c.args.self.now ≤ c.loop.counter = at_end c.args.self.now c.loop.counter _ (sym c.loop.invariant ∙ c.in_err-string.ensures.none) in
    record {
      value = rw c.from_residual-in_err-string.ensures (sym (slice_get_past c.args.self.now c.args.place (omega (arith, c.loop.auto.counter-end))));
      found = rw c.from_residual-in_err-string.ensures (search rules);
    }

pub returns : goal.returns
returns c =
    let here : Some c.in_ok-string.string.now ≡ slice_get c.args.self.now c.loop.counter = first_here c.args.self.now c.loop.counter _ _ (sym c.loop.invariant ∙ c.in_ok-string.ensures.some) in
    let there : c.loop.counter ≡ c.args.place = omega (arith, c.loop.auto.counter-end, c.loop-test.false) in
    let value : slice_get c.args.self.now c.args.place ≡ Some c.in_ok-string.string.now = sym (rw there at here) in
    let within = slice_get_within c.args.self.now c.args.place _ value in
    record { value = sym value; found = ((λ _. within), (λ _. refl)) }
