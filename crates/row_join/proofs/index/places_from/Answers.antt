use Rattle.std.proofs.Common.{◌∙◌, ap, sym, append-nil, List, ℕ, [], ◌∷◌, ◌++◌, cond, map}
use Rattle.row_join.specs.Links.{meets_own}
use Rattle.row_join.specs.Places.{row_at}
use Rattle.row_join.proofs.Indexes.{kept-more}
use Rattle.row_join.proofs.index.places_from.Goals as goal
use Rattle.row_join.proofs.index.places_from.Goals.{then-is_own_met+in_ok-push, else-is_own_met}

pub loop-place-preserved : goal.loop-place-preserved
loop-place-preserved c =
    let old : List ℕ = c.loop-place.places.items in
    let rows = c.args.rows.now in
    let place = c.loop-place.place in
    let more = kept-more (meets_own c.args.object c.args.equalities.now) rows place old c.loop-place-test.true c.loop-place.invariant in
    elim c.if-is_own_met.branch [
      | then-is_own_met+in_ok-push w ↦ rw w.places-is (ap (map (row_at rows)) (w.in_ok-push.ensures.items ∙ ap (λ b. old ++ cond b (place ∷ []) []) (sym w.if-is_own_met.true ∙ c.is_own_met.ensures)) ∙ more)
      | else-is_own_met w ↦ rw w.places-is (ap (map (row_at rows)) (sym (append-nil old) ∙ ap (λ b. old ++ cond b (place ∷ []) []) (sym w.if-is_own_met.false ∙ c.is_own_met.ensures)) ∙ more)
    ]
