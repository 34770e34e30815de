-- When an index stands for a store.
use Rattle.std.proofs.Common.{◌≡◌, ℕ, List, Option, Some, None, refl, sym, ◌∙◌, subst}
use Rattle.std.proofs.lemmas.Option.{none-some, same_Some}
use Rattle.std.specs.Prelude.{IfSome, IsSome, option_and_then}
use Rattle.eeprom.specs.Chip.{Becomes, Chip}
use Rattle.eeprom.specs.StoreOf.{Slots}
use Rattle.record_store.specs.Held.{Held, StandsFor, contents}
use Rattle.record_store.specs.declared.side.Side.{Side}
use Rattle.record_store.specs.declared.side.Side.TheVariants.{Committed, Working}
use Rattle.record_table.specs.Changed.{Rewrites}
use Rattle.record_table.specs.Listed.{slots_of}
use Rattle.row_index.specs.Index.{HasRows, Index, Indexes, side_rows}

-- the rows of a side are those of its slots
pub rows-told : (index : Index) (store : Held) (chip : Chip) (side : Side) → Indexes index store chip → IfSome (slots_of store side chip) (HasRows index.cells (side_rows index side))
rows-told index store chip Committed stands = stands.committed
rows-told index store chip Working stands = stands.working

some_of : {X : Type 0} (o : Option X) → IsSome o → (x : X) × (o ≡ Some x)
some_of None some = absurd (cc)
some_of (Some x) some = (x, refl)

-- what a step of the working slots makes of an index that follows it
rewritten : (index next : Index) (old new : Held) (step : Slots → Slots → Type 0) (a b : Option (List ℕ)) → IfSome a (StandsFor old) → IfSome (option_and_then (contents old Committed) a) (HasRows index.cells index.committed)
    → IfSome (option_and_then (contents old Working) a) (HasRows index.cells index.working) → Becomes (Rewrites step old new) a b
    → ((committed working after : Slots) → option_and_then (contents old Committed) a ≡ Some committed → option_and_then (contents old Working) a ≡ Some working → HasRows index.cells index.committed committed
    → HasRows index.cells index.working working → step working after → HasRows next.cells next.committed committed × HasRows next.cells next.working after)
    → IfSome (option_and_then (contents new Committed) b) (HasRows next.cells next.committed) × IfSome (option_and_then (contents new Working) b) (HasRows next.cells next.working)
rewritten index next old new step a None stands committed working becomes follows = (tt, tt)
rewritten index next old new step None (Some now) stands committed working becomes follows = absurd (none-some (becomes now refl).0 (becomes now refl).1)
rewritten index next old new step (Some was) (Some now) stands committed working becomes follows =
    let r = becomes now refl in
    let same : was ≡ r.0 = same_Some was r.0 r.1 in
    let rewrites : Rewrites step old new was now = subst (λ image. Rewrites step old new image now) (sym same) r.2 in
    let first = some_of (contents old Committed was) stands.committed in
    let second = some_of (contents old Working was) stands.working in
    let third = rewrites.working second.0 second.1 in
    let has_rows = follows first.0 second.0 third.0 first.1 second.1 (subst (λ o. IfSome o (HasRows index.cells index.committed)) first.1 committed) (subst (λ o. IfSome o (HasRows index.cells index.working)) second.1 working) third.2 in
    (subst (λ o. IfSome o (HasRows next.cells next.committed)) (sym (rewrites.committed ∙ first.1)) has_rows.0, subst (λ o. IfSome o (HasRows next.cells next.working)) (sym third.1) has_rows.1)

pub Indexes-rewritten : (index next : Index) (old new : Held) (before after : Chip) (step : Slots → Slots → Type 0) → Indexes index old before → IfSome before.image (StandsFor old) → new.chains.cells ≡ old.chains.cells → next.cells ≡ index.cells
    → Becomes (Rewrites step old new) before.image after.image
    → ((committed working after : Slots) → slots_of old Committed before ≡ Some committed → slots_of old Working before ≡ Some working → HasRows index.cells index.committed committed → HasRows index.cells index.working working
    → step working after → HasRows next.cells next.committed committed × HasRows next.cells next.working after)
    → Indexes next new after
Indexes-rewritten index next old new before after step is stands same_cells kept_cells becomes follows =
    let both = rewritten index next old new step before.image after.image stands is.committed is.working becomes follows in
    record { cells = kept_cells ∙ is.cells ∙ sym same_cells; committed = both.0; working = both.1 }
