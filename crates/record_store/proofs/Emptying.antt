-- Slots with no record.
use Rattle.std.proofs.Common.{◌≡◌, Bool, ℕ, ◌+◌, ◌<◌, ◌≤◌, ◌≢◌, true, List, [], ◌∷◌, length, get_or, slice_index, slice_index_or, All, Option, Some, None, IfSome, option_and_then, sym, refl, ap, ◌∙◌, arith, subst, length-append}
use Rattle.std.specs.List.{AllByRecursion}
use Rattle.std.proofs.lemmas.List.{length-map}
use Rattle.std.proofs.lemmas.Option.{same_Some}
use Rattle.std.proofs.lemmas.List.Elements.{recursion_from_All}
use Rattle.std.proofs.lemmas.List.Sums.{sum_by-set}
use Rattle.eeprom.specs.StoreOf.{Slots, cells_for, slot_of, cells_of, weight_of}
use Rattle.record_store.specs.Held.{Held, StandsFor, firsts, contents, record_at}
use Rattle.record_store.specs.Put.{weight_with, IsFull, IsRemoved, emptied}
use Rattle.record_store.specs.Sound.{AreChains, IsSound, cells_in}
use Rattle.record_store.specs.declared.side.Side.TheVariants.{Working}
use Rattle.cell_store.specs.Marks.{StaysMarked}
use Rattle.record_store.proofs.Putting.{stands-emptied}
use Rattle.record_store.proofs.Records.{record-nowhere}
use Rattle.record_store.proofs.Sides.{length-chains, count-firsts}
use Rattle.record_store.proofs.Weights.{side-chains, told-chains}

pub weight-more : (slots : Slots) (slot : ℕ) (octets : List ℕ) → slot < length slots → slice_index_or slots slot None ≡ None → weight_with slot octets slots ≡ weight_of slots + cells_for (length octets)
weight-more slots slot octets inside none =
    let change = sum_by-set cells_of slots slot (Some octets) None inside in
    let nothing : cells_of (get_or slots slot None) ≡ 0 = ap cells_of none in
    omega (arith, change, nothing)

-- where no slot is empty, the chains have at least as many cells as there are slots
long-chains : (links firsts : List ℕ) (chains : List (List ℕ)) → AreChains links firsts chains → AllByRecursion (λ first. first ≢ 65535) firsts → length firsts ≤ length (cells_in chains)
long-chains links [] chains are some = omega arith
long-chains links (first ∷ firsts) [] are some = absurd are
long-chains links (first ∷ firsts) ([] ∷ chains) are some = absurd (some.0 are.0)
long-chains links (first ∷ firsts) ((cell ∷ chain) ∷ chains) are some = omega (arith, long-chains links firsts chains are.2 some.1, length-append (cell ∷ chain) (cells_in chains))

full-told : (held : Held) (image octets : List ℕ) → IsSound held → held.begun ≡ true → StandsFor held image → 1 ≤ length octets → All (λ first. first ≢ 65535) held.working → (o : Option Slots) → contents held Working image ≡ o → IfSome o (λ slots. held.chains.cells < weight_of slots + cells_for (length octets))
full-told held image octets sound begun stands some none_empty None there = tt
full-told held image octets sound begun stands some none_empty (Some slots) there =
    let working_is : firsts held Working ≡ held.working = rw begun refl in
    let s = side-chains held Working sound in
    let told = told-chains held image (firsts held Working) s.chains slots sound stands s.has s.marked there in
    let long = long-chains held.chains.links held.working s.chains (subst (λ (firsts : List ℕ). AreChains held.chains.links firsts s.chains) working_is s.has.are) (recursion_from_All (λ first. first ≢ 65535) held.working none_empty) in
    omega (arith, long, told.weight, sound.working_count)

pub full-none : (held : Held) (image : Option (List ℕ)) (octets : List ℕ) → IsSound held → held.begun ≡ true → IfSome image (StandsFor held) → 1 ≤ length octets → All (λ first. first ≢ 65535) held.working → IfSome image (IsFull held None octets)
full-none held None octets sound begun stands some none_empty = tt
full-none held (Some image) octets sound begun stands some none_empty = full-told held image octets sound begun stands some none_empty (contents held Working image) refl

-- an empty slot among those of a side
pub empty-record : (held : Held) (slot : ℕ) (image : Option (List ℕ)) → IsSound held → held.begun ≡ true → IfSome image (StandsFor held) → slot < held.chains.cells → slice_index held.working slot ≡ 65535 → IfSome image (λ image. record_at held Working slot image ≡ None)
empty-record held slot image sound begun stands inside none =
    let working_is : firsts held Working ≡ held.working = rw begun refl in
    record-nowhere held Working slot 65535 image (sym none ∙ ap (λ (firsts : List ℕ). slice_index firsts slot) (sym working_is)) (omega (arith, inside, count-firsts held sound)) refl stands

over-told : (held : Held) (slot : ℕ) (image octets : List ℕ) → IsSound held → slot < held.chains.cells → StandsFor held image → record_at held Working slot image ≡ None → (o : Option Slots) → contents held Working image ≡ o
    → IfSome o (λ slots. held.chains.cells < weight_with slot octets slots) → IfSome o (λ slots. held.chains.cells < weight_of slots + cells_for (length octets))
over-told held slot image octets sound inside stands empty None there over = tt
over-told held slot image octets sound inside stands empty (Some slots) there over =
    let s = side-chains held Working sound in
    let told = told-chains held image (firsts held Working) s.chains slots sound stands s.has s.marked there in
    let count : length slots ≡ length s.chains = ap (length {A = Option (List ℕ)}) told.is ∙ length-map s.chains (slot_of image held.chains.cells) in
    let here : slice_index_or slots slot None ≡ None = ap (λ (o : Option Slots). option_and_then (λ slots. slice_index_or slots slot None) o) (sym there) ∙ empty in
    let more = weight-more slots slot octets (omega (arith, inside, count, length-chains held.chains.links (firsts held Working) s.chains s.has.are, count-firsts held sound)) here in
    omega (arith, more, over)

-- the store is full with a record in the slot that was found, so it is with one in the slot that is named, or else in one more
pub full-found : (held : Held) (named : Option ℕ) (slot : ℕ) (image : Option (List ℕ)) (octets : List ℕ) → IsSound held → held.begun ≡ true → IfSome image (StandsFor held) → slot < held.chains.cells → IfSome named (λ other. Some slot ≡ Some other) → (named ≡ None → slice_index held.working slot ≡ 65535)
    → IfSome image (IsFull held (Some slot) octets) → IfSome image (IsFull held named octets)
full-found held (Some other) slot image octets sound begun stands inside is empty over = subst (λ (slot : ℕ). IfSome image (IsFull held (Some slot) octets)) (same_Some _ _ is) over
full-found held None slot None octets sound begun stands inside is empty over = tt
full-found held None slot (Some image) octets sound begun stands inside is empty over =
    over-told held slot image octets sound inside stands (empty-record held slot (Some image) sound begun stands inside (empty refl)) (contents held Working image) refl over

pub working-of : (view held : Held) (slice : List ℕ) → view ≡ held → slice ≡ view.working → slice ≡ held.working
working-of view held slice same is = is ∙ ap (λ (held : Held). held.working) same

-- the store stands for the image once a working slot was emptied
pub removed-stands : (held new : Held) (slot : ℕ) (used : List Bool) (image : List ℕ) → IsSound held → IsSound new → held.begun ≡ true → slot < held.chains.cells → StaysMarked used held.chains.used → new ≡ emptied held slot used → StandsFor held image → IsRemoved held new slot image
removed-stands held new slot used image sound new_sound begun inside fewer is stands =
    let e = stands-emptied held slot used image sound (subst IsSound is new_sound) begun inside fewer stands in
    subst (λ (new : Held). IsRemoved held new slot image) (sym is) (record { stands = e.stands; committed = e.committed; working = e.working })
