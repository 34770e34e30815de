-- A write of one cell: what it leaves, and the chain that it lengthens.
use Rattle.std.proofs.Common.{subst, ◌≡◌, ℕ, zero, suc, ◌+◌, ◌*◌, ◌-◌, ◌/◌, ◌%◌, ◌<◌, ◌≤◌, ◌≢◌, ◌==◌, Bool, true, false, List, [], ◌∷◌, ◌++◌, length, take, drop, set, slice_index, slice_range, nat_lt, Some, sym, refl, ap, ap₂, ◌∙◌, arith, ltb-true, eqb-true, true≢false, ◌⊎◌, inl, inr, add-zero, zero-add, suc-add, drop-drop, length-take, length-drop, length-take-le}
use Rattle.std.specs.List.{AllByRecursion, list_any}
use Rattle.std.proofs.lemmas.Bool.Decides.{nat_tests}
use Rattle.std.proofs.lemmas.List.{drop-take, get_or-set_same, get_or-set_other}
use Rattle.eeprom.specs.Image.{overwrite, IsTorn}
use Rattle.eeprom.specs.StoreOf.{chain_of, cell_place, payload_of, number_at, image_size}
use Rattle.cell_store.specs.Cells.{link_in}
use Rattle.cell_store.specs.Chains.{AreLinked}
use Rattle.cell_store.specs.Marks.{IsFreeRun, StaysMarked, is_marked}
use Rattle.cell_store.specs.Placed.{Keeping, SameCell, IsTakenBefore, IsPlaced, IsLaid}
use Rattle.cell_store.proofs.FreeRuns.{one-free, outside-run}
use Rattle.cell_store.proofs.Marking.{marked-here, marks-stay, with_marked-all, with_marked-set, with_marked-stays}
use Rattle.cell_store.proofs.Linking.{linked-same, linked-inside}
use Rattle.eeprom.proofs.Places.{payload_of-behind}
use Rattle.eeprom.proofs.Regions.{length-overwrite, take-overwrite, drop-overwrite, get-before, get-inside, get-behind}
use Rattle.cell_store.proofs.SameChains.{chain-same, payload-same}

slice-before : (a b at : ℕ) (image octets : List ℕ) → a ≤ b → b ≤ at → at ≤ length image → slice_range (overwrite image at octets) a b ≡ slice_range image a b
slice-before a b at image octets within before fits =
    let whole : a + (b - a) ≡ b = omega arith in
    let cut : (xs : List ℕ) → slice_range xs a b ≡ drop a (take b xs) = λ xs. sym (rw whole at (drop-take a (b - a) xs)) in
    cut (overwrite image at octets) ∙ ap (λ (xs : List ℕ). drop a xs) (take-overwrite b at image octets before fits) ∙ sym (cut image)

slice-behind : (a b at : ℕ) (image octets : List ℕ) → at + length octets ≤ a → at + length octets ≤ length image → slice_range (overwrite image at octets) a b ≡ slice_range image a b
slice-behind a b at image octets behind fits = ap (λ (xs : List ℕ). take (b - a) xs) (drop-overwrite a at image octets behind fits)

-- a cell beside the one that is written
cell-before : (image octets : List ℕ) (n at cell : ℕ) → cell < at → at ≤ 2 * n → 70 * n + 34 ≤ length image → SameCell (overwrite image (cell_place n at) octets) image n cell
cell-before image octets n at cell before inside room = record {
  link = rw (
    get-before image (cell_place n at) octets (cell_place n cell) (omega arith) (omega arith),
    get-before image (cell_place n at) octets (cell_place n cell + 1) (omega arith) (omega arith),
  ) refl;
  payload = slice-before (cell_place n cell + 2) (cell_place n cell + 32) (cell_place n at) image octets (omega arith) (omega arith) (omega arith);
}

cell-behind : (image octets : List ℕ) (n at count cell : ℕ) → at + count ≤ cell → length octets ≡ 32 * count → at + count ≤ 2 * n → 70 * n + 34 ≤ length image → SameCell (overwrite image (cell_place n at) octets) image n cell
cell-behind image octets n at count cell behind size inside room = record {
  link = rw (
    get-behind image (cell_place n at) octets (cell_place n cell) (omega arith) (omega arith),
    get-behind image (cell_place n at) octets (cell_place n cell + 1) (omega arith) (omega arith),
  ) refl;
  payload = slice-behind (cell_place n cell + 2) (cell_place n cell + 32) (cell_place n at) image octets (omega arith) (omega arith);
}

apart-cases : (cell at : ℕ) → cell ≢ at → (cell < at) ⊎ (at + 1 ≤ cell)
apart-cases cell at other = elim (nat_lt cell at) as (λ t. nat_lt cell at ≡ t → (cell < at) ⊎ (at + 1 ≤ cell)) [
  | true ↦ λ e. inl (ltb-true cell at e)
  | false ↦ λ e. inr (grind (arith, nat_tests))
] refl

cell-apart : (image octets : List ℕ) (n at count cell : ℕ) → (cell < at) ⊎ (at + count ≤ cell) → length octets ≡ 32 * count → at + count ≤ 2 * n → 70 * n + 34 ≤ length image → SameCell (overwrite image (cell_place n at) octets) image n cell
cell-apart image octets n at count cell (inl before) size inside room = cell-before image octets n at cell before (omega arith) room
cell-apart image octets n at count cell (inr behind) size inside room = cell-behind image octets n at count cell behind size inside room

marked-apart : (marks : List Bool) (cell at : ℕ) → is_marked marks at ≡ false → is_marked marks cell ≡ true → cell ≢ at
marked-apart marks cell at free is = λ e. true≢false (sym is ∙ rw e free)

-- a write into a run of cells that aren't marked leaves those that are
pub Keeping-torn : (marks : List Bool) (n at count : ℕ) (was left : List ℕ) → at + count ≤ 2 * n → 70 * n + 34 ≤ length was → IsFreeRun marks at count → IsTorn was (cell_place n at) (32 * count) left → Keeping marks n left was
Keeping-torn marks n at count was left inside room run torn = rw (torn.is) (record {
  size = length-overwrite was (cell_place n at) torn.octets (omega (arith, torn.count_is));
  front = take-overwrite (34 + 6 * n) (cell_place n at) was torn.octets (omega arith) (omega arith);
  behind = drop-overwrite (image_size n) (cell_place n at) was torn.octets (omega (arith, torn.count_is)) (omega (arith, torn.count_is));
  cells = λ cell is. cell-apart was torn.octets n at count cell (outside-run marks at count cell run is) torn.count_is inside room;
})

SameCell-then : (left mid was : List ℕ) (n cell : ℕ) → SameCell left mid n cell → SameCell mid was n cell → SameCell left was n cell
SameCell-then left mid was n cell a b = record { link = a.link ∙ b.link; payload = a.payload ∙ b.payload }

-- one write after others; the later one leaves more
pub Keeping-then : (marks later : List Bool) (n : ℕ) (left mid was : List ℕ) → StaysMarked marks later → Keeping later n left mid → Keeping marks n mid was → Keeping marks n left was
Keeping-then marks later n left mid was stays a b = record {
  size = a.size ∙ b.size;
  front = a.front ∙ b.front;
  behind = a.behind ∙ b.behind;
  cells = λ cell is. SameCell-then left mid was n cell (a.cells cell (stays cell is)) (b.cells cell is);
}

pub Keeping-same : (marks : List Bool) (n : ℕ) (was : List ℕ) → Keeping marks n was was
Keeping-same marks n was = record { size = refl; front = refl; behind = refl; cells = λ cell is. record { link = refl; payload = refl } }

-- the two numbers of a cell that was written
link-written : (image : List ℕ) (at high low : ℕ) (piece : List ℕ) → at ≤ length image → number_at (overwrite image at (high ∷ low ∷ piece)) at ≡ 256 * high + low
link-written image at high low piece fits =
    let octets : List ℕ = high ∷ low ∷ piece in
    let first : slice_index (overwrite image at octets) at ≡ high = rw add-zero at (get-inside image at octets 0 (omega arith) fits) in
    let second : slice_index (overwrite image at octets) (at + 1) ≡ low = get-inside image at octets 1 (omega arith) fits in
    rw (first, second) refl

pub take-whole : (piece rest : List ℕ) (size : ℕ) → length piece ≡ size → take size (piece ++ rest) ≡ piece
take-whole [] rest zero e = refl
take-whole [] rest (suc size) e = absurd (omega arith)
take-whole (x ∷ piece) rest zero e = absurd (omega arith)
take-whole (x ∷ piece) rest (suc size) e = ap (λ (xs : List ℕ). x ∷ xs) (take-whole piece rest size (omega arith))

payload-written : (image : List ℕ) (n at high low : ℕ) (piece : List ℕ) → cell_place n at ≤ length image → length piece ≡ 30 → payload_of (overwrite image (cell_place n at) (high ∷ low ∷ piece)) n at ≡ piece
payload-written image n at high low piece fits size =
    let place = cell_place n at in
    let rest = drop (place + length (high ∷ low ∷ piece)) image in
    payload_of-behind (take place image) ((high ∷ low ∷ piece) ++ rest) n at (sym (length-take-le place image fits))
    ∙ take-whole piece rest 30 size

same-chain : (n : ℕ) (start marks : List Bool) (now later : List ℕ) (chain : List ℕ) → Keeping marks n later now → AllByRecursion (IsTakenBefore n start marks) chain → AllByRecursion (SameCell later now n) chain
same-chain n start marks now later [] keeping taken = tt
same-chain n start marks now later (cell ∷ chain) keeping taken = (keeping.cells cell taken.0.now, same-chain n start marks now later chain keeping taken.1)

taken-more : (n at : ℕ) (start marks : List Bool) (chain : List ℕ) → AllByRecursion (IsTakenBefore n start marks) chain → AllByRecursion (IsTakenBefore n start (set marks at true)) chain
taken-more n at start marks [] taken = tt
taken-more n at start marks (cell ∷ chain) taken = (record { inside = taken.0.inside; free = taken.0.free; now = marks-stay marks at cell taken.0.now }, taken-more n at start marks chain taken.1)

not-among : (n at : ℕ) (start marks : List Bool) (chain : List ℕ) → is_marked marks at ≡ false → AllByRecursion (IsTakenBefore n start marks) chain → list_any (λ cell. at == cell) chain ≡ false
not-among n at start marks [] free taken = refl
not-among n at start marks (cell ∷ chain) free taken =
    let other : cell ≢ at = marked-apart marks cell at free taken.0.now in
    let test : (at == cell) ≡ false = grind (arith, nat_tests) in
    rw (test, not-among n at start marks chain free taken.1) refl

take-nil : (k : ℕ) → ◌≡◌ {A = List ℕ} (take k []) []
take-nil zero = refl
take-nil (suc k) = refl

take-join : (m k : ℕ) (xs : List ℕ) → take m xs ++ take k (drop m xs) ≡ take (m + k) xs
take-join zero k xs = rw zero-add refl
take-join (suc m) zero [] = sym (take-nil (suc m + 0))
take-join (suc m) (suc k) [] = sym (take-nil (suc m + suc k))
take-join (suc m) k (x ∷ xs) = rw suc-add (ap (λ (ys : List ℕ). x ∷ ys) (take-join m k xs))

-- a slice and the one behind it
slices : (xs : List ℕ) (a b c : ℕ) → a ≤ b → b ≤ c → slice_range xs a b ++ slice_range xs b c ≡ slice_range xs a c
slices xs a b c first second =
    let size : c - a ≡ (b - a) + (c - b) = omega arith in
    let place : a + (b - a) ≡ b = omega arith in
    let later : drop b xs ≡ drop (b - a) (drop a xs) = sym (drop-drop (b - a) a xs ∙ ap (λ (k : ℕ). drop k xs) place) in
    ap (λ (ys : List ℕ). take (b - a) (drop a xs) ++ take (c - b) ys) later ∙ take-join (b - a) (c - b) (drop a xs) ∙ ap (λ (k : ℕ). take k (drop a xs)) (sym size)

slices-next : (payload : List ℕ) (piece count : ℕ) → piece < count → slice_range payload (30 * piece) (30 * piece + 30) ++ slice_range payload (30 * (piece + 1)) (30 * count) ≡ slice_range payload (30 * piece) (30 * count)
slices-next payload piece count more =
    let next : 30 * (piece + 1) ≡ 30 * piece + 30 = omega arith in
    rw next (slices payload (30 * piece) (30 * piece + 30) (30 * count) (omega arith) (omega arith))

unmarked-before : (start marks : List Bool) (at : ℕ) → StaysMarked start marks → is_marked marks at ≡ false → is_marked start at ≡ false
unmarked-before start marks at stays free = elim (is_marked start at) as (λ mark. is_marked start at ≡ mark → mark ≡ false) [
  | true ↦ λ e. absurd (true≢false (sym (stays at e) ∙ free))
  | false ↦ λ e. refl
] refl

-- the links of the cells that were taken
abbrev NewLinks : ℕ → List Bool → List Bool → List ℕ → List ℕ → Type 0
NewLinks n start marks links now = (cell : ℕ) → is_marked marks cell ≡ true → is_marked start cell ≡ false → slice_index links cell ≡ number_at now (cell_place n cell)

links-placed : (n at first : ℕ) (start marks : List Bool) (links now octets : List ℕ) → at < 2 * n → length links ≡ 2 * n → 70 * n + 34 ≤ length now → length octets ≡ 32
    → number_at (overwrite now (cell_place n at) octets) (cell_place n at) ≡ first → NewLinks n start marks links now → NewLinks n start (set marks at true) (set links at first) (overwrite now (cell_place n at) octets)
links-placed n at first start marks links now octets inside links_size room size link all = λ cell is fresh.
    elim (cell == at) as (λ t. (cell == at) ≡ t → slice_index (set links at first) cell ≡ number_at (overwrite now (cell_place n at) octets) (cell_place n cell)) [
      | true ↦ λ e.
          let here : cell ≡ at = eqb-true cell at e in
          rw here (get_or-set_same links at first 0 (omega arith) ∙ sym link)
      | false ↦ λ e.
          let other : cell ≢ at = grind (arith, nat_tests) in
          let before : is_marked marks cell ≡ true = sym (get_or-set_other marks at cell true false other) ∙ is in
          get_or-set_other links at cell first 0 other ∙ all cell before fresh ∙ sym (cell-apart now octets n at 1 cell (apart-cases cell at other) size (omega arith) room).link
    ] refl

-- one more cell before the chain
pub placed-more : (n : ℕ) (start marks : List Bool) (payload : List ℕ) (piece count first at : ℕ) (links was now : List ℕ) → n ≤ 2048 → at < 2 * n → is_marked marks at ≡ false → 70 * n + 34 ≤ length now → StaysMarked start marks
    → piece < count → 30 * count ≤ length payload → length marks ≡ 2 * n → length links ≡ 2 * n → IsPlaced n start marks payload (piece + 1) count first links was now
    → IsPlaced n start (set marks at true) payload piece count at (set links at first) was
    (overwrite now (cell_place n at) ((first / 256) ∷ (first % 256) ∷ slice_range payload (30 * piece) (30 * piece + 30)))
placed-more n start marks payload piece count first at links was now few inside free room stays more long marks_size links_size w =
    let octets : List ℕ = (first / 256) ∷ (first % 256) ∷ slice_range payload (30 * piece) (30 * piece + 30) in
    let size : length (slice_range payload (30 * piece) (30 * piece + 30)) ≡ 30 = simp (length-take, length-drop) (omega arith) in
    let later : List ℕ = overwrite now (cell_place n at) octets in
    let torn : IsTorn now (cell_place n at) 32 later = record { octets = octets; count_is = omega arith; is = refl } in
    let keeping = Keeping-torn marks n at 1 now later (omega arith) room (one-free marks at (omega arith) free) torn in
    let unstarted : is_marked start at ≡ false = unmarked-before start marks at stays free in
    let link : number_at later (cell_place n at) ≡ first = link-written now (cell_place n at) (first / 256) (first % 256) (slice_range payload (30 * piece) (30 * piece + 30)) (omega arith) ∙ omega arith in
    let same = same-chain n start marks now later w.placed.chain keeping w.placed.taken in
    let below : nat_lt at (2 * n) ≡ true = grind (arith, nat_tests) in
    let other : (at == 65535) ≡ false = grind (arith, nat_tests) in
    let next : (most : ℕ) → length w.placed.chain ≤ most → chain_of later n most first ≡ Some w.placed.chain =
    λ most enough. chain-same later now n most first w.placed.chain few (w.placed.of most enough) same in
    record {
      keeping = Keeping-then start marks n later now was stays keeping w.keeping;
      placed = record {
        chain = at ∷ w.placed.chain;
        of = λ most enough. elim most as (λ most. suc (length w.placed.chain) ≤ most → chain_of later n most at ≡ Some (at ∷ w.placed.chain)) [
          | zero ↦ λ enough. absurd (omega arith)
          | suc most ↦ λ enough. rw (other, below, link, next most (omega arith)) refl
        ] enough;
        cells = omega (arith, w.placed.cells);
        octets = ap₂ (λ (xs ys : List ℕ). xs ++ ys) (payload-written now n at (first / 256) (first % 256) (slice_range payload (30 * piece) (30 * piece + 30)) (omega arith) size)
            (payload-same later now n w.placed.chain same ∙ w.placed.octets)
            ∙ slices-next payload piece count more;
        taken = (record { inside = inside; free = unstarted; now = marked-here marks at (omega arith) }, taken-more n at start marks w.placed.chain w.placed.taken);
        distinct = rw (not-among n at start marks w.placed.chain free w.placed.taken) w.placed.distinct;
      };
      new_links = links-placed n at first start marks links now octets inside links_size room (omega arith) link w.new_links;
    }

-- the same of the chain in memory
others-apart : (marks : List Bool) (at : ℕ) (chain : List ℕ) → is_marked marks at ≡ false → AllByRecursion (λ cell. is_marked marks cell ≡ true) chain → AllByRecursion (λ cell. cell ≢ at) chain
others-apart marks at [] free are = tt
others-apart marks at (cell ∷ chain) free are = (marked-apart marks cell at free are.0, others-apart marks at chain free are.1)

links-stay : (links : List ℕ) (at next : ℕ) (chain : List ℕ) → AllByRecursion (λ cell. cell ≢ at) chain → AllByRecursion (λ cell. slice_index (set links at next) cell ≡ slice_index links cell) chain
links-stay links at next [] apart = tt
links-stay links at next (cell ∷ chain) apart = (get_or-set_other links at cell next 0 apart.0, links-stay links at next chain apart.1)

pub none-of : (at : ℕ) (chain : List ℕ) → AllByRecursion (λ cell. cell ≢ at) chain → list_any (λ cell. at == cell) chain ≡ false
none-of at [] apart = refl
none-of at (cell ∷ chain) apart =
    let other : cell ≢ at = apart.0 in
    let test : (at == cell) ≡ false = grind (arith, nat_tests) in
    rw (test, none-of at chain apart.1) refl

pub laid-more : (n : ℕ) (start marks : List Bool) (piece count first at : ℕ) (before links : List ℕ) → at < 2 * n → is_marked marks at ≡ false → length start ≡ 2 * n → length links ≡ 2 * n
    → IsLaid n start marks (piece + 1) count first before links → IsLaid n start (set marks at true) piece count at before (set links at first)
laid-more n start marks piece count first at before links inside free start_size links_size w =
    let within = linked-inside (link_in links) (2 * n) first w.chain w.linked in
    let marked = subst (λ (marks : List Bool). AllByRecursion (λ cell. is_marked marks cell ≡ true) w.chain) (sym w.marks_are) (with_marked-all (2 * n) start w.chain start_size within) in
    let apart = others-apart marks at w.chain free marked in
    let rest = linked-same (link_in links) (link_in (set links at first)) (2 * n) first w.chain (links-stay links at first w.chain apart) w.linked in
    let here : slice_index (set links at first) at ≡ first = get_or-set_same links at first 0 (omega arith) in
    let stays : StaysMarked start marks = subst (StaysMarked start) (sym w.marks_are) (with_marked-stays start w.chain) in
    record {
      chain = at ∷ w.chain;
      linked = (refl, inside, subst (λ (next : ℕ). AreLinked (link_in (set links at first)) (2 * n) next w.chain) (sym here) rest);
      free = record { free = (unmarked-before start marks at stays free, w.free.free); distinct = rw (none-of at w.chain apart) (w.free.distinct) };
      cells = omega (arith, w.cells);
      marks_are = ap (λ (marks : List Bool). set marks at true) w.marks_are ∙ sym (with_marked-set start at w.chain);
      stay = λ cell is.
          let other : cell ≢ at = marked-apart marks cell at free (stays cell is) in
          get_or-set_other links at cell first 0 other ∙ w.stay cell is;
    }
