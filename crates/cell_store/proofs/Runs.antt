-- A run of cells that is written at once is as its cells written one by one, the last one first.
use Rattle.std.proofs.Common.{◌≡◌, ℕ, zero, suc, ◌+◌, ◌*◌, ◌<◌, ◌≤◌, Bool, true, false, List, ◌++◌, length, slice_range, refl, ◌∙◌, arith, append_assoc, add-zero, length-take, length-drop, subst}
use Rattle.std.proofs.lemmas.List.{length-set, get_or-set_other}
use Rattle.eeprom.specs.Image.{overwrite}
use Rattle.eeprom.specs.StoreOf.{cell_place, two_octets}
use Rattle.cell_store.specs.Marks.{IsFreeRun, StaysMarked, is_marked, unmarked}
use Rattle.cell_store.specs.Placed.{IsPlaced, IsLaid}
use Rattle.cell_store.specs.Runs.{run_first, run_octets, run_marked, run_linked}
use Rattle.cell_store.proofs.Cells.{placed-more, laid-more}
use Rattle.cell_store.proofs.Marking.{marks-stay, unmarked-one}
use Rattle.eeprom.proofs.Overwrite.{overwrite-nil, overwrite-before}

pub first-some : (cell count after : ℕ) → 1 ≤ count → run_first cell count after ≡ cell
first-some cell zero after some = absurd (omega arith)
first-some cell (suc rest) after some = refl

pub first-none : (cell count after : ℕ) → count ≡ 0 → run_first cell count after ≡ after
first-none cell zero after none = refl
first-none cell (suc rest) after none = absurd (omega arith)

-- one more cell's octets, of those that are left
pub octets-more : (octets payload all : List ℕ) (cell rest next after piece : ℕ) → next ≡ run_first (cell + 1) rest after → octets ++ run_octets cell (suc rest) after payload piece ≡ all
    → (octets ++ (two_octets next ++ slice_range payload (30 * piece) (30 * piece + 30))) ++ run_octets (cell + 1) rest after payload (piece + 1) ≡ all
octets-more octets payload all cell rest next after piece is so_far =
    rw is (append_assoc octets (two_octets (run_first (cell + 1) rest after) ++ slice_range payload (30 * piece) (30 * piece + 30)) (run_octets (cell + 1) rest after payload (piece + 1)) ∙ so_far)

pub length-marked : (marks : List Bool) (cell count : ℕ) → length (run_marked marks cell count) ≡ length marks
length-marked marks cell zero = refl
length-marked marks cell (suc rest) = length-set (run_marked marks (cell + 1) rest) cell true ∙ length-marked marks (cell + 1) rest

pub length-linked : (links : List ℕ) (cell count after : ℕ) → length (run_linked links cell count after) ≡ length links
length-linked links cell zero after = refl
length-linked links cell (suc rest) after = length-set (run_linked links (cell + 1) rest after) cell (run_first (cell + 1) rest after) ∙ length-linked links (cell + 1) rest after

pub run-stays : (marks : List Bool) (cell count : ℕ) → StaysMarked marks (run_marked marks cell count)
run-stays marks cell zero = λ at is. is
run-stays marks cell (suc rest) = λ at is. marks-stay (run_marked marks (cell + 1) rest) cell at (run-stays marks (cell + 1) rest at is)

pub run-before : (marks : List Bool) (cell count at : ℕ) → at < cell → is_marked (run_marked marks cell count) at ≡ is_marked marks at
run-before marks cell zero at before = refl
run-before marks cell (suc rest) at before = get_or-set_other (run_marked marks (cell + 1) rest) cell at true false (omega arith) ∙ run-before marks (cell + 1) rest at (omega arith)

-- a free run behind its first cell, which is free still when the others are marked
run-rest : (marks : List Bool) (cell rest : ℕ) → IsFreeRun marks cell (suc rest) → IsFreeRun marks (cell + 1) rest
run-rest marks cell rest run = record { inside = omega (arith, run.inside); free = λ k from below. run.free k (omega arith) (omega arith) }

run-here : (marks : List Bool) (cell rest : ℕ) → IsFreeRun marks cell (suc rest) → is_marked (run_marked marks (cell + 1) rest) cell ≡ false
run-here marks cell rest run = run-before marks (cell + 1) rest cell (omega arith) ∙ run.free cell (omega arith) (omega arith)

pub unmarked-run : (marks : List Bool) (cell count : ℕ) → IsFreeRun marks cell count → unmarked marks ≡ unmarked (run_marked marks cell count) + count
unmarked-run marks cell zero run = omega arith
unmarked-run marks cell (suc rest) run =
    omega (
      arith,
      unmarked-run marks (cell + 1) rest (run-rest marks cell rest run),
      unmarked-one (run_marked marks (cell + 1) rest) cell (omega (arith, run.inside, length-marked marks (cell + 1) rest)) (run-here marks cell rest run),
    )

-- the run's cells before the chain
pub placed-run : (n : ℕ) (start marks : List Bool) (payload : List ℕ) (piece total first cell count : ℕ) (links was now : List ℕ) → n ≤ 2048 → cell + count ≤ 2 * n → IsFreeRun marks cell count → 70 * n + 34 ≤ length now → StaysMarked start marks
    → piece + count ≤ total → 30 * total ≤ length payload → length marks ≡ 2 * n → length links ≡ 2 * n → IsPlaced n start marks payload (piece + count) total first links was now
    → IsPlaced n start (run_marked marks cell count) payload piece total (run_first cell count first) (run_linked links cell count first) was (overwrite now (cell_place n cell) (run_octets cell count first payload piece))
placed-run n start marks payload piece total first cell zero links was now few inside run room stays within long marks_size links_size w =
    rw (overwrite-nil now (cell_place n cell)) (rw add-zero at w)
placed-run n start marks payload piece total first cell (suc rest) links was now few inside run room stays within long marks_size links_size w =
    let next : ℕ = run_first (cell + 1) rest first in
    let octets : List ℕ = two_octets next ++ slice_range payload (30 * piece) (30 * piece + 30) in
    let tail : List ℕ = run_octets (cell + 1) rest first payload (piece + 1) in
    let count : length octets ≡ 32 = simp (length-take, length-drop) (omega arith) in
    let pieces : piece + suc rest ≡ (piece + 1) + rest = omega arith in
    let place : cell_place n (cell + 1) ≡ cell_place n cell + length octets = omega arith in
    let run_behind = run-rest marks cell rest run in
    let behind = placed-run n start marks payload (piece + 1) total first (cell + 1) rest links was now few (omega arith) run_behind room stays (omega arith) long marks_size links_size
    (subst (λ (k : ℕ). IsPlaced n start marks payload k total first links was now) pieces w) in
    let free = run-here marks cell rest run in
    let later = placed-more n start (run_marked marks (cell + 1) rest) payload piece total next cell (run_linked links (cell + 1) rest first) was (overwrite now (cell_place n (cell + 1)) tail) few (omega arith) free
    (omega (arith, behind.keeping.size, w.keeping.size)) (λ at is. run-stays marks (cell + 1) rest at (stays at is)) (omega arith) long (length-marked marks (cell + 1) rest ∙ marks_size) (length-linked links (cell + 1) rest first ∙ links_size) behind in
    let whole : overwrite (overwrite now (cell_place n (cell + 1)) tail) (cell_place n cell) octets ≡ overwrite now (cell_place n cell) (octets ++ tail) =
    overwrite-before now now octets tail (cell_place n cell) (cell_place n (cell + 1)) place (omega arith) refl refl in
    subst (λ (image : List ℕ). IsPlaced n start (run_marked marks cell (suc rest)) payload piece total cell (run_linked links cell (suc rest) first) was image) whole later

pub laid-run : (n : ℕ) (start marks : List Bool) (piece total first cell count : ℕ) (before links : List ℕ) → cell + count ≤ 2 * n → IsFreeRun marks cell count → length start ≡ 2 * n → length marks ≡ 2 * n → length links ≡ 2 * n
    → IsLaid n start marks (piece + count) total first before links → IsLaid n start (run_marked marks cell count) piece total (run_first cell count first) before (run_linked links cell count first)
laid-run n start marks piece total first cell zero before links inside run start_size marks_size links_size w = rw add-zero at w
laid-run n start marks piece total first cell (suc rest) before links inside run start_size marks_size links_size w =
    let pieces : piece + suc rest ≡ (piece + 1) + rest = omega arith in
    let run_behind = run-rest marks cell rest run in
    let behind = laid-run n start marks (piece + 1) total first (cell + 1) rest before links (omega arith) run_behind start_size marks_size links_size
    (subst (λ (k : ℕ). IsLaid n start marks k total first before links) pieces w) in
    let free = run-here marks cell rest run in
    laid-more n start (run_marked marks (cell + 1) rest) piece total (run_first (cell + 1) rest first) cell before (run_linked links (cell + 1) rest first) (omega arith) free start_size
    (length-linked links (cell + 1) rest first ∙ links_size) behind
