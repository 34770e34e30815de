-- The writing of a chain: its start, a step, and its moments.
use Rattle.std.proofs.Common.{◌≡◌, ℕ, zero, suc, ◌+◌, ◌*◌, ◌-◌, ◌≤◌, Bool, List, [], length, slice_range, Option, Some, None, is_some, option_map, IfSome, sym, refl, ap, ◌∙◌, arith, subst, true≢false}
use Rattle.eeprom.specs.Chip.{Chip, Writes, Becomes, RisesBy}
use Rattle.eeprom.specs.Image.{overwrite, IsTorn}
use Rattle.eeprom.specs.StoreOf.{chain_of, cell_place}
use Rattle.cell_store.specs.Marks.{IsFreeRun, StaysMarked}
use Rattle.cell_store.specs.Placed.{Keeping, IsPlaced, IsLaid, KeepsMarked}
use Rattle.cell_store.specs.Runs.{run_first, run_octets, run_marked, run_linked}
use Rattle.cell_store.proofs.Cells.{Keeping-torn, Keeping-then, Keeping-same}
use Rattle.eeprom.proofs.Leaves.{leaves-same}
use Rattle.eeprom.proofs.Moments.{write-throughout, throughout-then}
use Rattle.eeprom.proofs.Overwrite.{map-some}
use Rattle.cell_store.proofs.Runs.{placed-run}

pub nowhere : (image : List ℕ) (n most : ℕ) → chain_of image n most 65535 ≡ Some []
nowhere image n zero = refl
nowhere image n (suc most) = refl

slice-none : (xs : List ℕ) (a : ℕ) → slice_range xs a a ≡ []
slice-none xs a = let none : a - a ≡ 0 = omega arith in rw none refl

pub placed-start : (n : ℕ) (marks : List Bool) (payload : List ℕ) (count first : ℕ) (links : List ℕ) (image : Option (List ℕ)) → first ≡ 65535 → Becomes (IsPlaced n marks marks payload count count first links) image image
placed-start n marks payload count first links image none = λ now told. (
  now,
  told,
  record {
    keeping = Keeping-same marks n now;
    placed = record {
      chain = [];
      of = λ most _. rw none (nowhere now n most);
      cells = omega arith;
      octets = sym (slice-none payload (30 * count));
      taken = tt;
      distinct = refl;
    };
    new_links = λ cell is free. absurd (true≢false (sym is ∙ free));
  },
)

pub keeps-start : (marks : List Bool) (n : ℕ) (chip : Chip) → KeepsMarked marks n chip chip
keeps-start marks n chip = record { still = refl; moments = leaves-same _ chip chip refl (Keeping-same marks n) }

pub is_some-map : {A B : Type 0} (f : A → B) (o : Option A) → is_some (option_map f o) ≡ is_some o
is_some-map f None = refl
is_some-map f (Some x) = refl

-- how many octets were written, of none and of some more
pub written-none : (old : Option ℕ) (none : ℕ) → none ≡ 0 → Becomes (RisesBy none) old old
written-none old none is = λ after told. (after, told, omega (arith, is))

pub written-more : (old mid new : Option ℕ) (some more all : ℕ) → all ≡ some + more → Becomes (RisesBy some) old mid → Becomes (RisesBy more) mid new → Becomes (RisesBy all) old new
written-more old mid new some more all is first second = λ after told.
    let later = second after told in
    let sooner = first later.0 later.1 in
    (sooner.0, sooner.1, omega (arith, is, later.2, sooner.2))

-- where a chain has been written so far, a torn write into a free run keeps what is marked
pub keeps-run : (start marks : List Bool) (n cell count : ℕ) (octets : List ℕ) (old mid new : Chip) (payload links : List ℕ) (piece total first : ℕ) → cell + count ≤ 2 * n → IsFreeRun marks cell count → StaysMarked start marks → length octets ≡ 32 * count
    → 70 * n + 34 ≤ old.still.size → IfSome old.image (λ image. length image ≡ old.still.size) → IfSome mid.past (λ past. length past ≡ mid.clock)
    → Becomes (IsPlaced n start marks payload piece total first links) old.image mid.image → KeepsMarked start n old mid → Writes (cell_place n cell) octets mid new → KeepsMarked start n old new
keeps-run start marks n cell count octets old mid new payload links piece total first inside run stays size room sized clocked placed keeps w = record {
  still = w.still ∙ keeps.still;
  moments = throughout-then old mid new _ keeps.moments
      (write-throughout (cell_place n cell) octets mid new (λ g left. (g ≡ old.still.mark) × (was : List ℕ) × (old.image ≡ Some was) × Keeping start n left was) clocked w
      (λ image left told torn.
      let so_far = placed image told in
      let whole : length so_far.0 ≡ old.still.size = rw (so_far.1) at sized in
      let same = so_far.2.keeping in
      let long : 70 * n + 34 ≤ length image = omega (arith, whole, same.size) in (
        ap (λ still. still.mark) keeps.still,
        so_far.0,
        so_far.1,
        Keeping-then start marks n left image so_far.0 stays (Keeping-torn marks n cell count image left inside long run (subst (λ (k : ℕ). IsTorn image (cell_place n cell) k left) size torn)) same,
      )));
}

-- the chain so far, with a run written before it
pub becomes-run : (start marks : List Bool) (n cell count : ℕ) (octets : List ℕ) (old mid new : Option (List ℕ)) (size : ℕ) (payload links : List ℕ) (piece total first : ℕ) → n ≤ 2048 → cell + count ≤ 2 * n → IsFreeRun marks cell count → StaysMarked start marks
    → 70 * n + 34 ≤ size → IfSome old (λ image. length image ≡ size) → piece + count ≤ total → 30 * total ≤ length payload → length marks ≡ 2 * n → length links ≡ 2 * n → octets ≡ run_octets cell count first payload piece
    → Becomes (IsPlaced n start marks payload (piece + count) total first links) old mid → new ≡ option_map (λ image. overwrite image (cell_place n cell) octets) mid
    → Becomes (IsPlaced n start (run_marked marks cell count) payload piece total (run_first cell count first) (run_linked links cell count first)) old new
becomes-run start marks n cell count octets old mid new size payload links piece total first few inside run stays room sized within long marks_size links_size is placed written = λ now told.
    let from = map-some (λ image. overwrite image (cell_place n cell) octets) mid now (sym written ∙ told) in
    let so_far = placed from.0 from.1 in
    let whole : length so_far.0 ≡ size = rw (so_far.1) at sized in
    let long_enough : 70 * n + 34 ≤ length from.0 = omega (arith, whole, so_far.2.keeping.size) in
    let next = placed-run n start marks payload piece total first cell count links so_far.0 from.0 few inside run long_enough stays within long marks_size links_size so_far.2 in
    let image : now ≡ overwrite from.0 (cell_place n cell) (run_octets cell count first payload piece) = from.2 ∙ ap (λ (xs : List ℕ). overwrite from.0 (cell_place n cell) xs) is in (
      so_far.0,
      so_far.1,
      subst (λ (image : List ℕ). IsPlaced n start (run_marked marks cell count) payload piece total (run_first cell count first) (run_linked links cell count first) so_far.0 image) (sym image) next,
    )

pub laid-start : (n : ℕ) (marks : List Bool) (count : ℕ) (links : List ℕ) → IsLaid n marks marks count count 65535 links links
laid-start n marks count links = record {
  chain = [];
  linked = refl;
  free = record { free = tt; distinct = refl };
  cells = omega arith;
  marks_are = refl;
  stay = λ cell is. refl;
}
