-- A claim of a chain, cell by cell: which cells are free before it, and after.
use Rattle.std.proofs.Common.{◌≡◌, ℕ, ◌+◌, ◌*◌, ◌<◌, ◌≤◌, ◌≢◌, ◌==◌, ◌&&◌, not, Bool, true, false, List, [], ◌∷◌, ◌++◌, length, set, slice_index, nat_le, Option, Some, None, IfSome, sym, refl, ap, ◌∙◌, arith, subst, true≢false, length-append, if◌then◌else◌, inl, inr, ◌||◌, eqb-true}
use Rattle.std.specs.List.{AllByRecursion}
use Rattle.std.proofs.lemmas.Bool.{and_parts, or_cases}
use Rattle.std.proofs.lemmas.Bool.Decides.{nat_tests}
use Rattle.std.proofs.lemmas.List.{length-set, get_or-set_same, get_or-set_other, nil_from_length}
use Rattle.std.proofs.lemmas.Option.{same_Some, none-some}
use Rattle.eeprom.specs.StoreOf.{is_distinct, is_record, number_at, cell_place, cells_for, payload_of, longest_record, longest_chain}
use Rattle.cell_store.specs.Cells.{Cells, link_in, AreLinkedIn, StayLinked}
use Rattle.cell_store.specs.Chains.{AreLinked, AreFree, link_of, with_marked, is_among, IsRecordChain}
use Rattle.cell_store.specs.Claiming.{ClaimsCell, IsTakenCell, record_cells}
use Rattle.cell_store.specs.Claims.{TakesChain, HasRecord, HasNoRecord}
use Rattle.cell_store.specs.Marks.{is_marked, unmarked}
use Rattle.cell_store.proofs.Among.{neither, not-true}
use Rattle.cell_store.proofs.Linking.{chain-linked, linked-chain, linked-same, linked-one, IsPath, path-more, path-same, path-end, path-rest, path-inside}
use Rattle.cell_store.proofs.Marking.{marked-all, marked-here, unmarked-one, with_marked-append, with_marked-stays, with_marked-all, marked-with}

-- the cell that is marked isn't is_among those that are still free, and the others are free as they were
free-apart : (marks : List Bool) (cell : ℕ) (cells : List ℕ) → cell < length marks → AllByRecursion (λ cell. is_marked marks cell ≡ false) cells → is_marked marks cell ≡ true → is_among cell cells ≡ false
free-apart marks cell [] inside free is = refl
free-apart marks cell (next ∷ cells) inside free is =
    let other : cell ≢ next = λ e. true≢false (sym is ∙ rw e (free.0)) in
    let test : (cell == next) ≡ false = grind (arith, nat_tests) in
    rw test (free-apart marks cell cells inside free.1 is)

free-before : (marks : List Bool) (cell : ℕ) (cells : List ℕ) → is_among cell cells ≡ false → AllByRecursion (λ next. is_marked (set marks cell true) next ≡ false) cells → AllByRecursion (λ next. is_marked marks next ≡ false) cells
free-before marks cell [] apart free = tt
free-before marks cell (next ∷ cells) apart free =
    let parts = neither (cell == next) (is_among cell cells) apart in
    let other : next ≢ cell = grind (arith, nat_tests, parts.0) in
    (sym (get_or-set_other marks cell next true false other) ∙ free.0, free-before marks cell cells parts.1 free.1)

free-behind : (marks : List Bool) (cell : ℕ) (cells : List ℕ) → is_among cell cells ≡ false → AllByRecursion (λ next. is_marked marks next ≡ false) cells → AllByRecursion (λ next. is_marked (set marks cell true) next ≡ false) cells
free-behind marks cell [] apart free = tt
free-behind marks cell (next ∷ cells) apart free =
    let parts = neither (cell == next) (is_among cell cells) apart in
    let other : next ≢ cell = grind (arith, nat_tests, parts.0) in
    (get_or-set_other marks cell next true false other ∙ free.0, free-behind marks cell cells parts.1 free.1)

-- a cell and others are free where it is, and the others are once it is marked
free-first : (marks : List Bool) (cell : ℕ) (cells : List ℕ) → AreFree marks (cell ∷ cells) → (is_marked marks cell ≡ false) × AreFree (set marks cell true) cells
free-first marks cell cells f =
    let tests = and_parts (not (is_among cell cells)) (is_distinct cells) f.distinct in
    (f.free.0, record { free = free-behind marks cell cells (not-true (is_among cell cells) tests.0) f.free.1; distinct = tests.1 })

free-more : (marks : List Bool) (cell : ℕ) (cells : List ℕ) → cell < length marks → is_marked marks cell ≡ false → AreFree (set marks cell true) cells → AreFree marks (cell ∷ cells)
free-more marks cell cells inside here f =
    let size : length (set marks cell true) ≡ length marks = length-set marks cell true in
    let apart = free-apart (set marks cell true) cell cells (omega arith) f.free (marked-here marks cell inside) in
    record { free = (here, free-before marks cell cells apart f.free); distinct = rw (apart, f.distinct) refl }

-- the same of a whole chain and others
pub free-parts : (marks : List Bool) (size : ℕ) (chain cells : List ℕ) → length marks ≡ size → AllByRecursion (λ cell. cell < size) chain → AreFree marks (chain ++ cells) → AreFree marks chain × AreFree (with_marked marks chain) cells
free-parts marks size [] cells count inside f = (record { free = tt; distinct = refl }, f)
free-parts marks size (cell ∷ chain) cells count inside f =
    let first = free-first marks cell (chain ++ cells) f in
    let rest = free-parts (set marks cell true) size chain cells (length-set marks cell true ∙ count) inside.1 first.1 in
    (free-more marks cell chain (omega (arith, inside.0)) first.0 rest.0, rest.1)

pub free-join : (marks : List Bool) (size : ℕ) (chain cells : List ℕ) → length marks ≡ size → AllByRecursion (λ cell. cell < size) chain → AreFree marks chain → AreFree (with_marked marks chain) cells → AreFree marks (chain ++ cells)
free-join marks size [] cells count inside a b = b
free-join marks size (cell ∷ chain) cells count inside a b =
    let first = free-first marks cell chain a in
    free-more marks cell (chain ++ cells) (omega (arith, inside.0)) first.0 (free-join (set marks cell true) size chain cells (length-set marks cell true ∙ count) inside.1 first.1 b)

-- no more cells than are free
pub free-few : (marks : List Bool) (size : ℕ) (chain : List ℕ) → length marks ≡ size → AllByRecursion (λ cell. cell < size) chain → AreFree marks chain → length chain ≤ unmarked marks
free-few marks size [] count inside f = omega arith
free-few marks size (cell ∷ chain) count inside f =
    let first = free-first marks cell chain f in
    let rest = free-few (set marks cell true) size chain (length-set marks cell true ∙ count) inside.1 first.1 in
    omega (arith, rest, unmarked-one marks cell (omega (arith, inside.0)) first.0)

-- nor than there are
pub free-within : (marks : List Bool) (size : ℕ) (chain : List ℕ) → length marks ≡ size → AllByRecursion (λ cell. cell < size) chain → AreFree marks chain → length chain ≤ size
free-within marks size chain count inside f = omega (arith, free-few marks size chain count inside f, marked-all marks)

-- what is known of a claim after so many cells, which lead from the first cell to this one
pub record Claiming (start now : Cells) (image : Option (List ℕ)) (first count cell : ℕ) : Type 0 where
  pub path : List ℕ
  pub is : IsPath (link_in now.links) (2 * start.cells) first path cell
  pub free : AreFree start.used path
  pub count_is : length path ≡ count
  pub cells : now.cells ≡ start.cells
  pub used : now.used ≡ with_marked start.used path
  pub stay : StayLinked start.used start.links now.links
  pub told : IfSome image (λ image. AllByRecursion (λ x. number_at image (cell_place start.cells x) ≡ slice_index now.links x) path)

-- a cell that is linked anew leaves the links of others
other-link : (links : List ℕ) (at next x : ℕ) → x ≢ at → slice_index (set links at next) x ≡ slice_index links x
other-link links at next x other = get_or-set_other links at x next 0 other

apart-from : (marks : List Bool) (at : ℕ) (cells : List ℕ) → is_marked marks at ≡ false → AllByRecursion (λ x. is_marked marks x ≡ true) cells → AllByRecursion (λ x. x ≢ at) cells
apart-from marks at [] free are = tt
apart-from marks at (x ∷ cells) free are = (λ e. true≢false (sym are.0 ∙ rw e free), apart-from marks at cells free are.1)

links-agree : (links : List ℕ) (at next : ℕ) (cells : List ℕ) → AllByRecursion (λ x. x ≢ at) cells → AllByRecursion (λ x. slice_index (set links at next) x ≡ slice_index links x) cells
links-agree links at next [] apart = tt
links-agree links at next (x ∷ cells) apart = (other-link links at next x apart.0, links-agree links at next cells apart.1)

tells-more : (image links : List ℕ) (n at next : ℕ) (path : List ℕ) → at < length links → next ≡ number_at image (cell_place n at) → AllByRecursion (λ x. x ≢ at) path
    → AllByRecursion (λ x. number_at image (cell_place n x) ≡ slice_index links x) path → AllByRecursion (λ x. number_at image (cell_place n x) ≡ slice_index (set links at next) x) (path ++ at ∷ [])
tells-more image links n at next [] inside is apart told = (sym is ∙ sym (get_or-set_same links at next 0 inside), tt)
tells-more image links n at next (x ∷ path) inside is apart told = (told.0 ∙ sym (other-link links at next x apart.0), tells-more image links n at next path inside is apart.1 told.1)

pub Claiming-start : (start : Cells) (image : Option (List ℕ)) (first : ℕ) → Claiming start start image first 0 first
Claiming-start start image first = record {
  path = [];
  is = refl;
  free = record { free = tt; distinct = refl };
  count_is = refl;
  cells = refl;
  used = refl;
  stay = λ cell is. refl;
  told = none image;
}
  where
    none : (image : Option (List ℕ)) → IfSome image (λ image. AllByRecursion (λ x. number_at image (cell_place start.cells x) ≡ slice_index start.links x) [])
    none None = tt
    none (Some image) = tt

pub Claiming-more : (start now new : Cells) (image : Option (List ℕ)) (first count cell next : ℕ) → length start.used ≡ 2 * start.cells → length now.links ≡ 2 * start.cells → new.cells ≡ now.cells
    → ClaimsCell now new cell next → IfSome image (λ image. next ≡ number_at image (cell_place start.cells cell)) → Claiming start now image first count cell → Claiming start new image first (count + 1) next
Claiming-more start now new image first count cell next used_size links_size same claim link c =
    let inside : cell < 2 * start.cells = subst (λ (n : ℕ). cell < 2 * n) c.cells claim.inside in
    let within = path-inside (link_in now.links) (2 * start.cells) first c.path cell c.is in
    let marked = subst (λ (used : List Bool). AllByRecursion (λ x. is_marked used x ≡ true) c.path) (sym c.used) (with_marked-all (2 * start.cells) start.used c.path used_size within) in
    let apart = apart-from now.used cell c.path claim.free marked in
    let agree = links-agree now.links cell next c.path apart in
    let there : slice_index (set now.links cell next) cell ≡ next = get_or-set_same now.links cell next 0 (omega arith) in
    let before = path-same (link_in now.links) (link_in (set now.links cell next)) (2 * start.cells) first c.path cell agree c.is in
    let longer = path-more (link_in (set now.links cell next)) (2 * start.cells) first c.path cell before inside in
    let free : is_marked (with_marked start.used c.path) cell ≡ false = rw (c.used) at claim.free in
    record {
      path = c.path ++ cell ∷ [];
      is = subst (λ (links : List ℕ). IsPath (link_in links) (2 * start.cells) first (c.path ++ cell ∷ []) next) (sym claim.links)
          (subst (IsPath (link_in (set now.links cell next)) (2 * start.cells) first (c.path ++ cell ∷ [])) there longer);
      free = free-join start.used (2 * start.cells) c.path (cell ∷ []) used_size within c.free (record { free = (free, tt); distinct = refl });
      count_is = length-append c.path (cell ∷ []) ∙ ap (λ (k : ℕ). k + 1) c.count_is;
      cells = same ∙ c.cells;
      used = claim.used ∙ (ap (λ (used : List Bool). set used cell true) c.used ∙ sym (with_marked-append start.used c.path (cell ∷ [])));
      stay = λ x is.
          let still : is_marked now.used x ≡ true = rw (c.used) (with_marked-stays start.used c.path x is) in
          let other : x ≢ cell = λ e. true≢false (sym still ∙ rw e (claim.free)) in
          ap (λ (links : List ℕ). slice_index links x) claim.links ∙ (other-link now.links cell next x other ∙ c.stay x is);
      told = tells image link c.told;
    }
  where
    tells : (image : Option (List ℕ)) → IfSome image (λ image. next ≡ number_at image (cell_place start.cells cell))
        → IfSome image (λ image. AllByRecursion (λ x. number_at image (cell_place start.cells x) ≡ slice_index now.links x) c.path)
        → IfSome image (λ image. AllByRecursion (λ x. number_at image (cell_place start.cells x) ≡ slice_index new.links x) (c.path ++ cell ∷ []))
    tells None link told = tt
    tells (Some image) link told =
        let within = path-inside (link_in now.links) (2 * start.cells) first c.path cell c.is in
        let marked = subst (λ (used : List Bool). AllByRecursion (λ x. is_marked used x ≡ true) c.path) (sym c.used) (with_marked-all (2 * start.cells) start.used c.path used_size within) in
        let inside : cell < 2 * start.cells = subst (λ (n : ℕ). cell < 2 * n) c.cells claim.inside in
        subst (λ (links : List ℕ). AllByRecursion (λ x. number_at image (cell_place start.cells x) ≡ slice_index links x) (c.path ++ cell ∷ [])) (sym claim.links)
        (tells-more image now.links start.cells cell next c.path (omega arith) link (apart-from now.used cell c.path claim.free marked) told)

-- in the image each chain goes on from there
chain-rest : (start now : Cells) (image : List ℕ) (first count cell : ℕ) (chain : List ℕ) → start.cells ≤ 2048 → (c : Claiming start now (Some image) first count cell) → IsRecordChain image start.cells first chain
    → (rest : List ℕ) × (chain ≡ c.path ++ rest) × AreLinked (link_of image start.cells) (2 * start.cells) cell rest
chain-rest start now image first count cell chain few c r =
    path-rest (link_of image start.cells) (2 * start.cells) first c.path cell chain (omega arith) (path-same (link_in now.links) (link_of image start.cells) (2 * start.cells) first c.path cell c.told c.is)
    (chain-linked image start.cells (2 * start.cells) first chain r.of)

-- the first cell of a record's chain says how many cells it has
record-count : (image : List ℕ) (n first : ℕ) (chain : List ℕ) → IsRecordChain image n first chain → record_cells (payload_of image n first) ≡ Some (length chain)
record-count image n first [] r = absurd (omega (arith, r.some))
record-count image n first (cell ∷ cells) r =
    let here : cell ≡ first = (chain-linked image n (2 * n) first (cell ∷ cells) r.of).0 in
    let size : ℕ = number_at (payload_of image n cell) 0 in
    let tests = and_parts (nat_le 1 size && nat_le size longest_record) (length (cell ∷ cells) == cells_for size) r.is in
    let count : length (cell ∷ cells) ≡ cells_for size = eqb-true (length (cell ∷ cells)) (cells_for size) tests.1 in
    subst (λ (first : ℕ). record_cells (payload_of image n first) ≡ Some (length (cell ∷ cells))) here (rw (tests.0) (ap (λ (k : ℕ). Some k) (sym count)))

-- each record from a cell on has more than so many cells
abbrev pub IsLonger : Option (List ℕ) → ℕ → ℕ → ℕ → Type 0
IsLonger image n first count = IfSome image (λ image. (chain : List ℕ) → IsRecordChain image n first chain → count < length chain)

pub longer-none : (image : Option (List ℕ)) (n first : ℕ) → IsLonger image n first 0
longer-none None n first = tt
longer-none (Some image) n first = λ chain r. r.some

pub longer-counted : (image : Option (List ℕ)) (n first count most : ℕ) → IfSome image (λ image. record_cells (payload_of image n first) ≡ Some most) → count < most → IsLonger image n first count
longer-counted None n first count most is more = tt
longer-counted (Some image) n first count most is more = λ chain r.
    let whole : most ≡ length chain = same_Some most (length chain) (sym is ∙ record-count image n first chain r) in
    rw (sym whole) more

-- a cell that can't be claimed is in no chain of free cells
no-rest : (start now : Cells) (image : List ℕ) (cell : ℕ) (path rest : List ℕ) → length start.used ≡ 2 * start.cells → AllByRecursion (λ cell. cell < 2 * start.cells) path → now.cells ≡ start.cells → now.used ≡ with_marked start.used path
    → length path < length (path ++ rest) → IsTakenCell now cell → AreLinked (link_of image start.cells) (2 * start.cells) cell rest → AreFree start.used (path ++ rest) → ⊥
no-rest start now image cell path [] used_size within cells used longer taken linked free = omega (arith, longer, length-append path [])
no-rest start now image cell path (next ∷ rest) used_size within cells used longer taken linked free =
    let parts = free-parts start.used (2 * start.cells) path (next ∷ rest) used_size within free in
    let here : is_marked (with_marked start.used path) cell ≡ false = rw (linked.0) at parts.1.free.0 in
    let inside : cell < 2 * now.cells = subst (λ (n : ℕ). cell < 2 * n) (sym cells) linked.1 in
    true≢false (sym (taken inside) ∙ (ap (λ (used : List Bool). is_marked used cell) used ∙ here))

pub Claiming-taken : (start now : Cells) (image : Option (List ℕ)) (first count cell : ℕ) → start.cells ≤ 2048 → length start.used ≡ 2 * start.cells → IsLonger image start.cells first count → IsTakenCell now cell → Claiming start now image first count cell → IfSome image (HasNoRecord start first)
Claiming-taken start now None first count cell few used_size longer taken c = tt
Claiming-taken start now (Some image) first count cell few used_size longer taken c = λ chain r free.
    let from = chain-rest start now image first count cell chain few c r in
    let more : length c.path < length (c.path ++ from.0) = omega (arith, longer chain r, c.count_is, ap (length {A = ℕ}) from.1) in
    no-rest start now image cell c.path from.0 used_size (path-inside (link_in now.links) (2 * start.cells) first c.path cell c.is) c.cells c.used more taken
    from.2 (subst (AreFree start.used) from.1 free)

-- nor is there a record where its first cell says no length
pub no-length : (start : Cells) (image : Option (List ℕ)) (first : ℕ) → IfSome image (λ image. record_cells (payload_of image start.cells first) ≡ None) → IfSome image (HasNoRecord start first)
no-length start None first none = tt
no-length start (Some image) first none = λ chain r free. none-some (length chain) (sym none ∙ record-count image start.cells first chain r)

-- nor one whose chain goes on behind its cells
pub Claiming-on : (start now : Cells) (image : Option (List ℕ)) (first count cell : ℕ) → start.cells ≤ 2048 → cell ≢ 65535 → IfSome image (λ image. record_cells (payload_of image start.cells first) ≡ Some count) → Claiming start now image first count cell → IfSome image (HasNoRecord start first)
Claiming-on start now None first count cell few on is c = tt
Claiming-on start now (Some image) first count cell few on is c = λ chain r free.
    let from = chain-rest start now image first count cell chain few c r in
    let whole : count ≡ length chain = same_Some count (length chain) (sym is ∙ record-count image start.cells first chain r) in
    let none : from.0 ≡ [] = nil_from_length from.0 (omega (arith, whole, c.count_is, ap (length {A = ℕ}) from.1, length-append c.path from.0)) in
    on (subst (AreLinked (link_of image start.cells) (2 * start.cells) cell) none from.2)

counted-parts : (test : Bool) (cells count : ℕ) → (if test then Some cells else None) ≡ Some count → (test ≡ true) × (cells ≡ count)
counted-parts true cells count is = (refl, same_Some cells count is)
counted-parts false cells count is = absurd (none-some count is)

-- cells of which the first one says how many they are have a record
counted-record : (image : List ℕ) (n first : ℕ) (link : ℕ → ℕ) (path : List ℕ) (cell : ℕ) → IsPath link (2 * n) first path cell → 1 ≤ length path → record_cells (payload_of image n first) ≡ Some (length path) → is_record image n path ≡ true
counted-record image n first link [] cell path some is = refl
counted-record image n first link (x ∷ rest) cell path some is =
    let size : ℕ = number_at (payload_of image n first) 0 in
    let parts = counted-parts (nat_le 1 size && nat_le size longest_record) (cells_for size) (length (x ∷ rest)) is in
    let same : (length (x ∷ rest) == cells_for size) ≡ true = grind (arith, nat_tests, parts.1) in
    rw (path.0, parts.0, same) refl

pub Claiming-record : (start now : Cells) (image : Option (List ℕ)) (first count cell : ℕ) → start.cells ≤ 2048 → length now.links ≡ 2 * start.cells → length start.used ≡ 2 * start.cells → cell ≡ 65535 → 1 ≤ count
    → IfSome image (λ image. record_cells (payload_of image start.cells first) ≡ Some count) → Claiming start now image first count cell → IfSome image (HasRecord now first)
Claiming-record start now None first count cell many links_size used_size none some is c = tt
Claiming-record start now (Some image) first count cell many links_size used_size none some is c = λ chain linked.
    let n = start.cells in
    let whole = path-end (link_in now.links) (2 * n) first c.path cell none c.is in
    let same : chain ≡ c.path = linked-one (link_in now.links) (2 * n) first chain c.path (omega arith) (subst (λ (k : ℕ). AreLinked (link_in now.links) k first chain) links_size linked) whole in
    let of = linked-chain image n (2 * n) first c.path many (linked-same (link_in now.links) (link_of image n) (2 * n) first c.path c.told whole)
    (free-within start.used (2 * n) c.path used_size (path-inside (link_in now.links) (2 * n) first c.path cell c.is) c.free) in
    let there : IsRecordChain image n first c.path = record {
      of = of;
      is = counted-record image n first (link_in now.links) c.path cell c.is (omega (arith, c.count_is)) (is ∙ ap (λ (k : ℕ). Some k) (sym c.count_is));
      some = omega (arith, c.count_is);
    } in
    subst (λ (k : ℕ). IsRecordChain image k first chain) (sym c.cells) (subst (IsRecordChain image n first) (sym same) there)

pub Claiming-takes : (start now : Cells) (image : Option (List ℕ)) (first count cell : ℕ) → length start.links ≡ 2 * start.cells → length now.links ≡ 2 * start.cells → cell ≡ 65535 → count ≤ longest_chain → Claiming start now image first count cell → TakesChain start now first count
Claiming-takes start now image first count cell start_size links_size none short c = record {
  chain = c.path;
  linked = subst (λ (k : ℕ). AreLinked (link_in now.links) k first c.path) (sym links_size) (path-end (link_in now.links) (2 * start.cells) first c.path cell none c.is);
  free = c.free;
  count_is = c.count_is;
  short = short;
  used = c.used;
  stay = c.stay;
  cells = c.cells;
  links_count = links_size ∙ sym start_size;
}

-- what was claimed is linked in the image too
told-at : (image links : List ℕ) (n : ℕ) (path : List ℕ) (x : ℕ) → is_among x path ≡ true → AllByRecursion (λ x. number_at image (cell_place n x) ≡ slice_index links x) path → slice_index links x ≡ number_at image (cell_place n x)
told-at image links n [] x is told = absurd (true≢false (sym is))
told-at image links n (y ∷ path) x is told = elim (or_cases (x == y) (is_among x path) is) [
  | inl here ↦ let same : x ≡ y = eqb-true x y here in rw same (sym told.0)
  | inr later ↦ told-at image links n path x later told.1
]

pub Claiming-linked : (start now : Cells) (image : Option (List ℕ)) (first count cell : ℕ) → length start.used ≡ 2 * start.cells → Claiming start now image first count cell → IfSome image (λ image. AreLinkedIn start image → AreLinkedIn now image)
Claiming-linked start now None first count cell used_size c = tt
Claiming-linked start now (Some image) first count cell used_size c = λ linked. record {
  each = λ x is.
      let within = path-inside (link_in now.links) (2 * start.cells) first c.path cell c.is in
      let parts : (is_marked start.used x || is_among x c.path) ≡ true = sym (marked-with (2 * start.cells) start.used c.path x used_size within) ∙ (ap (λ (used : List Bool). is_marked used x) (sym c.used) ∙ is) in
      let there : slice_index now.links x ≡ number_at image (cell_place start.cells x) = elim (or_cases (is_marked start.used x) (is_among x c.path) parts) [
        | inl before ↦ c.stay x before ∙ linked.each x before
        | inr now_is ↦ told-at image now.links start.cells c.path x now_is c.told
      ] in
      subst (λ (n : ℕ). slice_index now.links x ≡ number_at image (cell_place n x)) (sym c.cells) there;
}
