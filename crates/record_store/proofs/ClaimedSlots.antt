-- The chains of all slots, claimed one after another: there is a store where each one is.
use Rattle.std.proofs.Common.{◌≡◌, ℕ, zero, suc, ◌+◌, ◌*◌, ◌<◌, ◌≤◌, ◌||◌, Bool, true, false, List, [], ◌∷◌, ◌++◌, length, take, drop, get_or, replicate, flat_map, nat_le, Option, Some, None, IsSome, sym, refl, ap, ◌∙◌, arith, subst, true≢false, leb-true, length-append, append-nil, add-zero}
use Rattle.std.specs.List.{AllByRecursion, list_all}
use Rattle.std.proofs.lemmas.Bool.{and_parts, false_from_ne_true}
use Rattle.std.proofs.lemmas.Bool.Decides.{nat_tests}
use Rattle.std.proofs.lemmas.Grind.{flat_map-append}
use Rattle.std.proofs.lemmas.List.{get_or_default, same_lists, drop_more, take_more, length-replicate, take-append-drop}
use Rattle.std.proofs.lemmas.Option.{same_Some}
use Rattle.eeprom.specs.StoreOf.{longest_chain, chain_of, chains_of, is_record, slots_at, is_distinct}
use Rattle.cell_store.specs.Cells.{Cells, IsInRange, all_free, link_in, AreLinkedIn}
use Rattle.cell_store.specs.Chains.{AreLinked, AreFree, link_of, is_among, with_marked}
use Rattle.cell_store.specs.Marks.{is_marked}
use Rattle.cell_store.proofs.Among.{among-append, distinct-join}
use Rattle.eeprom.proofs.Chains.{chains-parts}
use Rattle.cell_store.proofs.Claiming.{free-parts, free-join}
use Rattle.cell_store.proofs.Linking.{chain-linked, linked-inside}
use Rattle.cell_store.proofs.Marking.{marked-with, with_marked-append, length-with_marked}
use Rattle.cell_store.specs.Claims.{TakesChain}
use Rattle.record_store.specs.Opening.{ClaimedSoFar, TakesSlot}
use Rattle.record_store.specs.Sound.{AreChains, Claimed, cells_in}
use Rattle.record_store.proofs.Sides.{all-among, among-all, not-among-all, chains-stay}
use Rattle.record_store.proofs.Weights.{slots-chains, some-slots}

chain-inside : (image : List ℕ) (n first : ℕ) (chain : List ℕ) → chain_of image n (2 * n) first ≡ Some chain → AllByRecursion (λ cell. cell < 2 * n) chain
chain-inside image n first chain of = linked-inside (link_of image n) (2 * n) first chain (chain-linked image n (2 * n) first chain of)

-- the chain from this cell on has a record, or no cell, and its cells are free
pub record IsFreeRecord (image : List ℕ) (n first : ℕ) (marks : List Bool) (chain : List ℕ) : Type 0 where
  pub of : chain_of image n (2 * n) first ≡ Some chain
  pub is : is_record image n chain ≡ true
  pub free : AreFree marks chain

-- there is such a chain of so many cells, which are marked now
pub record ClaimsRecord (n first : ℕ) (old new : List Bool) (count : ℕ) (image : List ℕ) : Type 0 where
  pub chain : List ℕ
  pub there : IsFreeRecord image n first old chain
  pub cells : length chain ≡ count
  pub marks : new ≡ with_marked old chain

-- the chains of these slots can be claimed, where so many cells were claimed before
pub record CanClaim (image : List ℕ) (n : ℕ) (marks : List Bool) (total : ℕ) (firsts : List ℕ) : Type 0 where
  pub chains : List (List ℕ)
  pub of : chains_of image n firsts ≡ Some chains
  pub records : list_all (is_record image n) chains ≡ true
  pub free : AreFree marks (flat_map (λ (chain : List ℕ). chain) chains)
  pub few : total + length (flat_map (λ (chain : List ℕ). chain) chains) ≤ n

-- that of the first slot, and then the others
record ClaimsFirst (image : List ℕ) (n : ℕ) (marks : List Bool) (total first : ℕ) (rest : List ℕ) : Type 0 where
  chain : List ℕ
  there : IsFreeRecord image n first marks chain
  others : CanClaim image n (with_marked marks chain) (total + length chain) rest

claim-first : (image : List ℕ) (n : ℕ) (marks : List Bool) (total first : ℕ) (rest : List ℕ) → length marks ≡ 2 * n → CanClaim image n marks total (first ∷ rest) → ClaimsFirst image n marks total first rest
claim-first image n marks total first rest size c =
    let parts = chains-parts (chain_of image n (2 * n) first) (chains_of image n rest) c.chains c.of in
    let cells = flat_map (λ (chain : List ℕ). chain) parts.1 in
    let tests = and_parts (is_record image n parts.0) (list_all (is_record image n) parts.1) (rw (parts.4) at c.records) in
    let whole : AreFree marks (parts.0 ++ cells) = subst (λ (chains : List (List ℕ)). AreFree marks (flat_map (λ (chain : List ℕ). chain) chains)) parts.4 c.free in
    let free = free-parts marks (2 * n) parts.0 cells size (chain-inside image n first parts.0 parts.2) whole in
    let count : length (flat_map (λ (chain : List ℕ). chain) c.chains) ≡ length parts.0 + length cells = ap (λ (chains : List (List ℕ)). length (flat_map (λ (chain : List ℕ). chain) chains)) parts.4 ∙ length-append parts.0 cells in
    record {
      chain = parts.0;
      there = record { of = parts.2; is = tests.0; free = free.0 };
      others = record { chains = parts.1; of = parts.3; records = tests.1; free = free.1; few = omega (arith, count, c.few) };
    }

claim-more : (image : List ℕ) (n : ℕ) (marks : List Bool) (total first : ℕ) (rest chain : List ℕ) → length marks ≡ 2 * n → IsFreeRecord image n first marks chain → CanClaim image n (with_marked marks chain) (total + length chain) rest → CanClaim image n marks total (first ∷ rest)
claim-more image n marks total first rest chain size there others =
    let cells = flat_map (λ (chain : List ℕ). chain) others.chains in
    record {
      chains = chain ∷ others.chains;
      of = rw (there.of, others.of) refl;
      records = rw (there.is, others.records) refl;
      free = free-join marks (2 * n) chain cells size (chain-inside image n first chain there.of) there.free others.free;
      few = omega (arith, length-append chain cells, others.few);
    }

claim-slots : (image : List ℕ) (n : ℕ) (marks : List Bool) (total : ℕ) (firsts : List ℕ) → CanClaim image n marks total firsts → IsSome (slots_at image n firsts)
claim-slots image n marks total firsts c =
    let cells = flat_map (λ (chain : List ℕ). chain) c.chains in
    let most : nat_le (length cells) n ≡ true = grind (arith, nat_tests, c.few) in
    rw (c.of, c.records, c.free.distinct, most) refl

pub none-marked : (m cell : ℕ) → is_marked (replicate m false) cell ≡ false
none-marked zero cell = refl
none-marked (suc m) zero = refl
none-marked (suc m) (suc cell) = none-marked m cell

all-free : (m : ℕ) (cells : List ℕ) → AllByRecursion (λ cell. is_marked (replicate m false) cell ≡ false) cells
all-free m [] = tt
all-free m (cell ∷ cells) = (none-marked m cell, all-free m cells)

slots-claim : (image : List ℕ) (n m : ℕ) (firsts : List ℕ) → IsSome (slots_at image n firsts) → CanClaim image n (replicate m false) 0 firsts
slots-claim image n m firsts there =
    let slots = some-slots (slots_at image n firsts) there in
    let c = slots-chains image n firsts slots.0 slots.1 in
    let cells = flat_map (λ (chain : List ℕ). chain) c.chains in
    let tests = and_parts (is_distinct cells) (nat_le (length cells) n) c.apart in
    record { chains = c.chains; of = c.of; records = c.records; free = record { free = all-free m cells; distinct = tests.0 }; few = omega (arith, leb-true (length cells) n tests.1) }

-- there are slots just where the chains that are left can be claimed
pub record Claims (n : ℕ) (firsts : List ℕ) (marks : List Bool) (total : ℕ) (left : List ℕ) (image : List ℕ) : Type 0 where
  pub can : IsSome (slots_at image n firsts) → CanClaim image n marks total left
  pub slots : CanClaim image n marks total left → IsSome (slots_at image n firsts)

claims-start : (n m : ℕ) (firsts image : List ℕ) → Claims n firsts (replicate m false) 0 firsts image
claims-start n m firsts image = record { can = slots-claim image n m firsts; slots = claim-slots image n (replicate m false) 0 firsts }

claims-next : (n : ℕ) (firsts : List ℕ) (old new : List Bool) (total count first : ℕ) (rest image : List ℕ) → length old ≡ 2 * n → ClaimsRecord n first old new count image → Claims n firsts old total (first ∷ rest) image → Claims n firsts new (total + count) rest image
claims-next n firsts old new total count first rest image size c before =
    record {
      can = λ there.
          let from = claim-first image n old total first rest size (before.can there) in
          let same : from.chain ≡ c.chain = same_Some _ _ (sym from.there.of ∙ c.there.of) in
          let others = subst (λ (chain : List ℕ). CanClaim image n (with_marked old chain) (total + length chain) rest) same from.others in
          subst (λ (count : ℕ). CanClaim image n new (total + count) rest) c.cells (subst (λ (marks : List Bool). CanClaim image n marks (total + length c.chain) rest) (sym c.marks) others);
      slots = λ others.
          let first_marks = subst (λ (marks : List Bool). CanClaim image n marks (total + count) rest) c.marks others in
          let all = subst (λ (count : ℕ). CanClaim image n (with_marked old c.chain) (total + count) rest) (sym c.cells) first_marks in
          before.slots (claim-more image n old total first rest c.chain size c.there all);
    }

-- the chains of the first slots are claimed
claims-many : (n : ℕ) (firsts : List ℕ) (old : List Bool) (total : ℕ) (xs ys : List ℕ) (chains : List (List ℕ)) (image : List ℕ) → length old ≡ 2 * n → chains_of image n xs ≡ Some chains → list_all (is_record image n) chains ≡ true → AreFree old (cells_in chains)
    → Claims n firsts old total (xs ++ ys) image → Claims n firsts (with_marked old (cells_in chains)) (total + length (cells_in chains)) ys image
claims-many n firsts old total [] ys chains image size of records free before =
    let none : chains ≡ [] = sym (same_Some _ _ of) in
    subst (λ (chains : List (List ℕ)). Claims n firsts (with_marked old (cells_in chains)) (total + length (cells_in chains)) ys image) (sym none) (subst (λ (total : ℕ). Claims n firsts old total ys image) (sym (add-zero total)) before)
claims-many n firsts old total (first ∷ xs) ys chains image size of records free before =
    let parts = chains-parts (chain_of image n (2 * n) first) (chains_of image n xs) chains of in
    let chain : List ℕ = parts.0 in
    let others : List ℕ = cells_in parts.1 in
    let tests = and_parts (is_record image n chain) (list_all (is_record image n) parts.1) (rw (parts.4) at records) in
    let whole : AreFree old (chain ++ others) = subst (λ (chains : List (List ℕ)). AreFree old (cells_in chains)) parts.4 free in
    let frees = free-parts old (2 * n) chain others size (chain-inside image n first chain parts.2) whole in
    let claims : ClaimsRecord n first old (with_marked old chain) (length chain) image = record { chain = chain; there = record { of = parts.2; is = tests.0; free = frees.0 }; cells = refl; marks = refl } in
    let next = claims-next n firsts old (with_marked old chain) total (length chain) first (xs ++ ys) image size claims before in
    let rest = claims-many n firsts (with_marked old chain) (total + length chain) xs ys parts.1 image (length-with_marked old chain ∙ size) parts.3 tests.1 frees.1 next in
    let marks : with_marked (with_marked old chain) others ≡ with_marked old (cells_in chains) = sym (with_marked-append old chain others) ∙ ap (λ (chains : List (List ℕ)). with_marked old (cells_in chains)) (sym parts.4) in
    let count : (total + length chain) + length others ≡ total + length (cells_in chains) = omega (arith, length-append chain others, ap (λ (chains : List (List ℕ)). length (cells_in chains)) parts.4) in
    subst (λ (total : ℕ). Claims n firsts (with_marked old (cells_in chains)) total ys image) count (subst (λ (marks : List Bool). Claims n firsts marks ((total + length chain) + length others) ys image) marks rest)

none-unless : {X : Type 0} (o : Option X) → ¬ (IsSome o) → o ≡ None
none-unless None wrong = refl
none-unless (Some x) wrong = absurd (wrong refl)

-- one that can't be claimed, or one cell too many, and there are none
pub claims-refused : (n : ℕ) (firsts : List ℕ) (marks : List Bool) (total k : ℕ) (image : List ℕ) → length marks ≡ 2 * n → k < length firsts → ((chain : List ℕ) → chain_of image n (2 * n) (get_or firsts k 0) ≡ Some chain → is_record image n chain ≡ true → ¬ (AreFree marks chain))
    → Claims n firsts marks total (drop k firsts) image → slots_at image n firsts ≡ None
claims-refused n firsts marks total k image size inside none before = none-unless (slots_at image n firsts) (λ there.
    let can = subst (λ (left : List ℕ). CanClaim image n marks total left) (drop_more firsts k 0 inside) (before.can there) in
    let first = claim-first image n marks total (get_or firsts k 0) (drop (k + 1) firsts) size can in
    none first.chain first.there.of first.there.is first.there.free)

pub claims-over : (n : ℕ) (firsts : List ℕ) (old new : List Bool) (total count k : ℕ) (image : List ℕ) → length old ≡ 2 * n → k < length firsts → n < total + count → ClaimsRecord n (get_or firsts k 0) old new count image → Claims n firsts old total (drop k firsts) image → slots_at image n firsts ≡ None
claims-over n firsts old new total count k image size inside over c before = none-unless (slots_at image n firsts) (λ there.
    let left = subst (λ (left : List ℕ). Claims n firsts old total left image) (drop_more firsts k 0 inside) before in
    let next = claims-next n firsts old new total count (get_or firsts k 0) (drop (k + 1) firsts) image size c left in
    absurd (omega (arith, (next.can there).few)))

-- what a claim says of a slot's chain in the image
pub claims-record : (old new : Cells) (first count : ℕ) (octets image : List ℕ) → TakesSlot (Some image) old new first octets count → ClaimsRecord old.cells first old.used new.used count image
claims-record old new first count octets image takes =
    record { chain = takes.chain.chain; there = record { of = takes.told.of; is = takes.told.is; free = takes.chain.free }; cells = takes.chain.count_is; marks = takes.chain.used }

pub claimed-start : (n : ℕ) (firsts : List ℕ) → ClaimedSoFar (all_free n) (take 0 firsts) 0
claimed-start n firsts = record { slots = record { chains = []; has = record { are = tt; distinct = refl; few = omega arith }; used = none-marked (2 * n) }; count_is = refl }

pub cells-more : (chains : List (List ℕ)) (chain : List ℕ) → cells_in (chains ++ chain ∷ []) ≡ cells_in chains ++ chain
cells-more chains chain = flat_map-append (λ (chain : List ℕ). chain) chains (chain ∷ []) ∙ ap (λ (cells : List ℕ). cells_in chains ++ cells) (append-nil chain)

chains-more : (links firsts : List ℕ) (chains : List (List ℕ)) (first : ℕ) (chain : List ℕ) → AreChains links firsts chains → AreLinked (link_in links) (length links) first chain → length chain ≤ longest_chain → AreChains links (firsts ++ first ∷ []) (chains ++ chain ∷ [])
chains-more links [] [] first chain are linked short = (linked, short, tt)
chains-more links [] (x ∷ chains) first chain are linked short = absurd are
chains-more links (x ∷ firsts) [] first chain are linked short = absurd are
chains-more links (x ∷ firsts) (y ∷ chains) first chain are linked short = (are.0, are.1, chains-more links firsts chains first chain are.2 linked short)

inside-chains : (links firsts : List ℕ) (chains : List (List ℕ)) → AreChains links firsts chains → AllByRecursion (λ cell. cell < length links) (cells_in chains)
inside-chains links [] [] are = tt
inside-chains links [] (x ∷ chains) are = absurd are
inside-chains links (x ∷ firsts) [] are = absurd are
inside-chains links (x ∷ firsts) (y ∷ chains) are = joined y (cells_in chains) (linked-inside (link_in links) (length links) x y are.0) (inside-chains links firsts chains are.2)
  where
    joined : (xs ys : List ℕ) → AllByRecursion (λ cell. cell < length links) xs → AllByRecursion (λ cell. cell < length links) ys → AllByRecursion (λ cell. cell < length links) (xs ++ ys)
    joined [] ys a b = b
    joined (x ∷ xs) ys a b = (a.0, joined xs ys a.1 b)

within-claimed : (store : Cells) (firsts : List ℕ) → IsInRange store → (c : Claimed store firsts) → AllByRecursion (λ cell. cell < 2 * store.cells) (cells_in c.chains)
within-claimed store firsts range c = subst (λ (size : ℕ). AllByRecursion (λ cell. cell < size) (cells_in c.chains)) range.links_count (inside-chains store.links firsts c.chains c.has.are)

pub marked-claimed : (store : Cells) (firsts : List ℕ) → (c : Claimed store firsts) → AllByRecursion (λ cell. is_marked store.used cell ≡ true) (cells_in c.chains)
marked-claimed store firsts c = all-among (λ cell. is_marked store.used cell ≡ true) (cells_in c.chains) (λ cell here. c.used cell ∙ here)

-- no cell is in a chain of free cells and in one before it
pub distinct-more : (store : Cells) (firsts chain : List ℕ) → (c : Claimed store firsts) → AreFree store.used chain → is_distinct (cells_in (c.chains ++ chain ∷ [])) ≡ true
distinct-more store firsts chain c free =
    let apart : (cell : ℕ) → is_among cell (cells_in c.chains) ≡ true → is_among cell chain ≡ false = λ cell here.
    false_from_ne_true (is_among cell chain) (λ there. true≢false (sym (c.used cell ∙ here) ∙ among-all (λ cell. is_marked store.used cell ≡ false) chain free.free cell there)) in
    ap is_distinct (cells-more c.chains chain) ∙ distinct-join (cells_in c.chains) chain c.has.distinct free.distinct (not-among-all (cells_in c.chains) chain apart)

pub claimed-more : (old new : Cells) (firsts : List ℕ) (total count k : ℕ) → IsInRange old → k < length firsts → TakesChain old new (get_or firsts k 0) count → total + count ≤ old.cells → ClaimedSoFar old (take k firsts) total → ClaimedSoFar new (take (k + 1) firsts) (total + count)
claimed-more old new firsts total count k range inside takes fits c =
    let chains : List (List ℕ) = c.slots.chains ++ takes.chain ∷ [] in
    let before = chains-stay old.used old.links new.links (take k firsts) c.slots.chains takes.links_count takes.stay (marked-claimed old (take k firsts) c.slots) c.slots.has.are in
    let cells : cells_in chains ≡ cells_in c.slots.chains ++ takes.chain = cells-more c.slots.chains takes.chain in
    let number : length (cells_in chains) ≡ total + count = ap (length {A = ℕ}) cells ∙ (length-append (cells_in c.slots.chains) takes.chain ∙ omega (arith, c.count_is, takes.count_is)) in
    let size : length new.links ≡ 2 * old.cells = takes.links_count ∙ range.links_count in
    let within = subst (λ (size : ℕ). AllByRecursion (λ cell. cell < size) takes.chain) size (linked-inside (link_in new.links) (length new.links) (get_or firsts k 0) takes.chain takes.linked) in
    record {
      slots = record {
        chains = chains;
        has = record {
          are = subst (λ (firsts : List ℕ). AreChains new.links firsts chains) (sym (take_more firsts k 0 inside))
              (chains-more new.links (take k firsts) c.slots.chains (get_or firsts k 0) takes.chain before takes.linked (omega (arith, takes.count_is, takes.short)));
          distinct = distinct-more old (take k firsts) takes.chain c.slots takes.free;
          few = omega (arith, number, fits, takes.cells);
        };
        used = λ cell. ap (λ (used : List Bool). is_marked used cell) takes.used
            ∙ (marked-with (2 * old.cells) old.used takes.chain cell range.used_count within
            ∙ (ap (λ (b : Bool). b || is_among cell takes.chain) (c.slots.used cell)
            ∙ (sym (among-append cell (cells_in c.slots.chains) takes.chain) ∙ ap (is_among cell) (sym cells))));
      };
      count_is = number;
    }

-- the marks of claimed slots are those of their cells alone
marks-claimed : (store : Cells) (firsts : List ℕ) → IsInRange store → (c : Claimed store firsts) → store.used ≡ with_marked (replicate (2 * store.cells) false) (cells_in c.chains)
marks-claimed store firsts range c =
    let none : length (replicate (2 * store.cells) false) ≡ 2 * store.cells = length-replicate (2 * store.cells) false in
    let all : List Bool = with_marked (replicate (2 * store.cells) false) (cells_in c.chains) in
    let size : length store.used ≡ length all = range.used_count ∙ sym (length-with_marked (replicate (2 * store.cells) false) (cells_in c.chains) ∙ none) in
    same_lists store.used all size (λ k d inside.
    get_or_default store.used k d false inside
    ∙ (c.used k
    ∙ (sym (marked-with (2 * store.cells) (replicate (2 * store.cells) false) (cells_in c.chains) k none (within-claimed store firsts range c) ∙ ap (λ (b : Bool). b || is_among k (cells_in c.chains)) (none-marked (2 * store.cells) k))
    ∙ get_or_default all k false d (subst (λ (size : ℕ). k < size) size inside))))

-- the chains of the slots that are left can be claimed just where there are slots
pub claims-so_far : (store : Cells) (firsts : List ℕ) (weight k : ℕ) (image : List ℕ) → IsInRange store → (c : ClaimedSoFar store (take k firsts) weight) → chains_of image store.cells (take k firsts) ≡ Some c.slots.chains → list_all (is_record image store.cells) c.slots.chains ≡ true
    → Claims store.cells firsts store.used weight (drop k firsts) image
claims-so_far store firsts weight k image range c of records =
    let n = store.cells in
    let cells : List ℕ = cells_in c.slots.chains in
    let free : AreFree (replicate (2 * n) false) cells = record { free = all-free (2 * n) cells; distinct = c.slots.has.distinct } in
    let start : Claims n firsts (replicate (2 * n) false) 0 (take k firsts ++ drop k firsts) image = subst (λ (all : List ℕ). Claims n firsts (replicate (2 * n) false) 0 all image) (sym (take-append-drop k firsts)) (claims-start n (2 * n) firsts image) in
    let all = claims-many n firsts (replicate (2 * n) false) 0 (take k firsts) (drop k firsts) c.slots.chains image (length-replicate (2 * n) false) of records free start in
    subst (λ (used : List Bool). Claims n firsts used weight (drop k firsts) image) (sym (marks-claimed store (take k firsts) range c.slots))
    (subst (λ (total : ℕ). Claims n firsts (with_marked (replicate (2 * n) false) cells) total (drop k firsts) image) (omega (arith, c.count_is)) all)

-- what is claimed is linked in the image
pub linked-start : (n : ℕ) (image : List ℕ) → AreLinkedIn (all_free n) image
linked-start n image = record { each = λ cell is. absurd (true≢false (sym is ∙ none-marked (2 * n) cell)) }

pub all_free-range : (n : ℕ) → 16 ≤ n → n ≤ 2048 → IsInRange (all_free n)
all_free-range n few many = record { few = few; many = many; used_count = length-replicate (2 * n) false; links_count = length-replicate (2 * n) 65535 }

pub takes-range : (old new : Cells) (first count : ℕ) → TakesChain old new first count → IsInRange old → IsInRange new
takes-range old new first count takes range = record {
  few = rw (takes.cells) (range.few);
  many = rw (takes.cells) (range.many);
  used_count = rw (takes.cells) (ap (length {A = Bool}) takes.used ∙ (length-with_marked old.used takes.chain ∙ range.used_count));
  links_count = rw (takes.cells) (takes.links_count ∙ range.links_count);
}
