-- A record put into a slot: the store of the image stays, and the slot has the record.
use Rattle.std.proofs.Common.{◌≡◌, ℕ, zero, suc, ◌+◌, ◌*◌, ◌<◌, ◌≤◌, ◌==◌, ◌&&◌, ◌||◌, not, Bool, true, false, cond, List, [], ◌∷◌, ◌++◌, length, take, drop, set, get_or, map, slice_index, slice_range, sum_by, nat_le, Option, Some, None, IsSome, IfSome, option_map, sym, refl, ap, ◌∙◌, arith, subst, le-leb, get_or-take, take-take, length-append}
use Rattle.std.specs.List.{list_all}
use Rattle.std.proofs.lemmas.Bool.{and_parts}
use Rattle.std.proofs.lemmas.List.{drop-take, length-map}
use Rattle.std.proofs.lemmas.Option.{same_Some}
use Rattle.std.proofs.lemmas.List.Sums.{sum_by-cons, sum_by-set}
use Rattle.eeprom.specs.Chip.{Chip, Keeps}
use Rattle.eeprom.specs.StoreOf.{longest_chain, Slots, chain_of, chains_of, cells_for, cells_of, is_record, slot_of, slots_at, are_apart, is_gate_open, written_directory, store_of}
use Rattle.cell_store.specs.Cells.{cells_from, link_in, AreLinkedIn}
use Rattle.cell_store.specs.Chains.{AreLinked, is_among, steps}
use Rattle.cell_store.specs.Claims.{TakesChain}
use Rattle.cell_store.specs.Marks.{StaysMarked, is_marked, marked, unmarked}
use Rattle.cell_store.specs.Placed.{Keeping, KeepsMarked}
use Rattle.cell_store.specs.Writing.{IsWritten}
use Rattle.cell_store.proofs.Among.{among-append}
use Rattle.cell_store.proofs.Cells.{Keeping-same}
use Rattle.eeprom.proofs.Chains.{cells-chain, chains-parts}
use Rattle.cell_store.proofs.Linking.{steps-end}
use Rattle.cell_store.proofs.Marking.{marked-all, unmarked-set}
use Rattle.cell_store.proofs.Placements.{nowhere}
use Rattle.eeprom.proofs.Regions.{SameFront, same-magic, same-cells, same-header, same-limit, numbers-agree}
use Rattle.record_store.specs.Held.{Held, BeginsAs, StandsFor, AreKept, firsts, contents, with_limit, tags_of}
use Rattle.record_store.specs.Put.{IsPut, emptied, weight_with, IsFull, IsWithin}
use Rattle.record_store.specs.Slots.{steps_without}
use Rattle.record_store.specs.Sound.{IsSound, AreChains, cells_in}
use Rattle.record_store.specs.Tags.{Tags, SideTags, AreTags, with_tags}
use Rattle.record_store.specs.declared.side.Side.{Side}
use Rattle.record_store.specs.declared.side.Side.TheVariants.{Committed, Working}
use Rattle.record_store.proofs.FirstOctets.{both-sides, octets-same, octets-emptied, octets-put, first-free, side-apart, slots-count}
use Rattle.record_store.proofs.Keeping.{keeps-leaves}
use Rattle.record_store.proofs.Replacing.{marked-chains, all-marked-same, replaced}
use Rattle.record_store.proofs.SameSlots.{slots-same}
use Rattle.record_store.proofs.SlotTags.{PutsTag, tags-same, tags-emptied, tags-put}
use Rattle.record_store.proofs.Sides.{put_into, small-links, length-put, length-chains}
use Rattle.record_store.proofs.Weights.{store-begins, side-chains, told-chains, chains-told, some-slots, header-room, walk-chains, walk-without}

-- the front of an image that keeps all before the cells
front-same : (marks : List Bool) (n : ℕ) (left was : List ℕ) → Keeping marks n left was → SameFront left was
front-same marks n left was keeping = record { size = keeping.size; front = shorter 8 (omega arith); behind_gate = between left ∙ (ap (drop 9) (shorter 32 (omega arith)) ∙ sym (between was)) }
  where
    shorter : (k : ℕ) → k ≤ 34 + 6 * n → take k left ≡ take k was
    shorter k within = sym (take-take k (34 + 6 * n) left within) ∙ ap (λ (xs : List ℕ). take k xs) keeping.front ∙ take-take k (34 + 6 * n) was within

    between : (image : List ℕ) → slice_range image 9 32 ≡ drop 9 (take 32 image)
    between image = sym (drop-take 9 23 image)

octet-same : (marks : List Bool) (n : ℕ) (left was : List ℕ) (k : ℕ) → Keeping marks n left was → k < 34 + 6 * n → slice_index left k ≡ slice_index was k
octet-same marks n left was k keeping inside = sym (get_or-take (34 + 6 * n) left k 0 inside) ∙ ap (λ (xs : List ℕ). get_or xs k 0) keeping.front ∙ get_or-take (34 + 6 * n) was k 0 inside

gate-same : (marks : List Bool) (n : ℕ) (left was : List ℕ) → Keeping marks n left was → is_gate_open left ≡ is_gate_open was
gate-same marks n left was keeping = rw (octet-same marks n left was 8 keeping (omega arith)) refl

directory-same : (marks : List Bool) (n : ℕ) (left was : List ℕ) → Keeping marks n left was → written_directory left n ≡ written_directory was n
directory-same marks n left was keeping = numbers-agree left was 32 n (λ k from below. octet-same marks n left was k keeping (omega arith))

-- so it begins as it did
begins-same : (marks : List Bool) (n limit : ℕ) (first_cells left was : List ℕ) → Keeping marks n left was → BeginsAs n limit first_cells was → BeginsAs n limit first_cells left
begins-same marks n limit first_cells left was keeping begins =
    let front = front-same marks n left was keeping in
    record {
      front = same-magic left was front ∙ begins.front;
      header = same-header left was front ∙ begins.header;
      cells = same-cells left was front ∙ begins.cells;
      rows = same-limit left was front ∙ begins.rows;
      closed = gate-same marks n left was keeping ∙ begins.closed;
      directory = directory-same marks n left was keeping ∙ begins.directory;
    }

-- an image that keeps the used cells has the same records on each side
side-kept : (held : Held) (side : Side) (left was : List ℕ) → IsSound held → StandsFor held was → IsSome (contents held side was) → Keeping held.chains.used held.chains.cells left was → contents held side left ≡ contents held side was
side-kept held side left was sound stands there keeping =
    let n = held.chains.cells in
    let s = side-chains held side sound in
    let slots = some-slots (contents held side was) there in
    let told = told-chains held was (firsts held side) s.chains slots.0 sound stands s.has s.marked slots.1 in
    slots-same left was n (firsts held side) slots.0 s.chains sound.range.many told.of told.records told.apart told.is
    (all-marked-same held.chains.used n left was s.chains keeping (marked-chains held.chains.used s.chains s.marked)) ∙ sym slots.1

pub store-kept : (held : Held) (left was : List ℕ) → IsSound held → StandsFor held was → Keeping held.chains.used held.chains.cells left was → store_of left ≡ store_of was
store-kept held left was sound stands keeping =
    let n = held.chains.cells in
    store-begins n held.row_limit held.committed left (begins-same held.chains.used n held.row_limit held.committed left was keeping stands.begins)
    ∙ (ap (with_limit held.row_limit) (side-kept held Committed left was sound stands stands.committed keeping) ∙ sym (store-begins n held.row_limit held.committed was stands.begins))

pub keeps-store : (held : Held) (marks : List Bool) (n : ℕ) (old new : Chip) → n ≡ held.chains.cells → marks ≡ held.chains.used → IsSound held → IfSome old.image (StandsFor held) → KeepsMarked marks n old new → Keeps store_of old new
keeps-store held marks n old new cells used sound stands keeps =
    let keeping_is : (left was : List ℕ) → Keeping marks n left was → Keeping held.chains.used held.chains.cells left was =
    λ left was keeping. subst (λ (n : ℕ). Keeping held.chains.used n left was) cells (subst (λ (marks : List Bool). Keeping marks n left was) used keeping) in
    let kept : (left was : List ℕ) → old.image ≡ Some was → Keeping marks n left was → store_of left ≡ store_of was =
    λ left was told keeping. store-kept held left was sound (rw told at stands) (keeping_is left was keeping) in
    keeps-leaves store_of (λ was left. Keeping marks n left was) old new keeps.still (λ was left told keeping. kept left was told keeping) keeps.moments

-- one slot has another chain, and the others are as they were
refilled : (held next : Held) (slot first : ℕ) (chain was now : List ℕ) (slots : Slots) → IsSound held → IsSound next → next.chains.cells ≡ held.chains.cells → firsts next Working ≡ set (firsts held Working) slot first → StandsFor held was → AreLinkedIn next.chains now
    → Keeping held.chains.used held.chains.cells now was → slot < length (firsts held Working) → chain_of now held.chains.cells (2 * held.chains.cells) first ≡ Some chain → is_record now held.chains.cells chain ≡ true → contents held Working was ≡ Some slots
    → contents next Working now ≡ Some (set slots slot (slot_of now held.chains.cells chain))
refilled held next slot first chain was now slots sound next_sound same_cells same_firsts stands links keeping inside of is there =
    let n = held.chains.cells in
    let s = side-chains held Working sound in
    let told = told-chains held was (firsts held Working) s.chains slots sound stands s.has s.marked there in
    let r = replaced held.chains.used now was n (firsts held Working) s.chains slot first chain sound.range.many keeping inside told.of told.records (marked-chains held.chains.used s.chains s.marked) of is in
    let t = side-chains next Working next_sound in
    let next_of = chains-told now next.chains.cells next.chains.used next.chains.links (firsts next Working) t.chains next_sound.range.few next_sound.range.many next_sound.range.links_count links t.marked t.has.few t.has.are in
    let same : t.chains ≡ set s.chains slot chain = same_Some _ _ (sym next_of ∙ (ap (λ (n : ℕ). chains_of now n (firsts next Working)) same_cells ∙ (ap (λ (firsts : List ℕ). chains_of now n firsts) same_firsts ∙ r.of))) in
    let few : nat_le (length (cells_in t.chains)) n ≡ true = le-leb (length (cells_in t.chains)) n (subst (λ (n : ℕ). length (cells_in t.chains) ≤ n) same_cells t.has.few) in
    let apart : are_apart n t.chains ≡ true = rw (t.has.distinct, few) refl in
    let apart_set : are_apart n (set s.chains slot chain) ≡ true = rw same at apart in
    ap (λ (n : ℕ). slots_at now n (firsts next Working)) same_cells ∙ (ap (λ (firsts : List ℕ). slots_at now n firsts) same_firsts
    ∙ rw (r.of, r.records, apart_set, r.slots) (ap (λ (slots : Slots). Some (set slots slot (slot_of now n chain))) (sym told.is)))

pub set-again : {A : Type 0} (xs : List A) (i : ℕ) (a b : A) → set (set xs i a) i b ≡ set xs i b
set-again [] i a b = refl
set-again (x ∷ xs) zero a b = refl
set-again (x ∷ xs) (suc i) a b = ap (λ (rest : List _). x ∷ rest) (set-again xs i a b)

-- a slot that is emptied has no record, and the image is the store's still
pub record StandsEmptied (held : Held) (slot : ℕ) (used : List Bool) (image : List ℕ) : Type 0 where
  pub stands : StandsFor (emptied held slot used) image
  pub committed : contents (emptied held slot used) Committed image ≡ contents held Committed image
  pub working : contents (emptied held slot used) Working image ≡ option_map (λ slots. set slots slot None) (contents held Working image)

pub stands-emptied : (held : Held) (slot : ℕ) (used : List Bool) (image : List ℕ) → IsSound held → IsSound (emptied held slot used) → held.begun ≡ true → slot < held.chains.cells → StaysMarked used held.chains.used → StandsFor held image → StandsEmptied held slot used image
stands-emptied held slot used image sound next_sound begun inside fewer stands =
    let n = held.chains.cells in
    let slots = some-slots (contents held Working image) stands.working in
    let working_is : firsts held Working ≡ held.working = rw begun refl in
    let next_is : firsts (emptied held slot used) Working ≡ set (firsts held Working) slot 65535 = rw begun refl in
    let within : slot < length (firsts held Working) = rw working_is (omega (arith, inside, sound.working_count)) in
    let links : AreLinkedIn (record held.chains { used = used }) image = record { each = λ cell is. stands.links.each cell (fewer cell is) } in
    let there : contents (emptied held slot used) Working image ≡ Some (set slots.0 slot None) =
    refilled held (emptied held slot used) slot 65535 [] image image slots.0 sound next_sound refl next_is stands links (Keeping-same held.chains.used n image) within (nowhere image n (2 * n)) refl slots.1 in
    record {
      stands = record {
        begins = stands.begins;
        links = links;
        committed = stands.committed;
        working = subst (λ (o : Option Slots). IsSome o) (sym there) refl;
        committed_octets = stands.committed_octets;
        committed_tags = stands.committed_tags;
        working_tags = tags-same (tags_of held Working) (Some (set slots.0 slot None)) (contents (emptied held slot used) Working image) there
            (tags-emptied (tags_of held Working) slots.0 slot (omega (arith, within, slots-count image n (firsts held Working) slots.0 slots.1)) (subst (AreTags (tags_of held Working)) slots.1 stands.working_tags));
        working_octets = both-sides held.first_octets (set (firsts held Working) slot 65535) (firsts (emptied held slot used) Working) (Some (set slots.0 slot None)) (contents (emptied held slot used) Working image) next_is there
            (octets-emptied held.first_octets (firsts held Working) slots.0 slot within (slots-count image n (firsts held Working) slots.0 slots.1) (subst (AreKept held.first_octets (firsts held Working)) slots.1 stands.working_octets));
      };
      committed = refl;
      working = there ∙ ap (λ (o : Option Slots). option_map (λ slots. set slots slot None) o) (sym slots.1);
    }

-- the first octet of a record is kept for a cell, and its tag for its slot
pub record PutsOctet (held : Held) (slot first : ℕ) (octets kept : List ℕ) (tags : Tags) : Type 0 where
  pub inside : first < 2 * held.chains.cells
  pub kept_is : kept ≡ set held.first_octets first (slice_index octets 0)
  pub tag : PutsTag held.tags slot octets tags

pub long-chain : (links : List ℕ) (first : ℕ) (chain : List ℕ) → first < 65535 → AreLinked (link_in links) (length links) first chain → 1 ≤ length chain
long-chain links first [] some linked = absurd (omega (arith, some, linked))
long-chain links first (cell ∷ chain) some linked = omega arith

-- a record is put into a slot that is empty
pub put-done : (held : Held) (slot first count : ℕ) (used : List Bool) (links kept : List ℕ) (tags : Tags) (octets was now : List ℕ) → IsSound held → IsSound (put_into held slot first used links kept tags) → PutsOctet held slot first octets kept tags → held.begun ≡ true → slot < held.chains.cells → StandsFor held was
    → TakesChain held.chains (cells_from held.chains.cells used links) first count → IsWritten held.chains (cells_from held.chains.cells used links) first octets was now → IsPut held (put_into held slot first used links kept tags) slot octets was now
put-done held slot first count used links kept tags octets was now sound next_sound puts begun inside stands takes w =
    let n = held.chains.cells in
    let next : Held = put_into held slot first used links kept tags in
    let slots = some-slots (contents held Working was) stands.working in
    let working_is : firsts held Working ≡ held.working = rw begun refl in
    let next_is : firsts next Working ≡ set (firsts held Working) slot first = rw begun refl in
    let within : slot < length (firsts held Working) = rw working_is (omega (arith, inside, sound.working_count)) in
    let reads = w.reads takes.chain takes.linked in
    let linked = w.links stands.links in
    let there = refilled held next slot first takes.chain was now slots.0 sound next_sound refl next_is stands linked w.keeping within reads.0.of reads.0.is slots.1 in
    let some : first < 65535 = omega (arith, puts.inside, sound.range.many) in
    let free = first-free links held.chains.used first takes.chain takes.linked takes.free (long-chain links first takes.chain some takes.linked) in
    let working : contents next Working now ≡ Some (set slots.0 slot (Some octets)) = there ∙ ap (λ (entry : Option (List ℕ)). Some (set slots.0 slot entry)) reads.1 in
    let committed = side-kept held Committed now was sound stands stands.committed w.keeping in
    let tags_are : tags_of held Working ≡ held.tags.working = rw begun refl in
    let tags_next : tags_of next Working ≡ with_tags held.tags.working slot octets = rw begun (ap (λ (tags : Tags). tags.working) puts.tag.is) in
    record {
      stands = record {
        begins = begins-same held.chains.used n held.row_limit held.committed now was w.keeping stands.begins;
        links = linked;
        committed = subst (λ (o : Option Slots). IsSome o) (sym committed) stands.committed;
        working = subst (λ (o : Option Slots). IsSome o) (sym working) refl;
        committed_tags = subst (λ (tags : Tags). AreTags tags.committed (contents next Committed now)) (sym puts.tag.is) (tags-same held.tags.committed (contents held Committed was) (contents next Committed now) committed stands.committed_tags);
        working_tags = tags-same (tags_of next Working) (Some (set slots.0 slot (Some octets))) (contents next Working now) working
            (subst (λ (tags : SideTags). AreTags tags (Some (set slots.0 slot (Some octets)))) (sym tags_next)
            (tags-put held.tags.working slots.0 slot octets puts.tag.names puts.tag.stamps (omega (arith, within, slots-count was n (firsts held Working) slots.0 slots.1)) (subst (λ (tags : SideTags). AreTags tags (Some slots.0)) tags_are (subst (AreTags (tags_of held Working)) slots.1 stands.working_tags))));
        committed_octets = subst (λ (kept : List ℕ). AreKept kept held.committed (contents next Committed now)) (sym puts.kept_is)
            (octets-same held.first_octets held.committed (contents held Committed was) (contents next Committed now) first (slice_index octets 0) (side-apart held Committed first sound free.0 some) committed stands.committed_octets);
        working_octets = subst (λ (kept : List ℕ). AreKept kept (firsts next Working) (contents next Working now)) (sym puts.kept_is)
            (both-sides (set held.first_octets first (slice_index octets 0)) (set (firsts held Working) slot first) (firsts next Working) (Some (set slots.0 slot (Some octets))) (contents next Working now) next_is working
            (octets-put held.first_octets (firsts held Working) slots.0 slot first (slice_index octets 0) octets within (slots-count was n (firsts held Working) slots.0 slots.1) (omega (arith, puts.inside, sound.octets_count)) some refl
            (side-apart held Working first sound free.0 some) (subst (AreKept held.first_octets (firsts held Working)) slots.1 stands.working_octets)));
      };
      committed = committed;
      working = working ∙ ap (λ (o : Option Slots). option_map (λ slots. set slots slot (Some octets)) o) (sym slots.1);
    }

-- both, one after the other
pub put-emptied : (held : Held) (slot first count : ℕ) (less used : List Bool) (links kept : List ℕ) (tags : Tags) (octets was now : List ℕ) → IsSound held → IsSound (emptied held slot less) → IsSound (put_into (emptied held slot less) slot first used links kept tags) → PutsOctet held slot first octets kept tags → held.begun ≡ true → slot < held.chains.cells → StaysMarked less held.chains.used
    → StandsFor held was → TakesChain (emptied held slot less).chains (cells_from held.chains.cells used links) first count → IsWritten (emptied held slot less).chains (cells_from held.chains.cells used links) first octets was now
    → IsPut held (put_into (emptied held slot less) slot first used links kept tags) slot octets was now
put-emptied held slot first count less used links kept tags octets was now sound mid_sound next_sound puts begun inside fewer stands takes w =
    let e = stands-emptied held slot less was sound mid_sound begun inside fewer stands in
    let p = put-done (emptied held slot less) slot first count used links kept tags octets was now mid_sound next_sound (record { inside = puts.inside; kept_is = puts.kept_is; tag = puts.tag }) begun inside e.stands takes w in
    record {
      stands = p.stands;
      committed = p.committed ∙ e.committed;
      working = p.working ∙ (ap (λ (o : Option Slots). option_map (λ slots. set slots slot (Some octets)) o) e.working ∙ again (contents held Working was));
    }
  where
    again : (o : Option Slots) → option_map (λ (slots : Slots). set slots slot (Some octets)) (option_map (λ (slots : Slots). set slots slot None) o) ≡ option_map (λ (slots : Slots). set slots slot (Some octets)) o
    again None = refl
    again (Some slots) = ap (λ (slots : Slots). Some slots) (set-again slots slot None (Some octets))

-- what the working records weigh with one in a slot
weight-put : (held : Held) (slot : ℕ) (octets image : List ℕ) (slots : Slots) → IsSound held → held.begun ≡ true → StandsFor held image → slot < held.chains.cells → contents held Working image ≡ Some slots
    → weight_with slot octets slots ≡ steps_without held.chains.links held.working slot + cells_for (length octets)
weight-put held slot octets image slots sound begun stands inside there =
    let n = held.chains.cells in
    let working_is : firsts held Working ≡ held.working = rw begun refl in
    let k = sound.sides in
    let s = side-chains held Working sound in
    let told = told-chains held image (firsts held Working) s.chains slots sound stands s.has s.marked there in
    let are : AreChains held.chains.links held.working s.chains = subst (λ (firsts : List ℕ). AreChains held.chains.links firsts s.chains) working_is s.has.are in
    let within : slot < length s.chains = omega (arith, inside, length-chains held.chains.links held.working s.chains are, sound.working_count) in
    let count : length slots ≡ length s.chains = ap (length {A = Option (List ℕ)}) told.is ∙ length-map s.chains (slot_of image n) in
    let change = sum_by-set cells_of slots slot (Some octets) None (omega (arith, count, within)) in
    let own = chain-cells image n held.working s.chains slot (header-room image n stands.begins.header stands.begins.cells) (subst (λ (firsts : List ℕ). chains_of image n firsts ≡ Some s.chains) working_is told.of) told.records in
    let own_is : cells_of (get_or slots slot None) ≡ length (get_or s.chains slot []) = ap (λ (slots : Slots). cells_of (get_or slots slot None)) told.is ∙ own in
    let walk = walk-without held.chains.links held.working s.chains slot (small-links held sound) (omega (arith, inside, sound.working_count)) are in
    let less = length-put s.chains slot [] within in
    omega (arith, change, own_is, walk, less, told.weight)
  where
    chain-cells : (image : List ℕ) (n : ℕ) (firsts : List ℕ) (chains : List (List ℕ)) (slot : ℕ) → 70 * n + 34 ≤ length image → chains_of image n firsts ≡ Some chains → list_all (is_record image n) chains ≡ true → cells_of (get_or (map (slot_of image n) chains) slot None) ≡ length (get_or chains slot [])
    chain-cells image n [] chains slot room h records = let e : chains ≡ [] = sym (same_Some _ _ h) in rw e refl
    chain-cells image n (first ∷ rest) chains slot room h records =
        let parts = chains-parts (chain_of image n (2 * n) first) (chains_of image n rest) chains h in
        let tests = and_parts (is_record image n parts.0) (list_all (is_record image n) parts.1) (rw (parts.4) at records) in
        rw (parts.4) (at-slot slot parts.0 parts.1 (cells-chain image n first parts.0 room parts.2 tests.0).1 (λ slot. chain-cells image n rest parts.1 slot room parts.3 tests.1))
      where
        at-slot : (slot : ℕ) (chain : List ℕ) (chains : List (List ℕ)) → length chain ≡ cells_of (slot_of image n chain) → ((slot : ℕ) → cells_of (get_or (map (slot_of image n) chains) slot None) ≡ length (get_or chains slot []))
            → cells_of (get_or (map (slot_of image n) (chain ∷ chains)) slot None) ≡ length (get_or (chain ∷ chains) slot [])
        at-slot zero chain chains here rest = sym here
        at-slot (suc slot) chain chains here rest = rest slot

told-weight : (held : Held) (slot : ℕ) (octets image : List ℕ) (P : ℕ → Type 0) → IsSound held → held.begun ≡ true → StandsFor held image → slot < held.chains.cells → P (steps_without held.chains.links held.working slot + cells_for (length octets))
    → (o : Option Slots) → contents held Working image ≡ o → IfSome o (λ slots. P (weight_with slot octets slots))
told-weight held slot octets image P sound begun stands inside p None e = tt
told-weight held slot octets image P sound begun stands inside p (Some slots) e = subst P (sym (weight-put held slot octets image slots sound begun stands inside e)) p

pub put-within : (held : Held) (slot weight : ℕ) (octets : List ℕ) (image : Option (List ℕ)) → IsSound held → held.begun ≡ true → IfSome image (StandsFor held) → slot < held.chains.cells → weight ≡ steps_without held.chains.links held.working slot → weight + cells_for (length octets) ≤ held.chains.cells
    → IfSome image (IsWithin held slot octets)
put-within held slot weight octets None sound begun stands inside is fits = tt
put-within held slot weight octets (Some image) sound begun stands inside is fits =
    told-weight held slot octets image (λ w. w ≤ held.chains.cells) sound begun stands inside (omega (arith, is, fits)) (contents held Working image) refl

pub put-over : (held : Held) (slot weight : ℕ) (octets : List ℕ) (image : Option (List ℕ)) → IsSound held → held.begun ≡ true → IfSome image (StandsFor held) → slot < held.chains.cells → weight ≡ steps_without held.chains.links held.working slot → held.chains.cells < weight + cells_for (length octets)
    → IfSome image (IsFull held (Some slot) octets)
put-over held slot weight octets None sound begun stands inside is over = tt
put-over held slot weight octets (Some image) sound begun stands inside is over =
    told-weight held slot octets image (λ w. held.chains.cells < w) sound begun stands inside (omega (arith, is, over)) (contents held Working image) refl

-- there are enough free cells for it, whatever the image tells
pub count-marked : (cells : List ℕ) (marks : List Bool) → ((cell : ℕ) → is_marked marks cell ≡ true → is_among cell cells ≡ true) → marked marks ≤ length cells
count-marked [] marks among = omega (arith, none marks (λ cell is. among cell is))
  where
    none : (marks : List Bool) → ((cell : ℕ) → is_marked marks cell ≡ true → false ≡ true) → marked marks ≡ 0
    none [] among = refl
    none (true ∷ marks) among = absurd (let wrong : false ≡ true = among 0 refl in cc)
    none (false ∷ marks) among = sum_by-cons (λ (mark : Bool). cond mark 1 0) false marks ∙ rw (none marks (λ cell is. among (suc cell) is)) refl
count-marked (cell ∷ cells) marks among =
    let less = count-marked cells (set marks cell false) (λ x is. rest x is (sym (unmarked-set marks cell x) ∙ is)) in
    omega (arith, less, one-less marks cell)
  where
    and-cases : (a b : Bool) → (a && b) ≡ true → (a ≡ true) × (b ≡ true)
    and-cases true b h = (refl, h)
    and-cases false b h = absurd (cc)

    or-rest : (a b : Bool) → (a || b) ≡ true → not a ≡ true → b ≡ true
    or-rest true b h other = absurd (cc)
    or-rest false b h other = h

    rest : (x : ℕ) → is_marked (set marks cell false) x ≡ true → (is_marked marks x && not (x == cell)) ≡ true → is_among x cells ≡ true
    rest x is both_are =
        let parts = and-cases (is_marked marks x) (not (x == cell)) both_are in
        or-rest (x == cell) (is_among x cells) (among x parts.0) parts.1

    at-most : (mark : Bool) → cond mark 1 0 ≤ 1
    at-most true = omega arith
    at-most false = omega arith

    one-less : (marks : List Bool) (cell : ℕ) → marked marks ≤ marked (set marks cell false) + 1
    one-less [] cell = omega arith
    one-less (mark ∷ marks) zero = omega (arith, sum_by-cons (λ (mark : Bool). cond mark 1 0) mark marks, sum_by-cons (λ (mark : Bool). cond mark 1 0) false marks, at-most mark)
    one-less (mark ∷ marks) (suc cell) = omega (arith, one-less marks cell, sum_by-cons (λ (mark : Bool). cond mark 1 0) mark marks, sum_by-cons (λ (mark : Bool). cond mark 1 0) mark (set marks cell false))

pub walk-emptied : (links firsts : List ℕ) (slot : ℕ) → length links ≤ 65535 → slot < length firsts → sum_by (steps links longest_chain) (set firsts slot 65535) ≡ steps_without links firsts slot
walk-emptied links [] slot few inside = absurd (omega arith)
walk-emptied links (first ∷ firsts) zero few inside = omega (arith, sum_by-cons (steps links longest_chain) 65535 firsts, steps-end links longest_chain 65535 few)
walk-emptied links (first ∷ firsts) (suc slot) few inside =
    let next : suc slot + 1 ≡ suc (slot + 1) = omega arith in
    rw next (omega (arith, sum_by-cons (steps links longest_chain) first (set firsts slot 65535), sum_by-cons (steps links longest_chain) first (take slot firsts), walk-emptied links firsts slot few (omega arith)))

pub record HasRoom (held : Held) (mid : Held) (slot weight : ℕ) (sound : IsSound mid) : Type 0 where
  pub cells : length (cells_in sound.sides.working) ≡ weight
  pub free : held.chains.cells ≤ unmarked mid.chains.used + weight

pub emptied-room : (held : Held) (slot weight : ℕ) (used : List Bool) (sound : IsSound held) (next : IsSound (emptied held slot used)) → held.begun ≡ true → slot < held.chains.cells → weight ≡ steps_without held.chains.links held.working slot → HasRoom held (emptied held slot used) slot weight next
emptied-room held slot weight used sound next begun inside is =
    let k = next.sides in
    let next_is : firsts (emptied held slot used) Working ≡ set held.working slot 65535 = rw begun refl in
    let walk = walk-chains held.chains.links (set held.working slot 65535) k.working (small-links held sound) (subst (λ (firsts : List ℕ). AreChains held.chains.links firsts k.working) next_is k.working_has.are) in
    let emptied_is = walk-emptied held.chains.links held.working slot (small-links held sound) (omega (arith, inside, sound.working_count)) in
    let cells : length (cells_in k.working) ≡ weight = sym walk ∙ (emptied_is ∙ sym is) in
    let few = count-marked (cells_in k.committed ++ cells_in k.working) used (λ cell marked. among-append cell (cells_in k.committed) (cells_in k.working) ∙ (sym (k.used cell) ∙ marked)) in
    record {
      cells = cells;
      free = omega (arith, few, length-append (cells_in k.committed) (cells_in k.working), k.committed_has.few, cells, marked-all used, next.range.used_count);
    }
