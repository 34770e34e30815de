-- The chains of slots: those in memory are the image's, and weigh what their records do.
use Rattle.std.proofs.Common.{◌≡◌, ℕ, zero, suc, ◌+◌, ◌*◌, ◌<◌, ◌≤◌, ◌==◌, ◌&&◌, Bool, true, false, List, [], ◌∷◌, ◌++◌, length, map, set, take, slice_index, nat_le, Option, Some, None, IsSome, option_and_then, if◌then◌else◌, sum_by, sym, refl, ap, ◌∙◌, arith, subst, length-append, leb-true}
use Rattle.std.specs.List.{list_all, AllByRecursion}
use Rattle.std.proofs.lemmas.Bool.{and_parts}
use Rattle.std.proofs.lemmas.Option.{same_Some, none-some}
use Rattle.std.proofs.lemmas.List.Sums.{sum_by-cons}
use Rattle.eeprom.specs.StoreOf.{longest_chain, Slots, Stored, store_of, has_version, chain_of, chains_of, cell_place, number_at, is_record, slot_of, slots_at, are_apart, has_header, cells_of, weight_of}
use Rattle.cell_store.specs.Cells.{cells_from, link_in, AreLinkedIn}
use Rattle.cell_store.specs.Chains.{AreLinked, link_of, steps}
use Rattle.cell_store.specs.Marks.{is_marked}
use Rattle.eeprom.proofs.Chains.{cells-chain, chains-parts}
use Rattle.cell_store.proofs.Linking.{linked-chain, linked-same, steps-linked}
use Rattle.record_store.specs.Held.{Held, BeginsAs, StandsFor, firsts, contents, stored, with_limit}
use Rattle.record_store.specs.Slots.{steps_without}
use Rattle.record_store.specs.Sound.{AreChains, HasChains, IsSound, cells_in}
use Rattle.record_store.specs.declared.side.Side.{Side}
use Rattle.record_store.specs.declared.side.Side.TheVariants.{Committed, Working}
use Rattle.record_store.proofs.Sides.{committed-marked, working-marked, small-links}

-- the chains of slots that are told
pub record Chains (image : List ℕ) (n : ℕ) (firsts : List ℕ) (slots : Slots) : Type 0 where
  pub chains : List (List ℕ)
  pub of : chains_of image n firsts ≡ Some chains
  pub records : list_all (is_record image n) chains ≡ true
  pub apart : are_apart n chains ≡ true
  pub is : slots ≡ map (slot_of image n) chains

slots-if : (image : List ℕ) (n : ℕ) (firsts : List ℕ) (slots : Slots) (chains : List (List ℕ)) → chains_of image n firsts ≡ Some chains → (all apart : Bool) → list_all (is_record image n) chains ≡ all → are_apart n chains ≡ apart
    → (if all && apart then Some (map (slot_of image n) chains) else None) ≡ Some slots → Chains image n firsts slots
slots-if image n firsts slots chains of true true records apart h = record { chains = chains; of = of; records = records; apart = apart; is = sym (same_Some _ _ h) }
slots-if image n firsts slots chains of true false records apart h = absurd (none-some slots h)
slots-if image n firsts slots chains of false apart' records apart h = absurd (none-some slots h)

slots-of : (image : List ℕ) (n : ℕ) (firsts : List ℕ) (slots : Slots) (chains : Option (List (List ℕ))) → chains_of image n firsts ≡ chains
    → option_and_then (λ chains. if list_all (is_record image n) chains && are_apart n chains then Some (map (slot_of image n) chains) else None) chains ≡ Some slots → Chains image n firsts slots
slots-of image n firsts slots None of h = absurd (none-some slots h)
slots-of image n firsts slots (Some chains) of h = slots-if image n firsts slots chains of (list_all (is_record image n) chains) (are_apart n chains) refl refl h

pub slots-chains : (image : List ℕ) (n : ℕ) (firsts : List ℕ) (slots : Slots) → slots_at image n firsts ≡ Some slots → Chains image n firsts slots
slots-chains image n firsts slots h = slots-of image n firsts slots (chains_of image n firsts) refl h

-- the slots of a store with a limit
pub limited : (limit : ℕ) (slots : Option Slots) (was : Stored) → with_limit limit slots ≡ Some was → (slots ≡ Some was.slots) × (limit ≡ was.row_limit)
limited limit None was there = absurd (none-some was there)
limited limit (Some slots) was there =
    let is = same_Some _ _ there in
    (ap (λ (was : Stored). Some was.slots) is, ap (λ (was : Stored). was.row_limit) is)

-- the store of an image that begins as one does
pub store-begins : (n limit : ℕ) (first_cells image : List ℕ) → BeginsAs n limit first_cells image → store_of image ≡ with_limit limit (slots_at image n first_cells)
store-begins n limit first_cells image begins = rw (begins.front, begins.header, begins.cells, begins.rows, begins.closed, begins.directory) refl

pub store_of-stands : (held : Held) (image : List ℕ) → StandsFor held image → store_of image ≡ stored held Committed image
store_of-stands held image stands = store-begins held.chains.cells held.row_limit held.committed image stands.begins

-- the room of an image with a header
pub header-room : (image : List ℕ) (n : ℕ) → has_header image ≡ true → number_at image 6 ≡ n → 70 * n + 34 ≤ length image
header-room image n header number =
    let m = number_at image 6 in
    let tests = and_parts ((slice_index image 4 == 2) && has_version image && nat_le 16 m && nat_le m 2048) (nat_le (70 * m + 34) (length image)) header in
    rw number at (leb-true (70 * m + 34) (length image) tests.1)

-- the records of chains weigh as many cells as the chains have
pub cells-chains : (image : List ℕ) (n : ℕ) (firsts : List ℕ) (chains : List (List ℕ)) → 70 * n + 34 ≤ length image → chains_of image n firsts ≡ Some chains → list_all (is_record image n) chains ≡ true → sum_by cells_of (map (slot_of image n) chains) ≡ length (cells_in chains)
cells-chains image n [] chains room h records = let e : chains ≡ [] = sym (same_Some _ _ h) in rw e refl
cells-chains image n (first ∷ rest) chains room h records =
    let parts = chains-parts (chain_of image n (2 * n) first) (chains_of image n rest) chains h in
    let tests = and_parts (is_record image n parts.0) (list_all (is_record image n) parts.1) (rw (parts.4) at records) in
    let cells = cells-chain image n first parts.0 room parts.2 tests.0 in
    let more = cells-chains image n rest parts.1 room parts.3 tests.1 in
    let weights = sum_by-cons cells_of (slot_of image n parts.0) (map (slot_of image n) parts.1) in
    let lengths = length-append parts.0 (cells_in parts.1) in
    rw (parts.4) (omega (arith, cells.1, more, weights, lengths))

-- so many cells are counted along the links
pub walk-chains : (links firsts : List ℕ) (chains : List (List ℕ)) → length links ≤ 65535 → AreChains links firsts chains → sum_by (steps links longest_chain) firsts ≡ length (cells_in chains)
walk-chains links [] [] few are = refl
walk-chains links [] (chain ∷ chains) few are = absurd are
walk-chains links (first ∷ firsts) [] few are = absurd are
walk-chains links (first ∷ firsts) (chain ∷ chains) few are =
    omega (arith, sum_by-cons (steps links longest_chain) first firsts, steps-linked links first longest_chain chain few are.0 are.1, walk-chains links firsts chains few are.2, length-append chain (cells_in chains))

pub walk-without : (links firsts : List ℕ) (chains : List (List ℕ)) (slot : ℕ) → length links ≤ 65535 → slot < length firsts → AreChains links firsts chains → steps_without links firsts slot ≡ length (cells_in (set chains slot []))
walk-without links [] chains slot few inside are = absurd (omega arith)
walk-without links (first ∷ firsts) [] slot few inside are = absurd are
walk-without links (first ∷ firsts) (chain ∷ chains) zero few inside are = omega (arith, walk-chains links firsts chains few are.2)
walk-without links (first ∷ firsts) (chain ∷ chains) (suc slot) few inside are =
    let next : suc slot + 1 ≡ suc (slot + 1) = omega arith in
    rw next (omega (arith, sum_by-cons (steps links longest_chain) first (take slot firsts), steps-linked links first longest_chain chain few are.0 are.1, walk-without links firsts chains slot few (omega arith) are.2, length-append chain (cells_in (set chains slot []))))

-- chains in memory are the image's
pub chains-told : (image : List ℕ) (n : ℕ) (used : List Bool) (links firsts : List ℕ) (chains : List (List ℕ)) → 16 ≤ n → n ≤ 2048 → length links ≡ 2 * n → AreLinkedIn (cells_from n used links) image → AllByRecursion (λ cell. is_marked used cell ≡ true) (cells_in chains) → length (cells_in chains) ≤ n → AreChains links firsts chains
    → chains_of image n firsts ≡ Some chains
chains-told image n used links [] [] few many size all marked short are = refl
chains-told image n used links [] (chain ∷ chains) few many size all marked short are = absurd are
chains-told image n used links (first ∷ firsts) [] few many size all marked short are = absurd are
chains-told image n used links (first ∷ firsts) (chain ∷ chains) few many size all marked short are =
    let parts = marked-parts chain (cells_in chains) marked in
    let total = length-append chain (cells_in chains) in
    let linked = linked-same (link_in links) (link_of image n) (2 * n) first chain (agree chain parts.0) (subst (λ (k : ℕ). AreLinked (link_in links) k first chain) size are.0) in
    let one : chain_of image n (2 * n) first ≡ Some chain = linked-chain image n (2 * n) first chain many linked (omega (arith, short, total)) in
    let rest = chains-told image n used links firsts chains few many size all parts.1 (omega (arith, short, total)) are.2 in
    rw (one, rest) refl
  where
    marked-parts : (xs ys : List ℕ) → AllByRecursion (λ cell. is_marked used cell ≡ true) (xs ++ ys) → AllByRecursion (λ cell. is_marked used cell ≡ true) xs × AllByRecursion (λ cell. is_marked used cell ≡ true) ys
    marked-parts [] ys all = (tt, all)
    marked-parts (x ∷ xs) ys all = (let rest = marked-parts xs ys all.1 in ((all.0, rest.0), rest.1))

    agree : (cells : List ℕ) → AllByRecursion (λ cell. is_marked used cell ≡ true) cells → AllByRecursion (λ cell. number_at image (cell_place n cell) ≡ slice_index links cell) cells
    agree [] marked = tt
    agree (cell ∷ cells) marked = (sym (all.each cell marked.0), agree cells marked.1)

-- the chains of a side
pub record SideChains (held : Held) (side : Side) : Type 0 where
  pub chains : List (List ℕ)
  pub has : HasChains held.chains (firsts held side) chains
  pub marked : AllByRecursion (λ cell. is_marked held.chains.used cell ≡ true) (cells_in chains)

pub side-chains : (held : Held) (side : Side) → IsSound held → SideChains held side
side-chains held Committed sound = record { chains = sound.sides.committed; has = sound.sides.committed_has; marked = committed-marked held sound.sides }
side-chains held Working sound = record { chains = sound.sides.working; has = sound.sides.working_has; marked = working-marked held sound.sides }

-- they are those of the image, and their records are the side's
pub record Told (held : Held) (image : List ℕ) (firsts : List ℕ) (chains : List (List ℕ)) (slots : Slots) : Type 0 where
  pub of : chains_of image held.chains.cells firsts ≡ Some chains
  pub records : list_all (is_record image held.chains.cells) chains ≡ true
  pub apart : are_apart held.chains.cells chains ≡ true
  pub is : slots ≡ map (slot_of image held.chains.cells) chains
  pub weight : weight_of slots ≡ length (cells_in chains)

pub told-chains : (held : Held) (image firsts : List ℕ) (chains : List (List ℕ)) (slots : Slots) → IsSound held → StandsFor held image → HasChains held.chains firsts chains → AllByRecursion (λ cell. is_marked held.chains.used cell ≡ true) (cells_in chains)
    → slots_at image held.chains.cells firsts ≡ Some slots → Told held image firsts chains slots
told-chains held image firsts chains slots sound stands has marked there =
    let n = held.chains.cells in
    let c = slots-chains image n firsts slots there in
    let of = chains-told image n held.chains.used held.chains.links firsts chains sound.range.few sound.range.many sound.range.links_count stands.links marked has.few has.are in
    let same : c.chains ≡ chains = same_Some _ _ (sym c.of ∙ of) in
    let records : list_all (is_record image n) chains ≡ true = rw same at c.records in
    record {
      of = of;
      records = records;
      apart = rw same at c.apart;
      is = rw same at c.is;
      weight = ap weight_of (rw same at c.is) ∙ cells-chains image n firsts chains (header-room image n stands.begins.header stands.begins.cells) of records;
    }

pub some-slots : {X : Type 0} (o : Option X) → IsSome o → (x : X) × (o ≡ Some x)
some-slots None h = absurd (cc)
some-slots (Some x) h = (x, refl)

pub steps-firsts : (held : Held) (side : Side) (image : List ℕ) (slots : Slots) → IsSound held → StandsFor held image → contents held side image ≡ Some slots
    → (sum_by (steps held.chains.links longest_chain) (firsts held side) ≡ weight_of slots) × (sum_by (steps held.chains.links longest_chain) (firsts held side) ≤ held.chains.cells)
steps-firsts held side image slots sound stands h =
    let s = side-chains held side sound in
    let told = told-chains held image (firsts held side) s.chains slots sound stands s.has s.marked h in
    let walk = walk-chains held.chains.links (firsts held side) s.chains (small-links held sound) s.has.are in
    (walk ∙ sym told.weight, omega (arith, walk, s.has.few))

pub weight-is : (held : Held) (side : Side) (links first_cells : List ℕ) (result : ℕ) → IsSound held → links ≡ held.chains.links → first_cells ≡ firsts held side → result ≡ sum_by (steps links longest_chain) first_cells
    → (image : List ℕ) → (slots : Slots) → StandsFor held image → contents held side image ≡ Some slots → result ≡ weight_of slots
weight-is held side links first_cells result sound links_are firsts_are is = λ image slots stands h.
    is ∙ rw (links_are, firsts_are) ((steps-firsts held side image slots sound stands h).0)

pub weight-most : (held : Held) (side : Side) (links first_cells : List ℕ) (result : ℕ) → IsSound held → links ≡ held.chains.links → first_cells ≡ firsts held side → result ≡ sum_by (steps links longest_chain) first_cells → result ≤ held.chains.cells
weight-most held side links first_cells result sound links_are firsts_are is =
    let s = side-chains held side sound in
    let walk = walk-chains held.chains.links (firsts held side) s.chains (small-links held sound) s.has.are in
    let sum : result ≡ sum_by (steps held.chains.links longest_chain) (firsts held side) = is ∙ rw (links_are, firsts_are) refl in
    omega (arith, sum, walk, s.has.few)
