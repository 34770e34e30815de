-- A record written into a chain of free cells, and read back.
use Rattle.std.proofs.Common.{◌≡◌, ℕ, ◌+◌, ◌*◌, ◌-◌, ◌≤◌, ◌==◌, Bool, true, false, List, [], ◌∷◌, length, take, drop, slice_index, slice_range, flat_map, nat_le, Option, Some, IfSome, sym, refl, ap, ◌∙◌, arith, subst, le-leb, eq-eqb, get_or-take, take-take, ◌⊎◌, inl, inr}
use Rattle.std.specs.List.{AllByRecursion}
use Rattle.std.proofs.lemmas.List.{get_or_append_left, drop-take}
use Rattle.eeprom.specs.Chip.{Becomes}
use Rattle.eeprom.specs.StoreOf.{chain_of, cell_place, cells_for, payload_of, number_at, record_in, is_record, slot_of, longest_record}
use Rattle.cell_store.specs.Cells.{Cells, IsInRange, cells_from, link_in}
use Rattle.cell_store.specs.Chains.{AreLinked, link_of, IsRecordChain}
use Rattle.cell_store.specs.Marks.{is_marked}
use Rattle.cell_store.specs.Placed.{IsPlaced, IsLaid, IsTakenBefore}
use Rattle.cell_store.specs.Writing.{IsWritten}
use Rattle.eeprom.proofs.Chains.{length-payload}
use Rattle.cell_store.proofs.Freeing.{linked-within}
use Rattle.cell_store.proofs.Linking.{chain-linked, linked-same, linked-one}

-- the record of a chain that was written
cut : (xs : List ℕ) (a b : ℕ) → a ≤ b → slice_range xs a b ≡ drop a (take b xs)
cut xs a b within = let whole : a + (b - a) ≡ b = omega arith in sym (rw whole at (drop-take a (b - a) xs))

number-front : (payload : List ℕ) (m : ℕ) → 2 ≤ m → number_at (take m payload) 0 ≡ number_at payload 0
number-front payload m long = rw (get_or-take m payload 0 0 (omega arith), get_or-take m payload 1 0 (omega arith)) refl

record-front : (payload : List ℕ) (m : ℕ) → 2 + number_at payload 0 ≤ m → record_in (take m payload) ≡ record_in payload
record-front payload m long =
    let k = number_at payload 0 in
    let number : number_at (take m payload) 0 ≡ k = number-front payload m (omega arith) in
    ap (λ (k : ℕ). slice_range (take m payload) 2 (2 + k)) number
    ∙ cut (take m payload) 2 (2 + k) (omega arith)
    ∙ ap (λ (xs : List ℕ). drop 2 xs) (take-take (2 + k) m payload long)
    ∙ sym (cut payload 2 (2 + k) (omega arith))

record-written : (image : List ℕ) (n : ℕ) (payload octets : List ℕ) (count : ℕ) (chain : List ℕ) (start marks : List Bool) → 70 * n + 34 ≤ length image → length chain ≡ count → count ≡ cells_for (length octets) → 1 ≤ length octets → length octets ≤ longest_record
    → number_at payload 0 ≡ length octets → record_in payload ≡ octets → flat_map (payload_of image n) chain ≡ slice_range payload 0 (30 * count) → AllByRecursion (IsTakenBefore n start marks) chain
    → (is_record image n chain ≡ true) × (slot_of image n chain ≡ Some octets)
record-written image n payload octets count [] start marks room size cells some most number record_is flat taken = absurd (omega arith)
record-written image n payload octets count (cell ∷ chain) start marks room size cells some most number record_is flat taken =
    let m : ℕ = 30 * count in
    let front : flat_map (payload_of image n) (cell ∷ chain) ≡ take m payload = flat ∙ cut payload 0 m (omega arith) in
    let one : length (payload_of image n cell) ≡ 30 = length-payload image n cell taken.0.inside room in
    let size_is : number_at (payload_of image n cell) 0 ≡ length octets =
    rw⁻¹ (
      get_or_append_left (payload_of image n cell) (flat_map (payload_of image n) chain) 0 0 (omega arith),
      get_or_append_left (payload_of image n cell) (flat_map (payload_of image n) chain) 0 1 (omega arith),
    ) (ap (λ (xs : List ℕ). number_at xs 0) front ∙ number-front payload m (omega arith) ∙ number) in
    let low : nat_le 1 (length octets) ≡ true = le-leb 1 (length octets) some in
    let high : nat_le (length octets) longest_record ≡ true = le-leb (length octets) longest_record most in
    let exact : (length (cell ∷ chain) == cells_for (length octets)) ≡ true = eq-eqb (length (cell ∷ chain)) (cells_for (length octets)) (size ∙ cells) in
    (rw (size_is, low, high, exact) refl, ap (λ (xs : List ℕ). Some (record_in xs)) front ∙ ap (λ (xs : List ℕ). Some xs) (record-front payload m (omega arith) ∙ record_is))

-- a mark is there or isn't
mark-cases : (marks : List Bool) (cell : ℕ) → (is_marked marks cell ≡ true) ⊎ (is_marked marks cell ≡ false)
mark-cases marks cell = elim (is_marked marks cell) as (λ t. is_marked marks cell ≡ t → (is_marked marks cell ≡ true) ⊎ (is_marked marks cell ≡ false)) [
  | true ↦ λ e. inl e
  | false ↦ λ e. inr e
] refl

taken-agree : (n : ℕ) (start marks : List Bool) (links now : List ℕ) (chain : List ℕ) → ((cell : ℕ) → is_marked marks cell ≡ true → is_marked start cell ≡ false → slice_index links cell ≡ number_at now (cell_place n cell))
    → AllByRecursion (IsTakenBefore n start marks) chain → AllByRecursion (λ cell. slice_index links cell ≡ number_at now (cell_place n cell)) chain
taken-agree n start marks links now [] new taken = tt
taken-agree n start marks links now (cell ∷ chain) new taken = (new cell taken.0.now taken.0.free, taken-agree n start marks links now chain new taken.1)

written : (store : Cells) (later : List Bool) (links payload octets : List ℕ) (count first : ℕ) (was now : List ℕ) → IsInRange store → 70 * store.cells + 34 ≤ length was → length links ≡ length store.links → 1 ≤ length octets → length octets ≤ longest_record
    → number_at payload 0 ≡ length octets → record_in payload ≡ octets → count ≡ cells_for (length octets) → IsLaid store.cells store.used later 0 count first store.links links → IsPlaced store.cells store.used later payload 0 count first links was now
    → IsWritten store (cells_from store.cells later links) first octets was now
written store later links payload octets count first was now range room links_size some most number record_is cells laid p =
    let n = store.cells in
    let chain : List ℕ = p.placed.chain in
    let size : length chain ≡ count = omega (arith, p.placed.cells) in
    let few : length chain ≤ 2 * n = omega (arith, size, laid.cells, linked-within links (2 * n) first laid.chain (omega (arith, range.many)) laid.linked) in
    let of : chain_of now n (2 * n) first ≡ Some chain = p.placed.of (2 * n) few in
    let there = record-written now n payload octets count chain store.used later (omega (arith, room, p.keeping.size)) size cells some most number record_is p.placed.octets p.placed.taken in
    let linked = linked-same (link_of now n) (link_in links) (2 * n) first chain (taken-agree n store.used later links now chain p.new_links p.placed.taken) (chain-linked now n (2 * n) first chain of) in
    let all : length links ≡ 2 * n = links_size ∙ range.links_count in
    record {
      keeping = p.keeping;
      links = λ were. record {
        each = λ cell is. elim (mark-cases store.used cell) [
          | inl before ↦ laid.stay cell before ∙ were.each cell before ∙ sym (p.keeping.cells cell before).link
          | inr fresh ↦ p.new_links cell is fresh
        ];
      };
      reads = λ other is.
          let same : other ≡ chain = linked-one (link_in links) (2 * n) first other chain (omega (arith, range.many)) (subst (λ (k : ℕ). AreLinked (link_in links) k first other) all is) linked in
          let record_there : IsRecordChain now n first chain = record { of = of; is = there.0; some = omega (arith, size, cells) } in
          (subst (IsRecordChain now n first) (sym same) record_there, ap (slot_of now n) same ∙ there.1);
    }

pub written-becomes : (store new : Cells) (marks later : List Bool) (links before payload octets : List ℕ) (n count first size : ℕ) (old now : Option (List ℕ)) → IsInRange store → 70 * store.cells + 34 ≤ size → IfSome old (λ image. length image ≡ size) → n ≡ store.cells → marks ≡ store.used → before ≡ store.links
    → length links ≡ length before → 1 ≤ length octets → length octets ≤ longest_record → number_at payload 0 ≡ length octets → record_in payload ≡ octets → count ≡ cells_for (length octets) → new ≡ cells_from store.cells later links
    → IsLaid n marks later 0 count first before links → Becomes (IsPlaced n marks later payload 0 count first links) old now → Becomes (IsWritten store new first octets) old now
written-becomes store new marks later links before payload octets n count first size old now range room sized n_is marks_is before_is links_size some most number record_is cells new_is laid placed = λ image told.
    let from = placed image told in
    let long : length from.0 ≡ size = rw (from.1) at sized in
    let same : IsPlaced store.cells store.used later payload 0 count first links from.0 image =
    subst (λ (marks : List Bool). IsPlaced store.cells marks later payload 0 count first links from.0 image) marks_is (subst (λ (n : ℕ). IsPlaced n marks later payload 0 count first links from.0 image) n_is from.2) in
    let there : IsLaid store.cells store.used later 0 count first store.links links =
    subst (λ (before : List ℕ). IsLaid store.cells store.used later 0 count first before links) before_is
    (subst (λ (marks : List Bool). IsLaid store.cells marks later 0 count first before links) marks_is (subst (λ (n : ℕ). IsLaid n marks later 0 count first before links) n_is laid)) in
    let done = written store later links payload octets count first from.0 image range (omega (arith, long)) (links_size ∙ ap (length {A = ℕ}) before_is) some most number record_is cells there same in
    (from.0, from.1, subst (λ (new : Cells). IsWritten store new first octets from.0 image) (sym new_is) done)
