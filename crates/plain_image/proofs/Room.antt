-- The records in a store have room in its cells.
use Rattle.std.proofs.Common.{◌≡◌, ℕ, ◌+◌, ◌*◌, ◌≤◌, ◌&&◌, Bool, true, false, List, [], ◌∷◌, length, map, flat_map, nat_le, Option, Some, None, IfSome, option_map, option_and_then, cond, if◌then◌else◌, refl, sym, ap, ◌∙◌, subst, arith, length-append, leb-true}
use Rattle.std.specs.Prelude.{slice_set}
use Rattle.std.specs.List.{list_all, sum_by}
use Rattle.std.proofs.lemmas.Bool.{and_parts}
use Rattle.std.proofs.lemmas.Option.{none-some, same_Some}
use Rattle.std.proofs.lemmas.List.{length-set}
use Rattle.std.proofs.lemmas.List.Sums.{sum_by-cons}
use Rattle.eeprom.specs.StoreOf.{Slots, Stored, are_apart, cells_of, chain_of, chains_of, directory, has_header, image_size, is_distinct, is_gate_open, is_in_range, is_record, journal, number_at, row_limit, slot_of, slots_at, starts_with_magic, store_of, weight_of, with_entries, written_directory}
use Rattle.eeprom.specs.declared.entry.Entry.{Entry}
use Rattle.eeprom.proofs.Chains.{cells-chain, chains-parts, length-slots_at}
use Rattle.eeprom.proofs.Places.{length-numbers_at}
use Rattle.scql_model.specs.Database.{Database, weight}
use Rattle.scql_model.specs.Opens.{Holds}
use Rattle.scql_model.proofs.Room.{cells-filled}

-- the cells of all chains
abbrev cells_in : List (List ℕ) → List ℕ
cells_in chains = flat_map (λ chain. chain) chains

weight-chains : (image : List ℕ) (n : ℕ) (firsts : List ℕ) (chains : List (List ℕ)) → 70 * n + 34 ≤ length image → chains_of image n firsts ≡ Some chains → list_all (is_record image n) chains ≡ true
    → sum_by cells_of (map (slot_of image n) chains) ≡ length (cells_in chains)
weight-chains image n [] chains room h records = let e : chains ≡ [] = sym (same_Some _ _ h) in rw e refl
weight-chains image n (first ∷ rest) chains room h records =
    let parts = chains-parts (chain_of image n (2 * n) first) (chains_of image n rest) chains h in
    let tests = and_parts (is_record image n parts.0) (list_all (is_record image n) parts.1) (rw (parts.4) at records) in
    let cells = cells-chain image n first parts.0 room parts.2 tests.0 in
    let more = weight-chains image n rest parts.1 room parts.3 tests.1 in
    rw (parts.4) (omega (arith, cells.1, more, sum_by-cons cells_of (slot_of image n parts.0) (map (slot_of image n) parts.1), length-append parts.0 (cells_in parts.1)))

weight-slots : (image : List ℕ) (n : ℕ) (firsts : List ℕ) (slots : Slots) → 70 * n + 34 ≤ length image → slots_at image n firsts ≡ Some slots → weight_of slots ≤ n
weight-slots image n firsts slots room there = tested (chains_of image n firsts) refl there
  where
    kept : (chains : List (List ℕ)) (b : Bool) → list_all (is_record image n) chains && are_apart n chains ≡ b → chains_of image n firsts ≡ Some chains
        → cond b (Some (map (slot_of image n) chains)) None ≡ Some slots → weight_of slots ≤ n
    kept chains true is of there =
        let tests = and_parts (list_all (is_record image n) chains) (are_apart n chains) is in
        let few = and_parts (is_distinct (cells_in chains)) (nat_le (length (cells_in chains)) n) tests.1 in
        omega (arith, ap weight_of (sym (same_Some _ _ there)), weight-chains image n firsts chains room of tests.0, leb-true (length (cells_in chains)) n few.1)
    kept chains false is of there = absurd (none-some slots there)

    tested : (chains : Option (List (List ℕ))) → chains_of image n firsts ≡ chains
        → option_and_then (λ chains. if list_all (is_record image n) chains && are_apart n chains then Some (map (slot_of image n) chains) else None) chains ≡ Some slots → weight_of slots ≤ n
    tested None of there = absurd (none-some slots there)
    tested (Some chains) of there = kept chains (list_all (is_record image n) chains && are_apart n chains) refl of there

-- a directory has a first cell for each slot
length-with_entries : (entries : List Entry) (firsts : List ℕ) → length (with_entries entries firsts) ≡ length firsts
length-with_entries [] firsts = refl
length-with_entries (entry ∷ entries) firsts = length-with_entries entries (slice_set firsts entry.slot entry.first) ∙ length-set firsts entry.slot entry.first

length-directory : (image : List ℕ) (n : ℕ) → IfSome (directory image n) (λ firsts. length firsts ≡ n)
length-directory image n = gated (is_gate_open image) (is_in_range image n)
  where
    written : length (written_directory image n) ≡ n
    written = length-numbers_at image 32 n

    gated : (gate range : Bool) → IfSome (cond gate (cond range (Some (with_entries (journal image n) (written_directory image n))) None) (Some (written_directory image n))) (λ firsts. length firsts ≡ n)
    gated true true = length-with_entries (journal image n) (written_directory image n) ∙ written
    gated true false = tt
    gated false range = written

-- the parts of a store
abbrev of_parts : Bool → Bool → ℕ → Option Slots → Option Stored
of_parts magic header limit slots = if magic then (if header then option_map (λ slots. record { row_limit = limit; slots = slots }) slots else None) else None

weight-parts : (image : List ℕ) (n : ℕ) (store : Stored) (magic header : Bool) (limit : ℕ) (firsts : Option (List ℕ)) → (header ≡ true → 70 * n + 34 ≤ length image) → IfSome firsts (λ firsts. length firsts ≡ n)
    → of_parts magic header limit (option_and_then (slots_at image n) firsts) ≡ Some store → weight_of store.slots ≤ length store.slots
weight-parts image n store false header limit firsts room count is = absurd (none-some store is)
weight-parts image n store true false limit firsts room count is = absurd (none-some store is)
weight-parts image n store true true limit None room count is = absurd (none-some store is)
weight-parts image n store true true limit (Some firsts) room count is = told (slots_at image n firsts) refl is
  where
    told : (slots : Option Slots) → slots_at image n firsts ≡ slots → option_map (λ slots. record { row_limit = limit; slots = slots }) slots ≡ Some store → weight_of store.slots ≤ length store.slots
    told None at is = absurd (none-some store is)
    told (Some slots) at is =
        let same : slots ≡ store.slots = ap (λ (s : Stored). s.slots) (same_Some _ _ is) in
        let all : length slots ≡ length firsts = subst (λ (o : Option Slots). IfSome o (λ slots. length slots ≡ length firsts)) at (length-slots_at image n firsts) in
        omega (arith, weight-slots image n firsts slots (room refl) at, ap weight_of same, ap (λ (s : Slots). length s) same, all, count)

-- The records of a database that a store holds have room.
pub room-held : (image : List ℕ) (store : Stored) (db : Database) → store_of image ≡ Some store → Holds store.slots db → weight db ≤ db.cells
room-held image store db is holds =
    let n = number_at image 6 in
    let room = λ (header : has_header image ≡ true). leb-true (image_size n) (length image) (and_parts _ (nat_le (image_size n) (length image)) header).1 in
    let most = weight-parts image n store (starts_with_magic image) (has_header image) (row_limit image) (directory image n) room (length-directory image n) is in
    omega (arith, most, cells-filled store.slots db holds, holds.cells)
