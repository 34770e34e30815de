-- The record of a chain whose payload was read.
use Rattle.std.proofs.Common.{◌≡◌, ℕ, ◌+◌, ◌*◌, ◌≤◌, ◌==◌, ◌&&◌, true, List, [], ◌∷◌, ◌++◌, length, flat_map, nat_le, Option, Some, None, IfSome, refl, ap, ◌∙◌, arith, leb-true, eqb-true}
use Rattle.std.proofs.lemmas.Bool.{and_parts}
use Rattle.std.proofs.lemmas.List.{get_or_append_left}
use Rattle.eeprom.specs.StoreOf.{chain_of, cells_for, payload_of, number_at, is_record, record_in, slot_of, longest_record, longest_chain}
use Rattle.eeprom.proofs.Chains.{length-payload, length-chain, chain-first}
use Rattle.cell_store.specs.Chains.{IsRecordChain}

record-of : (n first : ℕ) (image payload out : List ℕ) (cell : ℕ) (cells : List ℕ) → 70 * n + 34 ≤ length image
    → (length (cell ∷ cells) ≤ longest_chain → payload ≡ flat_map (payload_of image n) (cell ∷ cells))
    → (number_at payload 0 ≤ longest_record → 2 + number_at payload 0 ≤ length payload → out ≡ record_in payload)
    → chain_of image n (2 * n) first ≡ Some (cell ∷ cells) → is_record image n (cell ∷ cells) ≡ true
    → slot_of image n (cell ∷ cells) ≡ Some out
record-of n first image payload out cell cells room read copied h is =
    let size : ℕ = number_at (payload_of image n cell) 0 in
    let tests = and_parts (nat_le 1 size && nat_le size longest_record) (length (cell ∷ cells) == cells_for size) is in
    let high : size ≤ longest_record = leb-true size longest_record (and_parts (nat_le 1 size) (nat_le size longest_record) tests.0).1 in
    let count : length (cell ∷ cells) ≡ cells_for size = eqb-true (length (cell ∷ cells)) (cells_for size) tests.1 in
    let octets : payload ≡ payload_of image n cell ++ flat_map (payload_of image n) cells = read (omega arith) in
    let one : length (payload_of image n cell) ≡ 30 = length-payload image n cell (chain-first image n (2 * n) first cell cells h) room in
    let number : number_at payload 0 ≡ size =
    rw (
      octets,
      get_or_append_left (payload_of image n cell) (flat_map (payload_of image n) cells) 0 0 (omega arith),
      get_or_append_left (payload_of image n cell) (flat_map (payload_of image n) cells) 0 1 (omega arith),
    ) refl in
    let total : length payload ≡ 30 * length (cell ∷ cells) = ap (length {A = ℕ}) octets ∙ length-chain image n (2 * n) first (cell ∷ cells) room h in
    let copy = copied (omega arith) (omega arith) in
    rw (copy, octets) refl

pub record-some : (n first : ℕ) (image : Option (List ℕ)) (size : ℕ) (payload out : List ℕ) → 70 * n + 34 ≤ size → IfSome image (λ image. length image ≡ size)
    → IfSome image (λ image. (chain : List ℕ) → chain_of image n (2 * n) first ≡ Some chain → length chain ≤ longest_chain → payload ≡ flat_map (payload_of image n) chain)
    → (number_at payload 0 ≤ longest_record → 2 + number_at payload 0 ≤ length payload → out ≡ record_in payload)
    → IfSome image (λ image. (chain : List ℕ) → IsRecordChain image n first chain → slot_of image n chain ≡ Some out)
record-some n first None size payload out room sized read copied = tt
record-some n first (Some image) size payload out room sized read copied =
    λ chain r. elim chain as (λ chain. IsRecordChain image n first chain → slot_of image n chain ≡ Some out) [
      | [] ↦ λ r. absurd (omega (arith, r.some))
      | cell ∷ cells ↦ λ r. record-of n first image payload out cell cells (omega arith) (read (cell ∷ cells) r.of) copied r.of r.is
    ] r
