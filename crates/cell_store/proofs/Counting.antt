-- How many cells a record has by what its payload begins with.
use Rattle.std.proofs.Common.{◌≡◌, ℕ, ◌*◌, ◌+◌, ◌-◌, ◌≤◌, ◌&&◌, nat_le, Bool, true, false, List, ◌++◌, length, Option, Some, None, IfSome, if◌then◌else◌, sym, refl, ap, ◌∙◌, arith, leb-true, length-take, length-drop}
use Rattle.std.proofs.lemmas.List.{get_or_append_left}
use Rattle.std.proofs.lemmas.Option.{same_Some, none-some}
use Rattle.eeprom.specs.StoreOf.{cells_for, number_at, payload_of, record_in, longest_record, longest_chain}
use Rattle.cell_store.specs.Claiming.{record_cells}

-- the first payload that is read is the first cell's
pub told-count : (image : Option (List ℕ)) (n first : ℕ) (payload : List ℕ) (count : Option ℕ) → IfSome image (λ image. payload ≡ payload_of image n first) → record_cells payload ≡ count
    → IfSome image (λ image. record_cells (payload_of image n first) ≡ count)
told-count None n first payload count is counted = tt
told-count (Some image) n first payload count is counted = ap record_cells (sym is) ∙ counted

record Counted (payload : List ℕ) (count : ℕ) : Type 0 where
  some : 1 ≤ number_at payload 0
  most : number_at payload 0 ≤ longest_record
  cells : cells_for (number_at payload 0) ≡ count

counted-if : (low high : Bool) (cells count : ℕ) → (if low && high then Some cells else None) ≡ Some count → (low ≡ true) × (high ≡ true) × (cells ≡ count)
counted-if true true cells count is = (refl, refl, same_Some cells count is)
counted-if true false cells count is = absurd (none-some count is)
counted-if false high cells count is = absurd (none-some count is)

counted : (payload : List ℕ) (count : ℕ) → record_cells payload ≡ Some count → Counted payload count
counted payload count is =
    let size : ℕ = number_at payload 0 in
    let parts = counted-if (nat_le 1 size) (nat_le size longest_record) (cells_for size) count is in
    record { some = leb-true 1 size parts.0; most = leb-true size longest_record parts.1; cells = parts.2 }

-- it is at least one, and at most that of the longest chain
pub count-short : (payload : List ℕ) (count : ℕ) → record_cells payload ≡ Some count → (1 ≤ count) × (count ≤ longest_chain)
count-short payload count is =
    let c = counted payload count is in
    (omega (arith, c.some, c.cells), omega (arith, c.most, c.cells))

-- and stays so behind the first octets
pub record_cells-append : (payload more : List ℕ) → 2 ≤ length payload → record_cells (payload ++ more) ≡ record_cells payload
record_cells-append payload more some = rw (get_or_append_left payload more 0 0 (omega arith), get_or_append_left payload more 0 1 (omega arith)) refl

-- The record that is copied of a payload of so many cells has the length that the payload says.
copied-size : (payload out : List ℕ) (count : ℕ) → Counted payload count → length payload ≡ 30 * count → (number_at payload 0 ≤ longest_record → 2 + number_at payload 0 ≤ length payload → out ≡ record_in payload) → length out ≡ number_at payload 0
copied-size payload out count c whole copied =
    let copy = copied c.most (omega (arith, c.cells, whole)) in
    let fits : number_at payload 0 ≤ length payload - 2 = omega (arith, c.cells, whole) in
    ap (length {A = ℕ}) copy ∙ simp (length-take, length-drop) (omega (arith, fits))

pub count-copied : (payload out : List ℕ) (count : ℕ) → record_cells payload ≡ Some count → length payload ≡ 30 * count → (number_at payload 0 ≤ longest_record → 2 + number_at payload 0 ≤ length payload → out ≡ record_in payload)
    → count ≡ cells_for (length out)
count-copied payload out count is whole copied =
    let c = counted payload count is in
    sym c.cells ∙ ap cells_for (sym (copied-size payload out count c whole copied))

pub some-copied : (payload out : List ℕ) (count : ℕ) → record_cells payload ≡ Some count → length payload ≡ 30 * count → (number_at payload 0 ≤ longest_record → 2 + number_at payload 0 ≤ length payload → out ≡ record_in payload)
    → 1 ≤ length out
some-copied payload out count is whole copied =
    let c = counted payload count is in
    omega (arith, c.some, copied-size payload out count c whole copied)
