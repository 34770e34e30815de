-- How many octets are read of a chain and of a record.
use Rattle.std.proofs.Common.{◌≡◌, ℕ, ◌+◌, ◌*◌, ◌≤◌, List, length, Option, Some, None, IsSome, IfSome, refl, ap, arith, subst}
use Rattle.eeprom.specs.Chip.{Becomes, RisesAtMost, RisesBy}
use Rattle.eeprom.specs.StoreOf.{chain_of, cells_of, slot_of, longest_chain}
use Rattle.cell_store.specs.Reading.{ReadsCells, ReadsRecord}
use Rattle.cell_store.specs.Walk.{Walked}
use Rattle.eeprom.proofs.Chains.{cells-chain}
use Rattle.cell_store.specs.Chains.{IsRecordChain}
use Rattle.cell_store.proofs.Walking.{end-cell}

pub reads-none : (count : Option ℕ) → Becomes (ReadsCells 0) count count
reads-none count = λ after e. (after, e, omega arith)

pub reads-more : (step : ℕ) (old mid new : Option ℕ) → Becomes (ReadsCells step) old mid → Becomes (RisesBy 32) mid new → Becomes (ReadsCells (step + 1)) old new
reads-more step old mid new first next = λ after e.
    let last = next after e in
    let start = first last.0 last.1 in
    (start.0, start.1, omega (arith, last.2, start.2))

-- so many octets at the most
pub reads-less : (count most : ℕ) (old new : Option ℕ) → count ≤ most → Becomes (RisesAtMost count) old new → Becomes (RisesAtMost most) old new
reads-less count most old new few read = λ after e. (let start = read after e in (start.0, start.1, omega (arith, start.2, few)))

pub reads-whole : (cells most : ℕ) (old new : Option ℕ) → 32 * cells ≤ most → Becomes (ReadsCells cells) old new → Becomes (RisesAtMost most) old new
reads-whole cells most old new few read = λ after e. (let start = read after e in (start.0, start.1, omega (arith, start.2, few)))

pub reads-then : (cells count most : ℕ) (old mid new : Option ℕ) → 32 * cells + count ≤ most → Becomes (ReadsCells cells) old mid → Becomes (RisesAtMost count) mid new → Becomes (RisesAtMost most) old new
reads-then cells count most old mid new few first next = λ after e.
    let last = next after e in
    let start = first last.0 last.1 in
    (start.0, start.1, omega (arith, last.2, start.2, few))

-- a walk that comes to the end of a chain has read its cells
pub reads-end : (n first cell : ℕ) (octets : List ℕ) (step most : ℕ) (image : Option (List ℕ)) (old new : Option ℕ) → 2 * n ≤ cell → Becomes (ReadsCells step) old new
    → IfSome image (λ image. (chain : List ℕ) → chain_of image n (2 * n) first ≡ Some chain → Walked n chain cell octets step image)
    → IfSome image (λ image. (chain : List ℕ) → chain_of image n (2 * n) first ≡ Some chain → length chain ≤ most → Becomes (ReadsCells (length chain)) old new)
reads-end n first cell octets step most None old new outside read w = tt
reads-end n first cell octets step most (Some image) old new outside read w = λ chain h _.
    let walk = w chain h in
    let none : length walk.rest ≡ 0 = ap (length {A = ℕ}) (end-cell image n cell walk.rest outside walk.left) in
    let all : step ≡ length chain = omega (arith, walk.steps, none) in
    rw all at read

pub reads-full : (n first cell : ℕ) (octets : List ℕ) (step most : ℕ) (image : Option (List ℕ)) (old new : Option ℕ) → most ≤ step → Becomes (ReadsCells step) old new
    → IfSome image (λ image. (chain : List ℕ) → chain_of image n (2 * n) first ≡ Some chain → Walked n chain cell octets step image)
    → IfSome image (λ image. (chain : List ℕ) → chain_of image n (2 * n) first ≡ Some chain → length chain ≤ most → Becomes (ReadsCells (length chain)) old new)
reads-full n first cell octets step most None old new long read w = tt
reads-full n first cell octets step most (Some image) old new long read w = λ chain h short.
    let walk = w chain h in
    let all : step ≡ length chain = omega (arith, walk.steps) in
    rw all at read

-- the cells that are read for a record are its own
reads-cells : (entry : Option (List ℕ)) (cells : ℕ) (old new : Option ℕ) → IsSome entry → cells ≡ cells_of entry → Becomes (ReadsCells cells) old new → Becomes (ReadsRecord entry) old new
reads-cells None cells old new there are read = absurd (cc)
reads-cells (Some octets) cells old new there are read = λ after e.
    let start = read after e in
    (start.0, start.1, (omega (arith, are, start.2), omega (arith, are, start.2)))

pub reads-record : (n first : ℕ) (image : Option (List ℕ)) (size : ℕ) (out : List ℕ) (old new : Option ℕ) → 70 * n + 34 ≤ size → IfSome image (λ image. length image ≡ size)
    → IfSome image (λ image. (chain : List ℕ) → IsRecordChain image n first chain → slot_of image n chain ≡ Some out)
    → IfSome image (λ image. (chain : List ℕ) → chain_of image n (2 * n) first ≡ Some chain → length chain ≤ longest_chain → Becomes (ReadsCells (length chain)) old new)
    → IfSome image (λ image. (chain : List ℕ) → IsRecordChain image n first chain → Becomes (ReadsRecord (Some out)) old new)
reads-record n first None size out old new room sized got read = tt
reads-record n first (Some image) size out old new room sized got read = λ chain r.
    let whole = cells-chain image n first chain (omega arith) r.of r.is in
    let is = got chain r in
    subst (λ (entry : Option (List ℕ)). Becomes (ReadsRecord entry) old new) is
    (reads-cells (slot_of image n chain) (length chain) old new (rw is refl) whole.1 (read chain r.of whole.0))
