-- A search among grants that reads the object of each.
use Rattle.std.proofs.Common.{◌≡◌, ℕ, zero, suc, ◌+◌, ◌*◌, ◌≤◌, List, [], ◌∷◌, drop, get_or, filter, Option, Some, None, sym, ap, ◌∙◌, subst, arith, add-one}
use Rattle.std.specs.Prelude.{IfSome}
use Rattle.std.specs.List.{find}
use Rattle.std.proofs.Math.Nat.{mul-le-mul_left}
use Rattle.std.proofs.Math.Seq.{drop-nil}
use Rattle.std.proofs.lemmas.List.Sums.{sum_by-cons}
use Rattle.eeprom.specs.Chip.{Chip, Becomes, RisesAtMost}
use Rattle.eeprom.specs.Slots.{Rises, is_after, nearest_from}
use Rattle.eeprom.specs.StoreOf.{Slots, cell_size}
use Rattle.record_store.specs.Held.{Held}
use Rattle.record_store.specs.declared.side.Side.{Side}
use Rattle.scql_base.specs.declared.records.Grant.{Grant}
use Rattle.scql_model.specs.Database.{Database}
use Rattle.catalog_codec.specs.Catalog.{grant_kind, object_kind}
use Rattle.record_table.specs.Listed.{cells_marked, in_slots, kind_cells}
use Rattle.record_table.specs.Making.{IsHeld}
use Rattle.record_table.proofs.ListedSearches.{nearest-listed}
use Rattle.record_table.proofs.Scan.{cells-fewer}
use Rattle.dictionaries.specs.Told.{tells_of_grant}

-- the nearest of all grants that are told is that of one so far and those of the slots from one on
abbrev pub IsNearest : Database → ℕ → ℕ → Option Grant → ℕ → Slots → Type 0
IsNearest db owner stamp nearest slot slots =
    nearest_from grant_kind.key stamp None (filter (tells_of_grant db owner) (in_slots grant_kind slots)) ≡ nearest_from grant_kind.key stamp nearest (filter (tells_of_grant db owner) (in_slots grant_kind (drop slot slots)))

-- so that of all is what the database has
pub nearest-held : (store : Held) (side : Side) (chip : Chip) (db : Database) (owner stamp : ℕ) (nearest : Option Grant) (held : IsHeld store side chip db)
    → nearest ≡ nearest_from grant_kind.key stamp None (filter (tells_of_grant db owner) (in_slots grant_kind held.slots)) → nearest ≡ find (is_after grant_kind.key stamp) (filter (tells_of_grant db owner) db.grants)
nearest-held store side chip db owner stamp nearest held is =
    is ∙ nearest-listed grant_kind stamp (tells_of_grant db owner) held.slots (subst (λ (grants : List Grant). Rises grant_kind.key grants) (sym held.holds.grants) held.valid.grants.rises)
    ∙ ap (λ (grants : List Grant). find (is_after grant_kind.key stamp) (filter (tells_of_grant db owner) grants)) held.holds.grants

-- So many octets were read: those of the grants before a slot, and for each slot before it at most those of all objects.
abbrev pub ReadsGrants : ℕ → Slots → ℕ → ℕ → Type 0
ReadsGrants slot slots before after =
    after + cell_size * cells_marked grant_kind (drop slot slots) ≤ before + cell_size * cells_marked grant_kind slots + cell_size * cells_marked object_kind slots * slot

pub reads-start : (slots : Option Slots) (a : Option ℕ) → IfSome slots (λ slots. Becomes (ReadsGrants 0 slots) a a)
reads-start None a = tt
reads-start (Some slots) a = λ after is. (after, is, omega arith)

cells-from : (slots : Slots) (slot : ℕ) → cells_marked grant_kind (drop slot slots) ≡ kind_cells grant_kind (get_or slots slot None) + cells_marked grant_kind (drop (suc slot) slots)
cells-from [] slot = ap (cells_marked grant_kind) (drop-nil slot)
cells-from (entry ∷ slots) zero = sum_by-cons (kind_cells grant_kind) entry slots
cells-from (entry ∷ slots) (suc slot) = cells-from slots slot

pub reads-next : (slots : Option Slots) (slot : ℕ) (a b c d : Option ℕ) → IfSome slots (λ slots. Becomes (ReadsGrants slot slots) a b) → IfSome slots (λ slots. Becomes (RisesAtMost (cell_size * kind_cells grant_kind (get_or slots slot None))) b c)
    → IfSome slots (λ slots. Becomes (RisesAtMost (cell_size * cells_marked object_kind slots)) c d) → IfSome slots (λ slots. Becomes (ReadsGrants (slot + 1) slots) a d)
reads-next None slot a b c d so_far here object = tt
reads-next (Some slots) slot a b c d so_far here object = λ after is.
    let o = object after is in
    let h = here o.0 o.1 in
    let s = so_far h.0 h.1 in
    (s.0, s.1, rw add-one (omega (arith, o.2, h.2, s.2, cells-from slots slot)))

-- slots are passed over
pub reads-over : (slots : Option Slots) (from to : ℕ) (a b : Option ℕ) → from ≤ to → IfSome slots (λ slots. Becomes (ReadsGrants from slots) a b) → IfSome slots (λ slots. Becomes (ReadsGrants to slots) a b)
reads-over None from to a b onward so_far = tt
reads-over (Some slots) from to a b onward so_far = λ after is.
    let s = so_far after is in
    (s.0, s.1, omega (arith, s.2, cells-fewer grant_kind slots from to onward, mul-le-mul_left (cell_size * cells_marked object_kind slots) onward))

pub reads-end : (slots : Option Slots) (slot cells : ℕ) (a b : Option ℕ) → slot ≤ cells → IfSome slots (λ slots. Becomes (ReadsGrants slot slots) a b)
    → IfSome slots (λ slots. Becomes (RisesAtMost (cell_size * (cells_marked grant_kind slots + cells * cells_marked object_kind slots))) a b)
reads-end None slot cells a b within so_far = tt
reads-end (Some slots) slot cells a b within so_far = λ after is.
    let s = so_far after is in
    (s.0, s.1, omega (arith, s.2, mul-le-mul_left (cell_size * cells_marked object_kind slots) within))
