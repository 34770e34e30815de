-- The slots that are in use, as slots are emptied and filled and as a transaction ends.
use Rattle.std.proofs.Common.{◌≡◌, inl, inr, ℕ, ◌<◌, ◌≤◌, Bool, true, false, if◌then◌else◌, List, length, set, slice_index, slice_index_or, Option, Some, None, option_and_then, sym, refl, ap, ◌∙◌, arith, subst}
use Rattle.std.proofs.lemmas.List.{length-set, get_or-set_same, get_or-set_other}
use Rattle.eeprom.specs.StoreOf.{Slots}
use Rattle.cell_store.specs.Cells.{Cells}
use Rattle.record_store.specs.Held.{Held, StandsFor, firsts, contents, record_at}
use Rattle.record_store.specs.Kept.{AreEmptyBehind, AreInUse}
use Rattle.record_store.specs.Opening.{HeldSoFar}
use Rattle.record_store.specs.Sound.{IsSound}
use Rattle.record_store.specs.Tags.{Tags}
use Rattle.record_store.specs.declared.side.Side.{Side}
use Rattle.record_store.specs.declared.side.Side.TheVariants.{Committed, Working}
use Rattle.record_store.proofs.FirstOctets.{slots-count, slot-past}
use Rattle.record_store.proofs.OpeningSlots.{finished}
use Rattle.record_store.proofs.Records.{contents-there, record-nowhere}
use Rattle.record_store.proofs.Sides.{inside-or-past, same-or-other}
use Rattle.record_store.proofs.Weights.{some-slots}

behind-filled : (count now slot first : ℕ) (cells : List ℕ) → count ≤ now → slot < now → AreEmptyBehind count cells → AreEmptyBehind now (set cells slot first)
behind-filled count now slot first cells more taken empty = λ at past inside. elim (same-or-other at slot) [
  | inl same ↦ absurd (omega (arith, same, past, taken))
  | inr other ↦ get_or-set_other cells slot at first 0 other ∙ empty at (omega (arith, more, past)) (omega (arith, inside, length-set cells slot first))
]

behind-emptied : (count slot : ℕ) (cells : List ℕ) → AreEmptyBehind count cells → AreEmptyBehind count (set cells slot 65535)
behind-emptied count slot cells empty = λ at past inside.
    let before : at < length cells = omega (arith, inside, length-set cells slot 65535) in
    elim (same-or-other at slot) [
      | inl same ↦ rw same (get_or-set_same cells slot 65535 0 (omega (arith, same, before)))
      | inr other ↦ get_or-set_other cells slot at 65535 0 other ∙ empty at past before
    ]

pub in_use-finished : (held : HeldSoFar) (working : List ℕ) (tags : Tags) (count : ℕ) → working ≡ held.firsts → length held.firsts ≡ held.chains.cells → count ≤ length held.firsts → AreEmptyBehind count held.firsts → AreInUse (finished held working tags) count
in_use-finished held working tags count same size few empty = record { most = omega (arith, size, few); committed = empty; working = subst (AreEmptyBehind count) (sym same) empty }

pub in_use-emptied : (held : Held) (new : Cells) (slot count : ℕ) → new.cells ≡ held.chains.cells → AreInUse held count → AreInUse (record held { chains = new; working = set held.working slot 65535 }) count
in_use-emptied held new slot count cells kept = record { most = omega (arith, cells, kept.most); committed = kept.committed; working = behind-emptied count slot held.working kept.working }

pub in_use-filled : (held : Held) (new : Cells) (tags : Tags) (slot first octet count now : ℕ) → new.cells ≡ held.chains.cells → count ≤ now → slot < now → now ≤ held.chains.cells → AreInUse held count
    → AreInUse (record held { chains = new; working = set held.working slot first; first_octets = set held.first_octets first octet; tags = tags }) now
in_use-filled held new tags slot first octet count now cells more taken most kept = record {
  most = omega (arith, cells, most);
  committed = λ at past inside. kept.committed at (omega (arith, more, past)) inside;
  working = behind-filled count now slot first held.working more taken kept.working;
}

pub in_use-kept : (held : Held) (new : Cells) (count : ℕ) → new.cells ≡ held.chains.cells → AreInUse held count → AreInUse (record held { chains = new }) count
in_use-kept held new count cells kept = record { most = omega (arith, cells, kept.most); committed = kept.committed; working = kept.working }

pub in_use-rolled_back : (held : Held) (new : Cells) (tags : Tags) (now : List ℕ) (count : ℕ) → new.cells ≡ held.chains.cells → now ≡ held.committed → AreInUse held count → AreInUse (record held { chains = new; working = now; begun = false; tags = tags }) count
in_use-rolled_back held new tags now count cells same kept = record { most = omega (arith, cells, kept.most); committed = kept.committed; working = subst (AreEmptyBehind count) (sym same) kept.committed }

pub in_use-begun : (held : Held) (count : ℕ) → AreInUse held count → AreInUse (record held { begun = true }) count
in_use-begun held count kept = record { most = kept.most; committed = kept.committed; working = kept.working }

pub in_use-committed : (held : Held) (new : Cells) (tags : Tags) (now : List ℕ) (count : ℕ) → new.cells ≡ held.chains.cells → now ≡ held.working → AreInUse held count → AreInUse (record held { chains = new; committed = now; begun = false; tags = tags }) count
in_use-committed held new tags now count cells same kept = record { most = omega (arith, cells, kept.most); committed = subst (AreEmptyBehind count) (sym same) kept.working; working = kept.working }

-- the slots behind them have no records
pub in_use-empty : (held : Held) (count : ℕ) → IsSound held → AreInUse held count → (image : List ℕ) (side : Side) (slot : ℕ) → StandsFor held image → count ≤ slot → record_at held side slot image ≡ None
in_use-empty held count sound kept image side slot stands past = elim (inside-or-past slot (length (firsts held side))) [
  | inl inside ↦ record-nowhere held side slot 65535 (Some image) (sym (none side inside)) inside refl stands
  | inr behind ↦ (let there = some-slots (contents held side image) (contents-there held side image stands) in
      ap (λ (o : Option Slots). option_and_then (λ slots. slice_index_or slots slot None) o) there.1 ∙ slot-past there.0 slot (omega (arith, behind, slots-count image held.chains.cells (firsts held side) there.0 there.1)))
]
  where
    working-none : (begun : Bool) → slot < length (if begun then held.working else held.committed) → slice_index (if begun then held.working else held.committed) slot ≡ 65535
    working-none true inside = kept.working slot past inside
    working-none false inside = kept.committed slot past inside

    none : (side : Side) → slot < length (firsts held side) → slice_index (firsts held side) slot ≡ 65535
    none Committed inside = kept.committed slot past inside
    none Working inside = working-none held.begun inside
