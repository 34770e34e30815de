-- The chain of a slot, and its record.
use Rattle.std.proofs.Common.{◌≡◌, ℕ, zero, suc, ◌*◌, ◌<◌, ◌≢◌, ◌==◌, ◌&&◌, Bool, true, false, List, [], ◌∷◌, length, map, slice_index, slice_index_or, Option, Some, None, IsSome, option_and_then, IfSome, if◌then◌else◌, sym, refl, ap, ◌∙◌, arith, subst}
use Rattle.std.specs.List.{list_all}
use Rattle.std.proofs.lemmas.Bool.{and_parts, eqb-true}
use Rattle.std.proofs.lemmas.Option.{none-some, same_Some}
use Rattle.eeprom.specs.Chip.{Becomes}
use Rattle.eeprom.specs.StoreOf.{Slots, are_apart, chain_of, chains_of, is_record, no_cell, slot_of, slots_at}
use Rattle.cell_store.specs.Chains.{IsRecordChain}
use Rattle.cell_store.specs.Reading.{ReadsRecord}
use Rattle.eeprom.proofs.Chains.{chains-parts, chain-empty, chain-nowhere}
use Rattle.record_store.specs.declared.side.Side.{Side}
use Rattle.record_store.specs.declared.side.Side.TheVariants.{Committed, Working}
use Rattle.record_store.specs.Held.{AreKept, Held, StandsFor, contents, first_octet, firsts, record_at}

-- the chain of a slot
pub record ChainOf (image : List ℕ) (n : ℕ) (first : ℕ) (entry : Option (List ℕ)) : Type 0 where
  pub chain : List ℕ
  pub of : chain_of image n (2 * n) first ≡ Some chain
  pub is : is_record image n chain ≡ true
  pub entry_is : entry ≡ slot_of image n chain

chain-slot : (image : List ℕ) (n : ℕ) (firsts : List ℕ) (chains : List (List ℕ)) (slot : ℕ) → slot < length firsts → chains_of image n firsts ≡ Some chains → list_all (is_record image n) chains ≡ true
    → ChainOf image n (slice_index firsts slot) (slice_index_or (map (slot_of image n) chains) slot None)
chain-slot image n [] chains slot inside h all = absurd (omega arith)
chain-slot image n (first ∷ rest) chains zero inside h all =
    let parts = chains-parts (chain_of image n (2 * n) first) (chains_of image n rest) chains h in
    record {
      chain = parts.0;
      of = parts.2;
      is = (and_parts (is_record image n parts.0) (list_all (is_record image n) parts.1) (rw (parts.4) at all)).0;
      entry_is = ap (λ (all : List (List ℕ)). slice_index_or (map (slot_of image n) all) 0 None) parts.4;
    }
chain-slot image n (first ∷ rest) chains (suc slot) inside h all =
    let parts = chains-parts (chain_of image n (2 * n) first) (chains_of image n rest) chains h in
    subst (λ (all : List (List ℕ)). ChainOf image n (slice_index rest slot) (slice_index_or (map (slot_of image n) all) (suc slot) None)) (sym parts.4)
    (chain-slot image n rest parts.1 slot (omega arith) parts.3 (and_parts (is_record image n parts.0) (list_all (is_record image n) parts.1) (rw (parts.4) at all)).1)

entry-if : (image : List ℕ) (n : ℕ) (firsts : List ℕ) (slot : ℕ) → slot < length firsts → (chains : List (List ℕ)) → chains_of image n firsts ≡ Some chains
    → (all apart : Bool) → list_all (is_record image n) chains ≡ all → IsSome (if all && apart then Some (map (slot_of image n) chains) else None)
    → ChainOf image n (slice_index firsts slot) (option_and_then (λ slots. slice_index_or slots slot None) (if all && apart then Some (map (slot_of image n) chains) else None))
entry-if image n firsts slot inside chains e true true all h = chain-slot image n firsts chains slot inside e all
entry-if image n firsts slot inside chains e true false all h = absurd (cc)
entry-if image n firsts slot inside chains e false apart all h = absurd (cc)

entry-at : (image : List ℕ) (n : ℕ) (firsts : List ℕ) (slot : ℕ) → slot < length firsts → (chains : Option (List (List ℕ))) → chains_of image n firsts ≡ chains
    → IsSome (option_and_then (λ chains. if list_all (is_record image n) chains && are_apart n chains then Some (map (slot_of image n) chains) else None) chains)
    → ChainOf image n (slice_index firsts slot) (option_and_then (λ slots. slice_index_or slots slot None)
    (option_and_then (λ chains. if list_all (is_record image n) chains && are_apart n chains then Some (map (slot_of image n) chains) else None) chains))
entry-at image n firsts slot inside None e h = absurd (cc)
entry-at image n firsts slot inside (Some chains) e h = entry-if image n firsts slot inside chains e (list_all (is_record image n) chains) (are_apart n chains) refl h

pub chain-entry : (image : List ℕ) (n : ℕ) (firsts : List ℕ) (slot : ℕ) → slot < length firsts → IsSome (slots_at image n firsts)
    → ChainOf image n (slice_index firsts slot) (option_and_then (λ slots. slice_index_or slots slot None) (slots_at image n firsts))
chain-entry image n firsts slot inside h = entry-at image n firsts slot inside (chains_of image n firsts) refl h

pub contents-there : (held : Held) (side : Side) (image : List ℕ) → StandsFor held image → IsSome (contents held side image)
contents-there held side image stands = elim side as (λ side. IsSome (contents held side image)) [ Committed ↦ stands.committed | Working ↦ stands.working ]

-- a slot that begins at a cell has the record of its chain
record-told : (held : Held) (side : Side) (slot n first : ℕ) (image : List ℕ) → n ≡ held.chains.cells → first ≡ slice_index (firsts held side) slot → slot < length (firsts held side) → first ≢ 65535 → StandsFor held image
    → (chain : List ℕ) × IsRecordChain image n first chain × (record_at held side slot image ≡ slot_of image n chain)
record-told held side slot n first image cells start inside some stands =
    let entry = chain-entry image held.chains.cells (firsts held side) slot inside (contents-there held side image stands) in
    let there : 0 < length entry.chain = nonempty entry.chain entry.of in (
      entry.chain,
      subst (λ (n : ℕ). IsRecordChain image n first entry.chain) (sym cells) (subst (λ (first : ℕ). IsRecordChain image held.chains.cells first entry.chain) (sym start) (record { of = entry.of; is = entry.is; some = there })),
      entry.entry_is ∙ ap (λ (n : ℕ). slot_of image n entry.chain) (sym cells),
    )
  where
    nonempty : (chain : List ℕ) → chain_of image held.chains.cells (2 * held.chains.cells) (slice_index (firsts held side) slot) ≡ Some chain → 0 < length chain
    nonempty [] of = absurd (some (start ∙ chain-empty image held.chains.cells (2 * held.chains.cells) (slice_index (firsts held side) slot) of))
    nonempty (cell ∷ cells) of = omega arith

pub record-found : (held : Held) (side : Side) (slot n first : ℕ) (image : Option (List ℕ)) (out : List ℕ) → n ≡ held.chains.cells → first ≡ slice_index (firsts held side) slot → slot < length (firsts held side) → first ≢ 65535
    → IfSome image (StandsFor held) → IfSome image (λ image. (chain : List ℕ) → IsRecordChain image n first chain → slot_of image n chain ≡ Some out) → IfSome image (λ image. record_at held side slot image ≡ Some out)
record-found held side slot n first None out cells start inside some stands got = tt
record-found held side slot n first (Some image) out cells start inside some stands got =
    let told = record-told held side slot n first image cells start inside some stands in
    told.2 ∙ got told.0 told.1

pub record-read : (held : Held) (side : Side) (slot n first : ℕ) (image : Option (List ℕ)) (out : List ℕ) (old new : Option ℕ) → n ≡ held.chains.cells → first ≡ slice_index (firsts held side) slot → slot < length (firsts held side) → first ≢ 65535
    → IfSome image (StandsFor held) → IfSome image (λ image. (chain : List ℕ) → IsRecordChain image n first chain → Becomes (ReadsRecord (Some out)) old new) → IfSome image (λ _. Becomes (ReadsRecord (Some out)) old new)
record-read held side slot n first None out old new cells start inside some stands got = tt
record-read held side slot n first (Some image) out old new cells start inside some stands got =
    let told = record-told held side slot n first image cells start inside some stands in
    got told.0 told.1

-- one that begins nowhere has none
pub record-nowhere : (held : Held) (side : Side) (slot first : ℕ) (image : Option (List ℕ)) → first ≡ slice_index (firsts held side) slot → slot < length (firsts held side) → first ≡ 65535 → IfSome image (StandsFor held) → IfSome image (λ image. record_at held side slot image ≡ None)
record-nowhere held side slot first None start inside none stands = tt
record-nowhere held side slot first (Some image) start inside none stands =
    let entry = chain-entry image held.chains.cells (firsts held side) slot inside (contents-there held side image stands) in
    let at : slice_index (firsts held side) slot ≡ 65535 = sym start ∙ none in
    let no_chain : entry.chain ≡ [] = chain-nowhere image held.chains.cells (2 * held.chains.cells) entry.chain (rw at at entry.of) in
    entry.entry_is ∙ rw no_chain refl

-- and nothing is read of it
pub reads-nothing : (image : Option (List ℕ)) (count : Option ℕ) → IfSome image (λ _. Becomes (ReadsRecord None) count count)
reads-nothing None count = tt
reads-nothing (Some image) count = λ after e. (after, e, refl)

-- a slot in which no other chain begins has one record on both sides
pub same-record : (image : List ℕ) (n : ℕ) (committed working : List ℕ) (was now : Slots) (slot : ℕ) → slots_at image n committed ≡ Some was → slots_at image n working ≡ Some now → slot < length committed → slot < length working
    → slice_index working slot ≡ slice_index committed slot → slice_index_or now slot None ≡ slice_index_or was slot None
same-record image n committed working was now slot told_1 told_2 within there same =
    let first = subst (λ (o : Option Slots). ChainOf image n (slice_index committed slot) (option_and_then (λ slots. slice_index_or slots slot None) o)) told_1 (chain-entry image n committed slot within (rw told_1 refl)) in
    let last = subst (λ (o : Option Slots). ChainOf image n (slice_index working slot) (option_and_then (λ slots. slice_index_or slots slot None) o)) told_2 (chain-entry image n working slot there (rw told_2 refl)) in
    let chains : last.chain ≡ first.chain = same_Some last.chain first.chain (sym last.of ∙ (ap (chain_of image n (2 * n)) same ∙ first.of)) in
    last.entry_is ∙ (ap (slot_of image n) chains ∙ sym first.entry_is)

-- an empty slot begins nowhere
pub nowhere-empty : (octets firsts : List ℕ) (slots : Slots) (slot : ℕ) → AreKept octets firsts (Some slots) → slot < length firsts → slice_index_or slots slot None ≡ None → slice_index firsts slot ≡ no_cell
nowhere-empty octets firsts slots slot kept within empty = go (slice_index firsts slot == no_cell) refl (sym (ap first_octet empty) ∙ kept slot within)
  where
    go : (b : Bool) → (slice_index firsts slot == no_cell) ≡ b → None ≡ (if b then None else Some (slice_index octets (slice_index firsts slot))) → slice_index firsts slot ≡ no_cell
    go true is none = eqb-true (slice_index firsts slot) no_cell is
    go false is none = absurd (none-some (slice_index octets (slice_index firsts slot)) none)
