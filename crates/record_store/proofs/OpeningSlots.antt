-- A slot more of a store that is being opened, and the store once all slots were claimed.
use Rattle.std.proofs.Common.{◌≡◌, ℕ, ◌+◌, ◌*◌, ◌<◌, ◌≤◌, ◌≢◌, ◌||◌, inl, Bool, true, false, List, [], ◌∷◌, ◌++◌, length, length-append, map, take, drop, get_or, nat_le, Option, Some, None, IsSome, IfSome, Result, Ok, Err, IfOk, OnOk, option_map, sym, refl, ap, ◌∙◌, arith, subst}
use Rattle.std.specs.List.{list_all}
use Rattle.std.proofs.lemmas.Bool.Decides.{nat_tests}
use Rattle.std.proofs.lemmas.List.{map-append, take-map, take_all, take_more, length-take-le}
use Rattle.std.proofs.lemmas.List.Folds.{list_all-append}
use Rattle.std.proofs.lemmas.Option.{same_Some, none-some}
use Rattle.eeprom.specs.Chip.{Chip, Becomes, RisesBy}
use Rattle.eeprom.specs.StoreOf.{Slots, Stored, chain_of, chains_of, is_record, slot_of, slots_at, store_of, is_gate_open, written_directory, are_apart, cells_for, cells_of, weight_of}
use Rattle.cell_store.specs.Cells.{Cells, AreLinkedIn, all_free}
use Rattle.cell_store.specs.Chains.{AreFree, IsRecordChain, is_among}
use Rattle.cell_store.specs.Claims.{TakesChain, HasRecord, HasNoRecord}
use Rattle.eeprom.proofs.Chains.{chain-empty, chains-push, chains-take}
use Rattle.cell_store.proofs.Placements.{nowhere}
use Rattle.record_store.specs.Header.{IsHeaderOf}
use Rattle.record_store.specs.Tags.{Tags, SideTags, AreTags, HasTags, with_tags}
use Rattle.record_store.specs.declared.header.Header.{Header}
use Rattle.record_store.specs.Held.{Held, IsOver, IsRowLimit, AreKept, contents, stored, with_limit, StandsFor}
use Rattle.record_store.specs.Opening.{HeldSoFar, IsOverSoFar, StandsSoFar, IsSoundSoFar, TakesSlot, IsSlot, ReadsStore, front_octets, slots_so_far, slot_with, with_octet}
use Rattle.record_store.specs.Sound.{Claimed, IsSound, cells_in}
use Rattle.record_store.specs.declared.side.Side.TheVariants.{Committed}
use Rattle.record_store.proofs.ClaimedSlots.{all_free-range, claimed-start, linked-start, Claims, cells-more, claims-so_far, claims-record, claims-refused, claims-over, claimed-more, distinct-more, marked-claimed, takes-range}
use Rattle.record_store.proofs.FirstOctets.{both-sides, octets-more, length-with_octet, first-free, first-apart, slots-count}
use Rattle.record_store.proofs.SlotTags.{has-with, tags-same, tags-more}
use Rattle.record_store.proofs.Weights.{limited, store-begins, slots-chains, some-slots, header-room, cells-chains, chains-told}

-- so many octets were read until then
abbrev pub ReadsSoFar : HeldSoFar → ℕ → ℕ → Type 0
ReadsSoFar held = RisesBy (32 * held.weight)

-- What holds before each slot is claimed, of so many cells over this EEPROM, where so many octets had been read before the first and now.
pub record IsOpening (held : HeldSoFar) (slot cells : ℕ) (chip : Chip) (before now : Option ℕ) : Type 0 where
  pub claimed : held.claimed ≡ slot
  pub cells_are : held.chains.cells ≡ cells
  pub over : IsOverSoFar held chip
  pub few : held.weight ≤ held.chains.cells
  pub read : Becomes (ReadsSoFar held) before now

-- these cells, row limit, first cells, first octets and tags, with so many slots claimed and so many cells in their chains
abbrev pub held_of : Cells → ℕ → List ℕ → ℕ → ℕ → List ℕ → SideTags → HeldSoFar
held_of store limit firsts claimed weight octets tags = record { chains = store; row_limit = limit; firsts = firsts; claimed = claimed; weight = weight; first_octets = octets; tags = tags }

-- one slot more is claimed, whose chain has so many cells and whose record has these octets
abbrev pub with_slot : HeldSoFar → Cells → ℕ → List ℕ → HeldSoFar
with_slot held new count octets = held_of new held.row_limit held.firsts (held.claimed + 1) (held.weight + count) (with_octet held.first_octets (get_or held.firsts held.claimed 0) octets) (with_tags held.tags held.claimed octets)

-- the same octets and tags
pub held-same : (P : HeldSoFar → Type 0) (store : Cells) (limit : ℕ) (firsts : List ℕ) (claimed weight : ℕ) (octets was : List ℕ) (tags before : SideTags) → octets ≡ was → tags ≡ before → P (held_of store limit firsts claimed weight was before) → P (held_of store limit firsts claimed weight octets tags)
held-same P store limit firsts claimed weight octets was tags before octets_are tags_are p =
    subst (λ (octets : List ℕ). P (held_of store limit firsts claimed weight octets tags)) (sym octets_are) (subst (λ (tags : SideTags). P (held_of store limit firsts claimed weight was tags)) (sym tags_are) p)

slots-push : (image : List ℕ) (n : ℕ) (xs : List ℕ) (first : ℕ) (chains : List (List ℕ)) (chain : List ℕ) (slots : Slots) (entry : Option (List ℕ)) → chains_of image n xs ≡ Some chains → list_all (is_record image n) chains ≡ true → slots ≡ map (slot_of image n) chains
    → chain_of image n (2 * n) first ≡ Some chain → is_record image n chain ≡ true → slot_of image n chain ≡ entry → are_apart n (chains ++ chain ∷ []) ≡ true → slots_at image n (xs ++ first ∷ []) ≡ Some (slots ++ entry ∷ [])
slots-push image n xs first chains chain slots entry of records are there is entry_is apart =
    rw (chains-push image n xs first chains chain of there, list_all-append (is_record image n) chains (chain ∷ []), records, is, apart)
    (ap (λ (slots : Slots). Some slots) (map-append (slot_of image n) chains (chain ∷ []) ∙ (ap (λ (before : Slots). before ++ slot_of image n chain ∷ []) (sym are) ∙ ap (λ (entry : Option (List ℕ)). slots ++ entry ∷ []) entry_is)))

-- before the first slot
pub sound-begun : (n limit : ℕ) (firsts octets : List ℕ) (tags : SideTags) (store : Cells) → store ≡ all_free n → 16 ≤ n → n ≤ 2048 → IsRowLimit limit → length firsts ≡ n → length octets ≡ 2 * n → HasTags n tags → IsSoundSoFar (held_of store limit firsts 0 0 octets tags)
sound-begun n limit firsts octets tags store is few many rows count size tags_count = subst (λ (store : Cells). IsSoundSoFar (held_of store limit firsts 0 0 octets tags)) (sym is) (record {
  range = all_free-range n few many;
  rows = rows;
  count = count;
  octets_count = size;
  tags_count = tags_count;
  claimed = omega arith;
  chains = claimed-start n firsts;
})

pub stands-begun : (header : Header) (firsts octets : List ℕ) (tags : SideTags) (store : Cells) (image : Option (List ℕ)) → store ≡ all_free header.cells → IfSome image (λ image. IsHeaderOf image (record header { is_open = false })) → IfSome image (λ image. firsts ≡ written_directory image header.cells)
    → IfSome image (StandsSoFar (held_of store header.row_limit firsts 0 0 octets tags))
stands-begun header firsts octets tags store None is begins there = tt
stands-begun header firsts octets tags store (Some image) is begins there =
    let none : nat_le 0 header.cells ≡ true = grind (arith, nat_tests) in
    subst (λ (store : Cells). StandsSoFar (held_of store header.row_limit firsts 0 0 octets tags) image) (sym is) (record {
      begins = record { front = begins.front; header = begins.fields; cells = begins.cells; rows = begins.limit; closed = begins.gate; directory = sym there };
      links = linked-start header.cells image;
      claimed = rw none refl;
      octets = λ slot inside. absurd (omega (arith, inside));
      tags = rw none (record { names = λ slot octets there. absurd (none-some octets there); stamps = λ slot octets there. absurd (none-some octets there) });
    })

-- the chains in memory are those of the image, with their records
record ToldSoFar (held : HeldSoFar) (image : List ℕ) (chains : List (List ℕ)) (slots : Slots) : Type 0 where
  of : chains_of image held.chains.cells (take held.claimed held.firsts) ≡ Some chains
  records : list_all (is_record image held.chains.cells) chains ≡ true
  is : slots ≡ map (slot_of image held.chains.cells) chains

told-so_far : (held : HeldSoFar) (image : List ℕ) (slots : Slots) → (sound : IsSoundSoFar held) → StandsSoFar held image → slots_so_far held image ≡ Some slots → ToldSoFar held image sound.chains.slots.chains slots
told-so_far held image slots sound stands there =
    let n = held.chains.cells in
    let firsts = take held.claimed held.firsts in
    let c = sound.chains in
    let marked = marked-claimed held.chains firsts c.slots in
    let of : chains_of image n firsts ≡ Some sound.chains.slots.chains = chains-told image n held.chains.used held.chains.links firsts c.slots.chains sound.range.few sound.range.many sound.range.links_count stands.links marked c.slots.has.few c.slots.has.are in
    let t = slots-chains image n firsts slots there in
    let same : t.chains ≡ c.slots.chains = same_Some _ _ (sym t.of ∙ of) in
    record { of = of; records = subst (λ (chains : List (List ℕ)). list_all (is_record image n) chains ≡ true) same t.records; is = t.is ∙ ap (λ (chains : List (List ℕ)). map (slot_of image n) chains) same }

apart-more : (held : HeldSoFar) (chain : List ℕ) (count : ℕ) → (sound : IsSoundSoFar held) → AreFree held.chains.used chain → length chain ≡ count → held.weight + count ≤ held.chains.cells → are_apart held.chains.cells (sound.chains.slots.chains ++ chain ∷ []) ≡ true
apart-more held chain count sound free count_is fits =
    let c = sound.chains in
    let chains : List (List ℕ) = c.slots.chains ++ chain ∷ [] in
    let distinct = distinct-more held.chains (take held.claimed held.firsts) chain c.slots free in
    let total : length (cells_in chains) ≡ held.weight + count = ap (length {A = ℕ}) (cells-more c.slots.chains chain) ∙ (length-append (cells_in c.slots.chains) chain ∙ omega (arith, c.count_is, count_is)) in
    let few : nat_le (length (cells_in chains)) held.chains.cells ≡ true = grind (arith, nat_tests, total, fits) in
    rw (distinct, few) refl

-- the slots with the one that is claimed
next-slots : (held : HeldSoFar) (new : Cells) (count : ℕ) (octets image : List ℕ) (slots : Slots) → IsSoundSoFar held → held.claimed < held.chains.cells → TakesSlot (Some image) held.chains new (get_or held.firsts held.claimed 0) octets count
    → held.weight + count ≤ held.chains.cells → StandsSoFar held image → slots_so_far held image ≡ Some slots → slots_so_far (with_slot held new count octets) image ≡ Some (slots ++ slot_with octets ∷ [])
next-slots held new count octets image slots sound left takes fits stands before =
    let n = held.chains.cells in
    let first : ℕ = get_or held.firsts held.claimed 0 in
    let told = told-so_far held image slots sound stands before in
    let is = takes.told in
    let more : take (held.claimed + 1) held.firsts ≡ take held.claimed held.firsts ++ first ∷ [] = take_more held.firsts held.claimed 0 (omega (arith, left, sound.count)) in
    let pushed = slots-push image n (take held.claimed held.firsts) first sound.chains.slots.chains takes.chain.chain slots (slot_with octets) told.of told.records told.is is.of is.is is.slot (apart-more held takes.chain.chain count sound takes.chain.free takes.chain.count_is fits) in
    subst (λ (n : ℕ). slots_at image n (take (held.claimed + 1) held.firsts) ≡ Some (slots ++ slot_with octets ∷ [])) (sym takes.chain.cells)
    (subst (λ (firsts : List ℕ). slots_at image n firsts ≡ Some (slots ++ slot_with octets ∷ [])) (sym more) pushed)

pub slots-next : (held : HeldSoFar) (new : Cells) (count : ℕ) (octets : List ℕ) (image : Option (List ℕ)) → IsSoundSoFar held → held.claimed < held.chains.cells → TakesSlot image held.chains new (get_or held.firsts held.claimed 0) octets count
    → held.weight + count ≤ held.chains.cells → IfSome image (StandsSoFar held) → IfSome image (λ image. slots_so_far (with_slot held new count octets) image ≡ option_map (λ slots. slots ++ slot_with octets ∷ []) (slots_so_far held image))
slots-next held new count octets None sound left takes fits stands = tt
slots-next held new count octets (Some image) sound left takes fits stands =
    let slots = some-slots (slots_so_far held image) stands.claimed in
    next-slots held new count octets image slots.0 sound left takes fits stands slots.1 ∙ ap (λ (slots : Option Slots). option_map (λ slots. slots ++ slot_with octets ∷ []) slots) (sym slots.1)

-- an empty slot begins nowhere, and one with a record at a cell
slot-nowhere : (image : List ℕ) (n first : ℕ) (octets chain : List ℕ) → chain_of image n (2 * n) first ≡ Some chain → slot_of image n chain ≡ slot_with octets → octets ≡ [] → first ≡ 65535
slot-nowhere image n first octets [] of is none = chain-empty image n (2 * n) first of
slot-nowhere image n first octets (cell ∷ chain) of is none = absurd (let wrong : slot_of image n (cell ∷ chain) ≡ None = is ∙ ap slot_with none in none-some _ (sym wrong))

slot-some : (image : List ℕ) (n : ℕ) (octets chain : List ℕ) → slot_of image n chain ≡ slot_with octets → 1 ≤ length octets → 1 ≤ length chain
slot-some image n [] chain is some = absurd (omega (arith, some))
slot-some image n (octet ∷ octets) [] is some = absurd (none-some (octet ∷ octets) is)
slot-some image n (octet ∷ octets) (cell ∷ chain) is some = omega arith

pub octets-inside : (old new : Cells) (first count : ℕ) (octets : List ℕ) → TakesChain old new first count → count ≡ cells_of (slot_with octets) → 1 ≤ length octets → first < length new.links
octets-inside old new first count [] takes is some = absurd (omega (arith, some))
octets-inside old new first count (octet ∷ octets) takes is some = (first-free new.links old.used first takes.chain takes.linked takes.free (omega (arith, is, takes.count_is))).1

pub stands-next : (held : HeldSoFar) (new : Cells) (count : ℕ) (octets : List ℕ) (image : Option (List ℕ)) → IsSoundSoFar held → held.claimed < held.chains.cells → TakesSlot image held.chains new (get_or held.firsts held.claimed 0) octets count
    → IfSome image (λ image. AreLinkedIn held.chains image → AreLinkedIn new image) → held.weight + count ≤ held.chains.cells → IfSome image (StandsSoFar held) → IfSome image (StandsSoFar (with_slot held new count octets))
stands-next held new count octets None sound left takes links fits stands = tt
stands-next held new count octets (Some image) sound left takes links fits stands =
    let slots = some-slots (slots_so_far held image) stands.claimed in
    let first : ℕ = get_or held.firsts held.claimed 0 in
    let there = next-slots held new count octets image slots.0 sound left takes fits stands slots.1 in
    record {
      begins = record {
        front = stands.begins.front;
        header = stands.begins.header;
        cells = stands.begins.cells ∙ sym takes.chain.cells;
        rows = stands.begins.rows;
        closed = stands.begins.closed;
        directory = ap (written_directory image) takes.chain.cells ∙ stands.begins.directory;
      };
      links = links stands.links;
      claimed = rw there refl;
      tags = tags-same (with_tags held.tags held.claimed octets) (Some (slots.0 ++ slot_with octets ∷ [])) (slots_so_far (with_slot held new count octets) image) there
          (tags-more held.tags slots.0 held.claimed octets (slots-count image held.chains.cells (take held.claimed held.firsts) slots.0 slots.1 ∙ length-take-le held.claimed held.firsts (omega (arith, left, sound.count))) (omega (arith, left, sound.tags_count.names)) (omega (arith, left, sound.tags_count.stamps)) (subst (AreTags held.tags) slots.1 stands.tags));
      octets = both-sides (with_octet held.first_octets first octets) (take held.claimed held.firsts ++ first ∷ []) (take (held.claimed + 1) held.firsts) (Some (slots.0 ++ slot_with octets ∷ [])) (slots_so_far (with_slot held new count octets) image)
          (take_more held.firsts held.claimed 0 (omega (arith, left, sound.count))) there
          (octets-more held.first_octets (take held.claimed held.firsts) slots.0 first octets (slots-count image held.chains.cells (take held.claimed held.firsts) slots.0 slots.1) (slot-nowhere image held.chains.cells first octets takes.chain.chain takes.told.of takes.told.slot)
          (λ some. (let free = first-free new.links held.chains.used first takes.chain.chain takes.chain.linked takes.chain.free (slot-some image held.chains.cells octets takes.chain.chain takes.told.slot some) in
          let inside : first < 2 * held.chains.cells = omega (arith, free.1, takes.chain.links_count, sound.range.links_count) in
          let small : first < 65535 = omega (arith, inside, sound.range.many) in (
            omega (arith, inside, sound.octets_count),
            small,
            first-apart held.chains.links (take held.claimed held.firsts) sound.chains.slots.chains held.chains.used first sound.chains.slots.has.are (marked-claimed held.chains (take held.claimed held.firsts) sound.chains.slots) free.0 small,
          )))
          (subst (AreKept held.first_octets (take held.claimed held.firsts)) slots.1 stands.octets));
    }

pub sound-next : (held : HeldSoFar) (new : Cells) (count : ℕ) (octets : List ℕ) → IsSoundSoFar held → held.claimed < held.chains.cells → TakesChain held.chains new (get_or held.firsts held.claimed 0) count → held.weight + count ≤ held.chains.cells → IsSoundSoFar (with_slot held new count octets)
sound-next held new count octets sound left takes fits = record {
  range = takes-range held.chains new (get_or held.firsts held.claimed 0) count takes sound.range;
  rows = sound.rows;
  count = sound.count ∙ sym takes.cells;
  octets_count = length-with_octet held.first_octets (get_or held.firsts held.claimed 0) octets ∙ (sound.octets_count ∙ ap (λ (n : ℕ). 2 * n) (sym takes.cells));
  tags_count = subst (λ (n : ℕ). HasTags n (with_tags held.tags held.claimed octets)) (sym takes.cells) (has-with held.chains.cells held.tags held.claimed octets sound.tags_count);
  claimed = rw (takes.cells) (omega (arith, left));
  chains = claimed-more held.chains new held.firsts held.weight count held.claimed sound.range (omega (arith, left, sound.count)) takes fits sound.chains;
}

-- there is none where a slot can't be claimed, or with one cell too many
claims-held : (held : HeldSoFar) (image : List ℕ) → IsSoundSoFar held → StandsSoFar held image → Claims held.chains.cells held.firsts held.chains.used held.weight (drop held.claimed held.firsts) image
claims-held held image sound stands =
    let slots = some-slots (slots_so_far held image) stands.claimed in
    let told = told-so_far held image slots.0 sound stands slots.1 in
    claims-so_far held.chains held.firsts held.weight held.claimed image sound.range sound.chains told.of told.records

-- a chain that doesn't begin nowhere has a cell
some-cells : (image : List ℕ) (n first : ℕ) (chain : List ℕ) → first ≢ 65535 → chain_of image n (2 * n) first ≡ Some chain → 0 < length chain
some-cells image n first [] there of = absurd (there (chain-empty image n (2 * n) first of))
some-cells image n first (cell ∷ cells) there of = omega arith

pub store-refused : (held : HeldSoFar) (image : Option (List ℕ)) → IsSoundSoFar held → held.claimed < held.chains.cells → get_or held.firsts held.claimed 0 ≢ 65535 → IfSome image (HasNoRecord held.chains (get_or held.firsts held.claimed 0)) → IfSome image (StandsSoFar held)
    → IfSome image (λ image. store_of image ≡ None)
store-refused held None sound left there none stands = tt
store-refused held (Some image) sound left there none stands =
    let first : ℕ = get_or held.firsts held.claimed 0 in
    store-begins held.chains.cells held.row_limit held.firsts image stands.begins ∙ ap (with_limit held.row_limit) (claims-refused held.chains.cells held.firsts held.chains.used held.weight held.claimed image sound.range.used_count (omega (arith, left, sound.count))
    (λ chain of is free. none chain (record { of = of; is = is; some = some-cells image held.chains.cells first chain there of }) free) (claims-held held image sound stands))

pub store-over : (held : HeldSoFar) (new : Cells) (count : ℕ) (octets : List ℕ) (image : Option (List ℕ)) → IsSoundSoFar held → held.claimed < held.chains.cells → TakesSlot image held.chains new (get_or held.firsts held.claimed 0) octets count
    → held.chains.cells < held.weight + count → IfSome image (StandsSoFar held) → IfSome image (λ image. store_of image ≡ None)
store-over held new count octets None sound left takes over stands = tt
store-over held new count octets (Some image) sound left takes over stands =
    let first : ℕ = get_or held.firsts held.claimed 0 in
    store-begins held.chains.cells held.row_limit held.firsts image stands.begins ∙ ap (with_limit held.row_limit) (claims-over held.chains.cells held.firsts held.chains.used new.used held.weight count held.claimed image sound.range.used_count (omega (arith, left, sound.count)) over
    (claims-record held.chains new first count octets image takes) (claims-held held image sound stands))

-- once all slots were claimed
weight-held : (held : HeldSoFar) (image : List ℕ) (slots : Slots) → IsSoundSoFar held → StandsSoFar held image → slots_so_far held image ≡ Some slots → held.weight ≡ weight_of slots
weight-held held image slots sound stands there =
    let told = told-so_far held image slots sound stands there in
    let room = header-room image held.chains.cells stands.begins.header stands.begins.cells in
    let cells = cells-chains image held.chains.cells (take held.claimed held.firsts) sound.chains.slots.chains room told.of told.records in
    sym sound.chains.count_is ∙ (sym cells ∙ ap weight_of (sym told.is))

pub weight-finished : (held : HeldSoFar) (image : List ℕ) (slots : Slots) → IsSoundSoFar held → held.claimed ≡ held.chains.cells → StandsSoFar held image → slots_at image held.chains.cells held.firsts ≡ Some slots → held.weight ≡ weight_of slots
weight-finished held image slots sound all stands there =
    let whole : take held.claimed held.firsts ≡ held.firsts = take_all held.claimed held.firsts (omega (arith, all, sound.count)) in
    weight-held held image slots sound stands (ap (slots_at image held.chains.cells) whole ∙ there)

-- the store that is held then
abbrev pub finished : HeldSoFar → List ℕ → Tags → Held
finished held working tags = record { chains = held.chains; row_limit = held.row_limit; committed = held.firsts; working = working; begun = false; first_octets = held.first_octets; tags = tags }

pub stands-finished : (held : HeldSoFar) (working : List ℕ) (tags : Tags) (image : List ℕ) → tags.committed ≡ held.tags → length held.firsts ≡ held.chains.cells → held.claimed ≡ held.chains.cells → StandsSoFar held image → StandsFor (finished held working tags) image
stands-finished held working tags image tags_are count all stands =
    let whole : take held.claimed held.firsts ≡ held.firsts = take_all held.claimed held.firsts (omega (arith, all, count)) in
    let same : slots_at image held.chains.cells held.firsts ≡ slots_so_far held image = ap (slots_at image held.chains.cells) (sym whole) in
    let there : IsSome (slots_at image held.chains.cells held.firsts) = subst (λ (o : Option Slots). IsSome o) (sym same) stands.claimed in
    let octets : AreKept held.first_octets held.firsts (slots_at image held.chains.cells held.firsts) =
    both-sides held.first_octets (take held.claimed held.firsts) held.firsts (slots_so_far held image) (slots_at image held.chains.cells held.firsts) (sym whole) same stands.octets in
    let here : AreTags tags.committed (slots_at image held.chains.cells held.firsts) = subst (λ (tags : SideTags). AreTags tags (slots_at image held.chains.cells held.firsts)) (sym tags_are) (tags-same held.tags (slots_so_far held image) (slots_at image held.chains.cells held.firsts) same stands.tags) in
    record { begins = stands.begins; links = stands.links; committed = there; working = there; committed_octets = octets; working_octets = octets; committed_tags = here; working_tags = here }

pub sound-finished : (held : HeldSoFar) (working : List ℕ) (tags : Tags) → IsSoundSoFar held → held.claimed ≡ held.chains.cells → length working ≡ held.chains.cells
    → IsSound (finished held working tags)
sound-finished held working tags sound all count =
    let c : Claimed held.chains held.firsts = subst (Claimed held.chains) (take_all held.claimed held.firsts (omega (arith, all, sound.count))) sound.chains.slots in
    record {
      range = sound.range;
      rows = sound.rows;
      committed_count = sound.count;
      working_count = count;
      octets_count = sound.octets_count;
      sides = record { committed = c.chains; working = c.chains; committed_has = c.has; working_has = c.has; beside = λ slot. inl refl; used = λ cell. c.used cell ∙ sym (both (is_among cell (cells_in c.chains))) };
    }
  where
    both : (b : Bool) → (b || b) ≡ b
    both true = refl
    both false = refl

-- an empty slot has no cell
pub slot-empty : (store : Cells) (first : ℕ) (octets : List ℕ) (image : Option (List ℕ)) → first ≡ 65535 → octets ≡ [] → TakesSlot image store store first octets 0
slot-empty store first octets image none empty = record {
  chain = record { chain = []; linked = none; free = record { free = tt; distinct = refl }; count_is = refl; short = omega arith; used = refl; stay = λ cell is. refl; cells = refl; links_count = refl };
  told = told image;
}
  where
    told : (image : Option (List ℕ)) → IfSome image (λ image. IsSlot image store.cells first octets [])
    told None = tt
    told (Some image) = record { of = rw none (nowhere image store.cells (2 * store.cells)); is = refl; slot = rw empty refl }

pub with-octets : (octets : List ℕ) → 1 ≤ length octets → Some octets ≡ slot_with octets
with-octets [] some = absurd (omega (arith, some))
with-octets (octet ∷ octets) some = refl

pub cells-with : (octets : List ℕ) → 1 ≤ length octets → cells_for (length octets) ≡ cells_of (slot_with octets)
cells-with octets some = ap cells_of (with-octets octets some)

slot-taken : (old new : Cells) (first count : ℕ) (octets : List ℕ) (image : Option (List ℕ)) → TakesChain old new first count → IfSome image (HasRecord new first) → IfSome image (λ image. (chain : List ℕ) → IsRecordChain image old.cells first chain → slot_of image old.cells chain ≡ Some octets)
    → 1 ≤ length octets → TakesSlot image old new first octets count
slot-taken old new first count octets image takes there reads some = record { chain = takes; told = told image there reads }
  where
    told : (image : Option (List ℕ)) → IfSome image (HasRecord new first) → IfSome image (λ image. (chain : List ℕ) → IsRecordChain image old.cells first chain → slot_of image old.cells chain ≡ Some octets) → IfSome image (λ image. IsSlot image old.cells first octets takes.chain)
    told None there reads = tt
    told (Some image) there reads =
        let is : IsRecordChain image old.cells first takes.chain = subst (λ (n : ℕ). IsRecordChain image n first takes.chain) takes.cells (there takes.chain takes.linked) in
        record { of = is.of; is = is.is; slot = reads takes.chain is ∙ with-octets octets some }

-- where it was claimed
pub result-taken : {E : Type 0} (result : Result ℕ E) (old new : Cells) (first : ℕ) (octets : List ℕ) (image : Option (List ℕ)) → IfOk result (λ count. TakesChain old new first count) → OnOk result (IfSome image (HasRecord new first))
    → OnOk result (IfSome image (λ image. (chain : List ℕ) → IsRecordChain image old.cells first chain → slot_of image old.cells chain ≡ Some octets)) → OnOk result (1 ≤ length octets) → IfOk result (λ count. TakesSlot image old new first octets count)
result-taken (Ok count) old new first octets image takes there reads some = slot-taken old new first count octets image takes there reads some
result-taken (Err e) old new first octets image takes there reads some = tt

pub result-count : {E : Type 0} (result : Result ℕ E) (octets : List ℕ) → IfOk result (λ count. count ≡ cells_for (length octets)) → OnOk result (1 ≤ length octets) → IfOk result (λ count. count ≡ cells_of (slot_with octets))
result-count (Ok count) octets is some = is ∙ cells-with octets some
result-count (Err e) octets is some = tt

-- what is said of an opened store, where its image is told
finished-stands : (held : HeldSoFar) (store : Held) (image : Option (List ℕ)) → ((image : List ℕ) → StandsSoFar held image → StandsFor store image) → IfSome image (StandsSoFar held) → IfSome image (StandsFor store)
finished-stands held store None finished stands = tt
finished-stands held store (Some image) finished stands = finished image stands

pub finished-over : (held : HeldSoFar) (store : Held) (chip : Chip) → ((image : List ℕ) → StandsSoFar held image → StandsFor store image) → store.chains.cells ≡ held.chains.cells → IsOverSoFar held chip → IsOver store chip
finished-over held store chip finished cells over = record { room = rw cells over.room; stands = finished-stands held store chip.image finished over.stands }

pub finished-opened : (held : HeldSoFar) (store : Held) (image : Option (List ℕ)) → ((image : List ℕ) → StandsSoFar held image → store_of image ≡ stored store Committed image) → IfSome image (StandsSoFar held) → IfSome image (λ image. store_of image ≡ stored store Committed image)
finished-opened held store None opened stands = tt
finished-opened held store (Some image) opened stands = opened image stands

pub finished-read : (held : HeldSoFar) (store : Held) (image : Option (List ℕ)) (old mid new : Option ℕ) → ((image : List ℕ) → StandsSoFar held image → store_of image ≡ stored store Committed image)
    → ((image : List ℕ) (slots : Slots) → StandsSoFar held image → contents store Committed image ≡ Some slots → held.weight ≡ weight_of slots) → store.chains.cells ≡ held.chains.cells → IfSome image (StandsSoFar held)
    → Becomes (RisesBy (front_octets held.chains.cells)) old mid → Becomes (ReadsSoFar held) mid new → IfSome image (λ image. (was : Stored) → store_of image ≡ Some was → Becomes (ReadsStore store.chains.cells was.slots) old new)
finished-read held store None old mid new opened weight cells stands front read = tt
finished-read held store (Some image) old mid new opened weight cells stands front read = λ was there.
    let weighs : held.weight ≡ weight_of was.slots = weight image was.slots stands (limited store.row_limit (contents store Committed image) was (sym (opened image stands) ∙ there)).0 in
    λ after told.
    let second = read after told in
    let first = front second.0 second.1 in
    (first.0, first.1, omega (arith, cells, weighs, first.2, second.2))

-- where its gate was closed all along
pub read-told : (held : HeldSoFar) (store : Held) (old new : Chip) (a b c : Option ℕ) → IfSome old.image (λ image. is_gate_open image ≡ false → new ≡ old) → ((image : List ℕ) → StandsSoFar held image → store_of image ≡ stored store Committed image)
    → ((image : List ℕ) (slots : Slots) → StandsSoFar held image → contents store Committed image ≡ Some slots → held.weight ≡ weight_of slots) → store.chains.cells ≡ held.chains.cells → IfSome new.image (StandsSoFar held)
    → IfSome old.image (λ image. is_gate_open image ≡ false → Becomes (RisesBy (front_octets held.chains.cells)) a b) → Becomes (ReadsSoFar held) b c
    → IfSome old.image (λ image. (was : Stored) → store_of image ≡ Some was → is_gate_open image ≡ false → Becomes (ReadsStore store.chains.cells was.slots) a c)
read-told held store old new a b c closed opened weight cells stands front read = cases old.image refl closed front
  where
    cases : (image : Option (List ℕ)) → old.image ≡ image → IfSome image (λ image. is_gate_open image ≡ false → new ≡ old) → IfSome image (λ image. is_gate_open image ≡ false → Becomes (RisesBy (front_octets held.chains.cells)) a b)
        → IfSome image (λ image. (was : Stored) → store_of image ≡ Some was → is_gate_open image ≡ false → Becomes (ReadsStore store.chains.cells was.slots) a c)
    cases None is closed front = tt
    cases (Some image) is closed front = λ was there shut.
        let same : new.image ≡ Some image = ap (λ (chip : Chip). chip.image) (closed shut) ∙ is in
        finished-read held store (Some image) a b c opened weight cells (subst (λ (o : Option (List ℕ)). IfSome o (StandsSoFar held)) same stands) (front shut) read was there

-- the slots that were claimed are the first ones of the image's store
pub so_far-first : (held : HeldSoFar) (image : List ℕ) (was : Stored) → StandsSoFar held image → store_of image ≡ Some was → slots_so_far held image ≡ Some (take held.claimed was.slots)
so_far-first held image was stands there =
    let n = held.chains.cells in
    let slots = was.slots in
    let whole = slots-chains image n held.firsts slots (limited held.row_limit (slots_at image n held.firsts) was (sym (store-begins held.chains.cells held.row_limit held.firsts image stands.begins) ∙ there)).0 in
    let some = some-slots (slots_so_far held image) stands.claimed in
    let part = slots-chains image n (take held.claimed held.firsts) some.0 some.1 in
    let same : part.chains ≡ take held.claimed whole.chains = same_Some _ _ (sym part.of ∙ chains-take image n held.firsts whole.chains held.claimed whole.of) in
    let is : some.0 ≡ take held.claimed slots = part.is ∙ (ap (λ (chains : List (List ℕ)). map (slot_of image n) chains) same ∙ (sym (take-map (slot_of image n) held.claimed whole.chains) ∙ ap (λ (slots : Slots). take held.claimed slots) (sym whole.is))) in
    some.1 ∙ ap (λ (slots : Slots). Some slots) is
