-- A slot of a store in memory that is emptied and filled again, and a transaction that ends.
use Rattle.std.proofs.Common.{◌≡◌, ◌≢◌, inl, inr, ℕ, ◌+◌, ◌*◌, ◌<◌, ◌≤◌, ◌&&◌, not, Bool, true, false, List, [], length, set, get_or, slice_index, Option, Some, None, IfSome, sym, refl, ap, ◌∙◌, arith, subst, true≢false}
use Rattle.std.proofs.lemmas.List.{get_or-set_same, length-set}
use Rattle.eeprom.specs.Chip.{Chip, Becomes, Keeps}
use Rattle.eeprom.specs.StoreOf.{store_of}
use Rattle.cell_store.specs.Cells.{Cells, cells_from, IsUsedChain, freed, link_in}
use Rattle.cell_store.specs.Chains.{AreLinked, is_among}
use Rattle.cell_store.specs.Claims.{TakesChain}
use Rattle.cell_store.specs.Marks.{StaysMarked, is_marked, unmarked}
use Rattle.cell_store.specs.Placed.{KeepsMarked}
use Rattle.cell_store.specs.Writing.{IsWritten, KeepsChains}
use Rattle.cell_store.proofs.Marking.{unmarked-with}
use Rattle.record_store.specs.Held.{Held, StandsFor, firsts}
use Rattle.record_store.specs.Put.{IsPut, emptied}
use Rattle.record_store.specs.Slots.{steps_without, AreUsedChains, AreReplaced}
use Rattle.record_store.specs.Sound.{AreChains, IsSound}
use Rattle.record_store.specs.Tags.{Tags, both_sides}
use Rattle.record_store.specs.declared.side.Side.TheVariants.{Working}
use Rattle.record_store.proofs.Putting.{HasRoom, emptied-room, keeps-store, put-emptied, stands-emptied}
use Rattle.record_store.proofs.SlotTags.{PutsTag}
use Rattle.record_store.proofs.Sides.{after_commit, put_into, Frees, all-among, chain-at, chains-stay, committed-marked, working-marked, working-used, in-chains, put_in-takes, sound-emptied, sound-put, sound-committed, sound-rolled_back}

-- the store of cells is another one, and all else is as it was
abbrev pub with_cells : Held → Cells → Held
with_cells held new = record held { chains = new }

same-cells : (P : Held → Type 0) (held : Held) (new : Cells) → new.cells ≡ held.chains.cells → new.links ≡ held.chains.links → P (with_cells held (cells_from held.chains.cells new.used held.chains.links)) → P (with_cells held new)
same-cells P held new cells links p =
    subst (λ (n : ℕ). P (with_cells held (cells_from n new.used new.links))) (sym cells) (subst (λ (links : List ℕ). P (with_cells held (cells_from held.chains.cells new.used links))) (sym links) p)

and-parts : (a b : Bool) → (a && not b) ≡ true → (a ≡ true) × (b ≡ false)
and-parts true true h = absurd (true≢false (sym h))
and-parts true false h = (refl, refl)
and-parts false b h = absurd (true≢false (sym h))

-- the chain of a working slot
working-chain : (held : Held) (sound : IsSound held) (slot first : ℕ) → held.begun ≡ true → slot < held.chains.cells → first ≡ slice_index held.working slot → IsUsedChain held.chains first (get_or sound.sides.working slot [])
working-chain held sound slot first begun inside is =
    let k = sound.sides in
    let working_is : firsts held Working ≡ held.working = rw begun refl in
    let at = chain-at held.chains.links held.working k.working slot (subst (λ (firsts : List ℕ). AreChains held.chains.links firsts k.working) working_is k.working_has.are) (omega (arith, inside, sound.working_count)) in
    record {
      linked = subst (λ (first : ℕ). AreLinked (link_in held.chains.links) (length held.chains.links) first (get_or k.working slot [])) (sym is) at.0;
      used = all-among (λ cell. is_marked held.chains.used cell ≡ true) (get_or k.working slot []) (λ cell here. working-used held k cell (in-chains cell k.working slot here));
      short = at.1;
    }

-- the working chain of a slot is freed where it isn't the committed one
pub freed-sound : (held : Held) (new : Cells) (slot first : ℕ) → IsSound held → held.begun ≡ true → slot < held.chains.cells → first ≡ slice_index held.working slot → first ≢ slice_index held.committed slot
    → ((chain : List ℕ) → IsUsedChain held.chains first chain → new ≡ freed held.chains chain) → new.cells ≡ held.chains.cells → new.links ≡ held.chains.links → length new.used ≡ length held.chains.used
    → IsSound (record held { chains = new; working = set held.working slot 65535 })
freed-sound held new slot first sound begun inside is other frees cells links size =
    same-cells (λ (h : Held). IsSound (record h { working = set held.working slot 65535 })) held new cells links
    (sound-emptied held slot new.used sound begun inside size (record {
      less = λ cell marked. (let parts = and-parts (is_marked held.chains.used cell) (is_among cell chain) (sym (marks cell) ∙ marked) in (parts.0, λ unlike. parts.1));
      rest = λ cell marked either. elim either [
        | inl alike ↦ absurd (other (is ∙ alike))
        | inr apart ↦ marks cell ∙ rw (marked, apart) refl
      ];
    }))
  where
    chain : List ℕ
    chain = get_or sound.sides.working slot []

    marks : (cell : ℕ) → is_marked new.used cell ≡ (is_marked held.chains.used cell && not (is_among cell chain))
    marks cell = ap (λ (store : Cells). is_marked store.used cell) (frees chain (working-chain held sound slot first begun inside is)) ∙ unmarked-with held.chains.used chain cell

pub kept-sound : (held : Held) (slot : ℕ) → IsSound held → held.begun ≡ true → slot < held.chains.cells → slice_index held.working slot ≡ slice_index held.committed slot → IsSound (emptied held slot held.chains.used)
kept-sound held slot sound begun inside same = sound-emptied held slot held.chains.used sound begun inside refl (record {
  less = λ cell marked. (marked, λ unlike. absurd (unlike same));
  rest = λ cell marked either. marked;
})

-- A slot was emptied, for a record of so many cells that there is room for.
pub record Emptied (held mid : Held) (used : List Bool) (slot weight count : ℕ) : Type 0 where
  pub sound : IsSound held
  pub mid_sound : IsSound mid
  pub is : mid ≡ emptied held slot used
  pub fewer : StaysMarked used held.chains.used
  pub begun : held.begun ≡ true
  pub inside : slot < held.chains.cells
  pub weight_is : weight ≡ steps_without held.chains.links held.working slot
  pub fits : weight + count ≤ held.chains.cells

room : (held mid : Held) (used : List Bool) (slot weight count : ℕ) (e : Emptied held mid used slot weight count) → HasRoom held mid slot weight e.mid_sound
room held mid used slot weight count e =
    let any : (next : IsSound (emptied held slot used)) → HasRoom held (emptied held slot used) slot weight next = λ next. emptied-room held slot weight used e.sound next e.begun e.inside e.weight_is in
    let all : (next : IsSound mid) → HasRoom held mid slot weight next = subst (λ (mid : Held). (next : IsSound mid) → HasRoom held mid slot weight next) (sym e.is) any in
    all e.mid_sound

pub room-enough : (held mid : Held) (used : List Bool) (slot weight count : ℕ) → Emptied held mid used slot weight count → count ≤ unmarked mid.chains.used
room-enough held mid used slot weight count e = omega (arith, (room held mid used slot weight count e).free, e.fits)

pub filled-sound : (held mid : Held) (used : List Bool) (slot weight count first octet : ℕ) (new : Cells) (tags : Tags) → Emptied held mid used slot weight count → TakesChain mid.chains new first count
    → IsSound (record mid { chains = new; working = set mid.working slot first; first_octets = set mid.first_octets first octet; tags = tags })
filled-sound held mid used slot weight count first octet new tags e takes =
    let r = room held mid used slot weight count e in
    let cells : mid.chains.cells ≡ held.chains.cells = ap (λ (h : Held). h.chains.cells) e.is in
    let begun : mid.begun ≡ true = ap (λ (h : Held). h.begun) e.is ∙ e.begun in
    let empty : slice_index mid.working slot ≡ 65535 = ap (λ (h : Held). slice_index h.working slot) e.is ∙ get_or-set_same held.working slot 65535 0 (omega (arith, e.inside, e.sound.working_count)) in
    let done = sound-put mid slot first count new.used new.links (set mid.first_octets first octet) tags e.mid_sound (length-set mid.first_octets first octet) begun (omega (arith, e.inside, cells)) empty (put_in-takes mid new first count takes) (omega (arith, r.cells, e.fits, cells)) in
    subst (λ (n : ℕ). IsSound (record mid { chains = cells_from n new.used new.links; working = set mid.working slot first; first_octets = set mid.first_octets first octet; tags = tags })) (sym takes.cells) done

-- a write that failed left the chains as they were
pub failed-sound : (held : Held) (new : Cells) → IsSound held → KeepsChains held.chains new → IsSound (with_cells held new)
failed-sound held new sound keeps =
    let k = sound.sides in
    let at : IsSound (with_cells held (cells_from held.chains.cells held.chains.used new.links)) =
    record {
      range = record { few = sound.range.few; many = sound.range.many; used_count = sound.range.used_count; links_count = keeps.links_count ∙ sound.range.links_count };
      rows = sound.rows;
      committed_count = sound.committed_count;
      working_count = sound.working_count;
      octets_count = sound.octets_count;
      sides = record {
        committed = k.committed;
        working = k.working;
        committed_has = record { are = chains-stay held.chains.used held.chains.links new.links held.committed k.committed keeps.links_count keeps.stay (committed-marked held k) k.committed_has.are; distinct = k.committed_has.distinct; few = k.committed_has.few };
        working_has = record { are = chains-stay held.chains.used held.chains.links new.links (firsts held Working) k.working keeps.links_count keeps.stay (working-marked held k) k.working_has.are; distinct = k.working_has.distinct; few = k.working_has.few };
        beside = k.beside;
        used = k.used;
      };
    } in
    subst (λ (n : ℕ). IsSound (with_cells held (cells_from n new.used new.links))) (sym keeps.cells) (subst (λ (used : List Bool). IsSound (with_cells held (cells_from held.chains.cells used new.links))) (sym keeps.used) at)

-- the record is there then
put-into : (held mid : Held) (used : List Bool) (slot first count octet : ℕ) (new : Cells) (tags : Tags) (octets was now : List ℕ) → first < 2 * held.chains.cells → octet ≡ slice_index octets 0 → PutsTag held.tags slot octets tags → IsSound held → held.begun ≡ true → slot < held.chains.cells → StaysMarked used held.chains.used → mid ≡ emptied held slot used → IsSound mid
    → IsSound (record mid { chains = new; working = set mid.working slot first; first_octets = set mid.first_octets first octet; tags = tags })
    → StandsFor held was → TakesChain mid.chains new first count → IsWritten mid.chains new first octets was now
    → IsPut held (record mid { chains = new; working = set mid.working slot first; first_octets = set mid.first_octets first octet; tags = tags }) slot octets was now
put-into held mid used slot first count octet new tags octets was now there octet_is put_tag sound begun inside fewer is =
    subst (λ (mid : Held). IsSound mid → IsSound (filled mid) → StandsFor held was → TakesChain mid.chains new first count → IsWritten mid.chains new first octets was now → IsPut held (filled mid) slot octets was now) (sym is)
    (λ mid_sound next_sound stands takes written.
    let cells : new.cells ≡ held.chains.cells = takes.cells in
    let next : IsSound (put_into (emptied held slot used) slot first new.used new.links (set held.first_octets first octet) tags) = subst (λ (n : ℕ). IsSound (record held { chains = cells_from n new.used new.links; working = set (set held.working slot 65535) slot first; first_octets = set held.first_octets first octet; tags = tags })) cells next_sound in
    let same : new ≡ cells_from held.chains.cells new.used new.links = ap (λ (n : ℕ). cells_from n new.used new.links) cells in
    let put = put-emptied held slot first count used new.used new.links (set held.first_octets first octet) tags octets was now sound mid_sound next (record { inside = there; kept_is = ap (set held.first_octets first) octet_is; tag = put_tag }) begun inside fewer stands
    (subst (λ (new : Cells). TakesChain (emptied held slot used).chains new first count) same takes) (subst (λ (new : Cells). IsWritten (emptied held slot used).chains new first octets was now) same written) in
    subst (λ (n : ℕ). IsPut held (record held { chains = cells_from n new.used new.links; working = set (set held.working slot 65535) slot first; first_octets = set held.first_octets first octet; tags = tags }) slot octets was now) (sym cells) put)
  where
    filled : Held → Held
    filled mid = record mid { chains = new; working = set mid.working slot first; first_octets = set mid.first_octets first octet; tags = tags }

pub filled-becomes : (held mid : Held) (used : List Bool) (slot weight count first octet : ℕ) (new : Cells) (tags : Tags) (octets : List ℕ) (old now : Option (List ℕ)) → first < 2 * held.chains.cells → octet ≡ slice_index octets 0 → PutsTag mid.tags slot octets tags → Emptied held mid used slot weight count → IfSome old (StandsFor held) → TakesChain mid.chains new first count
    → Becomes (IsWritten mid.chains new first octets) old now
    → Becomes (IsPut held (record mid { chains = new; working = set mid.working slot first; first_octets = set mid.first_octets first octet; tags = tags }) slot octets) old now
filled-becomes held mid used slot weight count first octet new tags octets old now inside octet_is put_tag e stands takes written = λ image told.
    let from = written image told in
    let there : StandsFor held from.0 = rw (from.1) at stands in
    let next = filled-sound held mid used slot weight count first octet new tags e takes in
    let tag : PutsTag held.tags slot octets tags = subst (λ (was : Tags). PutsTag was slot octets tags) (ap (λ (h : Held). h.tags) e.is) put_tag in
    (from.0, from.1, put-into held mid used slot first count octet new tags octets from.0 image inside octet_is tag e.sound e.begun e.inside e.fewer e.is e.mid_sound next there takes from.2)

-- at each moment of the writing the store of the image is as it was
pub filled-keeps : (held mid : Held) (used marks : List Bool) (slot weight count n : ℕ) (old new : Chip) → Emptied held mid used slot weight count → IfSome old.image (StandsFor held) → marks ≡ mid.chains.used → n ≡ mid.chains.cells → KeepsMarked marks n old new → Keeps store_of old new
filled-keeps held mid used marks slot weight count n old new e stands marks_are cells keeps = keeps-store mid marks n old new cells marks_are e.mid_sound (told old.image stands) keeps
  where
    told : (image : Option (List ℕ)) → IfSome image (StandsFor held) → IfSome image (StandsFor mid)
    told None stands = tt
    told (Some image) stands = subst (λ (mid : Held). StandsFor mid image) (sym e.is) (stands-emptied held slot used image e.sound (subst IsSound e.is e.mid_sound) e.begun e.inside e.fewer stands).stands

-- a transaction is rolled back, and its chains are freed
pub rollback-sound : (held : Held) (new : Cells) (replaced kept : List ℕ) → IsSound held → held.begun ≡ true → replaced ≡ held.working → kept ≡ held.committed → new.cells ≡ held.chains.cells → new.links ≡ held.chains.links
    → ((chains : List (List ℕ)) → AreUsedChains held.chains replaced chains → (cell : ℕ) → is_marked new.used cell ≡ true → AreReplaced replaced kept chains (length replaced) cell → ⊥)
    → ((chains : List (List ℕ)) → AreUsedChains held.chains replaced chains → (cell : ℕ) → is_marked held.chains.used cell ≡ true → ¬ (AreReplaced replaced kept chains (length replaced) cell) → is_marked new.used cell ≡ true)
    → StaysMarked new.used held.chains.used → length new.used ≡ length held.chains.used
    → IsSound (record held { chains = new; begun = false })
rollback-sound held new replaced others sound begun first second cells links freed rest fewer size =
    let frees : Frees held replaced others new.used = record { freed = freed; others = rest; fewer = fewer; count_is = size } in
    let at = subst (λ (others : List ℕ). Frees held held.working others new.used) second (subst (λ (replaced : List ℕ). Frees held replaced others new.used) first frees) in
    same-cells (λ (h : Held). IsSound (record h { begun = false })) held new cells links
    (sound-rolled_back held new.used sound begun at)

-- a store is sound with any tags
pub tagged-sound : (held : Held) (tags : Tags) → IsSound held → IsSound (record held { tags = tags })
tagged-sound held tags s = record {
  range = s.range;
  rows = s.rows;
  committed_count = s.committed_count;
  working_count = s.working_count;
  octets_count = s.octets_count;
  sides = record { committed = s.sides.committed; working = s.sides.working; committed_has = s.sides.committed_has; working_has = s.sides.working_has; beside = s.sides.beside; used = s.sides.used };
}

-- it is committed, and what was committed before is freed
pub commit-sound : (held : Held) (new : Cells) (tags : Tags) (working : List ℕ) (replaced kept : List ℕ) → IsSound held → held.begun ≡ true → replaced ≡ held.committed → kept ≡ held.working → new.cells ≡ held.chains.cells → new.links ≡ held.chains.links → working ≡ held.working
    → ((chains : List (List ℕ)) → AreUsedChains held.chains replaced chains → (cell : ℕ) → is_marked new.used cell ≡ true → AreReplaced replaced kept chains (length replaced) cell → ⊥)
    → ((chains : List (List ℕ)) → AreUsedChains held.chains replaced chains → (cell : ℕ) → is_marked held.chains.used cell ≡ true → ¬ (AreReplaced replaced kept chains (length replaced) cell) → is_marked new.used cell ≡ true)
    → StaysMarked new.used held.chains.used → length new.used ≡ length held.chains.used
    → IsSound (record held { chains = new; committed = working; begun = false; tags = tags })
commit-sound held new tags working replaced others sound begun first second cells links working_is freed rest fewer size =
    let frees : Frees held replaced others new.used = record { freed = freed; others = rest; fewer = fewer; count_is = size } in
    let at = subst (λ (others : List ℕ). Frees held held.committed others new.used) second (subst (λ (replaced : List ℕ). Frees held replaced others new.used) first frees) in
    let done = same-cells (λ (h : Held). IsSound (record h { committed = h.working; begun = false; tags = tags })) held new cells links
    (tagged-sound (after_commit held new.used) tags (sound-committed held new.used sound begun at)) in
    subst (λ (working : List ℕ). IsSound (record held { chains = new; committed = working; begun = false; tags = tags })) (sym working_is) done

pub commit-view : (held : Held) (new : Cells) (tags : Tags) (limit : ℕ) (committed working octets : List ℕ) → new.cells ≡ held.chains.cells → new.links ≡ held.chains.links → limit ≡ held.row_limit → committed ≡ held.working → working ≡ held.working → octets ≡ held.first_octets → tags ≡ both_sides held.tags.working
    → record { chains = new; row_limit = limit; committed = committed; working = working; begun = false; first_octets = octets; tags = tags } ≡ after_commit held new.used
commit-view held new tags limit committed working octets cells links limit_is committed_is working_is octets_is tags_are = rw (cells, links, limit_is, committed_is, working_is, octets_is, tags_are) refl
