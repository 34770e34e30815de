-- The slots that a transaction touches, as slots are emptied and filled and as it begins and ends.
use Rattle.std.proofs.Common.{◌≡◌, ◌≢◌, ℕ, Bool, true, false, List, [], length, set, slice_index, sym, refl, ap, ◌∙◌, arith, subst, true≢false}
use Rattle.std.specs.Prelude.{IsPermutation}
use Rattle.std.proofs.lemmas.Grind.{same_number_lists}
use Rattle.std.proofs.lemmas.List.{get_or-set_other}
use Rattle.eeprom.specs.StoreOf.{is_distinct}
use Rattle.cell_store.specs.Cells.{Cells}
use Rattle.cell_store.specs.Chains.{is_among}
use Rattle.cell_store.specs.Marks.{StaysMarked}
use Rattle.record_store.specs.Held.{Held, StandsFor, firsts}
use Rattle.record_store.specs.Kept.{AreTagsTouched, HasMemory, IsTouched, IsInMemory}
use Rattle.record_store.specs.Opening.{HeldSoFar}
use Rattle.record_store.specs.Sound.{AreBeside, HasChains, IsSound, cells_in}
use Rattle.record_store.specs.Tags.{Tags, SideTags, HasTags, SameTagsOutside, both_sides, tag_of, stamp_of, with_tags}
use Rattle.record_store.specs.Touched.{TouchedSlots, AreSlots, SameOutside, with_touched}
use Rattle.record_store.specs.Transaction.{begun_from}
use Rattle.record_store.specs.Weighed.{walk, IsWeighed}
use Rattle.record_store.specs.declared.side.Side.TheVariants.{Working}
use Rattle.record_store.proofs.InUse.{in_use-begun}
use Rattle.record_store.proofs.OpeningSlots.{finished}
use Rattle.record_store.proofs.RunsOfCommon.{passed-begun}
use Rattle.record_store.proofs.SlotTags.{has-with}
use Rattle.record_store.proofs.Sorting.{among-sorted, none-sorted}
use Rattle.record_store.proofs.Touching.{none-touched}

-- where no transaction is begun both sides are the same
pub idle-same : (held : Held) (touched : TouchedSlots) (room : ℕ) → IsSound held → IsTouched held touched room → held.begun ≡ false → held.working ≡ held.committed
idle-same held touched room sound t idle = same_number_lists held.working held.committed (sound.working_count ∙ sym sound.committed_count) (λ slot inside. t.others slot (ap (is_among slot) (t.idle idle)))

-- two that are the same are so outside of any slots
same-everywhere : (slots : List ℕ) (left was : SideTags) → left ≡ was → SameTagsOutside slots left was
same-everywhere slots left was same = record { names = λ slot none. ap (λ (tags : SideTags). slice_index tags.names slot) same; stamps = λ slot none. ap (λ (tags : SideTags). slice_index tags.stamps slot) same }

as-many : (tags : SideTags) (cells now : ℕ) → now ≡ cells → HasTags cells tags → HasTags now tags
as-many tags cells now same has = subst (λ (n : ℕ). HasTags n tags) (sym same) has

pub idle-tags : (held : Held) (touched : TouchedSlots) (room : ℕ) → IsTouched held touched room → held.begun ≡ false → held.tags.working ≡ held.tags.committed
idle-tags held touched room t idle =
    let w = t.tags.working_count in
    let c = t.tags.committed_count in
    let names = same_number_lists held.tags.working.names held.tags.committed.names (w.names ∙ sym c.names) (λ slot inside. t.tags.others.names slot (ap (is_among slot) (t.idle idle))) in
    let stamps = same_number_lists held.tags.working.stamps held.tags.committed.stamps (w.stamps ∙ sym c.stamps) (λ slot inside. t.tags.others.stamps slot (ap (is_among slot) (t.idle idle))) in
    ap (λ (names : List ℕ). let both : SideTags = record { names = names; stamps = held.tags.working.stamps } in both) names
    ∙ ap (λ (stamps : List ℕ). let both : SideTags = record { names = held.tags.committed.names; stamps = stamps } in both) stamps

-- so nothing is copied where one begins
pub begun-view : (view held : Held) (touched : TouchedSlots) (room : ℕ) → view ≡ held → IsSound view → IsTouched view touched room → held.begun ≡ false → record view { begun = true } ≡ begun_from held
begun-view view held touched room same sound t idle =
    let still = ap (λ (held : Held). held.begun) same ∙ idle in
    ap (λ (working : List ℕ). record view { working = working; begun = true }) (idle-same view touched room sound t still)
    ∙ (ap (λ (tags : SideTags). record view { working = view.committed; begun = true; tags = record view.tags { working = tags } }) (idle-tags view touched room t still) ∙ ap begun_from same)

pub begun-stands : (held : Held) (image : List ℕ) → StandsFor held image → StandsFor (begun_from held) image
begun-stands held image stands = record {
  begins = stands.begins;
  links = stands.links;
  committed = stands.committed;
  working = stands.committed;
  committed_octets = stands.committed_octets;
  working_octets = stands.committed_octets;
  committed_tags = stands.committed_tags;
  working_tags = stands.committed_tags;
}

pub touched-begun : (held : Held) (touched : TouchedSlots) (room : ℕ) → IsTouched held touched room → IsTouched (record held { begun = true }) touched room
touched-begun held touched room t = record { size = t.size; others = t.others; idle = λ wrong. absurd (true≢false wrong); room_is = t.room_is; tags = t.tags }

pub touched-finished : (held : HeldSoFar) (working : List ℕ) (tags : Tags) (touched : TouchedSlots) (room : ℕ) → working ≡ held.firsts → tags.working ≡ tags.committed → HasTags held.chains.cells tags.committed → (next : List ℕ) → HasMemory held.chains.cells touched room next
    → IsTouched (finished held working tags) touched room
touched-finished held working tags touched room same tags_same tags_count next m = record {
  tags = record { committed_count = tags_count; working_count = subst (HasTags held.chains.cells) (sym tags_same) tags_count; others = same-everywhere touched.slots tags.working tags.committed tags_same };
  size = ap (λ (touched : TouchedSlots). touched.size) m.none;
  others = λ slot none. ap (λ (firsts : List ℕ). slice_index firsts slot) same;
  idle = λ _. ap (λ (touched : TouchedSlots). touched.slots) m.none;
  room_is = m.room_is;
}

-- another tag is kept for a slot, or it stays
pub record IsTagSet (was : Tags) (slot : ℕ) (now : Tags) : Type 0 where
  pub committed : now.committed ≡ was.committed
  pub count : (cells : ℕ) → HasTags cells was.working → HasTags cells now.working
  pub names : (at : ℕ) → at ≢ slot → slice_index now.working.names at ≡ slice_index was.working.names at
  pub stamps : (at : ℕ) → at ≢ slot → slice_index now.working.stamps at ≡ slice_index was.working.stamps at

pub tag-stays : (tags : Tags) (slot : ℕ) → IsTagSet tags slot tags
tag-stays tags slot = record { committed = refl; count = λ cells has. has; names = λ at other. refl; stamps = λ at other. refl }

pub tag-put : (was : Tags) (slot : ℕ) (octets : List ℕ) (now : Tags) → now ≡ record was { working = with_tags was.working slot octets } → IsTagSet was slot now
tag-put was slot octets now is = record {
  committed = ap (λ (tags : Tags). tags.committed) is;
  count = λ cells has. subst (λ (tags : Tags). HasTags cells tags.working) (sym is) (has-with cells was.working slot octets has);
  names = λ at other. ap (λ (tags : Tags). slice_index tags.working.names at) is ∙ get_or-set_other was.working.names slot at (tag_of octets) 0 other;
  stamps = λ at other. ap (λ (tags : Tags). slice_index tags.working.stamps at) is ∙ get_or-set_other was.working.stamps slot at (stamp_of octets) 0 other;
}

-- both sides have the same tags
both-touched : (tags : Tags) (same : SideTags) (slots : List ℕ) (cells : ℕ) → tags ≡ both_sides same → HasTags cells same → AreTagsTouched tags slots cells
both-touched tags same slots cells are count = subst (λ (tags : Tags). AreTagsTouched tags slots cells) (sym are) (record { committed_count = count; working_count = count; others = same-everywhere slots same same refl })

-- another chain begins in a slot that is touched
-- and a tag is kept for it, or none
pub touched-set : (held : Held) (new : Cells) (octets : List ℕ) (tags : Tags) (slot first : ℕ) (touched now : TouchedSlots) (room : ℕ) → held.begun ≡ true → new.cells ≡ held.chains.cells → now.slots ≡ with_touched touched.slots slot → now.size ≡ touched.size → IsTagSet held.tags slot tags → IsTouched held touched room
    → IsTouched (record held { chains = new; working = set held.working slot first; first_octets = octets; tags = tags }) now room
touched-set held new octets tags slot first touched now room begun cells slots size tag t = record {
  tags = record {
    committed_count = subst (HasTags new.cells) (sym tag.committed) (as-many held.tags.committed held.chains.cells new.cells cells t.tags.committed_count);
    working_count = as-many tags.working held.chains.cells new.cells cells (tag.count held.chains.cells t.tags.working_count);
    others = record {
      names = λ at none. (let apart = none-touched at slot touched.slots (ap (is_among at) (sym slots) ∙ none) in tag.names at apart.1 ∙ (t.tags.others.names at apart.0 ∙ ap (λ (tags : SideTags). slice_index tags.names at) (sym tag.committed)));
      stamps = λ at none. (let apart = none-touched at slot touched.slots (ap (is_among at) (sym slots) ∙ none) in tag.stamps at apart.1 ∙ (t.tags.others.stamps at apart.0 ∙ ap (λ (tags : SideTags). slice_index tags.stamps at) (sym tag.committed)));
    };
  };
  size = size ∙ (t.size ∙ sym cells);
  others = λ at none. (let apart = none-touched at slot touched.slots (ap (is_among at) (sym slots) ∙ none) in get_or-set_other held.working slot at first 0 apart.1 ∙ t.others at apart.0);
  idle = λ wrong. absurd (true≢false (sym begun ∙ wrong));
  room_is = omega (arith, cells, t.room_is);
}

-- the chains stay, whichever cells are used
pub touched-kept : (held : Held) (new : Cells) (touched : TouchedSlots) (room : ℕ) → new.cells ≡ held.chains.cells → IsTouched held touched room → IsTouched (record held { chains = new }) touched room
touched-kept held new touched room cells t = record { size = t.size ∙ sym cells; others = t.others; idle = t.idle; room_is = omega (arith, cells, t.room_is); tags = record { committed_count = as-many held.tags.committed held.chains.cells new.cells cells t.tags.committed_count; working_count = as-many held.tags.working held.chains.cells new.cells cells t.tags.working_count; others = t.tags.others } }

pub touched-room : (held : Held) (touched : TouchedSlots) (room now : ℕ) → now ≡ room → IsTouched held touched room → IsTouched held touched now
touched-room held touched room now same t = record { size = t.size; others = t.others; idle = t.idle; room_is = omega (arith, same, t.room_is); tags = t.tags }

-- they are put into another order
pub touched-sorted : (held : Held) (touched now : TouchedSlots) (room : ℕ) → IsPermutation touched.slots now.slots → now.size ≡ touched.size → IsTouched held touched room → IsTouched held now room
touched-sorted held touched now room moved size t = record {
  size = size ∙ t.size;
  others = λ slot none. t.others slot (sym (among-sorted slot touched.slots now.slots moved) ∙ none);
  idle = λ idle. none-sorted touched.slots now.slots (t.idle idle) moved;
  room_is = t.room_is;
  tags = record { committed_count = t.tags.committed_count; working_count = t.tags.working_count; others = record { names = λ slot none. t.tags.others.names slot (sym (among-sorted slot touched.slots now.slots moved) ∙ none); stamps = λ slot none. t.tags.others.stamps slot (sym (among-sorted slot touched.slots now.slots moved) ∙ none) } };
}

pub touched-committed : (held : Held) (new : Cells) (tags : Tags) (firsts : List ℕ) (touched now : TouchedSlots) (room later : ℕ) → new.cells ≡ held.chains.cells → firsts ≡ held.working → now.slots ≡ [] → now.size ≡ touched.size → later ≡ room → tags ≡ both_sides held.tags.working → IsTouched held touched room
    → IsTouched (record held { chains = new; committed = firsts; begun = false; tags = tags }) now later
touched-committed held new tags firsts touched now room later cells same none size room_is tags_are t = record {
  tags = both-touched tags held.tags.working now.slots new.cells tags_are (as-many held.tags.working held.chains.cells new.cells cells t.tags.working_count);
  size = size ∙ (t.size ∙ sym cells);
  others = λ slot _. ap (λ (firsts : List ℕ). slice_index firsts slot) (sym same);
  idle = λ _. none;
  room_is = omega (arith, cells, room_is, t.room_is);
}

pub touched-rolled_back : (held : Held) (new : Cells) (tags : Tags) (firsts : List ℕ) (touched now : TouchedSlots) (room : ℕ) → new.cells ≡ held.chains.cells → firsts ≡ held.committed → now.slots ≡ [] → now.size ≡ touched.size → tags ≡ both_sides held.tags.committed → IsTouched held touched room
    → IsTouched (record held { chains = new; working = firsts; begun = false; tags = tags }) now room
touched-rolled_back held new tags firsts touched now room cells same none size tags_are t = record {
  tags = both-touched tags held.tags.committed now.slots new.cells tags_are (as-many held.tags.committed held.chains.cells new.cells cells t.tags.committed_count);
  size = size ∙ (t.size ∙ sym cells);
  others = λ slot _. ap (λ (firsts : List ℕ). slice_index firsts slot) same;
  idle = λ _. none;
  room_is = omega (arith, cells, t.room_is);
}

-- the store once a transaction was rolled back
abbrev pub restored : Held → List Bool → List ℕ → Held
restored held used working = record held { chains = record held.chains { used = used }; working = working; begun = false; tags = both_sides held.tags.committed }

pub restored-view : (held : Held) (new : Cells) (limit : ℕ) (committed working octets : List ℕ) (tags : Tags) → new.cells ≡ held.chains.cells → new.links ≡ held.chains.links → limit ≡ held.row_limit → committed ≡ held.committed → octets ≡ held.first_octets → tags ≡ both_sides held.tags.committed
    → record { chains = new; row_limit = limit; committed = committed; working = working; begun = false; first_octets = octets; tags = tags } ≡ restored held new.used working
restored-view held new limit committed working octets tags cells links limit_is committed_is octets_is tags_are = rw (cells, links, limit_is, committed_is, octets_is, tags_are) refl

pub restored-stands : (held : Held) (used : List Bool) (working image : List ℕ) → StaysMarked used held.chains.used → StandsFor held image → StandsFor (restored held used working) image
restored-stands held used working image fewer stands = record {
  begins = stands.begins;
  links = record { each = λ cell is. stands.links.each cell (fewer cell is) };
  committed = stands.committed;
  working = stands.committed;
  committed_octets = stands.committed_octets;
  working_octets = stands.committed_octets;
  committed_tags = stands.committed_tags;
  working_tags = stands.committed_tags;
}

-- a store is sound whatever its working side was before it was rolled back
pub sound-restored : (held : Held) (new : Cells) (tags : Tags) (firsts : List ℕ) → firsts ≡ held.committed → IsSound (record held { chains = new; begun = false }) → IsSound (record held { chains = new; working = firsts; begun = false; tags = tags })
sound-restored held new tags firsts same s = record {
  range = s.range;
  rows = s.rows;
  committed_count = s.committed_count;
  working_count = ap (length {A = ℕ}) same ∙ s.committed_count;
  octets_count = s.octets_count;
  sides = record { committed = s.sides.committed; working = s.sides.working; committed_has = s.sides.committed_has; working_has = s.sides.working_has; beside = s.sides.beside; used = s.sides.used };
}

-- the tags of a transaction, by slices over them
pub tags-others : (held : Held) (touched : TouchedSlots) (room : ℕ) (slots : List ℕ) → IsTouched held touched room → slots ≡ touched.slots → SameTagsOutside slots held.tags.working held.tags.committed
tags-others held touched room slots t same = record {
  names = λ slot none. t.tags.others.names slot (ap (is_among slot) (sym same) ∙ none);
  stamps = λ slot none. t.tags.others.stamps slot (ap (is_among slot) (sym same) ∙ none);
}

pub tags-others-back : (held : Held) (touched : TouchedSlots) (room : ℕ) (slots : List ℕ) → IsTouched held touched room → slots ≡ touched.slots → SameTagsOutside slots held.tags.committed held.tags.working
tags-others-back held touched room slots t same =
    let others = tags-others held touched room slots t same in record { names = λ slot none. sym (others.names slot none); stamps = λ slot none. sym (others.stamps slot none) }

-- the slots of a transaction, by slices over the first cells
pub touched-slots : (held : Held) (touched : TouchedSlots) (room : ℕ) (firsts slots : List ℕ) → IsTouched held touched room → AreSlots touched.size touched.slots → slots ≡ touched.slots → length firsts ≡ held.chains.cells → AreSlots (length firsts) slots
touched-slots held touched room firsts slots t are same size = record {
  inside = λ slot here. omega (arith, are.inside slot (ap (is_among slot) (sym same) ∙ here), t.size, size);
  distinct = ap is_distinct same ∙ are.distinct;
  few = omega (arith, are.few, ap (length {A = ℕ}) same, t.size, size);
}

pub working-others : (held : Held) (touched : TouchedSlots) (room : ℕ) (slots working committed : List ℕ) → IsTouched held touched room → slots ≡ touched.slots → working ≡ held.working → committed ≡ held.committed → SameOutside slots working committed
working-others held touched room slots working committed t same first second = λ slot none.
    ap (λ (firsts : List ℕ). slice_index firsts slot) first ∙ (t.others slot (ap (is_among slot) (sym same) ∙ none) ∙ ap (λ (firsts : List ℕ). slice_index firsts slot) (sym second))

pub committed-others : (held : Held) (touched : TouchedSlots) (room : ℕ) (slots working committed : List ℕ) → IsTouched held touched room → slots ≡ touched.slots → working ≡ held.working → committed ≡ held.committed → SameOutside slots committed working
committed-others held touched room slots working committed t same first second = λ slot none. sym (working-others held touched room slots working committed t same first second slot none)

-- a transaction is begun
begun-sound : (held : Held) → IsSound held → held.begun ≡ false → IsSound (begun_from held)
begun-sound held s idle =
    let same : firsts held Working ≡ held.committed = rw idle refl in
    record {
      range = s.range;
      rows = s.rows;
      committed_count = s.committed_count;
      working_count = s.committed_count;
      octets_count = s.octets_count;
      sides = record {
        committed = s.sides.committed;
        working = s.sides.working;
        committed_has = s.sides.committed_has;
        working_has = subst (λ (cells : List ℕ). HasChains held.chains cells s.sides.working) same s.sides.working_has;
        beside = subst (λ (cells : List ℕ). AreBeside held.committed cells s.sides.working (cells_in s.sides.committed)) same s.sides.beside;
        used = s.sides.used;
      };
    }

begun-weighed : (held : Held) (committed working : ℕ) → IsWeighed held committed working → held.begun ≡ false → IsWeighed (begun_from held) committed working
begun-weighed held committed working w idle = record {
  sound = begun-sound held w.sound idle;
  committed_is = w.committed_is;
  working_is = w.working_is ∙ ap (λ (cells : List ℕ). walk held.chains.links cells) (let same : firsts held Working ≡ held.committed = rw idle refl in same);
}

pub begun-kept : (held : Held) (committed working count : ℕ) (touched : TouchedSlots) (room : ℕ) (next : List ℕ) → IsInMemory held committed working count touched room next → held.begun ≡ false → IsInMemory (record held { begun = true }) committed working count touched room next
begun-kept held committed working count touched room next k idle =
    let same : record held { begun = true } ≡ begun_from held = begun-view held held touched room refl k.weighed.sound k.transaction idle in
    record {
      weighed = subst (λ (held : Held). IsWeighed held committed working) (sym same) (begun-weighed held committed working k.weighed idle);
      in_use = in_use-begun held count k.in_use;
      passed = passed-begun held next k.passed;
      transaction = touched-begun held touched room k.transaction;
    }
