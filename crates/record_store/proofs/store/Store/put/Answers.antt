use Rattle.std.proofs.Common.{◌≡◌, ◌<◌, None, length, set, slice_index, drop, ap, ◌∙◌, refl, arith, rules, subst}
use Rattle.std.proofs.lemmas.Grind.{common_steps}
use Rattle.std.specs.Vec.{vec_capacity}
use Rattle.eeprom.specs.Chip.{Keeps}
use Rattle.eeprom.specs.StoreOf.{store_of, cells_for, image_size}
use Rattle.record_store.specs.Held.{Held}
use Rattle.record_store.specs.Slots.{steps_without}
use Rattle.record_store.specs.Sound.{IsSound}
use Rattle.record_store.proofs.ChangedSlots.{entries-filled, only-filled}
use Rattle.record_store.proofs.Emptying.{empty-record, full-found, full-none, working-of}
use Rattle.record_store.proofs.Filling.{Emptied, room-enough, filled-becomes, filled-keeps}
use Rattle.record_store.proofs.InUse.{in_use-filled, in_use-kept}
use Rattle.record_store.proofs.Keeping.{behind-marked}
use Rattle.record_store.proofs.RunsOfCommon.{passed-filled, passed-kept}
use Rattle.record_store.proofs.Putting.{put-over, put-within}
use Rattle.record_store.proofs.Transacting.{tag-put, touched-set, touched-kept}
use Rattle.record_store.proofs.Weighing.{weighed-filled, weighed-failed}
use Rattle.record_store.proofs.store.Store.put.Goals.{In-Some, After-as_slice, After-weight_without-weight, After-write_chain}
use Rattle.record_store.proofs.store.Store.put.Goals as goal

sound : (g : _) (c : After-as_slice g) → IsSound c.args.self.now
sound g c = subst IsSound c.self.view_is c.self.invariant.weighed.sound

working : (g : _) (c : After-as_slice g) → c.as_slice.result.now ≡ c.args.self.now.working
working g c = working-of _ c.args.self.now c.as_slice.result.now c.self.view_is c.as_slice.ensures.value

-- the slot that was found
inside : (g : _) (c : In-Some g) → c.in-Some.slot < c.args.self.now.chains.cells
inside g c =
    let there : c.in-Some.slot < length c.args.self.now.working = rw (working g (goal.at.In-Some g c).After-as_slice) at c.in-Some.ensures.there in
    omega (arith, there, (sound g (goal.at.In-Some g c).After-as_slice).working_count)

empty : (g : _) (c : In-Some g) → c.args.slot ≡ None → slice_index c.args.self.now.working c.in-Some.slot ≡ 65535
empty g c = λ none. rw (working g (goal.at.In-Some g c).After-as_slice) at (c.in-Some.ensures.empty none)

-- what the other records weigh
weight : (g : _) (c : After-weight_without-weight g) → c.weight_without-weight.result ≡ steps_without c.args.self.now.chains.links c.args.self.now.working c.in-Some.slot
weight g c = c.weight_without-weight.ensures.weight

-- the store once the slot was emptied
abbrev mid : (g : _) (c : After-write_chain g) → Held
mid g c = record { chains = c.self-2.inside.chains; row_limit = c.self-2.inside.row_limit; committed = c.self-2.inside.committed.items; working = c.self-2.inside.working.items; begun = c.self-2.inside.begun; first_octets = c.self-2.inside.first_octets.items; tags = c.self-2.inside.tags }

-- there is room in it for the record
emptied : (g : _) (c : After-write_chain g) → Emptied c.args.self.now (mid g c) c.take_out.new.self.chains.used c.in-Some.slot c.weight_without-weight.result (cells_for (length c.args.octets.now))
emptied g c =
    let at = goal.at.After-write_chain g c in
    let cells : c.self.inside.chains.cells ≡ c.args.self.now.chains.cells = ap (λ (held : Held). held.chains.cells) c.self.view_is in
    record {
      sound = sound g at.After-as_slice;
      mid_sound = c.self-2.invariant.weighed.sound;
      is = c.self-2.view_is ∙ c.take_out.ensures.emptied;
      fewer = c.take_out.ensures.fewer;
      begun = c.requires.begun;
      inside = inside g at.In-Some;
      weight_is = weight g at.After-weight_without-weight;
      fits = omega (arith, c.if-weight-count.false, c.cells.ensures.number, cells, c.cells_for-count.ensures);
    }

pub invariant_of-self : goal.invariant_of-self
invariant_of-self g c =
    let at = (goal.at.invariant_of-self g c).After-write_chain in
    record {
      weighed = rw (c.cells_for-count.ensures) (weighed-filled c.args.self.now (mid g at) c.take_out.new.self.chains.used c.in-Some.slot c.weight_without-weight.result (cells_for (length c.args.octets.now)) c.in-Ok.first (slice_index c.args.octets.now 0)
          c.self-2.inside.committed_weight c.self-2.inside.working_weight c.write_chain.new.self c.put.new.self (emptied g at) c.in-Ok.ensures.takes c.self-2.invariant.weighed);
      in_use = in_use-filled (mid g at) c.write_chain.new.self c.put.new.self c.in-Some.slot c.in-Ok.first (slice_index c.args.octets.now 0) c.self-2.inside.slots_in_use _ c.in-Ok.ensures.takes.cells (omega arith) (omega arith)
          (omega (arith, inside g (goal.at.After-write_chain g at).In-Some, ap (λ (held : Held). held.chains.cells) (emptied g at).is, c.self-2.invariant.in_use.most)) c.self-2.invariant.in_use;
      passed = passed-filled (mid g at) c.write_chain.new.self c.put.new.self c.in-Some.slot c.in-Ok.first _ (slice_index c.args.octets.now 0) c.self-2.inside.common_runs c.take_in.new.self c.self-2.invariant.weighed.sound (ap (λ (held : Held). held.begun) (emptied g at).is ∙ c.requires.begun) (omega (arith, c.in-Ok.ensures.there, ap (λ (held : Held). held.chains.cells) (emptied g at).is)) c.in-Ok.ensures.takes
          c.take_in.ensures.size c.take_in.ensures.fewer c.take_in.ensures.common c.self-2.invariant.passed;
      transaction = touched-set (mid g at) c.write_chain.new.self (set (mid g at).first_octets c.in-Ok.first (slice_index c.args.octets.now 0)) c.put.new.self c.in-Some.slot c.in-Ok.first c.self-2.inside.touched c.touch.new.self (vec_capacity c.self-2.inside.entries)
          (ap (λ (held : Held). held.begun) (emptied g at).is ∙ c.requires.begun) c.in-Ok.ensures.takes.cells c.touch.ensures.slots c.touch.ensures.size (tag-put c.self-2.inside.tags c.in-Some.slot c.args.octets.now c.put.new.self c.put.ensures) c.self-2.invariant.transaction;
    }

pub invariant_of-self-in-Err-Fault : goal.invariant_of-self-in-Err-Fault
invariant_of-self-in-Err-Fault g c =
    let keeps = c.in-Err-Fault.ensures.fault (search rules) in
    record {
      weighed = weighed-failed _ c.write_chain.new.self c.self-2.inside.committed_weight c.self-2.inside.working_weight c.self-2.invariant.weighed keeps;
      in_use = in_use-kept _ c.write_chain.new.self c.self-2.inside.slots_in_use keeps.cells c.self-2.invariant.in_use;
      passed = passed-kept _ c.write_chain.new.self c.self-2.inside.common_runs keeps.cells c.self-2.invariant.passed;
      transaction = touched-kept _ c.write_chain.new.self c.self-2.inside.touched (vec_capacity c.self-2.inside.entries) keeps.cells c.self-2.invariant.transaction;
    }

pub unreachable-requires : goal.unreachable-requires
unreachable-requires g c =
    let at = (goal.at.unreachable-requires g c).After-write_chain in
    let few = c.in-Err-NoCell.ensures.no_cell.0 (search rules) in
    absurd (omega (arith, few, room-enough c.args.self.now (mid g at) c.take_out.new.self.chains.used c.in-Some.slot c.weight_without-weight.result (cells_for (length c.args.octets.now)) (emptied g at)))

-- at each moment, also where the write failed
moments : (g : _) (c : After-write_chain g) → Keeps store_of (g.B.Eeprom.chip c.args.bench.now) (g.B.Eeprom.chip c.write_chain.new.bench)
moments g c =
    filled-keeps c.args.self.now (mid g c) c.take_out.new.self.chains.used c.self-2.inside.chains.used c.in-Some.slot c.weight_without-weight.result (cells_for (length c.args.octets.now)) c.self-2.inside.chains.cells
    (g.B.Eeprom.chip c.args.bench.now) (g.B.Eeprom.chip c.write_chain.new.bench) (emptied g c) c.requires.over.stands refl refl c.write_chain.ensures.moments

behind : (g : _) (c : After-write_chain g) → Keeps (drop (image_size c.args.self.now.chains.cells)) (g.B.Eeprom.chip c.args.bench.now) (g.B.Eeprom.chip c.write_chain.new.bench)
behind g c =
    behind-marked c.self-2.inside.chains.used c.self-2.inside.chains.cells c.args.self.now.chains.cells (g.B.Eeprom.chip c.args.bench.now) (g.B.Eeprom.chip c.write_chain.new.bench)
    (ap (λ (held : Held). held.chains.cells) (emptied g c).is) c.write_chain.ensures.moments

pub touch-requires : goal.touch-requires
touch-requires g c =
    let at = goal.at.touch-requires g c in
    record { inside = omega (arith, inside g at.In-Some, c.self-2.invariant.transaction.size, ap (λ (held : Held). held.chains.cells) (emptied g at.After-write_chain).is) }

pub returns-in_default : goal.returns-in_default
returns-in_default g c = record {
  named = search rules;
  empty = search rules;
  there = search rules;
  put = search rules;
  within = search rules;
  full = λ _.
      let here = (goal.at.returns-in_default g c).After-as_slice in
      let none = c.in_default.ensures.none in
      rw (none.0) (full-none c.args.self.now (g.B.Eeprom.chip c.args.bench.now).image c.args.octets.now (sound g here) c.requires.begun c.requires.over.stands c.requires.some (rw (working g here) at none.1));
  unchanged = search rules;
  told = search rules;
  begun = search rules;
  cells = search rules;
  rows = search rules;
  octets_written = search rules;
  only = search rules;
  entries = search rules;
  moments = search rules;
  behind = search rules;
  cause = search rules;
}

pub returns-then-weight-count : goal.returns-then-weight-count
returns-then-weight-count g c = record {
  named = search rules;
  empty = search rules;
  there = search rules;
  put = search rules;
  within = search rules;
  full = λ _.
      let at = goal.at.returns-then-weight-count g c in
      let cells : c.self.inside.chains.cells ≡ c.args.self.now.chains.cells = ap (λ (held : Held). held.chains.cells) c.self.view_is in
      let image = (g.B.Eeprom.chip c.args.bench.now).image in
      let sound = sound g at.After-as_slice in
      let inside = inside g at.In-Some in
      full-found c.args.self.now c.args.slot c.in-Some.slot image c.args.octets.now sound c.requires.begun c.requires.over.stands inside c.in-Some.ensures.named (empty g at.In-Some)
      (put-over c.args.self.now c.in-Some.slot c.weight_without-weight.result c.args.octets.now image sound c.requires.begun c.requires.over.stands inside (weight g at.After-weight_without-weight)
      (omega (arith, c.if-weight-count.true, c.cells.ensures.number, cells, c.cells_for-count.ensures)));
  unchanged = search rules;
  told = search rules;
  begun = search rules;
  cells = search rules;
  rows = search rules;
  octets_written = search rules;
  only = search rules;
  entries = search rules;
  moments = search rules;
  behind = search rules;
  cause = search rules;
}

pub returns-in-Ok : goal.returns-in-Ok
returns-in-Ok g c = record {
  named = grind (arith, common_steps);
  empty = λ none.
      let at = goal.at.returns-in-Ok g c in
      empty-record c.args.self.now c.in-Some.slot (g.B.Eeprom.chip c.args.bench.now).image (sound g at.After-as_slice) c.requires.begun c.requires.over.stands (inside g at.In-Some) (empty g at.In-Some none);
  there = search rules;
  put =
      let at = (goal.at.returns-in-Ok g c).After-write_chain in
      filled-becomes c.args.self.now (mid g at) c.take_out.new.self.chains.used c.in-Some.slot c.weight_without-weight.result (cells_for (length c.args.octets.now)) c.in-Ok.first (slice_index c.args.octets.now 0) c.write_chain.new.self c.put.new.self c.args.octets.now
      (g.B.Eeprom.chip c.args.bench.now).image (g.B.Eeprom.chip c.write_chain.new.bench).image (omega (arith, c.in-Ok.ensures.there, ap (λ (held : Held). held.chains.cells) (emptied g at).is)) refl (record {
        names = omega (arith, inside g (goal.at.After-write_chain g at).In-Some, ap (λ (held : Held). held.chains.cells) (emptied g at).is, c.self-2.invariant.transaction.tags.working_count.names);
        stamps = omega (arith, inside g (goal.at.After-write_chain g at).In-Some, ap (λ (held : Held). held.chains.cells) (emptied g at).is, c.self-2.invariant.transaction.tags.working_count.stamps);
        is = c.put.ensures;
      }) (emptied g at) c.requires.over.stands c.in-Ok.ensures.takes c.in-Ok.ensures.written;
  within =
      let at = goal.at.returns-in-Ok g c in
      let cells : c.self.inside.chains.cells ≡ c.args.self.now.chains.cells = ap (λ (held : Held). held.chains.cells) c.self.view_is in
      put-within c.args.self.now c.in-Some.slot c.weight_without-weight.result c.args.octets.now (g.B.Eeprom.chip c.args.bench.now).image (sound g at.After-as_slice) c.requires.begun c.requires.over.stands (inside g at.In-Some)
      (weight g at.After-weight_without-weight) (omega (arith, c.if-weight-count.false, c.cells.ensures.number, cells, c.cells_for-count.ensures));
  full = search rules;
  unchanged = search rules;
  told = search rules;
  begun = search rules;
  cells = search rules;
  rows = search rules;
  octets_written = search rules;
  only =
      let at = (goal.at.returns-in-Ok g c).After-write_chain in
      only-filled c.args.self.now (mid g at) c.write_chain.new.self (set (mid g at).first_octets c.in-Ok.first (slice_index c.args.octets.now 0)) c.put.new.self c.in-Some.slot c.in-Ok.first c.take_out.new.self.chains.used c.requires.begun (emptied g at).is;
  entries =
      let at = (goal.at.returns-in-Ok g c).After-write_chain in
      entries-filled c.args.self.now (mid g at) c.write_chain.new.self (set (mid g at).first_octets c.in-Ok.first (slice_index c.args.octets.now 0)) c.put.new.self c.in-Some.slot c.in-Ok.first c.take_out.new.self.chains.used c.requires.begun (emptied g at).is;
  moments = moments g (goal.at.returns-in-Ok g c).After-write_chain;
  behind = behind g (goal.at.returns-in-Ok g c).After-write_chain;
  cause = search rules;
}

pub returns-in-Err-Fault : goal.returns-in-Err-Fault
returns-in-Err-Fault g c = record {
  named = search rules;
  empty = search rules;
  there = search rules;
  put = search rules;
  within = search rules;
  full = search rules;
  unchanged = search rules;
  told = search rules;
  begun = search rules;
  cells = search rules;
  rows = search rules;
  octets_written = search rules;
  only = search rules;
  entries = search rules;
  moments = moments g (goal.at.returns-in-Err-Fault g c).After-write_chain;
  behind = behind g (goal.at.returns-in-Err-Fault g c).After-write_chain;
  cause = grind (arith, common_steps);
}
