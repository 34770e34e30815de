use Rattle.std.proofs.Common.{rules, ◌≡◌, ℕ, List, Bool, length, drop, refl, ap, ◌∙◌, subst, arith}
use Rattle.std.specs.Vec.{vec_capacity}
use Rattle.cell_store.specs.Marks.{StaysMarked}
use Rattle.eeprom.specs.Chip.{Keeps}
use Rattle.eeprom.specs.StoreOf.{image_size}
use Rattle.record_store.specs.Held.{Held}
use Rattle.record_store.specs.Kept.{IsTouched}
use Rattle.record_store.specs.Tags.{both_sides}
use Rattle.record_store.specs.Transaction.{Commits}
use Rattle.record_store.proofs.Commit.{Ready, ready-from, changed-few, commits-from, commit-done}
use Rattle.record_store.proofs.Filling.{commit-sound, commit-view}
use Rattle.record_store.proofs.InUse.{in_use-committed}
use Rattle.record_store.proofs.Keeping.{behind-commit}
use Rattle.record_store.proofs.RunsOfCommon.{passed-committed}
use Rattle.record_store.proofs.Transacting.{touched-sorted, touched-slots, working-others, committed-others, tags-others-back, touched-room, touched-committed}
use Rattle.record_store.proofs.Weighing.{weighed-committed}
use Rattle.record_store.proofs.store.Store.commit.Goals.{After-sort, After-take_entries, After-commit}
use Rattle.record_store.proofs.store.Store.commit.Goals as goal

ready : (g : _) (c : After-take_entries g) → Ready c.args.self.now c.take_entries.new.entries.items
ready g c =
    ready-from _ c.args.self.now c.as_slice.result.now c.as_slice-working.result.now c.take_entries.new.entries.items c.self.view_is c.self.invariant.weighed.sound c.requires.begun c.as_slice.ensures.value c.as_slice-working.ensures.value
    c.take_entries.ensures.entries c.take_entries.ensures.range c.take_entries.ensures.count

pub commit-requires : goal.commit-requires
commit-requires g c =
    let r = ready g (goal.at.commit-requires g c).After-take_entries in
    let cells = ap (λ (held : Held). held.chains.cells) c.self.view_is in
    record {
      entries = record {
        few = rw (c.as_slice-2.ensures.value) (omega (arith, changed-few c.args.self.now c.take_entries.new.entries.items r, c.cells.ensures.number, cells));
        range = rw (c.as_slice-2.ensures.value, c.cells.ensures.number, cells) (r.range);
      };
      closed = search rules;
    }

-- the slots that were touched, in rising order
sorted : (g : _) (c : After-sort g)
    → IsTouched (record { chains = c.self.inside.chains; row_limit = c.self.inside.row_limit; committed = c.self.inside.committed.items; working = c.self.inside.working.items; begun = c.self.inside.begun; first_octets = c.self.inside.first_octets.items; tags = c.self.inside.tags }) c.sort.new.self (vec_capacity c.self.inside.entries)
sorted g c = touched-sorted _ c.self.inside.touched c.sort.new.self _ c.sort.ensures.slots c.sort.ensures.size c.self.invariant.transaction

moments : (g : _) (c : After-commit g) → Commits c.args.self.now (g.B.Eeprom.chip c.args.bench.now) (g.B.Eeprom.chip c.commit.new.bench.bench.now)
moments g c =
    commits-from c.args.self.now c.take_entries.new.entries.items (g.B.Eeprom.chip c.args.bench.now) (g.B.Eeprom.chip c.commit.new.bench.bench.now) (ready g (goal.at.After-commit g c).After-take_entries) c.requires.over.stands
    c.commit.ensures.still (rw (c.as_slice-2.ensures.value, c.cells.ensures.number, ap (λ (held : Held). held.chains.cells) c.self.view_is) at c.commit.ensures.moments)

pub invariant_of-self-2 : goal.invariant_of-self-2
invariant_of-self-2 g c =
    let begun = ap (λ (held : Held). held.begun) c.self.view_is ∙ c.requires.begun in
    let whole : Held = record { chains = c.self.inside.chains; row_limit = c.self.inside.row_limit; committed = c.self.inside.committed.items; working = c.self.inside.working.items; begun = c.self.inside.begun; first_octets = c.self.inside.first_octets.items; tags = c.self.inside.tags } in
    let same = c.copy_slots.ensures ∙ c.as_slice-working.ensures.value in
    record {
      in_use = in_use-committed whole c.free_replaced.new.cells c.commit-2.new.self _ c.self.inside.slots_in_use c.free_replaced.ensures.cells same c.self.invariant.in_use;
      passed = passed-committed whole c.free_replaced.new.cells c.commit-2.new.self _ c.self.inside.common_runs c.free_replaced.ensures.cells same c.self.invariant.passed;
      weighed = weighed-committed whole c.free_replaced.new.cells c.commit-2.new.self _ c.self.inside.committed_weight c.self.inside.working_weight c.self.invariant.weighed begun c.free_replaced.ensures.links same
          (commit-sound whole c.free_replaced.new.cells c.commit-2.new.self _ c.as_slice-3.result.now c.as_slice-working.result.now c.self.invariant.weighed.sound begun c.as_slice-3.ensures.value c.as_slice-working.ensures.value
          c.free_replaced.ensures.cells c.free_replaced.ensures.links same c.free_replaced.ensures.freed c.free_replaced.ensures.others c.free_replaced.ensures.fewer c.free_replaced.ensures.count);
      transaction = touched-committed whole c.free_replaced.new.cells c.commit-2.new.self _ c.sort.new.self c.clear.new.self (vec_capacity c.self.inside.entries) (vec_capacity c.take_entries.new.entries) c.free_replaced.ensures.cells same c.clear.ensures.slots c.clear.ensures.size
          c.take_entries.ensures.room c.commit-2.ensures (sorted g (goal.at.invariant_of-self-2 g c).After-sort);
    }

pub invariant_of-self : goal.invariant_of-self
invariant_of-self g c = record {
  weighed = c.self.invariant.weighed;
  in_use = c.self.invariant.in_use;
  passed = c.self.invariant.passed;
  transaction = touched-room _ c.sort.new.self (vec_capacity c.self.inside.entries) (vec_capacity c.take_entries.new.entries) c.take_entries.ensures.room (sorted g (goal.at.invariant_of-self g c).After-sort);
}

behind : (g : _) (c : After-commit g) → Keeps (drop (image_size c.args.self.now.chains.cells)) (g.B.Eeprom.chip c.args.bench.now) (g.B.Eeprom.chip c.commit.new.bench.bench.now)
behind g c =
    behind-commit c.cells.result c.args.self.now.chains.cells c.as_slice-2.result.now (g.B.Eeprom.chip c.args.bench.now) (g.B.Eeprom.chip c.commit.new.bench.bench.now)
    (c.cells.ensures.number ∙ ap (λ (held : Held). held.chains.cells) c.self.view_is) c.commit.ensures.still c.commit.ensures.moments

pub take_entries-requires-clause-slots : goal.take_entries-requires-clause-slots
take_entries-requires-clause-slots g c =
    touched-slots _ c.sort.new.self _ c.as_slice.result.now c.slots-slots.result.now (sorted g (goal.at.take_entries-requires-clause-slots g c).After-sort) c.slots-slots.ensures.are c.slots-slots.ensures.slots (ap (length {A = ℕ}) c.as_slice.ensures.value ∙ c.self.invariant.weighed.sound.committed_count)

pub take_entries-requires-clause-others : goal.take_entries-requires-clause-others
take_entries-requires-clause-others g c =
    working-others _ c.sort.new.self _ c.slots-slots.result.now c.as_slice-working.result.now c.as_slice.result.now (sorted g (goal.at.take_entries-requires-clause-others g c).After-sort) c.slots-slots.ensures.slots c.as_slice-working.ensures.value c.as_slice.ensures.value

pub free_replaced-requires-clause-slots : goal.free_replaced-requires-clause-slots
free_replaced-requires-clause-slots g c =
    touched-slots _ c.sort.new.self _ c.as_slice-3.result.now c.slots-slots.result.now (sorted g (goal.at.free_replaced-requires-clause-slots g c).After-sort) c.slots-slots.ensures.are c.slots-slots.ensures.slots (ap (length {A = ℕ}) c.as_slice-3.ensures.value ∙ c.self.invariant.weighed.sound.committed_count)

pub free_replaced-requires-clause-others : goal.free_replaced-requires-clause-others
free_replaced-requires-clause-others g c =
    committed-others _ c.sort.new.self _ c.slots-slots.result.now c.as_slice-working.result.now c.as_slice-3.result.now (sorted g (goal.at.free_replaced-requires-clause-others g c).After-sort) c.slots-slots.ensures.slots c.as_slice-working.ensures.value c.as_slice-3.ensures.value

pub copy_slots-requires-clause-slots : goal.copy_slots-requires-clause-slots
copy_slots-requires-clause-slots g c =
    touched-slots _ c.sort.new.self _ c.as_slice-working.result.now c.slots-slots.result.now (sorted g (goal.at.copy_slots-requires-clause-slots g c).After-sort) c.slots-slots.ensures.are c.slots-slots.ensures.slots (ap (length {A = ℕ}) c.as_slice-working.ensures.value ∙ c.self.invariant.weighed.sound.working_count)

pub copy_slots-requires-clause-others : goal.copy_slots-requires-clause-others
copy_slots-requires-clause-others g c =
    committed-others _ c.sort.new.self _ c.slots-slots.result.now c.as_slice-working.result.now c.self.inside.committed.items (sorted g (goal.at.copy_slots-requires-clause-others g c).After-sort) c.slots-slots.ensures.slots c.as_slice-working.ensures.value refl

pub commit-requires-2-clause-differ : goal.commit-requires-2-clause-differ
commit-requires-2-clause-differ g c = record {
  even = search rules;
  names = search rules;
  stamps = search rules;
  others = tags-others-back _ c.sort.new.self _ c.slots-slots.result.now (sorted g (goal.at.commit-requires-2-clause-differ g c).After-sort) c.slots-slots.ensures.slots;
}

pub returns-in_err-commit : goal.returns-in_err-commit
returns-in_err-commit g c = record {
  ended = search rules;
  cells = search rules;
  rows = search rules;
  told = search rules;
  done = search rules;
  moments =
      let moments = moments g (goal.at.returns-in_err-commit g c).After-commit in
      search rules;
  behind =
      let behind = behind g (goal.at.returns-in_err-commit g c).After-commit in
      search rules;
  octets_written = search rules;
  unchanged = search rules;
  cause = search rules;
}

pub returns : goal.returns
returns g c = record {
  ended = search rules;
  cells = search rules;
  rows = search rules;
  told = search rules;
  done =
      let cells = c.free_replaced.ensures.cells ∙ ap (λ (held : Held). held.chains.cells) c.self.view_is in
      let links = c.free_replaced.ensures.links ∙ ap (λ (held : Held). held.chains.links) c.self.view_is in
      let working = ap (λ (held : Held). held.working) c.self.view_is in
      let used : c.self.inside.chains.used ≡ c.args.self.now.chains.used = ap (λ (held : Held). held.chains.used) c.self.view_is in
      let done =
      commit-done c.args.self.now _ c.take_entries.new.entries.items c.free_replaced.new.cells.used (g.B.Eeprom.chip c.args.bench.now).image (g.B.Eeprom.chip c.commit.new.bench.bench.now).image
      (ready g (goal.at.returns g c).After-take_entries) (subst (λ (used : List Bool). StaysMarked c.free_replaced.new.cells.used used) used c.free_replaced.ensures.fewer)
      (commit-view c.args.self.now c.free_replaced.new.cells _ _ _ _ _ cells links (ap (λ (held : Held). held.row_limit) c.self.view_is) (c.copy_slots.ensures ∙ (c.as_slice-working.ensures.value ∙ working)) working (ap (λ (held : Held). held.first_octets) c.self.view_is) (c.commit-2.ensures ∙ ap (λ (held : Held). both_sides held.tags.working) c.self.view_is))
      c.requires.over.stands (rw (c.as_slice-2.ensures.value, c.cells.ensures.number, ap (λ (held : Held). held.chains.cells) c.self.view_is) at c.in_ok-commit.ensures.done) in
      search rules;
  moments =
      let moments = moments g (goal.at.returns g c).After-commit in
      search rules;
  behind =
      let behind = behind g (goal.at.returns g c).After-commit in
      search rules;
  octets_written = search rules;
  unchanged = search rules;
  cause = search rules;
}
