use Rattle.std.proofs.Common.{◌≡◌, ◌+◌, ◌*◌, ◌-◌, ◌≤◌, ℕ, List, length, Option, is_some, refl, ap, ◌∙◌, inl, inr, arith, rules, subst}
use Rattle.eeprom.specs.Chip.{Becomes}
use Rattle.cell_store.specs.Placed.{IsPlaced, IsLaid, KeepsMarked}
use Rattle.cell_store.specs.Runs.{run_marked, run_linked}
use Rattle.cell_store.proofs.Placements.{is_some-map, written-none, written-more, placed-start, laid-start, keeps-start, keeps-run, becomes-run}
use Rattle.cell_store.proofs.Runs.{laid-run, first-some, length-marked, length-linked, run-stays, unmarked-run}
use Rattle.cell_store.proofs.Undoing.{undone}
use Rattle.cell_store.proofs.placing.write_cells.Goals.{After-write}
use Rattle.cell_store.proofs.placing.write_cells.Goals as goal

pub loop-left-init : goal.loop-left-init
loop-left-init g c = record {
  marks = c.requires.covers.used_count;
  links = c.requires.covers.links_count;
  within = omega arith;
  free = c.requires.free;
  first = inl refl;
  stays = λ cell e. e;
  placed = placed-start c.args.cells c.args.marks.now c.args.payload.now c.args.count 65535 c.args.links.now (g.B.Eeprom.chip c.args.bench.now).image refl;
  laid = laid-start c.args.cells c.args.marks.now c.args.count c.args.links.now;
  written = written-none (g.B.Eeprom.chip c.args.bench.now).written (32 * (c.args.count - c.args.count)) (omega arith);
  moments = keeps-start c.args.marks.now c.args.cells (g.B.Eeprom.chip c.args.bench.now);
  told = refl;
  faults = refl;
}

inside : (g : _) (c : After-write g) → c.find_run-run.result.cell + c.find_run-run.result.count ≤ 2 * c.args.cells
inside g c = omega (arith, c.find_run-run.ensures.free.inside, c.loop-left.invariant.marks)

-- what is marked is kept, also where the write failed
moments : (g : _) (c : After-write g) → KeepsMarked c.args.marks.now c.args.cells (g.B.Eeprom.chip c.args.bench.now) (g.B.Eeprom.chip c.write.new.self)
moments g c =
    keeps-run c.args.marks.now c.loop-left.marks c.args.cells c.find_run-run.result.cell c.find_run-run.result.count c.as_slice.result.now (g.B.Eeprom.chip c.args.bench.now) (g.B.Eeprom.chip c.loop-left.bench) (g.B.Eeprom.chip c.write.new.self)
    c.args.payload.now c.loop-left.links c.loop-left.left c.args.count c.loop-left.first (inside g c) c.find_run-run.ensures.free c.loop-left.invariant.stays
    (rw c.as_slice.ensures.value c.fill_run.ensures.size) c.requires.fits.room (g.met.B.Eeprom.sized c.args.bench.now) (g.met.B.Eeprom.clocked c.loop-left.bench)
    c.loop-left.invariant.placed c.loop-left.invariant.moments (rw c.cell_place.ensures at c.write.ensures.writes)

pub loop-left-preserved : goal.loop-left-preserved
loop-left-preserved g c =
    let written = (goal.at.loop-left-preserved g c).After-write in
    let run = c.find_run-run.result in
    let left : ℕ = c.loop-left.left - run.count in
    let inside = inside g written in
    let pieces : c.loop-left.left ≡ left + run.count = omega arith in
    let size : length c.as_slice.result.now ≡ 32 * run.count = rw c.as_slice.ensures.value c.fill_run.ensures.size in
    let old = g.B.Eeprom.chip c.args.bench.now in
    let mid = g.B.Eeprom.chip c.loop-left.bench in
    let new = g.B.Eeprom.chip c.write.new.self in
    rw (c.take_run.ensures.marks, c.take_run.ensures.links, c.find_run-run.ensures.same) (record {
      marks = length-marked c.loop-left.marks run.cell run.count ∙ c.loop-left.invariant.marks;
      links = length-linked c.loop-left.links run.cell run.count c.loop-left.first ∙ c.loop-left.invariant.links;
      within = omega (arith, c.loop-left.invariant.within);
      free = omega (arith, pieces, c.loop-left.invariant.free, unmarked-run c.loop-left.marks run.cell run.count c.find_run-run.ensures.free);
      first = inr (omega (arith, inside, c.find_run-run.ensures.some));
      stays = λ cell e. run-stays c.loop-left.marks run.cell run.count cell (c.loop-left.invariant.stays cell e);
      placed =
          let so_far = subst (λ (k : ℕ). Becomes (IsPlaced c.args.cells c.args.marks.now c.loop-left.marks c.args.payload.now k c.args.count c.loop-left.first c.loop-left.links) old.image mid.image) pieces c.loop-left.invariant.placed in
          let next = becomes-run c.args.marks.now c.loop-left.marks c.args.cells run.cell run.count c.as_slice.result.now old.image mid.image new.image old.still.size c.args.payload.now c.loop-left.links left c.args.count
          c.loop-left.first c.requires.fits.many inside c.find_run-run.ensures.free c.loop-left.invariant.stays c.requires.fits.room (g.met.B.Eeprom.sized c.args.bench.now) (omega (arith, c.loop-left.invariant.within, pieces)) c.requires.payload
          c.loop-left.invariant.marks c.loop-left.invariant.links (c.as_slice.ensures.value ∙ c.fill_run.ensures.octets) so_far (rw c.cell_place.ensures at c.in_default.ensures.written) in
          subst (λ (first : ℕ). Becomes (IsPlaced c.args.cells c.args.marks.now (run_marked c.loop-left.marks run.cell run.count) c.args.payload.now left c.args.count first
          (run_linked c.loop-left.links run.cell run.count c.loop-left.first)) old.image new.image) (first-some run.cell run.count c.loop-left.first c.find_run-run.ensures.some) next;
      laid =
          let next = laid-run c.args.cells c.args.marks.now c.loop-left.marks left c.args.count c.loop-left.first run.cell run.count c.args.links.now c.loop-left.links inside c.find_run-run.ensures.free c.requires.covers.used_count
          c.loop-left.invariant.marks c.loop-left.invariant.links
          (subst (λ (k : ℕ). IsLaid c.args.cells c.args.marks.now c.loop-left.marks k c.args.count c.loop-left.first c.args.links.now c.loop-left.links) pieces c.loop-left.invariant.laid) in
          subst (λ (first : ℕ). IsLaid c.args.cells c.args.marks.now (run_marked c.loop-left.marks run.cell run.count) left c.args.count first c.args.links.now (run_linked c.loop-left.links run.cell run.count c.loop-left.first))
          (first-some run.cell run.count c.loop-left.first c.find_run-run.ensures.some) next;
      written = written-more old.written mid.written new.written (32 * (c.args.count - c.loop-left.left)) _ (32 * (c.args.count - left)) (omega (arith, size, pieces, c.loop-left.invariant.within)) c.loop-left.invariant.written c.write.ensures.writes.written;
      moments = moments g written;
      told = ap (λ (image : Option (List ℕ)). is_some image) c.in_default.ensures.written ∙ (is_some-map _ mid.image ∙ c.loop-left.invariant.told);
      faults = search rules;
    })

pub returns-in-Err : goal.returns-in-Err
returns-in-Err g c = record {
  placed = search rules;
  laid = search rules;
  covers = search rules;
  undone =
      undone c.args.cells c.args.marks.now c.loop-left.marks c.unmark_chain.new.marks c.loop-left.left c.args.count c.loop-left.first c.args.links.now c.loop-left.links c.requires.covers.used_count c.loop-left.invariant.links c.requires.short
      c.loop-left.invariant.laid (rw c.find_run-run.ensures.same at c.unmark_chain.ensures.unmarked);
  stay = search rules;
  there = search rules;
  told = search rules;
  octets_written = search rules;
  moments = moments g (goal.at.returns-in-Err g c).After-write;
  cause = search rules;
}
