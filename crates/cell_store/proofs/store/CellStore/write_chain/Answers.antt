use Rattle.std.proofs.Common.{◌≡◌, ℕ, List, Bool, length, drop, ap, refl, arith, rules, subst, sym, ◌∙◌}
use Rattle.std.proofs.lemmas.Grind.{common_steps}
use Rattle.cell_store.specs.Cells.{Cells, cells_from, IsInRange}
use Rattle.cell_store.proofs.Cells.{take-whole}
use Rattle.cell_store.proofs.Writing.{written-becomes}
use Rattle.cell_store.proofs.store.CellStore.write_chain.Goals as goal

cells_from-alike : (a b : ℕ) (used : List Bool) (links others : List ℕ) → a ≡ b → links ≡ others → cells_from a used links ≡ cells_from b used others
cells_from-alike a b used links others same linked = rw (same, linked) refl

pub returns : goal.returns
returns g c = record {
  takes = grind (arith, common_steps);
  written =
      let cells = ap (λ (store : Cells). store.cells) c.self.view_is in
      let links = ap (λ (store : Cells). store.links) c.self.view_is in
      let same : length c.write_cells.new.links ≡ length c.as_mut_slice.result.now = c.in_ok-first.ensures.covers.links_count ∙ sym (ap (length {A = ℕ}) c.as_mut_slice.ensures.value ∙ c.self.invariant.links_count) in
      let size : length c.write_cells.new.links ≡ c.self.inside.links.len = omega (arith, same, ap (length {A = ℕ}) c.as_mut_slice.ensures.value, c.self.inside.links.ok.0) in
      written-becomes c.args.self.now _ c.self.inside.used c.write_cells.new.marks c.write_cells.new.links c.as_mut_slice.result.now c.as_slice.result.now c.args.octets.now c.self.inside.cells c.cells_for-count.result c.in_ok-first.first
      (g.B.Eeprom.chip c.args.bench.now).still.size (g.B.Eeprom.chip c.args.bench.now).image (g.B.Eeprom.chip c.write_cells.new.bench).image (subst IsInRange c.self.view_is c.self.invariant) c.requires.room
      (g.met.B.Eeprom.sized c.args.bench.now) cells (ap (λ (store : Cells). store.used) c.self.view_is) (c.as_mut_slice.ensures.value ∙ links) same
      c.requires.some c.requires.most (rw c.as_slice.ensures.value c.fill_payload.ensures.number) (rw c.as_slice.ensures.value c.fill_payload.ensures.record) (search rules)
      (cells_from-alike c.self.inside.cells c.args.self.now.cells c.write_cells.new.marks _ c.write_cells.new.links cells
      (take-whole c.write_cells.new.links (drop (length c.write_cells.new.links) c.self.inside.links.items) c.self.inside.links.len size))
      c.in_ok-first.ensures.laid c.in_ok-first.ensures.placed;
  no_cell = search rules;
  unchanged = search rules;
  fault = search rules;
  there = search rules;
  told = search rules;
  octets_written = search rules;
  moments = search rules;
  cause = search rules;
}
