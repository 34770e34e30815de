use Rattle.std.proofs.Common.{rules}
use Rattle.cell_store.proofs.Freeing.{Freeing-seen}
use Rattle.cell_store.proofs.store.CellStore.free_chain.Goals as goal

pub returns : goal.returns
returns c = record {
  freed =
      Freeing-seen c.self.inside.cells c.self.inside.used c.unmark_chain.new.marks c.self.inside.links.items c.args.first c.args.self.now c.self.view_is (rw c.as_slice.ensures.value at c.unmark_chain.ensures.unmarked);
  cells = search rules;
  links = search rules;
  fewer = search rules;
  count = search rules;
}
