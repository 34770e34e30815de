use Rattle.std.proofs.Common.{ap}
use Rattle.cell_store.specs.Cells.{Cells}
use Rattle.cell_store.proofs.store.CellStore.read_chain.Goals as goal

pub returns : goal.returns
returns g c = rw (ap (λ (store : Cells). store.cells) c.self.view_is) at c.read_record.ensures
