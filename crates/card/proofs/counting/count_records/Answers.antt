use Rattle.card.proofs.CountedKinds.{counted-counts}
use Rattle.card.proofs.counting.count_records.Goals as goal

pub returns : goal.returns
returns c = λ image slots db stands told holds.
    counted-counts c.args.store.now image slots db c.count_kind.result c.count_kind-2.result c.count_kind-3.result c.count_kind-4.result c.weight.result c.cells.result stands told holds (c.count_kind.ensures image slots stands told)
    (c.count_kind-2.ensures image slots stands told) (c.count_kind-3.ensures image slots stands told) (c.count_kind-4.ensures image slots stands told) (c.weight.ensures.weight image slots stands told) c.cells.ensures.number
