-- The records are put in rising order, where they rise and pass the test.
use Rattle.std.proofs.Common.{refl, sym, ◌∙◌, rules}
use Rattle.card.specs.KeptRecords.{stamp_of}
use Rattle.card.proofs.Sorting.{in_order-permuted}
use Rattle.card.proofs.SortedTest.{passed-sorted, refused-sorted}
use Rattle.card.proofs.opening.Gathered.tested.Goals as goal

pub returns-in_err-sorted-clause-refused : goal.returns-in_err-sorted-clause-refused
returns-in_err-sorted-clause-refused c = λ is next counts passed. c.in_err-sorted.ensures.none refl passed.apart

pub returns-then-not-are_valid-clause-refused : goal.returns-then-not-are_valid-clause-refused
returns-then-not-are_valid-clause-refused c = λ is next counts.
    refused-sorted c.args.self.counter c.in_ok-next.next next c.args.self.records.items c.in_ok-sorted.sorted.items c.in_ok-sorted.ensures.permutation c.in_ok-sorted.ensures.rises (search rules)
    (sym c.are_valid.ensures ∙ c.if-not-are_valid.true) counts

pub returns-clause-records : goal.returns-clause-records
returns-clause-records c = in_order-permuted stamp_of c.args.self.records.items c.in_ok-sorted.sorted.items c.in_ok-sorted.ensures.permutation c.in_ok-sorted.ensures.rises

pub returns-clause-passed : goal.returns-clause-passed
returns-clause-passed c = (
  c.in_ok-next.next,
  search rules,
  passed-sorted c.in_ok-next.next c.args.self.records.items c.in_ok-sorted.sorted.items c.in_ok-sorted.ensures.permutation c.in_ok-sorted.ensures.rises (sym c.are_valid.ensures ∙ c.if-not-are_valid.false),
)
