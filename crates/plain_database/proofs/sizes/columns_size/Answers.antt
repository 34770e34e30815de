use Rattle.std.proofs.Common.{length, ap, sym, ◌∙◌, arith}
use Rattle.std.proofs.lemmas.List.{take_all}
use Rattle.plain_database.proofs.SpelledSizes.{columns-size}
use Rattle.plain_database.proofs.sizes.columns_size.Goals as goal

pub returns : goal.returns
returns c =
    let whole = take_all c.loop-column.column-index c.as_slice-columns.result.now (omega arith) in
    let many = ap length c.as_slice-columns.ensures.names in
    record {
      number = c.loop-column.invariant.size ∙ (rw (whole, c.as_slice-columns.ensures.names) (sym (columns-size c.args.columns.now)));
      few = omega (arith, c.loop-column.invariant.short, c.loop-column-test.false, c.as_slice-columns.ensures.list.count, many);
    }
