use Rattle.std.proofs.Common.{rules, ◌≡◌, ◌+◌, ◌-◌, [], ◌∷◌, ◌++◌, ap, arith, length, length-append}
use Rattle.scql_model.specs.Fields.{many_at}
use Rattle.catalog_codec.specs.Conditions.{condition}
use Rattle.catalog_codec.proofs.ListedFields.{one_more_read}
use Rattle.catalog_codec.proofs.lists.entries_into.Goals as goal

pub loop-preserved : goal.loop-preserved
loop-preserved c =
    let entry = c.in_ok-condition.condition in
    let left : c.args.count - c.loop.counter ≡ (c.args.count - (c.loop.counter + 1)) + 1 = omega (arith, c.loop-test.true) in
    let longer : c.push.new.self ≡ c.loop.conditions ++ entry ∷ [] = search rules in
    record {
      read = rw longer (one_more_read condition.read _ _ c.loop.conditions entry c.loop.rest.now c.in_ok-condition.after.now (many_at condition.read c.args.count c.args.octets.now) c.loop.invariant.read left c.in_ok-condition.ensures);
      many = omega (arith, ap length longer, length-append c.loop.conditions (entry ∷ []), c.loop.invariant.many);
    }
