use Rattle.std.proofs.Common.{◌++◌, arith, length-append}
use Rattle.scql_model.specs.Records.{conditions}
use Rattle.catalog_codec.specs.Conditions.{condition}
use Rattle.catalog_codec.proofs.ListedFields.{room_for_one}
use Rattle.catalog_codec.proofs.lists.put_conditions.Goals as goal

pub put_condition-requires : goal.put_condition-requires
put_condition-requires c =
    let x = c.condition-item.result in
    let items = c.as_slice-condition-items.result.now in
    let whole = c.args.out.now.items ++ conditions.spell c.args.conditions.now in
    let room = room_for_one condition.spell items c.loop-condition.condition-index x c.loop-condition.out.items whole c.loop-condition-test.true c.condition-item.is c.loop-condition.invariant in
    let all = length-append c.args.out.now.items (conditions.spell c.args.conditions.now) in
    omega (arith, room, all, c.requires)
