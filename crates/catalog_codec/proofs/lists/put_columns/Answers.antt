use Rattle.std.proofs.Common.{◌++◌, ap, arith, length, length-append}
use Rattle.scql_base.specs.Strings.{spelled}
use Rattle.scql_model.specs.Records.{columns}
use Rattle.catalog_codec.proofs.ListedFields.{room_for_one}
use Rattle.catalog_codec.proofs.lists.put_columns.Goals as goal

pub put_text-requires-clause-room : goal.put_text-requires-clause-room
put_text-requires-clause-room c =
    let x = c.column-item.result in
    let items = c.as_slice-column-items.result.now in
    let whole = c.args.out.now.items ++ columns.spell c.args.columns.now in
    let room = room_for_one spelled items c.loop-column.column-index x c.loop-column.out.items whole c.loop-column-test.true c.column-item.is c.loop-column.invariant in
    let all = length-append c.args.out.now.items (columns.spell c.args.columns.now) in
    omega (arith, room, all, ap length c.octets.ensures.octets, c.requires)
