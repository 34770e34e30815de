use Rattle.std.proofs.Common.{rules, ◌≡◌, ◌+◌, ◌-◌, [], ◌∷◌, ◌++◌, ap, arith, length, length-append}
use Rattle.scql_base.specs.Name.{is_name}
use Rattle.scql_model.specs.Fields.{many_at, text_at}
use Rattle.catalog_codec.proofs.ListedFields.{one_more_read}
use Rattle.catalog_codec.proofs.lists.names_at.Goals as goal

pub loop-preserved : goal.loop-preserved
loop-preserved c =
    let name = c.in_ok-name.name in
    let left : c.args.count - c.loop.counter ≡ (c.args.count - (c.loop.counter + 1)) + 1 = omega (arith, c.loop-test.true) in
    let longer : c.push.new.self ≡ c.loop.names ++ name ∷ [] = search rules in
    record {
      read = rw longer (one_more_read (text_at is_name) _ _ c.loop.names name c.loop.rest.now c.in_ok-name.after.now (many_at (text_at is_name) c.args.count c.args.octets.now) c.loop.invariant.read left c.in_ok-name.ensures);
      many = omega (arith, ap length longer, length-append c.loop.names (name ∷ []), c.loop.invariant.many);
    }
