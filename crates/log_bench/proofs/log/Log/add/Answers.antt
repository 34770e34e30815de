use Rattle.std.proofs.Common.{◌∙◌}
use Rattle.log_bench.specs.declared.log.Entry.{Entry}
use Rattle.log_bench.proofs.Entered.{added, within-added}
use Rattle.log_bench.proofs.log.Log.add.Goals as goal

pub invariant_of-self-2-clause-within : goal.invariant_of-self-2-clause-within
invariant_of-self-2-clause-within c =
    let was = c.args.self.now in
    let e : Entry = record { at = c.args.at; from = c.len-from.result; to = c.len-to.result } in
    within-added was.entries.items c.reserve.new.self.items c.push_reserved.new.self.items was.octets.items c.reserve-2.new.self.items c.put_behind.new.octets.items c.args.octets.now e was.within
    c.reserve.ensures.items c.push_reserved.ensures.items c.reserve-2.ensures.items c.put_behind.ensures (c.len-from.ensures ∙ c.reserve-2.new.self.ok.0) (c.len-to.ensures ∙ c.put_behind.new.octets.ok.0)

pub returns-clause-ok : goal.returns-clause-ok
returns-clause-ok c =
    let was = c.args.self.now in
    let e : Entry = record { at = c.args.at; from = c.len-from.result; to = c.len-to.result } in
    added was.entries.items c.reserve.new.self.items c.push_reserved.new.self.items was.octets.items c.reserve-2.new.self.items c.put_behind.new.octets.items
    was.replaced.items c.reserve-3.new.self.items c.put_behind-2.new.octets.items c.args.octets.now c.args.replaced.now e was.within was.paired c.requires
    c.reserve.ensures.items c.push_reserved.ensures.items c.reserve-2.ensures.items c.put_behind.ensures c.reserve-3.ensures.items c.put_behind-2.ensures
    (c.len-from.ensures ∙ c.reserve-2.new.self.ok.0) (c.len-to.ensures ∙ c.put_behind.new.octets.ok.0)
