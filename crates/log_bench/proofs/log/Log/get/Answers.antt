use Rattle.std.proofs.Common.{ap, sym, option_map}
use Rattle.log_bench.specs.Writes.{Write}
use Rattle.log_bench.proofs.Entered.{entry-at, within-at, write-at}
use Rattle.log_bench.proofs.log.Log.get.Goals as goal

pub part-requires-clause-ordered : goal.part-requires-clause-ordered
part-requires-clause-ordered c =
    let here = c.in_ok-entry.ensures.lookup in
    let was = c.args.self.now in
    (within-at _ was.entries.items c.args.write c.in_ok-entry.entry.now was.within (entry-at was.entries.items c.deref.result.now c.args.write c.in_ok-entry.entry.now c.deref.ensures.value here.3.0 here.1)).0

pub part-requires-clause-within : goal.part-requires-clause-within
part-requires-clause-within c =
    let here = c.in_ok-entry.ensures.lookup in
    let was = c.args.self.now in
    rw (c.deref-2.ensures.value) ((within-at _ was.entries.items c.args.write c.in_ok-entry.entry.now was.within (entry-at was.entries.items c.deref.result.now c.args.write c.in_ok-entry.entry.now c.deref.ensures.value here.3.0 here.1)).1)

pub returns-clause-place : goal.returns-clause-place
returns-clause-place c =
    let here = c.in_ok-entry.ensures.lookup in
    let was = c.args.self.now in
    let found = entry-at was.entries.items c.deref.result.now c.args.write c.in_ok-entry.entry.now c.deref.ensures.value here.3.0 here.1 in
    sym (ap (option_map (λ (w : Write). w.at)) (write-at was.octets.items was.replaced.items was.entries.items c.args.write c.in_ok-entry.entry.now found))

pub returns-clause-octets : goal.returns-clause-octets
returns-clause-octets c =
    let here = c.in_ok-entry.ensures.lookup in
    let was = c.args.self.now in
    let found = entry-at was.entries.items c.deref.result.now c.args.write c.in_ok-entry.entry.now c.deref.ensures.value here.3.0 here.1 in
    rw (c.part.ensures, c.deref-2.ensures.value) (sym (ap (option_map (λ (w : Write). w.octets)) (write-at was.octets.items was.replaced.items was.entries.items c.args.write c.in_ok-entry.entry.now found)))
