use Rattle.std.proofs.Common.{◌≡◌, ◌+◌, rules, arith}
use Rattle.std.specs.Prelude.{cond}
use Rattle.record_table.specs.Listed.{has_kind_mark}
use Rattle.card.proofs.CountedKinds.{counted-all, counted-more}
use Rattle.card.proofs.counting.count_kind.Goals.{then-is_marked, else-is_marked}
use Rattle.card.proofs.counting.count_kind.Goals as goal

pub loop-slot-preserved : goal.loop-slot-preserved
loop-slot-preserved g c =
    let next : c.if-is_marked.count ≡ c.loop-slot.count + cond c.is_marked.result 1 0 = elim c.if-is_marked.branch [
      | then-is_marked w ↦ rw w.if-is_marked.true w.count-is
      | else-is_marked w ↦ rw w.if-is_marked.false (omega (arith, w.count-is))
    ] in
    record {
      few = elim c.if-is_marked.branch [
        | then-is_marked w ↦ omega (arith, w.count-is, c.loop-slot.invariant.few)
        | else-is_marked w ↦ omega (arith, w.count-is, c.loop-slot.invariant.few)
      ];
      counted = counted-more (has_kind_mark g.R.Record.kind) c.args.store.now c.loop-slot.slot c.loop-slot.count c.if-is_marked.count c.is_marked.result (search rules) c.is_marked.ensures c.loop-slot.invariant.counted next;
    }

pub returns : goal.returns
returns g c = counted-all (has_kind_mark g.R.Record.kind) c.args.store.now c.loop-slot.slot c.loop-slot.count (search rules) c.loop-slot.invariant.counted
