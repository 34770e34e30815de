-- Layer by layer, three times.
use Rattle.std.proofs.Common.{◌≡◌, suc, refl, sym, ap, ◌∙◌, arith, rules}
use Rattle.record_table.proofs.Asking.{SameSide-refl, SameSide-then, same-held}
use Rattle.db_define.specs.Layers.{reaches_table}
use Rattle.db_define.proofs.Layers.{not_at-table}
use Rattle.db_define.proofs.base.is_shallow.Goals as goal

pub loop-depth-init : goal.loop-depth-init
loop-depth-init g c = record {
  goes_on = SameSide-refl;
  same = refl;
  faults = refl;
  reached = λ db held n count. (let three : n ≡ 3 = omega arith in ap (λ n. reaches_table n db.objects c.args.layer) three);
}

pub loop-depth-preserved : goal.loop-depth-preserved
loop-depth-preserved g c =
    let so_far = c.loop-depth.invariant in
    let done = c.in_ok-reached.ensures in
    record {
      goes_on = SameSide-then so_far.goes_on done.goes_on;
      same = done.frame.same ∙ so_far.same;
      faults = done.frame.counts.1 ∙ so_far.faults;
      reached = λ db held n count.
          ap (reaches_table n db.objects) (done.answers db (same-held so_far.goes_on so_far.same held)) ∙ so_far.reached db held (suc n) (omega arith);
    }

pub returns-in-Table : goal.returns-in-Table
returns-in-Table g c = record {
  answers = λ db held. rw c.in-Table.is at (c.loop-depth.invariant.reached db held 0 (omega arith));
  goes_on = search rules;
  frame = search rules;
}

pub returns-in_default : goal.returns-in_default
returns-in_default g c = record {
  answers = λ db held. sym (not_at-table c.loop-depth.reached db.objects c.in_default.not-Table) ∙ c.loop-depth.invariant.reached db held 0 (omega arith);
  goes_on = search rules;
  frame = search rules;
}
