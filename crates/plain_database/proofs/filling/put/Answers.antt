-- The record stands before the first of a greater stamp.
use Rattle.std.proofs.Common.{◌≡◌, length, refl, sym, ◌∙◌}
use Rattle.std.specs.Prelude.{vec_len}
use Rattle.plain_database.proofs.InOrder.{put-inserted}
use Rattle.plain_database.proofs.filling.put.Goals as goal
use Rattle.plain_database.proofs.filling.put.Goals.{in-Ok, in-Err}

pub returns-clause-puts : goal.returns-clause-puts
returns-clause-puts g c = elim c.match-insert.branch [
  | in-Ok w ↦ (let long : vec_len c.args.records.now ≡ length c.args.records.now.items = sym c.deref.ensures.len ∙ (rw c.deref.ensures.value refl) in
      record {
        put = rw (w.result-is, w.in-Ok.ensures.items, c.unwrap_or-at.ensures, c.first_behind.ensures, c.stamp.ensures, c.deref.ensures.value, c.len.ensures, long)
            (put-inserted g.R.Stamped.stamp_of c.args.entry c.args.records.now.items);
        same = rw w.result-is tt;
      })
  | in-Err w ↦ record { put = rw w.result-is tt; same = rw w.result-is w.in-Err.ensures.items }
]
