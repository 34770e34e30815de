-- The index answers the stamp with the slot.
use Rattle.std.proofs.Common.{ℕ, option_map, sym, ap, ◌∙◌}
use Rattle.record_table.specs.Listed.{slots_of}
use Rattle.row_index.proofs.Stamped.{IfSome-both}
use Rattle.db_read.proofs.RowReads.{first-answered}
use Rattle.db_read.proofs.rows.stamp_behind.Goals as goal

pub returns-in_err-next : goal.returns-in_err-next
returns-in_err-next c = λ chip over stands.
    IfSome-both (slots_of c.args.store.now c.args.side chip) _ _ (λ slots value. c.from_residual.ensures ∙ sym (ap (option_map (λ (answer : ℕ × ℕ). answer.0)) c.in_err-next.was) ∙ first-answered _ c.next_after.result value) (c.next_after.ensures.value chip over stands)

pub returns : goal.returns
returns c = λ chip over stands.
    IfSome-both (slots_of c.args.store.now c.args.side chip) _ _ (λ slots value. sym (ap (option_map (λ (answer : ℕ × ℕ). answer.0)) c.in_ok-next.was) ∙ first-answered _ c.next_after.result value) (c.next_after.ensures.value chip over stands)
