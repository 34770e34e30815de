-- Where OWNER isn't alone, or a record isn't right, the database isn't valid.
use Rattle.std.proofs.Common.{◌≡◌, ◌&&◌, arith, filter, sym, ◌∙◌}
use Rattle.std.specs.Prelude.{nat_le}
use Rattle.std.proofs.lemmas.Grind.{common_steps}
use Rattle.scql_model.specs.Rules as rules
use Rattle.card.specs.KeptRecords.{users_in}
use Rattle.card.specs.Validity as validity
use Rattle.card.proofs.Grouped.{no-owner, not-each}
use Rattle.card.proofs.validity.are_valid.Goals.{then-next-ge2, else-next-ge2, then-has_owner_alone, else-has_owner_alone}
use Rattle.card.proofs.validity.are_valid.Goals as goal

pub returns-else-is_each_right : goal.returns-else-is_each_right
returns-else-is_each_right c =
    let records = c.args.records.now.items in
    let owner : c.if-next-ge2.value ≡ (nat_le 2 c.args.next && validity.is_owner_alone (filter rules.is_db_o (users_in records))) = elim c.if-next-ge2.branch [
      | then-next-ge2 w ↦ grind (arith, common_steps, w.value-is, w.if-next-ge2.true, w.has_owner_alone.ensures)
      | else-next-ge2 w ↦ grind (arith, common_steps, w.value-is, w.if-next-ge2.false)
    ] in
    c.if-is_each_right.false ∙ sym (elim c.if-has_owner_alone.branch [
      | then-has_owner_alone w ↦ not-each c.args.next records (sym w.is_each_right.ensures ∙ sym w.value-is ∙ c.if-is_each_right.false)
      | else-has_owner_alone w ↦ no-owner c.args.next records (sym owner ∙ w.if-has_owner_alone.false)
    ])
