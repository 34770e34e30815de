-- A table or a view is seen through, and a dictionary tells.
use Rattle.std.proofs.Common.{inl, inr, refl, sym, ap, ◌∙◌}
use Rattle.std.specs.List.{find}
use Rattle.scql_model.specs.Contents.{Contents}
use Rattle.scql_model.specs.Moves.{chosen}
use Rattle.scql_model.specs.Objects.{StampedRow}
use Rattle.plain_database.specs.Sought.{admits}
use Rattle.plain_database.proofs.Reached.{is_resolved}
use Rattle.plain_reading.proofs.ToldRows.{dictionary-contents}
use Rattle.plain_reading.proofs.found.find_row.Goals as goal

pub returns-in_err-resolved-in-Table : goal.returns-in_err-resolved-in-Table
returns-in_err-resolved-in-Table c = absurd (is_resolved c.args.database.now c.args.cursor.now.object c.args.object.now c.database-valid.ensures.valid c.requires.object (elim c.in-Table.is [ inl t ↦ rw t.1 refl | inr v ↦ rw v.3 refl ]) (sym (rw c.in_err-resolved-in-Table.was at c.resolved.ensures)))

pub returns-in-Dictionary : goal.returns-in-Dictionary
returns-in-Dictionary c =
    c.find_told.ensures
    ∙ ap (λ (contents : Contents). find (λ (r : StampedRow). admits c.args.sought r.stamp) (chosen contents c.args.cursor.now))
    (sym (dictionary-contents c.args.database.now c.args.cursor.now.object c.args.object.now c.in-Dictionary.subject c.requires.object c.in-Dictionary.is))
