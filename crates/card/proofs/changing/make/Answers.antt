-- UPDATE and DELETE end as their edits through the cursor say, and every other change ends so whatever the cursor is.
use Rattle.std.proofs.Common.{◌≡◌, ℕ, false, List, refl}
use Rattle.scql_base.specs.declared.operation.Operation.{Operation}
use Rattle.scql_base.specs.declared.operation.Operation.TheVariants.{Update, Delete}
use Rattle.scql_model.specs.Changing.{edits_of}
use Rattle.scql_model.specs.Operations.{kind_of}
use Rattle.row_table.proofs.Endings.{EndedBy-after}
use Rattle.card.specs.Changing.{goes_through_cursor}
use Rattle.card.proofs.changing.make.Goals as goal

-- no other operation goes through a cursor
none-other : (operation : Operation) → ((changes : List (List ℕ × List ℕ)) → operation ≡ Update changes → ⊥) → (operation ≡ Delete → ⊥) → goes_through_cursor (kind_of operation) ≡ false
none-other (Update changes) update delete = absurd (update changes refl)
none-other Delete update delete = absurd (delete refl)
none-other operation update delete = refl

pub make_without_cursor-requires-clause-no_cursor : goal.make_without_cursor-requires-clause-no_cursor
make_without_cursor-requires-clause-no_cursor g c = none-other c.args.operation.now c.in_default.not-Update c.in_default.not-Delete

pub returns-in-Update-clause-ended : goal.returns-in-Update-clause-ended
unfolding edits_of
returns-in-Update-clause-ended g c = rw c.in-Update.is (EndedBy-after c.update.ensures.ended refl refl (λ db held may. (may.form, λ outcome is. is)))

pub returns-in-Delete-clause-ended : goal.returns-in-Delete-clause-ended
unfolding edits_of
returns-in-Delete-clause-ended g c = rw c.in-Delete.is (EndedBy-after c.delete.ensures.ended refl refl (λ db held may. (tt, λ outcome is. is)))

pub returns-in_default-clause-ended : goal.returns-in_default-clause-ended
returns-in_default-clause-ended g c =
    EndedBy-after (c.make_without_cursor.ensures.ended c.args.cursor.now) refl refl (λ db held may. (may, λ outcome is. record { given = λ of. is; through = (c.args.cursor.now, is) }))
