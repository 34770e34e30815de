-- UPDATE and DELETE through a cursor: what is so of every cursor that reaches a row, or none, is so through the given cursor and through some.
use Rattle.std.proofs.Common.{◌≡◌, ℕ, List, Option, Some, None, Result, Ok, Err, refl, sym, ap, subst, inl, inr}
use Rattle.std.specs.Prelude.{IfSome, option_map}
use Rattle.std.specs.Result.{IsErrAnd}
use Rattle.std.proofs.lemmas.Bool.{cases_Bool}
use Rattle.eeprom.specs.Chip.{Chip}
use Rattle.record_store.specs.Held.{Held}
use Rattle.scql_base.specs.Words.{conditions_not_satisfied}
use Rattle.scql_base.specs.declared.cursor.Cursor.{Cursor}
use Rattle.scql_base.specs.declared.cursor.Place.TheVariants.{End}
use Rattle.scql_base.specs.declared.records.Object.{Object}
use Rattle.scql_base.specs.declared.records.RowRecord.{RowRecord}
use Rattle.scql_base.specs.declared.words.Actor.{Actor}
use Rattle.scql_base.specs.declared.words.StatusWord.{StatusWord}
use Rattle.scql_model.specs.Cursors.{IsCursorOf}
use Rattle.scql_model.specs.Database.{Database}
use Rattle.scql_model.specs.Edits.{Edit, with_edits}
use Rattle.scql_model.specs.Matching.{Columns}
use Rattle.scql_model.specs.Moves.{is_opened, opened}
use Rattle.scql_model.specs.Refusals.{◌>>=◌}
use Rattle.scql_model.specs.Writing.{record_at_cursor, written_through}
use Rattle.record_table.specs.Making.{Ends}
use Rattle.record_table.specs.declared.stop.Stop.{Stop}
use Rattle.record_table.specs.declared.stop.Stop.TheVariants.{Refused, Fault}
use Rattle.record_table.specs.Asking.{IsStopOf}
use Rattle.db_write.specs.Reached.{FindsRow, IsRowOfObject, IsThrough, without_conditions}

same-ok : {A : Type 0} (x y : A) → ◌≡◌ {A = Result A StatusWord} (Ok x) (Ok y) → x ≡ y
same-ok x y is = cc

-- a cursor that was opened is there
pub opened-some : (cursor : Option Cursor) (c : Cursor) → opened cursor ≡ Ok c → cursor ≡ Some c
opened-some None c is = absurd (let wrong : Err conditions_not_satisfied ≡ Ok c = is in cc)
opened-some (Some x) c is =
    elim (cases_Bool (is_opened x.place)) [
      | inl t ↦ ap Some (same-ok x c (rw t at is))
      | inr f ↦ absurd (let wrong : Err conditions_not_satisfied ≡ Ok c = rw f at is in cc)
    ]

-- and is so without its conditions
opened-without_conditions : (cursor : Option Cursor) (c : Cursor) → opened cursor ≡ Ok c → opened (Some (without_conditions c)) ≡ Ok (without_conditions c)
opened-without_conditions cursor c is =
    elim (cases_Bool (is_opened c.place)) [
      | inl t ↦ rw t refl
      | inr f ↦ absurd (let wrong : Err conditions_not_satisfied ≡ Ok c = rw f at (subst (λ o. opened o ≡ Ok c) (opened-some cursor c is) is) in cc)
    ]

-- through a cursor that was opened who acts may write by a privilege, and it reaches this row, or none
pub record IsReached (db : Database) (actor : Actor) (privilege : ℕ) (cursor : Option Cursor) (c : Cursor) (o : Object) (found : Option RowRecord) : Type 0 where
  pub ready : opened cursor ≡ Ok c
  pub written : written_through db actor privilege c ≡ Ok o
  pub there : found ≡ record_at_cursor db c

-- what an operation does through the given cursor, whatever that is
pub IsThrough-given : (db : Database) (edits : Option Cursor → Result (List Edit) StatusWord) (cursor : Option Cursor) (outcome : Result (List Edit) StatusWord) → edits cursor ≡ outcome → IsThrough db edits cursor outcome
IsThrough-given db edits cursor outcome is = record { given = λ of. sym is; through = (cursor, sym is) }

-- What it does through each cursor that reaches a row, or none, it does through the given one, where that is one of the database. In any case a row is reached without
-- conditions, and none from the end.
pub IsThrough-found : (db : Database) (actor : Actor) (privilege : ℕ) (edits : Option Cursor → Result (List Edit) StatusWord) (cursor : Option Cursor) (c : Cursor) (o : Object) (columns : Columns) (r : RowRecord) (slot : Option ℕ)
    (outcome : Result (List Edit) StatusWord) → opened cursor ≡ Ok c → written_through db actor privilege c ≡ Ok o → FindsRow db c columns r slot
    → ((cursor : Option Cursor) (c : Cursor) → IsReached db actor privilege cursor c o (option_map (λ _. r) slot) → edits cursor ≡ outcome) → IsThrough db edits cursor outcome
IsThrough-found db actor privilege edits cursor c o columns r slot outcome ready written finds ends = record {
  given = λ of. sym (ends cursor c (record { ready = ready; written = written; there = finds.row (subst (λ (x : Option Cursor). IfSome x (IsCursorOf db)) (opened-some cursor c ready) of) }));
  through = some slot finds.of_object ends;
}
  where
    some : (slot : Option ℕ) → IfSome slot (λ _. IsRowOfObject db c r columns) → ((cursor : Option Cursor) (c : Cursor) → IsReached db actor privilege cursor c o (option_map (λ _. r) slot) → edits cursor ≡ outcome)
        → (other : Option Cursor) × (outcome ≡ edits other)
    some None of_object ends = let at_end : Cursor = record c { place = End } in (Some at_end, sym (ends (Some at_end) at_end (record { ready = refl; written = written; there = refl })))
    some (Some n) of_object ends =
        let any = without_conditions c in
        (Some any, sym (ends (Some any) any (record { ready = opened-without_conditions cursor c ready; written = written; there = of_object.row })))

-- a part that stopped an operation ends it, before anything was done
pub Ends-before : (db : Database) (outcome : Result (List Edit) StatusWord) (result : Result (Unit {0}) Stop) (stop : Stop) (store : Held) (before after : Chip) → IsErrAnd result (λ given. given ≡ stop) → IsStopOf outcome stop → after ≡ before
    → Ends db outcome result store store before after
Ends-before db outcome (Ok x) stop store before after gives stopped still = absurd gives
Ends-before db outcome (Err given) (Refused word) store before after gives stopped still =
    subst (λ stop. Ends {T = Unit {0}} db outcome (Err stop) store store before after) (sym gives) (ap (λ (o : Result (List Edit) StatusWord). o >>= with_edits db) stopped, refl, still)
Ends-before db outcome (Err given) Fault store before after gives stopped still = subst (λ stop. Ends {T = Unit {0}} db outcome (Err stop) store store before after) (sym gives) tt
