-- A change of the row at a cursor: it leaves all but that row, or is refused.
use Rattle.std.proofs.Common.{◌≡◌, ℕ, ◌≤◌, ◌<◌, ◌/◌, ◌==◌, nat_le, nat_lt, true, List, [], ◌∷◌, map, Option, Some, None, Result, Ok, Err, refl, sym, ◌∙◌, ap, subst, inl, inr, arith}
use Rattle.std.specs.Prelude.{option_and_then}
use Rattle.std.specs.List.{find}
use Rattle.std.specs.Result.{result_ok}
use Rattle.std.proofs.lemmas.Bool.{cases_Bool, and_parts, leb-true, ltb-true, le-ltb, eqb-true, ne_eqb}
use Rattle.std.proofs.lemmas.Option.{none-some, same_Some}
use Rattle.eeprom.specs.Slots.{replaced, without}
use Rattle.scql_base.specs.declared.words.Actor.{Actor}
use Rattle.scql_base.specs.declared.words.StatusWord.{StatusWord}
use Rattle.scql_base.specs.declared.cursor.Cursor.{Cursor}
use Rattle.scql_base.specs.declared.operation.Operation.{Operation}
use Rattle.scql_base.specs.declared.operation.Operation.TheVariants.{Update, Delete}
use Rattle.scql_base.specs.declared.records.RowRecord.{RowRecord}
use Rattle.scql_base.specs.Row.{row_size}
use Rattle.scql_base.specs.Words.{not_found, wrong_data, record_not_found}
use Rattle.scql_model.specs.Refusals.{◌>>=◌, or_refused}
use Rattle.scql_model.specs.Database.{Database, are_among}
use Rattle.scql_model.specs.Machine.{Transaction}
use Rattle.scql_model.specs.Objects.{StampedRow, columns_of}
use Rattle.scql_model.specs.Contents.{contents_of}
use Rattle.scql_model.specs.Moves.{opened, chosen, row_at}
use Rattle.scql_model.specs.Rights.{update_privilege, delete_privilege}
use Rattle.scql_model.specs.Records.{of_row}
use Rattle.scql_model.specs.Edits.{Edit, changing, removing, applied, with_edits}
use Rattle.scql_model.specs.Changing.{edits_of, transaction_after}
use Rattle.scql_model.specs.Writing.{Assignment, written_through, record_at_cursor, row_after, row_updated, row_deleted}
use Rattle.scql_model.proofs.ChangeLaws.{AreMade-with_edits}
use Rattle.scql_model.proofs.KeepsRows.{written_through-outcome}
use Rattle.scql_model.proofs.Outcomes.{gives-outcome}
use Rattle.scql_model.proofs.RefusalWords.{Refuses, OrRefuses, behind, asked, or_word, gives-with_edits}
use Rattle.scql_model.proofs.LongerLists.{find-passes}
use Rattle.planner.specs.Words.{is_refusal}
use Rattle.planner.specs.Meaning.{at_stamp, row_changed}
use Rattle.planner.proofs.Above.{record_stamp, above}
use Rattle.planner.proofs.Stepping.{ChangesRow}

-- a word of a refusal is one to a plan
pub refusal-of : (word : StatusWord) → Refuses word → is_refusal word ≡ true
refusal-of word is =
    let parts = and_parts (nat_le 25600 word.word) (nat_lt word.word 0x9000) is in
    let low : 25600 ≤ word.word = leb-true 25600 word.word parts.0 in
    let high : word.word < 0x9000 = ltb-true word.word 0x9000 parts.1 in
    rw (
      ne_eqb word.word 0x9000 (λ e. omega (arith, e, high)),
      ne_eqb word.word 0x6282 (λ e. omega (arith, e, low)),
      ne_eqb (word.word / 256) 0x61 (λ e. omega (arith, e, low)),
    ) refl

-- rows above a stamp stay where the row of that stamp changes, or is removed
above-replaced : (stamp : ℕ) (r : RowRecord) (rows : List RowRecord) → r.stamp ≡ stamp → above record_stamp stamp (replaced record_stamp r rows) ≡ above record_stamp stamp rows
above-replaced stamp r [] is = refl
above-replaced stamp r (x ∷ rows) is =
    elim (cases_Bool (x.stamp == r.stamp)) [
      | inl t ↦ (let same : x.stamp ≡ r.stamp = eqb-true x.stamp r.stamp t in
          rw (t, le-ltb stamp r.stamp (omega (arith, is)), le-ltb stamp x.stamp (omega (arith, is, same))) (above-replaced stamp r rows is))
      | inr f ↦ elim (cases_Bool (nat_lt stamp x.stamp)) [
        | inl u ↦ rw (f, u) (ap (λ rest. x ∷ rest) (above-replaced stamp r rows is))
        | inr g ↦ rw (f, g) (above-replaced stamp r rows is)
      ]
    ]

above-without : (stamp gone : ℕ) (rows : List RowRecord) → gone ≡ stamp → above record_stamp stamp (without record_stamp gone rows) ≡ above record_stamp stamp rows
above-without stamp gone [] is = refl
above-without stamp gone (x ∷ rows) is =
    elim (cases_Bool (x.stamp == gone)) [
      | inl t ↦ (let same : x.stamp ≡ gone = eqb-true x.stamp gone t in
          rw (t, le-ltb stamp x.stamp (omega (arith, is, same))) (above-without stamp gone rows is))
      | inr f ↦ elim (cases_Bool (nat_lt stamp x.stamp)) [
        | inl u ↦ rw (f, u) (ap (λ rest. x ∷ rest) (above-without stamp gone rows is))
        | inr g ↦ rw (f, g) (above-without stamp gone rows is)
      ]
    ]

-- the record at a cursor has the stamp at which the cursor stands
record-stamp : (db : Database) (c : Cursor) (stamp : ℕ) (r : RowRecord) → record_at_cursor db (at_stamp stamp c) ≡ Some r → r.stamp ≡ stamp
record-stamp db c stamp r is = go (row_at stamp (chosen (contents_of db c.object) c)) refl is
  where
    go : (x : Option StampedRow) → row_at stamp (chosen (contents_of db c.object) c) ≡ x → option_and_then (λ (y : StampedRow). find (λ (s : RowRecord). s.stamp == y.stamp) db.rows) x ≡ Some r → r.stamp ≡ stamp
    go None at is = absurd (none-some r is)
    go (Some x) at is =
        eqb-true r.stamp x.stamp (find-passes (λ (s : RowRecord). s.stamp == x.stamp) db.rows r is)
        ∙ eqb-true x.stamp stamp (find-passes (λ (y : StampedRow). y.stamp == stamp) (chosen (contents_of db c.object) c) x at)

-- a database after edits of that row
pub record LeavesAbove (stamp : ℕ) (db new : Database) : Type 0 where
  pub rows : List RowRecord
  pub is : new ≡ record db { rows = rows }
  pub same : above record_stamp stamp rows ≡ above record_stamp stamp db.rows

abbrev AreOfRow : ℕ → Database → List Edit → Type 0
AreOfRow stamp db edits = LeavesAbove stamp db (applied db edits)

changed-row : (stamp : ℕ) (db : Database) (r : RowRecord) → r.stamp ≡ stamp → AreOfRow stamp db (changing (of_row r) ∷ [])
changed-row stamp db r is = record { rows = replaced record_stamp r db.rows; is = refl; same = above-replaced stamp r db.rows is }

removed-row : (stamp : ℕ) (db : Database) (r : RowRecord) → r.stamp ≡ stamp → AreOfRow stamp db (removing (of_row r) ∷ [])
removed-row stamp db r is = record { rows = without record_stamp r.stamp db.rows; is = refl; same = above-without stamp r.stamp db.rows is }

opened-again : (stamp : ℕ) (c opened : Cursor) → Some (at_stamp stamp c) ≡ Some opened → at_stamp stamp c ≡ opened
opened-again stamp c opened is = same_Some (at_stamp stamp c) opened is

found-record : {B : Type 0} (P : B → Type 0) (db : Database) (c : Cursor) (stamp : ℕ) (word : StatusWord) (f : RowRecord → Result B StatusWord) → Refuses word
    → ((r : RowRecord) → r.stamp ≡ stamp → OrRefuses P (f r)) → OrRefuses P (or_refused (record_at_cursor db (at_stamp stamp c)) word >>= f)
found-record P db c stamp word f is each =
    behind P (or_refused (record_at_cursor db (at_stamp stamp c)) word) f (or_word (record_at_cursor db (at_stamp stamp c)) word is) (λ r at. each r (record-stamp db c stamp r (found (record_at_cursor db (at_stamp stamp c)) r at)))
  where
    found : (o : Option RowRecord) (r : RowRecord) → or_refused o word ≡ Ok r → o ≡ Some r
    found None r at = absurd cc
    found (Some x) r at = ap result_ok at

at-cursor : {B : Type 0} (P : B → Type 0) (c : Cursor) (stamp : ℕ) (f : Cursor → Result B StatusWord) → OrRefuses P (f (at_stamp stamp c)) → OrRefuses P (opened (Some (at_stamp stamp c)) >>= f)
at-cursor P c stamp f gives = gives

updated-row : (db : Database) (a : Actor) (c : Cursor) (stamp : ℕ) (assignments : List Assignment) → OrRefuses (AreOfRow stamp db) (row_updated db a (Some (at_stamp stamp c)) assignments)
unfolding row_updated
updated-row db a c stamp assignments =
    behind (AreOfRow stamp db) (written_through db a update_privilege (at_stamp stamp c)) _ (gives-outcome (written_through db a update_privilege (at_stamp stamp c)) (written_through-outcome db a update_privilege (at_stamp stamp c))) (λ o _.
    asked (AreOfRow stamp db) (are_among (map (λ (x : Assignment). x.0) assignments) (columns_of o.kind)) not_found _ refl
    (found-record (AreOfRow stamp db) db c stamp record_not_found _ refl (λ r at.
    asked (AreOfRow stamp db) (nat_le (row_size (row_after db assignments r).row) db.limit) wrong_data _ refl (changed-row stamp db (row_after db assignments r) at))))

deleted-row : (db : Database) (a : Actor) (c : Cursor) (stamp : ℕ) → OrRefuses (AreOfRow stamp db) (row_deleted db a (Some (at_stamp stamp c)))
unfolding row_deleted
deleted-row db a c stamp =
    behind (AreOfRow stamp db) (written_through db a delete_privilege (at_stamp stamp c)) _ (gives-outcome (written_through db a delete_privilege (at_stamp stamp c)) (written_through-outcome db a delete_privilege (at_stamp stamp c))) (λ _ _.
    found-record (AreOfRow stamp db) db c stamp record_not_found _ refl (λ r at. removed-row stamp db r at))

edited-row : (db : Database) (a : Actor) (c : Cursor) (stamp : ℕ) (operation : Operation) → ChangesRow operation → OrRefuses (AreOfRow stamp db) (edits_of db a (Some (at_stamp stamp c)) operation)
unfolding edits_of
edited-row db a c stamp (Update changes) is = updated-row db a c stamp changes
edited-row db a c stamp Delete is = deleted-row db a c stamp
edited-row db a c stamp operation is = absurd is

-- so is a transaction after it
pub record Follows (stamp : ℕ) (t next : Transaction) : Type 0 where
  pub channel : next.channel ≡ t.channel
  pub leaves : LeavesAbove stamp t.working next.working

pub changed-follows : (committed : Database) (a : Actor) (operation : Operation) (c : Cursor) (stamp : ℕ) (t : Transaction) → ChangesRow operation
    → OrRefuses (Follows stamp t) (row_changed committed a operation (at_stamp stamp c) t)
unfolding row_changed
changed-follows committed a operation c stamp t is = go (edits_of t.working a (Some (at_stamp stamp c)) operation) (edited-row t.working a c stamp operation is)
  where
    go : (edits : Result (List Edit) StatusWord) → OrRefuses (AreOfRow stamp t.working) edits
        → OrRefuses (Follows stamp t) (edits >>= λ edits. (with_edits t.working edits >>= λ db. Ok (transaction_after committed t edits db)))
    go (Err word) gives = gives
    go (Ok edits) leaves =
        behind (Follows stamp t) (with_edits t.working edits) _ (gives-with_edits t.working edits) (λ db made.
        record { channel = refl; leaves = subst (LeavesAbove stamp t.working) (sym (AreMade-with_edits t.working edits db made).is) leaves })
