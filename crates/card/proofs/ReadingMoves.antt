-- What a reading command's word, row and cursor make of a session, as the model's move.
use Rattle.std.proofs.Common.{◌≡◌, ◌==◌, ℕ, true, false, List, [], Option, Some, None, is_some, option_map, Result, Ok, Err, if◌then◌else◌, refl, sym, ap, subst, ◌∙◌, inl, inr}
use Rattle.std.specs.Prelude.{IfOk, IfSome, IsTrue, unwrap_or}
use Rattle.std.proofs.lemmas.Bool.{cases_Bool, false≢true}
use Rattle.std.proofs.lemmas.Option.{none-some, same_Some}
use Rattle.eeprom.specs.declared.fault.EepromFault.{EepromFault}
use Rattle.scql_base.specs.declared.cursor.Cursor.{Cursor}
use Rattle.scql_base.specs.declared.operation.Command.{Command}
use Rattle.scql_base.specs.declared.operation.Operation.{Operation}
use Rattle.scql_base.specs.declared.operation.Operation.TheVariants as asks
use Rattle.scql_base.specs.declared.records.Object.{Object}
use Rattle.scql_base.specs.declared.words.Actor.{Actor}
use Rattle.scql_base.specs.declared.words.StatusWord.{StatusWord}
use Rattle.scql_base.specs.Words.{conditions_not_satisfied, done}
use Rattle.scql_model.specs.Database.{Database}
use Rattle.scql_model.specs.Machine.{Reading}
use Rattle.scql_model.specs.Matching.{Values}
use Rattle.scql_model.specs.Contents.{Contents, contents_of}
use Rattle.scql_model.specs.Moves.{chosen, gave_more, move_of, moved, rows_under}
use Rattle.scql_model.specs.Objects.{StampedRow}
use Rattle.scql_model.specs.Refusals.{◌>>=◌, or_refused}
use Rattle.scql_model.specs.Rights.{holds, seen_stamped}
use Rattle.scql_model.specs.ReadingCommands.{Move, ReadingCommand, fetch, fetch_next, get_response, or_stays, reading_command}
use Rattle.cursor.specs.Moved.{refuses}
use Rattle.db_read.specs.Answered.{answered, given, selectable}
use Rattle.db_read.proofs.Sighted.{asked-Ok}
use Rattle.card.specs.Reading.{MovesSo, move_to}

-- a word without a row, as a move
pub stays-answered : (word : StatusWord) (cursor : Option Cursor) (old pending : List ℕ) → pending ≡ (if refuses word then old else [])
    → or_stays (record { cursor = cursor; pending = old }) (answered word cursor) ≡ move_to [] word cursor pending
stays-answered word cursor old pending is =
    elim (cases_Bool (refuses word)) [
      | inl t ↦ (let same = rw t at is in rw (t, same) refl)
      | inr f ↦ (let same = rw f at is in rw (f, same) refl)
    ]

-- a refusal leaves the cursor, so the move is the same from the cursor after it
from-after : (word : StatusWord) (before : Reading) (cursor : Option Cursor) → (IsTrue (refuses word) → cursor ≡ before.cursor)
    → or_stays before (answered word cursor) ≡ or_stays (record { cursor = cursor; pending = before.pending }) (answered word cursor)
from-after word before cursor stays =
    elim (cases_Bool (refuses word)) [
      | inl t ↦ (let same = stays t in rw (t, same) refl)
      | inr f ↦ rw f refl
    ]

pub given-word : (le : ℕ) (word : StatusWord) (cursor : Option Cursor) (values : Values) → (word.word == done.word) ≡ false → given le word cursor values ≡ answered word cursor
given-word le word cursor values is = rw is refl

from-after-given : (le : ℕ) (word : StatusWord) (before : Reading) (cursor : Option Cursor) (values : Values) → (IsTrue (refuses word) → cursor ≡ before.cursor)
    → or_stays before (given le word cursor values) ≡ or_stays (record { cursor = cursor; pending = before.pending }) (given le word cursor values)
from-after-given le word before cursor values stays =
    elim (cases_Bool (word.word == done.word)) [
      | inl t ↦ rw t refl
      | inr f ↦ ap (or_stays before) (given-word le word cursor values f)
          ∙ (from-after word before cursor stays ∙ ap (or_stays (record { cursor = cursor; pending = before.pending })) (sym (given-word le word cursor values f)))
    ]

pub move-answered : (db : Database) (actor : Actor) (before : Reading) (command : ReadingCommand) (word : StatusWord) (cursor : Option Cursor) (pending : List ℕ) → moved db actor before command ≡ answered word cursor
    → (IsTrue (refuses word) → cursor ≡ before.cursor) → pending ≡ (if refuses word then before.pending else []) → move_of db actor before command ≡ move_to [] word cursor pending
unfolding move_of
move-answered db actor before command word cursor pending is stays dropped =
    ap (or_stays before) is ∙ (from-after word before cursor stays ∙ stays-answered word cursor before.pending pending dropped)

pub move-given : (db : Database) (actor : Actor) (before : Reading) (command : ReadingCommand) (le : ℕ) (word : StatusWord) (cursor : Option Cursor) (values : Values) (move : Move Reading)
    → moved db actor before command ≡ given le word cursor values → (IsTrue (refuses word) → cursor ≡ before.cursor)
    → or_stays (record { cursor = cursor; pending = before.pending }) (given le word cursor values) ≡ move → move_of db actor before command ≡ move
unfolding move_of
move-given db actor before command le word cursor values move is stays same =
    ap (or_stays before) is ∙ (from-after-given le word before cursor values stays ∙ same)

-- what holds of the reading command that an operation is, whatever its Le is
pub as-said : (P : ReadingCommand → Type 0) (c : Command) (operation : Operation) (said : ReadingCommand) → ((le : Option ℕ) → reading_command operation le ≡ Some said) → c.operation ≡ operation → P said
    → (command : ReadingCommand) → reading_command c.operation c.le ≡ Some command → P command
as-said P c operation said reads is holds command asked = subst P (same_Some said command (sym (reads c.le) ∙ (ap (λ (operation : Operation). reading_command operation c.le) (sym is) ∙ asked))) holds

-- A command that gives octets has an Le.
with_le : (P : ReadingCommand → Type 0) (f : ℕ → ReadingCommand) (operation : Operation) (c : Command) (le : ℕ) → ((o : Option ℕ) → reading_command operation o ≡ option_map f o) → c.operation ≡ operation → le ≡ unwrap_or c.le 256
    → P (f le) → (command : ReadingCommand) → reading_command c.operation c.le ≡ Some command → P command
with_le P f operation c le reads asked said holds command is = of c.le said (sym (reads c.le) ∙ (ap (λ (operation : Operation). reading_command operation c.le) (sym asked) ∙ is))
  where
    of : (o : Option ℕ) → le ≡ unwrap_or o 256 → option_map f o ≡ Some command → P command
    of None said is = absurd (none-some command is)
    of (Some n) said is = subst P (same_Some (f n) command is) (subst (λ (n : ℕ). P (f n)) said holds)

pub as-fetch : (P : ReadingCommand → Type 0) (c : Command) (le : ℕ) → c.operation ≡ asks.Fetch → le ≡ unwrap_or c.le 256 → P (fetch le) → (command : ReadingCommand) → reading_command c.operation c.le ≡ Some command → P command
as-fetch P c le = with_le P fetch asks.Fetch c le (λ o. refl)

pub as-fetch_next : (P : ReadingCommand → Type 0) (c : Command) (le : ℕ) → c.operation ≡ asks.FetchNext → le ≡ unwrap_or c.le 256 → P (fetch_next le) → (command : ReadingCommand) → reading_command c.operation c.le ≡ Some command → P command
as-fetch_next P c le = with_le P fetch_next asks.FetchNext c le (λ o. refl)

pub as-get_response : (P : ReadingCommand → Type 0) (c : Command) (le : ℕ) → c.operation ≡ asks.GetResponse → le ≡ unwrap_or c.le 256 → P (get_response le) → (command : ReadingCommand) → reading_command c.operation c.le ≡ Some command → P command
as-get_response P c le = with_le P get_response asks.GetResponse c le (λ o. refl)

pub MovesSo-fetch : (db : Database) (actor : Actor) (c : Command) (before : Reading) (le : ℕ) (move : Move Reading) → c.operation ≡ asks.Fetch → le ≡ unwrap_or c.le 256
    → move_of db actor before (fetch le) ≡ move → MovesSo db actor c before move
MovesSo-fetch db actor c before le move = as-fetch (λ (command : ReadingCommand). move_of db actor before command ≡ move) c le

pub MovesSo-fetch_next : (db : Database) (actor : Actor) (c : Command) (before : Reading) (le : ℕ) (move : Move Reading) → c.operation ≡ asks.FetchNext → le ≡ unwrap_or c.le 256
    → move_of db actor before (fetch_next le) ≡ move → MovesSo db actor c before move
MovesSo-fetch_next db actor c before le move = as-fetch_next (λ (command : ReadingCommand). move_of db actor before command ≡ move) c le

pub MovesSo-get_response : (db : Database) (actor : Actor) (c : Command) (before : Reading) (le : ℕ) (move : Move Reading) → c.operation ≡ asks.GetResponse → le ≡ unwrap_or c.le 256
    → move_of db actor before (get_response le) ≡ move → MovesSo db actor c before move
MovesSo-get_response db actor c before le move = as-get_response (λ (command : ReadingCommand). move_of db actor before command ≡ move) c le

pub if_ok-then : {P Q : StatusWord → Type 0} (r : Result StatusWord EepromFault) → ((word : StatusWord) → P word → Q word) → IfOk r P → IfOk r Q
if_ok-then (Ok word) then' holds = then' word holds
if_ok-then (Err fault) then' holds = tt

-- The rows of a cursor may be read where its object may be selected from.
pub rows_under-may : (db : Database) (actor : Actor) (c : Cursor) (o : Object) → selectable db actor (seen_stamped db actor c.object) ≡ Ok o → rows_under db actor c ≡ Ok (chosen (contents_of db o.stamp) c)
rows_under-may db actor c o may = asked-Ok db actor (seen_stamped db actor c.object) (λ (x : Object) (contents : Contents). Ok (chosen contents c)) o may

-- and so where it was found
pub rows_under-found : (db : Database) (actor : Actor) (c : Cursor) (found : Option Object) → is_some found ≡ true → IfSome found (λ (o : Object). selectable db actor (seen_stamped db actor c.object) ≡ Ok o)
    → (rows : List StampedRow) × (rows_under db actor c ≡ Ok rows)
rows_under-found db actor c (Some o) there may = (chosen (contents_of db o.stamp) c, rows_under-may db actor c o may)
rows_under-found db actor c None there may = absurd (false≢true there)

-- GET RESPONSE, by what it finds.
module _ (db : Database) (actor : Actor) (before : Reading) (le : ℕ) where
  pub more-without_cursor : before.cursor ≡ None → move_of db actor before (get_response le) ≡ move_to [] conditions_not_satisfied before.cursor before.pending
  unfolding move_of
  more-without_cursor none = ap (λ (o : Option Cursor). or_stays before (or_refused o conditions_not_satisfied >>= λ (c : Cursor). rows_under db actor c >>= λ _. gave_more c le before.pending)) none

  module _ (c : Cursor) (stands : before.cursor ≡ Some c) where
    on_cursor : moved db actor before (get_response le) ≡ (rows_under db actor c >>= λ _. gave_more c le before.pending)
    on_cursor = ap (λ (o : Option Cursor). or_refused o conditions_not_satisfied >>= λ (c : Cursor). rows_under db actor c >>= λ _. gave_more c le before.pending) stands

    pub more-refused : (word : StatusWord) → rows_under db actor c ≡ Err word → move_of db actor before (get_response le) ≡ move_to [] word before.cursor before.pending
    unfolding move_of
    more-refused word is = ap (or_stays before) (on_cursor ∙ ap (λ (r : Result (List StampedRow) StatusWord). r >>= λ _. gave_more c le before.pending) is)

    on_rows : (rows : List StampedRow) → rows_under db actor c ≡ Ok rows → moved db actor before (get_response le) ≡ gave_more c le before.pending
    on_rows rows is = on_cursor ∙ ap (λ (r : Result (List StampedRow) StatusWord). r >>= λ _. gave_more c le before.pending) is

    pub more-may : (rows : List StampedRow) (move : Move Reading) → rows_under db actor c ≡ Ok rows → or_stays (record { cursor = Some c; pending = before.pending }) (gave_more c le before.pending) ≡ move
        → move_of db actor before (get_response le) ≡ move
    unfolding move_of
    more-may rows move is same =
        ap (or_stays before) (on_rows rows is)
        ∙ (ap (λ (o : Option Cursor). or_stays (record { cursor = o; pending = before.pending }) (gave_more c le before.pending)) stands ∙ same)
