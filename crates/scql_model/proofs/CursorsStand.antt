-- DECLARE makes a cursor that stands on the database, and each move leaves it standing.
use Rattle.std.proofs.Common.{◌≡◌, ℕ, ◌&&◌, true, List, [], ◌∷◌, length, Option, Some, None, option_map, Result, Ok, Err, refl, sym, subst, ap, ◌∙◌}
use Rattle.std.specs.Prelude.{IfSome, nat_le}
use Rattle.std.specs.List.{list_all}
use Rattle.std.proofs.lemmas.Bool.{and_parts, ltb-true}
use Rattle.std.proofs.lemmas.Option.{none-some, same_Some}
use Rattle.scql_base.specs.Name.{is_name}
use Rattle.scql_base.specs.declared.words.Actor.{Actor}
use Rattle.scql_base.specs.declared.words.Subject.{Subject}
use Rattle.scql_base.specs.declared.words.Subject.TheVariants.{Objects, Users, Grants}
use Rattle.scql_base.specs.declared.words.StatusWord.{StatusWord}
use Rattle.scql_base.specs.declared.condition.Condition.{Condition}
use Rattle.scql_base.specs.declared.cursor.Cursor.{Cursor}
use Rattle.scql_base.specs.declared.cursor.Place.{Place}
use Rattle.scql_base.specs.declared.cursor.Place.TheVariants.{NotOpen, At, End}
use Rattle.scql_base.specs.declared.records.Object.{Object}
use Rattle.scql_base.specs.declared.records.ObjectKind.{ObjectKind}
use Rattle.scql_base.specs.declared.records.ObjectKind.TheVariants.{Table, View, Dictionary}
use Rattle.scql_base.specs.declared.operation.Operation.{Operation}
use Rattle.scql_base.specs.declared.operation.Operation.TheVariants.{DeclareCursor, OpenCursor, Next, Fetch, FetchNext, GetResponse}
use Rattle.scql_base.specs.Words.{done, end_reached, security_not_satisfied, conditions_not_satisfied, record_not_found, not_found}
use Rattle.scql_model.specs.Refusals.{or_refused, provided}
use Rattle.scql_model.specs.Rules.{are_different, are_named_among, is_founded, object_stamped}
use Rattle.scql_model.specs.Database.{Database, IsValid}
use Rattle.scql_model.specs.Machine.{Reading, no_reading}
use Rattle.scql_model.specs.Rights.{select_privilege, holds, seen_named}
use Rattle.scql_model.specs.Objects.{StampedRow, columns_of, dictionary_columns}
use Rattle.scql_model.specs.Matching.{Columns}
use Rattle.scql_model.specs.Contents.{Contents, contents_of}
use Rattle.scql_model.specs.Parameters.{are_chosen_columns}
use Rattle.scql_model.specs.ReadingCommands.{ReadingCommand, declare, open_cursor, next, fetch, fetch_next, get_response, Move, or_stays, fitting, wanted_of, named_among, row_octets, reading_command}
use Rattle.scql_model.specs.Moves.{selected, opened, rows_under, first_row, row_behind, row_at, moved_to, giving, went_to, gave_next, gave, gave_more, moved, move_of}
use Rattle.scql_model.specs.WellFormed.{HasForm}
use Rattle.scql_model.specs.Cursors.{StandsOn, Follows}
use Rattle.scql_model.specs.ValidMachine.{IsReadingOf}
use Rattle.scql_model.proofs.AnswerWords.{opened-parts}
use Rattle.scql_model.proofs.FormedCommands.{bound, same_Ok, not_refused, not_unless}
use Rattle.scql_model.proofs.Keeping.{IsThere-found}
use Rattle.scql_model.proofs.KeepsViews.{among-wanted}
use Rattle.scql_model.proofs.LongerLists.{find-all}
use Rattle.scql_model.proofs.ObjectsFollow.{StandsOn-follows}
use Rattle.scql_model.proofs.RightEdits.{Yields, bound-yields, done-yields}

-- a cursor stands wherever its place is
StandsOn-place : (db : Database) (c : Cursor) (place : Place) → StandsOn db c → StandsOn db (record c { place = place })
StandsOn-place db c place stands = record { given = stands.given; columns = record { different = stands.columns.different; named = stands.columns.named } }

-- the columns of an object are different, and so are those of them that are chosen
different-dictionary : (subject : Subject) → are_different (dictionary_columns subject) ≡ true
different-dictionary Objects = refl
different-dictionary Users = refl
different-dictionary Grants = refl

different-columns : (objects : List Object) (o : Object) → is_founded objects o ≡ true → are_different (columns_of o.kind) ≡ true
different-columns objects o founded = go o.kind refl
  where
    go : (kind : ObjectKind) → o.kind ≡ kind → are_different (columns_of kind) ≡ true
    go (Table columns) is = rw is at founded
    go (View base columns conditions) is = (and_parts (are_different columns) _ (rw is at founded)).0
    go (Dictionary subject) is = different-dictionary subject

different-wanted : (all columns : Columns) → are_different all ≡ true → are_chosen_columns columns ≡ true → are_different (wanted_of all columns) ≡ true
different-wanted all [] are chosen = are
different-wanted all (name ∷ names) are chosen =
    let a = and_parts (nat_le (length (name ∷ names)) 15) (list_all is_name (name ∷ names) && are_different (name ∷ names)) chosen in
    (and_parts (list_all is_name (name ∷ names)) (are_different (name ∷ names)) a.1).1

-- an object shows its own columns
contents-columns : (db : Database) (o : Object) → object_stamped db.objects o.stamp ≡ Some o → (contents_of db o.stamp).columns ≡ columns_of o.kind
unfolding contents_of
contents-columns db o there = rw there refl

-- the declared cursor
StandsOn-declared : (db : Database) (actor : Actor) (object : List ℕ) (columns : Columns) (conditions : List Condition) (o : Object) (all : Columns) → IsValid db
    → are_chosen_columns columns ≡ true → seen_named db actor object ≡ Some o → all ≡ columns_of o.kind → are_named_among all columns conditions ≡ true
    → StandsOn db (record { object = o.stamp; columns = wanted_of all columns; conditions = conditions; place = NotOpen })
StandsOn-declared db actor object columns conditions o all valid chosen seen own among =
    let there = IsThere-found db _ o valid seen in
    let founded : is_founded db.objects o ≡ true = find-all (is_founded db.objects) _ db.objects o valid.objects.founded seen in
    record {
      given = ltb-true o.stamp db.next there.older;
      columns = record {
        different = different-wanted all columns (ap are_different own ∙ different-columns db.objects o founded) chosen;
        named = rw there.stamped (subst (λ (cs : Columns). are_named_among cs (wanted_of all columns) conditions ≡ true) own (among-wanted all columns conditions among));
      };
    }

-- what a reading command leaves is of the database
abbrev After : Database → Move Reading → Type 0
After db move = IsReadingOf db move.after

cursor-reading : (db : Database) (c : Cursor) (pending : List ℕ) → StandsOn db c → IsReadingOf db (record { cursor = Some c; pending = pending })
cursor-reading db c pending stands = record { cursor = stands; pending = λ (none : Some c ≡ None). absurd (none-some c (sym none)) }

pub no_reading-of : (db : Database) → IsReadingOf db no_reading
no_reading-of db = record { cursor = tt; pending = λ _. refl }

module _ (db : Database) (c : Cursor) (stands : StandsOn db c) where
  after-moved_to : (place : Place) (word : StatusWord) → After db (moved_to place c word)
  after-moved_to place word = cursor-reading db (record c { place = place }) [] (StandsOn-place db c place stands)

  after-giving : (place : Place) (le : ℕ) (octets : List ℕ) → After db (giving place c le octets)
  after-giving place le octets = cursor-reading db (record c { place = place }) _ (StandsOn-place db c place stands)

  after-went_to : (found : Option StampedRow) → After db (went_to c found)
  after-went_to None = after-moved_to End end_reached
  after-went_to (Some r) = after-moved_to (At r.stamp) done

  after-gave_next : (le : ℕ) (found : Option StampedRow) → Yields (After db) (gave_next c le found)
  after-gave_next le None = done-yields (After db) _ (after-moved_to End end_reached)
  after-gave_next le (Some r) =
      bound-yields (After db) (fitting le (row_octets r.values)) _ λ octets _.
      done-yields (After db) _ (after-giving (At r.stamp) le octets)

  after-gave : (le : ℕ) (place : Place) (rows : List StampedRow) → Yields (After db) (gave c le place rows)
  after-gave le NotOpen rows = record { each = λ move (is : Err conditions_not_satisfied ≡ Ok move). absurd cc }
  after-gave le End rows = done-yields (After db) _ (after-moved_to End end_reached)
  after-gave le (At stamp) rows =
      bound-yields (After db) (or_refused (row_at stamp rows) record_not_found) _ λ r _.
      bound-yields (After db) (fitting le (row_octets r.values)) _ λ octets _.
      done-yields (After db) _ (after-giving (At stamp) le octets)

  after-gave_more : (le : ℕ) (pending : List ℕ) → Yields (After db) (gave_more c le pending)
  after-gave_more le [] = record { each = λ move (is : Err conditions_not_satisfied ≡ Ok move). absurd cc }
  after-gave_more le (octet ∷ octets) = done-yields (After db) _ (after-giving c.place le (octet ∷ octets))

-- the names of the columns that DECLARE chooses are different
abbrev pub HasChosen : ReadingCommand → Type 0
HasChosen (declare object columns conditions) = are_chosen_columns columns ≡ true
HasChosen command = Unit {0}

module _ (db : Database) (actor : Actor) (reading : Reading) (valid : IsValid db) (before : IsReadingOf db reading) where
  stood : (c : Cursor) → reading.cursor ≡ Some c → StandsOn db c
  stood c is = subst (λ (cursor : Option Cursor). IfSome cursor (StandsOn db)) is before.cursor

  after-moved : (command : ReadingCommand) → HasChosen command → Yields (After db) (moved db actor reading command)
  after-moved (declare object columns conditions) chosen =
      bound-yields (After db) (or_refused (seen_named db actor object) not_found) _ λ o at.
      let seen = not_refused (seen_named db actor object) not_found o at in
      bound-yields (After db) (selected db actor o) _ λ contents shown.
      bound-yields (After db) (named_among contents.columns columns conditions) _ λ x among.
      done-yields (After db) _ (after-moved_to db _ (StandsOn-declared db actor object columns conditions o contents.columns valid chosen seen
      (ap (λ (cs : Contents). cs.columns) (of_object o contents shown) ∙ contents-columns db o (IsThere-found db _ o valid seen).stamped)
      (not_unless (are_named_among contents.columns columns conditions) not_found x among)) NotOpen done)
    where
      of_object : (o : Object) (contents : Contents) → selected db actor o ≡ Ok contents → contents ≡ contents_of db o.stamp
      of_object o contents is = bound (provided (holds db actor o select_privilege) security_not_satisfied) _ contents is (λ x _ same. sym (same_Ok (contents_of db o.stamp) contents same))
  after-moved open_cursor chosen =
      bound-yields (After db) (or_refused reading.cursor conditions_not_satisfied) _ λ c at.
      bound-yields (After db) (rows_under db actor c) _ λ rows _.
      done-yields (After db) _ (after-went_to db c (stood c (not_refused reading.cursor conditions_not_satisfied c at)) (first_row rows))
  after-moved next chosen =
      bound-yields (After db) (opened reading.cursor) _ λ c at.
      bound-yields (After db) (rows_under db actor c) _ λ rows _.
      done-yields (After db) _ (after-went_to db c (stood c (opened-parts reading.cursor c at).0) (row_behind c.place rows))
  after-moved (fetch le) chosen =
      bound-yields (After db) (opened reading.cursor) _ λ c at.
      bound-yields (After db) (rows_under db actor c) _ λ rows _.
      after-gave db c (stood c (opened-parts reading.cursor c at).0) le c.place rows
  after-moved (fetch_next le) chosen =
      bound-yields (After db) (opened reading.cursor) _ λ c at.
      bound-yields (After db) (rows_under db actor c) _ λ rows _.
      after-gave_next db c (stood c (opened-parts reading.cursor c at).0) le (row_behind c.place rows)
  after-moved (get_response le) chosen =
      bound-yields (After db) (or_refused reading.cursor conditions_not_satisfied) _ λ c at.
      bound-yields (After db) (rows_under db actor c) _ λ rows _.
      after-gave_more db c (stood c (not_refused reading.cursor conditions_not_satisfied c at)) le reading.pending

  pub IsReadingOf-move_of : (command : ReadingCommand) → HasChosen command → IsReadingOf db (move_of db actor reading command).after
  unfolding move_of
  IsReadingOf-move_of command chosen = go (moved db actor reading command) (after-moved command chosen)
    where
      go : (outcome : Result (Move Reading) StatusWord) → Yields (After db) outcome → IsReadingOf db (or_stays reading outcome).after
      go (Ok move) gives = gives.each move refl
      go (Err word) gives = before

-- what is read of a database is read of one that follows it
pub IsReadingOf-follows : (db new : Database) (reading : Reading) → Follows db new → IsReadingOf db reading → IsReadingOf new reading
IsReadingOf-follows db new reading follows is = record { cursor = go reading.cursor is.cursor; pending = is.pending }
  where
    go : (cursor : Option Cursor) → IfSome cursor (StandsOn db) → IfSome cursor (StandsOn new)
    go None stands = tt
    go (Some c) stands = StandsOn-follows db new c follows stands

-- a well-formed reading command
chosen-mapped : (f : ℕ → ReadingCommand) (le : Option ℕ) (command : ReadingCommand) → ((n : ℕ) → HasChosen (f n)) → option_map f le ≡ Some command → HasChosen command
chosen-mapped f None command each is = absurd (none-some command is)
chosen-mapped f (Some n) command each is = subst HasChosen (same_Some (f n) command is) (each n)

pub HasChosen-reading_command : (operation : Operation) (le : Option ℕ) (command : ReadingCommand) → HasForm operation → reading_command operation le ≡ Some command → HasChosen command
HasChosen-reading_command (DeclareCursor object columns conditions) le command form is = subst HasChosen (same_Some (declare object columns conditions) command is) form.1
HasChosen-reading_command OpenCursor le command form is = subst HasChosen (same_Some open_cursor command is) tt
HasChosen-reading_command Next le command form is = subst HasChosen (same_Some next command is) tt
HasChosen-reading_command Fetch le command form is = chosen-mapped fetch le command (λ n. tt) is
HasChosen-reading_command FetchNext le command form is = chosen-mapped fetch_next le command (λ n. tt) is
HasChosen-reading_command GetResponse le command form is = chosen-mapped get_response le command (λ n. tt) is
HasChosen-reading_command operation le command form is = absurd (none-some command is)
