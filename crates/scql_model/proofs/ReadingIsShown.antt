-- What a reading command answers, and what is shown after it, are what follows from what is shown before it.
use Rattle.std.proofs.Common.{◌≡◌, ℕ, Bool, true, false, List, [], ◌∷◌, Option, Some, None, option_map, option_and_then, Result, Ok, Err, refl, sym, ◌∙◌, ap, subst, inl, inr}
use Rattle.std.proofs.lemmas.Bool.{cases_Bool}
use Rattle.scql_base.specs.declared.words.Actor.{Actor}
use Rattle.scql_base.specs.declared.words.StatusWord.{StatusWord}
use Rattle.scql_base.specs.declared.condition.Condition.{Condition}
use Rattle.scql_base.specs.declared.cursor.Cursor.{Cursor}
use Rattle.scql_base.specs.declared.cursor.Place.{Place}
use Rattle.scql_base.specs.declared.cursor.Place.TheVariants.{NotOpen, At, End}
use Rattle.scql_base.specs.declared.records.Object.{Object}
use Rattle.scql_base.specs.Words.{done, security_not_satisfied, conditions_not_satisfied, not_found, end_reached, record_not_found}
use Rattle.scql_model.specs.Database.{Database, IsValid}
use Rattle.scql_model.specs.Machine.{Reading}
use Rattle.scql_model.specs.Refusals.{◌>>=◌, or_refused, provided}
use Rattle.scql_model.specs.Rights.{select_privilege, holds, seen_named, seen_stamped}
use Rattle.scql_model.specs.Objects.{StampedRow}
use Rattle.scql_model.specs.Matching.{Columns, Values}
use Rattle.scql_model.specs.Contents.{Contents, cut_to, contents_of}
use Rattle.scql_model.specs.ReadingCommands.{ReadingCommand, declare, open_cursor, next, fetch, fetch_next, get_response, Move, or_stays, fitting, wanted_of, named_among, row_octets}
use Rattle.scql_model.specs.Moves.{selected, is_opened, opened, chosen, rows_under, row_behind, moved_to, giving, went_to, gave_next, gave, gave_more, moved, move_of}
use Rattle.scql_model.specs.Shown.{ShownTable, ShownObject, ShownPlace, not_open, on, ShownCursor, Shown, open_contents, without_stamps, object_shown, rows_before, is_there, place_shown, cursor_shown, shown}
use Rattle.scql_model.specs.Reads.{PositionedRow, table_under, is_opened_place, opened_cursor, meets_cursor, least_from, least_behind, stands_at, gives_at, goes_to, gives_next, gives_row, gives_more, read, read_move, read_reply, read_next}
use Rattle.scql_model.specs.ReadingLaws.{IsReadable, replies_to, reading_after, read_replies, shown_after}
use Rattle.scql_model.proofs.Positions.{values_of, at_position}
use Rattle.scql_model.proofs.ChosenRows.{chooses, cut_row, FindsChosen, FindsChosen-first_row, FindsChosen-row_behind, row_at-chosen}
use Rattle.scql_model.proofs.FoundAgain.{seen_stamped-named, seen_named-stamped, name-seen_named, find-objects_shown}
use Rattle.scql_model.proofs.ContentsRise.{Rises-contents_of}

-- a move, by what is shown after it
abbrev pub move_shown : Database → Actor → Move Reading → Move Shown
move_shown db actor move = record { reply = move.reply; after = shown db actor move.after }

abbrev told : Database → Actor → Result (Move Reading) StatusWord → Result (Move Shown) StatusWord
told db actor (Ok move) = Ok (move_shown db actor move)
told db actor (Err word) = Err word

-- what an object shows that was looked for
abbrev table_of : Option ShownObject → Result ShownTable StatusWord
table_of found = or_refused found not_found >>= λ (o : ShownObject). or_refused o.table security_not_satisfied

-- what is made of the contents of an object that is seen and may be selected from is made of what it shows
told-selected : (db : Database) (actor : Actor) (seen : Option Object) (continue : Object → Contents → Result (Move Reading) StatusWord) (read_on : ShownTable → Result (Move Shown) StatusWord)
    → ((o : Object) → seen ≡ Some o → holds db actor o select_privilege ≡ true → told db actor (continue o (contents_of db o.stamp)) ≡ read_on (without_stamps (contents_of db o.stamp)))
    → told db actor (or_refused seen not_found >>= λ (o : Object). selected db actor o >>= continue o) ≡ (table_of (option_map (object_shown db actor) seen) >>= read_on)
told-selected db actor None continue read_on same = refl
told-selected db actor (Some o) continue read_on same =
    elim (cases_Bool (holds db actor o select_privilege)) [
      | inl t ↦ rw t (same o refl t)
      | inr f ↦ rw f refl
    ]

-- what is shown under a cursor is what its object shows
table_under-seen : (db : Database) (actor : Actor) (reading : Reading) (pending : List ℕ) (c : Cursor) (seen : Option Object) → IsReadable db → seen_stamped db actor c.object ≡ seen
    → table_under (shown db actor reading) (cursor_shown db actor pending c) ≡ table_of (option_map (object_shown db actor) seen)
unfolding shown
table_under-seen db actor reading pending c None readable is = rw is refl
table_under-seen db actor reading pending c (Some o) readable is =
    rw (is, find-objects_shown db actor o.name, seen_named-stamped db actor c.object o readable is) refl

-- a cursor that stands at a place is shown so, and so is one that gives octets there
stands-shown : (db : Database) (actor : Actor) (reading : Reading) (pending : List ℕ) (c : Cursor) (o : Object) (place : Place) (word : StatusWord)
    → seen_stamped db actor c.object ≡ Some o → holds db actor o select_privilege ≡ true
    → move_shown db actor (moved_to place c word) ≡ stands_at (place_shown (Some (contents_of db o.stamp)) place) (shown db actor reading) (cursor_shown db actor pending c) word
unfolding shown
stands-shown db actor reading pending c o place word is may = rw (is, may) refl

gives-shown : (db : Database) (actor : Actor) (reading : Reading) (pending : List ℕ) (c : Cursor) (o : Object) (place : Place) (le : ℕ) (octets : List ℕ)
    → seen_stamped db actor c.object ≡ Some o → holds db actor o select_privilege ≡ true
    → move_shown db actor (giving place c le octets) ≡ gives_at (place_shown (Some (contents_of db o.stamp)) place) (shown db actor reading) (cursor_shown db actor pending c) le octets
unfolding shown
gives-shown db actor reading pending c o place le octets is may = rw (is, may) refl

-- a cursor is opened where it is shown so
is_opened-shown : (contents : Option Contents) (place : Place) → is_opened_place (place_shown contents place) ≡ is_opened place
is_opened-shown contents NotOpen = refl
is_opened-shown None (At stamp) = refl
is_opened-shown None End = refl
is_opened-shown (Some contents) (At stamp) = refl
is_opened-shown (Some contents) End = refl

module _ (db : Database) (actor : Actor) (reading : Reading) where
  -- what is shown before the command; a cursor as it is shown; and what the actor reads of an object
  abbrev before : Shown
  before = shown db actor reading

  abbrev as_shown : Cursor → ShownCursor
  as_shown c = cursor_shown db actor reading.pending c

  abbrev here : Object → Contents
  here o = contents_of db o.stamp

  -- what is made of a cursor is made of it as it is shown
  told-cursor : (continue : Cursor → Result (Move Reading) StatusWord) (read_on : ShownCursor → Result (Move Shown) StatusWord)
      → ((c : Cursor) → told db actor (continue c) ≡ read_on (as_shown c))
      → told db actor (or_refused reading.cursor conditions_not_satisfied >>= continue) ≡ (or_refused before.cursor conditions_not_satisfied >>= read_on)
  unfolding shown
  told-cursor continue read_on same = go reading.cursor
    where
      go : (cursor : Option Cursor) → told db actor (or_refused cursor conditions_not_satisfied >>= continue) ≡ (or_refused (option_map as_shown cursor) conditions_not_satisfied >>= read_on)
      go None = refl
      go (Some c) = same c

  told-opened : (continue : Cursor → Result (Move Reading) StatusWord) (read_on : ShownCursor → Result (Move Shown) StatusWord)
      → ((c : Cursor) → told db actor (continue c) ≡ read_on (as_shown c))
      → told db actor (opened reading.cursor >>= continue) ≡ (opened_cursor before.cursor >>= read_on)
  unfolding shown
  told-opened continue read_on same = go reading.cursor
    where
      when : (c : Cursor) (open_now shown_open : Bool) → shown_open ≡ open_now
          → told db actor ((provided open_now conditions_not_satisfied >>= λ _. Ok c) >>= continue) ≡ ((provided shown_open conditions_not_satisfied >>= λ _. Ok (as_shown c)) >>= read_on)
      when c true shown_open is = rw is (same c)
      when c false shown_open is = rw is refl

      go : (cursor : Option Cursor) → told db actor (opened cursor >>= continue) ≡ (opened_cursor (option_map as_shown cursor) >>= read_on)
      go None = refl
      go (Some c) = when c (is_opened c.place) _ (is_opened-shown (option_and_then (open_contents db actor) (seen_stamped db actor c.object)) c.place)

  -- what is made of the rows under a cursor is made of what is shown there
  told-under : (c : Cursor) (continue : List StampedRow → Result (Move Reading) StatusWord) (read_on : ShownTable → Result (Move Shown) StatusWord) → IsReadable db
      → ((o : Object) → seen_stamped db actor c.object ≡ Some o → holds db actor o select_privilege ≡ true → told db actor (continue (chosen (here o) c)) ≡ read_on (without_stamps (here o)))
      → told db actor (rows_under db actor c >>= continue) ≡ (table_under before (as_shown c) >>= read_on)
  told-under c continue read_on readable same =
      go (seen_stamped db actor c.object) same
      ∙ ap (λ (t : Result ShownTable StatusWord). t >>= read_on) (sym (table_under-seen db actor reading reading.pending c (seen_stamped db actor c.object) readable refl))
    where
      go : (seen : Option Object) → ((o : Object) → seen ≡ Some o → holds db actor o select_privilege ≡ true → told db actor (continue (chosen (here o) c)) ≡ read_on (without_stamps (here o)))
          → told db actor ((or_refused seen not_found >>= λ (o : Object). selected db actor o >>= λ (contents : Contents). Ok (chosen contents c)) >>= continue) ≡ (table_of (option_map (object_shown db actor) seen) >>= read_on)
      go None same = refl
      go (Some o) same =
          elim (cases_Bool (holds db actor o select_privilege)) [
            | inl t ↦ rw t (same o refl t)
            | inr f ↦ rw f refl
          ]

  -- under a cursor whose object is seen and may be selected from
  module _ (c : Cursor) (o : Object) (is : seen_stamped db actor c.object ≡ Some o) (may : holds db actor o select_privilege ≡ true) where
    went_to-shown : (found : Option StampedRow) (positioned : Option PositionedRow) → FindsChosen (here o) c found positioned → move_shown db actor (went_to c found) ≡ goes_to before (as_shown c) positioned
    went_to-shown found positioned at = rw (at.is_cut, ← at.is_positioned) (go at.row at.there)
      where
        go : (row : Option StampedRow) → ((r : StampedRow) → row ≡ Some r → is_there r.stamp (here o).rows ≡ true)
            → move_shown db actor (went_to c (option_map (cut_row (here o) c) row)) ≡ goes_to before (as_shown c) (option_map (at_position (here o).rows) row)
        go None there = stands-shown db actor reading reading.pending c o End end_reached is may
        go (Some r) there =
            stands-shown db actor reading reading.pending c o (At r.stamp) done is may
            ∙ ap (λ (b : Bool). stands_at (on (rows_before r.stamp (here o).rows) b) before (as_shown c) done) (there r refl)

    given-shown : (place : Place) (shown_place : ShownPlace) (le : ℕ) (fits : Result (List ℕ) StatusWord) → place_shown (Some (here o)) place ≡ shown_place
        → told db actor (fits >>= λ (octets : List ℕ). Ok (giving place c le octets)) ≡ (fits >>= λ (octets : List ℕ). Ok (gives_at shown_place before (as_shown c) le octets))
    given-shown place shown_place le (Err word) at = refl
    given-shown place shown_place le (Ok octets) at =
        ap Ok (gives-shown db actor reading reading.pending c o place le octets is may ∙ ap (λ (p : ShownPlace). gives_at p before (as_shown c) le octets) at)

    gave_next-shown : (le : ℕ) (found : Option StampedRow) (positioned : Option PositionedRow) → FindsChosen (here o) c found positioned
        → told db actor (gave_next c le found) ≡ gives_next before (without_stamps (here o)) (as_shown c) le positioned
    gave_next-shown le found positioned at = rw (at.is_cut, ← at.is_positioned) (go at.row at.there)
      where
        go : (row : Option StampedRow) → ((r : StampedRow) → row ≡ Some r → is_there r.stamp (here o).rows ≡ true)
            → told db actor (gave_next c le (option_map (cut_row (here o) c) row)) ≡ gives_next before (without_stamps (here o)) (as_shown c) le (option_map (at_position (here o).rows) row)
        go None there = ap Ok (stands-shown db actor reading reading.pending c o End end_reached is may)
        go (Some r) there =
            given-shown (At r.stamp) (on (rows_before r.stamp (here o).rows) true) le (fitting le (row_octets (cut_to (here o).columns c.columns r.values))) (ap (on (rows_before r.stamp (here o).rows)) (there r refl))

    -- FETCH at a row
    row-shown : (stamp le : ℕ) (found : Option StampedRow)
        → told db actor (or_refused (option_map (cut_row (here o) c) found) record_not_found >>= λ (r : StampedRow). fitting le (row_octets r.values) >>= λ (octets : List ℕ). Ok (giving (At stamp) c le octets))
        ≡ (or_refused (option_map (λ (r : StampedRow). r.values) found) record_not_found >>= λ (values : Values). fitting le (row_octets (cut_to (here o).columns c.columns values))
        >>= λ (octets : List ℕ). Ok (gives_at (place_shown (Some (here o)) (At stamp)) before (as_shown c) le octets))
    row-shown stamp le None = refl
    row-shown stamp le (Some r) = given-shown (At stamp) _ le (fitting le (row_octets (cut_to (here o).columns c.columns r.values))) refl

    gave-shown : (le : ℕ) (place : Place) → IsReadable db
        → told db actor (gave c le place (chosen (here o) c)) ≡ gives_row before (without_stamps (here o)) (as_shown c) le (place_shown (Some (here o)) place)
    gave-shown le NotOpen readable = refl
    gave-shown le End readable = ap Ok (stands-shown db actor reading reading.pending c o End end_reached is may)
    gave-shown le (At stamp) readable =
        let at = row_at-chosen (here o) c stamp (Rises-contents_of db o.stamp readable) in
        rw (at.1, ← at.2) (row-shown stamp le at.0)

    gave_more-shown : (le : ℕ) (pending : List ℕ) → told db actor (gave_more c le pending) ≡ gives_more before (as_shown c) le (Some pending)
    gave_more-shown le [] = refl
    gave_more-shown le (octet ∷ octets) = ap Ok (gives-shown db actor reading reading.pending c o c.place le (octet ∷ octets) is may ∙ rw (is, may) refl)

    place-under : (as_shown c).place ≡ place_shown (Some (here o)) c.place
    place-under = rw (is, may) refl

    -- the next row behind the cursor's place
    behind : IsReadable db → FindsChosen (here o) c (row_behind c.place (chosen (here o) c)) (least_behind (as_shown c).place (chooses (here o) c) (values_of (here o).rows))
    behind readable =
        subst (λ (p : ShownPlace). FindsChosen (here o) c (row_behind c.place (chosen (here o) c)) (least_behind p (chooses (here o) c) (values_of (here o).rows))) (sym place-under)
        (FindsChosen-row_behind (here o) c c.place (Rises-contents_of db o.stamp readable))

    pending-under : (as_shown c).pending ≡ Some reading.pending
    pending-under = rw (is, may) refl

  told-declared : (object : List ℕ) (columns : Columns) (conditions : List Condition) (o : Object) (asked : Result (Unit {0}) StatusWord) (wanted : Columns) → IsReadable db
      → seen_named db actor object ≡ Some o → holds db actor o select_privilege ≡ true
      → told db actor (asked >>= λ _. Ok (moved_to NotOpen (record { object = o.stamp; columns = wanted; conditions = conditions; place = NotOpen }) done))
      ≡ (asked >>= λ _. Ok (stands_at not_open before (record { object = Some object; columns = wanted; conditions = conditions; place = not_open; pending = Some [] }) done))
  unfolding shown
  told-declared object columns conditions o (Err word) wanted readable is may = refl
  told-declared object columns conditions o (Ok _) wanted readable is may =
      rw (seen_stamped-named db actor object o readable is, may, name-seen_named db actor object o is) refl

  -- each reading command, with its refusals in their order
  told-moved : IsReadable db → (command : ReadingCommand) → told db actor (moved db actor reading command) ≡ read before command
  unfolding shown
  told-moved readable (declare object columns conditions) =
      told-selected db actor (seen_named db actor object) _
      (λ (t : ShownTable). named_among t.columns columns conditions
      >>= λ _. Ok (stands_at not_open before (record { object = Some object; columns = wanted_of t.columns columns; conditions = conditions; place = not_open; pending = Some [] }) done))
      (λ o is may. told-declared object columns conditions o (named_among (here o).columns columns conditions) (wanted_of (here o).columns columns) readable is may)
      ∙ rw (find-objects_shown db actor object) refl
  told-moved readable open_cursor =
      told-cursor _ _ (λ (c : Cursor). told-under c _
      (λ (t : ShownTable). Ok (goes_to before (as_shown c) (least_from 0 (meets_cursor t (as_shown c)) t.rows))) readable
      (λ o is may. ap Ok (went_to-shown c o is may _ _ (FindsChosen-first_row (here o) c (Rises-contents_of db o.stamp readable)))))
  told-moved readable next =
      told-opened _ _ (λ (c : Cursor). told-under c _
      (λ (t : ShownTable). Ok (goes_to before (as_shown c) (least_behind (as_shown c).place (meets_cursor t (as_shown c)) t.rows))) readable
      (λ o is may. ap Ok (went_to-shown c o is may _ _ (behind c o is may readable))))
  told-moved readable (fetch le) =
      told-opened _ _ (λ (c : Cursor). told-under c _
      (λ (t : ShownTable). gives_row before t (as_shown c) le (as_shown c).place) readable
      (λ o is may. gave-shown c o is may le c.place readable
      ∙ ap (gives_row before (without_stamps (here o)) (as_shown c) le) (sym (place-under c o is may))))
  told-moved readable (fetch_next le) =
      told-opened _ _ (λ (c : Cursor). told-under c _
      (λ (t : ShownTable). gives_next before t (as_shown c) le (least_behind (as_shown c).place (meets_cursor t (as_shown c)) t.rows)) readable
      (λ o is may. gave_next-shown c o is may le _ _ (behind c o is may readable)))
  told-moved readable (get_response le) =
      told-cursor _ _ (λ (c : Cursor). told-under c _
      (λ (t : ShownTable). gives_more before (as_shown c) le (as_shown c).pending) readable
      (λ o is may. gave_more-shown c o is may le reading.pending
      ∙ ap (gives_more before (as_shown c) le) (sym (pending-under c o is may))))

  told-or_stays : (outcome : Result (Move Reading) StatusWord) → move_shown db actor (or_stays reading outcome) ≡ or_stays before (told db actor outcome)
  told-or_stays (Ok move) = refl
  told-or_stays (Err word) = refl

  -- the law: a move by stamps is shown as the move from what is shown
  pub move_shown-move_of : IsReadable db → (command : ReadingCommand) → move_shown db actor (move_of db actor reading command) ≡ read_move before command
  unfolding move_of read_move
  move_shown-move_of readable command = told-or_stays (moved db actor reading command) ∙ ap (or_stays before) (told-moved readable command)

-- its two parts
pub reply-move_of : (db : Database) (actor : Actor) (reading : Reading) (command : ReadingCommand) → IsReadable db → (move_of db actor reading command).reply ≡ read_reply (shown db actor reading) command
reply-move_of db actor reading command readable = ap (λ (move : Move Shown). move.reply) (move_shown-move_of db actor reading readable command)

pub shown-move_of : (db : Database) (actor : Actor) (reading : Reading) (command : ReadingCommand) → IsReadable db → shown db actor (move_of db actor reading command).after ≡ read_next (shown db actor reading) command
shown-move_of db actor reading command readable = ap (λ (move : Move Shown). move.after) (move_shown-move_of db actor reading readable command)

-- the same for commands in turn
pub replies_to-shown : (db : Database) (actor : Actor) (reading : Reading) (commands : List ReadingCommand) → IsReadable db → replies_to db actor reading commands ≡ read_replies (shown db actor reading) commands
replies_to-shown db actor reading [] readable = refl
replies_to-shown db actor reading (command ∷ commands) readable =
    let rest = replies_to-shown db actor (move_of db actor reading command).after commands readable in
    rw (reply-move_of db actor reading command readable, rest, shown-move_of db actor reading command readable) refl

pub shown-reading_after : (db : Database) (actor : Actor) (reading : Reading) (commands : List ReadingCommand) → IsReadable db → shown db actor (reading_after db actor reading commands) ≡ shown_after (shown db actor reading) commands
shown-reading_after db actor reading [] readable = refl
shown-reading_after db actor reading (command ∷ commands) readable =
    shown-reading_after db actor (move_of db actor reading command).after commands readable ∙ ap (λ (s : Shown). shown_after s commands) (shown-move_of db actor reading command readable)

-- where the same is shown on two cards, the same commands have the same answers, and the same is shown after them
pub same-replies : (db other : Database) (actor another : Actor) (reading further : Reading) (commands : List ReadingCommand) → IsReadable db → IsReadable other
    → shown db actor reading ≡ shown other another further → replies_to db actor reading commands ≡ replies_to other another further commands
same-replies db other actor another reading further commands readable readable_too same =
    replies_to-shown db actor reading commands readable ∙ ap (λ (s : Shown). read_replies s commands) same ∙ sym (replies_to-shown other another further commands readable_too)

pub same-shown_after : (db other : Database) (actor another : Actor) (reading further : Reading) (commands : List ReadingCommand) → IsReadable db → IsReadable other
    → shown db actor reading ≡ shown other another further → shown db actor (reading_after db actor reading commands) ≡ shown other another (reading_after other another further commands)
same-shown_after db other actor another reading further commands readable readable_too same =
    shown-reading_after db actor reading commands readable ∙ ap (λ (s : Shown). shown_after s commands) same ∙ sym (shown-reading_after other another further commands readable_too)

-- a valid database is readable
pub IsReadable-valid : (db : Database) → IsValid db → IsReadable db
IsReadable-valid db valid = record { names = valid.objects.names; objects = valid.objects.rises; users = valid.users.rises; grants = valid.grants.rises; rows = valid.rows.rises }
