-- A SELECT prints, and leaves shown, what follows from what is shown.
use Rattle.std.proofs.Common.{◌≡◌, ℕ, Bool, true, false, List, [], ◌∷◌, ◌++◌, map, Option, Some, None, is_some, option_map, Result, Ok, Err, if◌then◌else◌, refl, sym, ◌∙◌, ap, subst, inl, inr}
use Rattle.std.specs.Prelude.{option_and_then}
use Rattle.std.specs.List.{filter, concat}
use Rattle.std.specs.Option.{option_map_or}
use Rattle.std.proofs.lemmas.Bool.{cases_Bool}
use Rattle.std.proofs.lemmas.List.{length-map}
use Rattle.scql_base.specs.declared.words.Actor.{Actor}
use Rattle.scql_base.specs.declared.words.Actor.TheVariants.{Public}
use Rattle.scql_base.specs.declared.words.StatusWord.{StatusWord}
use Rattle.scql_base.specs.declared.condition.Condition.{Condition}
use Rattle.scql_base.specs.declared.cursor.Cursor.{Cursor}
use Rattle.scql_base.specs.declared.cursor.Place.TheVariants.{End}
use Rattle.scql_base.specs.declared.records.Object.{Object}
use Rattle.scql_base.specs.Words.{not_found, security_not_satisfied, channel_not_supported}
use Rattle.scql_model.specs.Refusals.{◌>>=◌, or_refused, provided}
use Rattle.scql_model.specs.Database.{Database, are_named_among}
use Rattle.scql_model.specs.Machine.{Machine, Session, Reading, no_reading, session_of, base, actor_of, actor}
use Rattle.scql_model.specs.Sessions.{with_session, changing_session, without_chain, reading_of, is_channel_open}
use Rattle.scql_model.specs.Rights.{select_privilege, holds, seen_named}
use Rattle.scql_model.specs.Matching.{Columns, Values, matches}
use Rattle.scql_model.specs.Objects.{StampedRow}
use Rattle.scql_model.specs.Contents.{Contents, contents_of, cut_to, narrowed}
use Rattle.scql_model.specs.Moves.{selected}
use Rattle.scql_model.specs.ReadingCommands.{wanted_of, named_among}
use Rattle.scql_model.specs.Shown.{ShownTable, ShownObject, Shown, cursor_shown, object_shown, shown, shown_on}
use Rattle.scql_model.specs.ReadingLaws.{IsReadable}
use Rattle.scql_model.proofs.FoundAgain.{seen_stamped-named, name-seen_named, find-objects_shown}
use Rattle.scql_model.proofs.Positions.{values_of}
use Rattle.scql_model.proofs.ReadingSteps.{shown_on-other, ended-shown}
use Rattle.script.specs.declared.statement.Statement.TheVariants.{Select}
use Rattle.planner.specs.declared.closing.Closing.{Closing}
use Rattle.planner.specs.declared.closing.Closing.TheVariants.{Rows, Refused}
use Rattle.planner.specs.Meaning.{Meaning, Declared, cursor_on, declared, standing, selects_all, ended, meaning}
use Rattle.planner.specs.Selecting.{ShownRows, select_shown, rows_shown, cursor_behind, rows_given, closing_given, rows_text, shown_behind, read_select, select_next, SelectsWhatIsShown}
use Rattle.planner.specs.Text.{row_text, closing_text, meaning_text}
use Rattle.planner.proofs.Asking.{set-there}

-- The rows under a cursor are those that are shown.
values-cut : (test : Values → Bool) (cut : Values → Values) (rows : List StampedRow)
    → values_of (map (λ (r : StampedRow). record r { values = cut r.values }) (filter (λ (r : StampedRow). test r.values) rows)) ≡ map cut (filter test (values_of rows))
values-cut test cut [] = refl
values-cut test cut (r ∷ rows) =
    elim (cases_Bool (test r.values)) [
      | inl t ↦ rw t (ap (λ (rest : List Values). cut r.values ∷ rest) (values-cut test cut rows))
      | inr f ↦ rw f (values-cut test cut rows)
    ]

module _ (db : Database) (a : Actor) (reading : Reading) (object : List ℕ) (columns : Columns) (conditions : List Condition) (readable : IsReadable db) where
  -- a declared cursor and its rows, as they are shown behind the last of them
  abbrev as_shown : Result Declared StatusWord → Result ShownRows StatusWord
  as_shown (Ok d) = Ok (record { rows = values_of d.rows; cursor = cursor_shown db a [] (record d.cursor { place = End }) })
  as_shown (Err word) = Err word

  abbrev declared_by : Object → Result Declared StatusWord
  declared_by o = do
    contents ← selected db a o
    _ ← named_among contents.columns columns conditions
    Ok (record { cursor = cursor_on o.stamp (wanted_of contents.columns columns) conditions; rows = narrowed (wanted_of contents.columns columns) conditions contents })

  abbrev shown_by : ShownTable → Result ShownRows StatusWord
  shown_by t = do
    _ ← named_among t.columns columns conditions
    Ok (record { rows = rows_shown t columns conditions; cursor = cursor_behind object t columns conditions })

  abbrev table_of : Option ShownObject → Result ShownTable StatusWord
  table_of found = or_refused found not_found >>= λ (o : ShownObject). or_refused o.table security_not_satisfied

  found-shown : (found : Option Object) → seen_named db a object ≡ found
      → as_shown (or_refused found not_found >>= declared_by) ≡ (table_of (option_map (object_shown db a) found) >>= shown_by)
  found-shown None is = refl
  found-shown (Some o) is =
      elim (cases_Bool (holds db a o select_privilege)) [
        | inl may ↦ rw may (named (are_named_among (contents_of db o.stamp).columns columns conditions) may)
        | inr f ↦ rw f refl
      ]
    where
      here : Contents
      here = contents_of db o.stamp

      wanted : Columns
      wanted = wanted_of (contents_of db o.stamp).columns columns

      named : (among : Bool) → holds db a o select_privilege ≡ true
          → as_shown (provided among not_found >>= λ _. Ok (record { cursor = cursor_on o.stamp wanted conditions; rows = narrowed wanted conditions here }))
          ≡ (provided among not_found >>= λ _. Ok (record {
            rows = map (cut_to here.columns wanted) (filter (matches here.columns conditions) (values_of here.rows));
            cursor = cursor_behind object (record { columns = here.columns; rows = values_of here.rows }) columns conditions;
          }))
      named false may = refl
      named true may =
          rw (values-cut (matches here.columns conditions) (cut_to here.columns wanted) here.rows, seen_stamped-named db a object o readable is, may, name-seen_named db a object o is) refl

  pub declared-shown : as_shown (or_refused (seen_named db a object) not_found >>= declared_by) ≡ select_shown (shown db a reading) object columns conditions
  unfolding shown
  declared-shown = found-shown (seen_named db a object) refl ∙ ap (λ (found : Option ShownObject). table_of found >>= shown_by) (sym (find-objects_shown db a object))

-- What a session that stands behind a cursor's rows is shown.
module _ (m : Machine) (channel : ℕ) (s : Session) (there : session_of m channel ≡ Some s) where
  abbrev db : Database
  db = base m channel

  abbrev shown_in : Option Session → Shown
  shown_in session =
      shown db (option_map_or (actor_of db) (option_and_then (λ (x : Session). x.user) session) Public) (option_map_or (λ (x : Session). x.reading) session no_reading)

  still-there : (change : Session → Session) → session_of (changing_session change m channel) channel ≡ Some (change s)
  still-there change = ap (λ (session : Option Session). session_of (with_session m channel (option_map change session)) channel) there ∙ set-there m.sessions channel s (change s) there

  still-open : (change : Session → Session) → is_channel_open (changing_session change m channel) channel ≡ true
  still-open change = ap (λ (session : Option Session). is_some session) (still-there change)

  shown-standing : (c : Cursor) → shown_on (changing_session (standing End c) m channel) channel ≡ shown db (actor m channel) (record { cursor = Some (record c { place = End }); pending = [] })
  unfolding shown_on
  shown-standing c =
      let reading : Reading = record { cursor = Some (record c { place = End }); pending = [] } in
      ap shown_in (still-there (standing End c)) ∙ sym (ap (λ (session : Option Session). shown db (option_map_or (actor_of db) (option_and_then (λ (x : Session). x.user) session) Public) reading) there)

  module _ (object : List ℕ) (columns : Columns) (conditions : List Condition) (readable : IsReadable (base m channel)) where
    abbrev given : Result Declared StatusWord → Result ShownRows StatusWord
    given d = as_shown db (actor m channel) (reading_of m channel) object columns conditions readable d

    rows-same : (d : Result Declared StatusWord) → (selects_all m channel d).rows ≡ rows_given (given d)
    rows-same (Err word) = refl
    rows-same (Ok d) = refl

    closing-same : (d : Result Declared StatusWord) → (selects_all m channel d).closing ≡ closing_given (given d)
    closing-same (Err word) = refl
    closing-same (Ok d) = ap (λ (n : ℕ). Rows n) (sym (length-map d.rows (λ (r : StampedRow). r.values)))

    text-given : (d : Result Declared StatusWord) → meaning_text (selects_all m channel d) ≡ rows_text (given d)
    text-given d =
        ap (λ (rows : List Values). concat (map row_text rows) ++ closing_text (selects_all m channel d).closing) (rows-same d)
        ∙ ap (λ (closing : Closing). concat (map row_text (rows_given (given d))) ++ closing_text closing) (closing-same d)

    shown-given : (d : Result Declared StatusWord) → shown_on (selects_all m channel d).machine channel ≡ shown_behind (shown_on m channel) (given d)
    unfolding shown_on shown
    shown-given (Err word) = ended-shown m channel
    shown-given (Ok d) = shown-standing d.cursor

    others-given : (d : Result Declared StatusWord) (other : ℕ) → ¬ (channel ≡ other) → shown_on (selects_all m channel d).machine other ≡ shown_on m other
    others-given (Err word) other apart = shown_on-other without_chain m channel other apart
    others-given (Ok d) other apart = shown_on-other (standing End d.cursor) m channel other apart

    abbrev Selects : Meaning → Type 0
    Selects x = SelectsWhatIsShown m channel object columns conditions x

    abbrev reads : Result Declared StatusWord
    reads = or_refused (seen_named db (actor m channel) object) not_found >>= declared_by db (actor m channel) (reading_of m channel) object columns conditions readable

    same-given : given reads ≡ select_shown (shown_on m channel) object columns conditions
    unfolding shown_on
    same-given = declared-shown db (actor m channel) (reading_of m channel) object columns conditions readable

    opened : (d : Result Declared StatusWord) → is_channel_open (selects_all m channel d).machine channel ≡ true
    opened (Err word) = still-open without_chain
    opened (Ok d) = still-open (standing End d.cursor)

    stays : (d : Result Declared StatusWord) → (selects_all m channel d).machine.committed ≡ m.committed
    stays (Err word) = refl
    stays (Ok d) = refl

    keeps : (d : Result Declared StatusWord) → (selects_all m channel d).machine.transaction ≡ m.transaction
    keeps (Err word) = refl
    keeps (Ok d) = refl

    commits-none : (d : Result Declared StatusWord) → (selects_all m channel d).commits ≡ []
    commits-none (Err word) = refl
    commits-none (Ok d) = refl

    goes-on : (d : Result Declared StatusWord) → (selects_all m channel d).channel ≡ channel
    goes-on (Err word) = refl
    goes-on (Ok d) = refl

    all-selected : Selects (selects_all m channel reads)
    unfolding read_select select_next
    all-selected = record {
      rows = rows-same reads ∙ ap rows_given same-given;
      closing = closing-same reads ∙ ap closing_given same-given;
      text = text-given reads ∙ ap rows_text same-given;
      after = shown-given reads ∙ ap (shown_behind (shown_on m channel)) same-given;
      opened = opened reads;
      others = others-given reads;
      committed = stays reads;
      transaction = keeps reads;
      commits = commits-none reads;
      channel_stays = goes-on reads;
    }

    session-selects : Selects (meaning m channel (Select object columns conditions))
    unfolding meaning declared
    session-selects =
        subst Selects
        (sym (ap (λ (session : Option Session). if is_some session then selects_all m channel reads else ended (Refused channel_not_supported) m channel) there))
        all-selected

-- the law, on a channel that is open
pub select-reads : (m : Machine) (channel : ℕ) (object : List ℕ) (columns : Columns) (conditions : List Condition) → is_channel_open m channel ≡ true → IsReadable (base m channel)
    → SelectsWhatIsShown m channel object columns conditions (meaning m channel (Select object columns conditions))
select-reads m channel object columns conditions opened readable = go (session_of m channel) refl opened
  where
    go : (session : Option Session) → session_of m channel ≡ session → is_some session ≡ true
        → SelectsWhatIsShown m channel object columns conditions (meaning m channel (Select object columns conditions))
    go None there is = absurd cc
    go (Some s) there is = session-selects m channel s there object columns conditions readable
