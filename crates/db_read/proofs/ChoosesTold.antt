-- What is chosen of the dictionary under a cursor is what the rows under the cursor are.
use Rattle.std.proofs.Common.{◌≡◌, ℕ, ◌≤◌, nat_le, nat_lt, Bool, true, false, List, [], ◌∷◌, ◌++◌, length, map, Option, Some, None, Ok, refl, sym, ap, subst, ◌∙◌, inl, inr, arith}
use Rattle.std.specs.Prelude.{IfSome}
use Rattle.std.specs.List.{filter, list_all}
use Rattle.std.proofs.lemmas.Bool.{and_parts, cases_Bool, false≢true, leb-true, lt-ltb}
use Rattle.std.proofs.lemmas.List.Folds.{list_all-append, list_all-map}
use Rattle.eeprom.specs.Chip.{Chip}
use Rattle.eeprom.specs.Slots.{Rises}
use Rattle.record_store.specs.Held.{Held}
use Rattle.record_store.specs.declared.side.Side.{Side}
use Rattle.scql_base.specs.Row.{IsRow, are_a_row, row_size}
use Rattle.scql_base.specs.declared.condition.Condition.{Condition}
use Rattle.scql_base.specs.declared.cursor.Cursor.{Cursor}
use Rattle.scql_base.specs.declared.records.Grant.{Grant}
use Rattle.scql_base.specs.declared.records.Object.{Object}
use Rattle.scql_base.specs.declared.records.ObjectKind.{ObjectKind}
use Rattle.scql_base.specs.declared.records.ObjectKind.TheVariants.{Table, View, Dictionary}
use Rattle.scql_base.specs.declared.records.User.{User}
use Rattle.scql_base.specs.declared.words.Actor.{Actor}
use Rattle.scql_base.specs.declared.words.Subject.{Subject}
use Rattle.scql_base.specs.declared.words.Subject.TheVariants.{Objects, Users, Grants}
use Rattle.scql_model.specs.Contents.{Contents, contents_of, narrowed}
use Rattle.scql_model.specs.Cursors.{IsCursorOf}
use Rattle.scql_model.specs.Database.{Database, IsValid, are_among, are_named_among, object_stamped, stored_grant, stored_object, stored_row, stored_user}
use Rattle.scql_model.specs.Defining.{is_table_or_view}
use Rattle.scql_model.specs.Dictionaries.{grant_told, object_owner, object_told, rows_told, tells_of, user_told}
use Rattle.scql_model.specs.Matching.{Columns, Values}
use Rattle.scql_model.specs.Moves as moves
use Rattle.scql_model.specs.Objects.{StampedRow, columns_of, dictionary_columns}
use Rattle.scql_model.specs.Rights.{seen_stamped}
use Rattle.scql_model.specs.Stored.{StoredRecord, is_given_out}
use Rattle.scql_model.proofs.ContentsRise.{Rises-contents_of}
use Rattle.scql_model.proofs.ReadingIsShown.{IsReadable-valid}
use Rattle.record_table.specs.Making.{IsHeld}
use Rattle.search_cond.specs.Bound.{Binds}
use Rattle.search_cond.specs.declared.placed.Placed.{Placed}
use Rattle.views.specs.Resolved.{ArePlaces}
use Rattle.cursor.specs.Moved.{AreStamped}
use Rattle.db_read.specs.Answered.{Chooses, selectable}
use Rattle.db_read.specs.Chosen.{values_at}
use Rattle.db_read.specs.Scan.{IsChosenFor, IsFor, found_of}
use Rattle.db_read.specs.Told.{TellsRows, as_shown, chosen_told, meets}
use Rattle.db_read.specs.declared.scan.Choice.{Choice}
use Rattle.db_read.specs.declared.telling.Told.{Told}
use Rattle.db_read.proofs.Chooses.{all-kept}
use Rattle.db_read.proofs.Sighted.{asked-Ok, object-stamped, own-stamp, selectable-parts}
use Rattle.db_read.proofs.Through.{cut-fits, values-placed}

-- an object that is no table and no view is a dictionary
pub dictionary-kind : (kind : ObjectKind) → is_table_or_view kind ≡ false → (subject : Subject) × (kind ≡ Dictionary subject)
dictionary-kind (Table columns) other = absurd (false≢true (sym other))
dictionary-kind (View base columns conditions) other = absurd (false≢true (sym other))
dictionary-kind (Dictionary subject) other = (subject, refl)

dictionary-contents : (db : Database) (stamp : ℕ) (o : Object) (subject : Subject) → object_stamped db.objects stamp ≡ Some o → o.kind ≡ Dictionary subject
    → contents_of db stamp ≡ record { columns = dictionary_columns subject; rows = rows_told db o.owner subject }
unfolding contents_of
dictionary-contents db stamp o subject is kind = rw (is, kind) refl

-- the rows of a dictionary under columns and conditions
told-narrowed : (told : Told) (all wanted : Columns) (conditions : List Condition) (rows : List StampedRow) → ArePlaces told.places.now.items all wanted → Binds told.conditions.now all conditions
    → narrowed wanted conditions (record { columns = all; rows = rows }) ≡ chosen_told told rows
told-narrowed told all wanted conditions [] places binds = refl
told-narrowed told all wanted conditions (r ∷ rows) places binds =
    let rest = told-narrowed told all wanted conditions rows places binds in
    elim (cases_Bool (meets told r)) [
      | inl t ↦ (let own = sym (binds r.values) ∙ t in
          rw (t, own) (ap (λ (v : Values). let row : StampedRow = record { stamp = r.stamp; values = v } in row ∷ narrowed wanted conditions (record { columns = all; rows = rows })) (sym (values-placed told.places.now.items all wanted r.values places))
          ∙ ap (λ (more : List StampedRow). as_shown told r ∷ more) rest))
      | inr f ↦ (let own = sym (binds r.values) ∙ f in rw (f, own) rest)
    ]

-- Each record has a stamp above 0.
given-above : {X : Type 0} (f : X → StoredRecord) (next : ℕ) (xs : List X) → list_all (is_given_out next) (map f xs) ≡ true → list_all (λ x. nat_lt 0 (f x).stamp) xs ≡ true
given-above f next [] all = refl
given-above f next (x ∷ xs) all =
    let parts = and_parts (is_given_out next (f x)) (list_all (is_given_out next) (map f xs)) all in
    let above = leb-true 1 (f x).stamp (and_parts (nat_le 1 (f x).stamp) (nat_lt (f x).stamp next) parts.0).0 in
    rw (lt-ltb 0 (f x).stamp (omega (arith, above))) (given-above f next xs parts.1)

record AreAbove (db : Database) : Type 0 where
  users : list_all (λ (u : User). nat_lt 0 u.stamp) db.users ≡ true
  objects : list_all (λ (o : Object). nat_lt 0 o.stamp) db.objects ≡ true
  grants : list_all (λ (g : Grant). nat_lt 0 g.stamp) db.grants ≡ true

AreAbove-valid : (db : Database) → IsValid db → AreAbove db
AreAbove-valid db valid =
    let test = is_given_out db.next in
    let a = and_parts (list_all test (map stored_user db.users)) (list_all test (map stored_object db.objects ++ (map stored_grant db.grants ++ map stored_row db.rows)))
    (sym (list_all-append test (map stored_user db.users) (map stored_object db.objects ++ (map stored_grant db.grants ++ map stored_row db.rows))) ∙ valid.stored.stamped) in
    let b = and_parts (list_all test (map stored_object db.objects)) (list_all test (map stored_grant db.grants ++ map stored_row db.rows))
    (sym (list_all-append test (map stored_object db.objects) (map stored_grant db.grants ++ map stored_row db.rows)) ∙ a.1) in
    let c = and_parts (list_all test (map stored_grant db.grants)) (list_all test (map stored_row db.rows)) (sym (list_all-append test (map stored_grant db.grants) (map stored_row db.rows)) ∙ b.1) in
    record {
      users = given-above stored_user db.next db.users a.0;
      objects = given-above stored_object db.next db.objects b.0;
      grants = given-above stored_grant db.next db.grants c.0;
    }

kept-above : {X : Type 0} (p c : X → Bool) (xs : List X) → list_all p xs ≡ true → list_all p (filter c xs) ≡ true
kept-above p c xs all = all-kept p p c p xs all all (λ x one other is. one)

stamped-told : (db : Database) (owner : ℕ) (subject : Subject) → IsValid db → list_all (λ (r : StampedRow). nat_lt 0 r.stamp) (rows_told db owner subject) ≡ true
stamped-told db owner Objects valid =
    list_all-map (λ (r : StampedRow). nat_lt 0 r.stamp) (object_told db) (filter (λ (o : Object). tells_of owner o.owner) db.objects)
    ∙ kept-above (λ (o : Object). nat_lt 0 o.stamp) (λ (o : Object). tells_of owner o.owner) db.objects (AreAbove-valid db valid).objects
stamped-told db owner Users valid =
    list_all-map (λ (r : StampedRow). nat_lt 0 r.stamp) (user_told db) (filter (λ (u : User). tells_of owner u.owner) db.users)
    ∙ kept-above (λ (u : User). nat_lt 0 u.stamp) (λ (u : User). tells_of owner u.owner) db.users (AreAbove-valid db valid).users
stamped-told db owner Grants valid =
    list_all-map (λ (r : StampedRow). nat_lt 0 r.stamp) (grant_told db) (filter (λ (g : Grant). tells_of owner (object_owner db g.object)) db.grants)
    ∙ kept-above (λ (g : Grant). nat_lt 0 g.stamp) (λ (g : Grant). tells_of owner (object_owner db g.object)) db.grants (AreAbove-valid db valid).grants

module _ (store : Held) (side : Side) (chip : Chip) (db : Database) (actor : Actor) (c : Cursor) (o : Object) (held : IsHeld store side chip db) (cursor : IsCursorOf db c)
    (selects : selectable db actor (seen_stamped db actor c.object) ≡ Ok o) (other : is_table_or_view o.kind ≡ false) where
  at : object_stamped db.objects c.object ≡ Some o
  at = object-stamped db actor c.object o held.valid (selectable-parts db actor (seen_stamped db actor c.object) o selects).0

  at-own : object_stamped db.objects o.stamp ≡ Some o
  at-own = ap (object_stamped db.objects) (own-stamp db c.object o at) ∙ at

  named : are_named_among (columns_of o.kind) c.columns c.conditions ≡ true
  named = subst (λ (found : Option Object). IfSome found (λ x. are_named_among (columns_of x.kind) c.columns c.conditions ≡ true)) at cursor.named

  module _ (told : Told) (dictionary : told.dictionary.now ≡ o) (places : ArePlaces told.places.now.items (columns_of o.kind) c.columns) (binds : Binds told.conditions.now (columns_of o.kind) c.conditions)
      (few : length c.columns ≤ 15) (subject : Subject) (kind : o.kind ≡ Dictionary subject) where
    columns : columns_of o.kind ≡ dictionary_columns subject
    columns = ap columns_of kind

    contents : contents_of db o.stamp ≡ record { columns = columns_of o.kind; rows = rows_told db told.dictionary.now.owner subject }
    contents =
        dictionary-contents db o.stamp o subject at-own kind ∙ (ap (λ (x : Columns). let found : Contents = record { columns = x; rows = rows_told db o.owner subject } in found) (sym columns)
        ∙ ap (λ (x : Object). let found : Contents = record { columns = columns_of o.kind; rows = rows_told db x.owner subject } in found) (sym dictionary))

    shown : narrowed c.columns c.conditions (contents_of db o.stamp) ≡ chosen_told told (rows_told db told.dictionary.now.owner subject)
    shown = ap (narrowed c.columns c.conditions) contents ∙ told-narrowed told (columns_of o.kind) c.columns c.conditions (rows_told db told.dictionary.now.owner subject) places binds

    are-stamped : AreStamped (chosen_told told (rows_told db told.dictionary.now.owner subject))
    are-stamped =
        list_all-map (λ (r : StampedRow). nat_lt 0 r.stamp) (as_shown told) (filter (meets told) (rows_told db told.dictionary.now.owner subject))
        ∙ kept-above (λ (r : StampedRow). nat_lt 0 r.stamp) (meets told) (rows_told db told.dictionary.now.owner subject) (stamped-told db told.dictionary.now.owner subject held.valid)

    cuts : (values : Values) → IsRow values → length values ≡ length (dictionary_columns subject) → are_a_row (values_at told.places.now.items values) ≡ true
    cuts values row wide =
        let among = (and_parts (are_among c.columns (columns_of o.kind)) (are_among (map (λ (x : Condition). x.column) c.conditions) (columns_of o.kind)) named).0 in
        let shown_values = values_at told.places.now.items values in
        (and_parts (are_a_row shown_values) (nat_le (row_size shown_values) (row_size values)) (cut-fits told.places.now.items (columns_of o.kind) c.columns values places few cursor.different among (ap (length {A = List ℕ}) columns ∙ sym wide) row.widths row.size)).0

    pub Chooses-told : Chooses db actor c (TellsRows told store side chip) None
    Chooses-told = record {
      rows = chosen_told told (rows_told db told.dictionary.now.owner subject);
      under = asked-Ok db actor (seen_stamped db actor c.object) (λ (x : Object) (contents : Contents). Ok (moves.chosen contents c)) o selects ∙ ap Ok shown;
      told = record {
        db = db;
        held = held;
        subject = subject;
        kind = ap (λ (x : Object). x.kind) dictionary ∙ kind;
        rises = subst (λ (x : Contents). Rises (λ (r : StampedRow). r.stamp) x.rows) contents (Rises-contents_of db o.stamp (IsReadable-valid db held.valid));
        stamped = are-stamped;
        cuts = cuts;
        are = refl;
      };
      stamped = are-stamped;
      costs_are = λ on_table. absurd (false≢true (sym other ∙ subst (λ (found : Option Object). IfSome found (λ x. is_table_or_view x.kind ≡ true)) at on_table));
    }

-- what was chosen of a dictionary
pub chooses-told : (store : Held) (side : Side) (chip : Chip) (db : Database) (actor : Actor) (c : Cursor) (k : Choice) → IsHeld store side chip db → IsCursorOf db c → IsChosenFor db actor c k
    → (told : Told) → k.object ≡ Some told.dictionary.now → is_table_or_view told.dictionary.now.kind ≡ false → told.places.now ≡ k.places → told.conditions.now ≡ k.conditions → Chooses db actor c (TellsRows told store side chip) None
chooses-told store side chip db actor c k held cursor is told there other places conditions =
    let o = told.dictionary.now in
    let chosen : IfSome (Some o) (λ (o : Object). IsFor db actor c (found_of o k)) = subst (λ (object : Option Object). IfSome object (λ (o : Object). IsFor db actor c (found_of o k))) there is.1 in
    let goes = chosen.told other in
    let kind = dictionary-kind o.kind other in
    let own : ArePlaces k.places.items (columns_of o.kind) c.columns = subst (λ (all : Columns). ArePlaces k.places.items all c.columns) goes.all goes.places in
    let binds : Binds k.conditions (columns_of o.kind) c.conditions = subst (λ (all : Columns). Binds k.conditions all c.conditions) goes.all goes.conditions in
    Chooses-told store side chip db actor c o held cursor goes.selects other told refl (subst (λ (places : List ℕ). ArePlaces places (columns_of o.kind) c.columns) (sym (ap (λ places. places.items) places)) own)
    (subst (λ (bound : List Placed). Binds bound (columns_of o.kind) c.conditions) (sym conditions) binds) goes.few kind.0 kind.1
