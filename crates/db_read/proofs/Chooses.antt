-- What is chosen of the table under a cursor is what the rows under the cursor are.
use Rattle.std.proofs.Common.{◌≡◌, ℕ, ◌≤◌, ◌==◌, nat_le, nat_lt, Bool, true, false, ◌&&◌, List, [], ◌∷◌, length, map, Option, Some, None, is_some, Ok, refl, sym, ap, subst, ◌∙◌, inl, inr, arith}
use Rattle.std.specs.Prelude.{IfSome, if◌then◌else◌, option_map}
use Rattle.std.specs.List.{filter, list_all}
use Rattle.std.specs.Option.{option_map_or}
use Rattle.std.proofs.lemmas.Bool.{and_parts, and_from, cases_Bool, eqb-true, false≢true, leb-true, ltb-true, lt-ltb}
use Rattle.std.proofs.lemmas.List.Folds.{list_all-map}
use Rattle.std.proofs.lemmas.Option.{same_Some}
use Rattle.eeprom.specs.Chip.{Chip}
use Rattle.record_store.specs.Held.{Held}
use Rattle.record_store.specs.declared.side.Side.{Side}
use Rattle.scql_base.specs.Row.{is_narrow, row_size}
use Rattle.scql_base.specs.declared.condition.Condition.{Condition}
use Rattle.scql_base.specs.declared.cursor.Cursor.{Cursor}
use Rattle.scql_base.specs.declared.cursor.Place.{Place}
use Rattle.scql_base.specs.declared.records.Object.{Object}
use Rattle.scql_base.specs.declared.records.ObjectKind.TheVariants.{Table}
use Rattle.scql_base.specs.declared.records.RowRecord.{RowRecord}
use Rattle.scql_base.specs.declared.words.Actor.{Actor}
use Rattle.scql_model.specs.Contents.{Contents, contents_of, narrowed}
use Rattle.scql_model.specs.Cursors.{IsCursorOf}
use Rattle.scql_model.specs.Database.{Database, are_among, are_named_among, is_table, object_stamped}
use Rattle.scql_model.specs.Defining.{is_table_or_view}
use Rattle.scql_model.specs.Matching.{Columns}
use Rattle.scql_model.specs.Moves as moves
use Rattle.scql_model.specs.Objects.{StampedRow, columns_of}
use Rattle.scql_model.specs.Records.{is_count_of_columns, is_row, row_record}
use Rattle.scql_model.specs.Resolving as model
use Rattle.scql_model.specs.Rights.{seen_stamped}
use Rattle.scql_model.specs.Rules.{fits_table, has_table}
use Rattle.scql_model.proofs.SeenThrough.{IsSeenThrough-resolved_of}
use Rattle.record_table.specs.Listed.{slots_of}
use Rattle.record_table.specs.Making.{IsHeld}
use Rattle.search_cond.specs.Bound.{Binds}
use Rattle.search_cond.specs.declared.placed.Placed.{Placed}
use Rattle.scql_model.specs.Resolving.{AreKnown}
use Rattle.views.specs.Resolved.{AreBound, ArePlaces, Resolves}
use Rattle.views.specs.declared.resolving.Resolved.{Resolved}
use Rattle.scql_model.proofs.KnownNames.{IsKnown, IsKnown-resolved_of, among-within, names-valid}
use Rattle.db_read.specs.Answered.{AreCostsOf, Chooses, selectable}
use Rattle.db_read.specs.Chosen.{are_rising, can_cut, can_show, chosen_rows, costs_shown, is_chosen, is_shown, rows_shown, shown_row}
use Rattle.db_read.specs.Costs.{row_costs}
use Rattle.db_read.specs.Scan.{Found, GoesOver, IsChosenFor, IsFor, IsResolved, IsRight, found_in, found_of}
use Rattle.db_read.specs.declared.chosen.Chosen.{Chosen}
use Rattle.db_read.specs.declared.scan.Choice.{Choice}
use Rattle.db_read.proofs.HeldCosts.{costs-held}
use Rattle.db_read.proofs.Sighted.{asked-Ok, object-stamped, own-stamp, selectable-parts}
use Rattle.db_read.proofs.Through.{are_rising-rises, chosen-through, cut-fits}

-- what holds of each element for two reasons, if a test passes it, holds of those that pass
pub all-kept : {X : Type 0} (p q c r : X → Bool) (xs : List X) → list_all p xs ≡ true → list_all q xs ≡ true → ((x : X) → p x ≡ true → q x ≡ true → c x ≡ true → r x ≡ true) → list_all r (filter c xs) ≡ true
all-kept p q c r [] one other gives = refl
all-kept p q c r (x ∷ xs) one other gives =
    let a = and_parts (p x) (list_all p xs) one in
    let b = and_parts (q x) (list_all q xs) other in
    elim (cases_Bool (c x)) [
      | inl t ↦ rw (t, gives x a.0 b.0 t) (all-kept p q c r xs a.1 b.1 gives)
      | inr f ↦ rw f (all-kept p q c r xs a.1 b.1 gives)
    ]

-- a row of a table has as many values as the table has columns, and a stamp above 0
table-row : (objects : List Object) (x : RowRecord) (table : Object) → has_table objects x ≡ true → object_stamped objects x.table ≡ Some table → (length (columns_of table.kind) ≡ length x.row) × (nat_lt 0 x.stamp ≡ true)
table-row objects x table has at =
    let fits : fits_table x table ≡ true = subst (λ (o : Option Object). option_map_or (fits_table x) o false ≡ true) at has in
    let parts = and_parts (is_table table.kind && nat_lt table.stamp x.stamp) (length (columns_of table.kind) == length x.row) fits in
    let later = ltb-true table.stamp x.stamp (and_parts (is_table table.kind) (nat_lt table.stamp x.stamp) parts.0).1 in
    (eqb-true (length (columns_of table.kind)) (length x.row) parts.1, lt-ltb 0 x.stamp (omega arith))

-- a row is narrow, and not too long
row-limits : (x : RowRecord) → row_record.fits x ≡ true → (list_all is_narrow x.row ≡ true) × (row_size x.row ≤ 1020)
row-limits x fits =
    let row = (and_parts (nat_lt x.table 4294967296) (is_row x.row) (and_parts (nat_lt x.stamp 4294967296) (nat_lt x.table 4294967296 && is_row x.row) fits).1).1 in
    let parts = and_parts (is_count_of_columns (length x.row) && list_all is_narrow x.row) (nat_le (row_size x.row) 1020) row in
    ((and_parts (is_count_of_columns (length x.row)) (list_all is_narrow x.row) parts.0).1, leb-true (row_size x.row) 1020 parts.1)

-- the object that an actor may select from stands under its own stamp
pub stamp-found : (store : Held) (side : Side) (chip : Chip) (db : Database) (actor : Actor) (c : Cursor) (o : Object) → IsHeld store side chip db → selectable db actor (seen_stamped db actor c.object) ≡ Ok o → object_stamped db.objects o.stamp ≡ Some o
stamp-found store side chip db actor c o held selects =
    let at = object-stamped db actor c.object o held.valid (selectable-parts db actor (seen_stamped db actor c.object) o selects).0 in
    ap (object_stamped db.objects) (own-stamp db c.object o at) ∙ at

module _ (store : Held) (side : Side) (chip : Chip) (db : Database) (actor : Actor) (c : Cursor) (o : Object) (held : IsHeld store side chip db) (cursor : IsCursorOf db c)
    (selects : selectable db actor (seen_stamped db actor c.object) ≡ Ok o) where
  pub at-object : object_stamped db.objects c.object ≡ Some o
  at-object = object-stamped db actor c.object o held.valid (selectable-parts db actor (seen_stamped db actor c.object) o selects).0

  own : o.stamp ≡ c.object
  own = own-stamp db c.object o at-object

  at-stamp : object_stamped db.objects o.stamp ≡ Some o
  at-stamp = stamp-found store side chip db actor c o held selects

  named-own : are_named_among (columns_of o.kind) c.columns c.conditions ≡ true
  named-own = subst (λ (found : Option Object). IfSome found (λ x. are_named_among (columns_of x.kind) c.columns c.conditions ≡ true)) at-object cursor.named

  -- the cursor's names are columns of the object
  pub named-columns : (all : Columns) → all ≡ columns_of o.kind → are_named_among all c.columns c.conditions ≡ true
  named-columns all own-columns = subst (λ (x : Columns). are_named_among x c.columns c.conditions ≡ true) (sym own-columns) named-own

  module _ (seen : model.Resolved) (resolved : model.resolved_of db.objects o.stamp ≡ Some seen) where
    known : IsKnown db.objects o.stamp seen
    known = IsKnown-resolved_of db o.stamp seen held.valid resolved

    named-shown : are_named_among seen.columns c.columns c.conditions ≡ true
    named-shown =
        let same = same_Some known.object o (sym known.found ∙ at-stamp) in
        subst (λ (all : Columns). are_named_among all c.columns c.conditions ≡ true) (ap (λ (x : Object). columns_of x.kind) (sym same) ∙ known.columns) named-own

    named-both : (are_among c.columns seen.all ≡ true) × (AreKnown seen.all c.conditions ≡ true)
    named-both =
        let parts = and_parts (are_among c.columns seen.columns) (AreKnown seen.columns c.conditions) named-shown in
        (among-within c.columns seen.columns seen.all known.within parts.0, among-within (map (λ (x : Condition). x.column) c.conditions) seen.columns seen.all known.within parts.1)

    -- the cursor's names are columns of the table
    pub named-all : (all : Columns) → all ≡ seen.all → are_named_among all c.columns c.conditions ≡ true
    named-all all whole =
        subst (λ (x : Columns). are_named_among x c.columns c.conditions ≡ true) (sym whole)
        (and_from (are_among c.columns seen.all) (AreKnown seen.all c.conditions) named-both.0 named-both.1)

    module _ (chosen : Chosen) (of_model : chosen.table ≡ seen.table) (filters : AreBound chosen.filters.now seen.all seen.filters) (placed : ArePlaces chosen.places.now.items seen.all c.columns) (binds : Binds chosen.conditions.now seen.all c.conditions)
        (few : length c.columns ≤ 15) where
      can-cut : (x : RowRecord) → row_record.fits x ≡ true → has_table db.objects x ≡ true → is_chosen chosen x ≡ true → can_cut chosen x ≡ true
      can-cut x fits has is =
          let own = eqb-true x.table chosen.table (and_parts (x.table == chosen.table) (is_shown chosen x.row) is).0 in
          let there = table-row db.objects x known.table has (ap (object_stamped db.objects) (own ∙ of_model) ∙ known.found_table) in
          let limits = row-limits x fits in
          cut-fits chosen.places.now.items seen.all c.columns x.row placed few cursor.different named-both.0 (ap (length {A = List ℕ}) (sym known.all) ∙ there.0) limits.0 limits.1

      stamped : (x : RowRecord) → row_record.fits x ≡ true → has_table db.objects x ≡ true → is_chosen chosen x ≡ true → nat_lt 0 x.stamp ≡ true
      stamped x fits has is =
          let own = eqb-true x.table chosen.table (and_parts (x.table == chosen.table) (is_shown chosen x.row) is).0 in
          (table-row db.objects x known.table has (ap (object_stamped db.objects) (own ∙ of_model) ∙ known.found_table)).1

      can : can_show chosen db.rows ≡ true
      can =
          and_from (are_rising db.rows) (list_all (can_cut chosen) (filter (is_chosen chosen) db.rows)) (are_rising-rises db.rows held.valid.rows.rises)
          (all-kept row_record.fits (has_table db.objects) (is_chosen chosen) (can_cut chosen) db.rows held.valid.rows.limits held.valid.rows.tables can-cut)

      told : rows_shown chosen (slots_of store side chip) ≡ Some (chosen_rows chosen db.rows)
      told = rw (held.told, held.holds.rows, can) refl

      through : narrowed c.columns c.conditions (contents_of db o.stamp) ≡ chosen_rows chosen db.rows
      through =
          (IsSeenThrough-resolved_of db o.stamp seen (names-valid db held.valid) resolved).rows c.columns c.conditions named-shown
          ∙ sym (chosen-through chosen seen c.columns c.conditions of_model placed binds filters db.rows)

      base : model.resolved_of db.objects c.object ≡ Some seen
      base = ap (model.resolved_of db.objects) (sym own) ∙ resolved

      costs-are : AreCostsOf db c.object (costs_shown chosen (slots_of store side chip))
      costs-are = record {
        list = row_costs chosen.table held.slots;
        told = rw (held.told, held.holds.rows, can) refl;
        cells = λ passes. costs-held chosen.table passes held.slots db held.holds ∙ rw (base, of_model) refl;
      }

      pub Chooses-chosen : Chooses db actor c (λ rows. rows_shown chosen (slots_of store side chip) ≡ Some rows) (costs_shown chosen (slots_of store side chip))
      Chooses-chosen = record {
        rows = chosen_rows chosen db.rows;
        under = asked-Ok db actor (seen_stamped db actor c.object) (λ (x : Object) (contents : Contents). Ok (moves.chosen contents c)) o selects ∙ ap Ok through;
        told = told;
        stamped = list_all-map (λ (x : StampedRow). nat_lt 0 x.stamp) (shown_row chosen) (filter (is_chosen chosen) db.rows)
            ∙ all-kept row_record.fits (has_table db.objects) (is_chosen chosen) (λ (x : RowRecord). nat_lt 0 x.stamp) db.rows held.valid.rows.limits held.valid.rows.tables stamped;
        costs_are = λ on_table. costs-are;
      }

-- what was found for a cursor is what it chooses
pub Chooses-over : (store : Held) (side : Side) (chip : Chip) (db : Database) (actor : Actor) (c : Cursor) (p : Found) → IsHeld store side chip db → IsCursorOf db c → GoesOver db actor c p
    → (chosen : Chosen) → chosen.table ≡ p.table → chosen.places.now.items ≡ p.places → chosen.conditions.now ≡ p.conditions → chosen.filters.now ≡ p.filters
    → Chooses db actor c (λ rows. rows_shown chosen (slots_of store side chip) ≡ Some rows) (costs_shown chosen (slots_of store side chip))
Chooses-over store side chip db actor c p held cursor over chosen table places conditions filters =
    let all = over.seen.all in
    Chooses-chosen store side chip db actor c p.object held cursor over.selects over.seen over.resolved chosen (table ∙ over.table)
    (subst (λ (x : List (List Placed)). AreBound x all over.seen.filters) (sym filters) over.filters) (subst (λ (x : List ℕ). ArePlaces x all c.columns) (sym places) over.places)
    (subst (λ (x : List Placed). Binds x all c.conditions) (sym conditions) over.conditions) over.few

-- what was chosen of a table
pub chooses-table : (store : Held) (side : Side) (chip : Chip) (db : Database) (actor : Actor) (c : Cursor) (k : Choice) → IsHeld store side chip db → IsCursorOf db c → IsChosenFor db actor c k → IfSome k.object (λ (o : Object). is_table_or_view o.kind ≡ true)
    → (chosen : Chosen) → chosen.table ≡ k.resolved.table → chosen.places.now ≡ k.places → chosen.conditions.now ≡ k.conditions → chosen.filters.now ≡ k.resolved.filters.items
    → Chooses db actor c (λ rows. rows_shown chosen (slots_of store side chip) ≡ Some rows) (costs_shown chosen (slots_of store side chip))
chooses-table store side chip db actor c k held cursor is kind chosen table places conditions filters = of k.object is kind
  where
    of : (object : Option Object) → (is_some object ≡ true) × IfSome object (λ (o : Object). IsFor db actor c (found_of o k)) → IfSome object (λ (o : Object). is_table_or_view o.kind ≡ true)
        → Chooses db actor c (λ rows. rows_shown chosen (slots_of store side chip) ≡ Some rows) (costs_shown chosen (slots_of store side chip))
    of (Some o) is kind = Chooses-over store side chip db actor c (found_of o k) held cursor (is.1.table kind) chosen table (ap (λ places. places.items) places) conditions filters
    of None is kind = absurd (false≢true is.0)

-- what was found of an object is for the cursor on it
pub is-for : (db : Database) (actor : Actor) (c : Cursor) (o : Object) (answer : Resolved) (p : Found) → selectable db actor (seen_stamped db actor c.object) ≡ Ok o → IsResolved db.objects o answer
    → p.object ≡ o → p.table ≡ answer.table → p.all ≡ answer.all → p.filters ≡ answer.filters.items → ArePlaces p.places p.all c.columns → Binds p.conditions p.all c.conditions → length c.columns ≤ 15 → IsFor db actor c p
is-for db actor c o answer p selects resolves object table all filters places binds few = record {
  table = λ is. let rests = resolves.table (subst (λ (x : Object). is_table_or_view x.kind ≡ true) object is) in record {
    seen = rests.seen;
    selects = selects ∙ ap Ok (sym object);
    resolved = ap (λ (x : Object). model.resolved_of db.objects x.stamp) object ∙ rests.resolved;
    table = table ∙ rests.reaches.table;
    all = all ∙ rests.reaches.all;
    places = subst (λ (all : Columns). ArePlaces p.places all c.columns) (all ∙ rests.reaches.all) places;
    conditions = subst (λ (all : Columns). Binds p.conditions all c.conditions) (all ∙ rests.reaches.all) binds;
    filters = subst (λ (x : List (List Placed)). AreBound x rests.seen.all rests.seen.filters) (sym filters) rests.reaches.filters;
    few = few;
  };
  told = λ is. record {
    selects = selects ∙ ap Ok (sym object);
    all = all ∙ (resolves.told (subst (λ (x : Object). is_table_or_view x.kind ≡ false) object is) ∙ ap (λ (x : Object). columns_of x.kind) (sym object));
    places = places;
    conditions = binds;
    few = few;
  };
}

-- a table rests on itself,
pub resolved-table : (objects : List Object) (o : Object) (columns : Columns) (answer : Resolved) → object_stamped objects o.stamp ≡ Some o → o.kind ≡ Table columns → answer.table ≡ o.stamp → answer.all ≡ columns → answer.filters.items ≡ []
    → IsResolved objects o answer
unfolding model.resolved_of
resolved-table objects o columns answer at kind table all none = record {
  table = λ is. record {
    seen = record { table = o.stamp; all = columns; columns = columns; filters = [] };
    resolved = rw (at, kind) refl;
    reaches = record {
      table = table;
      all = all;
      filters = subst (λ (filters : List (List Placed)). AreBound filters columns []) (sym none) tt;
    };
  };
  told = λ is. absurd (false≢true (sym is ∙ ap is_table_or_view kind));
}

-- a view on what it shows,
pub resolved-view : (objects : List Object) (o : Object) (answer : Resolved) → is_table_or_view o.kind ≡ true → Resolves objects o.stamp answer → IsResolved objects o answer
resolved-view objects o answer kind resolves = record {
  table = λ is. record {
    seen = resolves.is;
    resolved = resolves.resolved;
    reaches = record { table = resolves.stands.table; all = resolves.stands.all; filters = resolves.stands.filters };
  };
  told = λ is. absurd (false≢true (sym is ∙ kind));
}

-- and a dictionary has its own columns
pub resolved-told : (objects : List Object) (o : Object) (answer : Resolved) → is_table_or_view o.kind ≡ false → answer.all ≡ columns_of o.kind → IsResolved objects o answer
resolved-told objects o answer kind all = record {
  table = λ is. absurd (false≢true (sym kind ∙ is));
  told = λ is. all;
}

-- the cursor's names are among all of its object's columns
pub named-resolved : (store : Held) (side : Side) (chip : Chip) (db : Database) (actor : Actor) (c : Cursor) (o : Object) (answer : Resolved) → IsHeld store side chip db → IsCursorOf db c
    → selectable db actor (seen_stamped db actor c.object) ≡ Ok o → IsResolved db.objects o answer → are_named_among answer.all c.columns c.conditions ≡ true
named-resolved store side chip db actor c o answer held cursor selects resolves =
    elim (cases_Bool (is_table_or_view o.kind)) [
      | inl t ↦ (let rests = resolves.table t in named-all store side chip db actor c o held cursor selects rests.seen rests.resolved answer.all rests.reaches.all)
      | inr f ↦ named-columns store side chip db actor c o held cursor selects answer.all (resolves.told f)
    ]

-- what a scan has found was chosen
pub found-chosen : (db : Database) (actor : Actor) (c : Cursor) (is_found : Bool) (k : Choice) (scan : Option Found) → found_in is_found k ≡ scan → is_some scan ≡ true → IsRight db actor scan c → IsChosenFor db actor c k
found-chosen db actor c is_found k scan is some right =
    of is_found k.object (subst (λ (o : Option Found). IfSome o (IsFor db actor c)) (sym is) right) (ap is_some is ∙ some)
  where
    of : (is_found : Bool) (object : Option Object) → IfSome (if is_found then option_map (λ (o : Object). found_of o k) object else None) (IsFor db actor c) → is_some (if is_found then option_map (λ (o : Object). found_of o k) object else None) ≡ true
        → (is_some object ≡ true) × IfSome object (λ (o : Object). IsFor db actor c (found_of o k))
    of true (Some o) right some = (refl, right)
    of true None right some = absurd (false≢true some)
    of false object right some = absurd (false≢true some)

-- wherever the cursor stands
pub right-moved : (db : Database) (actor : Actor) (c : Cursor) (to : Place) (scan : Option Found) → IsRight db actor scan c → IsRight db actor scan (record c { place = to })
right-moved db actor c to None right = tt
right-moved db actor c to (Some p) right = record {
  table = λ is. let over = right.table is in record {
    seen = over.seen;
    selects = over.selects;
    resolved = over.resolved;
    table = over.table;
    all = over.all;
    places = over.places;
    conditions = over.conditions;
    filters = over.filters;
    few = over.few;
  };
  told = λ is. let over = right.told is in record {
    selects = over.selects;
    all = over.all;
    places = over.places;
    conditions = over.conditions;
    few = over.few;
  };
}
