-- The row that a cursor reaches: that of its stamp in the table, if it meets the cursor's conditions and those of each view.
use Rattle.std.proofs.Common.{◌≡◌, ◌==◌, ◌&&◌, ℕ, Bool, true, false, List, [], ◌∷◌, map, Option, Some, None, inl, inr, refl, sym, ap, ◌∙◌, subst}
use Rattle.std.specs.Prelude.{IfSome, option_and_then, option_map}
use Rattle.std.specs.List.{filter, find, list_all}
use Rattle.std.specs.Option.{option_map_or}
use Rattle.std.proofs.lemmas.Bool.{and_from, and_left, and_parts, cases_Bool, eqb-true}
use Rattle.std.proofs.lemmas.Map.Entries.{option_filter}
use Rattle.std.proofs.lemmas.Option.{none-some, same_Some}
use Rattle.eeprom.specs.Chip.{Chip}
use Rattle.eeprom.specs.Slots.{Rises, has}
use Rattle.eeprom.specs.StoreOf.{Slots}
use Rattle.eeprom.proofs.InOrder.{AreApart-rising}
use Rattle.record_store.specs.Held.{Held}
use Rattle.record_store.specs.declared.side.Side.TheVariants.{Working}
use Rattle.scql_base.specs.declared.condition.Condition.{Condition}
use Rattle.scql_base.specs.declared.cursor.Cursor.{Cursor}
use Rattle.scql_base.specs.declared.cursor.Place.{Place}
use Rattle.scql_base.specs.declared.cursor.Place.TheVariants.{NotOpen, At, End}
use Rattle.scql_base.specs.declared.records.Object.{Object}
use Rattle.scql_base.specs.declared.records.RowRecord.{RowRecord}
use Rattle.scql_model.specs.Contents.{contents_of, cut_to, of_table}
use Rattle.scql_model.specs.Cursors.{IsCursorOf}
use Rattle.scql_model.specs.Database.{Database, IsValid, are_among, are_named_among, object_stamped}
use Rattle.scql_model.specs.Matching.{Columns, Values, matches}
use Rattle.scql_model.specs.Moves.{row_at}
use Rattle.scql_model.specs.Objects.{StampedRow, columns_of}
use Rattle.scql_model.specs.Resolving as model
use Rattle.scql_model.specs.Resolving.{AreKnown, passes_filters}
use Rattle.scql_model.specs.Writing.{columns_of_row, record_at_cursor, row_at_place}
use Rattle.scql_model.proofs.Keeping.{key-found}
use Rattle.scql_model.proofs.SeenThrough.{IsSeenThrough-resolved_of}
use Rattle.catalog_codec.specs.Catalog.{row_kind}
use Rattle.privilege_table.proofs.Seen.{find-both}
use Rattle.record_table.specs.Listed.{at_slot, listed, slots_of}
use Rattle.record_table.specs.Making.{IsHeld}
use Rattle.row_index.specs.Index.{Index, Indexes}
use Rattle.row_index.specs.Places.{is_row_of, place_slot, row_places}
use Rattle.row_index.proofs.Scans.{find-agree, find-map}
use Rattle.row_index.proofs.Tables.{find-filter}
use Rattle.search_cond.specs.Bound.{Binds, passes}
use Rattle.search_cond.specs.declared.placed.Placed.{Placed}
use Rattle.views.specs.Resolved.{AreBound}
use Rattle.scql_model.proofs.KnownNames.{IsKnown, IsKnown-resolved_of, among-within, names-valid}
use Rattle.db_read.proofs.RowReads.{IsIndexed, indexed-none, indexed-told}
use Rattle.db_read.specs.declared.scan.Choice.{Choice}
use Rattle.db_write.specs.Reached.{FindsRow, HasTable, RestsOn, is_reached, stamp_at, without_conditions}

swap : (a b c : Bool) → (a && (b && c)) ≡ (c && (a && b))
swap true true true = refl
swap true true false = refl
swap true false true = refl
swap true false false = refl
swap false true true = refl
swap false true false = refl
swap false false true = refl
swap false false false = refl

-- what is found of a table's rows that pass a test and are cut is the table's row of that stamp, if it passes
found-cut : (rows : List RowRecord) (stamp table : ℕ) (p : Values → Bool) (f : Values → Values) → Rises (λ (r : RowRecord). r.stamp) rows
    → option_and_then (λ (x : StampedRow). find (λ (s : RowRecord). s.stamp == x.stamp) rows)
    (row_at stamp (map (λ (x : StampedRow). record x { values = f x.values }) (filter (λ (x : StampedRow). p x.values) (map of_table (filter (λ (r : RowRecord). r.table == table) rows)))))
    ≡ option_filter (λ (s : RowRecord). s.table == table && p s.row) (find (λ (s : RowRecord). s.stamp == stamp) rows)
found-cut rows stamp table p f rises =
    let of_stamp : RowRecord → Bool = (λ r. r.stamp == stamp) in
    let in_table : RowRecord → Bool = (λ r. r.table == table) in
    let test : RowRecord → Bool = (λ s. s.table == table && p s.row) in
    let cut : StampedRow → StampedRow = (λ x. record x { values = f x.values }) in
    let passing : StampedRow → Bool = (λ x. p x.values) in
    let here : StampedRow → Bool = (λ x. x.stamp == stamp) in
    let own = filter in_table rows in
    let again : RowRecord → Option RowRecord = (λ s. find (λ (t : RowRecord). t.stamp == s.stamp) rows) in
    ap (option_and_then (λ (x : StampedRow). find (λ (s : RowRecord). s.stamp == x.stamp) rows))
    (find-map cut here (filter passing (map of_table own))
    ∙ ap (option_map cut) (sym (find-filter passing here (map of_table own))
    ∙ find-map of_table (λ x. passing x && here x) own
    ∙ ap (option_map of_table) (sym (find-filter in_table (λ r. p r.row && of_stamp r) rows)
    ∙ find-agree (λ r. in_table r && (p r.row && of_stamp r)) (λ r. of_stamp r && test r) rows (λ r. swap (in_table r) (p r.row) (of_stamp r))
    ∙ find-both of_stamp test rows (AreApart-rising (λ (r : RowRecord). r.stamp) rows rises stamp))))
    ∙ last (find of_stamp rows) refl
  where
    last : (o : Option RowRecord) → find (λ (s : RowRecord). s.stamp == stamp) rows ≡ o
        → option_and_then (λ (x : StampedRow). find (λ (s : RowRecord). s.stamp == x.stamp) rows) (option_map (λ (x : StampedRow). record x { values = f x.values }) (option_map of_table (option_filter (λ (s : RowRecord). s.table == table && p s.row) o)))
        ≡ option_filter (λ (s : RowRecord). s.table == table && p s.row) o
    last None is = refl
    last (Some s) is =
        elim (cases_Bool (s.table == table && p s.row)) [
          | inl t ↦ rw t (key-found (λ (r : RowRecord). r.stamp) (λ (r : RowRecord). r.stamp == stamp) rows s rises is)
          | inr n ↦ rw n refl
        ]

agree : {X : Type 0} (p q : X → Bool) (o : Option X) → ((x : X) → p x ≡ q x) → option_filter p o ≡ option_filter q o
agree p q None same = refl
agree p q (Some x) same = rw (same x) refl

-- conditions that are bound tell what those of the views tell
each-filter : (values : Values) (filters : List (List Placed)) (all : Columns) (lists : List (List Condition)) → AreBound filters all lists → list_all (passes values) filters ≡ list_all (λ (conditions : List Condition). matches all conditions values) lists
each-filter values [] all [] are = refl
each-filter values [] all (cs ∷ lists) are = absurd are
each-filter values (b ∷ filters) all [] are = absurd are
each-filter values (b ∷ filters) all (cs ∷ lists) are = rw (are.0 values, each-filter values filters all lists are.1) refl

same-test : (table : ℕ) (columns : Columns) (filters : List (List Placed)) (r : model.Resolved) (bound : List Placed) (conditions : List Condition) (s : RowRecord) → table ≡ r.table → columns ≡ r.all → AreBound filters r.all r.filters → Binds bound columns conditions
    → is_reached table filters bound s ≡ (s.table == r.table && (matches r.all conditions s.row && passes_filters r s.row))
same-test table columns filters r bound conditions s same all are binds =
    let own : passes s.row bound ≡ matches r.all conditions s.row = binds s.row ∙ ap (λ (all : Columns). matches all conditions s.row) all in
    rw (same, own, each-filter s.row filters r.all r.filters are) refl

at-place : (place : Place) (stamp : ℕ) → stamp_at place ≡ Some stamp → place ≡ At stamp
at-place NotOpen stamp is = absurd (none-some stamp is)
at-place (At other) stamp is = ap At (same_Some other stamp is)
at-place End stamp is = absurd (none-some stamp is)

-- the columns and the conditions of a cursor are among those that are shown of its object
named-shown : (db : Database) (c : Cursor) (r : model.Resolved) → IsCursorOf db c → IsKnown db.objects c.object r → are_named_among r.columns c.columns c.conditions ≡ true
named-shown db c r of known =
    let named = subst (λ (o : Option Object). IfSome o (λ (o : Object). are_named_among (columns_of o.kind) c.columns c.conditions ≡ true)) known.found of.named in
    subst (λ (columns : Columns). are_named_among columns c.columns c.conditions ≡ true) known.columns named

-- so its conditions can be bound
pub conditions-known : (db : Database) (c : Cursor) (table : ℕ) (columns : Columns) (filters : List (List Placed)) → IsValid db → IsCursorOf db c → RestsOn db.objects c.object table columns filters → AreKnown columns c.conditions ≡ true
conditions-known db c table columns filters valid of rests =
    let r = rests.is in
    let known = IsKnown-resolved_of db c.object r valid rests.resolved in
    let parts = and_parts (are_among c.columns r.columns) (AreKnown r.columns c.conditions) (named-shown db c r of known) in
    subst (λ (all : Columns). AreKnown all c.conditions ≡ true) (sym rests.all) (among-within (map (λ (x : Condition). x.column) c.conditions) r.columns r.all known.within parts.1)

-- The row that a cursor reaches.
reaches : (db : Database) (c : Cursor) (table : ℕ) (columns : Columns) (filters : List (List Placed)) (bound : List Placed) (stamp : ℕ) → IsValid db → IsCursorOf db c → RestsOn db.objects c.object table columns filters → Binds bound columns c.conditions
    → stamp_at c.place ≡ Some stamp → option_filter (is_reached table filters bound) (find (has row_kind.key stamp) db.rows) ≡ record_at_cursor db c
reaches db c table columns filters bound stamp valid of rests binds at =
    let r = rests.is in
    let known = IsKnown-resolved_of db c.object r valid rests.resolved in
    let through = IsSeenThrough-resolved_of db c.object r (names-valid db valid) rests.resolved in
    let again : StampedRow → Option RowRecord = (λ x. find (λ (s : RowRecord). s.stamp == x.stamp) db.rows) in
    agree (is_reached table filters bound) (λ s. s.table == r.table && (matches r.all c.conditions s.row && passes_filters r s.row)) (find (has row_kind.key stamp) db.rows)
    (λ s. same-test table columns filters r bound c.conditions s rests.on rests.all rests.bound binds)
    ∙ sym (found-cut db.rows stamp r.table (λ values. matches r.all c.conditions values && passes_filters r values) (cut_to r.all c.columns) valid.rows.rises)
    ∙ sym (ap (λ place. option_and_then again (row_at_place (contents_of db c.object) c place)) (at-place c.place stamp at)
    ∙ ap (λ rows. option_and_then again (row_at stamp rows)) (through.rows c.columns c.conditions (named-shown db c r of known)))

-- the slot that the index answers has the row that a search finds
pub indexed-row : (index : Index) (store : Held) (chip : Chip) (table stamp slot : ℕ) (o : Option ℕ) (value : Option RowRecord) → IfSome (slots_of store Working chip) (λ slots. o ≡ option_map place_slot (find (is_row_of table stamp) (row_places slots)))
    → Indexes index store chip → o ≡ Some slot → IfSome (slots_of store Working chip) (λ slots. value ≡ at_slot row_kind slot slots) → IfSome (slots_of store Working chip) (λ slots. value ≡ find (has row_kind.key stamp) (listed row_kind slots))
indexed-row index store chip table stamp slot o value answers stands is at = told (slots_of store Working chip) (indexed-told index store chip Working table stamp slot o answers stands is) at
  where
    told : (slots : Option Slots) → IfSome slots (IsIndexed table stamp slot) → IfSome slots (λ slots. value ≡ at_slot row_kind slot slots) → IfSome slots (λ slots. value ≡ find (has row_kind.key stamp) (listed row_kind slots))
    told None indexed at = tt
    told (Some slots) indexed at = at ∙ (indexed.at ∙ sym indexed.found)

-- and where it answers none, the row of the stamp isn't one of the table
pub indexed-no-row : (store : Held) (chip : Chip) (db : Database) (table stamp : ℕ) (o : Option ℕ) (held : IsHeld store Working chip db) → IfSome (slots_of store Working chip) (λ slots. o ≡ option_map place_slot (find (is_row_of table stamp) (row_places slots))) → o ≡ None
    → (filters : List (List Placed)) (bound : List Placed) → IfSome (find (has row_kind.key stamp) (listed row_kind held.slots)) (λ x. is_reached table filters bound x ≡ false)
indexed-no-row store chip db table stamp o held answers is filters bound =
    let here : IfSome (Some held.slots) (λ slots. o ≡ option_map place_slot (find (is_row_of table stamp) (row_places slots))) = subst (λ (slots : Option Slots). IfSome slots (λ slots. o ≡ option_map place_slot (find (is_row_of table stamp) (row_places slots)))) held.told answers in
    other (find (has row_kind.key stamp) (listed row_kind held.slots)) (indexed-none table stamp (Some held.slots) o here is)
  where
    other : (found : Option RowRecord) → None ≡ option_filter (λ (r : RowRecord). r.table == table) found → IfSome found (λ x. is_reached table filters bound x ≡ false)
    other None none = tt
    other (Some r) none =
        elim (cases_Bool (r.table == table)) [
          | inl t ↦ absurd (none-some r (rw t at none))
          | inr f ↦ and_left (r.table == table) (passes r.row bound && list_all (passes r.row) filters) f
        ]

-- what a search among the slots that a database holds finds, found among those that are told
pub said-held : (store : Held) (chip : Chip) (db : Database) (stamp : ℕ) (held : IsHeld store Working chip db)
    → IfSome (slots_of store Working chip) (λ slots. find (has row_kind.key stamp) (listed row_kind held.slots) ≡ find (has row_kind.key stamp) (listed row_kind slots))
said-held store chip db stamp held = rw held.told refl

-- the row of a stamp that the slots list is the database's
row-held : (store : Held) (chip : Chip) (db : Database) (stamp : ℕ) (found : Option RowRecord) → IsHeld store Working chip db
    → IfSome (slots_of store Working chip) (λ slots. found ≡ find (has row_kind.key stamp) (listed row_kind slots)) → found ≡ find (has row_kind.key stamp) db.rows
row-held store chip db stamp found held said =
    let here : found ≡ find (has row_kind.key stamp) (listed row_kind held.slots) = subst (λ (o : Option Slots). IfSome o (λ slots. found ≡ find (has row_kind.key stamp) (listed row_kind slots))) held.told said in
    here ∙ ap (find (has row_kind.key stamp)) held.holds.rows

-- so what is found of a stamp, where it is reached, is the row that a cursor reaches
reaches-held : (store : Held) (chip : Chip) (db : Database) (c : Cursor) (table : ℕ) (columns : Columns) (filters : List (List Placed)) (bound : List Placed) (stamp : ℕ) (found : Option RowRecord) → IsHeld store Working chip db → IsCursorOf db c
    → RestsOn db.objects c.object table columns filters → Binds bound columns c.conditions → stamp_at c.place ≡ Some stamp → IfSome (slots_of store Working chip) (λ slots. found ≡ find (has row_kind.key stamp) (listed row_kind slots))
    → option_filter (is_reached table filters bound) found ≡ record_at_cursor db c
reaches-held store chip db c table columns filters bound stamp found held of rests binds at said =
    ap (option_filter (is_reached table filters bound)) (row-held store chip db stamp found held said) ∙ reaches db c table columns filters bound stamp held.valid of rests binds at

-- what is found is left where it passes
left-none : {X : Type 0} (p : X → Bool) (o : Option X) → IfSome o (λ x. p x ≡ false) → None ≡ option_filter p o
left-none p None fails = refl
left-none p (Some x) fails = rw fails refl

left-some : {X : Type 0} (p : X → Bool) (o : Option X) (x : X) → Some x ≡ o → p x ≡ true → Some x ≡ option_filter p o
left-some p None x is passes = absurd (none-some x (sym is))
left-some p (Some y) x is passes = let same : x ≡ y = same_Some x y is in let t = subst (λ z. p z ≡ true) same passes in rw t is

-- a cursor without conditions is one of every database
IsCursorOf-without_conditions : (db : Database) (c : Cursor) → IsCursorOf db (without_conditions c)
IsCursorOf-without_conditions db c = record { different = refl; named = any (object_stamped db.objects c.object) }
  where
    any : (o : Option Object) → IfSome o (λ (o : Object). are_named_among (columns_of o.kind) [] [] ≡ true)
    any None = tt
    any (Some o) = refl

-- what a cursor reaches, it reaches without its conditions too
reaches-any : (db : Database) (c : Cursor) (table : ℕ) (columns : Columns) (filters : List (List Placed)) (bound : List Placed) (stamp : ℕ) (r : RowRecord) → IsValid db → RestsOn db.objects c.object table columns filters → stamp_at c.place ≡ Some stamp
    → Some r ≡ find (has row_kind.key stamp) db.rows → is_reached table filters bound r ≡ true → Some r ≡ record_at_cursor db (without_conditions c)
reaches-any db c table columns filters bound stamp r valid rests at found is =
    let own = and_parts (r.table == table) (passes r.row bound && list_all (passes r.row) filters) is in
    let all = and_parts (passes r.row bound) (list_all (passes r.row) filters) own.1 in
    let any : is_reached table filters [] r ≡ true = and_from (r.table == table) (list_all (passes r.row) filters) own.0 all.1 in
    left-some (is_reached table filters []) (find (has row_kind.key stamp) db.rows) r found any
    ∙ reaches db (without_conditions c) table columns filters [] stamp valid (IsCursorOf-without_conditions db c) rests (λ values. refl) at

-- and it is a row of the table on which the object rests
columns-reached : (db : Database) (c : Cursor) (table : ℕ) (columns : Columns) (filters : List (List Placed)) (bound : List Placed) (r : RowRecord) → IsValid db → RestsOn db.objects c.object table columns filters → is_reached table filters bound r ≡ true
    → columns_of_row db r ≡ columns
columns-reached db c table columns filters bound r valid rests is =
    let known = IsKnown-resolved_of db c.object rests.is valid rests.resolved in
    let own = and_parts (r.table == table) (passes r.row bound && list_all (passes r.row) filters) is in
    let same : r.table ≡ rests.is.table = eqb-true r.table table own.0 ∙ rests.on in
    let of : Option Object → Columns = (λ found. option_map_or (λ (o : Object). columns_of o.kind) found []) in
    ap (λ (stamp : ℕ). of (object_stamped db.objects stamp)) same ∙ (ap of known.found_table ∙ (known.all ∙ sym rests.all))

-- A cursor reaches none where the row of its stamp isn't there, or isn't reached.
pub finds-none : {store : Held} {chip : Chip} {db : Database} {c : Cursor} {choice : Choice} {are_bound : Bool} (r : RowRecord) (stamp : ℕ) (found : Option RowRecord) → IsHeld store Working chip db → HasTable db c choice are_bound → are_bound ≡ true
    → stamp_at c.place ≡ Some stamp → IfSome (slots_of store Working chip) (λ slots. found ≡ find (has row_kind.key stamp) (listed row_kind slots))
    → IfSome found (λ x. is_reached choice.resolved.table choice.resolved.filters.items choice.conditions x ≡ false) → FindsRow db c choice.resolved.all r None
finds-none {store} {chip} {db} {c} {choice} {are_bound} r stamp found held table bound at said fails = record {
  row = λ of. left-none (is_reached choice.resolved.table choice.resolved.filters.items choice.conditions) found fails
      ∙ reaches-held store chip db c choice.resolved.table choice.resolved.all choice.resolved.filters.items choice.conditions stamp found held of table.rests (table.binds bound) at said;
  of_object = tt;
}

-- It reaches the row of its stamp that is.
pub finds-some : {store : Held} {chip : Chip} {db : Database} {c : Cursor} {choice : Choice} {are_bound : Bool} (r : RowRecord) (stamp slot : ℕ) → IsHeld store Working chip db → HasTable db c choice are_bound → are_bound ≡ true
    → stamp_at c.place ≡ Some stamp → IfSome (slots_of store Working chip) (λ slots. Some r ≡ find (has row_kind.key stamp) (listed row_kind slots))
    → is_reached choice.resolved.table choice.resolved.filters.items choice.conditions r ≡ true → FindsRow db c choice.resolved.all r (Some slot)
finds-some {store} {chip} {db} {c} {choice} {are_bound} r stamp slot held table bound at said passes =
    let of = choice.resolved in
    record {
      row = λ own. left-some (is_reached of.table of.filters.items choice.conditions) (Some r) r refl passes
          ∙ reaches-held store chip db c of.table of.all of.filters.items choice.conditions stamp (Some r) held own table.rests (table.binds bound) at said;
      of_object = record {
        row = reaches-any db c of.table of.all of.filters.items choice.conditions stamp r held.valid table.rests at (row-held store chip db stamp (Some r) held said) passes;
        all = columns-reached db c of.table of.all of.filters.items choice.conditions r held.valid table.rests passes;
      };
    }
