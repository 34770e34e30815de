-- The rows of a dictionary that a cursor chooses: the next one behind a stamp, and that of a stamp.
use Rattle.std.proofs.Common.{◌≡◌, ℕ, ◌+◌, ◌<◌, ◌≤◌, ◌==◌, nat_lt, Bool, true, false, ◌&&◌, List, [], ◌∷◌, length, map, find, Option, Some, None, option_map, refl, sym, ap, subst, ◌∙◌, inl, inr, arith}
use Rattle.std.specs.List.{AllByRecursion, filter, list_all}
use Rattle.std.proofs.lemmas.Bool.{and_parts, cases_Bool, eq-eqb, eqb-true, le-ltb, lt-ltb, ltb-false, ltb-true, ne_eqb}
use Rattle.std.proofs.lemmas.Map.Entries.{option_filter}
use Rattle.std.proofs.lemmas.Option.{none-some, same_Some}
use Rattle.eeprom.specs.Chip.{Chip}
use Rattle.eeprom.specs.Slots.{Rises, has, is_after}
use Rattle.record_store.specs.Held.{Held}
use Rattle.record_store.specs.declared.side.Side.{Side}
use Rattle.scql_base.specs.Row.{IsRow, are_a_row}
use Rattle.scql_base.specs.declared.cursor.Place.TheVariants.{At}
use Rattle.scql_base.specs.declared.records.Grant.{Grant}
use Rattle.scql_base.specs.declared.records.Object.{Object}
use Rattle.scql_base.specs.declared.records.ObjectKind.TheVariants.{Dictionary}
use Rattle.scql_base.specs.declared.records.User.{User}
use Rattle.scql_base.specs.declared.words.Subject.{Subject}
use Rattle.scql_base.specs.declared.words.Subject.TheVariants.{Objects, Users, Grants}
use Rattle.scql_model.specs.Database.{Database}
use Rattle.scql_model.specs.Dictionaries.{grant_told, object_owner, object_told, rows_told, tells_of, user_told}
use Rattle.scql_model.specs.Matching.{Values}
use Rattle.scql_model.specs.Moves.{row_at, row_behind}
use Rattle.scql_model.specs.Objects.{StampedRow, dictionary_columns}
use Rattle.scql_model.proofs.FoundAgain.{find-map_filter}
use Rattle.scql_model.proofs.LongerLists.{find-passes}
use Rattle.privilege_table.proofs.Seen.{find-both}
use Rattle.record_table.specs.Making.{IsHeld}
use Rattle.search_cond.specs.Bound.{passes}
use Rattle.dictionaries.specs.Told.{IsNext, row_stamp}
use Rattle.cursor.specs.Moved.{AreStamped, row_handed}
use Rattle.db_read.specs.Chosen.{values_at}
use Rattle.db_read.specs.Told.{TellsRows, as_shown, chosen_told, meets, shown_told}
use Rattle.db_read.specs.declared.telling.Told.{Told}
use Rattle.db_read.proofs.Sighted.{one-rising}

-- a row behind a stamp that passes a test
abbrev wanted : (StampedRow → Bool) → ℕ → StampedRow → Bool
wanted p k r = nat_lt k r.stamp && p r

next-none : (p : StampedRow → Bool) (k : ℕ) (rows : List StampedRow) → find (is_after row_stamp k) rows ≡ None → find (wanted p k) rows ≡ None
next-none p k [] none = refl
next-none p k (x ∷ rows) none =
    elim (cases_Bool (nat_lt k x.stamp)) [
      | inl t ↦ absurd (none-some x (sym (rw t at none)))
      | inr f ↦ rw f (next-none p k rows (rw f at none))
    ]

next-found : (p : StampedRow → Bool) (k : ℕ) (rows : List StampedRow) (r : StampedRow) → find (is_after row_stamp k) rows ≡ Some r → p r ≡ true → find (wanted p k) rows ≡ Some r
next-found p k [] r found own = absurd (none-some r found)
next-found p k (x ∷ rows) r found own =
    elim (cases_Bool (nat_lt k x.stamp)) [
      | inl t ↦ (let same = same_Some x r (rw t at found) in
          let here : p x ≡ true = subst (λ y. p y ≡ true) (sym same) own in
          rw (t, here) (ap Some same))
      | inr f ↦ rw f (next-found p k rows r (rw f at found) own)
    ]

found-later : (k : ℕ) (rows : List StampedRow) (r : StampedRow) → find (is_after row_stamp k) rows ≡ Some r → k < r.stamp
found-later k rows r found = ltb-true k r.stamp (find-passes (is_after row_stamp k) rows r found)

all-behind : (p : StampedRow → Bool) (k s : ℕ) (rows : List StampedRow) → AllByRecursion (λ (y : StampedRow). s < y.stamp) rows → k < s → find (wanted p k) rows ≡ find (wanted p s) rows
all-behind p k s [] all less = refl
all-behind p k s (y ∷ rows) all less =
    let far : s < y.stamp = all.0 in
    rw (lt-ltb k y.stamp (omega arith), lt-ltb s y.stamp far, all-behind p k s rows all.1 less) refl

next-skipped : (p : StampedRow → Bool) (k : ℕ) (rows : List StampedRow) (r : StampedRow) → Rises row_stamp rows → find (is_after row_stamp k) rows ≡ Some r → p r ≡ false → find (wanted p k) rows ≡ find (wanted p r.stamp) rows
next-skipped p k [] r rises found other = refl
next-skipped p k (x ∷ rows) r rises found other =
    elim (cases_Bool (nat_lt k x.stamp)) [
      | inl t ↦ (let same = same_Some x r (rw t at found) in
          let here : p x ≡ false = subst (λ y. p y ≡ false) (sym same) other in
          let less = ltb-true k x.stamp t in
          let stamp : x.stamp ≡ r.stamp = ap (λ (y : StampedRow). y.stamp) same in
          let early : x.stamp ≤ r.stamp = omega (arith, stamp) in
          rw (t, here, le-ltb r.stamp x.stamp early) (all-behind p k x.stamp rows rises.0 less ∙ ap (λ (s : ℕ). find (wanted p s) rows) stamp))
      | inr f ↦ (let later = found-later k rows r (rw f at found) in
          let early = ltb-false k x.stamp f in
          rw (f, le-ltb r.stamp x.stamp (omega (arith, later, early))) (next-skipped p k rows r rises.1 (rw f at found) other))
    ]

-- what is shown of a row has its stamp
pub stamp-shown : (told : Told) (next : Option ℕ) (values : Values) (found : Option StampedRow) → shown_told told next values ≡ found → next ≡ option_map (λ (row : StampedRow). row.stamp) found
stamp-shown told None values found is = ap (option_map (λ (row : StampedRow). row.stamp)) is
stamp-shown told (Some stamp) values found is = ap (option_map (λ (row : StampedRow). row.stamp)) is

-- and is handed out so
pub handed-shown : (told : Told) (next : ℕ) (values cut : Values) (found : Option StampedRow) → shown_told told (Some next) values ≡ found → cut ≡ values_at told.places.now.items values → row_handed (Some next) cut ≡ found
handed-shown told next values cut found is same = ap (row_handed (Some next)) same ∙ is

-- the chosen rows behind a stamp
behind-chosen : (told : Told) (k : ℕ) (rows : List StampedRow) → row_behind (At k) (chosen_told told rows) ≡ option_map (as_shown told) (find (wanted (meets told) k) rows)
behind-chosen told k rows = find-map_filter (λ (x : StampedRow). nat_lt k x.stamp) (as_shown told) (meets told) rows

-- what comes next, as a search in the rows that are told
abbrev pub NextIs : Told → Held → Side → Chip → ℕ → Option ℕ → Values → Type 0
NextIs told store side chip k next values =
    (db : Database) (subject : Subject) → IsHeld store side chip db → told.dictionary.now.kind ≡ Dictionary subject → IsNext (rows_told db told.dictionary.now.owner subject) k next values

-- What is still to be found behind the rows that were passed.
abbrev pub IsRowAhead : Told → Held → Side → Chip → ℕ → ℕ → Type 0
IsRowAhead told store side chip stamp passed = (rows : List StampedRow) → TellsRows told store side chip rows → row_behind (At stamp) rows ≡ row_behind (At passed) rows

module _ (told : Told) (store : Held) (side : Side) (chip : Chip) where
  pub left-next : (stamp passed next : ℕ) (values : Values) → IsRowAhead told store side chip stamp passed → NextIs told store side chip passed (Some next) values → passes values told.conditions.now ≡ false
      → IsRowAhead told store side chip stamp next
  left-next stamp passed next values left is other = λ rows t.
      let all = rows_told t.db told.dictionary.now.owner t.subject in
      let r : StampedRow = record { stamp = next; values = values } in
      let skipped = next-skipped (meets told) passed all r t.rises (is t.db t.subject t.held t.kind) other in
      left rows t ∙ subst (λ (x : List StampedRow). row_behind (At passed) x ≡ row_behind (At next) x) (sym t.are)
      (behind-chosen told passed all ∙ (ap (option_map (as_shown told)) skipped ∙ sym (behind-chosen told next all)))

  pub left-found : (stamp passed next : ℕ) (values : Values) → IsRowAhead told store side chip stamp passed → NextIs told store side chip passed (Some next) values → passes values told.conditions.now ≡ true
      → (rows : List StampedRow) → TellsRows told store side chip rows → shown_told told (Some next) values ≡ row_behind (At stamp) rows
  left-found stamp passed next values left is own rows t =
      let all = rows_told t.db told.dictionary.now.owner t.subject in
      let r : StampedRow = record { stamp = next; values = values } in
      let found = next-found (meets told) passed all r (is t.db t.subject t.held t.kind) own in
      let behind : row_behind (At passed) rows ≡ Some (as_shown told r) =
      subst (λ (x : List StampedRow). row_behind (At passed) x ≡ Some (as_shown told r)) (sym t.are) (behind-chosen told passed all ∙ ap (option_map (as_shown told)) found) in
      sym (left rows t ∙ behind)

  pub left-none : (stamp passed : ℕ) (values : Values) → IsRowAhead told store side chip stamp passed → NextIs told store side chip passed None values
      → (rows : List StampedRow) → TellsRows told store side chip rows → None ≡ row_behind (At stamp) rows
  left-none stamp passed values left is rows t =
      let all = rows_told t.db told.dictionary.now.owner t.subject in
      let none = next-none (meets told) passed all (is t.db t.subject t.held t.kind) in
      let behind : row_behind (At passed) rows ≡ None =
      subst (λ (x : List StampedRow). row_behind (At passed) x ≡ None) (sym t.are) (behind-chosen told passed all ∙ ap (option_map (as_shown told)) none) in
      sym (left rows t ∙ behind)

  -- what comes next is later
  pub left-early : (passed next : ℕ) (values : Values) (P : List StampedRow → Type 0) → NextIs told store side chip passed (Some next) values → next ≤ passed
      → (rows : List StampedRow) → TellsRows told store side chip rows → P rows
  left-early passed next values P is early rows t =
      let all = rows_told t.db told.dictionary.now.owner t.subject in
      let r : StampedRow = record { stamp = next; values = values } in
      let later = found-later passed all r (is t.db t.subject t.held t.kind) in
      absurd (omega (arith, later, early))

-- The row of a stamp is the one that comes next behind the stamp before.
stamp-none : (stamp s : ℕ) (rows : List StampedRow) → AllByRecursion (λ (y : StampedRow). s < y.stamp) rows → stamp ≤ s → find (has row_stamp stamp) rows ≡ None
stamp-none stamp s [] all less = refl
stamp-none stamp s (y ∷ rows) all less =
    let far : s < y.stamp = all.0 in
    rw (ne_eqb y.stamp stamp (λ same. omega (arith, same, far, less))) (stamp-none stamp s rows all.1 less)

stamp-behind : (stamp before : ℕ) (rows : List StampedRow) → before + 1 ≡ stamp → Rises row_stamp rows → find (has row_stamp stamp) rows ≡ option_filter (has row_stamp stamp) (find (is_after row_stamp before) rows)
stamp-behind stamp before [] is rises = refl
stamp-behind stamp before (x ∷ rows) is rises =
    elim (cases_Bool (nat_lt before x.stamp)) [
      | inl t ↦ elim (cases_Bool (x.stamp == stamp)) [
        | inl u ↦ rw (t, u) refl
        | inr e ↦ (let later = ltb-true before x.stamp t in rw (t, e) (stamp-none stamp x.stamp rows rises.0 (omega (arith, later, is))))
      ]
      | inr f ↦ (let early = ltb-false before x.stamp f in rw (f, ne_eqb x.stamp stamp (λ same. omega (arith, same, early, is))) (stamp-behind stamp before rows is rises.1))
    ]

-- what is shown of the row that comes next, if it has this stamp and is chosen
abbrev pub shown_at : Told → ℕ → Option ℕ → Values → Option Values
shown_at told stamp next values =
    option_map (λ (r : StampedRow). values_at told.places.now.items r.values) (option_filter (meets told) (option_filter (has row_stamp stamp) (option_map (λ found. record { stamp = found; values = values }) next)))

values-shown : (told : Told) (o : Option StampedRow) → option_map (λ (row : StampedRow). row.values) (option_map (as_shown told) o) ≡ option_map (λ (r : StampedRow). values_at told.places.now.items r.values) o
values-shown told None = refl
values-shown told (Some r) = refl

none-stamped : (rows : List StampedRow) → AreStamped rows → row_at 0 rows ≡ None
none-stamped [] stamped = refl
none-stamped (r ∷ rows) stamped =
    let parts = and_parts (nat_lt 0 r.stamp) (list_all (λ (x : StampedRow). nat_lt 0 x.stamp) rows) stamped in
    let above = ltb-true 0 r.stamp parts.0 in
    rw (ne_eqb r.stamp 0 (λ same. omega (arith, same, above))) (none-stamped rows parts.1)

-- a row that is told is as wide as its dictionary
holds-found : {X : Type 0} (p q : X → Bool) (xs : List X) (x : X) → list_all p xs ≡ true → find q xs ≡ Some x → p x ≡ true
holds-found p q [] x all found = absurd (none-some x found)
holds-found p q (y ∷ xs) x all found =
    let parts = and_parts (p y) (list_all p xs) all in
    elim (cases_Bool (q y)) [
      | inl t ↦ subst (λ z. p z ≡ true) (same_Some y x (rw t at found)) parts.0
      | inr f ↦ holds-found p q xs x parts.1 (rw f at found)
    ]

all-true : {X : Type 0} (p : StampedRow → Bool) (f : X → StampedRow) (xs : List X) → ((x : X) → p (f x) ≡ true) → list_all p (map f xs) ≡ true
all-true p f [] each = refl
all-true p f (x ∷ xs) each = rw (each x) (all-true p f xs each)

abbrev is_wide : Subject → StampedRow → Bool
is_wide subject r = length r.values == length (dictionary_columns subject)

told-wide : (db : Database) (owner : ℕ) (subject : Subject) → list_all (is_wide subject) (rows_told db owner subject) ≡ true
told-wide db owner Objects = all-true (is_wide Objects) (object_told db) (filter (λ (o : Object). tells_of owner o.owner) db.objects) (λ x. refl)
told-wide db owner Users = all-true (is_wide Users) (user_told db) (filter (λ (u : User). tells_of owner u.owner) db.users) (λ x. refl)
told-wide db owner Grants = all-true (is_wide Grants) (grant_told db) (filter (λ (g : Grant). tells_of owner (object_owner db g.object)) db.grants) (λ x. refl)

module _ (told : Told) (store : Held) (side : Side) (chip : Chip) where
  -- no record has stamp 0
  pub there-zero : (rows : List StampedRow) → TellsRows told store side chip rows → None ≡ option_map (λ row. row.values) (row_at 0 rows)
  there-zero rows t = sym (ap (option_map (λ (row : StampedRow). row.values)) (none-stamped rows t.stamped))

  pub there-next : (stamp before : ℕ) (next : Option ℕ) (values : Values) → before + 1 ≡ stamp → NextIs told store side chip before next values
      → (rows : List StampedRow) → TellsRows told store side chip rows → shown_at told stamp next values ≡ option_map (λ row. row.values) (row_at stamp rows)
  there-next stamp before next values one is rows t =
      let all = rows_told t.db told.dictionary.now.owner t.subject in
      let behind = stamp-behind stamp before all one t.rises ∙ ap (option_filter (has row_stamp stamp)) (is t.db t.subject t.held t.kind) in
      let both = find-both (has row_stamp stamp) (meets told) all (one-rising row_stamp stamp all t.rises) in
      let chosen : row_at stamp (chosen_told told all) ≡ option_map (as_shown told) (find (λ (x : StampedRow). has row_stamp stamp x && meets told x) all) =
      find-map_filter (λ (x : StampedRow). x.stamp == stamp) (as_shown told) (meets told) all in
      let shown = ap (option_map (λ (row : StampedRow). row.values)) (ap (row_at stamp) t.are ∙ (chosen ∙ ap (λ (o : Option StampedRow). option_map (as_shown told) o) (both ∙ ap (option_filter (meets told)) behind))) in
      sym (shown ∙ values-shown told _)

  pub there-none : (stamp before : ℕ) (values : Values) → before + 1 ≡ stamp → NextIs told store side chip before None values
      → (rows : List StampedRow) → TellsRows told store side chip rows → None ≡ option_map (λ row. row.values) (row_at stamp rows)
  there-none stamp before values one is rows t = there-next stamp before None values one is rows t

  pub there-other : (stamp before next : ℕ) (values : Values) → before + 1 ≡ stamp → NextIs told store side chip before (Some next) values → (next ≡ stamp → ⊥)
      → (rows : List StampedRow) → TellsRows told store side chip rows → None ≡ option_map (λ row. row.values) (row_at stamp rows)
  there-other stamp before next values one is other rows t = (let there = there-next stamp before (Some next) values one is rows t in rw (ne_eqb next stamp other) at there)

  pub there-hidden : (stamp before next : ℕ) (values : Values) → before + 1 ≡ stamp → NextIs told store side chip before (Some next) values → next ≡ stamp → passes values told.conditions.now ≡ false
      → (rows : List StampedRow) → TellsRows told store side chip rows → None ≡ option_map (λ row. row.values) (row_at stamp rows)
  there-hidden stamp before next values one is same hidden rows t = (let there = there-next stamp before (Some next) values one is rows t in rw (eq-eqb next stamp same, hidden) at there)

  -- a row that comes next is as wide as its dictionary, so it can be cut
  pub next-cuts : (before next : ℕ) (values : Values) → NextIs told store side chip before (Some next) values → IsRow values
      → (rows : List StampedRow) → TellsRows told store side chip rows → are_a_row (values_at told.places.now.items values) ≡ true
  next-cuts before next values is row rows t =
      let r : StampedRow = record { stamp = next; values = values } in
      let all = rows_told t.db told.dictionary.now.owner t.subject in
      let wide = eqb-true (length values) (length (dictionary_columns t.subject)) (holds-found (is_wide t.subject) (is_after row_stamp before) all r (told-wide t.db told.dictionary.now.owner t.subject) (is t.db t.subject t.held t.kind)) in
      t.cuts values row wide

  pub there-shown : (stamp before next : ℕ) (values cut : Values) → before + 1 ≡ stamp → NextIs told store side chip before (Some next) values → next ≡ stamp → passes values told.conditions.now ≡ true → IsRow values
      → (are_a_row (values_at told.places.now.items values) ≡ true → cut ≡ values_at told.places.now.items values)
      → (rows : List StampedRow) → TellsRows told store side chip rows → Some cut ≡ option_map (λ row. row.values) (row_at stamp rows)
  there-shown stamp before next values cut one is same shown row cuts rows t =
      let there = there-next stamp before (Some next) values one is rows t in
      let here = rw (eq-eqb next stamp same, shown) at there in
      ap Some (cuts (next-cuts before next values is row rows t)) ∙ here
