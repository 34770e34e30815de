-- What a change of the row at a cursor leaves: all that stands above that row.
use Rattle.std.proofs.Common.{◌≡◌, ℕ, zero, suc, ◌<◌, ◌≤◌, ◌==◌, nat_lt, Bool, true, false, List, [], ◌∷◌, map, filter, Option, Some, None, Result, Ok, refl, sym, ◌∙◌, ap, subst, inl, inr, arith}
use Rattle.std.specs.List.{find, AllByRecursion}
use Rattle.std.proofs.lemmas.Bool.{cases_Bool, ltb-true, lt-ltb, le-ltb}
use Rattle.eeprom.specs.Slots.{Rises}
use Rattle.scql_base.specs.declared.words.Actor.{Actor}
use Rattle.scql_base.specs.declared.words.Subject.{Subject}
use Rattle.scql_base.specs.declared.words.Subject.TheVariants.{Objects, Users, Grants}
use Rattle.scql_base.specs.declared.words.StatusWord.{StatusWord}
use Rattle.scql_base.specs.declared.condition.Condition.{Condition}
use Rattle.scql_base.specs.declared.cursor.Cursor.{Cursor}
use Rattle.scql_base.specs.declared.cursor.Place.TheVariants.{At}
use Rattle.scql_base.specs.declared.records.Object.{Object}
use Rattle.scql_base.specs.declared.records.ObjectKind.{ObjectKind}
use Rattle.scql_base.specs.declared.records.ObjectKind.TheVariants.{Table, View, Dictionary}
use Rattle.scql_base.specs.declared.records.RowRecord.{RowRecord}
use Rattle.scql_base.specs.Words.{not_found, security_not_satisfied}
use Rattle.scql_model.specs.Refusals.{◌>>=◌, or_refused, provided}
use Rattle.scql_model.specs.Database.{Database, object_stamped, rows_of}
use Rattle.scql_model.specs.Rights.{select_privilege, holds, appears, seen_stamped}
use Rattle.scql_model.specs.Objects.{StampedRow, columns_of}
use Rattle.scql_model.specs.Matching.{Columns, matches}
use Rattle.scql_model.specs.Dictionaries.{rows_told}
use Rattle.scql_model.specs.Contents.{Contents, of_table, cut_to, narrowed, rows_in, contents_in, contents_below, contents_of}
use Rattle.scql_model.specs.Moves.{chosen, rows_under, first_row, row_behind}

abbrev pub stamp_of : StampedRow → ℕ
stamp_of r = r.stamp

abbrev pub record_stamp : RowRecord → ℕ
record_stamp r = r.stamp

-- what stands above a stamp
abbrev pub above : {X : Type 0} → (X → ℕ) → ℕ → List X → List X
above key stamp xs = filter (λ x. nat_lt stamp (key x)) xs

-- Lists.
filter-swapped : {X : Type 0} (p q : X → Bool) (xs : List X) → filter p (filter q xs) ≡ filter q (filter p xs)
filter-swapped p q [] = refl
filter-swapped p q (x ∷ xs) =
    elim (cases_Bool (p x)) [
      | inl t ↦ elim (cases_Bool (q x)) [
        | inl u ↦ rw (t, u) (rw t (ap (λ rest. x ∷ rest) (filter-swapped p q xs)))
        | inr g ↦ rw (t, g) (filter-swapped p q xs)
      ]
      | inr f ↦ elim (cases_Bool (q x)) [
        | inl u ↦ rw (f, u) (rw f (filter-swapped p q xs))
        | inr g ↦ rw (f, g) (filter-swapped p q xs)
      ]
    ]

filter-mapped : {X Y : Type 0} (p : Y → Bool) (f : X → Y) (xs : List X) → filter p (map f xs) ≡ map f (filter (λ x. p (f x)) xs)
filter-mapped p f [] = refl
filter-mapped p f (x ∷ xs) =
    elim (cases_Bool (p (f x))) [
      | inl t ↦ rw t (ap (λ rest. f x ∷ rest) (filter-mapped p f xs))
      | inr g ↦ rw g (filter-mapped p f xs)
    ]

first-found : (p : StampedRow → Bool) (rows : List StampedRow) → find p rows ≡ first_row (filter p rows)
first-found p [] = refl
first-found p (r ∷ rows) = elim (cases_Bool (p r)) [ inl t ↦ rw t refl | inr f ↦ rw f (first-found p rows) ]

-- the first row behind a place
pub behind-first : (stamp : ℕ) (rows : List StampedRow) → row_behind (At stamp) rows ≡ first_row (above stamp_of stamp rows)
behind-first stamp rows = first-found (λ (r : StampedRow). nat_lt stamp r.stamp) rows

-- what is above a stamp is above a lesser one
above-above : (low high : ℕ) (rows : List StampedRow) → low ≤ high → above stamp_of high (above stamp_of low rows) ≡ above stamp_of high rows
above-above low high [] less = refl
above-above low high (r ∷ rows) less =
    elim (cases_Bool (nat_lt high r.stamp)) [
      | inl t ↦ (let over : high < r.stamp = ltb-true high r.stamp t in
          rw (lt-ltb low r.stamp (omega (arith, over, less)), t) (ap (λ rest. r ∷ rest) (above-above low high rows less)))
      | inr f ↦ elim (cases_Bool (nat_lt low r.stamp)) [
        | inl u ↦ rw (u, f) (above-above low high rows less)
        | inr g ↦ rw (g, f) (above-above low high rows less)
      ]
    ]

all-above : (stamp : ℕ) (rows : List StampedRow) → AllByRecursion (λ (r : StampedRow). stamp < r.stamp) rows → above stamp_of stamp rows ≡ rows
all-above stamp [] all = refl
all-above stamp (r ∷ rows) all = rw (lt-ltb stamp r.stamp all.0) (ap (λ rest. r ∷ rest) (all-above stamp rows all.1))

above-first : (r : StampedRow) (rest : List StampedRow) → Rises stamp_of (r ∷ rest) → above stamp_of r.stamp (r ∷ rest) ≡ rest
above-first r rest rises = rw (le-ltb r.stamp r.stamp (omega arith)) (all-above r.stamp rest rises.0)

-- where the rows above a stamp begin with a row, those above it are the rest
pub above-next : (stamp : ℕ) (r : StampedRow) (rest rows : List StampedRow) → stamp < r.stamp → Rises stamp_of (r ∷ rest) → above stamp_of stamp rows ≡ r ∷ rest
    → above stamp_of r.stamp rows ≡ rest
above-next stamp r rest rows less rises is =
    sym (above-above stamp r.stamp rows (omega (arith, less))) ∙ (ap (above stamp_of r.stamp) is ∙ above-first r rest rises)

pub above-opened : (r : StampedRow) (rest rows : List StampedRow) → Rises stamp_of rows → rows ≡ r ∷ rest → above stamp_of r.stamp rows ≡ rest
above-opened r rest rows rises is = ap (above stamp_of r.stamp) is ∙ above-first r rest (subst (Rises stamp_of) is rises)

-- Contents: the rows above a stamp come from the records above it.
abbrev upper : ℕ → Contents → Contents
upper stamp contents = record contents { rows = above stamp_of stamp contents.rows }

above-narrowed : (stamp : ℕ) (columns : Columns) (conditions : List Condition) (base : Contents) → above stamp_of stamp (narrowed columns conditions base) ≡ narrowed columns conditions (upper stamp base)
above-narrowed stamp columns conditions base =
    let cut : StampedRow → StampedRow = λ r. record r { values = cut_to base.columns columns r.values } in
    let meets : StampedRow → Bool = λ r. matches base.columns conditions r.values in
    filter-mapped (λ (r : StampedRow). nat_lt stamp r.stamp) cut (filter meets base.rows)
    ∙ ap (map cut) (filter-swapped (λ (r : StampedRow). nat_lt stamp r.stamp) meets base.rows)

above-table : (stamp table : ℕ) (rows : List RowRecord) → above stamp_of stamp (map of_table (rows_of table rows)) ≡ map of_table (rows_of table (above record_stamp stamp rows))
above-table stamp table rows =
    filter-mapped (λ (r : StampedRow). nat_lt stamp r.stamp) of_table (rows_of table rows)
    ∙ ap (map of_table) (filter-swapped (λ (r : RowRecord). nat_lt stamp r.stamp) (λ (r : RowRecord). r.table == table) rows)

told-same : (db : Database) (rows : List RowRecord) (owner : ℕ) (subject : Subject) → rows_told (record db { rows = rows }) owner subject ≡ rows_told db owner subject
told-same db rows owner Objects = refl
told-same db rows owner Users = refl
told-same db rows owner Grants = refl

module _ (stamp : ℕ) (db : Database) (rows : List RowRecord) (same : above record_stamp stamp rows ≡ above record_stamp stamp db.rows) where
  abbrev new : Database
  new = record db { rows = rows }

  rows-same : (n : ℕ) (o : Object) (kind : ObjectKind) → ((base : ℕ) → upper stamp (contents_below n new base) ≡ upper stamp (contents_below n db base))
      → above stamp_of stamp (rows_in (contents_below n new) new o kind) ≡ above stamp_of stamp (rows_in (contents_below n db) db o kind)
  rows-same n o (Table columns) below = above-table stamp o.stamp rows ∙ (ap (λ rows. map of_table (rows_of o.stamp rows)) same ∙ sym (above-table stamp o.stamp db.rows))
  rows-same n o (View base columns conditions) below =
      above-narrowed stamp columns conditions (contents_below n new base)
      ∙ (ap (narrowed columns conditions) (below base) ∙ sym (above-narrowed stamp columns conditions (contents_below n db base)))
  rows-same n o (Dictionary subject) below = ap (above stamp_of stamp) (told-same db rows o.owner subject)

  contents-in : (n : ℕ) (found : Option Object) → ((base : ℕ) → upper stamp (contents_below n new base) ≡ upper stamp (contents_below n db base))
      → upper stamp (contents_in (contents_below n new) new found) ≡ upper stamp (contents_in (contents_below n db) db found)
  contents-in n None below = refl
  contents-in n (Some o) below = ap (λ (rows : List StampedRow). let c : Contents = record { columns = columns_of o.kind; rows = rows } in c) (rows-same n o o.kind below)

  contents-below : (n object : ℕ) → upper stamp (contents_below n new object) ≡ upper stamp (contents_below n db object)
  contents-below zero object = refl
  contents-below (suc n) object = contents-in n (object_stamped db.objects object) (contents-below n)

  contents-same : (object : ℕ) → upper stamp (contents_of new object) ≡ upper stamp (contents_of db object)
  unfolding contents_of
  contents-same object = contents-below 5 object

  chosen-same : (object : ℕ) (c : Cursor) → above stamp_of stamp (chosen (contents_of new object) c) ≡ above stamp_of stamp (chosen (contents_of db object) c)
  chosen-same object c =
      above-narrowed stamp c.columns c.conditions (contents_of new object)
      ∙ (ap (narrowed c.columns c.conditions) (contents-same object) ∙ sym (above-narrowed stamp c.columns c.conditions (contents_of db object)))

  seen-same : (a : Actor) (object : ℕ) → seen_stamped new a object ≡ seen_stamped db a object
  unfolding appears holds
  seen-same a object = refl

  holds-same : (a : Actor) (o : Object) → holds new a o select_privilege ≡ holds db a o select_privilege
  unfolding holds
  holds-same a o = refl

  -- the rows under a cursor, of which those above the stamp are as before
  pub record Listed (a : Actor) (c : Cursor) (before : List StampedRow) : Type 0 where
    pub after : List StampedRow
    pub is : rows_under new a c ≡ Ok after
    pub above_same : above stamp_of stamp after ≡ above stamp_of stamp before

  abbrev under : Database → Actor → Cursor → Option Object → Result (List StampedRow) StatusWord
  under d a c found =
      or_refused found not_found >>= λ o. ((provided (holds d a o select_privilege) security_not_satisfied >>= λ _. Ok (contents_of d o.stamp)) >>= λ contents. Ok (chosen contents c))

  pub listed : (a : Actor) (c : Cursor) (before : List StampedRow) → rows_under db a c ≡ Ok before → Listed a c before
  listed a c before is = go (seen_stamped db a c.object) refl is
    where
      allowed : (o : Object) → seen_stamped db a c.object ≡ Some o → (may : Bool) → holds db a o select_privilege ≡ may
          → ((provided may security_not_satisfied >>= λ _. Ok (contents_of db o.stamp)) >>= λ contents. Ok (chosen contents c)) ≡ Ok before → Listed a c before
      allowed o seen false at is = absurd cc
      allowed o seen true at is = record {
        after = chosen (contents_of new o.stamp) c;
        is =
            ap (under new a c) (seen-same a c.object ∙ seen)
            ∙ ap (λ may. (provided may security_not_satisfied >>= λ _. Ok (contents_of new o.stamp)) >>= λ contents. Ok (chosen contents c)) (holds-same a o ∙ at);
        above_same = chosen-same o.stamp c ∙ ap (above stamp_of stamp) (let e : chosen (contents_of db o.stamp) c ≡ before = cc in e);
      }

      go : (found : Option Object) → seen_stamped db a c.object ≡ found → under db a c found ≡ Ok before → Listed a c before
      go None seen is = absurd cc
      go (Some o) seen is = allowed o seen (holds db a o select_privilege) refl is
