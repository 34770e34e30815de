-- The rows of each object stand in rising order of their stamps.
use Rattle.std.proofs.Common.{ℕ, zero, suc, ◌<◌, ◌==◌, List, [], ◌∷◌, map, filter, Option, Some, None}
use Rattle.std.specs.List.{AllByRecursion}
use Rattle.eeprom.specs.Slots.{Rises}
use Rattle.scql_base.specs.declared.words.Subject.{Subject}
use Rattle.scql_base.specs.declared.words.Subject.TheVariants.{Objects, Users, Grants}
use Rattle.scql_base.specs.declared.condition.Condition.{Condition}
use Rattle.scql_base.specs.declared.records.User.{User}
use Rattle.scql_base.specs.declared.records.Object.{Object}
use Rattle.scql_base.specs.declared.records.ObjectKind.{ObjectKind}
use Rattle.scql_base.specs.declared.records.ObjectKind.TheVariants.{Table, View, Dictionary}
use Rattle.scql_base.specs.declared.records.Grant.{Grant}
use Rattle.scql_base.specs.declared.records.RowRecord.{RowRecord}
use Rattle.scql_model.specs.Database.{Database, object_stamped}
use Rattle.scql_model.specs.Objects.{StampedRow}
use Rattle.scql_model.specs.Matching.{matches}
use Rattle.scql_model.specs.Dictionaries.{tells_of, object_owner, object_told, user_told, grant_told, rows_told}
use Rattle.scql_model.specs.Contents.{Contents, cut_to, of_table, narrowed, rows_in, contents_in, contents_below, contents_of}
use Rattle.scql_model.specs.ReadingLaws.{IsReadable}
use Rattle.scql_model.proofs.ChangedLists.{Rises-filter}
use Rattle.scql_model.proofs.Positions.{stamp_of}

all-map : {X Y : Type 0} (P : Y → Type 0) (f : X → Y) (xs : List X) → AllByRecursion (λ x. P (f x)) xs → AllByRecursion P (map f xs)
all-map P f [] all = tt
all-map P f (x ∷ xs) all = (all.0, all-map P f xs all.1)

pub Rises-map : {X Y : Type 0} (key : Y → ℕ) (f : X → Y) (xs : List X) → Rises (λ x. key (f x)) xs → Rises key (map f xs)
Rises-map key f [] rises = tt
Rises-map key f (x ∷ xs) rises = (all-map (λ y. key (f x) < key y) f xs rises.0, Rises-map key f xs rises.1)

Rises-narrowed : (columns : List (List ℕ)) (conditions : List Condition) (base : Contents) → Rises stamp_of base.rows → Rises stamp_of (narrowed columns conditions base)
Rises-narrowed columns conditions base rises =
    Rises-map stamp_of (λ (r : StampedRow). record r { values = cut_to base.columns columns r.values }) (filter (λ (r : StampedRow). matches base.columns conditions r.values) base.rows)
    (Rises-filter (λ (r : StampedRow). matches base.columns conditions r.values) stamp_of base.rows rises)

Rises-rows_told : (db : Database) (owner : ℕ) (subject : Subject) → IsReadable db → Rises stamp_of (rows_told db owner subject)
Rises-rows_told db owner Objects readable =
    Rises-map stamp_of (object_told db) (filter (λ (o : Object). tells_of owner o.owner) db.objects)
    (Rises-filter (λ (o : Object). tells_of owner o.owner) (λ (o : Object). o.stamp) db.objects readable.objects)
Rises-rows_told db owner Users readable =
    Rises-map stamp_of (user_told db) (filter (λ (u : User). tells_of owner u.owner) db.users)
    (Rises-filter (λ (u : User). tells_of owner u.owner) (λ (u : User). u.stamp) db.users readable.users)
Rises-rows_told db owner Grants readable =
    Rises-map stamp_of (grant_told db) (filter (λ (g : Grant). tells_of owner (object_owner db g.object)) db.grants)
    (Rises-filter (λ (g : Grant). tells_of owner (object_owner db g.object)) (λ (g : Grant). g.stamp) db.grants readable.grants)

Rises-rows_in : (contents : ℕ → Contents) (db : Database) (o : Object) (kind : ObjectKind) → IsReadable db → ((stamp : ℕ) → Rises stamp_of (contents stamp).rows) → Rises stamp_of (rows_in contents db o kind)
Rises-rows_in contents db o (Table columns) readable rise =
    Rises-map stamp_of of_table (filter (λ (r : RowRecord). r.table == o.stamp) db.rows)
    (Rises-filter (λ (r : RowRecord). r.table == o.stamp) (λ (r : RowRecord). r.stamp) db.rows readable.rows)
Rises-rows_in contents db o (View base columns conditions) readable rise = Rises-narrowed columns conditions (contents base) (rise base)
Rises-rows_in contents db o (Dictionary subject) readable rise = Rises-rows_told db o.owner subject readable

Rises-contents_in : (contents : ℕ → Contents) (db : Database) (found : Option Object) → IsReadable db → ((stamp : ℕ) → Rises stamp_of (contents stamp).rows) → Rises stamp_of (contents_in contents db found).rows
Rises-contents_in contents db None readable rise = tt
Rises-contents_in contents db (Some o) readable rise = Rises-rows_in contents db o o.kind readable rise

Rises-contents_below : (n : ℕ) (db : Database) (stamp : ℕ) → IsReadable db → Rises stamp_of (contents_below n db stamp).rows
Rises-contents_below zero db stamp readable = tt
Rises-contents_below (suc n) db stamp readable =
    Rises-contents_in (contents_below n db) db (object_stamped db.objects stamp) readable (λ (base : ℕ). Rises-contents_below n db base readable)

pub Rises-contents_of : (db : Database) (stamp : ℕ) → IsReadable db → Rises stamp_of (contents_of db stamp).rows
unfolding contents_of
Rises-contents_of db stamp readable = Rises-contents_below 5 db stamp readable
