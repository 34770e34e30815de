-- A record more is found in the slots of a store.
use Rattle.std.proofs.Common.{◌≡◌, ℕ, ◌+◌, ◌<◌, ◌≤◌, suc, true, List, [], ◌∷◌, length, drop, get_or, Option, Some, None, nat_lt, refl, sym, ap, ap₂, ◌∙◌, subst, inl, inr, arith}
use Rattle.std.proofs.lemmas.Bool.{cases_Bool}
use Rattle.std.proofs.lemmas.List.{drop_more}
use Rattle.std.specs.List.{cons_option, filter_map, list_all}
use Rattle.eeprom.specs.StoreOf.{Slots}
use Rattle.eeprom.specs.Slots.{in_order, in_slot, kept, put_in_order}
use Rattle.scql_base.specs.declared.records.User.{User}
use Rattle.scql_base.specs.declared.records.Object.{Object}
use Rattle.scql_base.specs.declared.records.Grant.{Grant}
use Rattle.scql_base.specs.declared.records.RowRecord.{RowRecord}
use Rattle.scql_model.specs.Database.{Database}
use Rattle.scql_model.specs.Opens.{Holds, counter_stamp, is_spelled}
use Rattle.scql_model.specs.Records.{counter_in, user_in, object_in, grant_in, row_in}
use Rattle.plain_image.specs.Found.{is_admitted, is_short_object, put_found, records_in}

pub length-put : {X : Type 0} (key : X → ℕ) (x : X) (xs : List X) → length (put_in_order key x xs) ≡ suc (length xs)
length-put key x [] = refl
length-put key x (y ∷ ys) = elim (cases_Bool (nat_lt (key x) (key y))) [
  | inl t ↦ rw t refl
  | inr f ↦ rw f (ap suc (length-put key x ys))
]

pub two-put : {X : Type 0} (key : X → ℕ) (x : X) (xs : List X) → 1 ≤ length xs → 2 ≤ length (put_in_order key x xs)
two-put key x xs one = rw (length-put key x xs) (omega arith)

-- the slot at a place stands before those behind it
pub slots-more : (slots : Slots) (place left : ℕ) (slot read : Option (List ℕ)) → left ≡ place + 1 → place < length slots → read ≡ slot → read ≡ get_or slots place read
    → drop place slots ≡ slot ∷ drop left slots
slots-more slots place left slot read next inside same is =
    drop_more slots place read inside ∙ ap₂ (λ (s : Option (List ℕ)) (i : ℕ). s ∷ drop i slots) (sym is ∙ same) (sym next)

-- what is kept of it is put before the others
pub kept-more : {X : Type 0} (key : X → ℕ) (read : List ℕ → Option X) (octets : List ℕ) (slots : Slots)
    → kept key read (Some octets ∷ slots) ≡ put_found key (read octets) (kept key read slots)
kept-more {X} key read octets slots = put (read octets) (filter_map (in_slot read) slots)
  where
    put : (found : Option X) (others : List X) → in_order key (cons_option found others) ≡ put_found key found (in_order key others)
    put None others = refl
    put (Some x) others = refl

-- a database of these records
abbrev of_records : ℕ → ℕ → List User → List Object → List Grant → List RowRecord → Database
of_records cells limit users objects grants rows = record { cells = cells; limit = limit; next = 2; users = users; objects = objects; grants = grants; rows = rows }

pub records-more : (cells limit : ℕ) (octets : List ℕ) (rest : Slots) (db : Database) → db ≡ records_in cells limit rest
    → record db {
      users = put_found (λ (u : User). u.stamp) (user_in octets) db.users;
      objects = put_found (λ (o : Object). o.stamp) (object_in octets) db.objects;
      grants = put_found (λ (g : Grant). g.stamp) (grant_in octets) db.grants;
      rows = put_found (λ (r : RowRecord). r.stamp) (row_in octets) db.rows;
    } ≡ records_in cells limit (Some octets ∷ rest)
records-more cells limit octets rest db is =
    let users = kept-more (λ (u : User). u.stamp) user_in octets rest in
    let objects = kept-more (λ (o : Object). o.stamp) object_in octets rest in
    let grants = kept-more (λ (g : Grant). g.stamp) grant_in octets rest in
    let rows = kept-more (λ (r : RowRecord). r.stamp) row_in octets rest in
    rw is (sym (
    ap₂ (λ (us : List User) (os : List Object). of_records cells limit us os (kept (λ (g : Grant). g.stamp) grant_in (Some octets ∷ rest)) (kept (λ (r : RowRecord). r.stamp) row_in (Some octets ∷ rest))) users objects
    ∙ ap₂ (λ (gs : List Grant) (rs : List RowRecord). of_records cells limit (put_found (λ (u : User). u.stamp) (user_in octets) (kept (λ (u : User). u.stamp) user_in rest)) (put_found (λ (o : Object). o.stamp) (object_in octets) (kept (λ (o : Object). o.stamp) object_in rest)) gs rs) grants rows
    ))

pub admitted-more : (octets : List ℕ) (rest : Slots) → is_short_object octets ≡ true → is_spelled (Some octets) ≡ true → list_all is_admitted rest ≡ true → list_all is_admitted (Some octets ∷ rest) ≡ true
admitted-more octets rest short one others = rw (short, one, others) refl

-- a store holds the database of the records in its slots, where one counter has the next stamp
pub holds-found : (slots : Slots) (cells limit next : ℕ) (db : Database) → db ≡ record (records_in cells limit slots) { next = next } → length slots ≡ cells
    → list_all is_spelled slots ≡ true → kept counter_stamp counter_in slots ≡ next ∷ [] → Holds slots db
holds-found slots cells limit next db is count spelled counter =
    subst (Holds slots) (sym is) (record { cells = count; spelled = spelled; counter = counter; users = refl; objects = refl; grants = refl; rows = refl })
