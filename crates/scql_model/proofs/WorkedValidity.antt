-- A valid database with a record of each kind, and databases that aren't valid, each by one rule.
use Rattle.std.proofs.Common.{◌≡◌, ℕ, ◌<◌, Bool, true, false, ◌&&◌, List, [], ◌∷◌, ◌++◌, replicate, refl, arith}
use Rattle.std.specs.Prelude.{codes, nat_lt}
use Rattle.std.specs.List.{list_all, AllByRecursion}
use Rattle.std.proofs.lemmas.Bool.{and_parts, false≢true, ltb-true}
use Rattle.eeprom.specs.Slots.{Rises}
use Rattle.eeprom.proofs.InOrder.{AreApart-rising}
use Rattle.scql_base.specs.declared.words.Profile.TheVariants.{Dboo, Dbbu}
use Rattle.scql_base.specs.declared.words.Subject.TheVariants.{Objects}
use Rattle.scql_base.specs.declared.words.Comparison.TheVariants.{Greater}
use Rattle.scql_base.specs.declared.condition.Condition.{Condition}
use Rattle.scql_base.specs.declared.records.User.{User}
use Rattle.scql_base.specs.declared.records.Object.{Object}
use Rattle.scql_base.specs.declared.records.ObjectKind.TheVariants.{Table, View, Dictionary}
use Rattle.scql_base.specs.declared.records.Grant.{Grant}
use Rattle.scql_base.specs.declared.records.RowRecord.{RowRecord}
use Rattle.scql_model.specs.Objects.{depth_of}
use Rattle.scql_model.specs.Stored.{StoredRecord, is_storable}
use Rattle.scql_model.specs.Rules.{AreRows, owner, is_founded}
use Rattle.scql_model.specs.Database.{Database, IsValid, records_of, stored_row, weight}

-- OWNER has a table, a view of it, a view of the view, and a dictionary; ANN may read the last view, and everybody the table; the table has a row.
abbrev ann : User
ann = record { stamp = 2; name = codes "ANN"; profile = Dbbu; owner = 1; secret = []; tries = 3 }

abbrev item : Object
item = record { stamp = 3; name = codes "ITEM"; owner = 1; kind = Table (codes "NAME" ∷ codes "QTY" ∷ []) }

abbrev of_quantity : List ℕ → Condition
of_quantity value = record { column = codes "QTY"; comparison = Greater; value = value }

abbrev stock : Object
stock = record { stamp = 4; name = codes "STOCK"; owner = 1; kind = View 3 (codes "QTY" ∷ codes "NAME" ∷ []) (of_quantity (codes "0000") ∷ []) }

abbrev names : Object
names = record { stamp = 5; name = codes "NAMES"; owner = 1; kind = View 4 (codes "NAME" ∷ []) [] }

abbrev all : Object
all = record { stamp = 6; name = codes "ALL"; owner = 1; kind = Dictionary Objects }

abbrev to_ann : Grant
to_ann = record { stamp = 7; object = 5; grantee = 2; privileges = 1 }

abbrev to_public : Grant
to_public = record { stamp = 8; object = 3; grantee = 0; privileges = 1 }

abbrev bolts : RowRecord
bolts = record { stamp = 9; table = 3; row = codes "BOLT" ∷ codes "0040" ∷ [] }

abbrev shop : Database
shop = record {
  cells = 64;
  limit = 240;
  next = 10;
  users = owner ∷ ann ∷ [];
  objects = item ∷ stock ∷ names ∷ all ∷ [];
  grants = to_ann ∷ to_public ∷ [];
  rows = bolts ∷ [];
}

-- whether numbers rise, as a test
abbrev all_above : {X : Type 0} → (X → ℕ) → ℕ → List X → Bool
all_above key k xs = list_all (λ y. nat_lt k (key y)) xs

abbrev do_rise : {X : Type 0} → (X → ℕ) → List X → Bool
do_rise key [] = true
do_rise key (x ∷ xs) = all_above key (key x) xs && do_rise key xs

rising : {X : Type 0} (key : X → ℕ) (xs : List X) → do_rise key xs ≡ true → Rises key xs
rising {X} key [] test = tt
rising {X} key (x ∷ xs) test = let parts = and_parts (all_above key (key x) xs) (do_rise key xs) test in (above (key x) xs parts.0, rising key xs parts.1)
  where
    above : (k : ℕ) (xs : List X) → all_above key k xs ≡ true → AllByRecursion (λ y. k < key y) xs
    above k [] test = tt
    above k (x ∷ xs) test = let parts = and_parts (nat_lt k (key x)) (all_above key k xs) test in (ltb-true k (key x) parts.0, above k xs parts.1)

abbrev stamp_of : StoredRecord → ℕ
stamp_of r = r.stamp

shop-valid : IsValid shop
unfolding depth_of
shop-valid = record {
  cells = (omega arith, omega arith);
  limit = refl;
  next = omega arith;
  counter = refl;
  stored = record { room = omega arith; lengths = refl; stamped = refl; apart = AreApart-rising stamp_of (records_of shop) (rising stamp_of (records_of shop) refl) };
  users = record { rises = rising (λ (u : User). u.stamp) shop.users refl; limits = refl; owner = refl; names = refl; none_public = refl; makers = refl; tries = refl };
  objects = record { rises = rising (λ (o : Object). o.stamp) shop.objects refl; limits = refl; lengths = refl; names = refl; makers = refl; founded = refl };
  grants = record { rises = rising (λ (g : Grant). g.stamp) shop.grants refl; limits = refl; parties = refl; pairs = refl };
  rows = record { rises = (tt, tt); limits = refl; lengths = refl; tables = refl };
}

-- What breaks one rule.

-- a second user of a name, an owner who may make no users, and tries lost without a secret
name_taken : IsValid (record shop { users = owner ∷ record ann { name = codes "OWNER" } ∷ [] }) → ⊥
name_taken valid = false≢true valid.users.names

owned_by_itself : IsValid (record shop { users = owner ∷ record ann { owner = 2 } ∷ [] }) → ⊥
owned_by_itself valid = false≢true valid.users.makers

tries_lost : IsValid (record shop { users = owner ∷ record ann { tries = 2 } ∷ [] }) → ⊥
tries_lost valid = false≢true valid.users.tries

-- an object of a user who may make none
object_of_reader : IsValid (record shop { objects = item ∷ stock ∷ names ∷ record all { owner = 2 } ∷ [] }) → ⊥
object_of_reader valid = false≢true valid.objects.makers

-- a base that is later than its view, and one that isn't there
base_later : IsValid (record shop { objects = item ∷ record stock { kind = View 5 (codes "NAME" ∷ []) [] } ∷ record names { kind = Table (codes "NAME" ∷ []) } ∷ all ∷ [] }) → ⊥
unfolding depth_of
base_later valid = false≢true valid.objects.founded

no_base : IsValid (record shop { objects = item ∷ record stock { kind = View 2 (codes "NAME" ∷ []) [] } ∷ all ∷ []; grants = to_public ∷ [] }) → ⊥
unfolding depth_of
no_base valid = false≢true valid.objects.founded

-- a view of a dictionary
base_dictionary : IsValid (record shop { objects = item ∷ record all { stamp = 4 } ∷ record names { kind = View 4 (codes "NAME" ∷ []) [] } ∷ [] }) → ⊥
unfolding depth_of
base_dictionary valid = false≢true valid.objects.founded

-- a view on another owner's table

base_of_another : IsValid (record shop { users = owner ∷ record ann { profile = Dboo } ∷ []; objects = item ∷ record stock { owner = 2 } ∷ record names { owner = 2 } ∷ all ∷ [] }) → ⊥
unfolding depth_of
base_of_another valid = false≢true valid.objects.founded

-- a view shows a column that its base hides, or has a condition on one
column_hidden : IsValid (record shop { objects = item ∷ stock ∷ names ∷ record all { kind = View 5 (codes "QTY" ∷ []) [] } ∷ [] }) → ⊥
unfolding depth_of
column_hidden valid = false≢true valid.objects.founded

condition_hidden : IsValid (record shop { objects = item ∷ stock ∷ names ∷ record all { kind = View 5 (codes "NAME" ∷ []) (of_quantity (codes "0000") ∷ []) } ∷ [] }) → ⊥
unfolding depth_of
condition_hidden valid = false≢true valid.objects.founded

-- a view of more than 512 octets
view_too_long : IsValid (record shop { objects = item ∷ stock ∷ record names { kind = View 4 (codes "NAME" ∷ []) (replicate 3 (of_quantity (replicate 200 0x30))) } ∷ all ∷ [] }) → ⊥
view_too_long valid = false≢true valid.objects.lengths

-- views over views to depth four, and five
abbrev view : ℕ → ℕ → List ℕ → Object
view stamp base name = record { stamp = stamp; name = name; owner = 1; kind = View base (codes "NAME" ∷ []) [] }

abbrev four_views : List Object
four_views = item ∷ view 4 3 (codes "A") ∷ view 5 4 (codes "B") ∷ view 6 5 (codes "C") ∷ view 7 6 (codes "D") ∷ []

depth_four : list_all (is_founded four_views) four_views ≡ true
unfolding depth_of
depth_four = refl

depth_five : list_all (is_founded (four_views ++ view 8 7 (codes "E") ∷ [])) (four_views ++ view 8 7 (codes "E") ∷ []) ≡ false
unfolding depth_of
depth_five = refl

-- a grant to a user that isn't there, and a second one of a pair
grant_to_nobody : IsValid (record shop { grants = record to_ann { grantee = 4 } ∷ [] }) → ⊥
grant_to_nobody valid = false≢true valid.grants.parties

grant_on_nothing : IsValid (record shop { grants = record to_ann { object = 2 } ∷ [] }) → ⊥
grant_on_nothing valid = false≢true valid.grants.parties

grant_again : IsValid (record shop { grants = to_ann ∷ record to_ann { stamp = 8 } ∷ [] }) → ⊥
grant_again valid = false≢true valid.grants.pairs

-- a row with a value too many, and a row of a view
row_too_long : IsValid (record shop { rows = record bolts { row = codes "BOLT" ∷ codes "0040" ∷ [] ∷ [] } ∷ [] }) → ⊥
row_too_long valid = false≢true valid.rows.tables

row_of_view : IsValid (record shop { rows = record bolts { table = 4 } ∷ [] }) → ⊥
row_of_view valid = false≢true valid.rows.tables

-- a row of 241 octets, which a migrated card takes
abbrev wide : RowRecord
wide = record bolts { row = replicate 200 0x61 ∷ replicate 39 0x62 ∷ [] }

row_over_limit : IsValid (record shop { rows = wide ∷ [] }) → ⊥
row_over_limit valid = false≢true valid.rows.lengths

row_within_limit : AreRows 1020 shop.objects (wide ∷ [])
row_within_limit = record { rises = (tt, tt); limits = refl; lengths = refl; tables = refl }

limit_of_no_card : IsValid (record shop { limit = 1021 }) → ⊥
limit_of_no_card valid = false≢true valid.limit

-- two records of different kinds with one stamp, and a stamp that wasn't given out
stamps_alike : IsValid (record shop { grants = record to_ann { stamp = 9 } ∷ [] }) → ⊥
stamps_alike valid = let few = valid.stored.apart 9 in absurd (omega arith)

stamp_not_given_out : IsValid (record shop { next = 9 }) → ⊥
stamp_not_given_out valid = false≢true valid.stored.stamped

-- the weight is that of all records with the counter, the conditioned view taking two cells; sixteen cells have no room for the wide row
shop-weight : weight shop ≡ 11
shop-weight = refl

no_room : IsValid (record shop { cells = 16; limit = 1020; rows = wide ∷ [] }) → ⊥
no_room valid = let room = valid.stored.room in absurd (omega arith)

-- the longest row's record
longest_row : is_storable (stored_row (record bolts { row = replicate 14 0x62 ∷ replicate 5 (replicate 200 0x61) })) ≡ true
longest_row = refl
