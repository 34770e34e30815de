-- A fresh database is valid, and the example image of a fresh card of 16 cells opens to it.
use Rattle.std.proofs.Common.{◌≡◌, ℕ, zero, suc, ◌≤◌, ◌-◌, Option, List, [], ◌∷◌, replicate, refl, ap, true, Some, None, arith}
use Rattle.std.proofs.lemmas.List.{length-replicate}
use Rattle.eeprom.specs.StoreOf.{store_of, fresh_slots, fresh_store}
use Rattle.scql_base.specs.declared.records.User.{User}
use Rattle.scql_base.specs.declared.records.Object.{Object}
use Rattle.scql_base.specs.declared.records.Grant.{Grant}
use Rattle.scql_base.specs.declared.records.RowRecord.{RowRecord}
use Rattle.scql_model.specs.Records.{counter_record, user_record, counter_in, user_in, object_in, grant_in, row_in}
use Rattle.scql_model.specs.Stored.{StoredRecord}
use Rattle.scql_model.specs.Rules.{owner}
use Rattle.scql_model.specs.Database.{IsValid, fresh, stored_user}
use Rattle.scql_model.specs.Opens.{Holds, Opens, is_spelled, counter_stamp}
use Rattle.std.specs.List.{filter_map, list_all}
use Rattle.eeprom.specs.Slots.{in_slot, in_order}
use Rattle.eeprom.proofs.InOrder.{AreApart-rising}

pub IsValid-fresh : (n : ℕ) → 16 ≤ n → n ≤ 2048 → IsValid (fresh n)
IsValid-fresh n few many = record {
  cells = (few, many);
  limit = refl;
  next = omega arith;
  counter = refl;
  stored = record { room = omega arith; lengths = refl; stamped = refl; apart = AreApart-rising (λ (r : StoredRecord). r.stamp) (stored_user owner ∷ []) (tt, tt) };
  users = record { rises = (tt, tt); limits = refl; owner = refl; names = refl; none_public = refl; makers = refl; tries = refl };
  objects = record { rises = tt; limits = refl; lengths = refl; names = refl; makers = refl; founded = refl };
  grants = record { rises = tt; limits = refl; parties = refl; pairs = refl };
  rows = record { rises = tt; limits = refl; lengths = refl; tables = refl };
}

-- empty slots hold no record
filter_map-replicate_none : {X : Type 0} (read : List ℕ → Option X) (count : ℕ) → filter_map (in_slot read) (replicate count None) ≡ []
filter_map-replicate_none read zero = refl
filter_map-replicate_none read (suc count) = filter_map-replicate_none read count

list_all-replicate_none : (count : ℕ) → list_all is_spelled (replicate count None) ≡ true
list_all-replicate_none zero = refl
list_all-replicate_none (suc count) = list_all-replicate_none count

pub Holds-fresh : (n : ℕ) → 16 ≤ n → Holds (fresh_slots n (counter_record.spell 2) (user_record.spell owner)) (fresh n)
Holds-fresh n few = record {
  cells = omega (arith, length-replicate {A = Option (List ℕ)} (n - 2) None);
  spelled = list_all-replicate_none (n - 2);
  counter = ap (λ (xs : List ℕ). in_order counter_stamp (2 ∷ xs)) (filter_map-replicate_none counter_in (n - 2));
  users = ap (λ (xs : List User). in_order (λ (u : User). u.stamp) (owner ∷ xs)) (filter_map-replicate_none user_in (n - 2));
  objects = ap (λ (xs : List Object). in_order (λ (o : Object). o.stamp) xs) (filter_map-replicate_none object_in (n - 2));
  grants = ap (λ (xs : List Grant). in_order (λ (g : Grant). g.stamp) xs) (filter_map-replicate_none grant_in (n - 2));
  rows = ap (λ (xs : List RowRecord). in_order (λ (r : RowRecord). r.stamp) xs) (filter_map-replicate_none row_in (n - 2));
}

pub Opens-fresh : (n : ℕ) (image : List ℕ) → 16 ≤ n → n ≤ 2048 → store_of image ≡ Some (fresh_store n (counter_record.spell 2) (user_record.spell owner))
    → Opens image (fresh n)
Opens-fresh n image few many stored = record {
  store = fresh_store n (counter_record.spell 2) (user_record.spell owner);
  stored = stored;
  limit = refl;
  holds = Holds-fresh n few;
  valid = IsValid-fresh n few many;
}
