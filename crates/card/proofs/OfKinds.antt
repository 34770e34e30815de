-- The records of each kind among those of rising stamps.
use Rattle.std.proofs.Common.{◌≡◌, ℕ, ◌==◌, Bool, List, Option, Some, sym, ap, ◌∙◌}
use Rattle.std.specs.Prelude.{option_and_then, is_some}
use Rattle.std.specs.List.{find, list_any}
use Rattle.std.proofs.lemmas.Option.{none-some, same_Some}
use Rattle.eeprom.specs.Slots.{Rises}
use Rattle.scql_base.specs.declared.records.User.{User}
use Rattle.scql_base.specs.declared.records.Object.{Object}
use Rattle.scql_base.specs.declared.records.Grant.{Grant}
use Rattle.scql_base.specs.declared.records.RowRecord.{RowRecord}
use Rattle.scql_model.specs.Objects.{object_stamped}
use Rattle.scql_model.specs.Rules.{user_stamped}
use Rattle.card.specs.declared.kept_record.KeptRecord.{KeptRecord}
use Rattle.card.specs.declared.kept_record.KeptRecord.TheVariants as kept_as
use Rattle.card.specs.KeptRecords.{stamp_of, as_user, as_object, as_grant, as_row, users_in, objects_in}
use Rattle.card.proofs.Stamped.{find-kind, is_some-find}

abbrev stamped : List KeptRecord → ℕ → Option KeptRecord
stamped records stamp = find (λ (s : KeptRecord). stamp_of s == stamp) records

-- a record of a kind has the stamp of its record
pub user-stamp : (s : KeptRecord) (u : User) → as_user s ≡ Some u → u.stamp ≡ stamp_of s
user-stamp (kept_as.User v) u is = sym (ap (λ (w : User). w.stamp) (same_Some v u is))
user-stamp (kept_as.Object o) u is = absurd (none-some u is)
user-stamp (kept_as.Grant g) u is = absurd (none-some u is)
user-stamp (kept_as.Row slot r) u is = absurd (none-some u is)

pub object-stamp : (s : KeptRecord) (o : Object) → as_object s ≡ Some o → o.stamp ≡ stamp_of s
object-stamp (kept_as.User v) o is = absurd (none-some o is)
object-stamp (kept_as.Object v) o is = sym (ap (λ (w : Object). w.stamp) (same_Some v o is))
object-stamp (kept_as.Grant g) o is = absurd (none-some o is)
object-stamp (kept_as.Row slot r) o is = absurd (none-some o is)

pub grant-stamp : (s : KeptRecord) (g : Grant) → as_grant s ≡ Some g → g.stamp ≡ stamp_of s
grant-stamp (kept_as.User v) g is = absurd (none-some g is)
grant-stamp (kept_as.Object v) g is = absurd (none-some g is)
grant-stamp (kept_as.Grant v) g is = sym (ap (λ (w : Grant). w.stamp) (same_Some v g is))
grant-stamp (kept_as.Row slot r) g is = absurd (none-some g is)

pub row-stamp : (s : KeptRecord) (r : RowRecord) → as_row s ≡ Some r → r.stamp ≡ stamp_of s
row-stamp (kept_as.User v) r is = absurd (none-some r is)
row-stamp (kept_as.Object v) r is = absurd (none-some r is)
row-stamp (kept_as.Grant v) r is = absurd (none-some r is)
row-stamp (kept_as.Row slot v) r is = sym (ap (λ (w : RowRecord). w.stamp) (same_Some v r is))

-- the user and the object of a stamp are what the record of that stamp is
pub user-found : (records : List KeptRecord) (stamp : ℕ) (found : Option KeptRecord) (r : Option User) → Rises stamp_of records → found ≡ stamped records stamp → r ≡ option_and_then as_user found → r ≡ user_stamped (users_in records) stamp
user-found records stamp found r rises is kept = kept ∙ ap (option_and_then as_user) is ∙ sym (find-kind stamp_of (λ (u : User). u.stamp) as_user user-stamp stamp records rises)

pub object-found : (records : List KeptRecord) (stamp : ℕ) (found : Option KeptRecord) (r : Option Object) → Rises stamp_of records → found ≡ stamped records stamp → r ≡ option_and_then as_object found → r ≡ object_stamped (objects_in records) stamp
object-found records stamp found r rises is kept = kept ∙ ap (option_and_then as_object) is ∙ sym (find-kind stamp_of (λ (o : Object). o.stamp) as_object object-stamp stamp records rises)

-- there is one where one is found
pub is_there : {X : Type 0} (p : X → Bool) (xs : List X) (found : Option X) (b : Bool) → found ≡ find p xs → b ≡ is_some found → b ≡ list_any p xs
is_there p xs found b is tested = tested ∙ ap is_some is ∙ is_some-find p xs
