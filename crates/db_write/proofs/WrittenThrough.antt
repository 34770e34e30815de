-- UPDATE and DELETE: the object through which they write, or the first refusal.
use Rattle.std.proofs.Common.{◌≡◌, ◌==◌, ℕ, true, false, Option, Some, None, Ok, Err, refl, sym, ap, ◌∙◌}
use Rattle.std.proofs.lemmas.Map.Entries.{option_filter}
use Rattle.eeprom.proofs.InOrder.{AreApart-rising}
use Rattle.scql_base.specs.Words.{conditions_not_satisfied, not_found, security_not_satisfied}
use Rattle.scql_base.specs.declared.cursor.Cursor.{Cursor}
use Rattle.scql_base.specs.declared.records.Object.{Object}
use Rattle.scql_base.specs.declared.words.Actor.{Actor}
use Rattle.scql_model.specs.Database.{Database, IsValid, object_stamped}
use Rattle.scql_model.specs.Defining.{is_table_or_view}
use Rattle.scql_model.specs.Rights.{appears, holds, seen_stamped}
use Rattle.scql_model.specs.Writing.{written_through}
use Rattle.privilege_table.proofs.Seen.{find-both}

-- the object of a stamp is seen if it appears
seen-stamped : (db : Database) (actor : Actor) (stamp : ℕ) (found : Option Object) → IsValid db → found ≡ object_stamped db.objects stamp → seen_stamped db actor stamp ≡ option_filter (appears db actor) found
seen-stamped db actor stamp found valid is =
    find-both (λ (o : Object). o.stamp == stamp) (appears db actor) db.objects (AreApart-rising (λ (o : Object). o.stamp) db.objects valid.objects.rises stamp) ∙ ap (option_filter (appears db actor)) (sym is)

pub writes-none : (db : Database) (actor : Actor) (privilege : ℕ) (c : Cursor) → IsValid db → None ≡ object_stamped db.objects c.object → written_through db actor privilege c ≡ Err not_found
writes-none db actor privilege c valid is = let seen : seen_stamped db actor c.object ≡ None = seen-stamped db actor c.object None valid is in rw seen refl

seen-one : (db : Database) (actor : Actor) (stamp : ℕ) (o : Object) → IsValid db → Some o ≡ object_stamped db.objects stamp → appears db actor o ≡ true → seen_stamped db actor stamp ≡ Some o
seen-one db actor stamp o valid is seen = seen-stamped db actor stamp (Some o) valid is ∙ rw seen refl

pub writes-hidden : (db : Database) (actor : Actor) (privilege : ℕ) (c : Cursor) (o : Object) → IsValid db → Some o ≡ object_stamped db.objects c.object → appears db actor o ≡ false
    → written_through db actor privilege c ≡ Err not_found
writes-hidden db actor privilege c o valid is hidden =
    let none : seen_stamped db actor c.object ≡ None = seen-stamped db actor c.object (Some o) valid is ∙ rw hidden refl in
    rw none refl

pub writes-other : (db : Database) (actor : Actor) (privilege : ℕ) (c : Cursor) (o : Object) → IsValid db → Some o ≡ object_stamped db.objects c.object → appears db actor o ≡ true → is_table_or_view o.kind ≡ false
    → written_through db actor privilege c ≡ Err conditions_not_satisfied
writes-other db actor privilege c o valid is seen other = rw (seen-one db actor c.object o valid is seen, other) refl

pub writes-foreign : (db : Database) (actor : Actor) (privilege : ℕ) (c : Cursor) (o : Object) → IsValid db → Some o ≡ object_stamped db.objects c.object → appears db actor o ≡ true → is_table_or_view o.kind ≡ true
    → holds db actor o privilege ≡ false → written_through db actor privilege c ≡ Err security_not_satisfied
writes-foreign db actor privilege c o valid is seen kind foreign = rw (seen-one db actor c.object o valid is seen, kind, foreign) refl

pub writes : (db : Database) (actor : Actor) (privilege : ℕ) (c : Cursor) (o : Object) → IsValid db → Some o ≡ object_stamped db.objects c.object → appears db actor o ≡ true → is_table_or_view o.kind ≡ true
    → holds db actor o privilege ≡ true → written_through db actor privilege c ≡ Ok o
writes db actor privilege c o valid is seen kind may = rw (seen-one db actor c.object o valid is seen, kind, may) refl
