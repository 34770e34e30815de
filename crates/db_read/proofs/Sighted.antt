-- What an actor sees of an object, and what that makes of a search for it.
use Rattle.std.proofs.Common.{◌≡◌, ℕ, ◌≤◌, ◌==◌, Bool, true, false, List, [], ◌∷◌, count_by, Option, Some, None, Result, Ok, Err, refl, lit≤, sym, ap, subst, ◌∙◌, arith, inl, inr}
use Rattle.std.specs.Prelude.{IfSome}
use Rattle.std.proofs.lemmas.Bool.{cases_Bool, eqb-true}
use Rattle.std.proofs.lemmas.Map.Entries.{option_filter}
use Rattle.std.proofs.lemmas.Option.{none-some}
use Rattle.eeprom.specs.Chip.{Chip}
use Rattle.eeprom.specs.Slots.{Rises, has}
use Rattle.eeprom.proofs.InOrder.{count_by-cons, count-above}
use Rattle.record_store.specs.Held.{Held}
use Rattle.record_store.specs.declared.side.Side.{Side}
use Rattle.scql_base.specs.Words.{not_found, security_not_satisfied}
use Rattle.scql_base.specs.declared.words.Actor.{Actor}
use Rattle.scql_base.specs.declared.words.StatusWord.{StatusWord}
use Rattle.scql_base.specs.declared.records.Object.{Object}
use Rattle.scql_model.specs.Contents.{Contents, contents_of}
use Rattle.scql_model.specs.Database.{Database, IsValid, object_stamped}
use Rattle.scql_model.specs.Moves.{selected}
use Rattle.scql_model.specs.Objects.{columns_of}
use Rattle.scql_model.specs.Refusals.{◌>>=◌, or_refused}
use Rattle.scql_model.specs.Rights.{appears, holds, select_privilege, seen_named, seen_stamped}
use Rattle.scql_model.proofs.FoundAgain.{seen_stamped-named}
use Rattle.scql_model.proofs.LongerLists.{find-passes}
use Rattle.scql_model.proofs.ReadingIsShown.{IsReadable-valid}
use Rattle.record_table.specs.Listed.{slots_of}
use Rattle.record_table.specs.Making.{IsHeld}
use Rattle.privilege_table.proofs.Seen.{find-both}
use Rattle.views.proofs.Stamped.{IsOfStamp, stamped-held}
use Rattle.db_read.specs.Answered.{selectable}

-- who may select from an object that is seen, and who may not
pub selects-open : (db : Database) (actor : Actor) (o : Object) → appears db actor o ≡ true → holds db actor o select_privilege ≡ true → selectable db actor (option_filter (appears db actor) (Some o)) ≡ Ok o
selects-open db actor o seen may = rw (seen, may) refl

pub selects-closed : (db : Database) (actor : Actor) (o : Object) → appears db actor o ≡ true → holds db actor o select_privilege ≡ false → selectable db actor (option_filter (appears db actor) (Some o)) ≡ Err security_not_satisfied
selects-closed db actor o seen may = rw (seen, may) refl

pub selects-hidden : (db : Database) (actor : Actor) (o : Object) → appears db actor o ≡ false → selectable db actor (option_filter (appears db actor) (Some o)) ≡ Err not_found
selects-hidden db actor o seen = rw seen refl

-- at most one element has a key where keys rise
pub one-rising : {X : Type 0} (key : X → ℕ) (k : ℕ) (xs : List X) → Rises key xs → count_by (has key k) xs ≤ 1
one-rising key k [] rises = lit≤ tt
one-rising {X} key k (x ∷ xs) rises =
    elim (cases_Bool (has key k x)) [
      | inl t ↦ (let same : key x ≡ k = eqb-true (key x) k t in
          let none : count_by (has key k) xs ≡ 0 = subst (λ (j : ℕ). count_by (has key j) xs ≡ 0) same (count-above key (key x) xs rises.0) in
          rw (count_by-cons, t) (omega (arith, none)))
      | inr f ↦ (let rest : count_by (has key k) xs ≤ 1 = one-rising key k xs rises.1 in rw (count_by-cons, f) (omega (arith, rest)))
    ]

-- the object of a stamp is seen if it appears
pub seen-stamped : (db : Database) (actor : Actor) (stamp : ℕ) → IsValid db → seen_stamped db actor stamp ≡ option_filter (appears db actor) (object_stamped db.objects stamp)
seen-stamped db actor stamp valid = find-both (λ (o : Object). o.stamp == stamp) (appears db actor) db.objects (one-rising (λ (o : Object). o.stamp) stamp db.objects valid.objects.rises)

pub seen-stamped-held : (store : Held) (side : Side) (chip : Chip) (db : Database) (actor : Actor) (stamp : ℕ) (found : Option Object) → IsHeld store side chip db → IfSome (slots_of store side chip) (IsOfStamp stamp found)
    → option_filter (appears db actor) found ≡ seen_stamped db actor stamp
seen-stamped-held store side chip db actor stamp found held said =
    ap (option_filter (appears db actor)) (stamped-held store side chip db stamp found held said) ∙ sym (seen-stamped db actor stamp held.valid)

-- what is left of an option is what it was
filtered-some : {X : Type 0} (p : X → Bool) (o : Option X) (x : X) → option_filter p o ≡ Some x → o ≡ Some x
filtered-some p None x is = absurd (none-some x is)
filtered-some p (Some y) x is =
    elim (cases_Bool (p y)) [
      | inl t ↦ rw t at is
      | inr f ↦ absurd (none-some x (rw f at is))
    ]

pub object-stamped : (db : Database) (actor : Actor) (stamp : ℕ) (o : Object) → IsValid db → seen_stamped db actor stamp ≡ Some o → object_stamped db.objects stamp ≡ Some o
object-stamped db actor stamp o valid seen = filtered-some (appears db actor) (object_stamped db.objects stamp) o (sym (seen-stamped db actor stamp valid) ∙ seen)

pub own-stamp : (db : Database) (stamp : ℕ) (o : Object) → object_stamped db.objects stamp ≡ Some o → o.stamp ≡ stamp
own-stamp db stamp o is = eqb-true o.stamp stamp (find-passes (λ (x : Object). x.stamp == stamp) db.objects o is)

pub object-named : (db : Database) (actor : Actor) (name : List ℕ) (o : Object) → IsValid db → seen_named db actor name ≡ Some o → object_stamped db.objects o.stamp ≡ Some o
object-named db actor name o valid seen = object-stamped db actor o.stamp o valid (seen_stamped-named db actor name o (IsReadable-valid db valid) seen)

pub contents-columns : (db : Database) (stamp : ℕ) (o : Object) → object_stamped db.objects stamp ≡ Some o → (contents_of db stamp).columns ≡ columns_of o.kind
unfolding contents_of
contents-columns db stamp o is = rw is refl

-- what comes of an object that is seen, once the actor may select from it
abbrev pub asked : {X : Type 0} → Database → Actor → Option Object → (Object → Contents → Result X StatusWord) → Result X StatusWord
asked {X} db actor seen f = or_refused seen not_found >>= λ (o : Object). selected db actor o >>= λ (contents : Contents). f o contents

pub asked-Err : {X : Type 0} (db : Database) (actor : Actor) (seen : Option Object) (f : Object → Contents → Result X StatusWord) (word : StatusWord) → selectable db actor seen ≡ Err word → asked db actor seen f ≡ Err word
asked-Err db actor None f word is = (let same : not_found ≡ word = cc in ap Err same)
asked-Err db actor (Some o) f word is =
    elim (cases_Bool (holds db actor o select_privilege)) [
      | inl t ↦ (let wrong = rw t at is in absurd (cc))
      | inr e ↦ (let refused = rw e at is in let same : security_not_satisfied ≡ word = cc in rw e (ap Err same))
    ]

pub selectable-parts : (db : Database) (actor : Actor) (seen : Option Object) (o : Object) → selectable db actor seen ≡ Ok o → (seen ≡ Some o) × (holds db actor o select_privilege ≡ true)
selectable-parts db actor None o is = absurd (cc)
selectable-parts db actor (Some x) o is =
    elim (cases_Bool (holds db actor x select_privilege)) [
      | inl t ↦ (let found = rw t at is in let same : x ≡ o = cc in (ap Some same, subst (λ (y : Object). holds db actor y select_privilege ≡ true) same t))
      | inr e ↦ (let wrong = rw e at is in absurd (cc))
    ]

pub asked-Ok : {X : Type 0} (db : Database) (actor : Actor) (seen : Option Object) (f : Object → Contents → Result X StatusWord) (o : Object) → selectable db actor seen ≡ Ok o → asked db actor seen f ≡ f o (contents_of db o.stamp)
asked-Ok db actor seen f o is = (let parts = selectable-parts db actor seen o is in rw (parts.0, parts.1) refl)
