-- After a change an object is the one that it was, or is gone; and a stamp that was given out is no new object's. So cursors stand still.
use Rattle.std.proofs.Common.{◌≡◌, ℕ, ◌+◌, ◌<◌, ◌≤◌, ◌==◌, Bool, true, false, List, [], ◌∷◌, ◌++◌, Option, Some, None, if◌then◌else◌, refl, sym, subst, inl, inr, arith}
use Rattle.std.specs.Prelude.{IfSome}
use Rattle.std.specs.List.{list_all}
use Rattle.std.proofs.lemmas.Bool.{cases_Bool, and_parts, ne_eqb, eqb-true}
use Rattle.eeprom.specs.Slots.{without}
use Rattle.scql_base.specs.declared.cursor.Cursor.{Cursor}
use Rattle.scql_base.specs.declared.records.Object.{Object}
use Rattle.scql_model.specs.Records.{AnyRecord, of_counter, of_user, of_object, of_grant, of_row}
use Rattle.scql_model.specs.Rules.{are_named_among, object_stamped}
use Rattle.scql_model.specs.Objects.{columns_of}
use Rattle.scql_model.specs.Database.{Database}
use Rattle.scql_model.specs.Edits.{Action, to_add, to_change, to_remove, Edit, edited, applied, takes_stamp}
use Rattle.scql_model.specs.Cursors.{StandsOn, Follows}
use Rattle.scql_model.proofs.ChangedLists.{find-without}
use Rattle.scql_model.proofs.RightEdits.{is_right, AreRight, next-right}

-- a database follows itself, and what follows one that follows it
found-itself : (found : Option Object) → IfSome found (λ (o : Object). found ≡ Some o)
found-itself None = tt
found-itself (Some o) = refl

pub Follows-itself : (db : Database) → Follows db db
Follows-itself db = record { next = omega arith; objects = λ stamp given. found-itself (object_stamped db.objects stamp) }

pub Follows-through : (a b c : Database) → Follows a b → Follows b c → Follows a c
Follows-through a b c first later = record {
  next = let x = first.next in let y = later.next in omega arith;
  objects = λ stamp given. let up = first.next in
      go (object_stamped a.objects stamp) (object_stamped b.objects stamp) (object_stamped c.objects stamp) (first.objects stamp given) (later.objects stamp (omega arith));
}
  where
    go : (x y z : Option Object) → IfSome y (λ (o : Object). x ≡ Some o) → IfSome z (λ (o : Object). y ≡ Some o) → IfSome z (λ (o : Object). x ≡ Some o)
    go x y None one two = tt
    go x y (Some o) one two = subst (λ (y : Option Object). IfSome y (λ (o : Object). x ≡ Some o)) two one

-- a cursor stands on what follows its database, wherever its place is
pub StandsOn-follows : (db new : Database) (c : Cursor) → Follows db new → StandsOn db c → StandsOn new c
StandsOn-follows db new c follows stands = record {
  given = let below = stands.given in let up = follows.next in omega arith;
  columns = record { different = stands.columns.different; named = go (object_stamped db.objects c.object) (object_stamped new.objects c.object) (follows.objects c.object stands.given) stands.columns.named };
}
  where
    Named : Object → Type 0
    Named o = are_named_among (columns_of o.kind) c.columns c.conditions ≡ true

    go : (before after : Option Object) → IfSome after (λ (o : Object). before ≡ Some o) → IfSome before Named → IfSome after Named
    go before None same named = tt
    go before (Some o) same named = subst (λ (found : Option Object). IfSome found Named) same named

-- no edit changes an object
abbrev pub keeps_object : Action → AnyRecord → Bool
keeps_object to_change (of_object o) = false
keeps_object action r = true

abbrev pub keep_objects : List Edit → Bool
keep_objects edits = list_all (λ (e : Edit). keeps_object e.action e.entry) edits

abbrev pub AreKept : List Edit → Type 0
AreKept edits = keep_objects edits ≡ true

-- what was found is found still, or is gone
record Stay (first now : Database) : Type 0 where
  each : (stamp : ℕ) → stamp < first.next → IfSome (object_stamped now.objects stamp) (λ (o : Object). object_stamped first.objects stamp ≡ Some o)

found-added : (was : Option Object) (objects : List Object) (o : Object) (stamp : ℕ) → (o.stamp == stamp) ≡ false → IfSome (object_stamped objects stamp) (λ (p : Object). was ≡ Some p)
    → IfSome (object_stamped (objects ++ o ∷ []) stamp) (λ (p : Object). was ≡ Some p)
found-added was [] o stamp other same = rw other tt
found-added was (p ∷ objects) o stamp other same =
    elim (cases_Bool (p.stamp == stamp)) [
      | inl t ↦ rw t (rw t at same)
      | inr f ↦ rw f (found-added was objects o stamp other (rw f at same))
    ]

none-without : (objects : List Object) (gone : ℕ) (was : Option Object) → IfSome (object_stamped (without (λ (p : Object). p.stamp) gone objects) gone) (λ (p : Object). was ≡ Some p)
none-without [] gone was = tt
none-without (p ∷ objects) gone was =
    elim (cases_Bool (p.stamp == gone)) [
      | inl t ↦ rw t (none-without objects gone was)
      | inr f ↦ rw (f, f) (none-without objects gone was)
    ]

found-removed : (was : Option Object) (objects : List Object) (gone stamp : ℕ) → IfSome (object_stamped objects stamp) (λ (p : Object). was ≡ Some p)
    → IfSome (object_stamped (without (λ (p : Object). p.stamp) gone objects) stamp) (λ (p : Object). was ≡ Some p)
found-removed was objects gone stamp same =
    elim (cases_Bool (stamp == gone)) [
      | inl t ↦ subst (λ (n : ℕ). IfSome (object_stamped (without (λ (p : Object). p.stamp) gone objects) n) (λ (p : Object). was ≡ Some p)) (sym (eqb-true stamp gone t)) (none-without objects gone was)
      | inr f ↦ rw (find-without (λ (p : Object). p.stamp) gone stamp objects f) same
    ]

stay-edited : (first now : Database) (action : Action) (r : AnyRecord) → is_right first (record { action = action; entry = r }) ≡ true → keeps_object action r ≡ true → Stay first now → Stay first (edited action r now)
stay-edited first now action (of_counter n) right keeps stay = record { each = stay.each }
stay-edited first now action (of_user u) right keeps stay = record { each = stay.each }
stay-edited first now to_add (of_object o) right keeps stay = record {
  each = λ stamp given. found-added (object_stamped first.objects stamp) now.objects o stamp (let new = eqb-true o.stamp first.next right in ne_eqb o.stamp stamp (λ (e : o.stamp ≡ stamp). omega arith)) (stay.each stamp given);
}
stay-edited first now to_change (of_object o) right keeps stay = absurd cc
stay-edited first now to_remove (of_object o) right keeps stay = record { each = λ stamp given. found-removed (object_stamped first.objects stamp) now.objects o.stamp stamp (stay.each stamp given) }
stay-edited first now action (of_grant g) right keeps stay = record { each = stay.each }
stay-edited first now action (of_row r) right keeps stay = record { each = stay.each }

stay-applied : (first now : Database) (edits : List Edit) → AreRight first edits → AreKept edits → Stay first now → Stay first (applied now edits)
stay-applied first now [] right kept stay = stay
stay-applied first now (e ∷ edits) right kept stay =
    let rights = and_parts (is_right first e) (list_all (is_right first) edits) right in
    let keeps = and_parts (keeps_object e.action e.entry) (keep_objects edits) kept in
    stay-applied first (edited e.action e.entry now) edits rights.1 keeps.1 (stay-edited first now e.action e.entry rights.0 keeps.0 stay)

-- So what right edits make of a database, none of which changes an object, follows it.
pub Follows-applied : (db : Database) (edits : List Edit) → AreRight db edits → AreKept edits → Follows db (applied db edits)
Follows-applied db edits right kept = record {
  next = more (takes_stamp edits) (next-right db edits right);
  objects = (stay-applied db db edits right kept (record { each = (Follows-itself db).objects })).each;
}
  where
    more : (b : Bool) → (applied db edits).next ≡ (if b then db.next + 1 else db.next) → db.next ≤ (applied db edits).next
    more true next = omega arith
    more false next = omega arith
