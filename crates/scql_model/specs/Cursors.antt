-- Which cursors stand on a database, and on those that follow it.
use Rattle.std.specs.Prelude.{◌≡◌, ℕ, ◌<◌, ◌≤◌, true, Some, IfSome}
use Rattle.scql_base.specs.declared.cursor.Cursor.{Cursor}
use Rattle.scql_base.specs.declared.records.Object.{Object}
use Rattle.scql_model.specs.Database.{Database, are_different, are_named_among, object_stamped}
use Rattle.scql_model.specs.Objects.{columns_of}

-- A cursor's columns are different. Where its object is there, they and those of its conditions are the object's columns.
pub record IsCursorOf (db : Database) (c : Cursor) : Type 0 where
  pub different : are_different c.columns ≡ true
  pub named : IfSome (object_stamped db.objects c.object) (λ (o : Object). are_named_among (columns_of o.kind) c.columns c.conditions ≡ true)

-- such a cursor, whose object was given its stamp
pub record StandsOn (db : Database) (c : Cursor) : Type 0 where
  pub given : c.object < db.next
  pub columns : IsCursorOf db c

-- A database follows another: no stamp is given anew, and an object whose stamp was given is the same one, if it is there still.
pub record Follows (db new : Database) : Type 0 where
  pub next : db.next ≤ new.next
  pub objects : (stamp : ℕ) → stamp < db.next → IfSome (object_stamped new.objects stamp) (λ (o : Object). object_stamped db.objects stamp ≡ Some o)
