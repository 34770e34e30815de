-- That a session's cursor is one of a database is one fact, so that a value may keep it.
use Rattle.std.specs.Prelude.{◌≡◌, Bool, true, Option, Some, None, IfSome}
use Rattle.std.specs.Coded.{Unit-prop}
use Rattle.std.proofs.Props.{props}
use Rattle.scql_base.specs.declared.cursor.Cursor.{Cursor}
use Rattle.scql_model.specs.Cursors.{IsCursorOf}
use Rattle.scql_model.specs.Database.{Database}

IfSome-prop : {T : Type 0} (test : T → Bool) (o : Option T) → IsProp (IfSome o (λ x. test x ≡ true))
IfSome-prop test None = Unit-prop
IfSome-prop test (Some x) = Prim.hlevel props

IsCursorOf-prop : (db : Database) (c : Cursor) → IsProp (IsCursorOf db c)
IsCursorOf-prop db c = Prim.hlevel (props, IfSome-prop)

pub cursor-prop : (db : Database) (cursor : Option Cursor) → IsProp (IfSome cursor (IsCursorOf db))
cursor-prop db None = Unit-prop
cursor-prop db (Some c) = IsCursorOf-prop db c
