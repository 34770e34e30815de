-- Whose session a name gets, by the user that was found.
use Rattle.std.proofs.Common.{◌≡◌, ℕ, false, List, Option, Some, None, Ok, Err, refl, sym, subst, ◌∙◌}
use Rattle.std.specs.Prelude.{IfSome}
use Rattle.std.specs.List.{find}
use Rattle.std.specs.Str.{bytes_eq}
use Rattle.eeprom.specs.Chip.{Chip}
use Rattle.record_store.specs.Held.{Held}
use Rattle.record_store.specs.declared.side.Side.{Side}
use Rattle.scql_base.specs.Words.{not_found}
use Rattle.scql_base.specs.declared.records.User.{User}
use Rattle.scql_model.specs.Database.{Database, is_named, public_name, user_named}
use Rattle.scql_model.specs.Machine.{session_for}
use Rattle.scql_model.specs.Sessions.{presented}
use Rattle.scql_model.specs.Step.{session_named}
use Rattle.scql_model.proofs.Naming.{user_named-slots}
use Rattle.catalog_codec.specs.Catalog.{user_kind}
use Rattle.record_table.specs.Listed.{in_slots, slots_of}
use Rattle.record_table.specs.Making.{IsHeld}

-- the user of a name among the slots is the database's
pub named-held : (store : Held) (side : Side) (chip : Chip) (db : Database) (name : List ℕ) (found : Option User) → IsHeld store side chip db
    → IfSome (slots_of store side chip) (λ slots. found ≡ find (is_named name) (in_slots user_kind slots)) → user_named db.users name ≡ found
named-held store side chip db name found held first =
    let here : found ≡ find (is_named name) (in_slots user_kind held.slots) = subst (λ o. IfSome o (λ slots. found ≡ find (is_named name) (in_slots user_kind slots))) held.told first in
    user_named-slots held.slots db name held.holds held.valid ∙ sym here

pub session-found : (db : Database) (name : List ℕ) (u : User) → bytes_eq name public_name ≡ false → user_named db.users name ≡ Some u → session_named db name ≡ Ok (session_for (Some (presented u)))
session-found db name u other found = rw (other, found) refl

pub session-none : (db : Database) (name : List ℕ) → bytes_eq name public_name ≡ false → user_named db.users name ≡ None → session_named db name ≡ Err not_found
session-none db name other none = rw (other, none) refl
