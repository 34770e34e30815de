-- The row of a dictionary that comes next behind a stamp.
use Rattle.std.specs.Prelude.{◌≡◌, ℕ, ◌+◌, ◌*◌, List, [], ◌∷◌, ◌++◌, Bool, Option, option_map}
use Rattle.std.specs.List.{find}
use Rattle.std.specs.Option.{option_map_or}
use Rattle.eeprom.specs.Slots.{is_after}
use Rattle.eeprom.specs.StoreOf.{Slots}
use Rattle.scql_base.specs.declared.words.Subject.{Subject}
use Rattle.scql_base.specs.declared.words.Subject.TheVariants.{Objects, Users, Grants}
use Rattle.scql_base.specs.declared.records.User.{User}
use Rattle.scql_base.specs.declared.records.Object.{Object}
use Rattle.scql_base.specs.declared.records.ObjectKind.{ObjectKind}
use Rattle.scql_base.specs.declared.records.ObjectKind.TheVariants.{Table, View, Dictionary}
use Rattle.scql_base.specs.declared.records.Grant.{Grant}
use Rattle.scql_model.specs.Records.{profile_code, subject_code}
use Rattle.scql_model.specs.Database.{Database}
use Rattle.scql_model.specs.Dictionaries.{columns_told, kind_letter, object_owner, tells_of}
use Rattle.scql_model.specs.Matching.{Values}
use Rattle.scql_model.specs.Objects.{StampedRow}
use Rattle.catalog_codec.specs.Catalog.{user_kind, object_kind, grant_kind}
use Rattle.record_table.specs.Listed.{cells_marked}

abbrev pub row_stamp : StampedRow → ℕ
row_stamp row = row.stamp

-- of these rows the one of the least greater stamp has this stamp and these values, or there is none
abbrev pub IsNext : List StampedRow → ℕ → Option ℕ → Values → Type 0
IsNext rows stamp next values = find (is_after row_stamp stamp) rows ≡ option_map (λ told. record { stamp = told; values = values }) next

-- the octets of a name, where there is one
abbrev pub name_or_none : Option (List ℕ) → List ℕ
name_or_none name = option_map_or (λ octets. octets) name []

-- BASE, where the name of a view's base is this
abbrev pub base_named : ObjectKind → Option (List ℕ) → List ℕ
base_named (Table columns) name = []
base_named (View base columns conditions) name = name_or_none name
base_named (Dictionary subject) name = subject_code subject ∷ []

-- the values of an object, a user and a grant, where what they speak of has these names
abbrev pub object_values : Object → Option (List ℕ) → Option (List ℕ) → Values
object_values o owner base = o.name ∷ (kind_letter o.kind ∷ []) ∷ name_or_none owner ∷ base_named o.kind base ∷ columns_told o.kind ∷ []

abbrev pub user_values : User → Option (List ℕ) → Values
user_values u owner = u.name ∷ (profile_code u.profile ∷ []) ∷ name_or_none owner ∷ []

abbrev pub grant_values : Grant → Option (List ℕ) → List ℕ → Values
grant_values g object grantee = name_or_none object ∷ grantee ∷ (g.privileges ∷ []) ∷ []

-- a text of names with one more, and a comma before it unless it is the first
abbrev pub with_name : List ℕ → List ℕ → List ℕ
with_name [] name = name
with_name (octet ∷ octets) name = (octet ∷ octets) ++ 0x2C ∷ name

-- How many cells are read at the most on a card of n cells: those of the records that are searched, and of the objects and users whose names are told.
-- For each slot that has a grant its object may be read.
abbrev pub most_cells_read : ℕ → Subject → Slots → ℕ
most_cells_read n Objects slots = 2 * cells_marked object_kind slots + cells_marked user_kind slots
most_cells_read n Users slots = 2 * cells_marked user_kind slots
most_cells_read n Grants slots = cells_marked grant_kind slots + (n + 1) * cells_marked object_kind slots + cells_marked user_kind slots

-- a grant of which a dictionary of this owner tells
abbrev pub tells_of_grant : Database → ℕ → Grant → Bool
tells_of_grant db dictionary_owner g = tells_of dictionary_owner (object_owner db g.object)
