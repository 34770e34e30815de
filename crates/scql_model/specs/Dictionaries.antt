-- Dictionaries: objects, users and grants as rows (ISO/IEC 7816-7, system tables).
use Rattle.std.specs.Prelude.{ℕ, ◌==◌, ◌||◌, Bool, List, [], ◌∷◌, map, filter, if◌then◌else◌}
use Rattle.std.specs.List.{join_with_byte}
use Rattle.std.specs.Option.{option_map_or}
use Rattle.scql_base.specs.declared.words.Subject.{Subject}
use Rattle.scql_base.specs.declared.words.Subject.TheVariants.{Objects, Users, Grants}
use Rattle.scql_base.specs.declared.records.User.{User}
use Rattle.scql_base.specs.declared.records.Object.{Object}
use Rattle.scql_base.specs.declared.records.ObjectKind.{ObjectKind}
use Rattle.scql_base.specs.declared.records.ObjectKind.TheVariants.{Table, View, Dictionary}
use Rattle.scql_base.specs.declared.records.Grant.{Grant}
use Rattle.scql_model.specs.Records.{profile_code, subject_code}
use Rattle.scql_model.specs.Database.{Database, owner, public_name, user_stamped, object_stamped}
use Rattle.scql_model.specs.Objects.{StampedRow, columns_of}

-- a dictionary tells of what its own owner owns; one that OWNER owns tells of all
abbrev pub tells_of : ℕ → ℕ → Bool
tells_of dictionary_owner record_owner = dictionary_owner == owner.stamp || record_owner == dictionary_owner

abbrev pub user_name : Database → ℕ → List ℕ
user_name db stamp = option_map_or (λ (u : User). u.name) (user_stamped db.users stamp) []

abbrev pub object_name : Database → ℕ → List ℕ
object_name db stamp = option_map_or (λ (o : Object). o.name) (object_stamped db.objects stamp) []

abbrev pub object_owner : Database → ℕ → ℕ
object_owner db stamp = option_map_or (λ (o : Object). o.owner) (object_stamped db.objects stamp) 0

-- KIND is T, V or D
abbrev pub kind_letter : ObjectKind → ℕ
kind_letter (Table columns) = 0x54
kind_letter (View base columns conditions) = 0x56
kind_letter (Dictionary subject) = 0x44

-- BASE is a view's base or a dictionary's letter
abbrev pub base_told : Database → ObjectKind → List ℕ
base_told db (Table columns) = []
base_told db (View base columns conditions) = object_name db base
base_told db (Dictionary subject) = subject_code subject ∷ []

-- COLS is an object's columns, with a comma between each two
abbrev pub columns_told : ObjectKind → List ℕ
columns_told kind = join_with_byte 0x2C (columns_of kind)

-- GRANTEE is a user, or PUBLIC
abbrev pub grantee_name : Database → ℕ → List ℕ
grantee_name db stamp = if stamp == 0 then public_name else user_name db stamp

-- NAME, KIND, OWNER, BASE, COLS
abbrev pub object_told : Database → Object → StampedRow
object_told db o = record { stamp = o.stamp; values = o.name ∷ (kind_letter o.kind ∷ []) ∷ user_name db o.owner ∷ base_told db o.kind ∷ columns_told o.kind ∷ [] }

-- NAME, PROFILE, OWNER
abbrev pub user_told : Database → User → StampedRow
user_told db u = record { stamp = u.stamp; values = u.name ∷ (profile_code u.profile ∷ []) ∷ user_name db u.owner ∷ [] }

-- OBJECT, GRANTEE, PRIV
abbrev pub grant_told : Database → Grant → StampedRow
grant_told db g = record { stamp = g.stamp; values = object_name db g.object ∷ grantee_name db g.grantee ∷ (g.privileges ∷ []) ∷ [] }

-- the rows of a dictionary of this owner; a grant's owner is that of its object
abbrev pub rows_told : Database → ℕ → Subject → List StampedRow
rows_told db dictionary_owner Objects = map (object_told db) (filter (λ (o : Object). tells_of dictionary_owner o.owner) db.objects)
rows_told db dictionary_owner Users = map (user_told db) (filter (λ (u : User). tells_of dictionary_owner u.owner) db.users)
rows_told db dictionary_owner Grants = map (grant_told db) (filter (λ (g : Grant). tells_of dictionary_owner (object_owner db g.object)) db.grants)
