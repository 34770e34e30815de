-- Grants on an object: those to one user, and those that give a user its privileges.
use Rattle.std.specs.Prelude.{◌≡◌, ◌^◌, ℕ, ◌+◌, ◌==◌, ◌&&◌, ◌||◌, Bool, List, Option, Some}
use Rattle.std.specs.List.{list_any}
use Rattle.std.specs.Option.{option_map_or}
use Rattle.eeprom.specs.StoreOf.{Slots}
use Rattle.record_store.specs.Tags.{pair_tag}
use Rattle.record_store.specs.declared.tags.Tag.TheVariants.{Name}
use Rattle.scql_base.specs.declared.records.Grant.{Grant}
use Rattle.scql_base.specs.declared.records.Object.{Object}
use Rattle.scql_base.specs.declared.words.Actor.{Actor}
use Rattle.scql_model.specs.Creating.{actor_stamp}
use Rattle.scql_model.specs.Rights.{has_bit}
use Rattle.catalog_codec.specs.Catalog.{grant_kind}
use Rattle.record_table.specs.Tagged.{cells_tagged}

-- a grant on the object of a stamp, to the user of a stamp, or to PUBLIC where that is 0
abbrev pub is_pair : ℕ → ℕ → Grant → Bool
is_pair object grantee g = g.object == object && g.grantee == grantee

-- a grant gives a user a privilege on an object: it is on that object, to the user or to PUBLIC, and has the bit
abbrev pub gives_bit : ℕ → ℕ → ℕ → Grant → Bool
gives_bit object grantee bit g = g.object == object && (g.grantee == 0 || g.grantee == grantee) && has_bit bit g.privileges

-- a grant to one user, or to PUBLIC where that is 0, has the bit
abbrev pub has_pair_bit : ℕ → ℕ → ℕ → Grant → Bool
has_pair_bit object grantee bit g = is_pair object grantee g && has_bit bit g.privileges

-- these are the bits that grants to one user have
abbrev pub AreGranted : ℕ → ℕ → List Grant → ℕ → Type 0
AreGranted object grantee grants bits = (i : ℕ) → has_bit (2 ^ i) bits ≡ list_any (has_pair_bit object grantee (2 ^ i)) grants

-- these are the bits that a user holds on an object: each that some grant gives, and no others
abbrev pub AreHeld : ℕ → ℕ → List Grant → ℕ → Type 0
AreHeld object grantee grants bits = (i : ℕ) → has_bit (2 ^ i) bits ≡ list_any (gives_bit object grantee (2 ^ i)) grants

-- how many cells the records have that are marked as grants and have the tag of an object and a user, or of it and PUBLIC
abbrev pub cells_granted : ℕ → ℕ → Slots → ℕ
cells_granted object grantee slots = cells_tagged grant_kind (Some (Name (pair_tag object 0))) slots + cells_tagged grant_kind (Some (Name (pair_tag object grantee))) slots

-- and so for one who acts, on an object where there is one
abbrev pub cells_granted_on : Actor → Option Object → Slots → ℕ
cells_granted_on actor o slots = option_map_or (λ (o : Object). cells_granted o.stamp (actor_stamp actor) slots) o 0
