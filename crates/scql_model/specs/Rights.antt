-- Who may do what: owners of objects, the privileges that grants give, and which objects appear to whom.
use Rattle.std.specs.Prelude.{ℕ, ◌/◌, ◌%◌, ◌==◌, ◌&&◌, ◌||◌, Bool, List, [], ◌∷◌, Option}
use Rattle.std.specs.List.{find, list_any}
use Rattle.std.specs.Str.{bytes_eq}
use Rattle.scql_base.specs.declared.words.Actor.{Actor}
use Rattle.scql_base.specs.declared.privileges.TheConstants.Privileges.{SELECT, INSERT, UPDATE, DELETE}
use Rattle.scql_base.specs.declared.records.Object.{Object}
use Rattle.scql_base.specs.declared.records.Grant.{Grant}
use Rattle.scql_model.specs.Database.{Database}
use Rattle.scql_model.specs.Creating.{actor_stamp, is_owned_by}

-- the bits of the four privileges
abbrev pub select_privilege : ℕ
select_privilege = SELECT

abbrev pub insert_privilege : ℕ
insert_privilege = INSERT

abbrev pub update_privilege : ℕ
update_privilege = UPDATE

abbrev pub delete_privilege : ℕ
delete_privilege = DELETE

abbrev pub all_privileges : List ℕ
all_privileges = select_privilege ∷ insert_privilege ∷ update_privilege ∷ delete_privilege ∷ []

-- whether a bit is set among bits
abbrev pub has_bit : ℕ → ℕ → Bool
has_bit bit bits = bits / bit % 2 == 1

-- an object's owner is the user who made it
abbrev pub owns : Actor → Object → Bool
owns actor o = is_owned_by actor o.owner

-- a grant gives the actor a privilege on an object: it is on that object, to the actor or to PUBLIC, and has the bit
abbrev pub gives : Actor → Object → ℕ → Grant → Bool
gives actor o bit g = g.object == o.stamp && (g.grantee == 0 || g.grantee == actor_stamp actor) && has_bit bit g.privileges

-- an actor holds a privilege on an object that it owns, or on which a grant gives it
unfoldable pub holds : Database → Actor → Object → ℕ → Bool
holds db actor o bit = owns actor o || list_any (gives actor o bit) db.grants

-- an object appears to an actor who owns it, or holds some privilege on it
unfoldable pub appears : Database → Actor → Object → Bool
appears db actor o = owns actor o || list_any (holds db actor o) all_privileges

-- the object of a name, and of a stamp, where it appears to the actor
abbrev pub seen_named : Database → Actor → List ℕ → Option Object
seen_named db actor name = find (λ (o : Object). bytes_eq name o.name && appears db actor o) db.objects

abbrev pub seen_stamped : Database → Actor → ℕ → Option Object
seen_stamped db actor stamp = find (λ (o : Object). o.stamp == stamp && appears db actor o) db.objects
