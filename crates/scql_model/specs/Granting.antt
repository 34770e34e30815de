-- Commands that give and take privileges (ISO/IEC 7816-7, GRANT, REVOKE): for each the edits that it makes, or the first refusal that applies.
use Rattle.std.specs.Prelude.{ℕ, ◌-◌, ◌==◌, ◌&&◌, Bool, List, [], ◌∷◌, Option, Some, None, option_map, bit_or, bit_and, Result, Ok, if◌then◌else◌}
use Rattle.std.specs.List.{find}
use Rattle.std.specs.Str.{bytes_eq}
use Rattle.scql_base.specs.declared.words.Actor.{Actor}
use Rattle.scql_base.specs.declared.words.StatusWord.{StatusWord}
use Rattle.scql_base.specs.declared.records.User.{User}
use Rattle.scql_base.specs.declared.records.Object.{Object}
use Rattle.scql_base.specs.declared.records.Grant.{Grant}
use Rattle.scql_base.specs.Words.{not_found}
use Rattle.scql_model.specs.Database.{Database, public_name, user_named}
use Rattle.scql_model.specs.Rights.{seen_named}
use Rattle.scql_model.specs.Refusals.{◌>>=◌, or_refused}
use Rattle.scql_model.specs.Edits.{Edit, of_grant, making, changing, removing}
use Rattle.scql_model.specs.Defining.{owned_by}

-- the grantee of a name: a user, by its stamp, or PUBLIC, which is 0
abbrev pub grantee_named : Database → List ℕ → Option ℕ
grantee_named db name = if bytes_eq name public_name then Some 0 else option_map (λ (u : User). u.stamp) (user_named db.users name)

-- the grant of an object to a grantee
abbrev pub is_granted_to : Object → ℕ → Grant → Bool
is_granted_to o grantee g = g.object == o.stamp && g.grantee == grantee

abbrev pub grant_to : Database → Object → ℕ → Option Grant
grant_to db o grantee = find (is_granted_to o grantee) db.grants

-- the privileges are added to those of the grantee's grant, or are a new grant
abbrev pub more_granted : Database → Object → ℕ → ℕ → Option Grant → List Edit
more_granted db o grantee privileges (Some g) = changing (of_grant (record g { privileges = bit_or g.privileges privileges })) ∷ []
more_granted db o grantee privileges None =
    making db (of_grant (record { stamp = db.next; object = o.stamp; grantee = grantee; privileges = privileges }))

-- GRANT
unfoldable pub privileges_granted : Database → Actor → ℕ → List ℕ → List ℕ → Result (List Edit) StatusWord
privileges_granted db actor privileges name grantee_name = do
  o ← owned_by actor (seen_named db actor name)
  grantee ← or_refused (grantee_named db grantee_name) not_found
  Ok (more_granted db o grantee privileges (grant_to db o grantee))

-- the privileges that are left of a grant; without any the grant goes
abbrev pub privileges_left : ℕ → ℕ → ℕ
privileges_left held taken = held - bit_and held taken

abbrev pub less_granted : Grant → ℕ → List Edit
less_granted g privileges =
    if privileges_left g.privileges privileges == 0 then removing (of_grant g) ∷ []
    else changing (of_grant (record g { privileges = privileges_left g.privileges privileges })) ∷ []

-- REVOKE
unfoldable pub privileges_revoked : Database → Actor → ℕ → List ℕ → List ℕ → Result (List Edit) StatusWord
privileges_revoked db actor privileges name grantee_name = do
  o ← owned_by actor (seen_named db actor name)
  grantee ← or_refused (grantee_named db grantee_name) not_found
  g ← or_refused (grant_to db o grantee) not_found
  Ok (less_granted g privileges)
