-- The pair of which GRANT and REVOKE speak.
use Rattle.std.specs.Prelude.{ℕ, List, Result, Ok}
use Rattle.scql_base.specs.declared.records.Object.{Object}
use Rattle.scql_base.specs.declared.words.Actor.{Actor}
use Rattle.scql_base.specs.declared.words.StatusWord.{StatusWord}
use Rattle.scql_base.specs.Words.{not_found}
use Rattle.scql_model.specs.Database.{Database}
use Rattle.scql_model.specs.Defining.{owned_by}
use Rattle.scql_model.specs.Granting.{grantee_named}
use Rattle.scql_model.specs.Refusals.{◌>>=◌, or_refused}
use Rattle.scql_model.specs.Rights.{seen_named}

-- an object that appears to the actor, who owns it, and a user or PUBLIC, or the first refusal
abbrev pub pair_named : Database → Actor → List ℕ → List ℕ → Result (Object × ℕ) StatusWord
pair_named db actor name grantee_name = do
  o ← owned_by actor (seen_named db actor name)
  grantee ← or_refused (grantee_named db grantee_name) not_found
  Ok (o, grantee)
