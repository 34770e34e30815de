-- Worked rows of the bound on octets written: the definition computes each.
use Rattle.std.proofs.Common.{◌≡◌, ℕ, ◌+◌, ◌*◌, List, [], ◌∷◌, map, refl}
use Rattle.std.specs.Prelude.{codes}
use Rattle.scql_base.specs.Strings.{params_of, pieces_of}
use Rattle.scql_model.specs.Rights.{holds, appears}
use Rattle.scql_model.specs.Objects.{depth_of}
use Rattle.scql_model.specs.Contents.{contents_of}
use Rattle.scql_model.specs.Moves.{move_of}
use Rattle.scql_model.specs.Defining.{object_created, view_created, table_dropped, view_dropped}
use Rattle.scql_model.specs.Granting.{privileges_granted, privileges_revoked}
use Rattle.scql_model.specs.Writing.{row_inserted, row_updated, row_deleted}
use Rattle.scql_model.specs.Users.{user_deleted}
use Rattle.scql_model.specs.Changing.{edits_of}
use Rattle.scql_model.specs.Machine.{Machine}
use Rattle.scql_model.specs.Form.{form_of}
use Rattle.scql_model.specs.Bound.{octets_bound}
use Rattle.scql_model.proofs.WorkedMachine.{hexadecimal, opened, after, card, owner_card, with_table, with_row, with_bob}

-- for one command on a machine, in hexadecimal digits
unfoldable bound_on : Machine → List ℕ → ℕ
unfolding octets_bound form_of params_of pieces_of edits_of move_of holds appears contents_of depth_of object_created view_created table_dropped view_dropped privileges_granted privileges_revoked row_inserted row_updated row_deleted user_deleted
bound_on m digits = octets_bound m (hexadecimal digits)

-- BEGIN, and a row
abbrev in_transaction : Machine
in_transaction = after with_table (hexadecimal (codes "00120080") ∷ [])

abbrev with_row_within : Machine
with_row_within = after in_transaction (hexadecimal (codes "0010008C050154017900") ∷ [])

-- BOB is presented, whose secret is 1234
abbrev bob_presented : Machine
bob_presented = after with_bob (hexadecimal (codes "001400800403424F42") ∷ [])

-- a machine, a command, and how many octets are written for it at most
record Case : Type 0 where
  on : Machine
  command : List ℕ
  bound : ℕ

abbrev case : Machine → List ℕ → ℕ → Case
case on command bound = record { on = on; command = command; bound = bound }

abbrev AreBounds : List Case → Type 0
AreBounds cases = map (λ (c : Case). bound_on c.on c.command) cases ≡ map (λ (c : Case). c.bound) cases

bounds : AreBounds (
    -- a user takes a cell and the counter one; two records are committed
    case owner_card (codes "001400810703414E4E010300") (32 * 2 + (4 + 6 * 2))
    -- nobody makes users
    ∷ case card (codes "001400810703414E4E010300") 0
    -- and a user with a secret has a longer record, which takes a cell too
    ∷ case owner_card (codes "001400810B03424F4201030431323334") (32 * 2 + (4 + 6 * 2))
    -- nothing is written where a user is presented, and where one reads
    ∷ case card (codes "0014008006054F574E4552") 0
    ∷ case with_row (codes "001000870401540100") 0
    -- a row is added and the counter changed; a table is removed with its row
    ∷ case with_table (codes "0010008C050154017900") (32 * 2 + (4 + 6 * 2))
    ∷ case with_row (codes "00100083020154") (4 + 6 * 2)
    -- within a transaction the records alone are written, and what it touched is committed at its end
    ∷ case with_table (codes "00120080") 0
    ∷ case in_transaction (codes "0010008C050154017900") (32 * 2)
    ∷ case with_row_within (codes "00120081") (4 + 6 * 2)
    ∷ case with_row_within (codes "00120082") 0
    -- a part of a command is kept in memory
    ∷ case with_table (codes "1010008C0101") 0
    -- a wrong secret costs one commit of the user's record, the right one two, and none is compared where no user is presented
    ∷ case bob_presented (codes "002000000430303030") (1 * (32 + (4 + 6 * 1)))
    ∷ case bob_presented (codes "002000000431323334") (2 * (32 + (4 + 6 * 1)))
    ∷ case with_bob (codes "002000000431323334") 0
    ∷ []
    )
unfolding bound_on opened hexadecimal
bounds = refl
