-- An operation changes the database, reads, or has an arm of its own.
use Rattle.std.proofs.Common.{◌≡◌, ℕ, Bool, true, false, not, List, refl}
use Rattle.scql_base.specs.declared.operation.Operation.{Operation}
use Rattle.scql_base.specs.declared.operation.Operation.TheVariants as asks
use Rattle.scql_base.specs.declared.operation.OperationKind.{OperationKind}
use Rattle.scql_base.specs.declared.operation.OperationKind.TheVariants.{PresentUser, Verify, Begin, Commit, Rollback, OpenChannel, CloseChannel}
use Rattle.scql_model.specs.Operations.{kind_of}
use Rattle.card.specs.Reading.{is_reading}

-- the operations that change the database: those that don't read, and aren't of sessions, transactions or channels alone
abbrev pub is_changing : OperationKind → Bool
is_changing PresentUser = false
is_changing Verify = false
is_changing Begin = false
is_changing Commit = false
is_changing Rollback = false
is_changing (OpenChannel number) = false
is_changing (CloseChannel number) = false
is_changing kind = not (is_reading kind)

-- an operation that neither reads nor has an arm of its own
pub record IsNoneOfThose (operation : Operation) : Type 0 where
  pub not_reading : is_reading (kind_of operation) ≡ false
  pub not_presents : (name : List ℕ) → operation ≡ asks.PresentUser name → ⊥
  pub not_deletes : (name : List ℕ) → operation ≡ asks.DeleteUser name → ⊥
  pub not_verifies : (secret : List ℕ) → operation ≡ asks.Verify secret → ⊥
  pub not_opens : (number : ℕ) → operation ≡ asks.OpenChannel number → ⊥
  pub not_closes : (number : ℕ) → operation ≡ asks.CloseChannel number → ⊥
  pub not_begins : operation ≡ asks.Begin → ⊥
  pub not_commits : operation ≡ asks.Commit → ⊥
  pub not_rolls_back : operation ≡ asks.Rollback → ⊥

-- it changes the database
pub changes-others : (operation : Operation) → IsNoneOfThose operation → is_changing (kind_of operation) ≡ true
changes-others asks.Begin others = absurd (others.not_begins refl)
changes-others asks.Commit others = absurd (others.not_commits refl)
changes-others asks.Rollback others = absurd (others.not_rolls_back refl)
changes-others (asks.PresentUser name) others = absurd (others.not_presents name refl)
changes-others (asks.DeleteUser name) others = absurd (others.not_deletes name refl)
changes-others (asks.Verify secret) others = absurd (others.not_verifies secret refl)
changes-others (asks.OpenChannel number) others = absurd (others.not_opens number refl)
changes-others (asks.CloseChannel number) others = absurd (others.not_closes number refl)
changes-others operation others = let reads = others.not_reading in cc
