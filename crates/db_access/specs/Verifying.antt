-- VERIFY over a database.
use Rattle.std.specs.Prelude.{◌≡◌, ℕ, ◌-◌, false, List, [], ◌∷◌, Some, Result, Err, IfOk, IfSome, OnOk, drop}
use Rattle.eeprom.specs.Chip.{Chip, Becomes, Keeps, RisesAtMost}
use Rattle.eeprom.specs.Fault.{Counts}
use Rattle.eeprom.specs.StoreOf.{image_size}
use Rattle.record_store.specs.Held.{Held}
use Rattle.record_store.specs.declared.side.Side.{Side}
use Rattle.scql_base.specs.Words.{done}
use Rattle.scql_base.specs.declared.records.User.{User}
use Rattle.scql_base.specs.declared.words.StatusWord.{StatusWord}
use Rattle.scql_model.specs.Bound.{octets_verified, or_nothing}
use Rattle.scql_model.specs.Database.{Database, user_stamped}
use Rattle.scql_model.specs.Machine.{Machine, session_for, start}
use Rattle.scql_model.specs.Sessions.{with_session}
use Rattle.scql_model.specs.Step.{Answer, answered, verified, with_tries}
use Rattle.scql_model.specs.ValidMachine.{HasSecret}
use Rattle.record_table.specs.AtRest.{IsAtRest, LeavesOnce, LeavesOneOf}
use Rattle.record_table.specs.Listed.{slots_of}
use Rattle.record_table.specs.Making.{GoesOn, KeepsRows}
use Rattle.record_table.specs.declared.stop.Stop.{Stop}
use Rattle.record_table.specs.declared.stop.Stop.TheVariants.{Refused}

-- the store holds the database, and the user of this stamp, if there is one, has a secret: one without is never asked for it
pub record HoldsSecret (store : Held) (chip : Chip) (db : Database) (user : ℕ) : Type 0 where
  pub rest : IsAtRest store chip db
  pub secret : IfSome (user_stamped db.users user) HasSecret

-- the machine with this database, where the user of a stamp is presented on channel 0, and isn't proved
abbrev pub presenting : Database → ℕ → Machine
presenting db stamp = with_session (start db) 0 (Some (session_for (Some (record { stamp = stamp; proved = false }))))

-- what VERIFY answers there, and what it commits
abbrev pub verdict : Database → ℕ → List ℕ → Answer
verdict db stamp secret = answered (presenting db stamp) (verified (presenting db stamp) 0 secret)

-- how many octets are written for it at most
abbrev pub octets_for_verdict : Database → ℕ → List ℕ → ℕ
octets_for_verdict db stamp secret = or_nothing (octets_verified (presenting db stamp) 0 secret)

-- What comes of a secret where the store held the database: it is answered so, or a device failed.
pub record Verifies {E : Type 0} (db : Database) (answer : Answer) (most : ℕ) (result : Result StatusWord E) (store : Held) (old new : Chip) : Type 0 where
  -- The word is the answer's, and the database that of its machine.
  pub word : IfOk result (λ word. word ≡ answer.reply.word)
  pub rests : OnOk result (IsAtRest store new answer.machine.committed)
  -- A power loss leaves the database from before, or one of those that are committed.
  pub moments : LeavesOneOf (db ∷ answer.commits) old new
  -- What commits nothing writes nothing, and else at most so many octets are written.
  pub unwritten : OnOk result (answer.commits ≡ [] → new ≡ old)
  pub octets : OnOk result (Becomes (RisesAtMost most) old.written new.written)

-- and nothing refused it
pub record VerifiesUnrefused (db : Database) (answer : Answer) (most : ℕ) (result : Result StatusWord Stop) (store : Held) (old new : Chip) : Type 0 where
  pub verifies : Verifies db answer most result store old new
  pub unrefused : (word : StatusWord) → result ≡ Err (Refused word) → ⊥

-- How it ends that a secret is compared with that of the user of a stamp, outside of a transaction.
pub record VerifiesSecret {S E : Type 0} (chip : S → Chip) (faults : S → ℕ) (user : ℕ) (secret : List ℕ) (before after : S) (old new : Held) (result : Result StatusWord E) : Type 0 where
  -- Where the user has one, it is answered as the model does,
  pub verifies : (db : Database) → HoldsSecret old (chip before) db user → Verifies db (verdict db user secret) (octets_for_verdict db user secret) result new (chip before) (chip after)
  -- and where it is done, there was a moment at which a power loss may leave one try less.
  pub lowered : (db : Database) (holder : User) → HoldsSecret old (chip before) db user → user_stamped db.users user ≡ Some holder
      → IfOk result (λ word. word ≡ done → LeavesOnce (with_tries db holder (holder.tries - 1)) (chip before) (chip after))
  -- Whatever the user has, some database is held, the store is idle again, and every row is in its slot still.
  pub holds : (db : Database) → IsAtRest old (chip before) db → OnOk result ((next : Database) × IsAtRest new (chip after) next)
  pub goes_on : OnOk result (GoesOn old new (chip before) (chip after))
  pub rows : (side : Side) → OnOk result (KeepsRows (slots_of old side (chip before)) (slots_of new side (chip after)))
  -- Nothing is written behind the image. A fault of the EEPROM was counted.
  pub behind : Keeps (drop (image_size old.chains.cells)) (chip before) (chip after)
  pub cause : Counts (faults before) (faults after) result
