-- A machine after a reading command.
use Rattle.std.proofs.Common.{◌≡◌, ◌==◌, ℕ, Bool, true, false, List, [], Option, Some, None, Result, Ok, Err, is_some, if◌then◌else◌, refl, ap, subst, sym, ◌∙◌}
use Rattle.scql_base.specs.declared.words.Actor.{Actor}
use Rattle.scql_base.specs.declared.words.StatusWord.{StatusWord}
use Rattle.scql_model.specs.Database.{Database}
use Rattle.scql_model.specs.Machine.{Machine, Reading, Session, Transaction, actor, base}
use Rattle.scql_model.specs.Moves.{move_of, moved}
use Rattle.scql_model.specs.ReadingCommands.{Move, ReadingCommand, or_stays}
use Rattle.scql_model.specs.Replies.{Reply, said}
use Rattle.scql_model.specs.Sessions.{changing_session, reading_of, reading_so}
use Rattle.scql_model.specs.Step.{reading_done}
use Rattle.scql_model.specs.Touched.{without_touched}
use Rattle.scql_model.specs.Transactions.{own_transaction}
use Rattle.plain_machine.specs.Answers.{left_by_answer, machine_seen}
use Rattle.plain_machine.specs.Sessions.{reading_on}

module _ (m new : Machine) (channel : ℕ) (command : ReadingCommand) (changes : new ≡ without_touched (changing_session (reading_so (reading_of new channel)) m channel)) where
  -- what is left after a move
  abbrev left_by : Move Reading → Move Machine
  left_by move = record { reply = move.reply; after = without_touched (changing_session (reading_so move.after) m channel) }

  left-so : (outcome : Result (Move Reading) StatusWord) → outcome ≡ moved (base m channel) (actor m channel) (reading_of m channel) command
      → left_by (or_stays (reading_of m channel) outcome) ≡ left_by_answer (reading_done m channel command)
  unfolding move_of
  left-so outcome is = ap (λ (outcome : Result (Move Reading) StatusWord). left_by (or_stays (reading_of m channel) outcome)) is

  -- a refusal leaves all as it was,
  pub read-refused : (word : StatusWord) (reply : Reply) → Err word ≡ moved (base m channel) (actor m channel) (reading_of m channel) command → new ≡ m → reply ≡ said word
      → (let move : Move Machine = record { reply = reply; after = new } in move ≡ left_by_answer (reading_done m channel command))
  read-refused word reply is same says =
      let stays : new ≡ without_touched (changing_session (reading_so (reading_of m channel)) m channel) = changes ∙ ap (λ (seen : Machine). without_touched (changing_session (reading_so (reading_of seen channel)) m channel)) same in
      let move : Move Machine = record { reply = reply; after = new } in
      let left : move ≡ left_by (or_stays (reading_of m channel) (Err word)) = cc in
      left ∙ left-so (Err word) is

  -- and a move changes what the channel reads.
  pub read-moved : (reply : Reply) → (let move : Move Reading = record { reply = reply; after = reading_of new channel } in Ok move ≡ moved (base m channel) (actor m channel) (reading_of m channel) command)
      → (let move : Move Machine = record { reply = reply; after = new } in move ≡ left_by_answer (reading_done m channel command))
  read-moved reply is =
      ap (λ (after : Machine). let move : Move Machine = record { reply = reply; after = after } in move) changes
      ∙ left-so (Ok (record { reply = reply; after = reading_of new channel })) is

-- A channel without the transaction reads and changes what is committed.
base-committed : (committed working : Database) (transaction : Option ℕ) (sessions : List (Option Session)) (channel : ℕ) (m : Machine)
    → machine_seen committed working transaction sessions ≡ m → is_some (own_transaction m.transaction channel) ≡ false → base m channel ≡ committed
base-committed committed working transaction sessions channel m is other =
    subst (λ (m : Machine). is_some (own_transaction m.transaction channel) ≡ false → base m channel ≡ committed) is (go transaction) other
  where
    go : (transaction : Option ℕ) → is_some (own_transaction (machine_seen committed working transaction sessions).transaction channel) ≡ false → base (machine_seen committed working transaction sessions) channel ≡ committed
    go None is = refl
    go (Some own) is = either (own == channel) is
      where
        seen : Transaction
        seen = record { channel = own; working = working; touched = [] }

        either : (b : Bool) → is_some (if b then Some seen else None) ≡ false → (if b then working else committed) ≡ committed
        either true is = absurd cc
        either false is = refl

pub moved-committed : (committed working : Database) (transaction : Option ℕ) (sessions : List (Option Session)) (channel : ℕ) (m : Machine) (acting : Actor) (command : ReadingCommand) (outcome : Result (Move Reading) StatusWord)
    → machine_seen committed working transaction sessions ≡ m → is_some (own_transaction m.transaction channel) ≡ false → acting ≡ actor m channel
    → outcome ≡ moved committed acting (reading_on sessions channel) command → outcome ≡ moved (base m channel) (actor m channel) (reading_of m channel) command
moved-committed committed working transaction sessions channel m acting command outcome is other acts moves =
    moves
    ∙ (ap (λ (db : Database). moved db acting (reading_on sessions channel) command) (sym (base-committed committed working transaction sessions channel m is other))
    ∙ (ap (λ (acting : Actor). moved (base m channel) acting (reading_on sessions channel) command) acts
    ∙ ap (λ (seen : Machine). moved (base m channel) (actor m channel) (reading_of seen channel) command) is))
