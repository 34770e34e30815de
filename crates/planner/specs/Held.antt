-- On which channel a terminal goes on, and which channel has the open transaction, as it is told from statements and how they closed, or from
-- octets and how they were answered.
use Rattle.std.specs.Prelude.{◌≡◌, ℕ, ◌%◌, ◌==◌, ◌&&◌, ◌||◌, Bool, List, ◌∷◌, Option, Some, None, option_map, if◌then◌else◌}
use Rattle.scql_base.specs.declared.operation.Operation.{Operation}
use Rattle.scql_base.specs.declared.operation.Operation.TheVariants.{Begin, Commit, Rollback}
use Rattle.scql_base.specs.declared.words.StatusWord.{StatusWord}
use Rattle.scql_model.specs.Machine.{Machine, Transaction}
use Rattle.script.specs.declared.statement.Statement.{Statement}
use Rattle.script.specs.declared.statement.Statement.TheVariants.{Single, UseNumber, Reset}
use Rattle.planner.specs.declared.closing.Closing.{Closing}
use Rattle.planner.specs.declared.closing.Closing.TheVariants.{Fine}
use Rattle.planner.specs.Meaning.{Meaning}
use Rattle.planner.specs.Words.{is_done}

-- the channel on which a terminal goes on after a statement
abbrev pub channel_after : Statement → ℕ → ℕ
channel_after (UseNumber number) channel = number
channel_after Reset channel = 0
channel_after statement channel = channel

-- the channel that has a machine's open transaction
abbrev pub transaction_channel : Machine → Option ℕ
transaction_channel m = option_map (λ (t : Transaction). t.channel) m.transaction

-- BEGIN gives a channel the open transaction, and COMMIT and ROLLBACK end it, where they are done
abbrev pub held_by : Operation → ℕ → Option ℕ → Option ℕ
held_by Begin channel held = Some channel
held_by Commit channel held = None
held_by Rollback channel held = None
held_by operation channel held = held

-- the channel that has the open transaction where the statement was done
abbrev pub held_after : Statement → ℕ → Option ℕ → Option ℕ
held_after (Single operation) channel held = held_by operation channel held
held_after Reset channel held = None
held_after statement channel held = held

abbrev pub held_when : Closing → Option ℕ → Option ℕ → Option ℕ
held_when Fine then' held = then'
held_when closing then' held = held

-- how a statement with this meaning closed tells which channel has the open transaction after it
abbrev pub TellsWhoHolds : Machine → ℕ → Statement → Meaning → Type 0
TellsWhoHolds m channel s x = transaction_channel x.machine ≡ held_when x.closing (held_after s channel (transaction_channel m)) (transaction_channel m)

-- It is told from a command's octets too: 12 00 80 is BEGIN, 12 00 81 is COMMIT and 12 00 82 is ROLLBACK, on the channel of the class.
abbrev pub is_begin : ℕ → ℕ → ℕ → Bool
is_begin ins p1 p2 = ins == 0x12 && p1 == 0x00 && p2 == 0x80

abbrev pub is_ending : ℕ → ℕ → ℕ → Bool
is_ending ins p1 p2 = ins == 0x12 && p1 == 0x00 && (p2 == 0x81 || p2 == 0x82)

-- the channel that has the open transaction where the octets are a command that was done
abbrev pub held_by_octets : List ℕ → Option ℕ → Option ℕ
held_by_octets (cla ∷ ins ∷ p1 ∷ p2 ∷ after) held = if is_begin ins p1 p2 then Some (cla % 4) else if is_ending ins p1 p2 then None else held
held_by_octets octets held = held

-- and after octets that were answered with this word
abbrev pub held_after_octets : List ℕ → StatusWord → Option ℕ → Option ℕ
held_after_octets octets word held = if is_done word then held_by_octets octets held else held
