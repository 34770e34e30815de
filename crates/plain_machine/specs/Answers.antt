-- What comes of a command, but for the records that an open transaction touched.
use Rattle.std.specs.Prelude.{ℕ, [], List, Option, Some, None, option_map, option_and_then, Result, Ok, Err, if◌then◌else◌}
use Rattle.std.specs.Option.{option_map_or}
use Rattle.std.specs.Str.{bytes_eq}
use Rattle.scql_base.specs.Words.{not_found}
use Rattle.scql_base.specs.declared.cursor.PresentedUser.{PresentedUser}
use Rattle.scql_base.specs.declared.operation.Operation.{Operation}
use Rattle.scql_base.specs.declared.records.User.{User}
use Rattle.scql_base.specs.declared.words.StatusWord.{StatusWord}
use Rattle.scql_model.specs.Changing.{change_of}
use Rattle.scql_model.specs.Database.{Database, public_name, user_named, user_stamped}
use Rattle.scql_model.specs.Machine.{Machine, Session, Transaction, actor, base}
use Rattle.scql_model.specs.ReadingCommands.{Move}
use Rattle.scql_model.specs.Refusals.{◌>>=◌}
use Rattle.scql_model.specs.Sessions.{cursor_of, presented, user_of}
use Rattle.scql_model.specs.Step.{Answer}
use Rattle.scql_model.specs.Touched.{without_touched}
use Rattle.scql_model.specs.Transactions.{own_transaction}

-- the machine of these databases, where this channel has the open transaction
abbrev pub machine_seen : Database → Database → Option ℕ → List (Option Session) → Machine
machine_seen committed working channel sessions = record {
  committed = committed;
  transaction = option_map (λ own. let t : Transaction = record { channel = own; working = working; touched = [] } in t) channel;
  sessions = sessions;
}

-- an answer, and the machine after it
abbrev pub left_by_answer : Answer → Move Machine
left_by_answer answer = record { reply = answer.reply; after = without_touched answer.machine }

-- so of an outcome
abbrev pub outcome_left : Result Answer StatusWord → Result (Move Machine) StatusWord
outcome_left (Ok answer) = Ok (left_by_answer answer)
outcome_left (Err word) = Err word

-- the machine with another database: the one that this transaction works on, or where there is none the committed one
abbrev pub with_base : Machine → Option Transaction → Database → Machine
with_base m None db = record m { committed = db }
with_base m (Some t) db = record m { transaction = Some (record t { working = db }) }

-- the machine after a change of what a channel reads and changes, or the refusal
abbrev pub base_changed : Machine → ℕ → Operation → Result Machine StatusWord
base_changed m channel operation =
    change_of (base m channel) (actor m channel) (cursor_of m channel) operation >>= λ (db : Database). Ok (without_touched (with_base m (own_transaction m.transaction channel) db))

-- the user of a name as it is presented, or nobody where the name is PUBLIC
abbrev pub presented_named : Database → List ℕ → Result (Option PresentedUser) StatusWord
presented_named db name =
    if bytes_eq name public_name then Ok None
    else option_map_or (λ (u : User). Ok (Some (presented u))) (user_named db.users name) (Err not_found)

-- the user of a channel, where that one isn't proved
abbrev pub unproved_user : Machine → ℕ → Option User
unproved_user m channel = option_and_then (λ (p : PresentedUser). if p.proved then None else user_stamped m.committed.users p.stamp) (user_of m channel)
