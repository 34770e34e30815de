-- What a card keeps in memory, and at which machine it is together with its EEPROM.
use Rattle.std.specs.Prelude.{◌≡◌, ℕ, Bool, List, Option, Some, is_some, option_map, option_and_then, IsTrue, IfSome}
use Rattle.eeprom.specs.Chip.{Chip}
use Rattle.eeprom.specs.StoreOf.{Slots}
use Rattle.record_store.specs.Held.{Held, contents, IsOver}
use Rattle.record_store.specs.declared.side.Side.{Side}
use Rattle.record_store.specs.declared.side.Side.TheVariants.{Committed, Working}
use Rattle.scql_model.specs.Database.{Database, owner}
use Rattle.scql_model.specs.Records.{counter_record, user_record}
use Rattle.record_store.specs.FreshImage.{fresh_image}
use Rattle.record_table.specs.Listed.{slots_of}
use Rattle.record_table.specs.Making.{IsHeld}
use Rattle.record_table.specs.Touching.{IsTouched}
use Rattle.row_index.specs.Index.{Index, Indexes}
use Rattle.db_read.specs.Scan.{IsRightFor}
use Rattle.scql_model.specs.Machine.{Machine, Session, Transaction}
use Rattle.scql_model.specs.ValidMachine.{IsValidMachine}
use Rattle.scql_model.specs.Opens.{Holds}
use Rattle.card.specs.Acting.{acting}
use Rattle.card.specs.Sessions.{cursor_on, proved_user, session_on}
use Rattle.card.specs.Waiting.{side_of}
use Rattle.card.specs.declared.found.Found.{Found}
use Rattle.card.specs.declared.found.ChannelActor.{ChannelActor}

-- its store, the index of its rows, a session or none for each channel, the channel of the open transaction, if there is one, what was found for the reading
-- command that came last, and whether it answers
pub record Kept : Type 0 where
  pub store : Held
  pub index : Index
  pub sessions : List (Option Session)
  pub transaction : Option ℕ
  pub found : Found
  pub live : Bool

-- the committed records, where the image is told
unfoldable pub committed_slots : Held → Option (List ℕ) → Option Slots
committed_slots store image = option_and_then (contents store Committed) image

-- where the image is told, a side of the store holds some database
abbrev pub HoldsSome : Held → Side → Chip → Type 0
HoldsSome store side chip = IfSome chip.image (λ image. (db : Database) × IsHeld store side chip db)

-- The card answers, its store is over the EEPROM and holds a database on each side, the index stands for the rows of both, and a transaction is begun where
-- a channel has one.
pub record StandsOver (card : Kept) (chip : Chip) : Type 0 where
  pub live : IsTrue card.live
  pub begun : card.store.begun ≡ is_some card.transaction
  pub over : IsOver card.store chip
  pub holds : HoldsSome card.store Committed chip
  pub works : HoldsSome card.store Working chip
  pub index_begun : card.index.begun ≡ is_some card.transaction
  pub index : Indexes card.index card.store chip

-- What was found for a channel is what its next reading command would find in what the channel reads: who acts on it, and what its cursor goes over.
pub record IsStillFound (card : Kept) (chip : Chip) (last : ChannelActor) : Type 0 where
  pub actor : (db : Database) → IsHeld card.store (side_of card.transaction last.channel) chip db → last.actor ≡ acting db (proved_user (session_on card.sessions last.channel))
  pub scan : (db : Database) → IsHeld card.store (side_of card.transaction last.channel) chip db → IsRightFor db last.actor card.found.scan (cursor_on card.sessions last.channel)

-- what it keeps of the reading command that came last, if anything, is what it would find again
abbrev pub FindsAgain : Kept → Chip → Type 0
FindsAgain card chip = IfSome card.found.last (IsStillFound card chip)

-- The card may be asked: it stands over the EEPROM, and what it keeps it would find again.
pub record IsReady (card : Kept) (chip : Chip) : Type 0 where
  pub stands : StandsOver card chip
  pub found : FindsAgain card chip

-- The working records are those of a transaction's database, and those that it touched stand in all slots that it changed.
pub record WorksOn (store : Held) (chip : Chip) (committed : Slots) (t : Transaction) : Type 0 where
  pub slots : Slots
  pub told : slots_of store Working chip ≡ Some slots
  pub limit : t.working.limit ≡ store.row_limit
  pub holds : Holds slots t.working
  pub touched : IsTouched t.touched committed slots store

-- Card and EEPROM hold this machine: the image is told, its committed records are those of the machine's database, the working ones are those of its transaction,
-- where one is open, and that is the channel's that the card has it for; and the sessions are the machine's.
pub record HoldsMachine (card : Kept) (chip : Chip) (m : Machine) : Type 0 where
  pub slots : Slots
  pub committed : committed_slots card.store chip.image ≡ Some slots
  pub limit : m.committed.limit ≡ card.store.row_limit
  pub holds : Holds slots m.committed
  pub transaction : option_map (λ (t : Transaction). t.channel) m.transaction ≡ card.transaction
  pub works : IfSome m.transaction (WorksOn card.store chip slots)
  pub sessions : m.sessions ≡ card.sessions

-- Card and EEPROM are at this machine: they hold it, and it is valid.
pub record IsAt (card : Kept) (chip : Chip) (m : Machine) : Type 0 where
  pub held : HoldsMachine card chip m
  pub valid : IsValidMachine m

-- the octets of a new card
abbrev pub fresh_card : ℕ → List ℕ
fresh_card n = fresh_image n (counter_record.spell 2) (user_record.spell owner)
