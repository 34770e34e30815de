-- What a handle of C's holds, and what it tells.
use Rattle.std.specs.Prelude.{◌≡◌, ◌<◌, MatchOption, ℕ, List, ◌++◌, length, take, Option, Some}
use Rattle.std.proofs.Common.{refl}
use Rattle.std.specs.Coded.{Coded, code_by, coded×, coded_option}
use Rattle.card.specs.contracts.card.Card as card
use Rattle.line_bench.specs.contracts.line_bench.LineBench as bench
use Rattle.terminal.specs.contracts.terminal.Terminal as terminal
use Rattle.card.specs.Card.{Kept}
use Rattle.card.specs.LiveCard.{IsReadyAt}
use Rattle.line_bench.specs.LineBench.{chip_of, faults_of, image_of, text_faults_of, writes_of}
use Rattle.line_bench.specs.declared.line_bench.LineBench.{LineBench}
use Rattle.log_bench.specs.Writes.{Write, MayBeCutTo, applied}
use Rattle.eeprom.specs.Fault.{Rose}
use Rattle.eeprom.specs.StoreOf.{two_octets}
use Rattle.planner.specs.StatementLines.{TerminalState}
use Rattle.scql_model.specs.Database.{Database}
use Rattle.scql_model.specs.Machine.{Machine}
use Rattle.scql_model.specs.Opens.{Opens, OpensToOneOf}
use Rattle.scql_model.specs.Replies.{Reply}
use Rattle.terminal.specs.Holding.{Holding, Sits}

-- a card and its EEPROM, and what a terminal holds, if there is one
pub record HeldCard : Type 0 where
  pub card : Kept
  pub bench : LineBench
  pub terminal : Option Holding

-- by which proofs tell them apart
abbrev pub held_code : Coded HeldCard
held_code =
    code_by (Kept × (LineBench × Option Holding)) (coded× card.the_row.coded (coded× bench.the_row.coded (coded_option terminal.the_row.coded))) (λ h. (h.card, (h.bench, h.terminal)))
    (λ p. record { card = p.0; bench = p.1.0; terminal = p.1.1 }) (λ h. refl)

-- they are at a machine
abbrev pub IsCardAt : HeldCard → Machine → Type 0
IsCardAt held m = IsReadyAt held.card (chip_of held.bench) m

-- the terminal is there, and they are in its state: at the state's machine, with statements on its channel
pub record IsSeated (held : HeldCard) (state : TerminalState) : Type 0 where
  pub holding : Holding
  pub there : held.terminal ≡ Some holding
  pub sits : Sits IsCardAt state holding held

-- the same at some state whose database is this one
abbrev pub IsSeatedWith : HeldCard → Database → Type 0
IsSeatedWith held db = (state : TerminalState) × IsSeated held state × (state.machine.committed ≡ db)

-- a reply as octets: its data, and the two of its status word
abbrev pub reply_octets : Reply → List ℕ
reply_octets reply = reply.body ++ two_octets reply.word.word

-- the first octets of a place are the reply, and this is how many there are
abbrev pub AnswersInto : Reply → ℕ → List ℕ → Type 0
AnswersInto reply count place = (take count place ≡ reply_octets reply) × (count ≡ length (reply_octets reply))

-- the first octets of a place are this text, and this is how many there are
abbrev pub GivesText : List ℕ → ℕ → List ℕ → Type 0
GivesText text count place = (take count place ≡ text) × (count ≡ length text)

-- Whoever keeps the image of before elsewhere, makes the log's writes there in their order, and is cut off at any moment, within a write too, is left
-- an image that opens to one of these databases; and whoever makes them all has the image of now.
pub record KeepsCuts (dbs : List Database) (image : List ℕ) (bench : LineBench) : Type 0 where
  pub all : applied (writes_of bench) image ≡ image_of bench
  pub cuts : (left : List ℕ) → MayBeCutTo (writes_of bench) image left → OpensToOneOf dbs left

-- the same of what was written when an image was opened: each moment opens to its database
pub record OpensByCuts (db : Database) (image : List ℕ) (bench : LineBench) : Type 0 where
  pub all : applied (writes_of bench) image ≡ image_of bench
  pub cuts : (left : List ℕ) → MayBeCutTo (writes_of bench) image left → Opens left db

-- a write found no memory for the log, and each piece of text found some
pub record LacksLog (old new : LineBench) : Type 0 where
  pub rose : Rose (faults_of old) (faults_of new)
  pub texts : text_faults_of new ≡ text_faults_of old

-- a piece of text found no memory, and each write found some for the log
pub record LacksText (old new : LineBench) : Type 0 where
  pub rose : Rose (text_faults_of old) (text_faults_of new)
  pub writes : faults_of new ≡ faults_of old

-- there is a write, and it has more octets than that
abbrev pub IsLongerThan : ℕ → Option Write → Type 0
IsLongerThan room write = MatchOption write ⊥ (λ w. room < length w.octets)

-- there is this write, and its place and its octets were given
abbrev pub GivesWrite : Option Write → ℕ → ℕ → List ℕ → Type 0
GivesWrite write at count place = (w : Write) × (write ≡ Some w) × (at ≡ w.at) × (count ≡ length w.octets) × (take count place ≡ w.octets)
