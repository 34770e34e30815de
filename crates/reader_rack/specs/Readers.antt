-- A reader, and how what it holds becomes what a line makes of it.
use Rattle.std.specs.Prelude.{◌≡◌, ◌⊎◌, ℕ, ◌≤◌, Bool, true, false, Option, Some, None, List, IsTrue, is_some, if◌then◌else◌}
use Rattle.std.specs.Option.{option_map_or}
use Rattle.eeprom.specs.Fault.{Rose}
use Rattle.eeprom.specs.Output.{Prints}
use Rattle.scql_base.specs.Words.{memory_failure}
use Rattle.scql_model.specs.Machine.{Machine}
use Rattle.scql_model.specs.Replies.{Reply, said}
use Rattle.terminal.specs.Failing.{IsStart}
use Rattle.terminal.specs.Holding.{Holding, Sits}
use Rattle.reader_rack.specs.declared.reader.Reader.{Reader}
use Rattle.reader_rack.specs.declared.rack_end.RackEnd.{RackEnd}
use Rattle.reader_rack.specs.declared.rack_end.RackEnd.TheVariants as ends
use Rattle.reader_rack.specs.RackText.{Held, nothing, mute, sits, RackEffect}

-- a reader that holds nothing
abbrev pub empty : {L : Type 0} → Reader L
empty = record { link = None; aside = None; terminal = record { channel = 0; transaction = None } }

-- a link that was taken in
abbrev pub taking : {L : Type 0} → L → Reader L
taking link = record { link = Some link; aside = None; terminal = record { channel = 0; transaction = None } }

-- The link that the reader holds, if it does, is set aside. Its machine and its count stay the reader's.
abbrev pub set_aside : {L : Type 0} → Reader L → Reader L
set_aside reader = if is_some reader.link then record reader { link = None; aside = reader.link } else reader

-- a reader whose link is lent
abbrev pub lending : {L : Type 0} → Reader L → Reader L
lending reader = record reader { link = None }

-- a reader that holds this link, with its terminal
abbrev pub with_link : {L : Type 0} → L → Reader L → Reader L
with_link link reader = record reader { link = Some link }

-- the reader holds a link that answers
abbrev pub answers : {L : Type 0} → (L → Bool) → Reader L → Bool
answers is_live reader = option_map_or is_live reader.link false

-- how often the reader's card failed: the one that it holds, or else the one that was set aside
abbrev pub count : {L : Type 0} → (L → ℕ) → Reader L → ℕ
count faults reader = option_map_or faults reader.link (option_map_or faults reader.aside 0)

-- a link, where there is one, and a terminal hold this
abbrev pub IsHeld : {L : Type 0} → (L → Machine → Type 0) → (L → Bool) → Option L → Holding → Held → Type 0
IsHeld is_at is_live None terminal held = held ≡ nothing
IsHeld is_at is_live (Some link) terminal nothing = ⊥
IsHeld is_at is_live (Some link) terminal mute = is_live link ≡ false
IsHeld is_at is_live (Some link) terminal (sits state) = IsTrue (is_live link) × Sits is_at state terminal link

-- The reader holds this. A link of which nothing is told is at no machine, and only its being mute is known.
abbrev pub Holds : {L : Type 0} → (L → Machine → Type 0) → (L → Bool) → Reader L → Held → Type 0
Holds is_at is_live reader held = IsHeld is_at is_live reader.link reader.terminal held

-- what a line does was done, and its text was printed
pub record IsDone {S : Type 0} (at : S → Type 0) (does : RackEffect S) (given now : Option (List ℕ)) : Type 0 where
  pub there : at does.next
  pub text : Prints does.text given now

-- How a line ends that does this, by the number of rows behind which a card goes mute in it, if it does. Where the outlet fails, the start of the text was printed.
abbrev pub EndsEffect : {S : Type 0} → (S → Type 0) → (Option ℕ → RackEffect S) → RackEnd → Option (List ℕ) → Option (List ℕ) → Type 0
EndsEffect at effect ends.Answered given now = IsDone at (effect None) given now × ((effect None).refusal ≡ None)
EndsEffect at effect (ends.Refused why) given now = IsDone at (effect None) given now × ((effect None).refusal ≡ Some why)
EndsEffect at effect ends.Mute given now = (rows : ℕ) × IsDone at (effect (Some rows)) given now × ((effect (Some rows)).muted ≡ true)
EndsEffect at effect ends.SinkFault given now = (fails : Option ℕ) × IsStart (effect fails).text given now

-- A card that was asked answers still: no fault of it was counted.
pub record AnswersStill (live' : Bool) (faults faults' : ℕ) : Type 0 where
  pub live : live' ≡ true
  pub count : faults' ≡ faults

-- Or it went mute: the reply is 6581, it answers no more, and its count rose.
pub record GoesMute (reply : Reply) (live' : Bool) (faults faults' : ℕ) : Type 0 where
  pub says : reply ≡ said memory_failure
  pub gone : live' ≡ false
  pub cause : Rose faults faults'

-- no device failed
pub record Works (live live' : Bool) (faults faults' sink sink' : ℕ) : Type 0 where
  pub live_same : live' ≡ live
  pub faults_same : faults' ≡ faults
  pub sink_same : sink' ≡ sink

-- the card failed, and answers no more
pub record Fails (live' : Bool) (faults faults' sink sink' : ℕ) : Type 0 where
  pub gone : live' ≡ false
  pub rose : Rose faults faults'
  pub later : faults ≤ faults'
  pub sink_same : sink' ≡ sink

-- the outlet failed, and the card did before, or didn't
pub record Breaks (live live' : Bool) (faults faults' sink sink' : ℕ) : Type 0 where
  pub answered : live' ≡ true → live ≡ true
  pub later : faults ≤ faults'
  pub rose : Rose sink sink'
  pub sink_later : sink ≤ sink'

-- why a line ends so, by whether the card answers, how often it failed, and how often the outlet did, before and after
abbrev pub EndsBy : RackEnd → (live live' : Bool) → (faults faults' sink sink' : ℕ) → Type 0
EndsBy ends.Answered live live' faults faults' sink sink' = Works live live' faults faults' sink sink'
EndsBy (ends.Refused why) live live' faults faults' sink sink' = Works live live' faults faults' sink sink'
EndsBy ends.Mute live live' faults faults' sink sink' = Fails live' faults faults' sink sink'
EndsBy ends.SinkFault live live' faults faults' sink sink' = Breaks live live' faults faults' sink sink'

-- a text that ends a line was printed
pub record IsSaid (text : List ℕ) (end' result : RackEnd) (given now : Option (List ℕ)) (sink sink' : ℕ) : Type 0 where
  pub ends : result ≡ end'
  pub printed : Prints text given now
  pub sink_same : sink' ≡ sink

-- or its start, where the outlet failed
pub record IsCut (text : List ℕ) (result : RackEnd) (given now : Option (List ℕ)) (sink sink' : ℕ) : Type 0 where
  pub ends : result ≡ ends.SinkFault
  pub start : IsStart text given now
  pub rose : Rose sink sink'
  pub later : sink ≤ sink'

abbrev pub IsSaidOrCut : List ℕ → RackEnd → RackEnd → Option (List ℕ) → Option (List ℕ) → ℕ → ℕ → Type 0
IsSaidOrCut text end' result given now sink sink' = IsSaid text end' result given now sink sink' ⊎ IsCut text result given now sink sink'
