-- What a copy from one reader to another one leaves of a rack.
use Rattle.std.specs.Prelude.{◌≡◌, ◌≢◌, ◌⊎◌, ℕ, ◌∷◌, Bool, List, Option, IsSomeAnd, option_map}
use Rattle.eeprom.specs.Chip.{Chip}
use Rattle.scql_model.specs.Database.{Database}
use Rattle.scql_model.specs.Lives.{after_all}
use Rattle.scql_model.specs.Machine.{Machine}
use Rattle.card_link.specs.Link.{IsOneOf, LeavesOpen}
use Rattle.planner.specs.Held.{transaction_channel}
use Rattle.planner.specs.StatementLines.{TerminalState}
use Rattle.reader_rack.specs.declared.rack.Rack.{Rack}
use Rattle.reader_rack.specs.declared.reader.Reader.{Reader}
use Rattle.reader_rack.specs.RackText.{Held, mute, sits, RackState, with_reader}
use Rattle.reader_rack.specs.Racks.{HoldsCard, IsRack, answers_at, count_at, link_at, reader_at}
use Rattle.reader_rack.specs.Statements.{IsReader}
use Rattle.table_copy.specs.Copy.{Copy}
use Rattle.table_copy.specs.Copying.{EndsBy, UndoneSo}
use Rattle.table_copy.specs.Leaving.{ReadsOver}
use Rattle.table_copy.specs.Progress.{ShowsCopy}
use Rattle.table_copy.specs.declared.copy_end.CopyEnd.{CopyEnd}
use Rattle.table_copy.specs.declared.copy_end.CopyEnd.TheVariants.{SourceMute, DestMute}

-- a reader holds the terminal that it held, on the same channel, with a machine that has this committed database and whose open transaction is the same channel's
pub record SitsOn (before : TerminalState) (db : Database) (held : Held) : Type 0 where
  pub state : TerminalState
  pub is : held ≡ sits state
  pub channel : state.channel ≡ before.channel
  pub committed : state.machine.committed ≡ db
  pub transaction : transaction_channel state.machine ≡ transaction_channel before.machine

-- the source's committed database stays, unless its card is mute
abbrev pub SourceHolds : CopyEnd → TerminalState → Held → Type 0
SourceHolds SourceMute s held = held ≡ mute
SourceHolds DestMute s held = SitsOn s s.machine.committed held ⊎ (held ≡ mute)
SourceHolds end s held = SitsOn s s.machine.committed held

-- the copy ends as it is to, and all of it is committed on the destination; or the source is mute, and all is as before; or the destination is mute
abbrev pub DestHolds : Copy → CopyEnd → TerminalState → Held → Type 0
DestHolds c DestMute d held = held ≡ mute
DestHolds c SourceMute d held = SitsOn d d.machine.committed held
DestHolds c end d held = (end ≡ c.ends) × SitsOn d (after_all d.machine.committed c.commits) held

-- A rack in this state, whose readers sat so, is a rack behind a copy between them that is to make this and ended so.
pub record IsCopied {L : Type 0} (is_at : L → Machine → Type 0) (is_live : L → Bool) (readers : List (Reader L)) (current : ℕ) (state : RackState) (from to : ℕ) (s d : TerminalState) (c : Copy) (end : CopyEnd) : Type 0 where
  pub source : Held
  pub dest : Held
  pub rack : IsRack is_at is_live readers current (with_reader (with_reader state from source) to dest)
  pub reads : SourceHolds end s source
  pub copies : DestHolds c end d dest

-- this holds of a reader's link and of what it has become
abbrev pub LinkBecomes : {L : Type 0} → ℕ → List (Reader L) → List (Reader L) → (L → L → Type 0) → Type 0
LinkBecomes number old new P = IsSomeAnd (link_at old number) (λ link. IsSomeAnd (link_at new number) (P link))

-- the links of two readers are others, and everything else of the readers stays
abbrev pub with_link_of : {L : Type 0} → Option L → Reader L → Reader L
with_link_of link reader = record reader { link = link }

pub record LinksChange {L : Type 0} (from to : ℕ) (old new : List (Reader L)) : Type 0 where
  pub source : reader_at new from ≡ option_map (with_link_of (link_at new from)) (reader_at old from)
  pub dest : reader_at new to ≡ option_map (with_link_of (link_at new to)) (reader_at old to)
  pub others : (other : ℕ) → IsReader other → other ≢ from → other ≢ to → reader_at new other ≡ reader_at old other

-- A copy between two readers says that a card is mute only where that reader's count rose.
abbrev pub EndsAt : {L : Type 0} → (L → Bool) → (L → ℕ) → ℕ → ℕ → CopyEnd → List (Reader L) → List (Reader L) → Type 0
EndsAt {L} is_live faults from to end old new =
    EndsBy (λ (readers : List (Reader L)). answers_at is_live readers from) (λ (readers : List (Reader L)). count_at faults readers from)
    (λ (readers : List (Reader L)). answers_at is_live readers to) (λ (readers : List (Reader L)). count_at faults readers to) end old new old new

-- A copy may go from one reader of a rack to another one: both hold a card that answers.
pub record MayCopy {L : Type 0} (is_live : L → Bool) (readers : List (Reader L)) (from to : ℕ) : Type 0 where
  pub source : HoldsCard is_live readers from
  pub dest : HoldsCard is_live readers to
  pub apart : to ≢ from

-- A copy went from one reader of a rack to another one, and ended so. Of two machines it is to make this.
pub record CopiesBetween {O L P : Type 0} (is_at : L → Machine → Type 0) (is_live : L → Bool) (faults mark : L → ℕ) (chip : L → Chip) (lost : P → Bool) (shown : P → Option (List ℕ)) (from to : ℕ) (copy : Machine → Machine → Copy) (end : CopyEnd) (old new : Rack O L) (person after : P) : Type 0 where
  -- It ended as it is to of the machines of both terminals, and the rack is one behind it.
  pub ends : (state : RackState) (s d : TerminalState) → IsRack is_at is_live old.readers old.current.number state → state.reader from ≡ sits s → state.reader to ≡ sits d
      → IsCopied is_at is_live new.readers new.current.number state from to s d (copy s.machine d.machine) end
  -- A source that still answers stays as it was, and a power loss leaves the database that it had.
  pub read : LinkBecomes from old.readers new.readers (λ link later. (s : Machine) → is_at link s → ReadsOver is_at is_live mark chip s link later)
  -- Where the copy wasn't done a destination stays as it was,
  pub undone : LinkBecomes to old.readers new.readers (λ link later. (d : Machine) → is_at link d → UndoneSo is_at d end later)
  -- and a power loss leaves the database that it had, or one that the copy commits.
  pub dest_moments : IsSomeAnd (link_at old.readers from) (λ source. LinkBecomes to old.readers new.readers (λ link later. (s d : Machine) → is_at source s → is_at link d
      → LeavesOpen (IsOneOf (mark link) (d.committed ∷ (copy s d).commits)) (chip link) (chip later)))
  -- It ended so since that card failed, or none did.
  pub causes : EndsAt is_live faults from to end old.readers new.readers
  -- Nothing but the two links is another now.
  pub links : LinksChange from to old.readers new.readers
  pub rest : (new.current ≡ old.current) × (new.outlet ≡ old.outlet)
  -- A person was shown how many rows were copied.
  pub shows : ShowsCopy lost shown end person after
