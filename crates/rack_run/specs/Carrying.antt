-- What a line does to a rack of which nothing is told.
use Rattle.std.specs.Prelude.{◌≡◌, ℕ, Bool, List, Option, Some, None}
use Rattle.reader_rack.specs.declared.rack_end.RackEnd.{RackEnd}
use Rattle.reader_rack.specs.declared.reader.Reader.{Reader}
use Rattle.reader_rack.specs.declared.statement.RackStatement.{RackStatement}
use Rattle.reader_rack.specs.Racks.{Asks, IsPrintedBy, States}
use Rattle.reader_rack.specs.Statements.{rack_statement, selected}

-- the rack's own statement that a line is, if it is one
abbrev pub own_statement : Option (List ℕ) → Option RackStatement
own_statement None = None
own_statement (Some line) = rack_statement line

-- the reader that is current behind a line
abbrev pub selected_by : Option RackStatement → ℕ → ℕ
selected_by None current = current
selected_by (Some statement) current = selected statement current

-- the current reader is asked, or a statement of the rack's own is carried out
abbrev pub DoesSo : {L : Type 0} → (L → Bool) → (L → ℕ) → Option RackStatement → RackEnd → List (Reader L) → ℕ → List (Reader L) → ℕ → ℕ → Type 0
DoesSo is_live faults None end' old current new sink sink' = Asks is_live faults current end' old new sink sink'
DoesSo is_live faults (Some statement) end' old current new sink sink' = States faults statement end' old new sink sink'

-- a line that is too long is refused, and the readers stay
abbrev pub DoesLine : {L : Type 0} → (L → Bool) → (L → ℕ) → Option (List ℕ) → RackEnd → List (Reader L) → ℕ → List (Reader L) → ℕ → ℕ → Type 0
DoesLine is_live faults None end' old current new sink sink' = IsPrintedBy end' sink sink' × (new ≡ old)
DoesLine is_live faults (Some line) end' old current new sink sink' = DoesSo is_live faults (rack_statement line) end' old current new sink sink'

-- What a line does to the readers, which one is current behind it, and which device failed in it.
pub record Does {L : Type 0} (is_live : L → Bool) (faults : L → ℕ) (line : Option (List ℕ)) (end' : RackEnd) (old : List (Reader L)) (current : ℕ) (new : List (Reader L)) (current' sink sink' : ℕ) : Type 0 where
  pub readers : DoesLine is_live faults line end' old current new sink sink'
  pub selects : current' ≡ selected_by (own_statement line) current
