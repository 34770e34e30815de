-- Octets of input cut into lines as they come in.
use Rattle.std.specs.Prelude.{ℕ, nat_lt, ◌==◌, Bool, false, List, [], ◌∷◌, ◌++◌, length, map, Option, Some, None, if◌then◌else◌}
use Rattle.std.specs.List.{slice_split}
use Rattle.scql_model.specs.Lines.{is_line_feed, lines, longest_line, taken_line}

-- the lines that came in whole, and the one that has begun; in place of a line that is too long there is none
pub record Cut : Type 0 where
  pub whole : List (Option (List ℕ))
  pub begun : Option (List ℕ)

-- one octet more of a line
abbrev pub longer_by : ℕ → Option (List ℕ) → Option (List ℕ)
longer_by octet None = None
longer_by octet (Some line) = if nat_lt (length line) longest_line then Some (line ++ octet ∷ []) else None

-- a line feed ends the line that has begun, and any other octet is one more of it
abbrev pub with_octet : Cut → ℕ → Cut
with_octet cut octet = if is_line_feed octet then record { whole = cut.whole ++ cut.begun ∷ []; begun = Some [] } else record cut { begun = longer_by octet cut.begun }

-- octet by octet
abbrev pub cut_from : Cut → List ℕ → Cut
cut_from cut [] = cut
cut_from cut (octet ∷ octets) = cut_from (with_octet cut octet) octets

-- before the first octet
abbrev pub nothing_cut : Cut
nothing_cut = record { whole = []; begun = Some [] }

-- no octet of a line has come in
abbrev pub is_empty_line : Option (List ℕ) → Bool
is_empty_line None = false
is_empty_line (Some line) = length line == 0

-- at the end of the input a line that has begun is a line, where it has an octet
abbrev pub last_lines : Option (List ℕ) → List (Option (List ℕ))
last_lines begun = if is_empty_line begun then [] else begun ∷ []

-- the last of some pieces
abbrev pub last_piece : List (List ℕ) → List ℕ
last_piece [] = []
last_piece (piece ∷ []) = piece
last_piece (piece ∷ other ∷ pieces) = last_piece (other ∷ pieces)

-- what stands behind the last line feed
abbrev pub open_end : List ℕ → List ℕ
open_end octets = last_piece (slice_split is_line_feed octets)

-- the lines of octets as they are taken
abbrev pub taken_lines : List ℕ → Bool → List (Option (List ℕ))
taken_lines octets ended = map taken_line (lines octets ended)
