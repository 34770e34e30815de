-- What a line asks for, as it was read.
use Rattle.std.specs.Prelude.{◌≡◌, ℕ, ◌≤◌, List, take}
use Rattle.scql_model.specs.Lines as model
use Rattle.apdu.specs.declared.line.TheConstants.{LONGEST_COMMAND}
use Rattle.apdu.specs.declared.line.LineContent.{LineContent}
use Rattle.apdu.specs.declared.line.LineContent.TheVariants.{TooLong, Nothing, Reset, NotHexadecimal, Command}

-- a line's content, where a command's octets are the first ones of a place
abbrev pub content_view : List ℕ → LineContent → model.LineContent
content_view place TooLong = model.too_long
content_view place Nothing = model.nothing
content_view place Reset = model.resets
content_view place NotHexadecimal = model.not_hexadecimal
content_view place (Command size) = model.command (take size place)

-- a command has its place
abbrev pub IsWithinPlace : LineContent → Type 0
IsWithinPlace (Command size) = size ≤ LONGEST_COMMAND
IsWithinPlace content = Unit {0}

-- what a line was read as, and what stands in the place then
pub record IsRead (place : List ℕ) (read : LineContent) (asked : model.LineContent) : Type 0 where
  -- it is what the line asks for
  pub content : content_view place read ≡ asked
  -- a command has its place
  pub within : IsWithinPlace read
