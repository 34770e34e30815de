-- What is taken of octets, and what becomes of the chains of the channels (ISO/IEC 7816-4, command chaining).
use Rattle.std.specs.Prelude.{◌≡◌, ℕ, List, [], ◌∷◌, ◌++◌, Option, Some, None, slice_get, slice_set, if◌then◌else◌}
use Rattle.std.specs.Option.{option_flatten}
use Rattle.scql_base.specs.declared.operation.Command.{Command}
use Rattle.scql_base.specs.declared.operation.OperationKind.{OperationKind}
use Rattle.scql_model.specs.Machine.{Chain}
use Rattle.scql_model.specs.Operations.{goes_on}
use Rattle.scql_model.specs.Form.{Form, refused, refused_on, part_on, a_command, formed_on, parts_of}
use Rattle.scql_model.specs.WellFormed.{IsWellFormed}
use Rattle.apdu.specs.declared.reading.Apdu.{Apdu}
use Rattle.apdu.specs.Reading.{apdu_view, with_parts}
use Rattle.apdu_chain.specs.declared.chains.Taken.{Taken}
use Rattle.apdu_chain.specs.declared.chains.Taken.TheVariants.{Refused, Kept, Whole}

-- the chain of a channel, if it has one
abbrev pub chain_on : List (Option Chain) → ℕ → Option Chain
chain_on chains channel = option_flatten (slice_get chains channel)

-- the chain that a command of an operation goes on with
abbrev pub going_on : OperationKind → Option Chain → Option Chain
going_on kind None = None
going_on kind (Some chain) = if goes_on kind chain.operation then Some chain else None

-- what an APDU makes of the chain of its channel, where a row has at most so many octets
abbrev pub on_channel : List (Option Chain) → Apdu → ℕ → Form
on_channel chains a limit = formed_on a.channel (with_parts (apdu_view a) (parts_of a.kind (chain_on chains a.channel)) limit)

-- what is answered of what octets are
abbrev pub taken_of : Form → Taken
taken_of (refused word) = Refused word
taken_of (refused_on channel word) = Refused word
taken_of (part_on channel kind octets) = Kept
taken_of (a_command c) = Whole

-- A part is added to the chain of its channel, or begins a new one. A command, and each refusal on a channel, leaves its channel without a chain.
abbrev pub chains_after : List (Option Chain) → Form → List (Option Chain)
chains_after chains (refused word) = chains
chains_after chains (refused_on channel word) = slice_set chains channel None
chains_after chains (part_on channel kind octets) =
    slice_set chains channel (Some (record { operation = kind; parts = parts_of kind (chain_on chains channel) ++ octets ∷ [] }))
chains_after chains (a_command c) = slice_set chains c.channel None

-- Octets were taken by the chains, as the form that they have.
pub record Takes (form : Form) (old new : List (Option Chain)) (result : Taken) (command : Command) : Type 0 where
  -- they are refused, kept, or a whole command
  pub taken : result ≡ taken_of form
  -- the chains keep a part, and else no part of the channel's command
  pub chains : new ≡ chains_after old form
  -- a whole command was read into a place, and is well-formed
  pub whole : result ≡ Whole → form ≡ a_command command
  pub formed : result ≡ Whole → IsWellFormed command
