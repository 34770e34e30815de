-- Which slots a search passes over that is for other records than common ones: a store has many of those and few others.
use Rattle.std.specs.Prelude.{◌≡◌, ℕ, ◌+◌, ◌<◌, ◌≤◌, ◌==◌, Bool, true, List, length, Option, slice_index}
use Rattle.std.specs.Option.{option_map_or}
use Rattle.record_store.specs.Held.{Held, first_octet, kept_octet}

-- the first octet of a common record, as a row's is
abbrev pub common_octet : ℕ
common_octet = 6

-- a slot with this record has a common one, or none
abbrev pub is_common_or_none : Option (List ℕ) → Bool
is_common_or_none entry = option_map_or (λ octet. octet == common_octet) (first_octet entry) true

-- the same of a slot whose chain begins at a cell, by the octets that are kept
abbrev pub has_common_or_none : List ℕ → ℕ → Bool
has_common_or_none octets first = option_map_or (λ octet. octet == common_octet) (kept_octet octets first) true

-- for each slot the next one from it on where the run of common records that begins there ends
pub record AreEnds (ends : List ℕ) : Type 0 where
  pub onward : (slot : ℕ) → slot < length ends → slot ≤ slice_index ends slot
  pub within : (slot : ℕ) → slot < length ends → slice_index ends slot ≤ length ends
  pub rising : (slot : ℕ) → slot + 1 < length ends → slice_index ends slot ≤ slice_index ends (slot + 1)

-- a search from a slot passes over another
pub record Passes (ends : List ℕ) (from slot : ℕ) : Type 0 where
  pub inside : from < length ends
  pub behind : from ≤ slot
  pub before : slot < slice_index ends from

-- of the slots that begin at these cells those that a search passes over have common records, or none
abbrev pub PassesCommon : List ℕ → List ℕ → List ℕ → Type 0
PassesCommon octets ends firsts = (from slot : ℕ) → Passes ends from slot → slot < length firsts → has_common_or_none octets (slice_index firsts slot) ≡ true

-- so it is on both sides
pub record ArePassed (held : Held) (ends : List ℕ) : Type 0 where
  pub size : length ends ≡ held.chains.cells
  pub committed : PassesCommon held.first_octets ends held.committed
  pub working : PassesCommon held.first_octets ends held.working

-- Where the runs end that a slot begins, or passes none.
pub record EndsRun (ends : List ℕ) (slot result : ℕ) : Type 0 where
  pub inside : slot < length ends → result ≡ slice_index ends slot
  pub past : length ends ≤ slot → result ≡ slot
  pub onward : slot ≤ result
  pub most : slot ≤ length ends → result ≤ length ends
