-- Which records a search reads: those of the kind and, where all that are wanted have one tag, of that tag.
use Rattle.std.specs.Prelude.{◌≡◌, ℕ, ◌&&◌, Bool, true, List, Option, Some, None, IfSome, if◌then◌else◌}
use Rattle.std.specs.List.{sum_by}
use Rattle.eeprom.specs.StoreOf.{Slots, cells_of}
use Rattle.record_store.specs.Tags.{has_tag, is_tagged}
use Rattle.record_store.specs.declared.tags.Tag.{Tag}
use Rattle.catalog_codec.specs.Kinds.{Kind, read_as}
use Rattle.record_table.specs.Listed.{has_kind_mark}

-- a record has a tag, where one is asked for
abbrev pub IsTagged : Option Tag → List ℕ → Type 0
IsTagged tag octets = IfSome tag (λ tag. is_tagged tag octets ≡ true)

-- so has each record of the kind that passes a test
abbrev pub AreTagged : {X : Type 0} → Kind X → (X → Bool) → Option Tag → Type 0
AreTagged {X} kind p tag = (octets : List ℕ) (x : X) → read_as kind octets ≡ Some x → p x ≡ true → IsTagged tag octets

-- the record of a slot has a tag, where one is asked for
abbrev pub has_tag_asked : Option Tag → Option (List ℕ) → Bool
has_tag_asked None entry = true
has_tag_asked (Some tag) entry = has_tag tag entry

-- and it is marked as one of the kind
abbrev pub is_searched : {X : Type 0} → Kind X → Option Tag → Option (List ℕ) → Bool
is_searched {X} kind tag entry = has_tag_asked tag entry && has_kind_mark kind entry

-- how many cells it has then, and how many all such records have
abbrev pub tagged_cells : {X : Type 0} → Kind X → Option Tag → Option (List ℕ) → ℕ
tagged_cells {X} kind tag entry = if is_searched kind tag entry then cells_of entry else 0

abbrev pub cells_tagged : {X : Type 0} → Kind X → Option Tag → Slots → ℕ
cells_tagged {X} kind tag slots = sum_by (tagged_cells kind tag) slots

-- of records that take so many cells each, how many those take that pass a test
abbrev pub cells_where : {X : Type 0} → (X → ℕ) → (X → Bool) → List X → ℕ
cells_where {X} cells p xs = sum_by (λ x. if p x then cells x else 0) xs
