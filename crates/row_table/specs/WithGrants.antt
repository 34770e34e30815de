-- A record goes with the grants that pass a test: what is left of the slots, which of them that changes, and how many these are at most.
use Rattle.std.specs.Prelude.{ℕ, ◌+◌, ◌==◌, ◌||◌, Bool, None, count_by, slice_index_or, slice_set}
use Rattle.eeprom.specs.StoreOf.{Slots}
use Rattle.scql_base.specs.declared.records.Grant.{Grant}
use Rattle.catalog_codec.specs.Catalog.{grant_kind}
use Rattle.record_table.specs.Swept.{all_without, has_passing}

abbrev pub left_with_grants : ℕ → (Grant → Bool) → Slots → Slots
left_with_grants slot p slots = all_without grant_kind p (slice_set slots slot None)

abbrev pub goes_with_grants : ℕ → (Grant → Bool) → Slots → ℕ → Bool
goes_with_grants slot p slots each = each == slot || has_passing grant_kind p (slice_index_or slots each None)

abbrev pub most_with_grants : ℕ → (Grant → Bool) → Slots → ℕ
most_with_grants slot p slots = 1 + count_by (has_passing grant_kind p) (slice_set slots slot None)
