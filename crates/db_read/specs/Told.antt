-- Which rows of a dictionary a cursor chooses.
use Rattle.std.specs.Prelude.{◌≡◌, ℕ, Bool, true, List, length, map, filter, Option, option_map}
use Rattle.eeprom.specs.Chip.{Chip}
use Rattle.eeprom.specs.Slots.{Rises}
use Rattle.record_store.specs.Held.{Held}
use Rattle.record_store.specs.declared.side.Side.{Side}
use Rattle.scql_base.specs.Row.{IsRow, are_a_row}
use Rattle.scql_base.specs.declared.records.ObjectKind.TheVariants.{Dictionary}
use Rattle.scql_base.specs.declared.words.Subject.{Subject}
use Rattle.scql_model.specs.Database.{Database}
use Rattle.scql_model.specs.Dictionaries.{rows_told}
use Rattle.scql_model.specs.Matching.{Values}
use Rattle.scql_model.specs.Objects.{StampedRow, dictionary_columns}
use Rattle.record_table.specs.Making.{IsHeld}
use Rattle.search_cond.specs.Bound.{passes}
use Rattle.cursor.specs.Moved.{AreStamped, row_handed}
use Rattle.db_read.specs.Chosen.{values_at}
use Rattle.db_read.specs.declared.telling.Told.{Told}

-- of some rows those that meet the cursor's conditions, as they are shown
abbrev pub meets : Told → StampedRow → Bool
meets told r = passes r.values told.conditions.now

abbrev pub as_shown : Told → StampedRow → StampedRow
as_shown told r = record r { values = values_at told.places.now.items r.values }

abbrev pub chosen_told : Told → List StampedRow → List StampedRow
chosen_told told rows = map (as_shown told) (filter (meets told) rows)

-- what is shown of a row that was read, where there is one
abbrev pub shown_told : Told → Option ℕ → Values → Option StampedRow
shown_told told stamp values = option_map (as_shown told) (row_handed stamp values)

-- the rows that are told are in order, and each that is as wide as the dictionary can be shown
pub record TellsRows (told : Told) (store : Held) (side : Side) (chip : Chip) (rows : List StampedRow) : Type 0 where
  pub db : Database
  pub held : IsHeld store side chip db
  pub subject : Subject
  pub kind : told.dictionary.now.kind ≡ Dictionary subject
  pub rises : Rises (λ (r : StampedRow). r.stamp) (rows_told db told.dictionary.now.owner subject)
  pub stamped : AreStamped rows
  pub cuts : (values : Values) → IsRow values → length values ≡ length (dictionary_columns subject) → are_a_row (values_at told.places.now.items values) ≡ true
  pub are : rows ≡ chosen_told told (rows_told db told.dictionary.now.owner subject)
