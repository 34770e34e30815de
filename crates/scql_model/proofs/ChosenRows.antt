-- The rows that a cursor chooses, by what they are before they are cut, and their positions among the rows of its object.
use Rattle.std.proofs.Common.{◌≡◌, ℕ, suc, ◌==◌, nat_lt, nat_le, ◌&&◌, true, Option, Some, None, option_map, refl, ◌∙◌, ap}
use Rattle.std.proofs.lemmas.Option.{none-some}
use Rattle.eeprom.specs.Slots.{Rises}
use Rattle.scql_base.specs.declared.cursor.Cursor.{Cursor}
use Rattle.scql_base.specs.declared.cursor.Place.{Place}
use Rattle.scql_base.specs.declared.cursor.Place.TheVariants.{NotOpen, At, End}
use Rattle.scql_model.specs.Matching.{matches}
use Rattle.scql_model.specs.Objects.{StampedRow}
use Rattle.scql_model.specs.Contents.{Contents, cut_to}
use Rattle.scql_model.specs.Moves.{chosen, first_row, row_behind, row_at}
use Rattle.scql_model.specs.Shown.{rows_before, is_there, place_shown}
use Rattle.scql_model.specs.Reads.{PositionedRow, least_from, least_behind, row_on}
use Rattle.scql_model.proofs.FoundAgain.{find-map_filter}
use Rattle.scql_model.proofs.Positions.{Test, stamp_of, values_of, at_position, first_from, passing_at, before_zero, before_next, first_is_least, at_is_on, there-find, first_from-zero, first_row-narrowed}

module _ (contents : Contents) (c : Cursor) where
  abbrev pub chooses : Test
  chooses values = matches contents.columns c.conditions values

  abbrev pub cut_row : StampedRow → StampedRow
  cut_row r = record r { values = cut_to contents.columns c.columns r.values }

  -- what is found among the chosen rows is this row, cut, if there is one; it is one of the rows, and has this position
  pub record FindsChosen (found : Option StampedRow) (positioned : Option PositionedRow) : Type 0 where
    pub row : Option StampedRow
    pub is_cut : found ≡ option_map cut_row row
    pub is_positioned : option_map (at_position contents.rows) row ≡ positioned
    pub there : (r : StampedRow) → row ≡ Some r → is_there r.stamp contents.rows ≡ true

  pub FindsChosen-first_row : Rises stamp_of contents.rows → FindsChosen (first_row (chosen contents c)) (least_from 0 chooses (values_of contents.rows))
  FindsChosen-first_row rise = record {
    row = first_from 0 chooses contents.rows;
    is_cut = first_row-narrowed cut_row (λ (r : StampedRow). chooses r.values) contents.rows ∙ ap (option_map cut_row) (first_from-zero chooses contents.rows);
    is_positioned = first_is_least 0 chooses contents.rows rise ∙ ap (λ (k : ℕ). least_from k chooses (values_of contents.rows)) (before_zero contents.rows);
    there = there-find (λ (r : StampedRow). nat_le 0 r.stamp && chooses r.values) contents.rows;
  }

  pub FindsChosen-row_behind : (place : Place) → Rises stamp_of contents.rows → FindsChosen (row_behind place (chosen contents c)) (least_behind (place_shown (Some contents) place) chooses (values_of contents.rows))
  FindsChosen-row_behind NotOpen rise = record { row = None; is_cut = refl; is_positioned = refl; there = λ r found. absurd (none-some r found) }
  FindsChosen-row_behind End rise = record { row = None; is_cut = refl; is_positioned = refl; there = λ r found. absurd (none-some r found) }
  FindsChosen-row_behind (At stamp) rise = record {
    row = first_from (suc stamp) chooses contents.rows;
    is_cut = find-map_filter (λ (r : StampedRow). nat_lt stamp r.stamp) cut_row (λ (r : StampedRow). chooses r.values) contents.rows;
    is_positioned = first_is_least (suc stamp) chooses contents.rows rise ∙ ap (λ (k : ℕ). least_from k chooses (values_of contents.rows)) (before_next stamp contents.rows rise);
    there = there-find (λ (r : StampedRow). nat_le (suc stamp) r.stamp && chooses r.values) contents.rows;
  }

  -- the chosen row of a stamp is the one at the stamp's position, cut
  pub row_at-chosen : (stamp : ℕ) → Rises stamp_of contents.rows → (row : Option StampedRow) × (row_at stamp (chosen contents c) ≡ option_map cut_row row)
      × (option_map (λ (r : StampedRow). r.values) row ≡ row_on (rows_before stamp contents.rows) (is_there stamp contents.rows) chooses (values_of contents.rows))
  row_at-chosen stamp rise =
      (passing_at stamp chooses contents.rows, find-map_filter (λ (r : StampedRow). r.stamp == stamp) cut_row (λ (r : StampedRow). chooses r.values) contents.rows, at_is_on stamp chooses contents.rows rise)
