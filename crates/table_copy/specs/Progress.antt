-- What a person is shown who watches a copy.
use Rattle.std.specs.Prelude.{◌≡◌, ℕ, Bool, List, Option, Ok, Err, codes}
use Rattle.person.specs.Progress.{counts_shown, progress_text}
use Rattle.person.specs.Showing.{Shows}
use Rattle.table_copy.specs.Filling.{Piece}
use Rattle.table_copy.specs.declared.copy_end.CopyEnd.{CopyEnd}
use Rattle.table_copy.specs.declared.copy_end.CopyEnd.TheVariants.{Copied}

-- how many rows were copied so far
abbrev pub words : List ℕ
words = codes "copied "

-- the line is written anew each 16 rows
abbrev pub each : ℕ
each = 16

-- so many rows, one after another
abbrev pub rows_shown : ℕ → List ℕ
rows_shown rows = counts_shown words each rows

-- so many in all
abbrev pub copied_text : ℕ → List ℕ
copied_text rows = progress_text words each rows

-- A copy showed a person how far it came: so many rows. Where it is done these are all.
abbrev pub IsCounted : CopyEnd → ℕ → Type 0
IsCounted (Copied number) rows = number ≡ rows
IsCounted end rows = Unit {0}

pub record ShowsCopy {P : Type 0} (lost : P → Bool) (shown : P → Option (List ℕ)) (end : CopyEnd) (person after : P) : Type 0 where
  pub rows : ℕ
  pub counted : IsCounted end rows
  pub shows : Shows lost shown (copied_text rows) person after

-- so of a piece of it
abbrev pub IsCountedIn : Piece ℕ → ℕ → Type 0
IsCountedIn (Ok number) rows = number ≡ rows
IsCountedIn (Err end) rows = Unit {0}

pub record ShowsRows {P : Type 0} (lost : P → Bool) (shown : P → Option (List ℕ)) (r : Piece ℕ) (person after : P) : Type 0 where
  pub rows : ℕ
  pub counted : IsCountedIn r rows
  pub shows : Shows lost shown (copied_text rows) person after
