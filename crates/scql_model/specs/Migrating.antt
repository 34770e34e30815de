-- Migration: from then on a card takes longer rows.
use Rattle.std.specs.Prelude.{ℕ, ◌==◌, List, [], ◌∷◌, if◌then◌else◌, codes}
use Rattle.scql_base.specs.declared.row.TheConstants.Row.{LARGEST, LARGEST_UNMIGRATED}
use Rattle.scql_model.specs.Database.{Database}

-- the database whose rows may have as many octets as those of a migrated card
abbrev pub migrated : Database → Database
migrated db = record db { limit = LARGEST }

-- a migration of it is one line with this text, which ends with a line feed,
abbrev pub migrate_text : Database → List ℕ
migrate_text db = if db.limit == LARGEST_UNMIGRATED then codes "migrated\n" else codes "already migrated\n"

-- and with one commit where its rows are short, and none where they are long already
abbrev pub migrate_commits : Database → List Database
migrate_commits db = if db.limit == LARGEST_UNMIGRATED then migrated db ∷ [] else []
