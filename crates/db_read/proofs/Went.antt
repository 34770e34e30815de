-- A cursor that goes to a row or to its end isn't refused.
use Rattle.std.proofs.Common.{◌≡◌, false, Option, Some, None, ap}
use Rattle.std.specs.Option.{option_map_or}
use Rattle.scql_base.specs.Words.{done, end_reached}
use Rattle.scql_base.specs.declared.cursor.Cursor.{Cursor}
use Rattle.scql_base.specs.declared.cursor.Place.{Place}
use Rattle.scql_base.specs.declared.words.StatusWord.{StatusWord}
use Rattle.scql_model.specs.Machine.{Reading}
use Rattle.scql_base.specs.declared.cursor.Place.TheVariants.{NotOpen}
use Rattle.scql_model.specs.Moves.{moved_to, went_to}
use Rattle.scql_model.specs.Objects.{StampedRow}
use Rattle.scql_model.specs.ReadingCommands.{Move}
use Rattle.scql_model.specs.ReadBound.{place_reached}
use Rattle.cursor.specs.Moved.{refuses}

pub went-word : (place : Place) (c : Cursor) (word : StatusWord) (o : Option StampedRow) → moved_to place c word ≡ went_to c o → refuses word ≡ false
went-word place c word None went = (let same : word ≡ end_reached = ap (λ (m : Move Reading). m.reply.word) went in ap refuses same)
went-word place c word (Some r) went = (let same : word ≡ done = ap (λ (m : Move Reading). m.reply.word) went in ap refuses same)

-- where a move leaves its cursor
place_left : Move Reading → Place
place_left m = option_map_or (λ (c : Cursor). c.place) m.after.cursor NotOpen

pub went-place : (place : Place) (c : Cursor) (word : StatusWord) (o : Option StampedRow) → moved_to place c word ≡ went_to c o → place ≡ place_reached o
unfolding place_left
went-place place c word None went = ap place_left went
went-place place c word (Some r) went = ap place_left went
