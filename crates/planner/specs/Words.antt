-- Which answers end a statement (ISO/IEC 7816-4, status bytes).
use Rattle.std.specs.Prelude.{◌/◌, ◌==◌, not, ◌||◌, Bool, if◌then◌else◌}
use Rattle.scql_base.specs.declared.words.StatusWord.{StatusWord}
use Rattle.scql_base.specs.Words.{done, end_reached}
use Rattle.planner.specs.declared.closing.Closing.{Closing}
use Rattle.planner.specs.declared.closing.Closing.TheVariants.{Fine, Refused}

abbrev pub is_done : StatusWord → Bool
is_done word = word.word == done.word

-- 6282: there is no row any more
abbrev pub is_end : StatusWord → Bool
is_end word = word.word == end_reached.word

-- 61XX: an answer goes on
abbrev pub has_more : StatusWord → Bool
has_more word = word.word / 256 == 0x61

-- a refusal is any other word
abbrev pub is_refusal : StatusWord → Bool
is_refusal word = not (is_done word || is_end word || has_more word)

abbrev pub closing_of : StatusWord → Closing
closing_of word = if is_refusal word then Refused word else Fine
