-- How the calls of C end: of the card that a handle holds, before a call and behind it, and of the handle.
use Rattle.std.specs.Prelude.{◌≡◌, ◌≢◌, ◌⊎◌, ◌↔◌, ◌<◌, ◌≤◌, ℕ, List, ◌∷◌, length, true, false, is_some, slice_get, Option, Some, None, Box, Result, IfOk, OnErr, IsErrOf}
use Rattle.line_bench.specs.LineBench.{image_of, room_for_text, text_of, writes_of}
use Rattle.log_bench.specs.Writes.{applied}
use Rattle.planner.specs.StatementLines.{TerminalState, statement_lines}
use Rattle.scql_model.specs.Database.{Database}
use Rattle.scql_model.specs.Lines.{Effect, line_effect}
use Rattle.scql_model.specs.Lives.{after_all}
use Rattle.scql_model.specs.Machine.{Machine, start, reset}
use Rattle.scql_model.specs.Opens.{Opens}
use Rattle.scql_model.specs.Step.{Answer, step as answer_of}
use Rattle.terminal.specs.Holding.{terminal_at}
use Rattle.card_c.specs.HeldCard.{AnswersInto, GivesText, GivesWrite, HeldCard, IsCardAt, IsLongerThan, IsSeated, IsSeatedWith, KeepsCuts, LacksLog, LacksText, OpensByCuts}
use Rattle.card_c.specs.declared.status.TheConstants.{DONE, WRONG_HANDLE, TOO_SHORT, NO_MEMORY, NOT_A_CARD, MUTE, NO_WRITE, NO_TERMINAL}

-- A command was answered over a machine, whose answer is this: into a place that is now so, with so many octets.
pub record GivesAnswer (m : Machine) (answer : Answer) (reply : List ℕ) (count : ℕ) (old new : HeldCard) (result : ℕ) : Type 0 where
  -- Done: the reply's octets are the machine's answer, and the card is at the next machine.
  pub step : result ≡ DONE → AnswersInto answer.reply count reply × IsCardAt new answer.machine
  -- Whoever makes the writes of the log, in their order, has the last of these databases, and when cut off one of them.
  pub cuts : (result ≡ DONE) ⊎ (result ≡ NO_MEMORY) → KeepsCuts (m.committed ∷ answer.commits) (image_of old.bench) new.bench
  pub last : result ≡ DONE → Opens (applied (writes_of new.bench) (image_of old.bench)) answer.machine.committed

-- A call that is to answer a command: the reply goes into a place, and into a count how many octets it has. Place and count were one, and are now the other.
pub record AnswersCall (command reply reply_now : List ℕ) (count count_now : ℕ) (old new : HeldCard) (result : ℕ) : Type 0 where
  pub answer : (m : Machine) → IsCardAt old m → GivesAnswer m (answer_of m command) reply_now count_now old new result
  -- A terminal that is there goes on behind it.
  pub terminal : (state : TerminalState) → IsSeated old state → result ≡ DONE → IsSeated new (terminal_at (answer_of state.machine command).machine state.channel)
  pub too_short : (result ≡ TOO_SHORT) ↔ (length reply < 258)
  pub mute : result ≡ MUTE → old.card.live ≡ false
  -- Behind want of memory the card is mute, since a write found none for the log.
  pub wanting : result ≡ NO_MEMORY → new.card.live ≡ false
  pub cause : result ≡ NO_MEMORY → LacksLog old.bench new.bench
  pub refused : (result ≡ DONE) ⊎ ((result ≡ NO_MEMORY) ⊎ (new ≡ old))
  pub unanswered : (result ≡ DONE) ⊎ ((reply_now ≡ reply) × (count_now ≡ count))
  pub ends : (result ≡ DONE) ⊎ ((result ≡ TOO_SHORT) ⊎ ((result ≡ MUTE) ⊎ (result ≡ NO_MEMORY)))

-- A call that is to end all sessions, and to undo an open transaction. A terminal that is there begins anew.
pub record Resets (old new : HeldCard) (result : ℕ) : Type 0 where
  pub done : (m : Machine) → IsCardAt old m → result ≡ DONE → IsCardAt new (reset m)
  pub terminal : (state : TerminalState) → IsSeated old state → result ≡ DONE → IsSeated new (terminal_at (reset state.machine) 0)
  pub image : image_of new.bench ≡ image_of old.bench
  pub mute : (result ≡ MUTE) ↔ (old.card.live ≡ false)
  pub refused : (result ≡ DONE) ⊎ (new ≡ old)
  pub ends : (result ≡ DONE) ⊎ (result ≡ MUTE)

-- A call that is to reset the card, and to give it a terminal with room for so many octets of text.
pub record SitsDown (octets : ℕ) (old new : HeldCard) (result : ℕ) : Type 0 where
  pub done : (m : Machine) → IsCardAt old m → result ≡ DONE → IsSeated new (terminal_at (reset m) 0)
  pub room : result ≡ DONE → room_for_text new.bench ≡ octets
  pub image : image_of new.bench ≡ image_of old.bench
  pub mute : (result ≡ MUTE) ↔ (old.card.live ≡ false)
  pub refused : (result ≡ DONE) ⊎ (new ≡ old)
  pub ends : (result ≡ DONE) ⊎ ((result ≡ MUTE) ⊎ (result ≡ NO_MEMORY))

-- A line was carried out over a state of the terminal, where it does this.
pub record GivesLine (state : TerminalState) (does : Effect TerminalState) (old new : HeldCard) (result : ℕ) : Type 0 where
  -- Done: the text is kept, and card and terminal are in the next state.
  pub text : result ≡ DONE → text_of new.bench ≡ does.text
  pub next : result ≡ DONE → IsSeated new does.next
  -- Whoever makes the writes of the log, in their order, has the last of these databases, and when cut off one of them.
  pub cuts : (result ≡ DONE) ⊎ (result ≡ NO_MEMORY) → KeepsCuts (state.machine.committed ∷ does.commits) (image_of old.bench) new.bench
  pub last : result ≡ DONE → Opens (applied (writes_of new.bench) (image_of old.bench)) does.next.machine.committed
  -- Where memory is wanting the card is mute, or all that the line commits is committed, and only its text isn't whole.
  pub wanting : result ≡ NO_MEMORY → (new.card.live ≡ false) ⊎ IsSeatedWith new (after_all state.machine.committed does.commits)

-- A call that is to carry out a line as a statement.
pub record CarriesOut (line : List ℕ) (old new : HeldCard) (result : ℕ) : Type 0 where
  pub gives : (state : TerminalState) → IsSeated old state → GivesLine state (line_effect statement_lines state line) old new result
  pub cause : result ≡ NO_MEMORY → ((new.card.live ≡ false) × LacksLog old.bench new.bench) ⊎ LacksText old.bench new.bench
  pub mute : result ≡ MUTE → old.card.live ≡ false
  pub none : (result ≡ NO_TERMINAL) ↔ (old.terminal ≡ None)
  pub refused : (result ≡ DONE) ⊎ ((result ≡ NO_MEMORY) ⊎ (new ≡ old))
  pub ends : (result ≡ DONE) ⊎ ((result ≡ NO_TERMINAL) ⊎ ((result ≡ MUTE) ⊎ (result ≡ NO_MEMORY)))

-- A call that is to copy the text of the last line into a place, and to count its octets.
pub record CopiesText (place place_now : List ℕ) (count count_now : ℕ) (held : HeldCard) (result : ℕ) : Type 0 where
  pub done : result ≡ DONE → GivesText (text_of held.bench) count_now place_now
  pub too_short : (result ≡ TOO_SHORT) ↔ (length place < length (text_of held.bench))
  pub refused : (result ≡ DONE) ⊎ ((place_now ≡ place) × (count_now ≡ count))
  pub ends : (result ≡ DONE) ⊎ (result ≡ TOO_SHORT)

-- A call that is to copy the image into a place of its size.
pub record CopiesImage (place place_now : List ℕ) (held : HeldCard) (result : ℕ) : Type 0 where
  pub done : result ≡ DONE → place_now ≡ image_of held.bench
  pub too_short : (result ≡ TOO_SHORT) ↔ (length place ≢ length (image_of held.bench))
  pub refused : (result ≡ DONE) ⊎ (place_now ≡ place)
  pub ends : (result ≡ DONE) ⊎ (result ≡ TOO_SHORT)

-- A call that is to tell the write of that number: where it begins, its octets, into a place, and how many these are.
pub record CopiesWrite (write at at_now : ℕ) (place place_now : List ℕ) (count count_now : ℕ) (held : HeldCard) (result : ℕ) : Type 0 where
  pub done : result ≡ DONE → GivesWrite (slice_get (writes_of held.bench) write) at_now count_now place_now
  pub none : (result ≡ NO_WRITE) ↔ (length (writes_of held.bench) ≤ write)
  pub too_short : result ≡ TOO_SHORT → IsLongerThan (length place) (slice_get (writes_of held.bench) write)
  pub refused : (result ≡ DONE) ⊎ ((at_now ≡ at) × (place_now ≡ place) × (count_now ≡ count))
  pub ends : (result ≡ DONE) ⊎ ((result ≡ NO_WRITE) ⊎ (result ≡ TOO_SHORT))

-- A call on the card that a handle holds, told of the handle before and behind it.
pub record CallsHeld (call : HeldCard → HeldCard → ℕ → Type 0) (unused : Type 0) (before after : Option HeldCard) (result : ℕ) : Type 0 where
  -- A handle that holds no card is told so, and no other.
  pub handle : (result ≡ WRONG_HANDLE) ↔ (before ≡ None)
  -- Then it holds none behind the call, either, and what the caller lent is as it was.
  pub empty : before ≡ None → (after ≡ None) × unused
  -- A card that it holds it holds behind the call, too, and of both the call tells this.
  pub held : (old : HeldCard) → before ≡ Some old → (new : HeldCard) × (after ≡ Some new) × call old new result

-- The same of a call that only looks at the card: the handle stays as it was.
pub record LooksAt (call : HeldCard → ℕ → Type 0) (unused : Type 0) (before after : Option HeldCard) (result : ℕ) : Type 0 where
  pub same : after ≡ before
  pub handle : (result ≡ WRONG_HANDLE) ↔ (before ≡ None)
  pub empty : before ≡ None → unused
  pub held : (held : HeldCard) → before ≡ Some held → call held result

-- A call that counts something of the card. There is no other end of it where a card is held.
abbrev pub TellsCount : (HeldCard → ℕ) → ℕ → ℕ → Option HeldCard → Option HeldCard → ℕ → Type 0
TellsCount count_of count count_now before after result = LooksAt (λ held result. (result ≡ DONE) × (count_now ≡ count_of held)) (count_now ≡ count) before after result

-- A call that is to put a card into a handle: one of which this is so.
pub record PutsCard (is_made : HeldCard → Type 0) (before after : Option HeldCard) (result : ℕ) : Type 0 where
  pub done : result ≡ DONE → (made : HeldCard) × (after ≡ Some made) × is_made made
  -- A handle that holds a card already is told so, and no other.
  pub handle : (result ≡ WRONG_HANDLE) ↔ (is_some before ≡ true)
  pub refused : (result ≡ DONE) ⊎ (after ≡ before)

-- An image was opened: there is a database to which it opens, and this is its card.
pub record IsOpened (image : List ℕ) (held : HeldCard) : Type 0 where
  pub opens : (db : Database) × Opens image db
  pub done : (db : Database) → Opens image db → IsCardAt held (start db)
  -- Whoever makes the writes of the log to the image, in their order, has its database at each moment.
  pub cuts : (db : Database) → Opens image db → OpensByCuts db image held.bench

-- The card of an image, or the status that says why there is none.
pub record OpensImage {A : Type 0} (image : List ℕ) (result : Result (Box HeldCard A) ℕ) : Type 0 where
  pub opened : IfOk result (λ held. IsOpened image held.value)
  pub not_a_card : IsErrOf result NOT_A_CARD → (db : Database) → Opens image db → ⊥
  pub ends : OnErr result (IsErrOf result NOT_A_CARD ⊎ IsErrOf result NO_MEMORY)
