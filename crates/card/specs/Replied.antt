-- What a card's reply to a command is, over the machine at which it was.
use Rattle.std.specs.Prelude.{◌≡◌, ◌⊎◌, ◌≤◌, ℕ, List, [], ◌∷◌, Option, false, drop}
use Rattle.eeprom.specs.Chip.{Chip, Becomes, Keeps, RisesAtMost}
use Rattle.eeprom.specs.Fault.{Rose}
use Rattle.eeprom.specs.StoreOf.{image_size}
use Rattle.scql_base.specs.Words.{end_reached, memory_failure, tries_left}
use Rattle.scql_model.specs.Accepting.{Accepts, CostsTry, EndsCursor, channel_named}
use Rattle.scql_model.specs.Bound.{octets_bound}
use Rattle.scql_model.specs.Machine.{Machine}
use Rattle.scql_model.specs.Replies.{Reply}
use Rattle.scql_model.specs.Step as stepping
use Rattle.card_link.specs.declared.outcome.Outcome.{Outcome}
use Rattle.card_link.specs.declared.outcome.Outcome.TheVariants.{Replied, Mute}
use Rattle.record_table.specs.AtRest.{LeavesOneOf}
use Rattle.card.specs.Answering.{Answers, IsAtAsBefore, LeavesEach}
use Rattle.card.specs.Card.{Kept, IsAt, IsReady}
use Rattle.card.specs.ReadCosts.{ReadsAnswered, ReadsBound}
use Rattle.card.specs.Showing.{ReadsShown}

-- These octets were a command to a card at a machine, and this is sent for it: what that is, what it leaves in the EEPROM, and how many octets
-- had been read from it before and are after.
pub record RepliedTo (m : Machine) (octets : List ℕ) (sent : Reply) (card : Kept) (old new : Chip) (read reads : Option ℕ) : Type 0 where
  -- It is the machine's answer, and card and EEPROM are at the next machine.
  pub step : Answers (stepping.step m octets) sent card new
  -- Each database that the step commits a power loss may leave at some moment: so also where a secret was right there was one with a try less.
  pub in_turn : LeavesEach (stepping.step m octets).commits old new
  -- What may write no octets, as a command that reads, writes nothing.
  pub unwritten : octets_bound m octets ≡ 0 → new ≡ old
  -- A word that doesn't accept the command says that nothing was written and all is as it was, but that its channel may have lost the
  -- parts of a command.
  pub refused : Accepts sent.word ⊎ ((new ≡ old) × IsAtAsBefore card new m (channel_named octets))
  -- 6282 says that a cursor came to its end, and nothing else changes.
  pub at_its_end : sent.word ≡ end_reached → EndsCursor m (channel_named octets) (stepping.step m octets)
  -- 63CX says that a secret was wrong, which costs a try, and nothing else changes.
  pub costs_a_try : (left : ℕ) → sent.word ≡ tries_left left → CostsTry m (channel_named octets) (stepping.step m octets)
  -- No more octets are written than the step's bound.
  pub octets_written : Becomes (RisesAtMost (octets_bound m octets)) old.written new.written
  -- A reading command is answered from what is shown to its channel.
  pub shown : ReadsShown m octets sent card new
  -- No more octets are read for a reading command than its bound, where its cursor is on a table or a view,
  pub octets_read : ReadsBound m octets read reads
  -- and no fewer than the row has that it answers: no row is answered out of memory.
  pub least : ReadsAnswered m octets read reads

-- A card was given these octets as a command: it replied, or the EEPROM failed.
pub record AnswersCommand {S : Type 0} (chip : S → Chip) (faults : S → ℕ) (octets_read : S → Option ℕ) (octets : List ℕ) (before after : S) (old new : Kept) (sent : Reply) (result : Outcome) : Type 0 where
  -- A card that replied has carried the command out, may be asked again, and met no fault.
  pub replied : (m : Machine) → IsAt old (chip before) m → result ≡ Replied → RepliedTo m octets sent new (chip before) (chip after) (octets_read before) (octets_read after)
  pub ready : result ≡ Replied → IsReady new (chip after)
  pub quiet : result ≡ Replied → faults after ≡ faults before
  -- A mute card says so, and answers no more. It is one only where the EEPROM failed.
  pub mute : result ≡ Mute → (sent.body ≡ []) × (sent.word ≡ memory_failure) × (new.live ≡ false)
  pub cause : result ≡ Mute → Rose (faults before) (faults after)
  pub never_falls : faults before ≤ faults after
  -- Nothing is given.
  pub still : (chip after).still ≡ (chip before).still
  -- A power loss leaves the database as it was, or one that the step commits.
  pub moments : (m : Machine) → IsAt old (chip before) m → LeavesOneOf (m.committed ∷ (stepping.step m octets).commits) (chip before) (chip after)
  -- The card keeps its number of cells, and nothing is written behind the image, at no moment.
  pub cells : result ≡ Replied → new.store.chains.cells ≡ old.store.chains.cells
  pub behind : Keeps (drop (image_size old.store.chains.cells)) (chip before) (chip after)
