-- How a command ends on a card, where it writes nothing, and where it is carried out as another is.
use Rattle.std.proofs.Common.{◌≡◌, ℕ, List, drop, Result, Ok, Err, refl, sym, subst, arith}
use Rattle.std.specs.Prelude.{IfOk, OnOk}
use Rattle.eeprom.specs.Chip.{Chip}
use Rattle.eeprom.specs.Fault.{Counts}
use Rattle.eeprom.specs.StoreOf.{image_size}
use Rattle.eeprom.specs.declared.EepromFault.{EepromFault}
use Rattle.eeprom.proofs.Leaves.{Keeps-none}
use Rattle.scql_base.specs.declared.words.StatusWord.{StatusWord}
use Rattle.scql_model.specs.Machine.{Machine}
use Rattle.scql_model.specs.Step.{Answer}
use Rattle.card.specs.Answering.{HoldsAnswer, Performs, replied}
use Rattle.card.specs.Card.{Kept, IsAt, StandsOver}
use Rattle.card.specs.CarryingOut.{CarriesOut, RepliesAtOnce}
use Rattle.card.proofs.Leaving.{rises-none}
use Rattle.card.proofs.Performing.{Performs-unwritten}

-- one that writes nothing
pub CarriesOut-unwritten : {S : Type 0} {chip : S → Chip} {faults : S → ℕ} {stands : Kept → Chip → Type 0} {answer : Machine → Answer} {most : Machine → ℕ} {body : List ℕ} {before after : S} {old new : Kept} {result : Result StatusWord EepromFault} → StandsOver old (chip before)
    → chip after ≡ chip before → ((m : Machine) → IsAt old (chip before) m → IfOk result (λ word. HoldsAnswer (answer m) (replied body word) new (chip after))) → OnOk result (stands new (chip after)) → Counts (faults before) (faults after) result
    → OnOk result (new.store.chains.cells ≡ old.store.chains.cells) → CarriesOut chip faults stands answer most body before after old new result
CarriesOut-unwritten {chip = chip} {answer = answer} {most = most} {body = body} {before = before} {after = after} {old = old} {new = new} {result = result} ready same step stood cause cells = record {
  performs = λ m at. Performs-unwritten old new (chip before) (chip after) m (answer m) (most m) body result ready at same (step m at);
  ready = stood;
  cause = cause;
  cells = cells;
  behind = Keeps-none (drop (image_size old.store.chains.cells)) (chip before) (chip after) same;
}

-- one that needs no EEPROM
pub CarriesOut-at_once : {S : Type 0} {chip : S → Chip} {faults : S → ℕ} {answer : Machine → Answer} {most : Machine → ℕ} {body : List ℕ} {before : S} {old new : Kept} {word : StatusWord} → StandsOver old (chip before)
    → RepliesAtOnce answer (replied body word) old new → CarriesOut chip faults StandsOver answer most body before before old new (Ok word)
CarriesOut-at_once {chip = chip} {before = before} ready replies =
    CarriesOut-unwritten ready refl (λ m at. replies.step (chip before) m at) (replies.ready (chip before) ready) (omega arith, refl) replies.cells

-- What writes nothing keeps to any bound.
pub CarriesOut-within : {S : Type 0} {chip : S → Chip} {faults : S → ℕ} {stands : Kept → Chip → Type 0} {answer : Machine → Answer} {most : Machine → ℕ} {body : List ℕ} {before after : S} {old new : Kept} {result : Result StatusWord EepromFault}
    → CarriesOut chip faults stands answer (λ m. 0) body before after old new result → CarriesOut chip faults stands answer most body before after old new result
CarriesOut-within {chip = chip} {answer = answer} {most = most} {body = body} {before = before} {after = after} {old = old} {new = new} {result = result} carries = record {
  performs = λ m at. (let performs = carries.performs m at in within result (most m) performs);
  ready = carries.ready;
  cause = carries.cause;
  cells = carries.cells;
  behind = carries.behind;
}
  where
    within : {m : Machine} {answer : Answer} {body : List ℕ} {card : Kept} {old new : Chip} (r : Result StatusWord EepromFault) (most : ℕ) → Performs m answer 0 body r card old new → Performs m answer most body r card old new
    within {old = old} {new = new} (Ok word) most performs = record { step = performs.step; moments = performs.moments; unwritten = λ none. performs.unwritten refl; octets = rises-none most old new (performs.unwritten refl) }
    within (Err fault) most performs = record { step = tt; moments = performs.moments; unwritten = tt; octets = tt }

-- A command is carried out as another whose answer and bound it has, and it says the same.
pub CarriesOut-as : {S : Type 0} {chip : S → Chip} {faults : S → ℕ} {stands : Kept → Chip → Type 0} {answer its : Machine → Answer} {most bound : Machine → ℕ} {body said : List ℕ} {before after : S} {old new : Kept} {result : Result StatusWord EepromFault}
    → ((m : Machine) → IsAt old (chip before) m → (answer m ≡ its m) × (most m ≡ bound m)) → body ≡ said → CarriesOut chip faults stands its bound said before after old new result
    → CarriesOut chip faults stands answer most body before after old new result
CarriesOut-as {chip = chip} {answer = answer} {its = its} {most = most} {bound = bound} {body = body} {said = said} {before = before} {after = after} {old = old} {new = new} {result = result} is same carries = record {
  performs = λ m at.
      subst (λ (body : List ℕ). Performs m (answer m) (most m) body result new (chip before) (chip after)) (sym same)
      (subst (λ (answer : Answer). Performs m answer (most m) said result new (chip before) (chip after)) (sym (is m at).0)
      (subst (λ (most : ℕ). Performs m (its m) most said result new (chip before) (chip after)) (sym (is m at).1) (carries.performs m at)));
  ready = carries.ready;
  cause = carries.cause;
  cells = carries.cells;
  behind = carries.behind;
}
