-- Lemmas, in specs/ since the two that answer lines cite them as their laws: the language of statements is lawful, the image opens to the database of where a run of it is, and what commands keep they keep one after another.
use Rattle.std.specs.Prelude.{◌≡◌, List, ℕ, Some}
use Rattle.std.proofs.Common.{refl, ◌∙◌}
use Rattle.eeprom.specs.Chip.{Chip}
use Rattle.scql_model.specs.Heard.{IsLawful, committed_in}
use Rattle.scql_model.specs.Opens.{Opens}
use Rattle.planner.proofs.StatementsLawful.{statements-lawful}
use Rattle.card.specs.Card.{IsReady, Kept}
use Rattle.card.specs.CardLaws.{Opens-at}
use Rattle.card.specs.GivenMoments.{behind-on, behind-same}
use Rattle.card.specs.LiveCard.{IsReadyAt}
use Rattle.card_run.specs.Behind.{StaysBehind}
use Rattle.card_run.specs.Statements.{Sitting, term_lines}

pub term-lawful : IsLawful term_lines
term-lawful = record {
  last = λ sitting line. statements-lawful.last sitting.at line;
  silent = λ sitting line. statements-lawful.silent sitting.at line;
}

-- the image opens to the database of where the run is
pub sitting-over : (card : Kept) (chip : Chip) (sitting : Sitting) → IsReadyAt card chip sitting.at.machine → (image : List ℕ) → chip.image ≡ Some image → Opens image (committed_in term_lines sitting)
sitting-over card chip sitting at image told = Opens-at card chip sitting.at.machine at.ready at.at image told

-- what lies behind the image stays where nothing happens
pub stays-same : (card : Kept) (chip : Chip) → StaysBehind card card chip chip
stays-same card chip = record { cells = λ live. refl; behind = behind-same (λ was. card.store.chains.cells) chip chip refl }

-- and from call to call, where the card is ready between them
pub stays-then : (was mid now : Kept) (old between new : Chip) → IsReady mid between → StaysBehind was mid old between → StaysBehind mid now between new → StaysBehind was now old new
stays-then was mid now old between new ready first second =
    let same = first.cells ready.stands.live in
    record {
      cells = λ live. second.cells live ∙ same;
      behind = behind-on was.store.chains.cells mid.store.chains.cells old between new same first.behind second.behind;
    }
