-- How what lies behind the image of a card stays, from call to call.
use Rattle.std.proofs.Common.{◌≡◌, ◌≤◌, inl, inr, ℕ, List, drop, Option, Some, None, Result, Ok, Err, refl, sym, subst, ◌∙◌, arith}
use Rattle.std.specs.Prelude.{OnOk, option_map}
use Rattle.eeprom.specs.Chip.{Chip, Becomes, Keeps}
use Rattle.eeprom.specs.Image.{overwrite}
use Rattle.eeprom.specs.StoreOf.{image_size}
use Rattle.eeprom.proofs.Leaves.{at-told}
use Rattle.record_store.specs.Held.{StandsFor}
use Rattle.record_store.specs.Recovery.{KeepsStore}
use Rattle.card.specs.Behind.{KeepsBehind, own_cells}
use Rattle.card.specs.Card.{Kept, IsReady, fresh_card}
use Rattle.card.specs.GivenMoments.{behind-keeps}
use Rattle.card_run.specs.declared.words.Form.{Form}
use Rattle.card_run.specs.declared.words.Form.TheVariants.{New}
use Rattle.card_run.specs.Behind.{run_cells}
use Rattle.card_run.proofs.Finishing.{front-cells}
use Rattle.card_run.proofs.Preparing.{IsFound}

-- The number of cells of a run's card.

-- a new card has those that it is to have
made-cells : (image : List ℕ) (n : ℕ) → n ≤ 2048 → own_cells (overwrite image 0 (fresh_card n)) ≡ n
made-cells image n many = omega (arith, many)

pub cells-new : {E : Type 0} (result : Result (Unit {0}) E) (old new : Chip) (form : Form) (n : ℕ) → form ≡ New n → n ≤ 2048 → OnOk result (new.image ≡ option_map (λ image. overwrite image 0 (fresh_card n)) old.image)
    → OnOk result (Becomes (λ was now. own_cells now ≡ run_cells form was) old.image new.image)
cells-new (Err e) old new form n is many made = tt
cells-new (Ok x) old new form n is many made = λ now told. of old.image made now told
  where
    of : (o : Option (List ℕ)) → new.image ≡ option_map (λ image. overwrite image 0 (fresh_card n)) o → (now : List ℕ) → new.image ≡ Some now → (was : List ℕ) × (o ≡ Some was) × (own_cells now ≡ run_cells form was)
    of None made now told = absurd cc
    of (Some was) made now told =
        let same : overwrite was 0 (fresh_card n) ≡ now = cc (made, told) in
        (was, refl, subst (λ (f : Form). own_cells now ≡ run_cells f was) (sym is) (subst (λ (image : List ℕ). own_cells image ≡ n) same (made-cells was n many)))

-- one that is there has its own
pub cells-there : (form : Form) (image : Option (List ℕ)) → IsFound form → Becomes (λ was now. own_cells now ≡ run_cells form was) image image
cells-there form image (inl is) = λ now told. (now, told, subst (λ (f : Form). own_cells now ≡ run_cells f now) (sym is) refl)
cells-there form image (inr (inl is)) = λ now told. (now, told, subst (λ (f : Form). own_cells now ≡ run_cells f now) (sym is) refl)
cells-there form image (inr (inr (inl is))) = λ now told. (now, told, subst (λ (f : Form). own_cells now ≡ run_cells f now) (sym is) refl)
cells-there form image (inr (inr (inr (inl is)))) = λ now told. (now, told, subst (λ (f : Form). own_cells now ≡ run_cells f now) (sym is) refl)
cells-there form image (inr (inr (inr (inr is)))) = λ now told. (now, told, subst (λ (f : Form). own_cells now ≡ run_cells f now) (sym is.2) refl)

-- a card is over an image that says how many cells it has
cells-ready : (card : Kept) (chip : Chip) → IsReady card chip → (image : List ℕ) → chip.image ≡ Some image → own_cells image ≡ card.store.chains.cells
cells-ready card chip ready image told = (at-told (StandsFor card.store) chip.image image told ready.stands.over.stands).begins.cells

-- and the card that is opened has as many
pub cells-opened : (form : Form) (card : Kept) (old mid new : Chip) → IsReady card new → KeepsStore mid new → Becomes (λ was now. own_cells now ≡ run_cells form was) old.image mid.image
    → Becomes (λ was now. card.store.chains.cells ≡ run_cells form was) old.image new.image
cells-opened form card old mid new ready keeps made = λ now told.
    let from = keeps.rest.now now told in
    let was = made from.1 from.2 in
    (was.0, was.1, sym (cells-ready card new ready now told) ∙ (front-cells from.1 now from.3.rest.front ∙ was.2))

pub cells-over : (form : Form) (card : Kept) (old new : Chip) → IsReady card new → Becomes (λ was now. card.store.chains.cells ≡ run_cells form was) old.image new.image
    → Becomes (λ was now. own_cells now ≡ run_cells form was) old.image new.image
cells-over form card old new ready cells = λ now told.
    let was = cells now told in
    (was.0, was.1, cells-ready card new ready now told ∙ was.2)

-- of a new card
pub behind-new : (form : Form) (n : ℕ) (old new : Chip) → form ≡ New n → Keeps (drop (image_size n)) old new → KeepsBehind (run_cells form) old new
behind-new form n old new is keeps = subst (λ (f : Form). KeepsBehind (run_cells f) old new) (sym is) (behind-keeps n old new keeps)
