-- With which database a run begins: a card that was just made is open to the fresh one, and any other is there.
use Rattle.std.proofs.Common.{◌≡◌, ◌⊎◌, inl, inr, ℕ, ◌<◌, ◌≤◌, List, Option, Some, None, Result, Ok, Err, refl, sym, subst, arith}
use Rattle.std.specs.Prelude.{◌↔◌, IsSome, IfSome, OnOk, IsErrOf, option_map}
use Rattle.eeprom.specs.Chip.{Becomes, Chip}
use Rattle.eeprom.specs.StoreOf.{image_size}
use Rattle.scql_model.specs.Database.{Database, fresh}
use Rattle.scql_model.specs.Opens.{Opens}
use Rattle.card_run.specs.declared.words.Form.{Form}
use Rattle.card_run.specs.declared.words.Form.TheVariants.{New, Apdu, Term, Check, Load, Migrate}
use Rattle.card.specs.Behind.{own_cells}
use Rattle.card.specs.Making.{LeavesMade, OpensToNone}
use Rattle.card_run.specs.Beginning.{IsThere, Begins, LacksCard, LeavesUntilOpen}
use Rattle.card_run.specs.Behind.{run_cells}
use Rattle.card_run.specs.Opening.{IsPrepared}
use Rattle.card.specs.Opened.{IsOpenTo}
use Rattle.card_run.proofs.Finishing.{keeps_same}

-- what was made of an image that was told is told, and opens to what all of it opens to
opens_made : (before after : Option (List ℕ)) (make : List ℕ → List ℕ) (db : Database) → IsSome before → after ≡ option_map make before → IfSome after (λ (image : List ℕ). Opens image db)
    → (image : List ℕ) × (after ≡ Some image) × Opens image db
opens_made None after make db told made opens = absurd cc
opens_made (Some was) after make db told made opens = (make was, made, subst (λ (o : Option (List ℕ)). IfSome o (λ (image : List ℕ). Opens image db)) made opens)

-- what was made is told only of an image that was told
told_before : (before after : Option (List ℕ)) (make : List ℕ → List ℕ) (image : List ℕ) → after ≡ option_map make before → after ≡ Some image → IsSome before
told_before None after make image made told = absurd cc
told_before (Some was) after make image made told = refl

pub begins-new : {E : Type 0} (result : Result (Unit {0}) E) (old new : Chip) (form : Form) (n : ℕ) (make : List ℕ → List ℕ) → form ≡ New n
    → OnOk result (new.image ≡ option_map make old.image) → OnOk result (IfSome new.image (λ (image : List ℕ). Opens image (fresh n)))
    → OnOk result ((db : Database) → Begins form old db → IsOpenTo new db)
begins-new (Err e) old new form n make is made opens = tt
begins-new (Ok x) old new form n make is made opens = λ db begins.
    let of_new : Begins (New n) old db = subst (λ (f : Form). Begins f old db) is begins in
    subst (λ (d : Database). IsOpenTo new d) (sym of_new.2) (opens_made old.image new.image make (fresh n) of_new.0 made opens)

pub began-new : {E : Type 0} (result : Result (Unit {0}) E) (too_small : E) (old new : Chip) (form : Form) (n : ℕ) (make : List ℕ → List ℕ) → form ≡ New n
    → OnOk result (new.image ≡ option_map make old.image) → (IsErrOf result too_small ↔ (old.still.size < image_size n))
    → OnOk result ((db : Database) → IsOpenTo new db → (first : Database) × Begins form old first)
began-new (Err e) too_small old new form n make is made small = tt
began-new (Ok x) too_small old new form n make is made small = λ db opens.
    let not_small : ¬ (old.still.size < image_size n) = λ less. let is_error : Ok x ≡ Err too_small = small.1 less in absurd cc in
    let room : image_size n ≤ old.still.size = omega arith in (
      fresh n,
      subst (λ (f : Form). Begins f old (fresh n)) (sym is) (told_before old.image new.image make opens.0 made opens.1, room, refl),
    )

-- a form whose card is to be there
abbrev pub IsFound : Form → Type 0
IsFound form = (form ≡ Apdu) ⊎ ((form ≡ Term) ⊎ ((form ≡ Check) ⊎ ((form ≡ Migrate) ⊎ ((rows : ℕ) × (seed : ℕ) × (form ≡ Load rows seed)))))

pub begins-there : (form : Form) (chip : Chip) (db : Database) → IsFound form → IsOpenTo chip db → Begins form chip db
begins-there form chip db (inl is) opens = subst (λ (f : Form). Begins f chip db) (sym is) opens
begins-there form chip db (inr (inl is)) opens = subst (λ (f : Form). Begins f chip db) (sym is) opens
begins-there form chip db (inr (inr (inl is))) opens = subst (λ (f : Form). Begins f chip db) (sym is) opens
begins-there form chip db (inr (inr (inr (inl is)))) opens = subst (λ (f : Form). Begins f chip db) (sym is) opens
begins-there form chip db (inr (inr (inr (inr is)))) opens = subst (λ (f : Form). Begins f chip db) (sym is.2) opens

pub leaves-there : (form : Form) (chip : Chip) → IsFound form → LeavesUntilOpen form chip chip
leaves-there form chip (inl is) = subst (λ (f : Form). LeavesUntilOpen f chip chip) (sym is) (keeps_same chip)
leaves-there form chip (inr (inl is)) = subst (λ (f : Form). LeavesUntilOpen f chip chip) (sym is) (keeps_same chip)
leaves-there form chip (inr (inr (inl is))) = subst (λ (f : Form). LeavesUntilOpen f chip chip) (sym is) (keeps_same chip)
leaves-there form chip (inr (inr (inr (inl is)))) = subst (λ (f : Form). LeavesUntilOpen f chip chip) (sym is) (keeps_same chip)
leaves-there form chip (inr (inr (inr (inr is)))) = subst (λ (f : Form). LeavesUntilOpen f chip chip) (sym is.2) (keeps_same chip)

-- in which state of a bench it is there
pub there-same : {X : Type 0} (chip : X → Chip) (form : Form) (bench : X) → IsFound form → IsThere chip form bench bench
there-same chip form bench (inl is) = subst (λ (f : Form). IsThere chip f bench bench) (sym is) refl
there-same chip form bench (inr (inl is)) = subst (λ (f : Form). IsThere chip f bench bench) (sym is) refl
there-same chip form bench (inr (inr (inl is))) = subst (λ (f : Form). IsThere chip f bench bench) (sym is) refl
there-same chip form bench (inr (inr (inr (inl is)))) = subst (λ (f : Form). IsThere chip f bench bench) (sym is) refl
there-same chip form bench (inr (inr (inr (inr is)))) = subst (λ (f : Form). IsThere chip f bench bench) (sym is.2) refl

pub there-new : {X E : Type 0} (chip : X → Chip) (result : Result (Unit {0}) E) (form : Form) (n : ℕ) (old new : X) → form ≡ New n → LeavesMade n (chip old) (chip new) → OnOk result (IfSome (chip new).image (λ (image : List ℕ). Opens image (fresh n)))
    → OnOk result (IsThere chip form old new)
there-new chip (Err e) form n old new is made opens = tt
there-new chip (Ok x) form n old new is made opens = subst (λ (f : Form). IsThere chip f old new) (sym is) (made, opens)

-- the same the other way round, and where the image opens to no database
pub opens-there : (form : Form) (chip : Chip) (db : Database) → IsFound form → Begins form chip db → IsOpenTo chip db
opens-there form chip db (inl is) begins = subst (λ (f : Form). Begins f chip db) is begins
opens-there form chip db (inr (inl is)) begins = subst (λ (f : Form). Begins f chip db) is begins
opens-there form chip db (inr (inr (inl is))) begins = subst (λ (f : Form). Begins f chip db) is begins
opens-there form chip db (inr (inr (inr (inl is)))) begins = subst (λ (f : Form). Begins f chip db) is begins
opens-there form chip db (inr (inr (inr (inr is)))) begins = subst (λ (f : Form). Begins f chip db) is.2 begins

none-in : (told : Option (List ℕ)) → IsSome told → IfSome told OpensToNone → (image : List ℕ) × (told ≡ Some image) × OpensToNone image
none-in None is none = absurd cc
none-in (Some image) is none = (image, refl, none)

pub lacks-there : (form : Form) (chip : Chip) → IsFound form → IsSome chip.image → IfSome chip.image OpensToNone → LacksCard form chip
lacks-there form chip (inl is) told none = subst (λ (f : Form). LacksCard f chip) (sym is) (none-in chip.image told none)
lacks-there form chip (inr (inl is)) told none = subst (λ (f : Form). LacksCard f chip) (sym is) (none-in chip.image told none)
lacks-there form chip (inr (inr (inl is))) told none = subst (λ (f : Form). LacksCard f chip) (sym is) (none-in chip.image told none)
lacks-there form chip (inr (inr (inr (inl is)))) told none = subst (λ (f : Form). LacksCard f chip) (sym is) (none-in chip.image told none)
lacks-there form chip (inr (inr (inr (inr is)))) told none = subst (λ (f : Form). LacksCard f chip) (sym is.2) (none-in chip.image told none)

-- all of it, where the card was made
pub all-prepared : {X E : Type 0} (chip : X → Chip) (form : Form) (old new : X) (result : Result (Unit {0}) E) → OnOk result ((db : Database) → Begins form (chip old) db → IsOpenTo (chip new) db)
    → OnOk result ((db : Database) → IsOpenTo (chip new) db → (first : Database) × Begins form (chip old) first) → OnOk result (IsSome (chip old).image → IsSome (chip new).image) → OnOk result (IsThere chip form old new)
    → OnOk result (IsSome (chip old).image → IfSome (chip new).image OpensToNone → LacksCard form (chip old)) → OnOk result (Becomes (λ was now. own_cells now ≡ run_cells form was) (chip old).image (chip new).image)
    → OnOk result (IsPrepared chip form old new)
all-prepared chip form old new (Ok x) begins began told there lacks cells = record { begins = begins; began = began; told = told; there = there; lacks = lacks; cells = cells }
all-prepared chip form old new (Err e) begins began told there lacks cells = tt
