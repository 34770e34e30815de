-- What the words ask for: a run over lines, a check, or a migration.
use Rattle.std.proofs.Common.{◌≡◌, ◌⊎◌, inl, inr, ℕ, ◌≤◌, Bool, List, [], ◌∷◌, Option, Some, None, true, false, refl, sym, subst, ◌∙◌, arith}
use Rattle.std.specs.Prelude.{◌||◌, ◌&&◌, nat_lt, IfSome, option_map, option_and_then, codes}
use Rattle.std.specs.Str.{bytes_eq}
use Rattle.std.proofs.lemmas.Bool.{cases_Bool, false≢true}
use Rattle.std.proofs.lemmas.Bool.Decides.{nat_tests}
use Rattle.eeprom.specs.StoreOf.{fewest_cells, most_cells}
use Rattle.eeprom.specs.Chip.{Chip}
use Rattle.eeprom.specs.Fault.{Rose}
use Rattle.scql_model.specs.Database.{Database}
use Rattle.program.specs.declared.status.Status.{Status}
use Rattle.program.specs.declared.status.Status.TheVariants.{Done, Refused, Usage, Eeprom, ReadFault, WriteFault, NotACard, NoMemory, TooLong, TooSmall}
use Rattle.card_run.specs.declared.words.Form.{Form}
use Rattle.card_run.specs.declared.words.Form.TheVariants.{New, Apdu, Load}
use Rattle.card_run.specs.Beginning.{BeginsWith}
use Rattle.program.specs.Ends.{AllFaults, EndsBy}
use Rattle.card_run.specs.Ends.{ends_opened, ends_opening, has_opened, is_of_opened, may_end}
use Rattle.card_run.specs.Words.{decimal_in, form_in, in_limits, load_asked, answers_commands, carries_out_statements, makes_card, reads_input, IsWithinLimits}

-- A card that is to be made has as many cells as one may have.
limits-decimal : (number : Option ℕ) → IfSome (option_map New (option_and_then in_limits number)) IsWithinLimits
limits-decimal None = tt
limits-decimal (Some n) = elim (cases_Bool (nat_lt n fewest_cells || nat_lt most_cells n)) [
  | inl outside ↦ rw outside tt
  | inr inside ↦
      let few : 16 ≤ n = grind (arith, nat_tests) in
      let many : n ≤ 2048 = grind (arith, nat_tests) in
      rw inside (few, many)
]

-- and of a load nothing is asked
limits-load : (rows seed : Option ℕ) → IfSome (load_asked rows seed) IsWithinLimits
limits-load None seed = tt
limits-load (Some rows) None = tt
limits-load (Some rows) (Some seed) = elim (cases_Bool (nat_lt 1000 rows || nat_lt 65535 seed)) [ inl outside ↦ rw outside tt | inr inside ↦ rw inside tt ]

limits-found : (words : List (List ℕ)) → IfSome (form_in words) IsWithinLimits
limits-found [] = tt
limits-found (word ∷ []) = elim (cases_Bool (bytes_eq word (codes "apdu"))) [
  | inl apdu ↦ rw apdu tt
  | inr other ↦ elim (cases_Bool (bytes_eq word (codes "term"))) [
    | inl term ↦ rw (other, term) tt
    | inr third ↦ elim (cases_Bool (bytes_eq word (codes "check"))) [
      | inl check ↦ rw (other, third, check) tt
      | inr fourth ↦ elim (cases_Bool (bytes_eq word (codes "migrate"))) [ inl migrate ↦ rw (other, third, fourth, migrate) tt | inr none ↦ rw (other, third, fourth, none) tt ]
    ]
  ]
]
limits-found (word ∷ digits ∷ []) = elim (cases_Bool (bytes_eq word (codes "new"))) [ inl new ↦ rw new (limits-decimal (decimal_in digits)) | inr none ↦ rw none tt ]
limits-found (word ∷ rows ∷ seed ∷ []) = elim (cases_Bool (bytes_eq word (codes "load"))) [ inl load ↦ rw load (limits-load (decimal_in rows) (decimal_in seed)) | inr none ↦ rw none tt ]
limits-found (word ∷ digits ∷ more ∷ another ∷ words) = tt

pub limits-asked : (words : List (List ℕ)) (form : Form) → form_in words ≡ Some form → IsWithinLimits form
limits-asked words form is = subst (λ (o : Option Form). IfSome o IsWithinLimits) is (limits-found words)

-- a migration answers no commands, and neither does a terminal
pub no_lines : (form other : Form) → form ≡ other → answers_commands other ≡ false → answers_commands form ≡ true → ⊥
no_lines form other is none reads = false≢true (sym none ∙ subst (λ (f : Form). answers_commands f ≡ true) is reads)

-- and so it is no run that begins with lines
pub no_run : (words : List (List ℕ)) (form other : Form) (chip : Chip) (db : Database) → Some form ≡ form_in words → form ≡ other → answers_commands other ≡ false → BeginsWith words chip db → ⊥
no_run words form other chip db is same none begins = let first : begins.form ≡ form = cc (is, begins.asked) in no_lines begins.form other (first ∙ same) none begins.reads

-- a run that an EEPROM ends has its count risen
pub eeprom-rose : (status : Status) (was now : AllFaults) → status ≡ Eeprom → EndsBy status was now → Rose was.eeprom now.eeprom
eeprom-rose status was now is ends = let rose : EndsBy Eeprom was now = subst (λ (s : Status). EndsBy s was now) is ends in rose.0

-- a run whose card wasn't opened isn't one that only an opened card has
pub unopened : (status : Status) → ends_opening status ≡ true → has_opened status ≡ true → ⊥
unopened Done opening opened = false≢true opening
unopened Refused opening opened = false≢true opening
unopened TooLong opening opened = false≢true opening
unopened ReadFault opening opened = false≢true opening
unopened WriteFault opening opened = false≢true opening
unopened status opening opened = false≢true opened

-- How a run of a form may end: where its card wasn't opened,
pub opening-may : (form : Form) (status : Status) → ends_opening status ≡ true → (status ≡ TooSmall → makes_card form ≡ true) → may_end form status ≡ true
opening-may form TooSmall opening small = small refl
opening-may form NotACard opening small = refl
opening-may form NoMemory opening small = refl
opening-may form Eeprom opening small = refl
opening-may form Done opening small = refl
opening-may form Refused opening small = absurd (false≢true opening)
opening-may form Usage opening small = absurd (false≢true opening)
opening-may form ReadFault opening small = absurd (false≢true opening)
opening-may form WriteFault opening small = refl
opening-may form TooLong opening small = absurd (false≢true opening)

-- where it reads input,
pub lines-may : (form : Form) (status : Status) → reads_input form ≡ true → is_of_opened status ≡ true → (status ≡ Refused → carries_out_statements form ≡ true) → may_end form status ≡ true
lines-may form Done reads opened refused = refl
lines-may form Refused reads opened refused = refused refl
lines-may form Eeprom reads opened refused = refl
lines-may form ReadFault reads opened refused = reads
lines-may form WriteFault reads opened refused = refl
lines-may form TooLong reads opened refused = reads
lines-may form NotACard reads opened refused = refl
lines-may form NoMemory reads opened refused = refl
lines-may form Usage reads opened refused = absurd (false≢true opened)
lines-may form TooSmall reads opened refused = absurd (false≢true opened)

-- and where it says how
pub opened-may : (form : Form) (status : Status) → ends_opened form status ≡ true → may_end form status ≡ true
opened-may form status ends = first (may_end form status) ends
  where
    first : (may : Bool) → may && is_of_opened status ≡ true → may ≡ true
    first true both = refl
    first false both = absurd (false≢true both)

-- memory isn't wanting then
pub not-wanting : (form : Form) (status : Status) → ends_opened form status ≡ true → status ≡ NoMemory → ⊥
not-wanting form status ends is = of (may_end form NoMemory) (subst (λ (s : Status). ends_opened form s ≡ true) is ends)
  where
    of : (may : Bool) → may && false ≡ true → ⊥
    of true both = false≢true both
    of false both = false≢true both

pub lines-not-wanting : (status : Status) → is_of_opened status ≡ true → status ≡ NoMemory → ⊥
lines-not-wanting status opened is = false≢true (subst (λ (s : Status). is_of_opened s ≡ true) is opened)

-- no more is it unread
pub lines-not-unread : (status : Status) → is_of_opened status ≡ true → (status ≡ NoMemory) ⊎ (status ≡ NotACard) → ⊥
lines-not-unread status opened (inl is) = false≢true (subst (λ (s : Status). is_of_opened s ≡ true) is opened)
lines-not-unread status opened (inr is) = false≢true (subst (λ (s : Status). is_of_opened s ≡ true) is opened)

pub not-unread : (form : Form) (status : Status) → ends_opened form status ≡ true → (status ≡ NoMemory) ⊎ (status ≡ NotACard) → ⊥
not-unread form status ends = lines-not-unread status (second (may_end form status) (is_of_opened status) ends)
  where
    second : (may opened : Bool) → may && opened ≡ true → opened ≡ true
    second true opened both = both
    second false opened both = absurd (false≢true both)

-- commands are read
pub commands-read : (form : Form) → ((n : ℕ) × (form ≡ New n)) ⊎ (form ≡ Apdu) → reads_input form ≡ true
commands-read form (inl is) = subst (λ (f : Form). reads_input f ≡ true) (sym is.1) refl
commands-read form (inr is) = subst (λ (f : Form). reads_input f ≡ true) (sym is) refl

-- and a load reads nothing
pub no-load : (form : Form) (rows seed : ℕ) → form ≡ Load rows seed → reads_input form ≡ true → ⊥
no-load form rows seed is reads = false≢true (subst (λ (f : Form). reads_input f ≡ true) is reads)

pub no-read : (form other : Form) → form ≡ other → reads_input other ≡ false → reads_input form ≡ true → ⊥
no-read form other is none reads = false≢true (sym none ∙ subst (λ (f : Form). reads_input f ≡ true) is reads)

-- and answered
pub commands-answered : (form : Form) → ((n : ℕ) × (form ≡ New n)) ⊎ (form ≡ Apdu) → answers_commands form ≡ true
commands-answered form (inl is) = subst (λ (f : Form). answers_commands f ≡ true) (sym is.1) refl
commands-answered form (inr is) = subst (λ (f : Form). answers_commands f ≡ true) (sym is) refl
