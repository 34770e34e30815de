-- Which ends a run of a new card in memory can't have.
use Rattle.std.proofs.Common.{◌≡◌, ℕ, ◌<◌, List, [], ◌∷◌, Option, Some, None, true, refl, sym, subst, arith, inl, inr}
use Rattle.std.proofs.lemmas.Bool.{false≢true}
use Rattle.std.specs.Prelude.{IsSome, codes}
use Rattle.eeprom.specs.Chip.{Chip}
use Rattle.eeprom.specs.Fault.{Rose}
use Rattle.eeprom.specs.StoreOf.{image_size}
use Rattle.program.specs.declared.status.Status.{Status}
use Rattle.program.specs.declared.status.Status.TheVariants.{Done, Refused, Usage, Eeprom, ReadFault, WriteFault, NotACard, NoMemory, TooLong, TooSmall}
use Rattle.program.specs.Ends.{AllFaults, EndsBy}
use Rattle.card_run.specs.Words.{form_in}
use Rattle.card_run.specs.Behind.{run_cells}
use Rattle.card_run.specs.Beginning.{LacksCard, FindsNoCard}
use Rattle.card_run.specs.Ends.{may_end}
use Rattle.ram_card.specs.RamEnds.{ends_in_memory}

-- a property of what is there
abbrev pub OfSome : {A : Type 0} → (A → Type 0) → Option A → Type 0
OfSome P None = ⊥
OfSome P (Some a) = P a

pub of_some : {A : Type 0} (P : A → Type 0) (found : Option A) → IsSome found → ((a : A) → found ≡ Some a → P a) → OfSome P found
of_some P None there holds = absurd (false≢true there)
of_some P (Some a) there holds = holds a refl

-- the words of the run
abbrev pub words_of_run : List (List ℕ)
words_of_run = codes "new" ∷ codes "64" ∷ []

pub are_words : (new digits : List ℕ) → new ≡ codes "new" → digits ≡ codes "64" → new ∷ digits ∷ [] ≡ words_of_run
are_words new digits is many =
    subst (λ word. word ∷ digits ∷ [] ≡ words_of_run) (sym is) (subst (λ spelled. codes "new" ∷ spelled ∷ [] ≡ words_of_run) (sym many) refl)

-- they ask for more octets than there are
abbrev pub IsTooSmall : ℕ → List (List ℕ) → Type 0
IsTooSmall size words = OfSome (λ form. size < image_size (run_cells form [])) (form_in words)

-- a run of their form may end so
abbrev pub MayEnd : List (List ℕ) → Status → Type 0
MayEnd words status = OfSome (λ form. may_end form status ≡ true) (form_in words)

never_rises : (before after : ℕ) → before ≡ 0 → after ≡ 0 → Rose before after → ⊥
never_rises before after first last (inl more) = omega (arith, first, last, more)
never_rises before after first last (inr full) = omega (arith, first, last, full)

pub never_lacks : (chip : Chip) → FindsNoCard words_of_run chip → ⊥
never_lacks chip found = subst (OfSome (λ form. LacksCard form chip)) (sym found.asked) found.lacks

ends_by_words : (status : Status) (chip : Chip) (was now : AllFaults) → IsSome chip.image → chip.still.size ≡ 4514
    → was.eeprom ≡ 0 → now.eeprom ≡ 0 → (status ≡ TooSmall → IsTooSmall chip.still.size words_of_run) → (status ≡ NotACard → IsSome chip.image → FindsNoCard words_of_run chip)
    → MayEnd words_of_run status → EndsBy status was now → ends_in_memory status ≡ true
ends_by_words Done chip was now told size first last small none may ends = refl
ends_by_words ReadFault chip was now told size first last small none may ends = refl
ends_by_words WriteFault chip was now told size first last small none may ends = refl
ends_by_words NoMemory chip was now told size first last small none may ends = refl
ends_by_words TooLong chip was now told size first last small none may ends = refl
ends_by_words Refused chip was now told size first last small none may ends = absurd (false≢true may)
ends_by_words Usage chip was now told size first last small none may ends = absurd (false≢true may)
ends_by_words Eeprom chip was now told size first last small none may ends = absurd (never_rises was.eeprom now.eeprom first last ends.0)
ends_by_words NotACard chip was now told size first last small none may ends = absurd (never_lacks chip (none refl told))
ends_by_words TooSmall chip was now told size first last small none may ends = absurd (omega (arith, size, small refl))

pub ends_so : (status : Status) (words : List (List ℕ)) (chip : Chip) (was now : AllFaults) → words ≡ words_of_run → IsSome chip.image → chip.still.size ≡ 4514
    → was.eeprom ≡ 0 → now.eeprom ≡ 0 → (status ≡ TooSmall → IsTooSmall chip.still.size words) → (status ≡ NotACard → IsSome chip.image → FindsNoCard words chip)
    → MayEnd words status → EndsBy status was now → ends_in_memory status ≡ true
ends_so status words chip was now are told size first last small none may ends =
    ends_by_words status chip was now told size first last (λ is. subst (IsTooSmall chip.still.size) are (small is))
    (λ is there. subst (λ asked. FindsNoCard asked chip) are (none is there)) (subst (λ asked. MayEnd asked status) are may) ends
