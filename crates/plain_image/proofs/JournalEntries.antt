-- Entries of a journal, one after another.
use Rattle.std.proofs.Common.{◌≡◌, ℕ, zero, suc, ◌+◌, ◌*◌, List, [], ◌∷◌, ◌++◌, refl, ap, ap₂, ◌∙◌, sym, arith, add-zero, suc-add}
use Rattle.eeprom.specs.StoreOf.{number_at, entries_at}
use Rattle.eeprom.specs.declared.entry.Entry.{Entry}

pub entries_at-more : (octets : List ℕ) (place count : ℕ)
    → entries_at octets place (count + 1) ≡ entries_at octets place count ++ record { slot = number_at octets (place + 4 * count); first = number_at octets (place + 4 * count + 2) } ∷ []
entries_at-more octets place zero = rw add-zero refl
entries_at-more octets place (suc count) =
    let next : (place + 4) + 4 * count ≡ place + 4 * suc count = omega arith in
    rw (suc-add) (ap (λ (rest : List Entry). record { slot = number_at octets place; first = number_at octets (place + 2) } ∷ rest) (entries_at-more octets (place + 4) count
    ∙ ap (λ (k : ℕ). entries_at octets (place + 4) count ++ record { slot = number_at octets k; first = number_at octets (k + 2) } ∷ []) next))

-- an entry more
pub entries_at-pushed : (octets : List ℕ) (place count : ℕ) (entries : List Entry) (entry : Entry) → entries ≡ entries_at octets place count
    → entry.slot ≡ number_at octets (place + 4 * count) → entry.first ≡ number_at octets (place + 4 * count + 2) → entries ++ entry ∷ [] ≡ entries_at octets place (count + 1)
entries_at-pushed octets place count entries entry so_far slot first =
    ap₂ (λ (xs : List Entry) (x : Entry). xs ++ x ∷ []) so_far (ap₂ (λ (slot first : ℕ). record { slot = slot; first = first }) slot first) ∙ sym (entries_at-more octets place count)
