-- Chains of an image: their cells, their payload and the lengths of their records.
use Rattle.std.proofs.Common.{◌≡◌, ℕ, zero, suc, ◌+◌, ◌*◌, ◌<◌, ◌≤◌, ◌==◌, ◌&&◌, Bool, true, false, List, [], ◌∷◌, ◌++◌, length, take, flat_map, nat_lt, nat_le, Option, Some, None, option_map, option_and_then, IfSome, cond, map, if◌then◌else◌, sym, refl, ap, ◌∙◌, subst, arith, length-append, length-take, length-drop, leb-true, eqb-true, ltb-true, ◌⊎◌, inl, inr}
use Rattle.std.proofs.lemmas.Bool.{and_parts}
use Rattle.std.proofs.lemmas.Option.{same_Some, none-some}
use Rattle.std.proofs.lemmas.List.{get_or_append_left, length-map}
use Rattle.std.specs.List.{list_all}
use Rattle.eeprom.specs.StoreOf.{chain_of, chains_of, slots_at, are_apart, cell_place, cells_for, cells_of, payload_of, number_at, is_record, record_in, slot_of, longest_record, longest_chain}

-- the payload of a chain is 30 octets a cell
pub length-payload : (image : List ℕ) (n cell : ℕ) → cell < 2 * n → 70 * n + 34 ≤ length image → length (payload_of image n cell) ≡ 30
length-payload image n cell inside room = simp (length-take, length-drop) (omega arith)

pub if-some : (test : Bool) (chain : List ℕ) → (if test then Some [] else None) ≡ Some chain → (test ≡ true) × (chain ≡ [])
if-some true chain h = (refl, sym (same_Some _ _ h))
if-some false chain h = absurd (none-some chain h)

-- a chain is none, or a cell and the chain from its link on
pub chain-cases : (is_end is_cell : Bool) (cell : ℕ) (tail : Option (List ℕ)) (chain : List ℕ) → (if is_end then Some [] else (if is_cell then option_map (λ cells. cell ∷ cells) tail else None)) ≡ Some chain
    → ((is_end ≡ true) × (chain ≡ [])) ⊎ ((is_cell ≡ true) × (rest : List ℕ) × (tail ≡ Some rest) × (chain ≡ cell ∷ rest))
chain-cases true is_cell cell tail chain h = inl (refl, sym (same_Some _ _ h))
chain-cases false true cell None chain h = absurd (none-some chain h)
chain-cases false true cell (Some rest) chain h = inr (refl, rest, refl, sym (same_Some _ _ h))
chain-cases false false cell tail chain h = absurd (none-some chain h)

pub length-chain : (image : List ℕ) (n most cell : ℕ) (chain : List ℕ) → 70 * n + 34 ≤ length image → chain_of image n most cell ≡ Some chain → length (flat_map (payload_of image n) chain) ≡ 30 * length chain
length-chain image n zero cell chain room h = rw ((if-some (cell == 65535) chain h).1) refl
length-chain image n (suc most) cell chain room h =
    elim (chain-cases (cell == 65535) (nat_lt cell (2 * n)) cell (chain_of image n most (number_at image (cell_place n cell))) chain h) [
      | inl none ↦ rw (none.1) refl
      | inr some ↦
          let inside : cell < 2 * n = ltb-true cell (2 * n) some.0 in
          rw (some.3) (omega (
            arith,
            length-append (payload_of image n cell) (flat_map (payload_of image n) some.1),
            length-payload image n cell inside room,
            length-chain image n most (number_at image (cell_place n cell)) some.1 room some.2,
          ))
    ]

-- a chain of no cell is one that begins nowhere
pub chain-empty : (image : List ℕ) (n most cell : ℕ) → chain_of image n most cell ≡ Some [] → cell ≡ 65535
chain-empty image n zero cell h = eqb-true cell 65535 (if-some (cell == 65535) [] h).0
chain-empty image n (suc most) cell h =
    elim (chain-cases (cell == 65535) (nat_lt cell (2 * n)) cell (chain_of image n most (number_at image (cell_place n cell))) [] h) [
      | inl none ↦ eqb-true cell 65535 none.0
      | inr some ↦ absurd (let e = some.3 in cc)
    ]

pub chain-first : (image : List ℕ) (n most first cell : ℕ) (cells : List ℕ) → chain_of image n most first ≡ Some (cell ∷ cells) → cell < 2 * n
chain-first image n zero first cell cells h = absurd (let e = (if-some (first == 65535) (cell ∷ cells) h).1 in cc)
chain-first image n (suc most) first cell cells h =
    elim (chain-cases (first == 65535) (nat_lt first (2 * n)) first (chain_of image n most (number_at image (cell_place n first))) (cell ∷ cells) h) [
      | inl none ↦ absurd (let e = none.1 in cc)
      | inr some ↦ let e : cell ≡ first = (let f = some.3 in cc) in rw e (ltb-true first (2 * n) some.0)
    ]

pub chain-nowhere : (image : List ℕ) (n most : ℕ) (chain : List ℕ) → chain_of image n most 65535 ≡ Some chain → chain ≡ []
chain-nowhere image n zero chain h = sym (same_Some _ _ h)
chain-nowhere image n (suc most) chain h = sym (same_Some _ _ h)

pub chains-parts : (first : Option (List ℕ)) (rest : Option (List (List ℕ))) (chains : List (List ℕ)) → option_and_then (λ cells. option_map (λ others. cells ∷ others) rest) first ≡ Some chains
    → (chain : List ℕ) × (others : List (List ℕ)) × (first ≡ Some chain) × (rest ≡ Some others) × (chains ≡ chain ∷ others)
chains-parts None rest chains h = absurd (none-some chains h)
chains-parts (Some chain) None chains h = absurd (none-some chains h)
chains-parts (Some chain) (Some others) chains h = (chain, others, refl, refl, sym (same_Some _ _ h))

chains-join : (first : Option (List ℕ)) (rest : Option (List (List ℕ))) (chain : List ℕ) (chains : List (List ℕ)) → first ≡ Some chain → rest ≡ Some chains → option_and_then (λ cells. option_map (λ chains. cells ∷ chains) rest) first ≡ Some (chain ∷ chains)
chains-join first rest chain chains is are = rw (is, are) refl

-- a chain more
pub chains-push : (image : List ℕ) (n : ℕ) (xs : List ℕ) (first : ℕ) (chains : List (List ℕ)) (chain : List ℕ) → chains_of image n xs ≡ Some chains → chain_of image n (2 * n) first ≡ Some chain → chains_of image n (xs ++ first ∷ []) ≡ Some (chains ++ chain ∷ [])
chains-push image n [] first chains chain of is =
    subst (λ (chains : List (List ℕ)). chains_of image n (first ∷ []) ≡ Some (chains ++ chain ∷ [])) (same_Some [] chains of) (rw is refl)
chains-push image n (x ∷ xs) first chains chain of is =
    let parts = chains-parts (chain_of image n (2 * n) x) (chains_of image n xs) chains of in
    subst (λ (chains : List (List ℕ)). chains_of image n ((x ∷ xs) ++ first ∷ []) ≡ Some (chains ++ chain ∷ [])) (sym parts.4) (let rest = chains-push image n xs first parts.1 chain parts.3 is in chains-join (chain_of image n (2 * n) x) (chains_of image n (xs ++ first ∷ [])) parts.0 (parts.1 ++ chain ∷ []) parts.2 rest)

-- the chains of the first slots
pub chains-take : (image : List ℕ) (n : ℕ) (firsts : List ℕ) (chains : List (List ℕ)) (k : ℕ) → chains_of image n firsts ≡ Some chains → chains_of image n (take k firsts) ≡ Some (take k chains)
chains-take image n firsts chains zero of = refl
chains-take image n [] chains (suc k) of = subst (λ (chains : List (List ℕ)). Some [] ≡ Some (take (suc k) chains)) (same_Some [] chains of) refl
chains-take image n (x ∷ firsts) chains (suc k) of =
    let parts = chains-parts (chain_of image n (2 * n) x) (chains_of image n firsts) chains of in
    subst (λ (chains : List (List ℕ)). chains_of image n (take (suc k) (x ∷ firsts)) ≡ Some (take (suc k) chains)) (sym parts.4)
    (chains-join (chain_of image n (2 * n) x) (chains_of image n (take k firsts)) parts.0 (take k parts.1) parts.2 (chains-take image n firsts parts.1 k parts.3))

-- a record's chain has the cells of its octets
pub cells-chain : (image : List ℕ) (n first : ℕ) (chain : List ℕ) → 70 * n + 34 ≤ length image → chain_of image n (2 * n) first ≡ Some chain → is_record image n chain ≡ true → (length chain ≤ longest_chain) × (length chain ≡ cells_of (slot_of image n chain))
cells-chain image n first [] room h is = (omega arith, refl)
cells-chain image n first (cell ∷ cells) room h is =
    let size : ℕ = number_at (payload_of image n cell) 0 in
    let payload : List ℕ = payload_of image n cell ++ flat_map (payload_of image n) cells in
    let tests = and_parts (nat_le 1 size && nat_le size longest_record) (length (cell ∷ cells) == cells_for size) is in
    let high : size ≤ longest_record = leb-true size longest_record (and_parts (nat_le 1 size) (nat_le size longest_record) tests.0).1 in
    let count : length (cell ∷ cells) ≡ cells_for size = eqb-true (length (cell ∷ cells)) (cells_for size) tests.1 in
    let one : length (payload_of image n cell) ≡ 30 = length-payload image n cell (chain-first image n (2 * n) first cell cells h) room in
    let number : number_at payload 0 ≡ size =
    rw (
      get_or_append_left (payload_of image n cell) (flat_map (payload_of image n) cells) 0 0 (omega arith),
      get_or_append_left (payload_of image n cell) (flat_map (payload_of image n) cells) 0 1 (omega arith),
    ) refl in
    let total : length payload ≡ 30 * length (cell ∷ cells) = length-chain image n (2 * n) first (cell ∷ cells) room h in
    let octets : length (record_in payload) ≡ size = rw number (simp (length-take, length-drop) (omega arith)) in
    (omega arith, count ∙ ap cells_for (sym octets))

-- as many chains as first cells
pub length-chains_of : (image : List ℕ) (n : ℕ) (firsts : List ℕ) → IfSome (chains_of image n firsts) (λ chains. length chains ≡ length firsts)
length-chains_of image n [] = refl
length-chains_of image n (first ∷ rest) = joined (chain_of image n (2 * n) first) (chains_of image n rest) (length-chains_of image n rest)
  where
    joined : (chain : Option (List ℕ)) (chains : Option (List (List ℕ))) → IfSome chains (λ chains. length chains ≡ length rest)
        → IfSome (option_and_then (λ cells. option_map (λ chains. cells ∷ chains) chains) chain) (λ chains. length chains ≡ suc (length rest))
    joined None chains counted = tt
    joined (Some cells) None counted = tt
    joined (Some cells) (Some chains) counted = ap suc counted

pub length-slots_at : (image : List ℕ) (n : ℕ) (firsts : List ℕ) → IfSome (slots_at image n firsts) (λ slots. length slots ≡ length firsts)
length-slots_at image n firsts = tested (chains_of image n firsts) (length-chains_of image n firsts)
  where
    kept : (b : Bool) (chains : List (List ℕ)) → length chains ≡ length firsts
        → IfSome (cond b (Some (map (slot_of image n) chains)) None) (λ slots. length slots ≡ length firsts)
    kept true chains counted = length-map chains (slot_of image n) ∙ counted
    kept false chains counted = tt

    tested : (chains : Option (List (List ℕ))) → IfSome chains (λ chains. length chains ≡ length firsts)
        → IfSome (option_and_then (λ chains. cond (list_all (is_record image n) chains && are_apart n chains) (Some (map (slot_of image n) chains)) None) chains) (λ slots. length slots ≡ length firsts)
    tested None counted = tt
    tested (Some chains) counted = kept (list_all (is_record image n) chains && are_apart n chains) chains counted
