-- A new image has a store, with the two records that were written.
use Rattle.std.proofs.Common.{◌≡◌, ℕ, zero, suc, ◌+◌, ◌*◌, ◌-◌, ◌<◌, ◌≤◌, ◌==◌, true, false, List, [], ◌∷◌, ◌++◌, length, drop, map, replicate, flat_map, nat_le, nat_lt, Option, Some, None, sym, refl, ap, ap₂, ◌∙◌, arith, append_assoc, length-append, option_map, take_at, IfSome}
use Rattle.eeprom.specs.Image.{overwrite}
use Rattle.std.proofs.lemmas.Bool.Decides.{nat_tests}
use Rattle.std.specs.List.{list_all}
use Rattle.std.proofs.lemmas.List.{length-replicate}
use borrow.Author.Tests.{le-leb}
use Rattle.eeprom.specs.StoreOf.{number_at, numbers_at, cell_place, payload_of, chain_of, chains_of, cells_for, record_in, slot_of, is_record, are_apart, slots_at, store_of, fresh_slots, fresh_store, longest_record, Slots}
use Rattle.record_store.specs.Held.{with_limit}
use Rattle.record_store.specs.FreshImage.{fresh_image, fresh_header, fresh_directory, fresh_cell, magic}
use Rattle.eeprom.proofs.Places.{number_at-behind, numbers_at-behind, payload_of-behind, numbers_at-full}

chain-none : (image : List ℕ) (n most : ℕ) → chain_of image n most 65535 ≡ Some []
chain-none image n zero = refl
chain-none image n (suc most) = refl

-- a cell with no next one is a chain
chain-one : (image : List ℕ) (n most cell : ℕ) → cell < 2 * n → n ≤ 2048 → 0 < most → number_at image (cell_place n cell) ≡ 65535 → chain_of image n most cell ≡ Some (cell ∷ [])
chain-one image n zero cell inside few some last = absurd (omega arith)
chain-one image n (suc most) cell inside few some last =
    let other : (cell == 65535) ≡ false = grind (arith, nat_tests) in
    let below : nat_lt cell (2 * n) ≡ true = grind (arith, nat_tests) in
    rw (other, below, last, chain-none image n most) refl

chains-none : (image : List ℕ) (n count : ℕ) → chains_of image n (replicate count 65535) ≡ Some (replicate count [])
chains-none image n zero = refl
chains-none image n (suc count) = rw (chain-none image n (2 * n), chains-none image n count) refl

all-none : (image : List ℕ) (n count : ℕ) → list_all (is_record image n) (replicate count []) ≡ true
all-none image n zero = refl
all-none image n (suc count) = all-none image n count

flat-none : (count : ℕ) → flat_map (λ (chain : List ℕ). chain) (replicate count []) ≡ []
flat-none zero = refl
flat-none (suc count) = flat-none count

map-none : (image : List ℕ) (n count : ℕ) → map (slot_of image n) (replicate count []) ≡ replicate count None
map-none image n zero = refl
map-none image n (suc count) = ap (λ (xs : Slots). None ∷ xs) (map-none image n count)

-- the payload of a cell that holds a whole record
abbrev payload_with : List ℕ → List ℕ
payload_with octets = 0 ∷ length octets ∷ (octets ++ replicate (28 - length octets) 0)

record-in : (octets : List ℕ) → record_in (payload_with octets ++ []) ≡ octets
record-in octets =
    let length_is : number_at (payload_with octets ++ []) 0 ≡ length octets = omega arith in
    let cut : 2 + length octets - 2 ≡ length octets = omega arith in
    rw (length_is, cut, append_assoc) (take_at octets (replicate (28 - length octets) 0 ++ []) (length octets) refl)

is-record : (image : List ℕ) (n cell : ℕ) (octets : List ℕ) → payload_of image n cell ≡ payload_with octets → 1 ≤ length octets → length octets ≤ 28 → is_record image n (cell ∷ []) ≡ true
is-record image n cell octets e some short =
    rw e (let size : number_at (payload_with octets) 0 ≡ length octets = omega arith in rw size
    (let low : nat_le 1 (length octets) ≡ true = grind (arith, nat_tests) in
    let high : nat_le (length octets) longest_record ≡ true = grind (arith, nat_tests) in
    let one : cells_for (length octets) ≡ 1 = omega arith in
    rw (low, high, one) refl))

pub slots-fresh : (image : List ℕ) (n : ℕ) (first second : List ℕ) → 16 ≤ n → n ≤ 2048 → 1 ≤ length first → length first ≤ 28 → 1 ≤ length second → length second ≤ 28
    → number_at image (cell_place n 0) ≡ 65535 → number_at image (cell_place n 1) ≡ 65535
    → payload_of image n 0 ≡ payload_with first → payload_of image n 1 ≡ payload_with second
    → slots_at image n (0 ∷ 1 ∷ replicate (n - 2) 65535) ≡ Some (fresh_slots n first second)
slots-fresh image n first second few many f f' s s' last last' p p' =
    let a = chain-one image n (2 * n) 0 (omega arith) many (omega arith) last in
    let b = chain-one image n (2 * n) 1 (omega arith) many (omega arith) last' in
    let chains : chains_of image n (0 ∷ 1 ∷ replicate (n - 2) 65535) ≡ Some ((0 ∷ []) ∷ (1 ∷ []) ∷ replicate (n - 2) []) = rw (a, b, chains-none image n (n - 2)) refl in
    rw chains (rw (is-record image n 0 first p f f', is-record image n 1 second p' s s', all-none image n (n - 2))
    (let apart : are_apart n ((0 ∷ []) ∷ (1 ∷ []) ∷ replicate (n - 2) []) ≡ true = rw (flat-none (n - 2)) (le-leb 2 n (omega arith)) in
    rw (apart, p, p', record-in first, record-in second, map-none image n (n - 2)) refl))

abbrev head : ℕ → List ℕ
head n = magic ++ fresh_header n

store-head : (n : ℕ) (rest : List ℕ) → 16 ≤ n → n ≤ 2048 → 70 * n + 34 ≤ 32 + length rest → store_of (head n ++ rest) ≡ with_limit 240 (slots_at (head n ++ rest) n (numbers_at rest 0 n))
store-head n rest few many fits =
    let cells : number_at (head n ++ rest) 6 ≡ n = omega arith in
    let low : nat_le 16 n ≡ true = le-leb 16 n few in
    let high : nat_le n 2048 ≡ true = le-leb n 2048 many in
    let room : nat_le (70 * n + 34) (length (head n ++ rest)) ≡ true = le-leb (70 * n + 34) (length (head n ++ rest)) (omega arith) in
    rw (cells, low, high, room) (ap (λ (firsts : List ℕ). with_limit 240 (slots_at (head n ++ rest) n firsts)) (numbers_at-behind (head n) rest 32 0 n (omega arith)))

directory-of : (k : ℕ) (rest : List ℕ) → numbers_at (0 ∷ 0 ∷ 0 ∷ 1 ∷ (replicate (2 * k) 255 ++ rest)) 0 (suc (suc k)) ≡ 0 ∷ 1 ∷ replicate k 65535
directory-of k rest =
    ap (λ (numbers : List ℕ). 0 ∷ 1 ∷ numbers) (numbers_at-behind (0 ∷ 0 ∷ 0 ∷ 1 ∷ []) (replicate (2 * k) 255 ++ rest) 4 0 k refl ∙ numbers_at-full k rest)

directory-fresh : (n : ℕ) (rest : List ℕ) → 2 ≤ n → numbers_at (fresh_directory n ++ rest) 0 n ≡ 0 ∷ 1 ∷ replicate (n - 2) 65535
directory-fresh n rest few =
    let count : n ≡ suc (suc (n - 2)) = omega arith in
    let twice : 2 * n - 4 ≡ 2 * (n - 2) = omega arith in
    let octets : fresh_directory n ++ rest ≡ 0 ∷ 0 ∷ 0 ∷ 1 ∷ (replicate (2 * (n - 2)) 255 ++ (replicate (4 * n + 2) 0 ++ rest)) =
    ap (λ (xs : List ℕ). 0 ∷ 0 ∷ 0 ∷ 1 ∷ xs) (append_assoc (replicate (2 * n - 4) 255) (replicate (4 * n + 2) 0) rest
    ∙ ap (λ (m : ℕ). replicate m 255 ++ (replicate (4 * n + 2) 0 ++ rest)) twice) in
    ap₂ (λ (xs : List ℕ) (m : ℕ). numbers_at xs 0 m) octets count ∙ directory-of (n - 2) (replicate (4 * n + 2) 0 ++ rest)

payload-fresh : (before octets rest : List ℕ) (n cell : ℕ) → cell_place n cell ≡ length before → length octets ≤ 28 → payload_of (before ++ (fresh_cell octets ++ rest)) n cell ≡ payload_with octets
payload-fresh before octets rest n cell e short = payload_of-behind before (fresh_cell octets ++ rest) n cell e
    ∙ ap (λ (xs : List ℕ). 0 ∷ length octets ∷ xs) (take_at (octets ++ replicate (28 - length octets) 0) rest 28
    (omega (arith, length-append {A = ℕ} octets (replicate (28 - length octets) 0), length-replicate {A = ℕ} (28 - length octets) 0)))

next-fresh : (before octets rest : List ℕ) (n cell : ℕ) → cell_place n cell ≡ length before → number_at (before ++ (fresh_cell octets ++ rest)) (cell_place n cell) ≡ 65535
next-fresh before octets rest n cell e = number_at-behind before (fresh_cell octets ++ rest) (cell_place n cell) 0 (omega arith)

length-cell : (octets : List ℕ) → length octets ≤ 28 → length (fresh_cell octets) ≡ 32
length-cell octets short =
    omega (arith, length-append {A = ℕ} octets (replicate (28 - length octets) 0), length-replicate {A = ℕ} (28 - length octets) 0)

shape : (h d a b t rest : List ℕ) → (h ++ (d ++ (a ++ (b ++ t)))) ++ rest ≡ h ++ (d ++ (a ++ (b ++ (t ++ rest))))
shape h d a b t rest = simp append_assoc

pub store-fresh : (n : ℕ) (first second rest : List ℕ) → 16 ≤ n → n ≤ 2048 → 1 ≤ length first → length first ≤ 28 → 1 ≤ length second → length second ≤ 28
    → store_of (fresh_image n first second ++ rest) ≡ Some (fresh_store n first second)
store-fresh n first second rest few many f f' s s' =
    let directories : length (fresh_directory n) ≡ 6 * n + 2 =
    omega (arith, length-append {A = ℕ} (replicate (2 * n - 4) 255) (replicate (4 * n + 2) 0), length-replicate {A = ℕ} (2 * n - 4) 255, length-replicate {A = ℕ} (4 * n + 2) 0) in
    let one : length (fresh_cell first) ≡ 32 = length-cell first f' in
    let two : length (fresh_cell second) ≡ 32 = length-cell second s' in
    let zeros = replicate (64 * n - 64) 0 ++ rest in
    let tail = fresh_cell first ++ (fresh_cell second ++ zeros) in
    let image = head n ++ (fresh_directory n ++ tail) in
    let size : length (fresh_directory n ++ tail) ≡ (6 * n + 2) + (64 + ((64 * n - 64) + length rest)) =
    omega (
      arith,
      directories,
      one,
      two,
      length-append (fresh_directory n) tail,
      length-append (fresh_cell first) (fresh_cell second ++ zeros),
      length-append (fresh_cell second) zeros,
      length-append {A = ℕ} (replicate (64 * n - 64) 0) rest,
      length-replicate {A = ℕ} (64 * n - 64) 0,
    ) in
    let before : length (head n ++ fresh_directory n) ≡ 34 + 6 * n = omega (arith, directories) in
    let between : length ((head n ++ fresh_directory n) ++ fresh_cell first) ≡ 66 + 6 * n =
    omega (arith, before, one, length-append (head n ++ fresh_directory n) (fresh_cell first)) in
    let at_one : image ≡ (head n ++ fresh_directory n) ++ tail = sym (append_assoc (head n) (fresh_directory n) tail) in
    let at_two : image ≡ ((head n ++ fresh_directory n) ++ fresh_cell first) ++ (fresh_cell second ++ zeros) =
    at_one ∙ sym (append_assoc (head n ++ fresh_directory n) (fresh_cell first) (fresh_cell second ++ zeros)) in
    ap store_of (shape (head n) (fresh_directory n) (fresh_cell first) (fresh_cell second) (replicate (64 * n - 64) 0) rest)
    ∙ (store-head n (fresh_directory n ++ tail) few many (omega (arith, size))
    ∙ (ap (λ (firsts : List ℕ). with_limit 240 (slots_at image n firsts)) (directory-fresh n tail (omega arith))
    ∙ ap (with_limit 240) (slots-fresh image n first second few many f f' s s'
    (ap (λ (i : List ℕ). number_at i (cell_place n 0)) at_one ∙ next-fresh (head n ++ fresh_directory n) first (fresh_cell second ++ zeros) n 0 (omega (arith, before)))
    (ap (λ (i : List ℕ). number_at i (cell_place n 1)) at_two
    ∙ next-fresh ((head n ++ fresh_directory n) ++ fresh_cell first) second zeros n 1 (omega (arith, between)))
    (ap (λ (i : List ℕ). payload_of i n 0) at_one
    ∙ payload-fresh (head n ++ fresh_directory n) first (fresh_cell second ++ zeros) n 0 (omega (arith, before)) f')
    (ap (λ (i : List ℕ). payload_of i n 1) at_two
    ∙ payload-fresh ((head n ++ fresh_directory n) ++ fresh_cell first) second zeros n 1 (omega (arith, between)) s'))))

-- a new image, written over any other, where that is told
pub store-formatted : (n : ℕ) (first second : List ℕ) (old new : Option (List ℕ)) → 16 ≤ n → n ≤ 2048 → 1 ≤ length first → length first ≤ 28 → 1 ≤ length second → length second ≤ 28
    → new ≡ option_map (λ image. overwrite image 0 (fresh_image n first second)) old → IfSome new (λ image. store_of image ≡ Some (fresh_store n first second))
store-formatted n first second None new few many f f' s s' e = rw e tt
store-formatted n first second (Some image) new few many f f' s s' e =
    rw e (store-fresh n first second (drop (0 + length (fresh_image n first second)) image) few many f f' s s')
