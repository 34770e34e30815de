-- What the writes of a migration leave of an image's store.
use Rattle.std.proofs.Common.{◌≡◌, inl, inr, ℕ, ◌+◌, ◌<◌, ◌≤◌, ◌%◌, ◌==◌, Bool, true, false, if◌then◌else◌, List, [], ◌∷◌, length, take, drop, get_or, slice_index, Option, Some, None, option_map, option_and_then, sym, refl, ap, ◌∙◌, subst, arith, get_or-take, get_or-drop}
use Rattle.std.proofs.lemmas.Bool.{cases_Bool, false≢true}
use Rattle.std.proofs.lemmas.List.{take-take, drop-take}
use Rattle.eeprom.specs.Image.{overwrite, IsTorn}
use Rattle.eeprom.specs.StoreOf.{Slots, Stored, starts_with_magic, has_header, has_version, number_at, row_limit, is_gate_open, slots_at, directory, store_of}
use Rattle.eeprom.proofs.Regions.{length-overwrite, take-overwrite, drop-overwrite, get-before, get-inside, get-behind}
use Rattle.eeprom.proofs.SameFrom.{drop-from, in-force-from}
use Rattle.migrate.specs.Migration.{has_even_version, KeepsAllElse, with_rows_up_to, IsMigrated, IsBetweenVersions}

abbrev stored : ℕ → Slots → Stored
stored limit slots = record { row_limit = limit; slots = slots }

-- the store of the image with rows of at most so many octets, whatever its version says
abbrev store_with : ℕ → List ℕ → Option Stored
store_with limit image =
    let n = number_at image 6 in
    if starts_with_magic image then (if has_header image
    then option_map (stored limit) (option_and_then (slots_at image n) (directory image n))
    else None) else None

magic-front : (image : List ℕ) → starts_with_magic image ≡ starts_with_magic (take 5 image)
magic-front [] = refl
magic-front (a ∷ []) = refl
magic-front (a ∷ b ∷ []) = refl
magic-front (a ∷ b ∷ c ∷ []) = refl
magic-front (a ∷ b ∷ c ∷ d ∷ rest) = refl

octet-before : (was left : List ℕ) (k : ℕ) → k < 5 → KeepsAllElse was left → slice_index left k ≡ slice_index was k
octet-before was left k inside rest =
    sym (get_or-take 5 left k 0 inside) ∙ ap (λ (xs : List ℕ). get_or xs k 0) rest.before_version ∙ get_or-take 5 was k 0 inside

octet-between : (was left : List ℕ) (k : ℕ) → k < 3 → KeepsAllElse was left → slice_index left (6 + k) ≡ slice_index was (6 + k)
octet-between was left k inside rest =
    sym (get_or-take 3 (drop 6 left) k 0 inside ∙ get_or-drop 6 left k 0)
    ∙ ap (λ (xs : List ℕ). get_or xs k 0) rest.between ∙ get_or-take 3 (drop 6 was) k 0 inside ∙ get_or-drop 6 was k 0

header-rest : (was left : List ℕ) → KeepsAllElse was left → has_version left ≡ true → has_version was ≡ true → has_header left ≡ has_header was
header-rest was left rest now before =
    rw (
      now,
      before,
      octet-before was left 4 (omega arith) rest,
      octet-between was left 0 (omega arith) rest,
      octet-between was left 1 (omega arith) rest,
      rest.size,
    ) refl

-- where the rest stays and both versions are good, the store is the same but for its row limit
store-rest : (was left : List ℕ) → KeepsAllElse was left → has_version left ≡ true → has_version was ≡ true → store_of left ≡ store_with (row_limit left) was
store-rest was left rest now before =
    let magic : starts_with_magic left ≡ starts_with_magic was = magic-front left ∙ ap starts_with_magic rest.before_version ∙ sym (magic-front was) in
    let header = header-rest was left rest now before in
    let gate : is_gate_open left ≡ is_gate_open was = ap (λ (octet : ℕ). octet % 2 == 1) (octet-between was left 2 (omega arith) rest) in
    let cells : number_at left 6 ≡ number_at was 6 = rw (octet-between was left 0 (omega arith) rest, octet-between was left 1 (omega arith) rest) refl in
    let slots = in-force-from 11 (number_at was 6) left was (omega arith) rest.behind_limit gate in
    built (starts_with_magic left) (starts_with_magic was) (has_header left) (has_header was) (row_limit left) (option_and_then (slots_at left (number_at left 6)) (directory left (number_at left 6)))
    (option_and_then (slots_at was (number_at was 6)) (directory was (number_at was 6))) magic header
    (ap (λ (n : ℕ). option_and_then (slots_at left n) (directory left n)) cells ∙ slots)
  where
    built : (a b c d : Bool) (limit : ℕ) (xs ys : Option Slots) → a ≡ b → c ≡ d → xs ≡ ys
        → (if a then (if c then option_map (stored limit) xs else None) else None)
        ≡ (if b then (if d then option_map (stored limit) ys else None) else None)
    built a b c d limit xs ys magic header slots = rw (magic, header, slots) refl

-- another row limit
store-limit : (image : List ℕ) (limit : ℕ) → store_with limit image ≡ option_map (with_rows_up_to limit) (store_of image)
store-limit image limit = limited (starts_with_magic image) (has_header image) (option_and_then (slots_at image (number_at image 6)) (directory image (number_at image 6))) (row_limit image)
  where
    limited : (magic header : Bool) (slots : Option Slots) (before : ℕ) → (if magic then (if header then option_map (stored limit) slots else None) else None)
        ≡ option_map (with_rows_up_to limit) (if magic then (if header then option_map (stored before) slots else None) else None)
    limited false header slots before = refl
    limited true false slots before = refl
    limited true true None before = refl
    limited true true (Some slots) before = refl

pub limit-even : (image : List ℕ) → has_even_version image ≡ true → row_limit image ≡ 240
limit-even image even = rw even refl

pub limit-odd : (image : List ℕ) → has_even_version image ≡ false → row_limit image ≡ 1020
limit-odd image odd = rw odd refl

-- both images have an even version
even-between : (was left : List ℕ) → KeepsAllElse was left → has_even_version was ≡ true → has_even_version left ≡ true → IsBetweenVersions was left
even-between was left rest before now = record {
  rest = rest;
  one = inl (store-rest was left rest (rw now refl) (rw before refl)
      ∙ ap (λ (limit : ℕ). store_with limit was) (limit-even left now ∙ sym (limit-even was before)));
}

-- the row limit is written, and the version is still even
pub record IsLimited (was mid : List ℕ) : Type 0 where
  pub rest : KeepsAllElse was mid
  pub even : has_even_version was ≡ true
  pub high : slice_index mid 9 ≡ 0x03
  pub low : slice_index mid 10 ≡ 0xFC
  pub room : 11 ≤ length mid

odd-store : (was left : List ℕ) → KeepsAllElse was left → has_even_version was ≡ true → has_even_version left ≡ false → slice_index left 9 ≡ 0x03 → slice_index left 10 ≡ 0xFC
    → store_of left ≡ option_map (with_rows_up_to 1020) (store_of was)
odd-store was left rest before now high low =
    store-rest was left rest (rw (now, high, low) refl) (rw before refl) ∙ ap (λ (limit : ℕ). store_with limit was) (limit-odd left now) ∙ store-limit was 1020

rest-then : (was mid left : List ℕ) → KeepsAllElse was mid → KeepsAllElse mid left → KeepsAllElse was left
rest-then was mid left first second = record {
  size = second.size ∙ first.size;
  before_version = second.before_version ∙ first.before_version;
  between = second.between ∙ first.between;
  behind_limit = second.behind_limit ∙ first.behind_limit;
}

pub rest-none : (was : List ℕ) → KeepsAllElse was was
rest-none was = record { size = refl; before_version = refl; between = refl; behind_limit = refl }

-- a write of the row limit
limit-rest : (was octets : List ℕ) → length octets ≡ 2 → 11 ≤ length was → KeepsAllElse was (overwrite was 9 octets)
limit-rest was octets two room =
    let left = overwrite was 9 octets in
    let head : take 9 left ≡ take 9 was = take-overwrite 9 9 was octets (omega arith) (omega arith) in
    record {
      size = length-overwrite was 9 octets (omega arith);
      before_version = sym (take-take 5 9 left (omega arith)) ∙ ap (λ (xs : List ℕ). take 5 xs) head ∙ take-take 5 9 was (omega arith);
      between = sym (drop-take 6 3 left) ∙ ap (λ (xs : List ℕ). drop 6 xs) head ∙ drop-take 6 3 was;
      behind_limit = drop-overwrite 11 9 was octets (omega arith) (omega arith);
    }

limit-even-stays : (was octets : List ℕ) → length octets ≡ 2 → 11 ≤ length was → has_even_version (overwrite was 9 octets) ≡ has_even_version was
limit-even-stays was octets two room = ap (λ (octet : ℕ). octet % 2 == 0) (get-before was 9 octets 5 (omega arith) (omega arith))

pub limit-torn : (was left : List ℕ) → 11 ≤ length was → has_even_version was ≡ true → IsTorn was 9 2 left → IsBetweenVersions was left
limit-torn was left room even torn =
    subst (λ (left : List ℕ). IsBetweenVersions was left) (sym torn.is)
    (even-between was (overwrite was 9 torn.octets) (limit-rest was torn.octets torn.count_is room) even (limit-even-stays was torn.octets torn.count_is room ∙ even))

pub limited : (was : List ℕ) → 11 ≤ length was → has_even_version was ≡ true → IsLimited was (overwrite was 9 (0x03 ∷ 0xFC ∷ []))
limited was room even =
    let rest = limit-rest was (0x03 ∷ 0xFC ∷ []) refl room in
    record {
      rest = rest;
      even = even;
      high = get-inside was 9 (0x03 ∷ 0xFC ∷ []) 0 (omega arith) (omega arith);
      low = get-inside was 9 (0x03 ∷ 0xFC ∷ []) 1 (omega arith) (omega arith);
      room = omega (arith, rest.size);
    }

-- a write of the version
version-rest : (mid octets : List ℕ) → length octets ≡ 1 → 11 ≤ length mid → KeepsAllElse mid (overwrite mid 5 octets)
version-rest mid octets one room =
    let left = overwrite mid 5 octets in
    let tail : drop 6 left ≡ drop 6 mid = drop-overwrite 6 5 mid octets (omega arith) (omega arith) in
    record {
      size = length-overwrite mid 5 octets (omega arith);
      before_version = take-overwrite 5 5 mid octets (omega arith) (omega arith);
      between = ap (λ (xs : List ℕ). take 3 xs) tail;
      behind_limit = drop-from 6 11 left mid (omega arith) tail;
    }

version-octet : (mid octets : List ℕ) (k : ℕ) → length octets ≡ 1 → 11 ≤ length mid → 6 ≤ k → slice_index (overwrite mid 5 octets) k ≡ slice_index mid k
version-octet mid octets k one room behind = get-behind mid 5 octets k (omega arith) (omega arith)

version-rests : (was mid octets : List ℕ) → length octets ≡ 1 → IsLimited was mid → KeepsAllElse was (overwrite mid 5 octets)
version-rests was mid octets one is = rest-then was mid (overwrite mid 5 octets) is.rest (version-rest mid octets one is.room)

version-odd : (was mid octets : List ℕ) → length octets ≡ 1 → IsLimited was mid → has_even_version (overwrite mid 5 octets) ≡ false → store_of (overwrite mid 5 octets) ≡ option_map (with_rows_up_to 1020) (store_of was)
version-odd was mid octets one is odd =
    odd-store was (overwrite mid 5 octets) (version-rests was mid octets one is) is.even odd (version-octet mid octets 9 one is.room (omega arith) ∙ is.high) (version-octet mid octets 10 one is.room (omega arith) ∙ is.low)

pub version-torn : (was mid left : List ℕ) → IsLimited was mid → IsTorn mid 5 1 left → IsBetweenVersions was left
version-torn was mid left is torn =
    let rest = version-rests was mid torn.octets torn.count_is is in
    subst (λ (left : List ℕ). IsBetweenVersions was left) (sym torn.is) (elim (cases_Bool (has_even_version (overwrite mid 5 torn.octets))) [
      | inl even ↦ even-between was (overwrite mid 5 torn.octets) rest is.even even
      | inr odd ↦ record { rest = rest; one = inr (version-odd was mid torn.octets torn.count_is is odd) }
    ])

pub migrated : (was mid : List ℕ) → IsLimited was mid → IsMigrated was (overwrite mid 5 (1 ∷ []))
migrated was mid is =
    let octet : slice_index (overwrite mid 5 (1 ∷ [])) 5 ≡ 1 = get-inside mid 5 (1 ∷ []) 0 (omega arith) (omega (arith, is.room)) in
    let odd : has_even_version (overwrite mid 5 (1 ∷ [])) ≡ false = ap (λ (octet : ℕ). octet % 2 == 0) octet in
    record {
      rest = version-rests was mid (1 ∷ []) refl is;
      octets = λ even. record {
        version = octet;
        limit_high = version-octet mid (1 ∷ []) 9 refl is.room (omega arith) ∙ is.high;
        limit_low = version-octet mid (1 ∷ []) 10 refl is.room (omega arith) ∙ is.low;
      };
      store = version-odd was mid (1 ∷ []) refl is odd;
    }

-- a card that was migrated stays as it is
pub between-none : (was : List ℕ) → IsBetweenVersions was was
between-none was = record { rest = rest-none was; one = inl refl }

pub migrated-none : (was : List ℕ) → has_even_version was ≡ false → IsMigrated was was
migrated-none was odd = record {
  rest = rest-none was;
  octets = λ even. absurd (false≢true (sym odd ∙ even));
  store = ap (λ (limit : ℕ). store_with limit was) (limit-odd was odd) ∙ store-limit was 1020;
}
