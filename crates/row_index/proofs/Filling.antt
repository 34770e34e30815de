-- The rows of a store are put in order one after the other.
use Rattle.std.proofs.lemmas.Bool.{eq-eqb}
use Rattle.std.proofs.lemmas.List.Sums.{sum_by-append}
use Rattle.row_index.proofs.ChangedPlaces.{most-places}
use Rattle.row_index.proofs.Tables.{new_key}
use Rattle.std.proofs.Common.{◌≡◌, ℕ, zero, suc, ◌+◌, ◌<◌, ◌≤◌, Bool, true, false, cond, eqb, List, [], ◌∷◌, ◌++◌, length, map, take, Option, Some, None, get_or, refl, sym, ap, ◌∙◌, arith, subst, add-one}
use Rattle.std.proofs.Math.Seq.{take-suc}
use Rattle.std.proofs.lemmas.List.{append-nil, length-map, take_all}
use Rattle.std.specs.Prelude.{IfSome, is_some}
use Rattle.std.specs.List.{count_by, AllByRecursion}
use Rattle.eeprom.specs.Slots.{AreApart, has, in_order, put_in_order}
use Rattle.eeprom.specs.StoreOf.{Slots}
use Rattle.eeprom.proofs.InOrder.{counts, count_by-cons, count_by-in_order, in_order-middle}
use Rattle.row_index.specs.Index.{ArePlacesIn, AreStamps, HasRows}
use Rattle.row_index.specs.Places.{place_key, place_slot, place_stamp, row_places}
use Rattle.row_index.specs.SideRows.{AreInOrder, AreRows, SideRows, places_of}
use Rattle.row_index.specs.declared.place.RowPlace.{RowPlace}
use Rattle.row_index.proofs.Changes.{in_order-again, length-in_order}
use Rattle.row_index.proofs.Filtered.{all-in_order, all-out_of_order}
use Rattle.row_index.proofs.Scans.{places_from, slot_count, slots_from, upper_part}
use Rattle.row_index.proofs.SlotPlaces.{count_by-map, map-slots, rows-of_places}
use Rattle.row_index.proofs.Stamped.{each_from, row-stamped}
use Rattle.row_index.proofs.Tables.{AreApart-keys, AreInOrder-put, Fits}

-- so far the first places are put in order
abbrev pub IsFilled : ℕ → List ℕ → List RowPlace → SideRows → ℕ → Type 0
IsFilled cells stamps places rows n = (slots : Slots) → ArePlacesIn cells places slots → AreStamps stamps slots → (places_of stamps rows ≡ in_order place_key (take n places)) × Fits (take n places)

pub filled-none : (cells : ℕ) (stamps : List ℕ) (places : List RowPlace) (rows : SideRows) → rows.slots ≡ [] → IsFilled cells stamps places rows 0
filled-none cells stamps places rows none = λ slots are stamped. (rw none (sym (ap (in_order place_key) (take-none places))), subst Fits (sym (take-none places)) tt)
  where
    take-none : (xs : List RowPlace) → take 0 xs ≡ []
    take-none [] = refl
    take-none (x ∷ xs) = refl

all-take : (P : RowPlace → Type 0) (n : ℕ) (xs : List RowPlace) → AllByRecursion P xs → AllByRecursion P (take n xs)
all-take P zero [] all = tt
all-take P zero (x ∷ xs) all = tt
all-take P (suc n) [] all = tt
all-take P (suc n) (x ∷ xs) all = (all.0, all-take P n xs all.1)

all-at : (P : RowPlace → Type 0) (n : ℕ) (xs : List RowPlace) (d : RowPlace) → n < length xs → AllByRecursion P xs → P (get_or xs n d)
all-at P n [] d within all = absurd (omega arith)
all-at P zero (x ∷ xs) d within all = all.0
all-at P (suc n) (x ∷ xs) d within all = all-at P n xs d (omega arith) all.1

-- the first ones are apart, and what comes next has a number of its own
apart-take : (key : RowPlace → ℕ) (n : ℕ) (xs : List RowPlace) → AreApart key xs → AreApart key (take n xs)
apart-take key n xs apart = λ k. (let c = count-take (has key k) n xs in let a = apart k in omega arith)
  where
    count-take : (p : RowPlace → Bool) (n : ℕ) (xs : List RowPlace) → count_by p (take n xs) ≤ count_by p xs
    count-take p zero [] = omega arith
    count-take p zero (x ∷ xs) = omega arith
    count-take p (suc n) [] = omega arith
    count-take p (suc n) (x ∷ xs) = (let rest = count-take p n xs in let c = count_by-cons p x (take n xs) in let d = count_by-cons p x xs in omega arith)

apart-next : (key : RowPlace → ℕ) (n : ℕ) (xs : List RowPlace) (d : RowPlace) → n < length xs → AreApart key xs → count_by (has key (key (get_or xs n d))) (take n xs) ≡ 0
apart-next key n xs d within apart =
    let p = has key (key (get_or xs n d)) in
    let more = take-suc xs n d within in
    let split = ap (count_by p) more ∙ sum_by-append (λ y. cond (p y) 1 0) (take n xs) (get_or xs n d ∷ []) in
    let one = counts p (get_or xs n d) [] (eq-eqb (key (get_or xs n d)) (key (get_or xs n d)) refl) in
    let most = apart-take key (suc n) xs apart (key (get_or xs n d)) in
    omega arith

-- Of the rows of a store each has a slot and a stamp of its own, and its stamp is told.
record AreKept (cells : ℕ) (stamps : List ℕ) (places : List RowPlace) : Type 0 where
  few : length places ≤ cells
  slots : AreApart place_slot places
  within : AllByRecursion (λ place. place_slot place < cells) places
  stamped : AllByRecursion (λ (place : RowPlace). get_or stamps place.slot 0 ≡ place.stamp) places

are-kept : (cells : ℕ) (stamps : List ℕ) (places : List RowPlace) (slots : Slots) → ArePlacesIn cells places slots → AreStamps stamps slots → AreKept cells stamps places
are-kept cells stamps places slots are stamped =
    let from = places_from 0 slots in
    let all : (P : RowPlace → Type 0) → AllByRecursion P from → AllByRecursion P places = λ P each. subst (AllByRecursion P) (sym are.are) (all-in_order place_stamp P from each) in
    record {
      few = omega (arith, ap length are.are, length-in_order place_stamp from, most-places 0 slots, are.all);
      slots = λ k. (let c = ap (count_by (has place_slot k)) are.are ∙ count_by-in_order place_stamp (has place_slot k) from in let most = subst (λ n. count_by (has place_slot n) from ≤ 1) (less_zero k) (slot_count 0 k slots) in omega arith);
      within = subst (λ n. AllByRecursion (λ place. place_slot place < n) places) (less_zero (length slots) ∙ are.all) (all (λ place. place_slot place < 0 + length slots) (upper_part 0 (0 + length slots) from (slots_from 0 slots)));
      stamped = all (λ (place : RowPlace). get_or stamps place.slot 0 ≡ place.stamp) (each_from stamps 0 slots (λ at row is. ap (λ n. get_or stamps n 0) (less_zero at) ∙ row-stamped stamps slots at row stamped is));
    }
  where
    less_zero : (n : ℕ) → 0 + n ≡ n
    less_zero n = omega arith

same_stamp : (a b c slot : ℕ) → a ≡ b → ◌≡◌ {A = RowPlace} (record { stamp = a; table = c; slot = slot }) (record { stamp = b; table = c; slot = slot })
same_stamp a b c slot p = cc

some-gives : (o : Option ℕ) (P : Type 0) → is_some o ≡ true → IfSome o (λ _. P) → P
some-gives None P some gives = absurd cc
some-gives (Some x) P some gives = gives

-- one more is put in order
pub filled-more : (cells : ℕ) (stamps : List ℕ) (places : List RowPlace) (rows next : SideRows) (n : ℕ) (place d : RowPlace) (put : Option ℕ) → n < length places → place ≡ get_or places n d → IsFilled cells stamps places rows n
    → (place.slot < cells → length rows.slots < cells → is_some put ≡ true)
    → IfSome put (λ _. AreInOrder (places_of stamps rows) → count_by (λ other. eqb other place.slot) rows.slots ≡ 0
    → places_of stamps next ≡ put_in_order place_key (record { stamp = get_or stamps place.slot 0; table = place.table; slot = place.slot }) (places_of stamps rows))
    → IfSome put (λ _. get_or stamps place.slot 0 < 4294967296) → IsFilled cells stamps places next (n + 1)
filled-more cells stamps places rows next n place d put within is filled there placed fits = λ slots are stamped.
    let kept = are-kept cells stamps places slots are stamped in
    let so_far = filled slots are stamped in
    let own : get_or stamps place.slot 0 ≡ place.stamp = subst (λ (p : RowPlace). get_or stamps p.slot 0 ≡ p.stamp) (sym is) (all-at (λ (p : RowPlace). get_or stamps p.slot 0 ≡ p.stamp) n places d within kept.stamped) in
    let inside : place.slot < cells = subst (λ (p : RowPlace). place_slot p < cells) (sym is) (all-at (λ p. place_slot p < cells) n places d within kept.within) in
    let first = take n places in
    let slots_are : rows.slots ≡ map place_slot (in_order place_key first) = sym (map-slots stamps rows.tables rows.slots) ∙ ap (map place_slot) so_far.0 in
    let many = ap length slots_are ∙ length-map (in_order place_key first) place_slot ∙ length-in_order place_key first ∙ length-take n places (omega arith) in
    let some = there inside (omega (arith, many, within, kept.few)) in
    let order = subst AreInOrder (sym so_far.0) (AreInOrder-put first (apart-take place_stamp n places are.apart) so_far.1) in
    let free = ap (count_by (λ other. eqb other place.slot)) slots_are ∙ count_by-map (λ other. eqb other place.slot) place_slot (in_order place_key first) ∙ count_by-in_order place_key (has place_slot place.slot) first
    ∙ subst (λ (p : RowPlace). count_by (has place_slot p.slot) first ≡ 0) (sym is) (apart-next place_slot n places d within kept.slots) in
    let small : place.stamp < 4294967296 = subst (λ k. k < 4294967296) own (some-gives put (get_or stamps place.slot 0 < 4294967296) some fits) in
    let now = some-gives put _ some placed order free in
    let all_fit : Fits (take (n + 1) places) = rw add-one (subst Fits (sym (take-suc places n d within)) (all-append first (get_or places n d) so_far.1 (subst (λ (p : RowPlace). place_stamp p < 4294967296) is small))) in
    let more : take (n + 1) places ≡ first ++ get_or places n d ∷ [] = rw add-one (take-suc places n d within) in
    let new = new_key place first small so_far.1 (subst (λ (p : RowPlace). count_by (has place_stamp (place_stamp p)) first ≡ 0) (sym is) (apart-next place_stamp n places d within are.apart)) in (
      now ∙ ap (λ (p : RowPlace). put_in_order place_key p (places_of stamps rows)) (same_stamp (get_or stamps place.slot 0) place.stamp place.table place.slot own)
          ∙ ap (put_in_order place_key place) (so_far.0 ∙ ap (in_order place_key) (sym (append-nil first)))
          ∙ sym (in_order-middle place_key place first [] new)
          ∙ ap (in_order place_key) (ap (λ (p : RowPlace). first ++ p ∷ []) is ∙ sym more),
      all_fit,
    )
  where
    all-append : (xs : List RowPlace) (x : RowPlace) → Fits xs → place_stamp x < 4294967296 → Fits (xs ++ x ∷ [])
    all-append [] x all here = (here, tt)
    all-append (y ∷ ys) x all here = (all.0, all-append ys x all.1 here)

    length-take : (n : ℕ) (xs : List RowPlace) → n ≤ length xs → length (take n xs) ≡ n
    length-take zero [] most = refl
    length-take zero (x ∷ xs) most = refl
    length-take (suc n) [] most = absurd (omega arith)
    length-take (suc n) (x ∷ xs) most = ap suc (length-take n xs (omega arith))

-- and when all are, the rows are those of the slots
pub filled-all : (cells : ℕ) (stamps : List ℕ) (places : List RowPlace) (rows : SideRows) (n : ℕ) → length places ≤ n → IsFilled cells stamps places rows n
    → (slots : Slots) → ArePlacesIn cells places slots → AreStamps stamps slots → HasRows cells rows slots
filled-all cells stamps places rows n all filled slots are stamped =
    let so_far = filled slots are stamped in
    let from = places_from 0 slots in
    let whole = take_all n places all in
    let fits : Fits places = subst Fits whole so_far.1 in
    let fits_from : Fits from = all-out_of_order place_stamp (λ place. place_stamp place < 4294967296) from (subst Fits are.are fits) in
    let apart : AreApart place_stamp from = λ k. (let c = ap (count_by (has place_stamp k)) are.are ∙ count_by-in_order place_stamp (has place_stamp k) from in let a = are.apart k in omega arith) in
    let here : places_of stamps rows ≡ row_places slots =
    so_far.0 ∙ ap (in_order place_key) (whole ∙ are.are) ∙ in_order-again place_stamp place_key from apart (AreApart-keys from apart fits_from) in
    record {
      all = are.all;
      are = subst (AreRows rows) here (rows-of_places stamps rows);
      apart = λ k. (let c = count_by-in_order place_key (has place_stamp k) from in let a = apart k in omega arith);
      fits = all-in_order place_key (λ place. place_stamp place < 4294967296) from fits_from;
    }
