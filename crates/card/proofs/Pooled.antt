-- The records of a pool, by their places.
use Rattle.std.proofs.Common.{◌≡◌, ℕ, zero, suc, ◌+◌, ◌-◌, ◌<◌, ◌≤◌, ◌==◌, eqb, List, [], ◌∷◌, ◌++◌, length, get_or, take, drop, map, Option, Some, None, option_map, refl, sym, ap, subst, ◌∙◌, length-append, length-drop, inl, inr, arith}
use Rattle.std.specs.Prelude.{option_and_then, unwrap_or, slice_range}
use Rattle.std.specs.List.{find, filter_map, cons_option, count_by, AllByRecursion}
use Rattle.std.specs.List.Sorted.{IsPermutation, IsNonDecreasingBy}
use Rattle.std.proofs.lemmas.Bool.{cases_Bool}
use Rattle.std.proofs.lemmas.List.{take_all, take-append-le, drop-append-le}
use Rattle.std.proofs.lemmas.List.Elements.{All-from_recursion, recursion_from_All, filter_map-append}
use Rattle.std.proofs.lemmas.List.Sorted.{All-permutation, IsPermutation-map}
use Rattle.std.proofs.lemmas.Option.{none-some, same_Some}
use Rattle.std.proofs.Math.Seq.{drop-append_seam}
use Rattle.eeprom.specs.Slots.{AreApart, Rises, has}
use Rattle.scql_model.proofs.ContentsRise.{Rises-map}
use Rattle.scql_model.specs.Rules.{owner}
use Rattle.card.specs.declared.kept_record.KeptRecord.{KeptRecord}
use Rattle.card.specs.declared.kept_record.KeptRecord.TheVariants as kept_as
use Rattle.card.specs.declared.kept_records.RecordPlace.{RecordPlace}
use Rattle.card.specs.KeptRecords.{stamp_of}
use Rattle.card.specs.Opening.{record_in, record_of}
use Rattle.card.specs.Pool.{IsPlaceIn, Pool, pool_of, record_at}
use Rattle.card.proofs.Sorting.{rises-apart, AreApart-permuted}
use Rattle.card.proofs.Tested.{count-map}

abbrev pub place_stamp : RecordPlace → ℕ
place_stamp place = place.stamp

-- the record in a place where each place has one
abbrev pub entry_at : List ℕ → RecordPlace → KeptRecord
entry_at octets place = record_of place.slot (slice_range octets place.start (place.start + place.length))

-- octets of which the stamp was read are a record with that stamp
pub spelled : (slot : ℕ) (octets : List ℕ) (stamp : ℕ) → option_map stamp_of (record_in slot octets) ≡ Some stamp → (record_in slot octets ≡ Some (record_of slot octets)) × (stamp ≡ stamp_of (record_of slot octets))
spelled slot octets stamp read = go (record_in slot octets) read
  where
    go : (o : Option KeptRecord) → option_map stamp_of o ≡ Some stamp → (o ≡ Some (unwrap_or o (kept_as.User owner))) × (stamp ≡ stamp_of (unwrap_or o (kept_as.User owner)))
    go None none = absurd (none-some stamp none)
    go (Some r) read = (refl, sym (same_Some (stamp_of r) stamp read))

pub found : (octets : List ℕ) (place : RecordPlace) → IsPlaceIn octets place → record_at octets place ≡ Some (entry_at octets place)
found octets place is = (spelled place.slot (slice_range octets place.start (place.start + place.length)) place.stamp is.stamped).0

pub entry-stamp : (octets : List ℕ) (place : RecordPlace) → IsPlaceIn octets place → stamp_of (entry_at octets place) ≡ place.stamp
entry-stamp octets place is = sym (spelled place.slot (slice_range octets place.start (place.start + place.length)) place.stamp is.stamped).1

entries : (octets : List ℕ) (places : List RecordPlace) → AllByRecursion (IsPlaceIn octets) places → filter_map (record_at octets) places ≡ map (entry_at octets) places
entries octets [] all = refl
entries octets (place ∷ places) all =
    ap (λ (o : Option KeptRecord). cons_option o (filter_map (record_at octets) places)) (found octets place all.0) ∙ ap (λ (rs : List KeptRecord). entry_at octets place ∷ rs) (entries octets places all.1)

pub length-entries : (octets : List ℕ) (places : List RecordPlace) → AllByRecursion (IsPlaceIn octets) places → length (filter_map (record_at octets) places) ≡ length places
length-entries octets [] all = refl
length-entries octets (place ∷ places) all =
    ap (λ (o : Option KeptRecord). length (cons_option o (filter_map (record_at octets) places))) (found octets place all.0) ∙ ap suc (length-entries octets places all.1)

-- Their stamps are those of the places.
stamps : (octets : List ℕ) (places : List RecordPlace) → AllByRecursion (IsPlaceIn octets) places → map stamp_of (filter_map (record_at octets) places) ≡ map place_stamp places
stamps octets [] all = refl
stamps octets (place ∷ places) all =
    ap (λ (o : Option KeptRecord). map stamp_of (cons_option o (filter_map (record_at octets) places))) (found octets place all.0)
    ∙ rw (entry-stamp octets place all.0) (ap (λ (ns : List ℕ). place.stamp ∷ ns) (stamps octets places all.1))

abbrev itself : ℕ → ℕ
itself n = n

Rises-of : {X : Type 0} (key : X → ℕ) (xs : List X) → Rises itself (map key xs) → Rises key xs
Rises-of key [] rises = tt
Rises-of {X = X} key (x ∷ xs) rises = (above-of (key x) xs rises.0, Rises-of key xs rises.1)
  where
    above-of : (k : ℕ) (xs : List X) → AllByRecursion (λ n. k < n) (map key xs) → AllByRecursion (λ x. k < key x) xs
    above-of k [] all = tt
    above-of k (x ∷ xs) all = (all.0, above-of k xs all.1)

pub rise-entries : (octets : List ℕ) (places : List RecordPlace) → AllByRecursion (IsPlaceIn octets) places → Rises place_stamp places → Rises stamp_of (filter_map (record_at octets) places)
rise-entries octets places all rises =
    Rises-of stamp_of (filter_map (record_at octets) places) (subst (Rises itself) (sym (stamps octets places all)) (Rises-map itself place_stamp places rises))

pub rise-places : (octets : List ℕ) (places : List RecordPlace) → AllByRecursion (IsPlaceIn octets) places → Rises stamp_of (filter_map (record_at octets) places) → Rises place_stamp places
rise-places octets places all rises =
    Rises-of place_stamp places (subst (Rises itself) (stamps octets places all) (Rises-map itself stamp_of (filter_map (record_at octets) places) rises))

apart-places : (octets : List ℕ) (places : List RecordPlace) → AllByRecursion (IsPlaceIn octets) places → AreApart stamp_of (filter_map (record_at octets) places) → AreApart place_stamp places
apart-places octets places all apart = λ k.
    let same : count_by (has stamp_of k) (filter_map (record_at octets) places) ≡ count_by (has place_stamp k) places =
    sym (count-map (has itself k) stamp_of (filter_map (record_at octets) places)) ∙ ap (count_by (has itself k)) (stamps octets places all) ∙ count-map (has itself k) place_stamp places in
    subst (λ (n : ℕ). n ≤ 1) same (apart k)

-- More octets behind change no record.
range-kept : (octets more : List ℕ) (start n : ℕ) → start + n ≤ length octets → slice_range (octets ++ more) start (start + n) ≡ slice_range octets start (start + n)
range-kept octets more start n within =
    ap (take (start + n - start)) (drop-append-le start octets more (omega arith)) ∙ take-append-le (start + n - start) (drop start octets) more (let h = length-drop start octets in omega arith)

kept : (octets more : List ℕ) (place : RecordPlace) → IsPlaceIn octets place → record_at (octets ++ more) place ≡ record_at octets place
kept octets more place is = ap (record_in place.slot) (range-kept octets more place.start place.length is.within)

kept-all : (octets more : List ℕ) (places : List RecordPlace) → AllByRecursion (IsPlaceIn octets) places → filter_map (record_at (octets ++ more)) places ≡ filter_map (record_at octets) places
kept-all octets more [] all = refl
kept-all octets more (place ∷ places) all =
    ap (λ (o : Option KeptRecord). cons_option o (filter_map (record_at (octets ++ more)) places)) (kept octets more place all.0) ∙ ap (cons_option (record_at octets place)) (kept-all octets more places all.1)

within-all : (octets more : List ℕ) (places : List RecordPlace) → AllByRecursion (IsPlaceIn octets) places → AllByRecursion (IsPlaceIn (octets ++ more)) places
within-all octets more [] all = tt
within-all octets more (place ∷ places) all = (
  record { within = (let h = length-append octets more in let w = all.0.within in omega arith); stamped = ap (option_map stamp_of) (kept octets more place all.0) ∙ all.0.stamped },
  within-all octets more places all.1,
)

-- A record behind them is the last.
behind : (octets more : List ℕ) (place : RecordPlace) (r : KeptRecord) → place.start ≡ length octets → place.length ≡ length more → record_in place.slot more ≡ Some r → record_at (octets ++ more) place ≡ Some r
behind octets more place r start size is = ap (record_in place.slot) range ∙ is
  where
    range : slice_range (octets ++ more) place.start (place.start + place.length) ≡ more
    range = rw (start, size) (ap (take (length octets + length more - length octets)) (drop-append_seam octets more) ∙ take_all (length octets + length more - length octets) more (omega arith))

pub added : (octets more : List ℕ) (places : List RecordPlace) (place : RecordPlace) (r : KeptRecord) → AllByRecursion (IsPlaceIn octets) places → place.start ≡ length octets → place.length ≡ length more → record_in place.slot more ≡ Some r
    → filter_map (record_at (octets ++ more)) (places ++ place ∷ []) ≡ filter_map (record_at octets) places ++ r ∷ []
added octets more places place r all start size is =
    filter_map-append (record_at (octets ++ more)) places (place ∷ [])
    ∙ ap (λ (rs : List KeptRecord). rs ++ cons_option (record_at (octets ++ more) place) []) (kept-all octets more places all)
    ∙ ap (λ (o : Option KeptRecord). filter_map (record_at octets) places ++ cons_option o []) (behind octets more place r start size is)

all-push : {X : Type 0} (P : X → Type 0) (xs : List X) (x : X) → AllByRecursion P xs → P x → AllByRecursion P (xs ++ x ∷ [])
all-push P [] x all one = (one, tt)
all-push P (y ∷ ys) x all one = (all.0, all-push P ys x all.1 one)

pub added-places : (octets more : List ℕ) (places : List RecordPlace) (place : RecordPlace) (r : KeptRecord) → AllByRecursion (IsPlaceIn octets) places → place.start ≡ length octets → place.length ≡ length more → record_in place.slot more ≡ Some r
    → place.stamp ≡ stamp_of r → AllByRecursion (IsPlaceIn (octets ++ more)) (places ++ place ∷ [])
added-places octets more places place r all start size is stamp =
    all-push (IsPlaceIn (octets ++ more)) places place (within-all octets more places all)
    (record { within = (let h = length-append octets more in omega arith); stamped = ap (option_map stamp_of) (behind octets more place r start size is) ∙ ap Some (sym stamp) })

-- Places in another order.
pub all-permuted : {X : Type 0} (P : X → Type 0) (xs ys : List X) → IsPermutation xs ys → AllByRecursion P xs → AllByRecursion P ys
all-permuted P xs ys permuted all = recursion_from_All P ys (All-permutation P xs ys permuted (All-from_recursion P xs all))

pub permuted-entries : (octets : List ℕ) (places sorted : List RecordPlace) → AllByRecursion (IsPlaceIn octets) places → IsPermutation places sorted
    → IsPermutation (filter_map (record_at octets) places) (filter_map (record_at octets) sorted)
permuted-entries octets places sorted all permuted =
    rw (entries octets places all, entries octets sorted (all-permuted (IsPlaceIn octets) places sorted permuted all)) (IsPermutation-map (entry_at octets) places sorted permuted)

pub sorted-entries : (octets : List ℕ) (places sorted : List RecordPlace) → AllByRecursion (IsPlaceIn octets) places → IsPermutation places sorted → IsNonDecreasingBy place_stamp sorted
    → AreApart stamp_of (filter_map (record_at octets) places) → Rises stamp_of (filter_map (record_at octets) sorted)
sorted-entries octets places sorted all permuted up apart =
    rise-entries octets sorted (all-permuted (IsPlaceIn octets) places sorted permuted all)
    (rises-apart place_stamp sorted up (AreApart-permuted place_stamp places sorted permuted (apart-places octets places all apart)))

-- The record at an index, and that of a stamp.
pub entry-at : (octets : List ℕ) (places : List RecordPlace) (i : ℕ) (place : RecordPlace) (r : KeptRecord) → AllByRecursion (IsPlaceIn octets) places → i < length places → place ≡ get_or places i place → Some r ≡ record_at octets place
    → r ≡ get_or (filter_map (record_at octets) places) i r
entry-at octets [] i place r all lt is read = absurd (omega arith)
entry-at octets (p ∷ ps) zero place r all lt is read =
    sym (ap (λ (o : Option KeptRecord). get_or (cons_option o (filter_map (record_at octets) ps)) zero r) (ap (record_at octets) (sym is) ∙ sym read))
entry-at octets (p ∷ ps) (suc i) place r all lt is read =
    entry-at octets ps i place r all.1 (omega arith) is read ∙ sym (ap (λ (o : Option KeptRecord). get_or (cons_option o (filter_map (record_at octets) ps)) (suc i) r) (found octets p all.0))

pub place-at : (octets : List ℕ) (places : List RecordPlace) (i : ℕ) (place : RecordPlace) → AllByRecursion (IsPlaceIn octets) places → i < length places → place ≡ get_or places i place → IsPlaceIn octets place
place-at octets [] i place all lt is = absurd (omega arith)
place-at octets (p ∷ ps) zero place all lt is = subst (IsPlaceIn octets) (sym is) all.0
place-at octets (p ∷ ps) (suc i) place all lt is = place-at octets ps i place all.1 (omega arith) is

pub find-entries : (octets : List ℕ) (places : List RecordPlace) (k : ℕ) → AllByRecursion (IsPlaceIn octets) places
    → find (λ (r : KeptRecord). stamp_of r == k) (filter_map (record_at octets) places) ≡ option_and_then (record_at octets) (find (λ place. place_stamp place == k) places)
find-entries octets [] k all = refl
find-entries octets (place ∷ places) k all =
    ap (λ (o : Option KeptRecord). find (λ (r : KeptRecord). stamp_of r == k) (cons_option o (filter_map (record_at octets) places))) (found octets place all.0)
    ∙ (elim (cases_Bool (eqb place.stamp k)) [
      | inl t ↦ rw (entry-stamp octets place all.0, t) (sym (found octets place all.0))
      | inr f ↦ rw (entry-stamp octets place all.0, f) (find-entries octets places k all.1)
    ])

-- The same of a pool as it is seen.
pub length-pool : (octets : List ℕ) (places : List RecordPlace) (cells : ℕ) (pool : Pool) → pool_of octets places cells ≡ pool → AllByRecursion (IsPlaceIn octets) places → length places ≡ length pool.items
length-pool octets places cells pool seen all = sym (length-entries octets places all) ∙ ap (λ (p : Pool). length p.items) seen

pub items-seen : (octets : List ℕ) (places : List RecordPlace) (cells : ℕ) (pool : Pool) → pool_of octets places cells ≡ pool → filter_map (record_at octets) places ≡ pool.items
items-seen octets places cells pool seen = ap (λ (p : Pool). p.items) seen

abbrev pool_with : List KeptRecord → ℕ → ℕ → Pool
pool_with items n k = record { items = items; size = n; cells = k }

pub pool-added : (octets more octets' : List ℕ) (places places' : List RecordPlace) (place : RecordPlace) (cells cells' : ℕ) (pool : Pool) (r : KeptRecord) → pool_of octets places cells ≡ pool → AllByRecursion (IsPlaceIn octets) places
    → place.start ≡ length octets → place.length ≡ length more → record_in place.slot more ≡ Some r → octets' ≡ octets ++ more → places' ≡ places ++ place ∷ [] → cells' ≡ cells
    → pool_of octets' places' cells' ≡ record { items = pool.items ++ r ∷ []; size = pool.size + length more; cells = pool.cells }
pool-added octets more octets' places places' place cells cells' pool r seen all start size is same same_places same_cells =
    parts
    (ap (λ (o : List ℕ). filter_map (record_at o) places') same ∙ ap (filter_map (record_at (octets ++ more))) same_places ∙ added octets more places place r all start size is
    ∙ ap (λ (rs : List KeptRecord). rs ++ r ∷ []) (items-seen octets places cells pool seen))
    (ap length same ∙ length-append octets more ∙ ap (λ (p : Pool). p.size + length more) seen) (same_cells ∙ ap (λ (p : Pool). p.cells) seen)
  where
    parts : {items items' : List KeptRecord} {n n' k k' : ℕ} → items ≡ items' → n ≡ n' → k ≡ k' → pool_with items n k ≡ pool_with items' n' k'
    parts a b c = rw (a, b, c) refl
