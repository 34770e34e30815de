-- The slots of a store are gathered as they are claimed.
use Rattle.std.proofs.Common.{◌≡◌, ◌≢◌, ◌⊎◌, ℕ, suc, ◌+◌, Bool, true, false, ◌&&◌, if◌then◌else◌, nat_le, List, [], ◌∷◌, ◌++◌, length, take, drop, Option, Some, None, option_map, refl, sym, ap, ◌∙◌, subst, append_assoc, length-append, inl, inr, arith}
use Rattle.std.specs.Prelude.{IfSome}
use Rattle.std.specs.List.{list_all, filter_map, cons_option, sum_by}
use Rattle.std.proofs.lemmas.Bool.{and_parts, and_from, false≢true}
use Rattle.std.proofs.lemmas.List.{take-append-drop}
use Rattle.std.proofs.lemmas.List.Elements.{filter_map-append}
use Rattle.std.proofs.lemmas.List.Folds.{list_all-append}
use Rattle.std.proofs.lemmas.List.Sums.{sum_by-cons}
use Rattle.std.proofs.lemmas.Option.{same_Some, none-some}
use Rattle.eeprom.specs.StoreOf.{Slots, Stored, slots_at, store_of}
use Rattle.eeprom.specs.Slots.{in_slot, in_order}
use Rattle.eeprom.proofs.InOrder.{sum_by-in_order}
use Rattle.record_store.specs.Opening.{HeldSoFar, StandsSoFar, slots_so_far, slot_with}
use Rattle.record_store.proofs.OpeningSlots.{so_far-first}
use Rattle.record_store.proofs.Weights.{limited, store-begins}
use Rattle.scql_model.specs.Records.{counter_in}
use Rattle.scql_model.specs.Database.{Database, IsValid}
use Rattle.scql_model.specs.Opens.{Holds, counter_stamp}
use Rattle.card.specs.Opening.{gathered, is_admitted, record_in}
use Rattle.card.specs.declared.kept_record.KeptRecord.{KeptRecord}
use Rattle.card.proofs.HeldKinds.{are_admitted, admitted-held, admitted-valid}

-- These are the counter and the other records in so many slots, each of which is admitted.
pub record Gathers (limit count : ℕ) (slots : Slots) (counter : Option ℕ) (records : List KeptRecord) : Type 0 where
  pub count_is : length slots ≡ count
  pub admitted : list_all (is_admitted limit) slots ≡ true
  pub counters : filter_map (in_slot counter_in) slots ≡ cons_option counter []
  pub records_are : gathered 0 slots ≡ records

-- the store holds no valid database
abbrev pub HoldsNone : Stored → Type 0
HoldsNone was = (db : Database) → db.limit ≡ was.row_limit → Holds was.slots db → IsValid db → ⊥

-- these were found in the slots so far
abbrev pub GathersSoFar : HeldSoFar → ℕ → Option (List ℕ) → Option ℕ → List KeptRecord → Type 0
GathersSoFar held count image counter records = IfSome image (λ image. IfSome (slots_so_far held image) (λ slots. Gathers held.row_limit count slots counter records))

-- one slot more
abbrev pub IsNext : HeldSoFar → HeldSoFar → List ℕ → List ℕ → Type 0
IsNext held next octets image = slots_so_far next image ≡ option_map (λ slots. slots ++ slot_with octets ∷ []) (slots_so_far held image)

gathered-append : (k : ℕ) (slots : Slots) (v : Option (List ℕ)) → gathered k (slots ++ v ∷ []) ≡ gathered k slots ++ cons_option (in_slot (record_in (k + length slots)) v) []
gathered-append k [] v = let same : k + 0 ≡ k = omega arith in rw same refl
gathered-append k (w ∷ slots) v =
    let same : suc k + length slots ≡ k + suc (length slots) = omega arith in
    ap (cons_option (in_slot (record_in k) w)) (gathered-append (suc k) slots v) ∙ (rw same (go (in_slot (record_in k) w) (gathered (suc k) slots) (cons_option (in_slot (record_in (k + suc (length slots))) v) [])))
  where
    go : (o : Option KeptRecord) (xs ys : List KeptRecord) → cons_option o (xs ++ ys) ≡ cons_option o xs ++ ys
    go None xs ys = refl
    go (Some x) xs ys = refl

gathers-more : (limit count : ℕ) (slots : Slots) (v : Option (List ℕ)) (counter counter' : Option ℕ) (records records' : List KeptRecord) → Gathers limit count slots counter records → is_admitted limit v ≡ true
    → cons_option counter' [] ≡ cons_option counter (cons_option (in_slot counter_in v) []) → records' ≡ records ++ cons_option (in_slot (record_in count) v) []
    → Gathers limit (count + 1) (slots ++ v ∷ []) counter' records'
gathers-more limit count slots v counter counter' records records' g admitted counters added = record {
  count_is = length-append slots (v ∷ []) ∙ ap (λ n. n + 1) g.count_is;
  admitted = list_all-append (is_admitted limit) slots (v ∷ []) ∙ and_from (list_all (is_admitted limit) slots) (is_admitted limit v && true) g.admitted (and_from (is_admitted limit v) true admitted refl);
  counters = filter_map-append (in_slot counter_in) slots (v ∷ []) ∙ ap (λ xs. xs ++ cons_option (in_slot counter_in v) []) g.counters ∙ go counter (cons_option (in_slot counter_in v) []) ∙ sym counters;
  records_are = gathered-append 0 slots v ∙ (rw place (ap (λ xs. xs ++ cons_option (in_slot (record_in count) v) []) g.records_are)) ∙ sym added;
}
  where
    place : 0 + length slots ≡ count
    place = omega (arith, g.count_is)

    go : (o : Option ℕ) (ys : List ℕ) → cons_option o [] ++ ys ≡ cons_option o ys
    go None ys = refl
    go (Some x) ys = refl

-- before the first slot
pub gathered-none : (held : HeldSoFar) (image : Option (List ℕ)) (records : List KeptRecord) → held.claimed ≡ 0 → records ≡ [] → GathersSoFar held 0 image None records
gathered-none held None records none empty = tt
gathered-none held (Some image) records none empty = subst (λ (k : ℕ). IfSome (slots_at image held.chains.cells (take k held.firsts)) (λ slots. Gathers held.row_limit 0 slots None records)) (sym none) (go (nat_le 0 held.chains.cells))
  where
    go : (b : Bool) → IfSome (if b then Some [] else None) (λ slots. Gathers held.row_limit 0 slots None records)
    go true = record { count_is = refl; admitted = refl; counters = refl; records_are = sym empty }
    go false = tt

pub gathered-next : (held next : HeldSoFar) (image : Option (List ℕ)) (octets : List ℕ) (count : ℕ) (counter counter' : Option ℕ) (records records' : List KeptRecord) → IfSome image (IsNext held next octets) → next.row_limit ≡ held.row_limit
    → is_admitted next.row_limit (slot_with octets) ≡ true → cons_option counter' [] ≡ cons_option counter (cons_option (in_slot counter_in (slot_with octets)) [])
    → records' ≡ records ++ cons_option (in_slot (record_in count) (slot_with octets)) [] → GathersSoFar held count image counter records → GathersSoFar next (count + 1) image counter' records'
gathered-next held next None octets count counter counter' records records' is rows admitted counters added g = tt
gathered-next held next (Some image) octets count counter counter' records records' is rows admitted counters added g =
    subst (λ (o : Option Slots). IfSome o (λ slots. Gathers next.row_limit (count + 1) slots counter' records')) (sym is) (go (slots_so_far held image) g)
  where
    go : (o : Option Slots) → IfSome o (λ slots. Gathers held.row_limit count slots counter records) → IfSome (option_map (λ slots. slots ++ slot_with octets ∷ []) o) (λ slots. Gathers next.row_limit (count + 1) slots counter' records')
    go None g = tt
    go (Some slots) g = gathers-more next.row_limit count slots (slot_with octets) counter counter' records records' (subst (λ limit. Gathers limit count slots counter records) (sym rows) g) admitted counters added

-- a slot that isn't admitted, or has a second counter, is none of a database
abbrev pub IsRefused : ℕ → Option ℕ → Option (List ℕ) → Type 0
IsRefused limit counter v = (is_admitted limit v ≡ false) ⊎ ((counter ≢ None) × (in_slot counter_in v ≢ None))

none-unadmitted : (limit : ℕ) (before : Slots) (v : Option (List ℕ)) (more : Slots) → is_admitted limit v ≡ false → HoldsNone (record { row_limit = limit; slots = before ++ v ∷ more })
none-unadmitted limit before v more unadmitted = λ db limited holds valid.
    let all = admitted-held limit (before ++ v ∷ more) db holds ∙ ap (λ (n : ℕ). are_admitted n db) (sym limited) ∙ admitted-valid db valid in
    let parts = and_parts (list_all (is_admitted limit) before) (list_all (is_admitted limit) (v ∷ more)) (sym (list_all-append (is_admitted limit) before (v ∷ more)) ∙ all) in
    false≢true (sym unadmitted ∙ (and_parts (is_admitted limit v) (list_all (is_admitted limit) more) parts.1).0)

one : ℕ → ℕ
one n = 1

none-two : (limit : ℕ) (slots : Slots) (a b : ℕ) (rest : List ℕ) → filter_map (in_slot counter_in) slots ≡ a ∷ b ∷ rest → HoldsNone (record { row_limit = limit; slots = slots })
unfolding one
none-two limit slots a b rest two = λ db limited holds valid.
    let c = ap (sum_by one) (sym holds.counter ∙ ap (in_order counter_stamp) two) in
    let d = sum_by-in_order counter_stamp one (a ∷ b ∷ rest) in
    let e = sum_by-cons one a (b ∷ rest) in
    let f = sum_by-cons one b rest in
    let g = sum_by-cons one db.next [] in
    omega (arith, c, d, e, f, g)

none-second : (limit count : ℕ) (before : Slots) (counter : Option ℕ) (records : List KeptRecord) (v : Option (List ℕ)) (more : Slots) → Gathers limit count before counter records → counter ≢ None → in_slot counter_in v ≢ None
    → HoldsNone (record { row_limit = limit; slots = before ++ v ∷ more })
none-second limit count before counter records v more g there some = go counter (in_slot counter_in v) refl there some
    (filter_map-append (in_slot counter_in) before (v ∷ more) ∙ ap (λ xs. xs ++ filter_map (in_slot counter_in) (v ∷ more)) g.counters)
  where
    go : (o p : Option ℕ) → p ≡ p → o ≢ None → p ≢ None → filter_map (in_slot counter_in) (before ++ v ∷ more) ≡ cons_option o [] ++ cons_option p (filter_map (in_slot counter_in) more)
        → HoldsNone (record { row_limit = limit; slots = before ++ v ∷ more })
    go None p is there some two = absurd (there refl)
    go (Some a) None is there some two = absurd (some refl)
    go (Some a) (Some b) is there some two = none-two limit (before ++ v ∷ more) a b (filter_map (in_slot counter_in) more) two

none-refused : (limit count : ℕ) (before : Slots) (counter : Option ℕ) (records : List KeptRecord) (v : Option (List ℕ)) (more : Slots) → Gathers limit count before counter records → IsRefused limit counter v
    → HoldsNone (record { row_limit = limit; slots = before ++ v ∷ more })
none-refused limit count before counter records v more g (inl unadmitted) = none-unadmitted limit before v more unadmitted
none-refused limit count before counter records v more g (inr second) = none-second limit count before counter records v more g second.0 second.1

-- the store of an image begins with the slots so far, and has the row limit that was read
pub none-next : (held next : HeldSoFar) (image : Option (List ℕ)) (octets : List ℕ) (count : ℕ) (counter : Option ℕ) (records : List KeptRecord) → IfSome image (IsNext held next octets) → next.row_limit ≡ held.row_limit → IfSome image (StandsSoFar next)
    → IsRefused next.row_limit counter (slot_with octets) → GathersSoFar held count image counter records → IfSome image (λ image. (was : Stored) → store_of image ≡ Some was → HoldsNone was)
none-next held next None octets count counter records is rows stands refused g = tt
none-next held next (Some image) octets count counter records is rows stands refused g = λ was there.
    let limit = (limited next.row_limit (slots_at image next.chains.cells next.firsts) was (sym (store-begins next.chains.cells next.row_limit next.firsts image stands.begins) ∙ there)).1 in
    subst (λ (limit : ℕ). HoldsNone (record { row_limit = limit; slots = was.slots })) limit (go was.slots (slots_so_far held image) g (sym is ∙ so_far-first next image was stands there))
  where
    go : (slots : Slots) (o : Option Slots) → IfSome o (λ slots. Gathers held.row_limit count slots counter records) → option_map (λ slots. slots ++ slot_with octets ∷ []) o ≡ Some (take next.claimed slots)
        → HoldsNone (record { row_limit = next.row_limit; slots = slots })
    go slots None g first = absurd (none-some (take next.claimed slots) first)
    go slots (Some before) g first =
        let more : Slots = drop next.claimed slots in
        let whole : before ++ slot_with octets ∷ more ≡ slots = sym (append_assoc before (slot_with octets ∷ []) more) ∙ (ap (λ (front : Slots). front ++ more) (same_Some _ _ first) ∙ take-append-drop next.claimed slots) in
        subst (λ (slots : Slots). HoldsNone (record { row_limit = next.row_limit; slots = slots })) whole
        (none-refused next.row_limit count before counter records (slot_with octets) more (subst (λ limit. Gathers limit count before counter records) (sym rows) g) refused)

pub none-stored : (image : Option (List ℕ)) → IfSome image (λ image. store_of image ≡ None) → IfSome image (λ image. (was : Stored) → store_of image ≡ Some was → HoldsNone was)
none-stored None none = tt
none-stored (Some image) none = λ was is. absurd (none-some was (sym none ∙ is))
