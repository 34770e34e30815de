-- Runs: the numbers of neighbouring slots, which wait to be written together.
use Rattle.std.proofs.Common.{◌≡◌, inl, inr, ℕ, ◌+◌, ◌*◌, ◌<◌, ◌≤◌, ◌==◌, true, false, List, ◌++◌, length, take, get_or, Option, option_map, IfSome, refl, sym, ap, ◌∙◌, subst, arith, length-append, eq-eqb}
use Rattle.std.proofs.Math.ListN.{set}
use Rattle.std.specs.List.{list_all}
use Rattle.std.proofs.lemmas.Bool.{cases_Bool, and_parts, eqb-true, ltb-true}
use Rattle.std.proofs.lemmas.List.{take_all}
use Rattle.std.proofs.lemmas.List.Folds.{list_all_at, list_any_at}
use Rattle.eeprom.specs.Chip.{Chip, Writes, Becomes, LeavesOf}
use Rattle.eeprom.specs.Frame.{HasRoom}
use Rattle.eeprom.specs.Image.{overwrite, IsTorn}
use Rattle.eeprom.specs.StoreOf.{image_size, is_entry, two_octets, written_directory, with_entries}
use Rattle.eeprom.specs.declared.entry.Entry.{Entry}
use Rattle.eeprom.proofs.Overwrite.{map-some, overwrite-behind}
use Rattle.eeprom.proofs.Regions.{length-overwrite}
use Rattle.journal.specs.Redo.{IsRewritten, IsRun, names}
use Rattle.journal.specs.Run.{Numbers, SameOutside, place_of, promised}
use Rattle.journal.proofs.Entries.{number-set, with-more}
use Rattle.eeprom.proofs.Leaves.{at-told, write-leaves, leaves-weaker, leaves-then, leaves-last}
use Rattle.journal.proofs.Redoing.{rewritten-run, rewritten-then}
use Rattle.journal.proofs.Outside.{torn-outside}

-- a run that is written
pub run-leaves : (run : Numbers) (octets : List ℕ) (from to : ℕ) (old new : Chip) → octets ≡ run.octets → IfSome old.past (λ past. length past ≡ old.clock) → IfSome old.image (λ image. length image ≡ old.still.size)
    → Writes (place_of run) octets old new → place_of run + length run.octets ≤ old.still.size → from ≤ place_of run → place_of run + length run.octets ≤ to → LeavesOf (SameOutside from to) old new
run-leaves run octets from to old new same clocked sized w room after before =
    leaves-weaker old new (λ was left. IsTorn was (place_of run) (length octets) left) (SameOutside from to)
    (λ was left told torn. torn-outside was left (place_of run) (length run.octets) from to after before (omega (arith, at-told (λ image. length image ≡ old.still.size) old.image was told sized))
    (subst (λ (xs : List ℕ). IsTorn was (place_of run) (length xs) left) same torn))
    (write-leaves (place_of run) octets old new clocked w)

pub whole-written : (run : Numbers) (old new : Option (List ℕ)) → new ≡ option_map (promised run) old → Becomes (λ was now. now ≡ promised run was) old new
whole-written run old new written after told = map-some (promised run) old after (sym written ∙ told)

pub rewritten-leaves-run : (n : ℕ) (entries : List Entry) (run : Numbers) (old new : Chip) → IsRun n entries run → LeavesOf (SameOutside (place_of run) (place_of run + length run.octets)) old new → LeavesOf (IsRewritten n entries) old new
rewritten-leaves-run n entries run old new is =
    leaves-weaker old new (SameOutside (place_of run) (place_of run + length run.octets)) (IsRewritten n entries) (λ was left told same. rewritten-run n entries run was left is same)

-- one run after another
pub rewritten-leaves : (n : ℕ) (entries : List Entry) (old mid new : Chip) → mid.still ≡ old.still → LeavesOf (IsRewritten n entries) old mid → LeavesOf (IsRewritten n entries) mid new → LeavesOf (IsRewritten n entries) old new
rewritten-leaves n entries old mid new still first second =
    leaves-then old mid new (IsRewritten n entries) (IsRewritten n entries) (IsRewritten n entries) still (leaves-last (IsRewritten n entries) old mid first) (rewritten-then n entries) first second

pub room-still : (n : ℕ) (old mid : Chip) → mid.still ≡ old.still → HasRoom n old → HasRoom n mid
room-still n old mid still room = omega (arith, room, ap (λ still. still.size) still)

-- an entry among those that are in range names a slot
pub entry-within : (n : ℕ) (entries : List Entry) (i : ℕ) (d : Entry) → i < length entries → list_all (is_entry n) entries ≡ true → (get_or entries i d).slot < n
entry-within n entries i d inside all = elim (cases_Bool (is_entry n (get_or entries i d))) [
  | inl t ↦ ltb-true (get_or entries i d).slot n (and_parts _ _ t).0
  | inr f ↦ absurd (let none = list_all_at (is_entry n) entries i d inside f in cc)
]

pub entry-named : (entries : List Entry) (i : ℕ) (d : Entry) → i < length entries → names entries (get_or entries i d).slot ≡ true
entry-named entries i d inside = list_any_at (λ entry. entry.slot == (get_or entries i d).slot) entries i d inside (eq-eqb (get_or entries i d).slot (get_or entries i d).slot refl)

-- a run with one number more
pub run-pushed : (n : ℕ) (entries : List Entry) (run pushed : Numbers) (slot first : ℕ) → IsRun n entries run → length run.octets + 2 * run.index ≡ 2 * slot → slot < n → names entries slot ≡ true
    → pushed.octets ≡ run.octets ++ two_octets first → pushed.index ≡ run.index → IsRun n entries pushed
run-pushed n entries run pushed slot first is next within named items same =
    let size = is.size in
    let more : length pushed.octets ≡ length run.octets + 2 = ap (λ (xs : List ℕ). length xs) items ∙ length-append run.octets (two_octets first) in
    let last : run.index + is.count ≡ slot = omega arith in
    record {
      count = is.count + 1;
      size = omega arith;
      within = omega arith;
      named = λ k from below. elim (cases_Bool (slot == k)) [
        | inl t ↦ subst (λ (k : ℕ). names entries k ≡ true) (eqb-true slot k t) named
        | inr f ↦ is.named k (omega arith) (below-last k slot (run.index + is.count) f last (omega arith))
      ];
    }
  where
    below-last : (k slot end : ℕ) → (slot == k) ≡ false → end ≡ slot → k < end + 1 → k < end
    below-last k slot end f last below = grind arith

-- the image that it promises
promised-pushed : (run pushed : Numbers) (slot first : ℕ) (image : List ℕ) → length run.octets + 2 * run.index ≡ 2 * slot → pushed.octets ≡ run.octets ++ two_octets first → pushed.index ≡ run.index
    → promised pushed image ≡ overwrite (promised run image) (32 + 2 * slot) (two_octets first)
promised-pushed run pushed slot first image next items same =
    let place : 32 + 2 * run.index + length run.octets ≡ 32 + 2 * slot = omega arith in
    ap (λ (slot : ℕ). overwrite image (32 + 2 * slot) pushed.octets) same
    ∙ ap (λ (octets : List ℕ). overwrite image (32 + 2 * run.index) octets) items
    ∙ sym (overwrite-behind image (32 + 2 * run.index) run.octets (two_octets first))
    ∙ ap (λ (place : ℕ). overwrite (promised run image) place (two_octets first)) place

pub directory-pushed : (n : ℕ) (entries : List Entry) (run pushed : Numbers) (slot first : ℕ) (image : List ℕ) → IsRun n entries run → image_size n ≤ length image → length run.octets + 2 * run.index ≡ 2 * slot → slot < n
    → pushed.octets ≡ run.octets ++ two_octets first → pushed.index ≡ run.index → written_directory (promised pushed image) n ≡ set (written_directory (promised run image) n) slot first
directory-pushed n entries run pushed slot first image is room next within items same =
    let size = is.size in
    let end = is.within in
    let whole : length (promised run image) ≡ length image = length-overwrite image (32 + 2 * run.index) run.octets (omega arith) in
    ap (λ (xs : List ℕ). written_directory xs n) (promised-pushed run pushed slot first image next items same)
    ∙ number-set (promised run image) n slot first (32 + 2 * slot) within (omega arith) refl

-- one entry more
pub written-more : (n : ℕ) (entries : List Entry) (i : ℕ) (d : Entry) (run mid pushed : Numbers) (old between new : Chip) → i < length entries → list_all (is_entry n) entries ≡ true
    → IfSome new.image (λ image. length image ≡ new.still.size) → HasRoom n new
    → IsRun n entries mid → length mid.octets + 2 * mid.index ≡ 2 * (get_or entries i d).slot
    → pushed.octets ≡ mid.octets ++ two_octets (get_or entries i d).first → pushed.index ≡ mid.index
    → Becomes (λ was now. written_directory (promised run now) n ≡ with_entries (take i entries) (written_directory was n)) old.image between.image
    → Becomes (λ was now. promised mid now ≡ promised run was) between.image new.image
    → Becomes (λ was now. written_directory (promised pushed now) n ≡ with_entries (take (i + 1) entries) (written_directory was n)) old.image new.image
written-more n entries i d run mid pushed old between new inside all sized room is next items same before promise after told =
    let b = promise after told in
    let a = before b.0 b.1 in
    let within = entry-within n entries i d inside all in
    let long : image_size n ≤ length after = omega (arith, at-told (λ image. length image ≡ new.still.size) new.image after told sized, room) in (
      a.0,
      a.1,
      directory-pushed n entries mid pushed (get_or entries i d).slot (get_or entries i d).first after is long next within items same
          ∙ ap (λ (firsts : List ℕ). set firsts (get_or entries i d).slot (get_or entries i d).first) (ap (λ (xs : List ℕ). written_directory xs n) b.2 ∙ a.2)
          ∙ sym (with-more entries i d (written_directory a.0 n) inside),
    )

-- the last run
pub run-done : (n i : ℕ) (entries : List Entry) (run : Numbers) (old mid new : Option (List ℕ)) → length entries ≤ i → Becomes (λ was now. written_directory (promised run now) n ≡ with_entries (take i entries) (written_directory was n)) old mid
    → Becomes (λ was now. now ≡ promised run was) mid new → Becomes (λ was now. written_directory now n ≡ with_entries entries (written_directory was n)) old new
run-done n i entries run old mid new all before last after told =
    let from = last after told in
    let a = before from.0 from.1 in
    let whole : take i entries ≡ entries = take_all i entries all in
    (a.0, a.1, ap (λ (xs : List ℕ). written_directory xs n) from.2 ∙ a.2 ∙ ap (λ (es : List Entry). with_entries es (written_directory a.0 n)) whole)

pub octets-more : (old between new : Option ℕ) (waits mids pushes more before all : ℕ) → pushes ≡ mids + more → all ≡ before + more → Becomes (λ was now. now + waits ≡ was + before) old between
    → Becomes (λ was now. now + mids ≡ was + waits) between new → Becomes (λ was now. now + pushes ≡ was + all) old new
octets-more old between new waits mids pushes more before all longer sum now after told' told =
    let b = after told' told in
    let a = now b.0 b.1 in
    (a.0, a.1, omega (arith, a.2, b.2))
