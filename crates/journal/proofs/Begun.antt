-- The journal of a commit, as far as it is written or waits in a run.
use Rattle.std.proofs.Common.{◌≡◌, ℕ, ◌+◌, ◌*◌, ◌<◌, ◌≤◌, ◌&&◌, nat_le, IsTrue, Bool, true, List, [], ◌∷◌, ◌++◌, length, take, get_or, Option, IfSome, refl, sym, ap, ap₂, ◌∙◌, subst, arith, append_assoc, length-append, length-take-le}
use Rattle.std.proofs.lemmas.Bool.{le-leb}
use Rattle.std.proofs.lemmas.List.{take_all, take_more}
use Rattle.std.specs.List.{list_all}
use Rattle.eeprom.specs.Chip.{Chip, Becomes, LeavesOf}
use Rattle.eeprom.specs.Frame.{HasRoom}
use Rattle.eeprom.specs.Image.{overwrite}
use Rattle.eeprom.specs.StoreOf.{number_at, entries_at, image_size, journal, journal_place, is_entry, two_octets}
use Rattle.eeprom.specs.declared.entry.Entry.{Entry}
use Rattle.eeprom.proofs.Leaves.{leaves-last, leaves-then, leaves-weaker}
use Rattle.eeprom.proofs.Overwrite.{overwrite-behind}
use Rattle.journal.specs.Redo.{HasJournal}
use Rattle.journal.specs.Run.{Numbers, SameOutside, promised}
use Rattle.journal.proofs.Finishing.{long-enough}
use Rattle.journal.proofs.Outside.{alike-written, number-alike, entries-alike, outside-then, take-less, drop-more}
use Rattle.journal.proofs.Pushed.{entries-pushed, first-number, number-front}

-- once the run is written, a journal says this number of entries and has these
pub record IsBegun (n count : ℕ) (entries : List Entry) (run : Numbers) (was now : List ℕ) : Type 0 where
  pub octets : List ℕ
  pub number : number_at octets 0 ≡ count
  pub listed : entries_at octets 2 (length entries) ≡ entries
  pub size : length octets ≡ 2 + 4 * length entries
  pub promises : promised run now ≡ overwrite was (journal_place n) octets

pub begun : (n count : ℕ) (run pushed : Numbers) (image : Option (List ℕ)) → run.index ≡ n → run.octets ≡ [] → pushed.octets ≡ run.octets ++ two_octets count → pushed.index ≡ run.index
    → Becomes (IsBegun n count [] pushed) image image
begun n count run pushed image first none items same after told = (
  after,
  told,
  record {
    octets = two_octets count;
    number = first-number count;
    listed = refl;
    size = refl;
    promises = ap₂ (λ (index : ℕ) (octets : List ℕ). overwrite after (32 + 2 * index) octets) (same ∙ first) (items ∙ ap (λ (xs : List ℕ). xs ++ two_octets count) none);
  },
)

-- one entry more
begun-pushed : (n count slot first : ℕ) (entries : List Entry) (run mid pushed last : Numbers) (was between now : List ℕ) → IsBegun n count entries run was between → promised mid now ≡ promised run between
    → length mid.octets + 2 * mid.index ≡ 2 * (n + 1 + 2 * length entries) → pushed.octets ≡ mid.octets ++ two_octets slot → pushed.index ≡ mid.index → last.octets ≡ pushed.octets ++ two_octets first → last.index ≡ pushed.index
    → IsBegun n count (entries ++ record { slot = slot; first = first } ∷ []) last was now
begun-pushed n count slot first entries run mid pushed last was between now is stays next items same items' same' =
    let size = is.size in
    let place : 32 + 2 * mid.index + length mid.octets ≡ journal_place n + length is.octets = omega arith in
    let both : last.octets ≡ mid.octets ++ (two_octets slot ++ two_octets first) =
    items' ∙ ap (λ (xs : List ℕ). xs ++ two_octets first) items ∙ append_assoc mid.octets (two_octets slot) (two_octets first) in
    let more : length (entries ++ record { slot = slot; first = first } ∷ []) ≡ length entries + 1 = length-append entries _ in
    record {
      octets = (is.octets ++ two_octets slot) ++ two_octets first;
      number = number-front (is.octets ++ two_octets slot) (two_octets first) 0 (omega (arith, length-append is.octets (two_octets slot))) ∙ number-front is.octets (two_octets slot) 0 (omega arith) ∙ is.number;
      listed = ap (λ (count : ℕ). entries_at ((is.octets ++ two_octets slot) ++ two_octets first) 2 count) more ∙ entries-pushed is.octets (length entries) slot first entries size is.listed;
      size = omega (arith, more, length-append is.octets (two_octets slot), length-append (is.octets ++ two_octets slot) (two_octets first));
      promises = ap₂ (λ (index : ℕ) (octets : List ℕ). overwrite now (32 + 2 * index) octets) (same' ∙ same) both
          ∙ sym (overwrite-behind now (32 + 2 * mid.index) mid.octets (two_octets slot ++ two_octets first))
          ∙ ap₂ (λ (image : List ℕ) (place : ℕ). overwrite image place (two_octets slot ++ two_octets first)) (stays ∙ is.promises) place
          ∙ overwrite-behind was (journal_place n) is.octets (two_octets slot ++ two_octets first)
          ∙ ap (λ (xs : List ℕ). overwrite was (journal_place n) xs) (sym (append_assoc is.octets (two_octets slot) (two_octets first)));
    }

pub begun-more : (n count i index : ℕ) (d : Entry) (entries : List Entry) (run mid pushed last : Numbers) (old between new : Option (List ℕ)) → i < length entries → index ≡ n + 1 + 2 * i
    → Becomes (IsBegun n count (take i entries) run) old between → Becomes (λ was now. promised mid now ≡ promised run was) between new → length mid.octets + 2 * mid.index ≡ 2 * index
    → pushed.octets ≡ mid.octets ++ two_octets (get_or entries i d).slot → pushed.index ≡ mid.index → last.octets ≡ pushed.octets ++ two_octets (get_or entries i d).first → last.index ≡ pushed.index
    → Becomes (IsBegun n count (take (i + 1) entries) last) old new
begun-more n count i index d entries run mid pushed last old between new inside place before promise next items same items' same' after told =
    let b = promise after told in
    let a = before b.0 b.1 in
    let few : length (take i entries) ≡ i = length-take-le i entries (omega arith) in (
      a.0,
      a.1,
      subst (λ (entries : List Entry). IsBegun n count entries last a.0 after) (sym (take_more entries i d inside))
          (begun-pushed n count (get_or entries i d).slot (get_or entries i d).first (take i entries) run mid pushed last a.0 b.0 after a.2 b.2 (omega arith) items same items' same'),
    )

-- the journal is there once all of it is written
journal-there : (n : ℕ) (entries : List Entry) (run : Numbers) (was now : List ℕ) → image_size n ≤ length was → length entries ≤ n → list_all (is_entry n) entries ≡ true → IsBegun n (length entries) entries run was now
    → HasJournal n entries (promised run now)
journal-there n entries run was now room few range is =
    let octets = is.octets in
    let mid : List ℕ = overwrite was (32 + 2 * n) octets in
    let size = is.size in
    let number : number_at mid (32 + 2 * n) ≡ length entries =
    number-alike mid octets (32 + 2 * n) 0 (alike-written was octets (32 + 2 * n) (32 + 2 * n) 0 2 (omega arith) (omega arith) (omega arith)) ∙ is.number in
    let all : entries_at mid (32 + 2 * n + 2) (length entries) ≡ entries =
    entries-alike mid octets (32 + 2 * n + 2) 2 (length entries) (alike-written was octets (32 + 2 * n) (32 + 2 * n + 2) 2 (4 * length entries) (omega arith) (omega arith) refl) ∙ is.listed in
    let there : journal mid n ≡ entries = ap (λ (count : ℕ). entries_at mid (32 + 2 * n + 2) count) number ∙ all in
    subst (λ (image : List ℕ). HasJournal n entries image) (sym is.promises) (record {
      range = ap₂ (λ (count : ℕ) (entries : List Entry). nat_le count n && list_all (is_entry n) entries) number there ∙ in-range (length entries) n (list_all (is_entry n) entries) few range;
      listed = there;
    })
  where
    in-range : (count n : ℕ) (all : Bool) → count ≤ n → all ≡ true → (nat_le count n && all) ≡ true
    in-range count n all few is = rw (is, le-leb count n few) refl

pub journal-written : (n i : ℕ) (entries : List Entry) (run : Numbers) (old mid new : Chip) → HasRoom n old → IfSome old.image (λ image. length image ≡ old.still.size) → length entries ≤ n → IsTrue (list_all (is_entry n) entries) → length entries ≤ i
    → Becomes (IsBegun n (length entries) (take i entries) run) old.image mid.image → Becomes (λ was now. now ≡ promised run was) mid.image new.image → Becomes (λ _ now. HasJournal n entries now) old.image new.image
journal-written n i entries run old mid new room sized few range all before last after told =
    let from = last after told in
    let a = before from.0 from.1 in (
      a.0,
      a.1,
      subst (λ (image : List ℕ). HasJournal n entries image) (sym from.2)
          (journal-there n entries run a.0 from.0 (long-enough n old a.0 room sized a.1) few range (subst (λ (entries' : List Entry). IsBegun n (length entries) entries' run a.0 from.0) (take_all i entries all) a.2)),
    )

-- what is the same outside of a region is so outside of a larger one
pub outside-wider : (from to first last : ℕ) (old new : Chip) → first ≤ from → to ≤ last → LeavesOf (SameOutside from to) old new → LeavesOf (SameOutside first last) old new
outside-wider from to first last old new before behind =
    leaves-weaker old new (SameOutside from to) (SameOutside first last)
    (λ was left told same. record { size = same.size; before = take-less from to first left was before same; behind = drop-more from to last left was behind same })

-- one run after another
pub outside-leaves : (from to : ℕ) (old mid new : Chip) → mid.still ≡ old.still → LeavesOf (SameOutside from to) old mid → LeavesOf (SameOutside from to) mid new → LeavesOf (SameOutside from to) old new
outside-leaves from to old mid new still first second =
    leaves-then old mid new (SameOutside from to) (SameOutside from to) (SameOutside from to) still (leaves-last (SameOutside from to) old mid first) (outside-then from to) first second
