-- A journal is replayed: the image has the store that it had.
use Rattle.std.proofs.Common.{◌≡◌, is_some, true≢false, arith, ℕ, ◌*◌, ◌≤◌, true, false, List, Option, Some, None, option_map, option_and_then, IfSome, sym, refl, ap, ◌∙◌, subst}
use Rattle.std.proofs.lemmas.Option.{same_Some}
use Rattle.eeprom.specs.Chip.{Chip, Becomes, Keeps, LeavesOf, RisesAtMost, RisesBy}
use Rattle.eeprom.specs.StoreOf.{front_size, starts_with_magic, has_header, number_at, row_limit, slots_at, is_gate_open, directory, store_of}
use Rattle.eeprom.proofs.Regions.{SameFront, same-magic, same-cells, same-header, same-limit}
use Rattle.eeprom.proofs.SameFrom.{slots-from}
use Rattle.journal.specs.Journal.{KeepsRest, KeepsDirectory, IsReplayed}
use Rattle.record_store.specs.Header.{IsHeader, IsHeaderOf}
use Rattle.record_store.specs.Opening.{ReadsFront, front_octets, journal_octets}
use Rattle.record_store.specs.declared.header.Header.{Header}
use Rattle.record_store.proofs.Keeping.{keeps-leaves}

pub rest-front : (n : ℕ) (was left : List ℕ) → KeepsRest n was left → SameFront left was
rest-front n was left rest = record { size = rest.size; front = rest.front; behind_gate = rest.behind_gate }

-- the store of an image with such a front is that of its directory
pub store-of-directory : (image : List ℕ) (n limit : ℕ) → starts_with_magic image ≡ true → has_header image ≡ true → number_at image 6 ≡ n → row_limit image ≡ limit
    → store_of image ≡ option_map (λ slots. record { row_limit = limit; slots = slots }) (option_and_then (slots_at image n) (directory image n))
store-of-directory image n limit magic header number is = rw (magic, header, number, is) refl

-- where the directory in force is the same
pub store-alike : (n limit : ℕ) (was left : List ℕ) (firsts : Option (List ℕ)) → n ≤ 2048 → starts_with_magic was ≡ true → has_header was ≡ true → number_at was 6 ≡ n → row_limit was ≡ limit → KeepsRest n was left → directory left n ≡ firsts
    → store_of left ≡ option_map (λ slots. record { row_limit = limit; slots = slots }) (option_and_then (slots_at was n) firsts)
store-alike n limit was left firsts few magic header number is rest directory_is =
    let front = rest-front n was left rest in
    store-of-directory left n limit (same-magic left was front ∙ magic) (same-header left was front ∙ header) (same-cells left was front ∙ number) (same-limit left was front ∙ is)
    ∙ ap (option_map (λ slots. record { row_limit = limit; slots = slots })) (ap (option_and_then (slots_at left n)) directory_is ∙ each firsts)
  where
    each : (firsts : Option (List ℕ)) → option_and_then (slots_at left n) firsts ≡ option_and_then (slots_at was n) firsts
    each None = refl
    each (Some firsts) = slots-from (front_size n) n left was firsts (omega arith) rest.cells

pub store-replayed : (header : Header) (was left : List ℕ) → header.cells ≤ 2048 → IsHeaderOf was header → KeepsDirectory header.cells was left → store_of left ≡ store_of was
store-replayed header was left few h keeps =
    store-alike header.cells header.row_limit was left (directory was header.cells) few h.front h.fields h.cells h.limit keeps.rest keeps.same
    ∙ sym (store-of-directory was header.cells header.row_limit h.front h.fields h.cells h.limit)

pub header-replayed : (header : Header) (was now : List ℕ) → IsHeaderOf was header → IsReplayed header.cells was now → IsHeaderOf now (record header { is_open = false })
header-replayed header was now h replayed =
    let front = rest-front header.cells was now replayed.rest in
    record {
      front = same-magic now was front ∙ h.front;
      fields = same-header now was front ∙ h.fields;
      cells = same-cells now was front ∙ h.cells;
      limit = same-limit now was front ∙ h.limit;
      gate = replayed.closed;
    }

told-image : (P : List ℕ → Type 0) (o : Option (List ℕ)) (image : List ℕ) → o ≡ Some image → IfSome o P → P image
told-image P o image told holds = subst (λ (o : Option (List ℕ)). IfSome o P) told holds

pub replay-keeps : (header : Header) (old new : Chip) → header.cells ≤ 2048 → IfSome old.image (λ image. IsHeaderOf image header) → new.still ≡ old.still → LeavesOf (KeepsDirectory header.cells) old new → Keeps store_of old new
replay-keeps header old new few begins still leaves = keeps-leaves store_of (KeepsDirectory header.cells) old new still (λ was left told keeps. same left was told keeps) leaves
  where
    same : (left was : List ℕ) → old.image ≡ Some was → KeepsDirectory header.cells was left → store_of left ≡ store_of was
    same left was told keeps = store-replayed header was left few (told-image (λ image. IsHeaderOf image header) old.image was told begins) keeps

pub replay-header : (header : Header) (old new : Option (List ℕ)) → IfSome old (λ image. IsHeaderOf image header) → Becomes (IsReplayed header.cells) old new → IfSome new (λ image. IsHeaderOf image (record header { is_open = false }))
replay-header header old None begins replayed = tt
replay-header header old (Some now) begins replayed =
    let from = replayed now refl in
    header-replayed header from.0 now (told-image (λ image. IsHeaderOf image header) old from.0 from.1 begins) from.2

-- a header whose gate was closed all along
pub header-closed : (header : Header) (image : Option (List ℕ)) → header.is_open ≡ false → IfSome image (λ image. IsHeaderOf image header) → IfSome image (λ image. IsHeaderOf image (record header { is_open = false }))
header-closed header None closed begins = tt
header-closed header (Some image) closed begins = record { front = begins.front; fields = begins.fields; cells = begins.cells; limit = begins.limit; gate = begins.gate ∙ closed }

-- without a directory in force there is no store
pub journal-refused : (header : Header) (image : Option (List ℕ)) → IfSome image (λ image. IsHeaderOf image header) → IfSome image (λ image. directory image header.cells ≡ None) → IfSome image (λ image. store_of image ≡ None)
journal-refused header None begins none = tt
journal-refused header (Some image) begins none = store-of-directory image header.cells header.row_limit begins.front begins.fields begins.cells begins.limit ∙ rw none refl

-- where the gate of the image is closed, the header doesn't say that it is open
pub open-told : (header : Header) (image : Option (List ℕ)) → header.is_open ≡ true → IfSome image (λ image. IsHeaderOf image header) → (P : Type 0) → IfSome image (λ image. is_gate_open image ≡ false → P)
open-told header None opened begins P = tt
open-told header (Some image) opened begins P = λ closed. absurd (cc)

-- what is said of an image that is told, where it follows from what is said of one with the same store
pub kept-image : (P Q : List ℕ → Type 0) (old new : Chip) → Keeps store_of old new → is_some new.image ≡ is_some old.image → ((left was : List ℕ) → store_of left ≡ store_of was → P left → Q was) → IfSome new.image P → IfSome old.image Q
kept-image P Q old new keeps told from holds = cases old.image new.image refl refl
  where
    cases : (before after : Option (List ℕ)) → old.image ≡ before → new.image ≡ after → IfSome before Q
    cases None after is now = tt
    cases (Some was) None is now = absurd (true≢false (sym (sym (ap is_some now) ∙ (told ∙ ap is_some is))))
    cases (Some was) (Some left) is now =
        let at = keeps.image left now in
        let same : at.0 ≡ was = same_Some _ _ (sym at.1 ∙ is) in
        from left was (at.2 ∙ ap store_of same) (subst (λ (o : Option (List ℕ)). IfSome o P) now holds)

-- the gate that the header tells is that of the image
pub closed-told : (header : Header) (image : List ℕ) → IsHeaderOf image header → is_gate_open image ≡ false → header.is_open ≡ false
closed-told header image begins closed = sym begins.gate ∙ closed

-- no record is read with the front and a journal
pub reads-front : (header : Header) (size : ℕ) (image : Option (List ℕ)) (a b c d : Option ℕ) → IsHeader size header → IfSome image (λ image. IsHeaderOf image header) → Becomes (RisesAtMost 11) a b → Becomes (RisesAtMost (journal_octets header.cells)) b c
    → (header.is_open ≡ false → c ≡ b) → Becomes (RisesAtMost (2 * header.cells)) c d → ReadsFront header.cells image a d
reads-front header size image a b c d range begins first second none third = record {
  few = range.many;
  told = told image begins;
  read = λ after is.
      let last = third after is in
      let middle = second last.0 last.1 in
      let start = first middle.0 middle.1 in
      (start.0, start.1, omega (arith, start.2, middle.2, last.2));
  closed = shut image begins;
}
  where
    told : (image : Option (List ℕ)) → IfSome image (λ image. IsHeaderOf image header) → IfSome image (λ image. number_at image 6 ≡ header.cells)
    told None begins = tt
    told (Some image) begins = begins.cells

    shut : (image : Option (List ℕ)) → IfSome image (λ image. IsHeaderOf image header) → IfSome image (λ image. is_gate_open image ≡ false → Becomes (RisesAtMost (front_octets header.cells)) a d)
    shut None begins = tt
    shut (Some image) begins = λ closed after is.
        let last = third after is in
        let start = first last.0 (sym (none (closed-told header image begins closed)) ∙ last.1) in
        (start.0, start.1, omega (arith, start.2, last.2))

-- nothing is read
pub reads-nothing : (most : ℕ) (count : Option ℕ) → Becomes (RisesAtMost most) count count
reads-nothing most count = λ after is. (after, is, omega arith)

-- the octets that are read before the first slot
pub front-read : (header : Header) (n : ℕ) (image : Option (List ℕ)) (a b c d : Option ℕ) → n ≡ header.cells → IfSome image (λ image. IsHeaderOf image header) → Becomes (RisesBy 11) a b → (header.is_open ≡ false → c ≡ b) → Becomes (RisesBy (2 * header.cells)) c d
    → IfSome image (λ image. is_gate_open image ≡ false → Becomes (RisesBy (front_octets n)) a d)
front-read header n None a b c d cells begins first second third = tt
front-read header n (Some image) a b c d cells begins first second third = λ closed after told.
    let last = third after told in
    let start = first last.0 (sym (second (closed-told header image begins closed)) ∙ last.1) in
    (start.0, start.1, omega (arith, cells, start.2, last.2))
