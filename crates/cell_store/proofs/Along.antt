-- A walk along a chain in two parts, and the record that its payload has.
use Rattle.std.proofs.Common.{◌≡◌, ◌⊎◌, ℕ, ◌+◌, ◌*◌, ◌<◌, ◌≤◌, List, [], ◌++◌, length, Option, Some, None, IfSome, sym, refl, inl, inr, arith, Result, Ok, Err, OnOk, add-zero, zero-add, add_assoc}
use Rattle.eeprom.specs.Chip.{Becomes}
use Rattle.eeprom.specs.StoreOf.{chain_of, cell_place, payload_of, number_at, slot_of, longest_chain}
use Rattle.std.specs.List.{flat_map}
use Rattle.cell_store.specs.Chains.{IsRecordChain}
use Rattle.cell_store.specs.Reading.{ReadsCells, ReadsRecord}
use Rattle.cell_store.specs.Walk.{Walked, GoesAlong, CopiesRecord}
use Rattle.cell_store.proofs.ReadRecord.{record-some}
use Rattle.cell_store.proofs.Reading.{reads-end, reads-full, reads-record}
use Rattle.cell_store.proofs.Walking.{walked-more, Walked-start, Walked-end, Walked-full}

pub along-none : (n first : ℕ) (octets : List ℕ) (image : Option (List ℕ)) →
    IfSome image (λ image. (chain : List ℕ) (step : ℕ) → Walked n chain first octets step image → Walked n chain first octets (step + 0) image)
along-none n first octets None = tt
along-none n first octets (Some image) = λ chain step w. rw (add-zero step) w

-- one cell more
pub along-more : (n first cell : ℕ) (start octets octets' : List ℕ) (count next : ℕ) (image : Option (List ℕ)) → n ≤ 2048 → cell < 2 * n
    → IfSome image (λ image. next ≡ number_at image (cell_place n cell)) → IfSome image (λ image. octets' ≡ octets ++ payload_of image n cell)
    → IfSome image (λ image. (chain : List ℕ) (step : ℕ) → Walked n chain first start step image → Walked n chain cell octets (step + count) image)
    → IfSome image (λ image. (chain : List ℕ) (step : ℕ) → Walked n chain first start step image → Walked n chain next octets' (step + (count + 1)) image)
along-more n first cell start octets octets' count next None few inside link more w = tt
along-more n first cell start octets octets' count next (Some image) few inside link more w = λ chain step s.
    rw (sym (add_assoc step count 1)) (walked-more n chain cell octets octets' (step + count) next image few inside link more (w chain step s))

-- a walk that ends here goes no further than a longer one would
pub along-longer : (n cell next most longer : ℕ) (old new : List ℕ) (image : Option (List ℕ)) (before after : Option ℕ) → most ≤ longer → 2 * n ≤ next
    → GoesAlong n cell next most old new image before after → GoesAlong n cell next longer old new image before after
along-longer n cell next most longer old new image before after more outside a = record {
  count = a.count;
  within = omega (arith, a.within, more);
  far = inr outside;
  size = a.size;
  walked = a.walked;
  read = a.read;
}

-- one walk after another
walked-then : (n first mid next c1 c2 : ℕ) (start o1 o2 : List ℕ) (image : Option (List ℕ))
    → IfSome image (λ image. (chain : List ℕ) (step : ℕ) → Walked n chain first start step image → Walked n chain mid o1 (step + c1) image)
    → IfSome image (λ image. (chain : List ℕ) (step : ℕ) → Walked n chain mid o1 step image → Walked n chain next o2 (step + c2) image)
    → IfSome image (λ image. (chain : List ℕ) (step : ℕ) → Walked n chain first start step image → Walked n chain next o2 (step + (c1 + c2)) image)
walked-then n first mid next c1 c2 start o1 o2 None w1 w2 = tt
walked-then n first mid next c1 c2 start o1 o2 (Some image) w1 w2 = λ chain step s. rw (sym (add_assoc step c1 c2)) (w2 chain (step + c1) (w1 chain step s))

reads-both : (c1 c2 : ℕ) (old mid new : Option ℕ) → Becomes (ReadsCells c1) old mid → Becomes (ReadsCells c2) mid new → Becomes (ReadsCells (c1 + c2)) old new
reads-both c1 c2 old mid new first next = λ after e.
    let last = next after e in
    let start = first last.0 last.1 in
    (start.0, start.1, omega (arith, last.2, start.2))

as-far : (n next c1 c2 m1 m2 mid : ℕ) → mid < 2 * n → (c1 ≡ m1) ⊎ (2 * n ≤ mid) → (c2 ≡ m2) ⊎ (2 * n ≤ next) → (c1 + c2 ≡ m1 + m2) ⊎ (2 * n ≤ next)
as-far n next c1 c2 m1 m2 mid inside f1 (inr outside) = inr outside
as-far n next c1 c2 m1 m2 mid inside (inl a) (inl b) = inl (omega (arith, a, b))
as-far n next c1 c2 m1 m2 mid inside (inr outside) (inl b) = inr (omega (arith, inside, outside))

pub along-then : (n first mid next m1 m2 : ℕ) (start o1 o2 : List ℕ) (image : Option (List ℕ)) (before between after : Option ℕ) → mid < 2 * n
    → GoesAlong n first mid m1 start o1 image before between → GoesAlong n mid next m2 o1 o2 image between after → GoesAlong n first next (m1 + m2) start o2 image before after
along-then n first mid next m1 m2 start o1 o2 image before between after inside a b = record {
  count = a.count + b.count;
  within = omega (arith, a.within, b.within);
  far = as-far n next a.count b.count m1 m2 mid inside a.far b.far;
  size = omega (arith, a.size, b.size);
  walked = walked-then n first mid next a.count b.count start o1 o2 image a.walked b.walked;
  read = reads-both a.count b.count before between after a.read b.read;
}

-- a walk from the beginning of a chain on
walked-whole : (n first next count : ℕ) (octets : List ℕ) (image : Option (List ℕ))
    → IfSome image (λ image. (chain : List ℕ) (step : ℕ) → Walked n chain first [] step image → Walked n chain next octets (step + count) image)
    → IfSome image (λ image. (chain : List ℕ) → chain_of image n (2 * n) first ≡ Some chain → Walked n chain next octets count image)
walked-whole n first next count octets None w = tt
walked-whole n first next count octets (Some image) w = λ chain h.
    rw (zero-add count) at (w chain 0 (Walked-start n first [] (Some image) refl chain h))

pub along-payload : (n first next : ℕ) (octets : List ℕ) (image : Option (List ℕ)) (before after : Option ℕ) → GoesAlong n first next longest_chain [] octets image before after
    → IfSome image (λ image. (chain : List ℕ) → chain_of image n (2 * n) first ≡ Some chain → length chain ≤ longest_chain → octets ≡ flat_map (payload_of image n) chain)
along-payload n first next octets image before after a = payload a.far (walked-whole n first next a.count octets image a.walked)
  where
    payload : {count : ℕ} → (count ≡ longest_chain) ⊎ (2 * n ≤ next)
        → IfSome image (λ image. (chain : List ℕ) → chain_of image n (2 * n) first ≡ Some chain → Walked n chain next octets count image)
        → IfSome image (λ image. (chain : List ℕ) → chain_of image n (2 * n) first ≡ Some chain → length chain ≤ longest_chain → octets ≡ flat_map (payload_of image n) chain)
    payload {count} (inl full) w = Walked-full n first next octets count longest_chain image (omega (arith, full)) w
    payload {count} (inr outside) w = Walked-end n first next octets count longest_chain image outside w

pub along-reads : (n first next : ℕ) (octets : List ℕ) (image : Option (List ℕ)) (before after : Option ℕ) → GoesAlong n first next longest_chain [] octets image before after
    → IfSome image (λ image. (chain : List ℕ) → chain_of image n (2 * n) first ≡ Some chain → length chain ≤ longest_chain → Becomes (ReadsCells (length chain)) before after)
along-reads n first next octets image before after a = reads a.far a.read (walked-whole n first next a.count octets image a.walked)
  where
    reads : {count : ℕ} → (count ≡ longest_chain) ⊎ (2 * n ≤ next) → Becomes (ReadsCells count) before after
        → IfSome image (λ image. (chain : List ℕ) → chain_of image n (2 * n) first ≡ Some chain → Walked n chain next octets count image)
        → IfSome image (λ image. (chain : List ℕ) → chain_of image n (2 * n) first ≡ Some chain → length chain ≤ longest_chain → Becomes (ReadsCells (length chain)) before after)
    reads {count} (inl full) read w = reads-full n first next octets count longest_chain image before after (omega (arith, full)) read w
    reads {count} (inr outside) read w = reads-end n first next octets count longest_chain image before after outside read w

-- a record that is copied behind a first walk is that of the whole one
pub copies-behind : {T E : Type 0} (result : Result T E) (n first mid m1 m2 : ℕ) (start o1 out : List ℕ) (image image' : Option (List ℕ)) (before between after : Option ℕ) → mid < 2 * n → image' ≡ image
    → GoesAlong n first mid m1 start o1 image before between → OnOk result (CopiesRecord n mid m2 o1 out image' between after) → OnOk result (CopiesRecord n first (m1 + m2) start out image before after)
copies-behind (Ok _) n first mid m1 m2 start o1 out image image' before between after inside same a copies =
    let there : CopiesRecord n mid m2 o1 out image between after = rw same at copies in
    record {
      next = there.next;
      payload = there.payload;
      along = along-then n first mid there.next m1 m2 start o1 there.payload image before between after inside a there.along;
      copied = there.copied;
    }
copies-behind (Err _) n first mid m1 m2 start o1 out image image' before between after inside same a copies = tt

-- what is copied out of a walk from the beginning of a chain is its record, for which its cells are read
pub copied-record : (n first size : ℕ) (out : List ℕ) (image : Option (List ℕ)) (before after : Option ℕ) → 70 * n + 34 ≤ size → IfSome image (λ image. length image ≡ size)
    → CopiesRecord n first longest_chain [] out image before after → IfSome image (λ image. (chain : List ℕ) → IsRecordChain image n first chain → slot_of image n chain ≡ Some out)
copied-record n first size out image before after room sized c = record-some n first image size c.payload out room sized (along-payload n first c.next c.payload image before after c.along) c.copied

pub copied-reads : (n first size : ℕ) (out : List ℕ) (image : Option (List ℕ)) (before after : Option ℕ) → 70 * n + 34 ≤ size → IfSome image (λ image. length image ≡ size)
    → CopiesRecord n first longest_chain [] out image before after → IfSome image (λ image. (chain : List ℕ) → IsRecordChain image n first chain → Becomes (ReadsRecord (Some out)) before after)
copied-reads n first size out image before after room sized c =
    reads-record n first image size out before after room sized (copied-record n first size out image before after room sized c) (along-reads n first c.next c.payload image before after c.along)

pub then-record : {T E : Type 0} (result : Result T E) (n first size : ℕ) (out : List ℕ) (image : Option (List ℕ)) (before after : Option ℕ) → 70 * n + 34 ≤ size → IfSome image (λ image. length image ≡ size)
    → OnOk result (CopiesRecord n first longest_chain [] out image before after) → OnOk result (IfSome image (λ image. (chain : List ℕ) → IsRecordChain image n first chain → slot_of image n chain ≡ Some out))
then-record (Ok _) n first size out image before after room sized c = copied-record n first size out image before after room sized c
then-record (Err _) n first size out image before after room sized c = tt

pub then-reads : {T E : Type 0} (result : Result T E) (n first size : ℕ) (out : List ℕ) (image : Option (List ℕ)) (before after : Option ℕ) → 70 * n + 34 ≤ size → IfSome image (λ image. length image ≡ size)
    → OnOk result (CopiesRecord n first longest_chain [] out image before after) → OnOk result (IfSome image (λ image. (chain : List ℕ) → IsRecordChain image n first chain → Becomes (ReadsRecord (Some out)) before after))
then-reads (Ok _) n first size out image before after room sized c = copied-reads n first size out image before after room sized c
then-reads (Err _) n first size out image before after room sized c = tt
