-- One step more, at the end of a record of steps that keeps what each write replaced.
use Rattle.std.proofs.Common.{Option, Vec, Global, ◌≡◌, ◌⊎◌, ℕ, ◌+◌, ◌≤◌, Bool, true, false, if◌then◌else◌, List, [], ◌∷◌, ◌++◌, length, take, drop, slice_range, Some, refl, ap, sym, ◌∙◌, inl, arith}
use Rattle.std.proofs.Math.Seq.{take-append_seam, drop-append_seam, drop-append-add}
use Rattle.std.proofs.lemmas.Grind.{common_steps}
use Rattle.std.proofs.lemmas.List.{take-append-le, drop-append-le, append-nil}
use Rattle.std.proofs.lemmas.List.Edits.{split_between}
use Rattle.eeprom.specs.Chip.{Stretch, Becomes, writing, giving}
use Rattle.eeprom.specs.Image.{overwrite}
use Rattle.eeprom.specs.Steps.{replacing, image_before, stretches_of, told_past}
use Rattle.eeprom.specs.declared.steady_bench.Step.{Step}
use Rattle.eeprom.specs.declared.steady_bench.Step.TheVariants.{Write, Give}
use Rattle.eeprom.proofs.Replayed.{written_back}
use Rattle.eeprom.proofs.Telling.{becomes_told}

-- octets put back where others were written over them
pub overwrite-back : (image : List ℕ) (at : ℕ) (octets : List ℕ) → at + length octets ≤ length image →
    overwrite (overwrite image at octets) at (slice_range image at (at + length octets)) ≡ image
overwrite-back image at octets h =
    let first = take at image in
    let last = drop (at + length octets) image in
    let size : length first ≡ at = grind (arith, common_steps) in
    let count : length (slice_range image at (at + length octets)) ≡ length octets = grind (arith, common_steps) in
    let front : take at (overwrite image at octets) ≡ first = ap (λ k. take k (overwrite image at octets)) (sym size) ∙ take-append_seam first (octets ++ last) in
    let back : drop (at + length octets) (overwrite image at octets) ≡ last =
    ap (λ k. drop (k + length octets) (overwrite image at octets)) (sym size) ∙ drop-append-add first (octets ++ last) (length octets) ∙ drop-append_seam octets last in
    rw (count, front, back) (sym (split_between image at (at + length octets) (omega arith)))

pub replacing-append : (xs ys : List Step) → replacing (xs ++ ys) ≡ replacing xs + replacing ys
replacing-append [] ys = omega arith
replacing-append (Write at count mark ∷ xs) ys = let e = replacing-append xs ys in omega arith
replacing-append (Give from to ∷ xs) ys = replacing-append xs ys

-- the octets of the first write are those in front
front_count : (count rest : ℕ) (replaced : List ℕ) → count + rest ≡ length replaced → (count ≤ length replaced) × (rest ≡ length (drop count replaced))
front_count count rest replaced h = (omega arith, grind (arith, common_steps))

pub image_before-append : (xs ys : List Step) (replaced more image : List ℕ) → replacing xs ≡ length replaced →
    image_before (xs ++ ys) (replaced ++ more) image ≡ image_before xs replaced (image_before ys more image)
image_before-append [] ys [] more image h = refl
image_before-append [] ys (x ∷ replaced) more image h = absurd (omega arith)
image_before-append (Write at count mark ∷ xs) ys replaced more image h =
    let fits = front_count count (replacing xs) replaced h in
    rw (take-append-le count replaced more fits.0, drop-append-le count replaced more fits.0)
    (ap (λ image. overwrite image at (take count replaced)) (image_before-append xs ys (drop count replaced) more image fits.1))
image_before-append (Give from to ∷ xs) ys replaced more image h = image_before-append xs ys replaced more image h

pub stretches_of-append : (xs ys : List Step) (replaced more image : List ℕ) → replacing xs ≡ length replaced →
    stretches_of (xs ++ ys) (replaced ++ more) image ≡ stretches_of xs replaced (image_before ys more image) ++ stretches_of ys more image
stretches_of-append [] ys [] more image h = refl
stretches_of-append [] ys (x ∷ replaced) more image h = absurd (omega arith)
stretches_of-append (Write at count mark ∷ xs) ys replaced more image h =
    let fits = front_count count (replacing xs) replaced h in
    let before = image_before-append (Write at count mark ∷ xs) ys replaced more image h in
    let later = stretches_of-append xs ys (drop count replaced) more image fits.1 in
    let behind : drop count (replaced ++ more) ≡ drop count replaced ++ more = drop-append-le count replaced more fits.0 in
    first_and_later at count mark _ _ _ _ before (ap (λ replaced. stretches_of (xs ++ ys) replaced image) behind ∙ later)
  where
    first_and_later : (at count mark : ℕ) (image was : List ℕ) (past later : List Stretch) → image ≡ was → past ≡ later →
        writing (record { image = image; at = at; count = count; mark = mark }) ∷ past ≡ writing (record { image = was; at = at; count = count; mark = mark }) ∷ later
    first_and_later at count mark image was past later e f = cc
stretches_of-append (Give from to ∷ xs) ys replaced more image h =
    first_and_later from to _ _ _ _ (image_before-append xs ys replaced more image h) (stretches_of-append xs ys replaced more image h)
  where
    first_and_later : (from to : ℕ) (image was : List ℕ) (past later : List Stretch) → image ≡ was → past ≡ later → giving image from to ∷ past ≡ giving was from to ∷ later
    first_and_later from to image was past later e f = cc

-- a write that is kept has its stretch
pub stretches_of-write : (steps : List Step) (replaced was octets : List ℕ) (at mark : ℕ) → replacing steps ≡ length replaced → at + length octets ≤ length was →
    stretches_of (steps ++ Write at (length octets) mark ∷ []) (replaced ++ slice_range was at (at + length octets)) (overwrite was at octets)
    ≡ stretches_of steps replaced was ++ writing (record { image = was; at = at; count = length octets; mark = mark }) ∷ []
stretches_of-write steps replaced was octets at mark whole fits =
    let kept = slice_range was at (at + length octets) in
    let size : length kept ≡ length octets = grind (arith, common_steps) in
    let all : take (length octets) kept ≡ kept = grind (arith, common_steps) in
    let back : overwrite (overwrite was at octets) at (take (length octets) kept) ≡ was = ap (overwrite (overwrite was at octets) at) all ∙ overwrite-back was at octets fits in
    stretches_of-append steps (Write at (length octets) mark ∷ []) replaced kept (overwrite was at octets) whole
    ∙ ap (λ image. stretches_of steps replaced image ++ writing (record { image = image; at = at; count = length octets; mark = mark }) ∷ []) back

-- a piece of output has its stretch
pub stretches_of-give : (steps : List Step) (replaced image : List ℕ) (from to : ℕ) → replacing steps ≡ length replaced →
    stretches_of (steps ++ Give from to ∷ []) replaced image ≡ stretches_of steps replaced image ++ giving image from to ∷ []
stretches_of-give steps replaced image from to whole =
    ap (λ replaced. stretches_of (steps ++ Give from to ∷ []) replaced image) (sym (append-nil replaced)) ∙ stretches_of-append steps (Give from to ∷ []) replaced [] image whole

-- a stretch that is told is one of the two ways in which time may go on
pub goes_on : (stretch : List ℕ → Stretch) (was now : Option (List ℕ)) (mark mark2 : ℕ) (old new : Option (List Stretch)) →
    Becomes (λ before after. (image : List ℕ) × (was ≡ Some image) × (after ≡ before ++ stretch image ∷ [])) old new →
    Becomes (λ before after. ((image : List ℕ) × (was ≡ Some image) × (after ≡ before ++ stretch image ∷ [])) ⊎ ((after ≡ before) × (now ≡ was) × (mark2 ≡ mark))) old new
goes_on stretch was now mark mark2 old new tells after told = let before = tells after told in (before.0, before.1, inl before.2)

-- the moments after a write, whether what it replaced was kept or found no room
pub past-write : (output_overrun output_overrun2 overrun overrun2 fits : Bool) (steps steps2 : List Step) (replaced replaced2 was now octets : List ℕ) (at mark : ℕ) →
    replacing steps ≡ length replaced → at + length octets ≤ length was → now ≡ overwrite was at octets → output_overrun2 ≡ output_overrun →
    steps2 ≡ (if fits then steps ++ Write at (length octets) mark ∷ [] else steps) →
    replaced2 ≡ (if fits then replaced ++ slice_range was at (at + length octets) else replaced) →
    overrun2 ≡ (if fits then overrun else true) →
    Becomes (λ before after. (image : List ℕ) × (Some was ≡ Some image) × (after ≡ before ++ writing (record { image = image; at = at; count = length octets; mark = mark }) ∷ []))
    (told_past output_overrun overrun steps replaced was) (told_past output_overrun2 overrun2 steps2 replaced2 now)
past-write true output_overrun2 overrun overrun2 fits steps steps2 replaced replaced2 was now octets at mark whole within written eg es er eo = rw eg (λ after told. cc)
past-write false output_overrun2 overrun overrun2 false steps steps2 replaced replaced2 was now octets at mark whole within written eg es er eo = rw (eg, eo) (λ after told. cc)
past-write false output_overrun2 true overrun2 true steps steps2 replaced replaced2 was now octets at mark whole within written eg es er eo = rw (eg, eo) (λ after told. cc)
past-write false output_overrun2 false overrun2 true steps steps2 replaced replaced2 was now octets at mark whole within written eg es er eo =
    rw (eg, eo, es, er, written) (becomes_told _ (stretches_of steps replaced was) _ (was, refl, stretches_of-write steps replaced was octets at mark whole within))

-- the moments after a piece of output that found room
pub past-give : (overrun overrun2 writes_overrun : Bool) (steps steps2 : List Step) (replaced image before after lent lent2 : List ℕ) → replacing steps ≡ length replaced →
    lent ≡ before → lent2 ≡ after → steps2 ≡ steps ++ Give (length lent) (length lent2) ∷ [] → overrun2 ≡ overrun →
    Becomes (λ past later. (now : List ℕ) × (Some image ≡ Some now) × (later ≡ past ++ giving now (length before) (length after) ∷ []))
    (told_past overrun writes_overrun steps replaced image) (told_past overrun2 writes_overrun steps2 replaced image)
past-give true overrun2 writes_overrun steps steps2 replaced image before after lent lent2 whole e f es eo = rw eo (λ later told. cc)
past-give false overrun2 true steps steps2 replaced image before after lent lent2 whole e f es eo = rw eo (λ later told. cc)
past-give false overrun2 false steps steps2 replaced image before after lent lent2 whole e f es eo =
    rw (eo, es, e, f) (becomes_told _ (stretches_of steps replaced image) _ (image, refl, stretches_of-give steps replaced image (length before) (length after) whole))

-- the record is whole after a write, and after a piece of output
pub whole-write : (steps steps2 : List Step) (replaced replaced2 was lent : List ℕ) (at count mark : ℕ) → replacing steps ≡ length replaced → at + count ≤ length was → lent ≡ was →
    steps2 ≡ steps ++ Write at count mark ∷ [] → replaced2 ≡ replaced ++ slice_range lent at (at + count) → replacing steps2 ≡ length replaced2
whole-write steps steps2 replaced replaced2 was lent at count mark whole within el es er =
    let more = replacing-append steps (Write at count mark ∷ []) in
    rw (es, er, el) (grind (arith, common_steps))

pub whole-give : (steps steps2 : List Step) (replaced : List ℕ) (from to : ℕ) → replacing steps ≡ length replaced → steps2 ≡ steps ++ Give from to ∷ [] → replacing steps2 ≡ length replaced
whole-give steps steps2 replaced from to whole es =
    let more = replacing-append steps (Give from to ∷ []) in
    rw es (omega arith)

-- what a list becomes is no shorter
pub longer : {X : Type 0} (before after more : List X) → after ≡ before ++ more → length before ≤ length after
longer before after more e = rw e (grind (arith, common_steps))

pub longer-if : {X : Type 0} (fits : Bool) (before after more : List X) → after ≡ (if fits then before ++ more else before) → length before ≤ length after
longer-if true before after more e = longer before after more e
longer-if false before after more e = rw e (omega arith)

-- the items of an image after octets were written over a part of them
pub written_over : (old image : Vec ℕ Global) (at : ℕ) (octets lent now : List ℕ) → image ≡ old → lent ≡ image.items → now ≡ overwrite lent at octets → at + length octets ≤ length old.items →
    take image.len (now ++ drop (length now) image.items) ≡ overwrite old.items at octets
written_over old image at octets lent now same e n h =
    let items = ap (λ v. v.items) same in
    let within : at + length octets ≤ length image.items = rw items h in
    written_back image.items lent now octets octets image.len at image.ok.0 e refl n within ∙ ap (λ image. overwrite image at octets) items
