-- One entry more, at the end of a log.
use Rattle.std.proofs.Common.{Some, ◌≡◌, ℕ, zero, suc, ◌+◌, ◌≤◌, List, [], ◌∷◌, ◌++◌, length, map, slice_range, slice_get, refl, ap, ap₂, sym, ◌∙◌, arith, length-append, get_or, option_map, ◌<◌}
use Rattle.std.proofs.lemmas.Option.{slice_get_read, slice_get-map}
use Rattle.std.proofs.lemmas.Grind.{common_steps}
use Rattle.log_bench.specs.Entries.{AllWithin}
use Rattle.log_bench.specs.Log.{write_of}
use Rattle.log_bench.specs.Writes.{Write}
use Rattle.log_bench.specs.declared.log.Entry.{Entry}

-- the octets of an entry are among those of the log
pub within-at : (size : ℕ) (entries : List Entry) (n : ℕ) (e : Entry) → AllWithin size entries → slice_get entries n ≡ Some e → (e.from ≤ e.to) × (e.to ≤ size)
within-at size [] n e within found = absurd cc
within-at size (x ∷ entries) zero e within found = grind (arith, within, found)
within-at size (x ∷ entries) (suc n) e within found = within-at size entries n e within.2 found

-- what stands in front stays
slice_range-front : (xs more : List ℕ) (from to : ℕ) → to ≤ length xs → slice_range (xs ++ more) from to ≡ slice_range xs from to
slice_range-front xs more from to within = grind (arith, common_steps)

-- what was put behind stands there
slice_range-behind : (xs more : List ℕ) (from to : ℕ) → from ≡ length xs → to ≡ length xs + length more → slice_range (xs ++ more) from to ≡ more
slice_range-behind xs more from to first last = grind (arith, common_steps)

write-front : (octets more replaced more2 : List ℕ) (e : Entry) → e.to ≤ length octets → length replaced ≡ length octets → write_of (octets ++ more) (replaced ++ more2) e ≡ write_of octets replaced e
write-front octets more replaced more2 e within paired =
    ap₂ (λ (xs ys : List ℕ). (let w : Write = record { at = e.at; octets = xs; replaced = ys } in w)) (slice_range-front octets more e.from e.to within) (slice_range-front replaced more2 e.from e.to (omega arith))

-- the writes that were there stay, and the new one is the last
pub writes-more : (octets more replaced more2 : List ℕ) (entries : List Entry) (e : Entry) → AllWithin (length octets) entries → length replaced ≡ length octets → length more2 ≡ length more
    → e.from ≡ length octets → e.to ≡ length octets + length more
    → map (write_of (octets ++ more) (replaced ++ more2)) (entries ++ e ∷ []) ≡ map (write_of octets replaced) entries ++ record { at = e.at; octets = more; replaced = more2 } ∷ []
writes-more octets more replaced more2 [] e within paired same first last =
    ap₂ (λ (xs ys : List ℕ). (let w : List Write = record { at = e.at; octets = xs; replaced = ys } ∷ [] in w)) (slice_range-behind octets more e.from e.to first last)
    (slice_range-behind replaced more2 e.from e.to (omega arith) (omega arith))
writes-more octets more replaced more2 (x ∷ entries) e within paired same first last =
    ap₂ (λ (w : Write) (rest : List Write). w ∷ rest) (write-front octets more replaced more2 x within.1 paired) (writes-more octets more replaced more2 entries e within.2 paired same first last)

pub within-more : (size size2 : ℕ) (entries : List Entry) (e : Entry) → AllWithin size entries → size ≤ size2 → e.from ≤ e.to → e.to ≤ size2 → AllWithin size2 (entries ++ e ∷ [])
within-more size size2 [] e within longer ordered last = (ordered, last, tt)
within-more size size2 (x ∷ entries) e within longer ordered last = (within.0, omega (arith, within.1), within-more size size2 entries e within.2 longer ordered last)

-- the same with what calls of vectors left in between
pub added : (entries kept entries2 : List Entry) (octets kept_octets octets2 replaced kept_replaced replaced2 more more2 : List ℕ) (e : Entry) → AllWithin (length octets) entries → length replaced ≡ length octets
    → length more2 ≡ length more → kept ≡ entries → entries2 ≡ kept ++ e ∷ [] → kept_octets ≡ octets → octets2 ≡ kept_octets ++ more → kept_replaced ≡ replaced → replaced2 ≡ kept_replaced ++ more2
    → e.from ≡ length kept_octets → e.to ≡ length octets2
    → map (write_of octets2 replaced2) entries2 ≡ map (write_of octets replaced) entries ++ record { at = e.at; octets = more; replaced = more2 } ∷ []
added entries kept entries2 octets kept_octets octets2 replaced kept_replaced replaced2 more more2 e within paired same ek e2 ok o2 rk r2 first last =
    let from : e.from ≡ length octets = first ∙ ap length ok in
    let to : e.to ≡ length octets + length more = last ∙ ap length o2 ∙ ap (λ (xs : List ℕ). length (xs ++ more)) ok ∙ length-append octets more in
    rw (e2, ek, o2, ok, r2, rk) (writes-more octets more replaced more2 entries e within paired same from to)

pub within-added : (entries kept entries2 : List Entry) (octets kept_octets octets2 more : List ℕ) (e : Entry) → AllWithin (length octets) entries → kept ≡ entries → entries2 ≡ kept ++ e ∷ []
    → kept_octets ≡ octets → octets2 ≡ kept_octets ++ more → e.from ≡ length kept_octets → e.to ≡ length octets2 → AllWithin (length octets2) entries2
within-added entries kept entries2 octets kept_octets octets2 more e within ek e2 ok o2 first last =
    let longer : length octets2 ≡ length octets + length more = ap length o2 ∙ ap (λ (xs : List ℕ). length (xs ++ more)) ok ∙ length-append octets more in
    let from : e.from ≡ length octets = first ∙ ap length ok in
    rw (e2, ek) (within-more (length octets) (length octets2) entries e within (omega (arith, longer)) (omega (arith, longer, from, last)) (omega (arith, last)))

-- what a Vec read at a place is the write there
pub entry-at : (items read : List Entry) (n : ℕ) (e : Entry) → read ≡ items → n < length read → e ≡ get_or read n e → slice_get items n ≡ Some e
entry-at items read n e same within is = ap (λ (xs : List Entry). slice_get xs n) (sym same) ∙ slice_get_read read (length read) n e refl within is

pub write-at : (octets replaced : List ℕ) (entries : List Entry) (n : ℕ) (e : Entry) → slice_get entries n ≡ Some e → slice_get (map (write_of octets replaced) entries) n ≡ Some (write_of octets replaced e)
write-at octets replaced entries n e found = slice_get-map (write_of octets replaced) entries n ∙ ap (option_map (write_of octets replaced)) found
