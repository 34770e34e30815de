-- One event more, at the end of a record.
use Rattle.std.proofs.Common.{◌≡◌, ℕ, map, option_map, slice_get, ◌+◌, ◌≤◌, List, [], ◌∷◌, ◌++◌, length, refl, ap, sym, ◌∙◌, subst, arith, take, drop}
use Rattle.std.proofs.lemmas.Grind.{common_steps}
use Rattle.std.proofs.lemmas.List.{length-map}
use Rattle.std.proofs.lemmas.Option.{slice_get-map}
use Rattle.std.proofs.lemmas.List.Edits.{split_between}
use Rattle.std.specs.List.{between}
use Rattle.eeprom.specs.Chip.{Writing, writing, giving}
use Rattle.eeprom.specs.Image.{overwrite, IsTorn}
use Rattle.eeprom.specs.Recorded.{replayed, AllFit, past_of}
use Rattle.eeprom.specs.Recording.{tells}
use Rattle.eeprom.specs.Told.{with_write, with_output, writes_of}
use Rattle.eeprom.specs.declared.recording.Written.{Written}
use Rattle.eeprom.specs.declared.recording.Event.{Event}
use Rattle.eeprom.specs.declared.recording.Event.TheVariants.{Write, Give}

pub length-overwrite : (image : List ℕ) (at : ℕ) (octets : List ℕ) → at + length octets ≤ length image → length (overwrite image at octets) ≡ length image
length-overwrite image at octets h = grind (arith, common_steps)

-- octets written over themselves
pub overwrite-own : (image : List ℕ) (at count : ℕ) → at + count ≤ length image → IsTorn image at count image
overwrite-own image at count h =
    let octets = between at (at + count) image in
    let size : length octets ≡ count = grind (arith, common_steps) in
    record {
      octets = octets;
      count_is = size;
      is = rw size (split_between image at (at + count) (omega arith));
    }

-- a Vec after octets were written over a part of the slice of all its items
pub written_back : (items was now octets from : List ℕ) (len at : ℕ) → len ≡ length items → was ≡ items → from ≡ octets → now ≡ overwrite was at from → at + length octets ≤ length items →
    take len (now ++ drop (length now) items) ≡ overwrite items at octets
written_back items was now octets from len at e w f n h =
    let whole : now ≡ overwrite items at octets = n ∙ ap (λ w. overwrite w at from) w ∙ ap (λ f. overwrite items at f) f in
    let size : length now ≡ length items = ap length whole ∙ length-overwrite items at octets h in
    let first : take len (now ++ drop (length now) items) ≡ now = grind (arith, common_steps) in
    first ∙ whole

pub replayed-append : (image : List ℕ) (xs ys : List Event) → replayed image (xs ++ ys) ≡ replayed (replayed image xs) ys
replayed-append image [] ys = refl
replayed-append image (Write w ∷ xs) ys = replayed-append (overwrite image w.at w.octets.items) xs ys
replayed-append image (Give from to ∷ xs) ys = replayed-append image xs ys

pub past_of-append : (image : List ℕ) (xs ys : List Event) → past_of image (xs ++ ys) ≡ past_of image xs ++ past_of (replayed image xs) ys
past_of-append image [] ys = refl
past_of-append image (Write w ∷ xs) ys = ap (λ past. writing (record { image = image; at = w.at; count = length w.octets.items; mark = w.mark }) ∷ past) (past_of-append (overwrite image w.at w.octets.items) xs ys)
past_of-append image (Give from to ∷ xs) ys = ap (λ past. giving image from to ∷ past) (past_of-append image xs ys)

pub AllFit-append : (size : ℕ) (xs ys : List Event) → AllFit size xs → AllFit size ys → AllFit size (xs ++ ys)
AllFit-append size [] ys h k = k
AllFit-append size (Write w ∷ xs) ys h k = (h.0, AllFit-append size xs ys h.1 k)
AllFit-append size (Give from to ∷ xs) ys h k = AllFit-append size xs ys h k

pub length-replayed : (image : List ℕ) (events : List Event) → AllFit (length image) events → length (replayed image events) ≡ length image
length-replayed image [] h = refl
length-replayed image (Write w ∷ events) h =
    let e : length (overwrite image w.at w.octets.items) ≡ length image = length-overwrite image w.at w.octets.items h.0 in
    length-replayed (overwrite image w.at w.octets.items) events (subst (λ size. AllFit size events) (sym e) h.1) ∙ e
length-replayed image (Give from to ∷ events) h = length-replayed image events h

pub replays-written : (first image : List ℕ) (events : List Event) (w : Written) → image ≡ replayed first events → overwrite image w.at w.octets.items ≡ replayed first (events ++ Write w ∷ [])
replays-written first image events w replays = ap (λ image. overwrite image w.at w.octets.items) replays ∙ sym (replayed-append first events (Write w ∷ []))

pub replays-given : (first image : List ℕ) (events : List Event) (from to : ℕ) → image ≡ replayed first events → image ≡ replayed first (events ++ Give from to ∷ [])
replays-given first image events from to replays = replays ∙ sym (replayed-append first events (Give from to ∷ []))

pub fits-written : (first image : List ℕ) (events : List Event) (w : Written) → image ≡ replayed first events → AllFit (length first) events → w.at + length w.octets.items ≤ length image → AllFit (length first) (events ++ Write w ∷ [])
fits-written first image events w replays fits h =
    let size : length image ≡ length first = ap length replays ∙ length-replayed first events fits in
    AllFit-append (length first) events (Write w ∷ []) fits (omega arith, tt)

-- what is told after one write more, and after one piece of output more
pub tells-written : (first image image2 output : List ℕ) (events events2 : List Event) (w : Written) → image ≡ replayed first events → w.mark ≡ length output →
    image2 ≡ overwrite image w.at w.octets.items → events2 ≡ events ++ Write w ∷ [] → tells first image2 output events2 ≡ with_write w.at w.octets.items (tells first image output events)
tells-written first image image2 output events events2 w replays mark e f =
    let past = past_of-append first events (Write w ∷ []) ∙ ap (λ stretch. past_of first events ++ stretch ∷ []) (stretch-written (replayed first events) image w (length output) (sym replays) mark) in
    let clock : length (events ++ Write w ∷ []) ≡ length events + 1 = grind (arith, common_steps) in
    rw (e, f, past, clock) refl
  where
    stretch-written : (was image : List ℕ) (w : Written) (mark : ℕ) → was ≡ image → w.mark ≡ mark →
        writing (record { image = was; at = w.at; count = length w.octets.items; mark = w.mark }) ≡ writing (record { image = image; at = w.at; count = length w.octets.items; mark = mark })
    stretch-written was image w mark e f = cc

pub tells-given : (first image output output2 more : List ℕ) (events events2 : List Event) (from to : ℕ) → image ≡ replayed first events → from ≡ length output → to ≡ length output2 →
    output2 ≡ output ++ more → events2 ≡ events ++ Give from to ∷ [] → tells first image output2 events2 ≡ with_output more (tells first image output events)
tells-given first image output output2 more events events2 from to replays a b e f =
    let past = past_of-append first events (Give from to ∷ []) ∙ ap (λ image. past_of first events ++ giving image from to ∷ []) (sym replays) in
    let clock : length (events ++ Give from to ∷ []) ≡ length events + 1 = grind (arith, common_steps) in
    rw (f, past, clock, a, b, e) refl

-- an event put behind a list that stayed meanwhile
pub behind : (events kept events2 : List Event) (e : Event) → kept ≡ events → events2 ≡ kept ++ e ∷ [] → events2 ≡ events ++ e ∷ []
behind events kept events2 e k f = f ∙ ap (λ events. events ++ e ∷ []) k

-- the record's two facts after a write, and after a piece of output
pub replays-more : (first image image2 : List ℕ) (events events2 : List Event) (w : Written) → image ≡ replayed first events →
    image2 ≡ overwrite image w.at w.octets.items → events2 ≡ events ++ Write w ∷ [] → image2 ≡ replayed first events2
replays-more first image image2 events events2 w replays e f = rw (e, f) (replays-written first image events w replays)

pub fits-more : (first image : List ℕ) (events events2 : List Event) (w : Written) → image ≡ replayed first events → AllFit (length first) events → w.at + length w.octets.items ≤ length image →
    events2 ≡ events ++ Write w ∷ [] → AllFit (length first) events2
fits-more first image events events2 w replays fits h f = rw f (fits-written first image events w replays fits h)

pub fits-given : (size : ℕ) (events events2 : List Event) (from to : ℕ) → AllFit size events → events2 ≡ events ++ Give from to ∷ [] → AllFit size events2
fits-given size events events2 from to fits f = rw f (AllFit-append size events (Give from to ∷ []) fits tt)

-- how many octets of output had gone out at each write
abbrev pub marks_of : List Event → List ℕ
marks_of [] = []
marks_of (Write w ∷ events) = w.mark ∷ marks_of events
marks_of (Give from to ∷ events) = marks_of events

pub marks-past : (image : List ℕ) (events : List Event) → map (λ (w : Writing). w.mark) (writes_of (past_of image events)) ≡ marks_of events
marks-past image [] = refl
marks-past image (Write w ∷ events) = ap (λ marks. w.mark ∷ marks) (marks-past (overwrite image w.at w.octets.items) events)
marks-past image (Give from to ∷ events) = marks-past image events

pub count_past : (image : List ℕ) (events : List Event) → length (writes_of (past_of image events)) ≡ length (marks_of events)
count_past image events = sym (length-map (writes_of (past_of image events)) (λ (w : Writing). w.mark)) ∙ ap length (marks-past image events)

pub mark_past : (image : List ℕ) (events : List Event) (write : ℕ) → option_map (λ (w : Writing). w.mark) (slice_get (writes_of (past_of image events)) write) ≡ slice_get (marks_of events) write
mark_past image events write = sym (slice_get-map (λ (w : Writing). w.mark) (writes_of (past_of image events)) write) ∙ ap (λ marks. slice_get marks write) (marks-past image events)

pub marks_fit : (events : List Event) → length (marks_of events) ≤ length events
marks_fit [] = omega arith
marks_fit (Write w ∷ events) = let h = marks_fit events in grind arith
marks_fit (Give from to ∷ events) = let h = marks_fit events in grind arith
