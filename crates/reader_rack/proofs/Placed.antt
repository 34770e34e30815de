-- One reader among others.
use Rattle.std.proofs.Common.{◌≡◌, ◌≢◌, ℕ, zero, suc, ◌+◌, ◌-◌, ◌<◌, ◌==◌, Bool, true, false, List, [], ◌∷◌, length, Option, Some, None, codes, inl, inr, get_or, slice_set, IsTrue, refl, sym, ◌∙◌, ap, subst, arith, if◌then◌else◌}
use Rattle.std.specs.Prelude.{slice_get, is_some, option_map, IfSome, IsSomeAnd}
use Rattle.std.specs.Option.{option_map_or}
use Rattle.std.proofs.lemmas.Bool.{eqb-true, eqb-false}
use Rattle.std.proofs.lemmas.Option.{same_Some, slice_get-get_or}
use Rattle.eeprom.specs.Output.{Prints}
use Rattle.scql_model.specs.Machine.{Machine, Transaction}
use Rattle.terminal.specs.Failing.{IsStart}
use Rattle.terminal.specs.Holding.{Holding, terminal_at}
use Rattle.reader_rack.specs.declared.rack_end.RackEnd.{RackEnd}
use Rattle.reader_rack.specs.declared.rack_end.RackEnd.TheVariants as ends
use Rattle.reader_rack.specs.declared.rack_refusal.RackRefusal.{RackRefusal}
use Rattle.reader_rack.specs.declared.rack_refusal.RackRefusal.TheVariants.{NoCard}
use Rattle.reader_rack.specs.declared.reader.Reader.{Reader}
use Rattle.reader_rack.specs.RackText.{Held, nothing, mute, sits, RackEffect, RackState, asked, ejected, rack_effect, stated, taken, to_reader, with_reader}
use Rattle.reader_rack.specs.Racks.{Asks, IsRack, IsSetAside, OthersStay, answers_at, count_at, holds_at, is_held, link_at, reader_at}
use Rattle.reader_rack.specs.Readers.{EndsBy, EndsEffect, Holds, IsHeld, IsSaidOrCut, answers, count, set_aside, taking}
use Rattle.reader_rack.specs.declared.statement.RackStatement.{RackStatement}
use Rattle.reader_rack.specs.declared.statement.RackStatement.TheVariants.{Eject}
use Rattle.reader_rack.specs.Statements.{IsReader, rack_statement}
use Rattle.reader_rack.proofs.Lined.{ends-mapped}

pub get-set : {A : Type 0} (xs : List A) (i : ℕ) (x : A) → i < length xs → slice_get (slice_set xs i x) i ≡ Some x
get-set [] i x within = absurd (omega (arith, within))
get-set (y ∷ xs) zero x within = refl
get-set (y ∷ xs) (suc i) x within = get-set xs i x (omega (arith, within))

pub get-other : {A : Type 0} (xs : List A) (i j : ℕ) (x : A) → j ≢ i → slice_get (slice_set xs i x) j ≡ slice_get xs j
get-other [] i j x other = refl
get-other (y ∷ xs) zero zero x other = absurd (other refl)
get-other (y ∷ xs) zero (suc j) x other = refl
get-other (y ∷ xs) (suc i) zero x other = refl
get-other (y ∷ xs) (suc i) (suc j) x other = get-other xs i j x (λ same. other (ap suc same))

-- the reader at a place, and the one that takes its place
pub at-place : {L : Type 0} (readers : List (Reader L)) (number place : ℕ) (d : Reader L) → place + 1 ≡ number → place < length readers → reader_at readers number ≡ Some (get_or readers place d)
at-place readers number place d same within =
    let there : number - 1 ≡ place = omega (arith, same) in
    ap (λ (n : ℕ). slice_get readers n) there ∙ slice_get-get_or readers place d within

pub at-set : {L : Type 0} (readers : List (Reader L)) (number place : ℕ) (reader : Reader L) → place + 1 ≡ number → place < length readers → reader_at (slice_set readers place reader) number ≡ Some reader
at-set readers number place reader same within =
    let there : number - 1 ≡ place = omega (arith, same) in
    ap (λ (n : ℕ). slice_get (slice_set readers place reader) n) there ∙ get-set readers place reader within

pub others-set : {L : Type 0} (readers : List (Reader L)) (number place : ℕ) (reader : Reader L) → place + 1 ≡ number → OthersStay number readers (slice_set readers place reader)
others-set readers number place reader same = λ other is_reader different.
    get-other readers place (other - 1) reader (λ wrong. different (omega (arith, wrong, same, is_reader.0)))

pub rack-set : {L : Type 0} (is_at : L → Machine → Type 0) (is_live : L → Bool) (readers : List (Reader L)) (current number place : ℕ) (reader : Reader L) (state : RackState) (held : Held)
    → place + 1 ≡ number → place < length readers → IsRack is_at is_live readers current state → Holds is_at is_live reader held
    → IsRack is_at is_live (slice_set readers place reader) current (with_reader state number held)
rack-set {L} is_at is_live readers current number place reader state held same within rack holds = record {
  holds = λ n r is_reader is. go n r is_reader is (n == number) refl;
  is_current = rack.is_current;
} where
  go : (n : ℕ) (r : Reader L) → IsReader n → reader_at (slice_set readers place reader) n ≡ Some r → (b : Bool) → (n == number) ≡ b → Holds is_at is_live r (if b then held else state.reader n)
  go n r is_reader is true e =
      let here : n ≡ number = eqb-true n number e in
      let found : reader ≡ r = same_Some reader r (sym (at-set readers number place reader same within) ∙ (ap (λ (m : ℕ). reader_at (slice_set readers place reader) m) (sym here) ∙ is)) in
      subst (λ (x : Reader L). Holds is_at is_live x held) found holds
  go n r is_reader is false e = rack.holds n r is_reader (sym (others-set readers number place reader same n is_reader (eqb-false n number e)) ∙ is)

-- what a reader is that takes the place of another one
pub of-set : {L B : Type 0} (of : Reader L → B) (none : B) (readers : List (Reader L)) (number place : ℕ) (reader : Reader L) → place + 1 ≡ number → place < length readers
    → option_map_or of (reader_at (slice_set readers place reader) number) none ≡ of reader
of-set {L} of none readers number place reader same within = ap (λ (r : Option (Reader L)). option_map_or of r none) (at-set readers number place reader same within)

pub of-place : {L B : Type 0} (of : Reader L → B) (none : B) (readers : List (Reader L)) (number place : ℕ) (d : Reader L) → place + 1 ≡ number → place < length readers
    → option_map_or of (reader_at readers number) none ≡ of (get_or readers place d)
of-place {L} of none readers number place d same within = ap (λ (r : Option (Reader L)). option_map_or of r none) (at-place readers number place d same within)

-- a reader that becomes a function of what it was
pub becomes-set : {L : Type 0} (of : Reader L → Reader L) (readers : List (Reader L)) (number place : ℕ) (d new : Reader L) → place + 1 ≡ number → place < length readers → new ≡ of (get_or readers place d)
    → reader_at (slice_set readers place new) number ≡ option_map of (reader_at readers number)
becomes-set of readers number place d new same within is =
    at-set readers number place new same within ∙ (ap Some is ∙ sym (ap (option_map of) (at-place readers number place d same within)))

-- A line of a reader is one of the rack.
pub asked-ends : {L : Type 0} (is_at : L → Machine → Type 0) (is_live : L → Bool) (readers : List (Reader L)) (number place : ℕ) (d new : Reader L) (line : List ℕ) (result : RackEnd) (given now : Option (List ℕ))
    → IsReader number → place + 1 ≡ number → place < length readers
    → ((held : Held) → Holds is_at is_live (get_or readers place d) held → EndsEffect (Holds is_at is_live new) (asked held line) result given now)
    → (state : RackState) → IsRack is_at is_live readers number state
    → EndsEffect (IsRack is_at is_live (slice_set readers place new) number) (λ (fails : Option ℕ). to_reader state state.current (asked (state.reader state.current) line fails)) result given now
asked-ends is_at is_live readers number place d new line result given now is_reader same within ends state rack =
    subst (λ (n : ℕ). EndsEffect (IsRack is_at is_live (slice_set readers place new) number) (λ (fails : Option ℕ). to_reader state n (asked (state.reader n) line fails)) result given now) rack.is_current
    (ends-mapped (Holds is_at is_live new) (IsRack is_at is_live (slice_set readers place new) number) (with_reader state number) (asked (state.reader number) line) result given now
    (λ held holds. rack-set is_at is_live readers number number place new state held same within rack holds)
    (ends (state.reader number) (rack.holds number (get_or readers place d) is_reader (at-place readers number place d same within))))

pub asked-asks : {L : Type 0} (is_live : L → Bool) (faults : L → ℕ) (readers : List (Reader L)) (number place : ℕ) (d new : Reader L) (result : RackEnd) (sink sink' : ℕ)
    → place + 1 ≡ number → place < length readers
    → EndsBy result (answers is_live (get_or readers place d)) (answers is_live new) (count faults (get_or readers place d)) (count faults new) sink sink'
    → new.aside ≡ (get_or readers place d).aside
    → Asks is_live faults number result readers (slice_set readers place new) sink sink'
asked-asks {L} is_live faults readers number place d new result sink sink' same within ends aside = record {
  ends_by = subst (λ (r : Option (Reader L)). EndsBy result (option_map_or (answers is_live) r false) (answers_at is_live (slice_set readers place new) number) (option_map_or (count faults) r 0) (count_at faults (slice_set readers place new) number) sink sink')
      (sym (at-place readers number place d same within))
      (subst (λ (r : Option (Reader L)). EndsBy result (answers is_live (get_or readers place d)) (option_map_or (answers is_live) r false) (count faults (get_or readers place d)) (option_map_or (count faults) r 0) sink sink')
      (sym (at-set readers number place new same within)) ends);
  aside = of-set (λ r. r.aside) None readers number place new same within ∙ (aside ∙ sym (of-place (λ r. r.aside) None readers number place d same within));
  others = others-set readers number place new same;
}

-- A link that is set aside.

pub eject-aside : {L : Type 0} (readers : List (Reader L)) (number place : ℕ) (d new : Reader L) → place + 1 ≡ number → place < length readers → new ≡ set_aside (get_or readers place d)
    → IsSetAside number readers (slice_set readers place new)
eject-aside {L} readers number place d new same within is =
    subst (λ (r : Option (Reader L)). IsSomeAnd r (λ was. reader_at (slice_set readers place new) number ≡ Some (set_aside was))) (sym (at-place readers number place d same within))
    (at-set readers number place new same within ∙ ap Some is)

pub eject-held : {L : Type 0} (readers : List (Reader L)) (number place : ℕ) (d : Reader L) (result : Bool) → place + 1 ≡ number → place < length readers → result ≡ is_some (get_or readers place d).link → result ≡ holds_at readers number
eject-held {L} readers number place d result same within is =
    is ∙ sym (ap (λ (r : Option (Reader L)). option_map_or (λ reader. is_some reader.link) r false) (at-place readers number place d same within))

held-some : {L : Type 0} (is_at : L → Machine → Type 0) (is_live : L → Bool) (link : Option L) (terminal : Holding) (held : Held) → IsHeld is_at is_live link terminal held → is_some link ≡ is_held held
held-some is_at is_live None terminal held there = sym (ap is_held there)
held-some is_at is_live (Some link) terminal nothing there = absurd there
held-some is_at is_live (Some link) terminal mute there = refl
held-some is_at is_live (Some link) terminal (sits state) there = refl

aside-holds : {L : Type 0} (is_at : L → Machine → Type 0) (is_live : L → Bool) (link aside : Option L) (terminal : Holding) (held : Held)
    → Holds is_at is_live (set_aside (record { link = link; aside = aside; terminal = terminal })) (ejected held).next
aside-holds is_at is_live None aside terminal nothing = refl
aside-holds is_at is_live None aside terminal mute = refl
aside-holds is_at is_live None aside terminal (sits state) = refl
aside-holds is_at is_live (Some link) aside terminal nothing = refl
aside-holds is_at is_live (Some link) aside terminal mute = refl
aside-holds is_at is_live (Some link) aside terminal (sits state) = refl

pub eject-ends : {L : Type 0} (is_at : L → Machine → Type 0) (is_live : L → Bool) (readers : List (Reader L)) (current number place : ℕ) (d new : Reader L) (result : Bool)
    → IsReader number → place + 1 ≡ number → place < length readers → new ≡ set_aside (get_or readers place d) → result ≡ is_some (get_or readers place d).link
    → (state : RackState) → IsRack is_at is_live readers current state
    → (result ≡ is_held (state.reader number)) × IsRack is_at is_live (slice_set readers place new) current (with_reader state number (ejected (state.reader number)).next)
eject-ends {L} is_at is_live readers current number place d new result is_reader same within is held state rack =
    let old : Reader L = get_or readers place d in (
      held ∙ held-some is_at is_live old.link old.terminal (state.reader number) (rack.holds number old is_reader (at-place readers number place d same within)),
      rack-set is_at is_live readers current number place new state (ejected (state.reader number)).next same within rack
          (subst (λ (r : Reader L). Holds is_at is_live r (ejected (state.reader number)).next) (sym is) (aside-holds is_at is_live old.link old.aside old.terminal (state.reader number))),
    )

aside-count : {L : Type 0} (faults : L → ℕ) (link aside : Option L) (terminal : Holding)
    → count faults (set_aside (record { link = link; aside = aside; terminal = terminal })) ≡ count faults (record { link = link; aside = aside; terminal = terminal })
aside-count faults None aside terminal = refl
aside-count faults (Some link) aside terminal = refl

pub eject-counts : {L : Type 0} (faults : L → ℕ) (readers : List (Reader L)) (place : ℕ) (d new : Reader L) → place < length readers → new ≡ set_aside (get_or readers place d)
    → (n : ℕ) → count_at faults (slice_set readers place new) n ≡ count_at faults readers n
eject-counts {L} faults readers place d new within is n = go (n - 1 == place) refl where
  go : (b : Bool) → (n - 1 == place) ≡ b → count_at faults (slice_set readers place new) n ≡ count_at faults readers n
  go true e =
      let here : n - 1 ≡ place = eqb-true (n - 1) place e in
      let old : Reader L = get_or readers place d in
      let was : slice_get readers (n - 1) ≡ Some old = ap (λ (m : ℕ). slice_get readers m) here ∙ slice_get-get_or readers place d within in
      let became : slice_get (slice_set readers place new) (n - 1) ≡ Some new = ap (λ (m : ℕ). slice_get (slice_set readers place new) m) here ∙ get-set readers place new within in
      ap (λ (r : Option (Reader L)). option_map_or (count faults) r 0) became
      ∙ (ap (count faults) is ∙ (aside-count faults old.link old.aside old.terminal ∙ sym (ap (λ (r : Option (Reader L)). option_map_or (count faults) r 0) was)))
  go false e = ap (λ (r : Option (Reader L)). option_map_or (count faults) r 0) (get-other readers place (n - 1) new (eqb-false (n - 1) place e))

-- what is said of a link that is set aside, or isn't there

abbrev EndsWith : RackEnd → Option RackRefusal → Type 0
EndsWith ends.Answered refusal = refusal ≡ None
EndsWith (ends.Refused why) refusal = refusal ≡ Some why
EndsWith ends.Mute refusal = ⊥
EndsWith ends.SinkFault refusal = ⊥

said-so : {S : Type 0} (at : S → Type 0) (does : RackEffect S) (text : List ℕ) (end' result : RackEnd) (given now : Option (List ℕ)) (sink sink' : ℕ) → at does.next → does.text ≡ text
    → EndsWith end' does.refusal → IsSaidOrCut text end' result given now sink sink' → EndsEffect at (λ (fails : Option ℕ). does) result given now
said-so at does text ends.Answered result given now sink sink' there is refusal (inl said) =
    subst (λ (r : RackEnd). EndsEffect at (λ (fails : Option ℕ). does) r given now) (sym said.ends) (record { there = there; text = subst (λ (t : List ℕ). Prints t given now) (sym is) said.printed }, refusal)
said-so at does text (ends.Refused why) result given now sink sink' there is refusal (inl said) =
    subst (λ (r : RackEnd). EndsEffect at (λ (fails : Option ℕ). does) r given now) (sym said.ends) (record { there = there; text = subst (λ (t : List ℕ). Prints t given now) (sym is) said.printed }, refusal)
said-so at does text ends.Mute result given now sink sink' there is refusal (inl said) = absurd refusal
said-so at does text ends.SinkFault result given now sink sink' there is refusal (inl said) = absurd refusal
said-so at does text end' result given now sink sink' there is refusal (inr cut) =
    subst (λ (r : RackEnd). EndsEffect at (λ (fails : Option ℕ). does) r given now) (sym cut.ends) (None, subst (λ (t : List ℕ). IsStart t given now) (sym is) cut.start)

eject-ok : (held : Held) → is_held held ≡ true → ((ejected held).text ≡ codes "ok\n") × ((ejected held).refusal ≡ None)
eject-ok nothing is = absurd cc
eject-ok mute is = (refl, refl)
eject-ok (sits state) is = (refl, refl)

eject-none : (held : Held) → is_held held ≡ false → ((ejected held).text ≡ codes "no card\n") × ((ejected held).refusal ≡ Some NoCard)
eject-none nothing is = (refl, refl)
eject-none mute is = absurd cc
eject-none (sits state) is = absurd cc

pub ejected-ok : (at : RackState → Type 0) (state : RackState) (number : ℕ) (statement : RackStatement) (found : Bool) (result : RackEnd) (given given' now : Option (List ℕ)) (sink sink' : ℕ) → statement ≡ Eject number → found ≡ true
    → (found ≡ is_held (state.reader number)) × at (with_reader state number (ejected (state.reader number)).next) → given' ≡ given → IsSaidOrCut (codes "ok\n") ends.Answered result given' now sink sink'
    → EndsEffect at (λ (fails : Option ℕ). stated state statement) result given now
ejected-ok at state number statement found result given given' now sink sink' is held ejects same said =
    let ok = eject-ok (state.reader number) (sym ejects.0 ∙ held) in
    subst (λ (s : RackStatement). EndsEffect at (λ (fails : Option ℕ). stated state s) result given now) (sym is)
    (said-so at (to_reader state number (ejected (state.reader number))) (codes "ok\n") ends.Answered result given now sink sink' ejects.1 ok.0 ok.1 (subst (λ (g : Option (List ℕ)). IsSaidOrCut (codes "ok\n") ends.Answered result g now sink sink') same said))

pub ejected-none : (at : RackState → Type 0) (state : RackState) (number : ℕ) (statement : RackStatement) (found : Bool) (result : RackEnd) (given given' now : Option (List ℕ)) (sink sink' : ℕ) → statement ≡ Eject number → found ≡ false
    → (found ≡ is_held (state.reader number)) × at (with_reader state number (ejected (state.reader number)).next) → given' ≡ given → IsSaidOrCut (codes "no card\n") (ends.Refused NoCard) result given' now sink sink'
    → EndsEffect at (λ (fails : Option ℕ). stated state statement) result given now
ejected-none at state number statement found result given given' now sink sink' is held ejects same said =
    let none = eject-none (state.reader number) (sym ejects.0 ∙ held) in
    subst (λ (s : RackStatement). EndsEffect at (λ (fails : Option ℕ). stated state s) result given now) (sym is)
    (said-so at (to_reader state number (ejected (state.reader number))) (codes "no card\n") (ends.Refused NoCard) result given now sink sink' ejects.1 none.0 none.1 (subst (λ (g : Option (List ℕ)). IsSaidOrCut (codes "no card\n") (ends.Refused NoCard) result g now sink sink') same said))

-- What a line does is what is done to it as the rack's own statement, or as any other line.
pub taken-ends : (at : RackState → Type 0) (rack : RackState) (line : List ℕ) (statement : Option RackStatement) (result : RackEnd) (given now : Option (List ℕ)) → rack_statement line ≡ statement
    → EndsEffect at (λ (fails : Option ℕ). taken rack statement line fails) result given now → EndsEffect at (rack_effect rack (Some line)) result given now
taken-ends at rack line statement result given now is done = subst (λ (s : Option RackStatement). EndsEffect at (λ (fails : Option ℕ). taken rack s line fails) result given now) (sym is) done

-- A link that is taken in.

pub insert-rack : {L : Type 0} (is_at : L → Machine → Type 0) (is_live : L → Bool) (readers : List (Reader L)) (current number place : ℕ) (new : Reader L) (link : L) → place + 1 ≡ number → place < length readers → new ≡ taking link → IsTrue (is_live link)
    → (state : RackState) (m : Machine) → IsRack is_at is_live readers current state → is_at link m → m.transaction ≡ None
    → IsRack is_at is_live (slice_set readers place new) current (with_reader state number (sits (terminal_at m 0)))
insert-rack {L} is_at is_live readers current number place new link same within is live state m rack at closed =
    rack-set is_at is_live readers current number place new state (sits (terminal_at m 0)) same within rack
    (subst (λ (r : Reader L). Holds is_at is_live r (sits (terminal_at m 0))) (sym is) (live, record { at = at; channel = refl; knows = sym (ap (option_map (λ (t : Transaction). t.channel)) closed) }))

pub insert-count : {L : Type 0} (faults : L → ℕ) (readers : List (Reader L)) (number place : ℕ) (new : Reader L) (link : L) → place + 1 ≡ number → place < length readers → new ≡ taking link
    → count_at faults (slice_set readers place new) number ≡ faults link
insert-count faults readers number place new link same within is = of-set (count faults) 0 readers number place new same within ∙ ap (count faults) is

pub insert-link : {L : Type 0} (P : L → Type 0) (readers : List (Reader L)) (number place : ℕ) (new : Reader L) (link : L) → place + 1 ≡ number → place < length readers → new ≡ taking link → P link
    → IsSomeAnd (link_at (slice_set readers place new) number) P
insert-link {L} P readers number place new link same within is has =
    subst (λ (inside : Option L). IsSomeAnd inside P) (sym (of-set (λ r. r.link) None readers number place new same within ∙ ap (λ (r : Reader L). r.link) is)) has

-- What is done to the link of one reader.

pub rack-holds : {L : Type 0} (is_at : L → Machine → Type 0) (is_live : L → Bool) (readers : List (Reader L)) (current number place : ℕ) (d : Reader L) (state : RackState) (held : Held) → IsReader number → place + 1 ≡ number → place < length readers
    → IsRack is_at is_live readers current state → state.reader number ≡ held → Holds is_at is_live (get_or readers place d) held
rack-holds is_at is_live readers current number place d state held is_reader same within rack is =
    subst (λ (h : Held). Holds is_at is_live (get_or readers place d) h) is (rack.holds number (get_or readers place d) is_reader (at-place readers number place d same within))

if-some : {A : Type 0} (x : Option A) (P : A → Type 0) → ((a : A) → x ≡ Some a → P a) → IfSome x P
if-some None P has = tt
if-some (Some a) P has = has a refl

pub links-set : {L : Type 0} (readers : List (Reader L)) (number place : ℕ) (d new : Reader L) (P : L → L → Type 0) → place + 1 ≡ number → place < length readers
    → ((link : L) → (get_or readers place d).link ≡ Some link → IfSome new.link (P link))
    → IfSome (link_at readers number) (λ link. IfSome (link_at (slice_set readers place new) number) (P link))
links-set {L} readers number place d new P same within has =
    subst (λ (was : Option L). IfSome was (λ link. IfSome (link_at (slice_set readers place new) number) (P link))) (sym (of-place (λ r. r.link) None readers number place d same within))
    (subst (λ (becomes : Option L). IfSome (get_or readers place d).link (λ link. IfSome becomes (P link))) (sym (of-set (λ r. r.link) None readers number place new same within))
    (if-some (get_or readers place d).link (λ link. IfSome new.link (P link)) has))

pub answers-set : {L : Type 0} (is_live : L → Bool) (readers : List (Reader L)) (number place : ℕ) (new : Reader L) → place + 1 ≡ number → place < length readers
    → answers_at is_live (slice_set readers place new) number ≡ answers is_live new
answers-set is_live readers number place new same within = of-set (answers is_live) false readers number place new same within

pub counts-set : {L : Type 0} (R : ℕ → ℕ → Type 0) (faults : L → ℕ) (readers : List (Reader L)) (number place : ℕ) (d new : Reader L) → place + 1 ≡ number → place < length readers
    → R (count faults (get_or readers place d)) (count faults new) → R (count_at faults readers number) (count_at faults (slice_set readers place new) number)
counts-set R faults readers number place d new same within is =
    subst (λ (was : ℕ). R was (count_at faults (slice_set readers place new) number)) (sym (of-place (count faults) 0 readers number place d same within))
    (subst (λ (becomes : ℕ). R (count faults (get_or readers place d)) becomes) (sym (of-set (count faults) 0 readers number place new same within)) is)
