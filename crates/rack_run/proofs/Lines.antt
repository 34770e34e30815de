-- What is told of a line, as a run goes on behind it.
use Rattle.std.proofs.Common.{◌≡◌, ◌≢◌, inl, inr, ℕ, ◌≤◌, ◌==◌, ◌&&◌, Bool, true, false, List, [], ◌∷◌, Option, Some, None, Result, Ok, Err, refl, sym, ap, subst, ◌∙◌, arith, append-nil, if◌then◌else◌}
use Rattle.std.specs.Prelude.{◌||◌, IfErr, IsErr, IsSomeAnd, is_none, is_some}
use Rattle.person.specs.Showing.{Shows}
use Rattle.rack_run.specs.Prompts.{prompt, prompts_behind}
use Rattle.std.specs.Option.{option_map_or}
use Rattle.std.proofs.lemmas.Bool.{eqb-true, eqb-false, false≢true, ne_eqb}
use Rattle.std.proofs.lemmas.List.Elements.{All-cons, All-nil}
use Rattle.eeprom.specs.Fault.{Rose}
use Rattle.eeprom.specs.Output.{Prints}
use Rattle.scql_model.specs.Machine.{Machine}
use Rattle.script.specs.Line.{is_nothing}
use Rattle.script.specs.Tokens.{after_blanks}
use Rattle.terminal.specs.Holding.{Holding}
use Rattle.reader_rack.specs.declared.rack_end.RackEnd.{RackEnd}
use Rattle.reader_rack.specs.declared.rack_end.RackEnd.TheVariants as ends
use Rattle.reader_rack.specs.declared.rack_refusal.RackRefusal.TheVariants.{NoCard}
use Rattle.reader_rack.specs.declared.reader.Reader.{Reader}
use Rattle.reader_rack.specs.declared.statement.RackStatement.{RackStatement}
use Rattle.reader_rack.specs.declared.statement.RackStatement.TheVariants.{Select, Eject}
use Rattle.reader_rack.specs.OwnLines.{AreSound, OwnTurn, ejects, is_eject_of, is_for, with_own}
use Rattle.reader_rack.specs.RackText.{Held, nothing, mute, sits, RackEffect, RackState, asked, ejected, rack_effect, says, taken}
use Rattle.reader_rack.specs.Racks.{IsPrintedBy, IsRack, IsSetAside, aside_at, count_at, reader_at}
use Rattle.reader_rack.specs.Readers.{EndsBy, EndsEffect, IsHeld, Works, count, set_aside}
use Rattle.reader_rack.specs.Statements.{IsReader, rack_statement}
use Rattle.rack_run.specs.declared.tally.Tally.{Tally}
use Rattle.rack_run.specs.Carrying.{Does, DoesLine, DoesSo, own_statement, selected_by}
use Rattle.rack_run.specs.Status.{with_end}
use Rattle.rack_run.specs.Turns.{IsAside, held_link, set_aside_in}
use Rattle.rack_run.specs.Views.{AllCountsStay, BreaksIn, CarriesOut, NoCountFalls, View}

pub ends-taken : (at : RackState → Type 0) (state : RackState) (taken line : Option (List ℕ)) (end' : RackEnd) (given now : Option (List ℕ)) → taken ≡ line → EndsEffect at (rack_effect state line) end' given now → EndsEffect at (rack_effect state taken) end' given now
ends-taken at state taken line end' given now same ended = subst (λ (l : Option (List ℕ)). EndsEffect at (rack_effect state l) end' given now) (sym same) ended

-- one reader, and all others
by-reader : (P : ℕ → Type 0) (current : ℕ) → P current → ((n : ℕ) → n ≢ current → P n) → (n : ℕ) → P n
by-reader P current here others n = go (n == current) refl where
  go : (b : Bool) → (n == current) ≡ b → P n
  go true e = subst P (sym (eqb-true n current e)) here
  go false e = others n (eqb-false n current e)

-- Counts.

-- no device failed
abbrev IsSound : RackEnd → Type 0
IsSound ends.Answered = Unit {0}
IsSound (ends.Refused why) = Unit {0}
IsSound end' = ⊥

works-of : (end' : RackEnd) (live live' : Bool) (faults faults' sink sink' : ℕ) → IsSound end' → EndsBy end' live live' faults faults' sink sink' → Works live live' faults faults' sink sink'
works-of ends.Answered live live' faults faults' sink sink' sound works = works
works-of (ends.Refused why) live live' faults faults' sink sink' sound works = works
works-of ends.Mute live live' faults faults' sink sink' sound works = absurd sound
works-of ends.SinkFault live live' faults faults' sink sink' sound works = absurd sound

printed-of : (end' : RackEnd) (sink sink' : ℕ) → IsSound end' → IsPrintedBy end' sink sink' → sink' ≡ sink
printed-of ends.Answered sink sink' sound same = same
printed-of (ends.Refused why) sink sink' sound same = same
printed-of ends.Mute sink sink' sound same = absurd sound
printed-of ends.SinkFault sink sink' sound same = absurd sound

count-same : {L : Type 0} (faults : L → ℕ) (old new : List (Reader L)) (n : ℕ) → reader_at new n ≡ reader_at old n → count_at faults new n ≡ count_at faults old n
count-same {L} faults old new n same = ap (λ (r : Option (Reader L)). option_map_or (count faults) r 0) same

so-quiet : {L : Type 0} (is_live : L → Bool) (faults : L → ℕ) (statement : Option RackStatement) (end' : RackEnd) (old : List (Reader L)) (current : ℕ) (new : List (Reader L)) (sink sink' : ℕ) → IsSound end'
    → DoesSo is_live faults statement end' old current new sink sink' → AllCountsStay faults old new × (sink' ≡ sink)
so-quiet is_live faults None end' old current new sink sink' sound asks =
    let works = works-of end' _ _ _ _ sink sink' sound asks.ends_by in (
      by-reader (λ n. IsReader n → count_at faults new n ≡ count_at faults old n) current (λ reader. works.faults_same) (λ n other reader. count-same faults old new n (asks.others n reader other)),
      works.sink_same,
    )
so-quiet is_live faults (Some statement) end' old current new sink sink' sound states = (λ n reader. states.counts n, printed-of end' sink sink' sound states.printed)

line-quiet : {L : Type 0} (is_live : L → Bool) (faults : L → ℕ) (line : Option (List ℕ)) (end' : RackEnd) (old : List (Reader L)) (current : ℕ) (new : List (Reader L)) (sink sink' : ℕ) → IsSound end'
    → DoesLine is_live faults line end' old current new sink sink' → AllCountsStay faults old new × (sink' ≡ sink)
line-quiet {L} is_live faults None end' old current new sink sink' sound does = (λ n reader. ap (λ (readers : List (Reader L)). count_at faults readers n) does.1, printed-of end' sink sink' sound does.0)
line-quiet is_live faults (Some line) end' old current new sink sink' sound does = so-quiet is_live faults (rack_statement line) end' old current new sink sink' sound does

-- a card went mute
record Muted {L : Type 0} (faults : L → ℕ) (line : Option (List ℕ)) (old : List (Reader L)) (current : ℕ) (new : List (Reader L)) (sink sink' : ℕ) : Type 0 where
  rose : Rose (count_at faults old current) (count_at faults new current)
  cards : NoCountFalls faults old new
  same : sink' ≡ sink

so-mute : {L : Type 0} (is_live : L → Bool) (faults : L → ℕ) (line : Option (List ℕ)) (statement : Option RackStatement) (old : List (Reader L)) (current : ℕ) (new : List (Reader L)) (sink sink' : ℕ)
    → DoesSo is_live faults statement ends.Mute old current new sink sink' → Muted faults line old current new sink sink'
so-mute is_live faults line None old current new sink sink' asks = record {
  rose = asks.ends_by.rose;
  cards = by-reader (λ n. IsReader n → count_at faults old n ≤ count_at faults new n) current (λ reader. asks.ends_by.later) (λ n other reader. omega (arith, count-same faults old new n (asks.others n reader other)));
  same = asks.ends_by.sink_same;
}
so-mute is_live faults line (Some statement) old current new sink sink' states = absurd states.printed

line-mute : {L : Type 0} (is_live : L → Bool) (faults : L → ℕ) (line : Option (List ℕ)) (old : List (Reader L)) (current : ℕ) (new : List (Reader L)) (sink sink' : ℕ)
    → DoesLine is_live faults line ends.Mute old current new sink sink' → Muted faults line old current new sink sink'
line-mute is_live faults None old current new sink sink' does = absurd does.0
line-mute is_live faults (Some line) old current new sink sink' does = so-mute is_live faults (Some line) (rack_statement line) old current new sink sink' does

-- the outlet failed
record Broken {L : Type 0} (faults : L → ℕ) (old new : List (Reader L)) (sink sink' : ℕ) : Type 0 where
  rose : Rose sink sink'
  later : sink ≤ sink'
  cards : NoCountFalls faults old new

so-broken : {L : Type 0} (is_live : L → Bool) (faults : L → ℕ) (statement : Option RackStatement) (old : List (Reader L)) (current : ℕ) (new : List (Reader L)) (sink sink' : ℕ)
    → DoesSo is_live faults statement ends.SinkFault old current new sink sink' → Broken faults old new sink sink'
so-broken is_live faults None old current new sink sink' asks = record {
  rose = asks.ends_by.rose;
  later = asks.ends_by.sink_later;
  cards = by-reader (λ n. IsReader n → count_at faults old n ≤ count_at faults new n) current (λ reader. asks.ends_by.later) (λ n other reader. omega (arith, count-same faults old new n (asks.others n reader other)));
}
so-broken is_live faults (Some statement) old current new sink sink' states = record { rose = states.printed.0; later = states.printed.1; cards = λ n reader. omega (arith, states.counts n) }

line-broken : {L : Type 0} (is_live : L → Bool) (faults : L → ℕ) (line : Option (List ℕ)) (old : List (Reader L)) (current : ℕ) (new : List (Reader L)) (sink sink' : ℕ)
    → DoesLine is_live faults line ends.SinkFault old current new sink sink' → Broken faults old new sink sink'
line-broken {L} is_live faults None old current new sink sink' does = record { rose = does.0.0; later = does.0.1; cards = λ n reader. omega (arith, ap (λ (readers : List (Reader L)). count_at faults readers n) does.1) }
line-broken is_live faults (Some line) old current new sink sink' does = so-broken is_live faults (rack_statement line) old current new sink sink' does

-- Links that are set aside.

aside-held : {L : Type 0} (is_at : L → Machine → Type 0) (is_live : L → Bool) (link aside : Option L) (terminal : Holding) (held : Held) → IsHeld is_at is_live link terminal held
    → IsAside is_at is_live (held_link held) aside ((set_aside (record { link = link; aside = aside; terminal = terminal })).aside)
aside-held is_at is_live None aside terminal nothing there = refl
aside-held is_at is_live None aside terminal mute there = absurd cc
aside-held is_at is_live None aside terminal (sits state) there = absurd cc
aside-held is_at is_live (Some link) aside terminal nothing there = absurd there
aside-held is_at is_live (Some link) aside terminal mute there = there
aside-held is_at is_live (Some link) aside terminal (sits state) there = (there.0, there.1.at)

aside-of : {L : Type 0} (readers : List (Reader L)) (n : ℕ) (reader : Reader L) → reader_at readers n ≡ Some reader → aside_at readers n ≡ reader.aside
aside-of {L} readers n reader is = ap (λ (r : Option (Reader L)). option_map_or (λ (reader : Reader L). reader.aside) r None) is

eject-aside : {L : Type 0} (is_at : L → Machine → Type 0) (is_live : L → Bool) (old : List (Reader L)) (current : ℕ) (new : List (Reader L)) (state : RackState) (n : ℕ) → IsReader n → IsRack is_at is_live old current state → (was : Option (Reader L)) → reader_at old n ≡ was
    → IsSomeAnd was (λ (was : Reader L). reader_at new n ≡ Some (set_aside was)) → IsAside is_at is_live (held_link (state.reader n)) (aside_at old n) (aside_at new n)
eject-aside is_at is_live old current new state n reader rack None is becomes = absurd becomes
eject-aside {L} is_at is_live old current new state n reader rack (Some was) is becomes =
    subst (λ (x : Option L). IsAside is_at is_live (held_link (state.reader n)) x (aside_at new n)) (sym (aside-of old n was is))
    (subst (λ (x : Option L). IsAside is_at is_live (held_link (state.reader n)) was.aside x) (sym (aside-of new n (set_aside was) becomes))
    (aside-held is_at is_live was.link was.aside was.terminal (state.reader n) (rack.holds n was reader is)))

so-aside : {L : Type 0} (is_at : L → Machine → Type 0) (is_live : L → Bool) (faults : L → ℕ) (statement : Option RackStatement) (end' : RackEnd) (old : List (Reader L)) (current : ℕ) (new : List (Reader L)) (sink sink' : ℕ) (state : RackState) (n : ℕ)
    → IsReader n → IsRack is_at is_live old current state → DoesSo is_live faults statement end' old current new sink sink'
    → IsAside is_at is_live (if is_eject_of n statement then held_link (state.reader n) else None) (aside_at old n) (aside_at new n)
so-aside {L} is_at is_live faults None end' old current new sink sink' state n reader rack asks =
    by-reader (λ n. IsReader n → aside_at new n ≡ aside_at old n) current (λ reader. asks.aside)
    (λ n other reader. ap (λ (r : Option (Reader L)). option_map_or (λ (reader : Reader L). reader.aside) r None) (asks.others n reader other)) n reader
so-aside {L} is_at is_live faults (Some (Select m)) end' old current new sink sink' state n reader rack states = ap (λ (readers : List (Reader L)). aside_at readers n) states.named
so-aside {L} is_at is_live faults (Some (Eject m)) end' old current new sink sink' state n reader rack states = go (m == n) refl where
  go : (b : Bool) → (m == n) ≡ b → IsAside is_at is_live (if b then held_link (state.reader n) else None) (aside_at old n) (aside_at new n)
  go true e = eject-aside is_at is_live old current new state n reader rack (reader_at old n) refl (subst (λ (k : ℕ). IsSetAside k old new) (eqb-true m n e) states.named)
  go false e = ap (λ (r : Option (Reader L)). option_map_or (λ (reader : Reader L). reader.aside) r None) (states.others n reader (λ same. eqb-false m n e (sym same)))

line-aside : {L : Type 0} (is_at : L → Machine → Type 0) (is_live : L → Bool) (faults : L → ℕ) (line : Option (List ℕ)) (end' : RackEnd) (old : List (Reader L)) (current : ℕ) (new : List (Reader L)) (sink sink' : ℕ) (state : RackState) (fails : Option ℕ) (n : ℕ)
    → IsReader n → IsRack is_at is_live old current state → DoesLine is_live faults line end' old current new sink sink'
    → IsAside is_at is_live (set_aside_in n state (record { line = line; fails = fails } ∷ [])) (aside_at old n) (aside_at new n)
line-aside {L} is_at is_live faults None end' old current new sink sink' state fails n reader rack does = ap (λ (readers : List (Reader L)). aside_at readers n) does.1
line-aside is_at is_live faults (Some line) end' old current new sink sink' state fails n reader rack does = so-aside is_at is_live faults (rack_statement line) end' old current new sink sink' state n reader rack does

-- A reader's own turns.

abbrev is_sound : OwnTurn → Type 0
is_sound own = own.turn.fails ≡ None

sound-one : (ejected own : Bool) (turn : OwnTurn) → turn.turn.fails ≡ None → AreSound (if ejected then [] else with_own own turn [])
sound-one true own turn none = All-nil _
sound-one false true turn none = All-cons is_sound turn [] none (All-nil is_sound)
sound-one false false turn none = All-nil _

sound-others : (ejected own : Bool) (turn : OwnTurn) → own ≡ false → AreSound (if ejected then [] else with_own own turn [])
sound-others true own turn none = All-nil _
sound-others false true turn none = absurd cc
sound-others false false turn none = All-nil _

and-false : (a b : Bool) → b ≡ false → (a && b) ≡ false
and-false true b is = is
and-false false b is = refl

not-for : (number : ℕ) (state : RackState) (line : Option (List ℕ)) → state.current ≢ number → is_for number state line ≡ false
not-for number state None other = refl
not-for number state (Some line) other = and-false (is_none (rack_statement line)) (state.current == number) (ne_eqb state.current number other)

-- Effects.

unheard-muted : (asks_nothing : Bool) (held : Held) (text : List ℕ) → (if asks_nothing then says [] None held else says text (Some NoCard) held).muted ≡ false
unheard-muted true held text = refl
unheard-muted false held text = refl

asked-muted : (held : Held) (line : List ℕ) → (asked held line None).muted ≡ false
asked-muted nothing line = unheard-muted (is_nothing (after_blanks line)) nothing _
asked-muted mute line = unheard-muted (is_nothing (after_blanks line)) mute _
asked-muted (sits state) line = refl

ejected-muted : (held : Held) → (ejected held).muted ≡ false
ejected-muted nothing = refl
ejected-muted mute = refl
ejected-muted (sits state) = refl

taken-muted : (state : RackState) (statement : Option RackStatement) (line : List ℕ) → (taken state statement line None).muted ≡ false
taken-muted state (Some (Select m)) line = refl
taken-muted state (Some (Eject m)) line = ejected-muted (state.reader m)
taken-muted state None line = asked-muted (state.reader state.current) line

-- in a line behind which no card went mute it wasn't said
sound-muted : (state : RackState) (line : Option (List ℕ)) → (rack_effect state line None).muted ≡ false
sound-muted state None = refl
sound-muted state (Some line) = taken-muted state (rack_statement line) line

asked-refused : (held : Held) (line : List ℕ) (rows : ℕ) → (asked held line (Some rows)).muted ≡ true → (asked held line (Some rows)).refusal ≡ None
asked-refused nothing line rows muted = absurd cc (unheard-muted (is_nothing (after_blanks line)) nothing _, muted)
asked-refused mute line rows muted = absurd cc (unheard-muted (is_nothing (after_blanks line)) mute _, muted)
asked-refused (sits state) line rows muted = refl

taken-refused : (state : RackState) (statement : Option RackStatement) (line : List ℕ) (rows : ℕ) → (taken state statement line (Some rows)).muted ≡ true → (taken state statement line (Some rows)).refusal ≡ None
taken-refused state (Some (Select m)) line rows muted = absurd cc
taken-refused state (Some (Eject m)) line rows muted = absurd cc (ejected-muted (state.reader m), muted)
taken-refused state None line rows muted = asked-refused (state.reader state.current) line rows muted

-- a line in which a card went mute is none that was refused
mute-refused : (state : RackState) (line : Option (List ℕ)) (rows : ℕ) → (rack_effect state line (Some rows)).muted ≡ true → (rack_effect state line (Some rows)).refusal ≡ None
mute-refused state None rows muted = absurd cc
mute-refused state (Some line) rows muted = taken-refused state (rack_statement line) line rows muted

-- A line.

or-false : (a b : Bool) → b ≡ false → a ≡ (a || (b || false))
or-false true b is = refl
or-false false true is = absurd cc
or-false false false is = refl

or-true : (a b : Bool) → b ≡ true → true ≡ (a || (b || false))
or-true true b is = refl
or-true false true is = refl
or-true false false is = absurd cc

-- a line in which no device failed
sound-carried : {L : Type 0} (is_at : L → Machine → Type 0) (is_live : L → Bool) (faults : L → ℕ) (line : Option (List ℕ)) (end' : RackEnd) (old new : View L) → IsSound end'
    → ((state : RackState) → IsRack is_at is_live old.readers old.current state → (turned : RackEffect RackState) → turned ≡ rack_effect state line None
    → IsRack is_at is_live new.readers new.current turned.next × Prints turned.text old.given new.given × (new.tally.refused ≡ (old.tally.refused || (is_some turned.refusal || false))))
    → Does is_live faults line end' old.readers old.current new.readers new.current old.sink new.sink → new.tally.muted ≡ old.tally.muted → CarriesOut is_at is_live faults old (line ∷ []) new
sound-carried {L} is_at is_live faults line end' old new sound done does muted =
    let quiet = line-quiet is_live faults line end' old.readers old.current new.readers old.sink new.sink sound does.readers in
    record {
      current = does.selects;
      sink = quiet.1;
      cards = inl (muted, quiet.0);
      from = λ state rack.
          let here = done state rack (rack_effect state line None) refl in
          record {
            turns = record { line = line; fails = None } ∷ [];
            of_lines = refl;
            at = here.0;
            text = subst (λ (t : List ℕ). Prints t old.given new.given) (sym (append-nil (rack_effect state line None).text)) here.1;
            refused = here.2;
            muted = muted ∙ or-false old.tally.muted (rack_effect state line None).muted (sound-muted state line);
            asides = λ n reader. line-aside is_at is_live faults line end' old.readers old.current new.readers old.sink new.sink state None n reader rack does.readers;
            sound = λ n reader still. sound-one (ejects n line) (is_for n state line) (record { turn = record { line = line; fails = None }; text = (rack_effect state line None).text }) refl;
          };
    }

-- A line that ends so, unless the outlet failed in it.
pub line-carried : {L : Type 0} (is_at : L → Machine → Type 0) (is_live : L → Bool) (faults : L → ℕ) (line : Option (List ℕ)) (end' : RackEnd) (old new : View L) → IsReader old.current → ¬ end' ≡ ends.SinkFault
    → ((state : RackState) → IsRack is_at is_live old.readers old.current state → EndsEffect (IsRack is_at is_live new.readers new.current) (rack_effect state line) end' old.given new.given)
    → Does is_live faults line end' old.readers old.current new.readers new.current old.sink new.sink → new.tally ≡ with_end end' old.tally → CarriesOut is_at is_live faults old (line ∷ []) new
line-carried {L} is_at is_live faults line ends.Answered old new reader went done does tally =
    sound-carried is_at is_live faults line ends.Answered old new tt
    (λ state rack turned is.
    let ended = done state rack in (
      subst (λ (e : RackEffect RackState). IsRack is_at is_live new.readers new.current e.next) (sym is) ended.0.there,
      subst (λ (e : RackEffect RackState). Prints e.text old.given new.given) (sym is) ended.0.text,
      ap (λ (t : Tally). t.refused) tally ∙ or-false old.tally.refused (is_some turned.refusal) (ap is_some (ap (λ (e : RackEffect RackState). e.refusal) is ∙ ended.1)),
    ))
    does (ap (λ (t : Tally). t.muted) tally)
line-carried {L} is_at is_live faults line (ends.Refused why) old new reader went done does tally =
    sound-carried is_at is_live faults line (ends.Refused why) old new tt
    (λ state rack turned is.
    let ended = done state rack in (
      subst (λ (e : RackEffect RackState). IsRack is_at is_live new.readers new.current e.next) (sym is) ended.0.there,
      subst (λ (e : RackEffect RackState). Prints e.text old.given new.given) (sym is) ended.0.text,
      ap (λ (t : Tally). t.refused) tally ∙ or-true old.tally.refused (is_some turned.refusal) (ap is_some (ap (λ (e : RackEffect RackState). e.refusal) is ∙ ended.1)),
    ))
    does (ap (λ (t : Tally). t.muted) tally)
line-carried {L} is_at is_live faults line ends.Mute old new reader went done does tally =
    let failed = line-mute is_live faults line old.readers old.current new.readers old.sink new.sink does.readers in
    record {
      current = does.selects;
      sink = failed.same;
      cards = inr (ap (λ (t : Tally). t.muted) tally, record { number = old.current; reader = reader; rose = failed.rose }, failed.cards);
      from = λ state rack.
          let ended = done state rack in
          record {
            turns = record { line = line; fails = Some ended.0 } ∷ [];
            of_lines = refl;
            at = ended.1.there;
            text = subst (λ (t : List ℕ). Prints t old.given new.given) (sym (append-nil (rack_effect state line (Some ended.0)).text)) ended.1.text;
            refused = ap (λ (t : Tally). t.refused) tally ∙ or-false old.tally.refused (is_some (rack_effect state line (Some ended.0)).refusal) (ap is_some (mute-refused state line ended.0 ended.2));
            muted = ap (λ (t : Tally). t.muted) tally ∙ or-true old.tally.muted (rack_effect state line (Some ended.0)).muted ended.2;
            asides = λ n is_reader. line-aside is_at is_live faults line ends.Mute old.readers old.current new.readers old.sink new.sink state (Some ended.0) n is_reader rack does.readers;
            sound = λ n is_reader still. sound-others (ejects n line) (is_for n state line) (record { turn = record { line = line; fails = Some ended.0 }; text = (rack_effect state line (Some ended.0)).text })
                (not-for n state line (λ here. still (subst (λ (k : ℕ). Rose (count_at faults old.readers k) (count_at faults new.readers k)) (rack.is_current ∙ here) failed.rose)));
          };
    }
line-carried is_at is_live faults line ends.SinkFault old new reader went done does tally = absurd (went refl)

-- A line in which the outlet failed.
pub line-stopped : {L : Type 0} (is_at : L → Machine → Type 0) (is_live : L → Bool) (faults : L → ℕ) (line : Option (List ℕ)) (end' : RackEnd) (old new : View L) → end' ≡ ends.SinkFault
    → ((state : RackState) → IsRack is_at is_live old.readers old.current state → EndsEffect (IsRack is_at is_live new.readers new.current) (rack_effect state line) end' old.given new.given)
    → Does is_live faults line end' old.readers old.current new.readers new.current old.sink new.sink → BreaksIn is_at is_live faults old line new
line-stopped {L} is_at is_live faults line end' old new is done does =
    let broken = line-broken is_live faults line old.readers old.current new.readers old.sink new.sink
    (subst (λ (e : RackEnd). DoesLine is_live faults line e old.readers old.current new.readers old.sink new.sink) is does.readers) in
    record {
      rose = broken.rose;
      later = broken.later;
      cards = broken.cards;
      from = λ state rack. subst (λ (e : RackEnd). EndsEffect (IsRack is_at is_live new.readers new.current) (rack_effect state line) e old.given new.given) is (done state rack);
    }

-- What is shown behind a line.
pub prompt-shown : {P : Type 0} (lost : P → Bool) (shown : P → Option (List ℕ)) (line : Option (List ℕ)) (current number : ℕ) (a b : P) → number ≡ selected_by (own_statement line) current → Shows lost shown (prompt number) a b
    → Shows lost shown (prompts_behind current (line ∷ [])) a b
prompt-shown lost shown line current number a b is shows = subst (λ (t : List ℕ). Shows lost shown t a b) (ap prompt is ∙ sym (append-nil (prompt (selected_by (own_statement line) current)))) shows

-- a fact that needs nothing of an error
pub if-err : {T E : Type 0} (result : Result T E) (P : Type 0) → P → IfErr result (λ (error : E). P)
if-err (Ok x) P holds = tt
if-err (Err e) P holds = holds

pub is-err : {T E : Type 0} (result : Result T E) (error : E) → result ≡ Err error → IsErr result
is-err {T} {E} result error same = subst (λ (r : Result T E). IsErr r) (sym same) refl

pub not-err : {T E : Type 0} (result : Result T E) (value : T) → result ≡ Ok value → IsErr result → ⊥
not-err (Ok x) value same err = false≢true err
not-err (Err e) value same err = absurd cc
