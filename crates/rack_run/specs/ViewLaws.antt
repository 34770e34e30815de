-- Lemmas, in specs/ since the ghost members of a run cite them: no line leaves a run as it is, and lines and then others are carried out as all of them.
use Rattle.std.proofs.Common.{◌≡◌, inl, inr, ℕ, ◌≤◌, Bool, true, false, List, [], ◌∷◌, ◌++◌, Option, Some, None, refl, sym, ap, subst, ◌∙◌, arith, append_assoc, if◌then◌else◌}
use Rattle.std.specs.Prelude.{map, is_some, ◌||◌}
use Rattle.std.proofs.lemmas.List.Elements.{All-cons, All-head, All-nil, All-tail}
use Rattle.eeprom.specs.Fault.{Rose}
use Rattle.eeprom.specs.Output.{Prints}
use Rattle.line_run.specs.AnswersLaws.{Prints-nothing, Prints-then}
use Rattle.person.specs.Showing.{Shows}
use Rattle.person.proofs.Texts.{shows-then}
use Rattle.scql_model.specs.Machine.{Machine}
use Rattle.reader_rack.specs.OwnLines.{AreSound, OwnTurn, ejects, is_for, own_turns, with_own}
use Rattle.reader_rack.specs.RackText.{Held, RackState, Turn, rack_after, rack_text, turn_effect, was_muted, was_refused}
use Rattle.reader_rack.specs.Racks.{IsRack, aside_at, count_at}
use Rattle.rack_run.specs.Carrying.{own_statement, selected_by}
use Rattle.rack_run.specs.Prompts.{current_after, prompt, prompts_behind}
use Rattle.rack_run.specs.Turns.{IsAside, later_or, set_aside_by, set_aside_in}
use Rattle.rack_run.specs.Views.{CarriesOut, CountsCards, NoCountFalls, Passes, View}

-- Counts.

pub rose-later : (a b c : ℕ) → Rose a b → b ≤ c → Rose a c
rose-later a b c (inl rose) later = inl (omega (arith, rose, later))
rose-later a b c (inr end') later = inr (omega (arith, end', later))

pub rose-earlier : (a b c : ℕ) → a ≤ b → Rose b c → Rose a c
rose-earlier a b c later (inl rose) = inl (omega (arith, rose, later))
rose-earlier a b c later (inr end') = inr end'

pub none-falls : {L : Type 0} (faults : L → ℕ) (old new : View L) → CountsCards faults old new → NoCountFalls faults old.readers new.readers
none-falls faults old new (inl stay) = λ number reader. omega (arith, stay.1 number reader)
none-falls faults old new (inr rose) = rose.2

cards-then : {L : Type 0} (faults : L → ℕ) (a b c : View L) → CountsCards faults a b → CountsCards faults b c → CountsCards faults a c
cards-then faults a b c (inl first) (inl second) = inl (second.0 ∙ first.0, λ number reader. second.1 number reader ∙ first.1 number reader)
cards-then faults a b c (inl first) (inr second) = inr (
  second.0,
  record {
    number = second.1.number;
    reader = second.1.reader;
    rose = subst (λ (n : ℕ). Rose n (count_at faults c.readers second.1.number)) (first.1 second.1.number second.1.reader) second.1.rose;
  },
  λ number reader. omega (arith, first.1 number reader, second.2 number reader),
)
cards-then faults a b c (inr first) second = inr (
  still second,
  record {
    number = first.1.number;
    reader = first.1.reader;
    rose = rose-later (count_at faults a.readers first.1.number) (count_at faults b.readers first.1.number) (count_at faults c.readers first.1.number) first.1.rose (none-falls faults b c second first.1.number first.1.reader);
  },
  λ number reader. omega (arith, first.2 number reader, none-falls faults b c second number reader),
) where
  still : CountsCards faults b c → c.tally.muted ≡ true
  still (inl stay) = stay.0 ∙ first.0
  still (inr rose) = rose.0

-- Turns.

pub rack_after-append : (first second : List Turn) (rack : RackState) → rack_after rack (first ++ second) ≡ rack_after (rack_after rack first) second
rack_after-append [] second rack = refl
rack_after-append (turn ∷ first) second rack = rack_after-append first second (turn_effect rack turn).next

rack_text-append : (first second : List Turn) (rack : RackState) → rack_text rack (first ++ second) ≡ rack_text rack first ++ rack_text (rack_after rack first) second
rack_text-append [] second rack = refl
rack_text-append (turn ∷ first) second rack =
    ap (λ (t : List ℕ). (turn_effect rack turn).text ++ t) (rack_text-append first second (turn_effect rack turn).next)
    ∙ sym (append_assoc (turn_effect rack turn).text (rack_text (turn_effect rack turn).next first) (rack_text (rack_after (turn_effect rack turn).next first) second))

or_assoc : (a b c : Bool) → ((a || b) || c) ≡ (a || (b || c))
or_assoc true b c = refl
or_assoc false b c = refl

was_refused-append : (first second : List Turn) (rack : RackState) → was_refused rack (first ++ second) ≡ (was_refused rack first || was_refused (rack_after rack first) second)
was_refused-append [] second rack = refl
was_refused-append (turn ∷ first) second rack =
    ap (λ (b : Bool). is_some (turn_effect rack turn).refusal || b) (was_refused-append first second (turn_effect rack turn).next)
    ∙ sym (or_assoc (is_some (turn_effect rack turn).refusal) (was_refused (turn_effect rack turn).next first) (was_refused (rack_after (turn_effect rack turn).next first) second))

was_muted-append : (first second : List Turn) (rack : RackState) → was_muted rack (first ++ second) ≡ (was_muted rack first || was_muted (rack_after rack first) second)
was_muted-append [] second rack = refl
was_muted-append (turn ∷ first) second rack =
    ap (λ (b : Bool). (turn_effect rack turn).muted || b) (was_muted-append first second (turn_effect rack turn).next)
    ∙ sym (or_assoc (turn_effect rack turn).muted (was_muted (turn_effect rack turn).next first) (was_muted (rack_after (turn_effect rack turn).next first) second))

lines-append : (first second : List Turn) → map (λ (turn : Turn). turn.line) (first ++ second) ≡ map (λ (turn : Turn). turn.line) first ++ map (λ (turn : Turn). turn.line) second
lines-append [] second = refl
lines-append (turn ∷ first) second = ap (λ (lines : List (Option (List ℕ))). turn.line ∷ lines) (lines-append first second)

-- Links that are set aside.

later_or-assoc : (c b a : Option Held) → later_or (later_or c b) a ≡ later_or c (later_or b a)
later_or-assoc None b a = refl
later_or-assoc (Some held) b a = refl

set_aside_in-append : (number : ℕ) (first second : List Turn) (rack : RackState) → set_aside_in number rack (first ++ second) ≡ later_or (set_aside_in number (rack_after rack first) second) (set_aside_in number rack first)
set_aside_in-append number [] second rack = nothing-earlier (set_aside_in number rack second) where
  nothing-earlier : (later : Option Held) → later ≡ later_or later None
  nothing-earlier None = refl
  nothing-earlier (Some held) = refl
set_aside_in-append number (turn ∷ first) second rack =
    ap (λ (h : Option Held). later_or h (set_aside_by number rack turn)) (set_aside_in-append number first second (turn_effect rack turn).next)
    ∙ later_or-assoc (set_aside_in number (rack_after (turn_effect rack turn).next first) second) (set_aside_in number (turn_effect rack turn).next first) (set_aside_by number rack turn)

aside-then : {L : Type 0} (is_at : L → Machine → Type 0) (is_live : L → Bool) (later earlier : Option Held) (a b c : Option L) → IsAside is_at is_live earlier a b → IsAside is_at is_live later b c → IsAside is_at is_live (later_or later earlier) a c
aside-then {L} is_at is_live None earlier a b c first same = subst (λ (x : Option L). IsAside is_at is_live earlier a x) (sym same) first
aside-then is_at is_live (Some held) earlier a b c first second = second

-- A reader's own turns.

abbrev is_sound : OwnTurn → Type 0
is_sound own = own.turn.fails ≡ None

sound-step : (ejected own : Bool) (turn : OwnTurn) (before whole : List OwnTurn) → (AreSound before → AreSound whole) → AreSound (if ejected then [] else with_own own turn before) → AreSound (if ejected then [] else with_own own turn whole)
sound-step true own turn before whole grows sound = All-nil is_sound
sound-step false true turn before whole grows sound = All-cons is_sound turn whole (All-head is_sound turn before sound) (grows (All-tail is_sound turn before sound))
sound-step false false turn before whole grows sound = grows sound

sound-append : (number : ℕ) (first second : List Turn) (rack : RackState) → AreSound (own_turns number rack first) → AreSound (own_turns number (rack_after rack first) second) → AreSound (own_turns number rack (first ++ second))
sound-append number [] second rack before behind = behind
sound-append number (turn ∷ first) second rack before behind =
    sound-step (ejects number turn.line) (is_for number rack turn.line) (record { turn = turn; text = (turn_effect rack turn).text }) (own_turns number (turn_effect rack turn).next first) (own_turns number (turn_effect rack turn).next (first ++ second))
    (λ sound. sound-append number first second (turn_effect rack turn).next sound behind) before

-- The reader that is current.

current_after-append : (first second : List (Option (List ℕ))) (current : ℕ) → current_after current (first ++ second) ≡ current_after (current_after current first) second
current_after-append [] second current = refl
current_after-append (line ∷ first) second current = current_after-append first second (selected_by (own_statement line) current)

-- Lines and then others.

passes-then : {L : Type 0} (is_at : L → Machine → Type 0) (is_live : L → Bool) (faults : L → ℕ) (state : RackState) (first second : List (Option (List ℕ))) (a b c : View L) → CountsCards faults a b → CountsCards faults b c
    → (before : Passes is_at is_live faults state first a b) → Passes is_at is_live faults (rack_after state before.turns) second b c → Passes is_at is_live faults state (first ++ second) a c
passes-then is_at is_live faults state first second a b c counts counts' before behind = record {
  turns = before.turns ++ behind.turns;
  of_lines = lines-append before.turns behind.turns ∙ (ap (λ (x : List (Option (List ℕ))). x ++ map (λ (turn : Turn). turn.line) behind.turns) before.of_lines ∙ ap (λ (x : List (Option (List ℕ))). first ++ x) behind.of_lines);
  at = subst (IsRack is_at is_live c.readers c.current) (sym (rack_after-append before.turns behind.turns state)) behind.at;
  text = subst (λ (t : List ℕ). Prints t a.given c.given) (sym (rack_text-append before.turns behind.turns state)) (Prints-then _ _ a.given b.given c.given before.text behind.text);
  refused = behind.refused
      ∙ (ap (λ (r : Bool). r || was_refused (rack_after state before.turns) behind.turns) before.refused
      ∙ (or_assoc a.tally.refused (was_refused state before.turns) (was_refused (rack_after state before.turns) behind.turns)
      ∙ ap (λ (r : Bool). a.tally.refused || r) (sym (was_refused-append before.turns behind.turns state))));
  muted = behind.muted
      ∙ (ap (λ (r : Bool). r || was_muted (rack_after state before.turns) behind.turns) before.muted
      ∙ (or_assoc a.tally.muted (was_muted state before.turns) (was_muted (rack_after state before.turns) behind.turns)
      ∙ ap (λ (r : Bool). a.tally.muted || r) (sym (was_muted-append before.turns behind.turns state))));
  asides = λ number reader. subst (λ (held : Option Held). IsAside is_at is_live held (aside_at a.readers number) (aside_at c.readers number)) (sym (set_aside_in-append number before.turns behind.turns state))
      (aside-then is_at is_live (set_aside_in number (rack_after state before.turns) behind.turns) (set_aside_in number state before.turns) (aside_at a.readers number) (aside_at b.readers number) (aside_at c.readers number)
      (before.asides number reader) (behind.asides number reader));
  sound = λ number reader quiet. sound-append number before.turns behind.turns state
      (before.sound number reader (λ rose. quiet (rose-later (count_at faults a.readers number) (count_at faults b.readers number) (count_at faults c.readers number) rose (none-falls faults b c counts' number reader))))
      (behind.sound number reader (λ rose. quiet (rose-earlier (count_at faults a.readers number) (count_at faults b.readers number) (count_at faults c.readers number) (none-falls faults a b counts number reader) rose)));
}

pub CarriesOut-then : {L : Type 0} (is_at : L → Machine → Type 0) (is_live : L → Bool) (faults : L → ℕ) (a b c : View L) (first second : List (Option (List ℕ)))
    → CarriesOut is_at is_live faults a first b → CarriesOut is_at is_live faults b second c → CarriesOut is_at is_live faults a (first ++ second) c
CarriesOut-then is_at is_live faults a b c first second before behind = record {
  current = behind.current ∙ (ap (λ (n : ℕ). current_after n second) before.current ∙ sym (current_after-append first second a.current));
  sink = behind.sink ∙ before.sink;
  cards = cards-then faults a b c before.cards behind.cards;
  from = λ state rack.
      let here = before.from state rack in
      passes-then is_at is_live faults state first second a b c before.cards behind.cards here (behind.from (rack_after state here.turns) here.at);
}

or_false : (b : Bool) → b ≡ (b || false)
or_false true = refl
or_false false = refl

pub CarriesOut-none : {L : Type 0} (is_at : L → Machine → Type 0) (is_live : L → Bool) (faults : L → ℕ) (a : View L) → CarriesOut is_at is_live faults a [] a
CarriesOut-none is_at is_live faults a = record {
  current = refl;
  sink = refl;
  cards = inl (refl, λ number reader. refl);
  from = λ state rack. record {
    turns = [];
    of_lines = refl;
    at = rack;
    text = Prints-nothing a.given;
    refused = or_false a.tally.refused;
    muted = or_false a.tally.muted;
    asides = λ number reader. refl;
    sound = λ number reader quiet. All-nil is_sound;
  };
}

-- What is shown.

prompts_behind-append : (first second : List (Option (List ℕ))) (current : ℕ) → prompts_behind current (first ++ second) ≡ prompts_behind current first ++ prompts_behind (current_after current first) second
prompts_behind-append [] second current = refl
prompts_behind-append (line ∷ first) second current =
    ap (λ (t : List ℕ). prompt (selected_by (own_statement line) current) ++ t) (prompts_behind-append first second (selected_by (own_statement line) current))
    ∙ sym (append_assoc (prompt (selected_by (own_statement line) current)) (prompts_behind (selected_by (own_statement line) current) first) (prompts_behind (current_after (selected_by (own_statement line) current) first) second))

pub prompts-then : {P : Type 0} (lost : P → Bool) (shown : P → Option (List ℕ)) (current current' : ℕ) (first second : List (Option (List ℕ))) (a b c : P) → current' ≡ current_after current first
    → Shows lost shown (prompts_behind current first) a b → Shows lost shown (prompts_behind current' second) b c → Shows lost shown (prompts_behind current (first ++ second)) a c
prompts-then lost shown current current' first second a b c is before behind =
    subst (λ (t : List ℕ). Shows lost shown t a c) (sym (prompts_behind-append first second current))
    (shows-then lost shown (prompts_behind current first) (prompts_behind (current_after current first) second) a b c before (subst (λ (n : ℕ). Shows lost shown (prompts_behind n second) b c) is behind))
