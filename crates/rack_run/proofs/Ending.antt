-- What a run owes that ended so, by what is told of the lines that were handed on.
use Rattle.std.proofs.Common.{◌≡◌, ℕ, ◌≤◌, Bool, true, false, List, [], length, Option, refl, sym, ap, subst, ◌∙◌}
use Rattle.std.specs.Prelude.{◌||◌}
use Rattle.eeprom.specs.Chip.{Becomes}
use Rattle.eeprom.specs.Output.{Prints}
use Rattle.eeprom.specs.declared.fault.SinkFault.{SinkFault}
use Rattle.line_input.specs.declared.input.InputEnd.{InputEnd}
use Rattle.line_input.specs.declared.input.InputEnd.TheVariants as input_ends
use Rattle.line_input.specs.Cutting.{open_end, taken_lines}
use Rattle.line_input.specs.Reading.{IsRead, longest_input}
use Rattle.line_run.specs.AnswersLaws.{Prints-then}
use Rattle.person.specs.Showing.{Shows}
use Rattle.person.proofs.Texts.{shows-then}
use Rattle.scql_model.specs.Lines.{taken_line}
use Rattle.scql_model.specs.Machine.{Machine}
use Rattle.reader_rack.specs.declared.reader.Reader.{Reader}
use Rattle.reader_rack.specs.RackText.{RackState, Turn, rack_after, rack_text, was_muted, was_refused}
use Rattle.reader_rack.specs.Racks.{IsRack, count_at}
use Rattle.reader_rack.proofs.Owned.{own-lines}
use Rattle.rack_run.specs.declared.status.RackStatus.{RackStatus}
use Rattle.rack_run.specs.declared.status.RackStatus.TheVariants.{Done, Refused, Mute, ReadFault, WriteFault, TooLong}
use Rattle.rack_run.specs.declared.tally.Tally.{Tally}
use Rattle.rack_run.specs.Prompts.{prompt, prompts, prompts_behind}
use Rattle.rack_run.specs.Runs.{AreTaken, PrintsTurns, Runs, RunsFrom, ShowsPrompts, UnlessCut, carried_out}
use Rattle.rack_run.specs.Status.{IsEnded, ended_as, nothing_yet, status_at}
use Rattle.rack_run.specs.ViewLaws.{rose-later}
use Rattle.rack_run.specs.Views.{BreaksIn, CarriesOut, View}

-- A run that read its input to its end.

is-ended : (muted refused : Bool) → IsEnded (ended_as muted refused)
is-ended true refused = tt
is-ended false true = tt
is-ended false false = tt

taken-ended : (status : RackStatus) (octets input left : List ℕ) → IsEnded status → length octets ≤ longest_input → (input ≡ octets) × (left ≡ []) → AreTaken status octets input left
taken-ended Done octets input left ended short is = (short, is.0, is.1)
taken-ended Refused octets input left ended short is = (short, is.0, is.1)
taken-ended Mute octets input left ended short is = (short, is.0, is.1)
taken-ended ReadFault octets input left ended short is = absurd ended
taken-ended WriteFault octets input left ended short is = absurd ended
taken-ended TooLong octets input left ended short is = absurd ended

carried-ended : (status : RackStatus) (octets : List ℕ) → IsEnded status → carried_out status octets ≡ taken_lines octets true
carried-ended Done octets ended = refl
carried-ended Refused octets ended = refl
carried-ended Mute octets ended = refl
carried-ended ReadFault octets ended = absurd ended
carried-ended WriteFault octets ended = absurd ended
carried-ended TooLong octets ended = absurd ended

prints-ended : (status : RackStatus) (state : RackState) (turns : List Turn) (last given now : Option (List ℕ)) → IsEnded status → Prints (rack_text state turns) given now → PrintsTurns status state turns last given now
prints-ended Done state turns last given now ended prints = prints
prints-ended Refused state turns last given now ended prints = prints
prints-ended Mute state turns last given now ended prints = prints
prints-ended ReadFault state turns last given now ended prints = absurd ended
prints-ended WriteFault state turns last given now ended prints = absurd ended
prints-ended TooLong state turns last given now ended prints = absurd ended

uncut : (status : RackStatus) (P : Type 0) → P → UnlessCut status P
uncut Done P holds = holds
uncut Refused P holds = holds
uncut Mute P holds = holds
uncut ReadFault P holds = holds
uncut WriteFault P holds = tt
uncut TooLong P holds = holds

becomes-so : {A B : Type 0} (P Q : A → B → Type 0) (old : Option A) (new : Option B) → ((a : A) (b : B) → P a b → Q a b) → Becomes P old new → Becomes Q old new
becomes-so P Q old new weaker becomes = λ after told. let b = becomes after told in (b.0, b.1, weaker b.0 after b.2)

-- What is told of lines that were handed on, and of the one in which the answerer stopped, may be less.
read-weaker : {A E : Type 0} (P Q : A → List (Option (List ℕ)) → A → Type 0) (S T : A → Option (List ℕ) → E → A → Type 0) → ((a : A) (lines : List (Option (List ℕ))) (b : A) → P a lines b → Q a lines b)
    → ((a : A) (line : Option (List ℕ)) (stop : E) (b : A) → S a line stop b → T a line stop b) → (end' : InputEnd E) (old new : A) (start now : Option (List ℕ)) → IsRead P S end' old new start now → IsRead Q T end' old new start now
read-weaker P Q S T answers stops input_ends.Ended old new start now read = (read.0, answers old _ new read.1, read.2, read.3)
read-weaker P Q S T answers stops input_ends.ReadFault old new start now read = (read.0, answers old _ new read.1, read.2, read.3)
read-weaker P Q S T answers stops input_ends.TooLong old new start now read = (read.0, answers old _ new read.1, read.2, read.3)
read-weaker P Q S T answers stops (input_ends.Stopped stop) old new start now read =
    (read.0, record { mid = read.1.mid; answered = answers old _ read.1.mid read.1.answered; stopped = stops read.1.mid _ stop new read.1.stopped }, read.2, read.3)

-- A run over a rack, as it is seen through what lines are handed to.
abbrev pub seen : {A R L : Type 0} → (A → R) → (A → Tally) → (R → List (Reader L)) → (R → ℕ) → (R → Option (List ℕ)) → (R → ℕ) → A → View L
seen rack tally readers current given sink a = record { readers = readers (rack a); current = current (rack a); given = given (rack a); sink = sink (rack a); tally = tally a }

-- what answering lines tells, of the rack and of the person who is shown a prompt
abbrev pub AnswersInRack : {A R L B P : Type 0} → (A → R) → (A → Tally) → (R → List (Reader L)) → (R → ℕ) → (R → Option (List ℕ)) → (R → ℕ) → (L → Machine → Type 0) → (L → Bool) → (L → ℕ) → (A → B) → (B → P) → (P → Bool) → (P → Option (List ℕ)) → (A → ℕ) → (A → ℕ) → A → List (Option (List ℕ)) → A → Type 0
AnswersInRack rack tally readers current given sink is_at is_live faults lent person lost shown name name' a lines b =
    CarriesOut is_at is_live faults (seen rack tally readers current given sink a) lines (seen rack tally readers current given sink b)
    × Shows lost shown (prompts_behind (current (rack a)) lines) (person (lent a)) (person (lent b)) × (name b ≡ name a) × (name' b ≡ name' a)

abbrev pub Stops : {A R L B : Type 0} → (A → R) → (A → Tally) → (R → List (Reader L)) → (R → ℕ) → (R → Option (List ℕ)) → (R → ℕ) → (L → Machine → Type 0) → (L → Bool) → (L → ℕ) → (A → B) → (A → ℕ) → A → Option (List ℕ) → SinkFault → A → Type 0
Stops rack tally readers current given sink is_at is_live faults lent name a line stop b =
    BreaksIn is_at is_live faults (seen rack tally readers current given sink a) line (seen rack tally readers current given sink b) × (lent b ≡ lent a) × (name b ≡ name a)

ended-runs : {L : Type 0} (is_at : L → Machine → Type 0) (is_live : L → Bool) (faults : L → ℕ) (status : RackStatus) (octets : List ℕ) (start now : Option (List ℕ)) (a b : View L) → IsEnded status → length octets ≤ longest_input
    → Becomes (λ input left. (input ≡ octets) × (left ≡ [])) start now → a.tally ≡ nothing_yet → status ≡ ended_as b.tally.muted b.tally.refused → CarriesOut is_at is_live faults a (taken_lines octets true) b
    → Runs is_at is_live faults status start now a.readers a.current b.readers b.current a.given b.given
ended-runs is_at is_live faults status octets start now a b ended short becomes new is carries = record {
  octets = octets;
  are_taken = becomes-so (λ input left. (input ≡ octets) × (left ≡ [])) (AreTaken status octets) start now (λ input left so. taken-ended status octets input left ended short so) becomes;
  from = λ state rack.
      let here = carries.from state rack in
      let muted : b.tally.muted ≡ was_muted state here.turns = subst (λ (t : Tally). b.tally.muted ≡ (t.muted || was_muted state here.turns)) new here.muted in
      let refused : b.tally.refused ≡ was_refused state here.turns = subst (λ (t : Tally). b.tally.refused ≡ (t.refused || was_refused state here.turns)) new here.refused in
      record {
        turns = here.turns;
        of_lines = here.of_lines ∙ sym (carried-ended status octets ended);
        text = prints-ended status state here.turns (taken_line (open_end octets)) a.given b.given ended here.text;
        rack = uncut status _ here.at;
        asides = uncut status _ here.asides;
        ended = λ whole. is ∙ (ap (λ (m : Bool). ended_as m b.tally.refused) muted ∙ ap (ended_as (was_muted state here.turns)) refused);
        own = λ number at reader holds quiet. own-lines number here.turns state at holds (here.sound number reader quiet);
      };
}

-- A run that the source ended, or that took no more, behind the lines that came in whole.
open-runs : {L : Type 0} (is_at : L → Machine → Type 0) (is_live : L → Bool) (faults : L → ℕ) (state : RackState) (octets : List ℕ) (a b : View L) → IsRack is_at is_live a.readers a.current state → CarriesOut is_at is_live faults a (taken_lines octets false) b
    → RunsFrom is_at is_live faults state ReadFault octets a.readers b.readers b.current a.given b.given
open-runs is_at is_live faults state octets a b rack carries =
    let here = carries.from state rack in
    record {
      turns = here.turns;
      of_lines = here.of_lines;
      text = here.text;
      rack = here.at;
      asides = here.asides;
      ended = λ whole. absurd whole;
      own = λ number at reader holds quiet. own-lines number here.turns state at holds (here.sound number reader quiet);
    }

long-runs : {L : Type 0} (is_at : L → Machine → Type 0) (is_live : L → Bool) (faults : L → ℕ) (state : RackState) (octets : List ℕ) (old new : List (Reader L)) (current' : ℕ) (given now : Option (List ℕ))
    → RunsFrom is_at is_live faults state ReadFault octets old new current' given now → RunsFrom is_at is_live faults state TooLong octets old new current' given now
long-runs is_at is_live faults state octets old new current' given now runs =
    record { turns = runs.turns; of_lines = runs.of_lines; text = runs.text; rack = runs.rack; asides = runs.asides; ended = λ whole. absurd whole; own = runs.own }

-- A run that the outlet ended.
cut-runs : {L : Type 0} (is_at : L → Machine → Type 0) (is_live : L → Bool) (faults : L → ℕ) (state : RackState) (octets : List ℕ) (a b c : View L) → IsRack is_at is_live a.readers a.current state → CarriesOut is_at is_live faults a (taken_lines octets false) b
    → BreaksIn is_at is_live faults b (taken_line (open_end octets)) c → RunsFrom is_at is_live faults state WriteFault octets a.readers c.readers c.current a.given c.given
cut-runs is_at is_live faults state octets a b c rack carries breaks =
    let here = carries.from state rack in
    let broken = breaks.from (rack_after state here.turns) here.at in
    record {
      turns = here.turns;
      of_lines = here.of_lines;
      text = (broken.0, record { said = broken.1.said; rest = broken.1.rest; start = broken.1.start; printed = Prints-then _ _ a.given b.given c.given here.text broken.1.printed });
      rack = tt;
      asides = tt;
      ended = λ whole. absurd whole;
      own = λ number at reader holds quiet. own-lines number here.turns state at holds
          (here.sound number reader (λ rose. quiet (rose-later (count_at faults a.readers number) (count_at faults b.readers number) (count_at faults c.readers number) rose (breaks.cards number reader))));
    }

lines-runs : {A R L B P : Type 0} (rack : A → R) (tally : A → Tally) (readers : R → List (Reader L)) (current : R → ℕ) (given : R → Option (List ℕ)) (sink : R → ℕ) (is_at : L → Machine → Type 0) (is_live : L → Bool) (faults : L → ℕ)
    (lent : A → B) (person : B → P) (lost : P → Bool) (shown : P → Option (List ℕ)) (name name' : A → ℕ) (end' : InputEnd SinkFault) (old new : A) (first last : R) (start now : Option (List ℕ)) (status : RackStatus)
    → tally old ≡ nothing_yet → rack old ≡ first → last ≡ rack new → status ≡ status_at end' (tally new) → IsRead (AnswersInRack rack tally readers current given sink is_at is_live faults lent person lost shown name name') (Stops rack tally readers current given sink is_at is_live faults lent name) end' old new start now
    → Runs is_at is_live faults status start now (readers first) (current first) (readers last) (current last) (given first) (given last)
lines-runs {A} {R} {L} rack tally readers current given sink is_at is_live faults lent person lost shown name name' end' old new first last start now status fresh from to is read =
    subst (λ (r : R). Runs is_at is_live faults status start now (readers r) (current r) (readers last) (current last) (given r) (given last)) from
    (subst (λ (r : R). Runs is_at is_live faults status start now (readers (rack old)) (current (rack old)) (readers r) (current r) (given (rack old)) (given r)) (sym to) (go end' is read)) where
      go : (e : InputEnd SinkFault) → status ≡ status_at e (tally new) → IsRead (AnswersInRack rack tally readers current given sink is_at is_live faults lent person lost shown name name') (Stops rack tally readers current given sink is_at is_live faults lent name) e old new start now
          → Runs is_at is_live faults status start now (readers (rack old)) (current (rack old)) (readers (rack new)) (current (rack new)) (given (rack old)) (given (rack new))
      go input_ends.Ended is read =
          ended-runs is_at is_live faults status read.0 start now (seen rack tally readers current given sink old) (seen rack tally readers current given sink new) (subst IsEnded (sym is) (is-ended (tally new).muted (tally new).refused)) read.2 read.3 fresh is read.1.0
      go input_ends.ReadFault is read = subst (λ (s : RackStatus). Runs is_at is_live faults s start now (readers (rack old)) (current (rack old)) (readers (rack new)) (current (rack new)) (given (rack old)) (given (rack new))) (sym is) (record {
        octets = read.0;
        are_taken = read.3;
        from = λ state at. open-runs is_at is_live faults state read.0 (seen rack tally readers current given sink old) (seen rack tally readers current given sink new) at read.1.0;
      })
      go input_ends.TooLong is read = subst (λ (s : RackStatus). Runs is_at is_live faults s start now (readers (rack old)) (current (rack old)) (readers (rack new)) (current (rack new)) (given (rack old)) (given (rack new))) (sym is) (record {
        octets = read.0;
        are_taken = becomes-so _ (AreTaken TooLong read.0) start now (λ input left so. (read.2, so.0, so.1, so.2)) read.3;
        from = λ state at. long-runs is_at is_live faults state read.0 _ _ _ _ _ (open-runs is_at is_live faults state read.0 (seen rack tally readers current given sink old) (seen rack tally readers current given sink new) at read.1.0);
      })
      go (input_ends.Stopped stop) is read = subst (λ (s : RackStatus). Runs is_at is_live faults s start now (readers (rack old)) (current (rack old)) (readers (rack new)) (current (rack new)) (given (rack old)) (given (rack new))) (sym is) (record {
        octets = read.0;
        are_taken = read.3;
        from = λ state at. cut-runs is_at is_live faults state read.0 (seen rack tally readers current given sink old) (seen rack tally readers current given sink read.1.mid) (seen rack tally readers current given sink new) at
            read.1.answered.0 read.1.stopped.0;
      })

-- What a person was shown of the prompts.
lines-prompts : {A R L B P : Type 0} (rack : A → R) (tally : A → Tally) (readers : R → List (Reader L)) (current : R → ℕ) (given : R → Option (List ℕ)) (sink : R → ℕ) (is_at : L → Machine → Type 0) (is_live : L → Bool) (faults : L → ℕ)
    (lent : A → B) (person : B → P) (lost : P → Bool) (shown : P → Option (List ℕ)) (name name' : A → ℕ) (end' : InputEnd SinkFault) (old new : A) (before after : P) (number : ℕ) (start now : Option (List ℕ)) (status : RackStatus)
    → current (rack old) ≡ number → Shows lost shown (prompt number) before (person (lent old)) → after ≡ person (lent new) → status ≡ status_at end' (tally new) → IsRead (AnswersInRack rack tally readers current given sink is_at is_live faults lent person lost shown name name') (Stops rack tally readers current given sink is_at is_live faults lent name) end' old new start now
    → ShowsPrompts lost shown status start now number before after
lines-prompts {A} {R} {L} {B} {P} rack tally readers current given sink is_at is_live faults lent person lost shown name name' end' old new before after number start now status from prompted to is read =
    subst (λ (p : P). ShowsPrompts lost shown status start now number before p) (sym to) (go end' is read) where
      all : (lines : List (Option (List ℕ))) (last : P) → Shows lost shown (prompts_behind (current (rack old)) lines) (person (lent old)) last → Shows lost shown (prompts number lines) before last
      all lines last behind = shows-then lost shown (prompt number) (prompts_behind number lines) before (person (lent old)) last prompted (subst (λ (n : ℕ). Shows lost shown (prompts_behind n lines) (person (lent old)) last) from behind)

      go : (e : InputEnd SinkFault) → status ≡ status_at e (tally new) → IsRead (AnswersInRack rack tally readers current given sink is_at is_live faults lent person lost shown name name') (Stops rack tally readers current given sink is_at is_live faults lent name) e old new start now → ShowsPrompts lost shown status start now number before (person (lent new))
      go input_ends.Ended is read =
          let ended : IsEnded status = subst IsEnded (sym is) (is-ended (tally new).muted (tally new).refused) in
          record {
            octets = read.0;
            are_taken = becomes-so _ (AreTaken status read.0) start now (λ input left so. taken-ended status read.0 input left ended read.2 so) read.3;
            shows = subst (λ (lines : List (Option (List ℕ))). Shows lost shown (prompts number lines) before (person (lent new))) (sym (carried-ended status read.0 ended)) (all _ (person (lent new)) read.1.1);
          }
      go input_ends.ReadFault is read = subst (λ (s : RackStatus). ShowsPrompts lost shown s start now number before (person (lent new))) (sym is)
          (record { octets = read.0; are_taken = read.3; shows = all _ (person (lent new)) read.1.1 })
      go input_ends.TooLong is read = subst (λ (s : RackStatus). ShowsPrompts lost shown s start now number before (person (lent new))) (sym is)
          (record { octets = read.0; are_taken = becomes-so _ (AreTaken TooLong read.0) start now (λ input left so. (read.2, so.0, so.1, so.2)) read.3; shows = all _ (person (lent new)) read.1.1 })
      go (input_ends.Stopped stop) is read = subst (λ (s : RackStatus). ShowsPrompts lost shown s start now number before (person (lent new))) (sym is)
          (record {
            octets = read.0;
            are_taken = read.3;
            shows = subst (λ (p : P). Shows lost shown (prompts number (taken_lines read.0 false)) before p) (sym (ap person read.1.stopped.1)) (all _ (person (lent read.1.mid)) read.1.answered.1);
          })

-- So it is where more is told of the lines, and of the one in which the outlet failed.
module _ {A R L B P : Type 0} (rack : A → R) (tally : A → Tally) (readers : R → List (Reader L)) (current : R → ℕ) (given : R → Option (List ℕ)) (sink : R → ℕ) (is_at : L → Machine → Type 0) (is_live : L → Bool) (faults : L → ℕ)
    (lent : A → B) (person : B → P) (lost : P → Bool) (shown : P → Option (List ℕ)) (name name' : A → ℕ) (told : A → A → Type 0) where
  abbrev pub ReadsInput : InputEnd SinkFault → A → A → Option (List ℕ) → Option (List ℕ) → Type 0
  ReadsInput =
      IsRead (λ (a : A) (lines : List (Option (List ℕ))) (b : A). AnswersInRack rack tally readers current given sink is_at is_live faults lent person lost shown name name' a lines b × told a b)
      (λ (a : A) (line : Option (List ℕ)) (stop : SinkFault) (b : A). Stops rack tally readers current given sink is_at is_live faults lent name a line stop b × told a b)

  weaker : (end' : InputEnd SinkFault) (old new : A) (start now : Option (List ℕ)) → ReadsInput end' old new start now
      → IsRead (AnswersInRack rack tally readers current given sink is_at is_live faults lent person lost shown name name') (Stops rack tally readers current given sink is_at is_live faults lent name) end' old new start now
  weaker end' old new start now read = read-weaker (λ (a : A) (lines : List (Option (List ℕ))) (b : A). AnswersInRack rack tally readers current given sink is_at is_live faults lent person lost shown name name' a lines b × told a b) (AnswersInRack rack tally readers current given sink is_at is_live faults lent person lost shown name name')
      (λ (a : A) (line : Option (List ℕ)) (stop : SinkFault) (b : A). Stops rack tally readers current given sink is_at is_live faults lent name a line stop b × told a b) (Stops rack tally readers current given sink is_at is_live faults lent name)
      (λ a lines b both. both.0) (λ a line stop b both. both.0) end' old new start now read

  pub read-runs : (end' : InputEnd SinkFault) (old new : A) (first last : R) (start now : Option (List ℕ)) (status : RackStatus)
      → tally old ≡ nothing_yet → rack old ≡ first → last ≡ rack new → status ≡ status_at end' (tally new) → ReadsInput end' old new start now
      → Runs is_at is_live faults status start now (readers first) (current first) (readers last) (current last) (given first) (given last)
  read-runs end' old new first last start now status fresh from to is read =
      lines-runs rack tally readers current given sink is_at is_live faults lent person lost shown name name' end' old new first last start now status fresh from to is (weaker end' old new start now read)

  pub read-prompts : (end' : InputEnd SinkFault) (old new : A) (before after : P) (number : ℕ) (start now : Option (List ℕ)) (status : RackStatus)
      → current (rack old) ≡ number → Shows lost shown (prompt number) before (person (lent old)) → after ≡ person (lent new) → status ≡ status_at end' (tally new) → ReadsInput end' old new start now
      → ShowsPrompts lost shown status start now number before after
  read-prompts end' old new before after number start now status from prompted to is read =
      lines-prompts rack tally readers current given sink is_at is_live faults lent person lost shown name name' end' old new before after number start now status from prompted to is (weaker end' old new start now read)

  pub read-told : ((a b c : A) → told a b → told b c → told a c) → (end' : InputEnd SinkFault) (old new : A) (start now : Option (List ℕ)) → ReadsInput end' old new start now → told old new
  read-told follow input_ends.Ended old new start now read = read.1.1
  read-told follow input_ends.ReadFault old new start now read = read.1.1
  read-told follow input_ends.TooLong old new start now read = read.1.1
  read-told follow (input_ends.Stopped stop) old new start now read = follow old read.1.mid new read.1.answered.1 read.1.stopped.1
