-- A line at a desk is one at a reader.
use Rattle.std.proofs.Common.{◌≡◌, ℕ, ◌≤◌, Bool, true, false, List, ◌++◌, length, map, take, Option, Some, None, codes, refl, sym, ◌∙◌, ap, subst, append_assoc, inl, inr}
use Rattle.std.specs.List.{concat}
use Rattle.std.specs.Prelude.{IsTrue, Result, option_map}
use Rattle.std.specs.Option.{option_map_or}
use Rattle.std.proofs.lemmas.Bool.{false≢true}
use Rattle.std.proofs.Math.Seq.{take-append_seam}
use Rattle.eeprom.specs.Output.{Prints}
use Rattle.scql_model.specs.Lines.{Effect, line_effect, longest_line}
use Rattle.scql_model.specs.Machine.{Machine}
use Rattle.scql_model.specs.Matching.{Values}
use Rattle.script.specs.declared.fault.ScriptFault.{ScriptFault}
use Rattle.script.specs.declared.statement.Statement.{Statement}
use Rattle.script.specs.Line.{statement_of}
use Rattle.planner.specs.StatementLines.{TerminalState, read_effect, statement_lines}
use Rattle.planner.specs.Text.{row_text}
use Rattle.terminal.specs.declared.line_end.LineEnd.{LineEnd}
use Rattle.terminal.specs.declared.line_end.LineEnd.TheVariants as line_ends
use Rattle.terminal.specs.declared.refusal.Refusal.{Refusal}
use Rattle.terminal.specs.Holding.{Holding, Knows, Sits, terminal_at}
use Rattle.terminal.specs.Line.{EndsSo, refusal_in, rows_in}
use Rattle.terminal.proofs.Ended.{line-is}
use Rattle.terminal.proofs.Went.{prints-both}
use Rattle.reader_rack.specs.declared.rack_end.RackEnd.{RackEnd}
use Rattle.reader_rack.specs.declared.reader.Reader.{Reader}
use Rattle.reader_rack.specs.declared.rack_end.RackEnd.TheVariants as ends
use Rattle.reader_rack.specs.declared.rack_refusal.RackRefusal.TheVariants.{Line}
use Rattle.reader_rack.specs.RackText.{Held, nothing, mute, sits, RackEffect, asked, heard, unheard}
use Rattle.reader_rack.specs.Readers.{EndsEffect, Holds, IsHeld, IsSaidOrCut, answers}

-- a line of a terminal that sits with a link ends so, over the link and an outlet
abbrev pub EndsLine : {L O : Type 0} → (L → Machine → Type 0) → (O → Option (List ℕ)) → TerminalState → Result Statement ScriptFault → Holding → LineEnd → L × O → L × O → Type 0
EndsLine {L} {O} is_at given state read holding end' old new =
    EndsSo (λ (p : L × O) (m : Machine). is_at p.0 m) (λ (p : L × O). given p.1) state.machine (read_effect state read) (rows_in state read) (refusal_in state read) holding end' old new

pub sits-line : {L O : Type 0} (is_at : L → Machine → Type 0) (given : O → Option (List ℕ)) (state : TerminalState) (holding holding' : Holding) (line : List ℕ) (end' : LineEnd) (old new : L × O)
    → Sits is_at state holding old.0 → length line ≤ longest_line
    → ((m : Machine) → is_at old.0 m → Knows holding.transaction m
    → EndsSo (λ (p : L × O) (m : Machine). is_at p.0 m) (λ (p : L × O). given p.1) m (line_effect statement_lines (terminal_at m holding.channel) line) (rows_in (terminal_at m holding.channel) (statement_of line))
    (refusal_in (terminal_at m holding.channel) (statement_of line)) holding' end' old new)
    → EndsLine is_at given state (statement_of line) holding' end' old new
sits-line {L} {O} is_at given state holding holding' line end' old new there short ends =
    subst (λ (does : Effect TerminalState). EndsSo (λ (p : L × O) (m : Machine). is_at p.0 m) (λ (p : L × O). given p.1) state.machine does (rows_in state (statement_of line)) (refusal_in state (statement_of line)) holding' end' old new)
    (line-is state line short)
    (subst (λ (channel : ℕ). EndsSo (λ (p : L × O) (m : Machine). is_at p.0 m) (λ (p : L × O). given p.1) state.machine (line_effect statement_lines (terminal_at state.machine channel) line) (rows_in (terminal_at state.machine channel) (statement_of line))
    (refusal_in (terminal_at state.machine channel) (statement_of line)) holding' end' old new)
    there.channel (ends state.machine there.at there.knows))

-- where the card goes mute, some of its rows were printed, and then it is said
pub ends-mute : {L O : Type 0} (is_at : L → Machine → Type 0) (is_live : L → Bool) (given : O → Option (List ℕ)) (state : TerminalState) (read : Result Statement ScriptFault) (holding : Holding) (end' : LineEnd) (old mid : L × O)
    (text : List ℕ) (result : RackEnd) (now : Option (List ℕ)) (sink sink' : ℕ)
    → end' ≡ line_ends.Mute → is_live mid.0 ≡ false → EndsLine is_at given state read holding end' old mid → text ≡ codes "card mute\n" → IsSaidOrCut text ends.Mute result (given mid.1) now sink sink'
    → EndsEffect (IsHeld is_at is_live (Some mid.0) holding) (heard state read) result (given old.1) now
ends-mute is_at is_live given state read holding end' old mid text result now sink sink' is gone ended text-is = go (subst (λ (e : LineEnd). EndsLine is_at given state read holding e old mid) is ended) where
  go : EndsLine is_at given state read holding line_ends.Mute old mid → IsSaidOrCut text ends.Mute result (given mid.1) now sink sink' → EndsEffect (IsHeld is_at is_live (Some mid.0) holding) (heard state read) result (given old.1) now
  go h (inl said) =
      let fit : take (length h.first) (rows_in state read) ≡ h.first = ap (λ (rows : List Values). take (length h.first) rows) h.split ∙ take-append_seam h.first h.rest in
      subst (λ (r : RackEnd). EndsEffect (IsHeld is_at is_live (Some mid.0) holding) (heard state read) r (given old.1) now) (sym said.ends) (
        length h.first,
        record {
          there = gone;
          text = subst (λ (xs : List Values). Prints (concat (map row_text xs) ++ codes "card mute\n") (given old.1) now) (sym fit)
              (prints-both _ _ _ _ _ h.printed (subst (λ (t : List ℕ). Prints t (given mid.1) now) text-is said.printed));
        },
        refl,
      )
  go h (inr cut) =
      let fit : take (length h.first) (rows_in state read) ≡ h.first = ap (λ (rows : List Values). take (length h.first) rows) h.split ∙ take-append_seam h.first h.rest in
      subst (λ (r : RackEnd). EndsEffect (IsHeld is_at is_live (Some mid.0) holding) (heard state read) r (given old.1) now) (sym cut.ends) (
        Some (length h.first),
        record {
          said = concat (map row_text h.first) ++ cut.start.said;
          rest = cut.start.rest;
          start = ap (λ (xs : List Values). concat (map row_text xs) ++ codes "card mute\n") fit
              ∙ (ap (λ (t : List ℕ). concat (map row_text h.first) ++ t) (sym text-is ∙ cut.start.start) ∙ sym (append_assoc (concat (map row_text h.first)) cut.start.said cut.start.rest));
          printed = prints-both _ _ _ _ _ h.printed cut.start.printed;
        },
      )

-- where the line is refused, it is for that reason
pub ends-refused : {L O : Type 0} (is_at : L → Machine → Type 0) (is_live : L → Bool) (given : O → Option (List ℕ)) (state : TerminalState) (read : Result Statement ScriptFault) (holding : Holding) (why : Refusal) (end' : LineEnd) (old new : L × O)
    → end' ≡ line_ends.Refused why → IsTrue (is_live new.0) → EndsLine is_at given state read holding end' old new
    → EndsEffect (IsHeld is_at is_live (Some new.0) holding) (heard state read) (ends.Refused (Line why)) (given old.1) (given new.1)
ends-refused is_at is_live given state read holding why end' old new is live ended =
    let done = subst (λ (e : LineEnd). EndsLine is_at given state read holding e old new) is ended in (
      record { there = (live, record { at = done.0.sits.at; channel = done.0.sits.channel; knows = done.0.sits.knows }); text = done.0.text },
      ap (option_map Line) done.1,
    )

-- what was done to one thing was done to another that becomes so with it
abbrev pub mapped : {S T : Type 0} → (S → T) → RackEffect S → RackEffect T
mapped next does = record { text = does.text; next = next does.next; refusal = does.refusal; muted = does.muted }

pub ends-mapped : {S T : Type 0} (at : S → Type 0) (at' : T → Type 0) (next : S → T) (effect : Option ℕ → RackEffect S) (end' : RackEnd) (given now : Option (List ℕ))
    → ((x : S) → at x → at' (next x)) → EndsEffect at effect end' given now → EndsEffect at' (λ (fails : Option ℕ). mapped next (effect fails)) end' given now
ends-mapped at at' next effect ends.Answered given now over done = (record { there = over _ done.0.there; text = done.0.text }, done.1)
ends-mapped at at' next effect (ends.Refused why) given now over done = (record { there = over _ done.0.there; text = done.0.text }, done.1)
ends-mapped at at' next effect ends.Mute given now over done = (done.0, record { there = over _ done.1.there; text = done.1.text }, done.2)
ends-mapped at at' next effect ends.SinkFault given now over done = done

-- a line where a link answers
pub answer-heard : {L : Type 0} (is_at : L → Machine → Type 0) (is_live : L → Bool) (line : List ℕ) (link : L) (terminal : Holding) (at : Held → Type 0) (result : RackEnd) (given now : Option (List ℕ))
    → is_live link ≡ true → ((state : TerminalState) → Sits is_at state terminal link → EndsEffect at (heard state (statement_of line)) result given now)
    → (held : Held) → IsHeld is_at is_live (Some link) terminal held → EndsEffect at (asked held line) result given now
answer-heard is_at is_live line link terminal at result given now live heard' nothing there = absurd there
answer-heard is_at is_live line link terminal at result given now live heard' mute gone = absurd (false≢true (sym gone ∙ live))
answer-heard is_at is_live line link terminal at result given now live heard' (sits state) there = heard' state there.1

is_empty : Held → Bool
is_empty nothing = true
is_empty held = false

nothing-sits : (state : TerminalState) → nothing ≡ sits state → ⊥
unfolding is_empty
nothing-sits state is = false≢true (sym (ap is_empty is))

-- a line where none does
pub answer-unheard : {L : Type 0} (is_at : L → Machine → Type 0) (is_live : L → Bool) (line : List ℕ) (link : Option L) (terminal : Holding) (result : RackEnd) (given now : Option (List ℕ))
    → option_map_or is_live link false ≡ false → ((held : Held) → EndsEffect (λ (h : Held). h ≡ held) (λ (fails : Option ℕ). unheard held line) result given now)
    → (held : Held) → IsHeld is_at is_live link terminal held → EndsEffect (IsHeld is_at is_live link terminal) (asked held line) result given now
answer-unheard {L} is_at is_live line link terminal result given now gone unheard' held there = go link held gone there where
  over : (link' : Option L) (held' : Held) → IsHeld is_at is_live link' terminal held' → EndsEffect (IsHeld is_at is_live link' terminal) (λ (fails : Option ℕ). unheard held' line) result given now
  over link' held' there' = ends-mapped (λ (h : Held). h ≡ held') (IsHeld is_at is_live link' terminal) (λ (h : Held). h) (λ (fails : Option ℕ). unheard held' line) result given now
      (λ h same. subst (λ (x : Held). IsHeld is_at is_live link' terminal x) (sym same) there') (unheard' held')

  go : (link' : Option L) (held' : Held) → option_map_or is_live link' false ≡ false → IsHeld is_at is_live link' terminal held' → EndsEffect (IsHeld is_at is_live link' terminal) (asked held' line) result given now
  go link' nothing gone' there' = over link' nothing there'
  go link' mute gone' there' = over link' mute there'
  go None (sits state) gone' there' = absurd (nothing-sits state (sym there'))
  go (Some link') (sits state) gone' there' = absurd (false≢true (sym gone' ∙ there'.0))

pub reader-unheard : {L : Type 0} (is_at : L → Machine → Type 0) (is_live : L → Bool) (line : List ℕ) (old new : Reader L) (result : RackEnd) (given now : Option (List ℕ))
    → new ≡ old → answers is_live old ≡ false → ((held : Held) → EndsEffect (λ (h : Held). h ≡ held) (λ (fails : Option ℕ). unheard held line) result given now)
    → (held : Held) → Holds is_at is_live old held → EndsEffect (Holds is_at is_live new) (asked held line) result given now
reader-unheard {L} is_at is_live line old new result given now same gone unheard' held there =
    subst (λ (reader : Reader L). EndsEffect (Holds is_at is_live reader) (asked held line) result given now) (sym same)
    (answer-unheard is_at is_live line old.link old.terminal result given now gone unheard' held there)
