-- A terminal with its card, behind a command and behind a line.
use Rattle.std.proofs.Common.{◌≡◌, ◌⊎◌, inl, inr, List, [], ◌∷◌, ◌++◌, ℕ, Option, Some, None, false, option_map, ap, refl, sym, subst, ◌∙◌}
use Rattle.std.proofs.lemmas.Option.{same_Some}
use Rattle.eeprom.specs.Output.{Prints}
use Rattle.card_link.specs.Link.{IsOneOf, LeavesOpen}
use Rattle.line_bench.specs.LineBench.{given_line, image_of, text_of}
use Rattle.planner.specs.Held.{held_after_octets, transaction_channel}
use Rattle.planner.specs.StatementLines.{TerminalState, statement_lines}
use Rattle.scql_model.specs.Lines.{Effect, line_effect}
use Rattle.scql_model.specs.Lives.{after_all}
use Rattle.scql_model.specs.Machine.{Machine, reset}
use Rattle.scql_model.specs.Step.{Answer, step}
use Rattle.scql_base.specs.declared.words.StatusWord.{StatusWord}
use Rattle.planner.proofs.OctetsTell.{octets-tell}
use Rattle.terminal.specs.declared.line_end.LineEnd.{LineEnd}
use Rattle.terminal.specs.declared.line_end.LineEnd.TheVariants as ends
use Rattle.terminal.specs.Holding.{Holding, Knows, Sits, terminal_at}
use Rattle.terminal.specs.Line.{IsAnswered}
use Rattle.card_c.specs.Calls.{GivesAnswer, GivesLine}
use Rattle.card_c.specs.HeldCard.{AnswersInto, HeldCard, IsCardAt, IsSeated, IsSeatedWith}
use Rattle.card_c.specs.Lines.{EndsLine, SaysLine, status_in}
use Rattle.card_c.specs.OnLog.{IsBegun, IsDeskAt, OnLog, desk_chip, given_by, mark_of}
use Rattle.card_c.specs.declared.status.TheConstants.{DONE, NO_MEMORY}
use Rattle.card_c.proofs.Begun.{at-begun}
use Rattle.card_c.proofs.Cuts.{keeps-cuts, logs-to, of-command}

-- what a handle holds as a desk, and the other way round
abbrev pub desk_in : HeldCard → OnLog
desk_in held = record { card = held.card; bench = held.bench }

abbrev pub held_with : OnLog → Holding → HeldCard
held_with desk holding = record { card = desk.card; bench = desk.bench; terminal = Some holding }

-- what was printed behind the line feed is the text
text-printed : (text begun now : List ℕ) → begun ≡ [] → Prints text (Some (given_line begun)) (Some (given_line now)) → now ≡ text
text-printed text begun now silent prints =
    let told = prints (given_line now) refl in
    let whole : 0x0A ∷ now ≡ 0x0A ∷ text = told.2 ∙ ap (λ (before : List ℕ). before ++ text) (sym (same_Some (given_line begun) told.0 told.1) ∙ ap given_line silent) in
    cc whole

sits-new : (now : Holding) (next : TerminalState) (new : OnLog) → Sits IsDeskAt next now new → IsSeated (held_with new now) next
sits-new now next new sits = record { holding = now; there = refl; sits = record { at = sits.at; channel = sits.channel; knows = sits.knows } }

-- A line from a state on, as the terminal tells of it over a desk that was just begun.
module _ {octets : ℕ} (old : HeldCard) (begun : OnLog) (state : TerminalState) (holding : Holding) (line : List ℕ) (seated : IsSeated old state) (there : old.terminal ≡ Some holding) (begins : IsBegun octets (desk_in old) begun) where
  same : holding ≡ seated.holding
  same = same_Some holding seated.holding (sym there ∙ seated.there)

  pub starts : IsDeskAt begun state.machine
  starts = at-begun (desk_in old) begun state.machine begins seated.sits.at

  knows : Knows holding.transaction state.machine
  knows = ap (λ (h : Holding). h.transaction) same ∙ seated.sits.knows

  here : terminal_at state.machine holding.channel ≡ state
  here = ap (terminal_at state.machine) (ap (λ (h : Holding). h.channel) same ∙ seated.sits.channel)

  pub line-said : (now : Holding) (end : LineEnd) (new : OnLog) → ((m : Machine) → IsDeskAt begun m → Knows holding.transaction m → SaysLine m (line_effect statement_lines (terminal_at m holding.channel) line) now end begun new)
      → SaysLine state.machine (line_effect statement_lines state line) now end begun new
  line-said now end new said = subst (λ (s : TerminalState). SaysLine state.machine (line_effect statement_lines s line) now end begun new) here (said state.machine starts knows)

-- what the call says of it
pub answered : (m : Machine) (does : Effect TerminalState) (now : Holding) (end : LineEnd) (begun new : OnLog) → EndsLine m does now end begun new → status_in end ≡ DONE → IsAnswered IsDeskAt given_by does now begun new
answered m does now ends.Answered begun new end is = end
answered m does now (ends.Refused why) begun new end is = end
answered m does now ends.Mute begun new end is = absurd cc
answered m does now ends.SinkFault begun new end is = absurd cc

pub answered-text : (does : Effect TerminalState) (now : Holding) (begun new : OnLog) → text_of begun.bench ≡ [] → IsAnswered IsDeskAt given_by does now begun new → text_of new.bench ≡ does.text
answered-text does now begun new silent answered = text-printed does.text (text_of begun.bench) (text_of new.bench) silent answered.text

pub answered-next : (does : Effect TerminalState) (now : Holding) (begun new : OnLog) → IsAnswered IsDeskAt given_by does now begun new → IsSeated (held_with new now) does.next
answered-next does now begun new answered = sits-new now does.next new answered.sits

pub wanting : (m : Machine) (does : Effect TerminalState) (now : Holding) (end : LineEnd) (begun new : OnLog) → EndsLine m does now end begun new → status_in end ≡ NO_MEMORY
    → (new.card.live ≡ false) ⊎ IsSeatedWith (held_with new now) (after_all m.committed does.commits)
wanting m does now ends.Answered begun new end is = absurd cc
wanting m does now (ends.Refused why) begun new end is = absurd cc
wanting m does now ends.Mute begun new end is = inl end
wanting m does now ends.SinkFault begun new end is =
    inr (terminal_at end.machine now.channel, sits-new now (terminal_at end.machine now.channel) new (record { at = end.at; channel = refl; knows = end.knows }), end.committed)

-- all that comes of a line
pub gives-line : {octets : ℕ} (old : HeldCard) (begun new : OnLog) (state : TerminalState) (does : Effect TerminalState) (now : Holding) (end : LineEnd) (status : ℕ) → IsSeated old state → IsBegun octets (desk_in old) begun
    → SaysLine state.machine does now end begun new → status ≡ status_in end → GivesLine state does old (held_with new now) status
gives-line old begun new state does now end status seated begins said is =
    let kept = keeps-cuts state.machine does.commits (desk_in old) begun new seated.sits.at begins said.moments in
    let whole = λ (done : status ≡ DONE). answered state.machine does now end begun new said.ends (sym is ∙ done) in
    record {
      text = λ done. answered-text does now begun new begins.bench.none.1 (whole done);
      next = λ done. answered-next does now begun new (whole done);
      cuts = λ ends. kept;
      last = λ done. logs-to (state.machine.committed ∷ does.commits) (image_of old.bench) new does.next.machine kept (whole done).sits.at;
      wanting = λ wants. wanting state.machine does now end begun new said.ends (sym is ∙ wants);
    }

-- and all that comes of a command, where it is answered and where memory is wanting
pub gives-answer : {octets : ℕ} (m : Machine) (answer : Answer) (place : List ℕ) (count : ℕ) (old : HeldCard) (begun : OnLog) (new : HeldCard) (status : ℕ) → IsCardAt old m → IsBegun octets (desk_in old) begun
    → LeavesOpen (IsOneOf (mark_of begun) (m.committed ∷ answer.commits)) (desk_chip begun) (desk_chip (desk_in new)) → (status ≡ DONE → AnswersInto answer.reply count place × IsCardAt new answer.machine)
    → GivesAnswer m answer place count old new status
gives-answer m answer place count old begun new status at begins moments step =
    let kept = keeps-cuts m answer.commits (desk_in old) begun (desk_in new) at begins (of-command m answer.commits begun (desk_in new) moments) in
    record { step = step; cuts = λ ends. kept; last = λ done. logs-to (m.committed ∷ answer.commits) (image_of old.bench) (desk_in new) answer.machine kept (step done).1 }

-- what a terminal holds that is there
pub is-there : {B : Type 0} (value : B → Holding) (o : Option B) (b : B) (holding : Holding) → o ≡ Some b → holding ≡ value b → option_map value o ≡ Some holding
is-there value o b holding is same = ap (option_map value) is ∙ ap Some (sym same)

-- the same, changed
pub mapped : {B : Type 0} (value : B → Holding) (f : Holding → Holding) (o : Option B) (holding : Holding) → option_map value o ≡ Some holding → option_map (λ b. f (value b)) o ≡ Some (f holding)
mapped value f None holding is = absurd cc
mapped value f (Some b) holding is = ap (λ (h : Holding). Some (f h)) (same_Some (value b) holding is)

-- behind a command that was answered
pub noted : (state : TerminalState) (holding : Holding) (command : List ℕ) (word : StatusWord) (new : HeldCard) → holding.channel ≡ state.channel → Knows holding.transaction state.machine
    → word ≡ (step state.machine command).reply.word → IsCardAt new (step state.machine command).machine
    → new.terminal ≡ Some (record { channel = holding.channel; transaction = held_after_octets command word holding.transaction })
    → IsSeated new (terminal_at (step state.machine command).machine state.channel)
noted state holding command word new channel knows is at there = record {
  holding = record { channel = holding.channel; transaction = held_after_octets command word holding.transaction };
  there = there;
  sits = record {
    at = at;
    channel = channel;
    knows = ap (held_after_octets command word) knows ∙ (ap (λ (word : StatusWord). held_after_octets command word (transaction_channel state.machine)) is ∙ sym (octets-tell state.machine command));
  };
}

-- and behind a reset
pub anew : (m : Machine) (new : HeldCard) → IsCardAt new (reset m) → new.terminal ≡ Some (record { channel = 0; transaction = None }) → IsSeated new (terminal_at (reset m) 0)
anew m new at there = record { holding = record { channel = 0; transaction = None }; there = there; sits = record { at = at; channel = refl; knows = refl } }
