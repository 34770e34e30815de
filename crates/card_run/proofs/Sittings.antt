-- A terminal that answers a line of a run: from what it says of the line to what the run is owed.
use Rattle.std.proofs.Common.{◌≡◌, ◌⊎◌, ℕ, ◌+◌, ◌≤◌, ◌<◌, Bool, false, List, [], ◌∷◌, ◌++◌, length, map, Option, Some, None, Result, Ok, Err, IfSome, IsSome, IsTrue, inl, inr, refl, sym, ap, subst, ◌∙◌, arith, length-append}
use Rattle.std.specs.List.{concat}
use Rattle.std.specs.Prelude.{OnOk, IfOk, IfErr, IsErrOf}
use Rattle.eeprom.specs.Chip.{Chip, LeftSince, Throughout}
use Rattle.eeprom.proofs.Moments.{throughout-weaker}
use Rattle.scql_model.specs.Database.{Database}
use Rattle.scql_model.specs.Heard.{after_commits, committed_in}
use Rattle.scql_model.specs.Lines.{Effect, line_effect}
use Rattle.scql_model.specs.Machine.{Machine, start}
use Rattle.scql_model.specs.Matching.{Values}
use Rattle.scql_model.specs.Opens.{Opens, OpensToOneOf}
use Rattle.script.specs.declared.fault.ScriptFault.{ScriptFault}
use Rattle.script.specs.declared.statement.Statement.{Statement}
use Rattle.script.specs.Line.{statement_of}
use Rattle.card_link.specs.Link as link
use Rattle.card_link.specs.Link.{LeavesOpen}
use Rattle.planner.specs.StatementLines.{TerminalState, first_texts, read_effect, statement_lines}
use Rattle.planner.specs.Text.{row_text}
use Rattle.planner.proofs.StatementsLawful.{statements-lawful}
use Rattle.terminal.specs.declared.line_end.LineEnd.{LineEnd}
use Rattle.terminal.specs.declared.line_end.LineEnd.TheVariants as ends
use Rattle.terminal.specs.Holding.{Holding, Sits, terminal_at}
use Rattle.terminal.specs.Line as terminal
use Rattle.terminal.specs.declared.refusal.Refusal.{Refusal}
use Rattle.terminal.specs.declared.refusal.Refusal.TheVariants.{TooLong}
use Rattle.terminal.specs.Line.{IsMoment, refusal_in, rows_in}
use Rattle.terminal.proofs.Ended.{line-is}
use Rattle.line_run.specs.declared.line_stop.LineStop.TheVariants.{Eeprom, Outlet, NoMemory}
use Rattle.line_run.specs.Answering.{Answered, Failed}
use Rattle.line_run.specs.CutOff.{IsOneOf}
use Rattle.line_run.specs.Moments.{IsInAnswered, IsInLine}
use Rattle.line_run.specs.Causes.{Causes}
use Rattle.eeprom.specs.Output.{Prints}
use Rattle.card_run.specs.Statements.{Sitting, SitsSo, heard_as, opened, term_lines}

-- two things that hold at each moment hold together
both-throughout : (old new : Chip) (P Q : ℕ → List ℕ → Type 0) → Throughout old new P → Throughout old new Q → Throughout old new (λ g left. P g left × Q g left)
both-throughout old new P Q first second = record {
  later = first.later;
  only = λ t g left before since. go t g left (first.only t g left before since) (second.only t g left before since);
  stays = first.stays;
  now = λ image told. (first.now image told, second.now image told);
}
  where
    go : (t g : ℕ) (left : List ℕ) → LeftSince old t g left ⊎ P g left → LeftSince old t g left ⊎ Q g left → LeftSince old t g left ⊎ (P g left × Q g left)
    go t g left (inl was) other = inl was
    go t g left (inr is) (inl was) = inl was
    go t g left (inr is) (inr too) = inr (is, too)

-- the image opens to one of these databases
pub one-opens : (mark g : ℕ) (dbs : List Database) (image : List ℕ) (db : Database) → Opens image db → link.IsOneOf mark dbs g db → (g ≡ mark) × OpensToOneOf dbs image
one-opens mark g [] image db opens is = absurd is
one-opens mark g (first ∷ dbs) image db opens (inl is) = (is.0, inl (subst (Opens image) is.1 opens))
one-opens mark g (first ∷ dbs) image db opens (inr is) = let rest = one-opens mark g dbs image db opens is in (rest.0, inr rest.1)

last-opens : (db : Database) (commits : List Database) (image : List ℕ) → Opens image (after_commits db commits (length commits)) → OpensToOneOf (db ∷ commits) image
last-opens db [] image opens = inl opens
last-opens db (next ∷ commits) image opens = inr (last-opens next commits image opens)

-- a moment of a line
in-line : (sitting : Sitting) (line : Option (List ℕ)) (mark g : ℕ) (image : List ℕ) (db : Database) → Opens image db → IsMoment mark sitting.at.machine.committed (statement_lines.effect sitting.at line).commits g db
    → IsInLine term_lines sitting (term_lines.effect sitting line) mark g image
in-line sitting line mark g image db opens (inl is) =
    let one = one-opens mark g (sitting.at.machine.committed ∷ (statement_lines.effect sitting.at line).commits) image db opens is in
    record { later = omega (arith, one.0); opens = one.1 }
in-line sitting line mark g image db opens (inr is) =
    record { later = omega (arith, is.0); opens = last-opens sitting.at.machine.committed (statement_lines.effect sitting.at line).commits image (subst (Opens image) is.1 opens) }

-- in one of whose text so much went out
in-answered : (sitting : Sitting) (line : Option (List ℕ)) (mark g : ℕ) (image : List ℕ) (db : Database) → Opens image db → IsMoment mark sitting.at.machine.committed (statement_lines.effect sitting.at line).commits g db
    → g ≤ mark + length (statement_lines.effect sitting.at line).text → IsInAnswered term_lines sitting (term_lines.effect sitting line) mark g image
in-answered sitting line mark g image db opens is within = record { line = in-line sitting line mark g image db opens is; within = within; done = done is }
  where
    done : IsMoment mark sitting.at.machine.committed (statement_lines.effect sitting.at line).commits g db → mark < g → Opens image (committed_in term_lines (term_lines.effect sitting line).next)
    done (inl is) later =
        let one = one-opens mark g (sitting.at.machine.committed ∷ (statement_lines.effect sitting.at line).commits) image db opens is in
        absurd (omega (arith, one.0, later))
    done (inr is) later = subst (Opens image) (is.1 ∙ statements-lawful.last sitting.at line) opens

-- the marks rise by the text
mark-rises : (text : List ℕ) (before now : Option (List ℕ)) (was is : ℕ) → IfSome before (λ given. was ≡ length given) → IfSome now (λ given. is ≡ length given) → Prints text before now → IsSome now → is ≡ was + length text
mark-rises text before None was is marked_before marked prints told = absurd cc
mark-rises text before (Some after) was is marked_before marked prints told =
    let b = prints after refl in
    let first : was ≡ length b.0 = rw b.1 at marked_before in
    omega (arith, first, marked, ap length b.2, length-append b.0 text)

-- What a terminal says of a line that ended so, told to the run. The terminal's link has a chip, which tells what was given.
pub record IsTold {L : Type 0} (is_at : L → Machine → Type 0) (given : L → Option (List ℕ)) (mark : L → ℕ) (chip : L → Chip) : Type 0 where
  pub still : (l : L) → (chip l).still.given ≡ given l
  pub marks : (l : L) → mark l ≡ (chip l).still.mark
  pub marked : (l : L) → IfSome (given l) (λ octets. mark l ≡ length octets)
  pub opens : (l : L) (m : Machine) → is_at l m → IfSome (chip l).image (λ image. Opens image m.committed)

marked-chip : {L : Type 0} (is_at : L → Machine → Type 0) (given : L → Option (List ℕ)) (mark : L → ℕ) (chip : L → Chip) → IsTold is_at given mark chip → (l : L) → IfSome (chip l).still.given (λ octets. (chip l).still.mark ≡ length octets)
marked-chip is_at given mark chip is l = rw (is.still l, sym (is.marks l)) (is.marked l)

prints-chip : {L : Type 0} (is_at : L → Machine → Type 0) (given : L → Option (List ℕ)) (mark : L → ℕ) (chip : L → Chip) → IsTold is_at given mark chip → (text : List ℕ) (old new : L) → Prints text (given old) (given new)
    → Prints text (chip old).still.given (chip new).still.given
prints-chip is_at given mark chip is text old new prints = rw (is.still old, is.still new) prints

-- A line that was answered.
line-answered : {L : Type 0} (is_at : L → Machine → Type 0) (given : L → Option (List ℕ)) (mark : L → ℕ) (chip : L → Chip) → IsTold is_at given mark chip → (sitting : Sitting) (line : Option (List ℕ)) (holding : Holding) (old new : L)
    → terminal.IsAnswered is_at given (statement_lines.effect sitting.at line) holding old new
    → LeavesOpen (IsMoment (mark old) sitting.at.machine.committed (statement_lines.effect sitting.at line).commits) (chip old) (chip new) → Throughout (chip old) (chip new) (λ g left. g ≤ (chip new).still.mark)
    → Answered term_lines sitting (term_lines.effect sitting line) (λ next. Sits is_at next.at holding new) (chip old) (chip new)
line-answered is_at given mark chip is sitting line holding old new answered moments marks =
    let text = (statement_lines.effect sitting.at line).text in
    let prints = prints-chip is_at given mark chip is text old new answered.text in
    record {
      at = answered.sits;
      text = prints;
      moments = λ told.
          let rises = mark-rises text (chip old).still.given (chip new).still.given (chip old).still.mark (chip new).still.mark (marked-chip is_at given mark chip is old) (marked-chip is_at given mark chip is new) prints told in
          record {
            mark = rises;
            moments = throughout-weaker (chip old) (chip new) _ _ (both-throughout (chip old) (chip new) _ _ moments marks)
                (λ g left both. in-answered sitting line (chip old).still.mark g left both.0.0 both.0.1 (subst (λ (n : ℕ). IsMoment n sitting.at.machine.committed (statement_lines.effect sitting.at line).commits g both.0.0) (is.marks old) both.0.2)
                (omega (arith, both.1, rises)));
          };
    }

-- The card failed in it: some first rows were printed.
one-of-map : (text said : List ℕ) (texts : List (List ℕ)) → IsOneOf texts said → IsOneOf (map (λ (rest : List ℕ). text ++ rest) texts) (text ++ said)
one-of-map text said [] is = absurd is
one-of-map text said (first ∷ texts) (inl is) = inl (ap (λ (rest : List ℕ). text ++ rest) is)
one-of-map text said (first ∷ texts) (inr is) = inr (one-of-map text said texts is)

nothing-first : (texts : List (List ℕ)) → IsOneOf (first_texts texts) []
nothing-first [] = inl refl
nothing-first (text ∷ texts) = inl refl

first-rows : (first rest : List Values) → IsOneOf (first_texts (map row_text (first ++ rest))) (concat (map row_text first))
first-rows [] rest = nothing-first (map row_text rest)
first-rows (row ∷ first) rest = inr (one-of-map (row_text row) (concat (map row_text first)) (first_texts (map row_text (first ++ rest))) (first-rows first rest))

line-cut-off : {L : Type 0} (is_at : L → Machine → Type 0) (given : L → Option (List ℕ)) (mark : L → ℕ) (chip : L → Chip) → IsTold is_at given mark chip → (sitting : Sitting) (line : Option (List ℕ)) (rows : List Values) (old new : L)
    → (statement_lines.effect sitting.at line).faulty ≡ first_texts (map row_text rows) → terminal.IsCutOff given rows old new
    → LeavesOpen (IsMoment (mark old) sitting.at.machine.committed (statement_lines.effect sitting.at line).commits) (chip old) (chip new) → Failed Eeprom term_lines sitting (term_lines.effect sitting line) (chip old) (chip new)
line-cut-off is_at given mark chip is sitting line rows old new faulty cut moments =
    let said = concat (map row_text cut.first) in
    let here = λ (g : ℕ) (left : List ℕ) (db : Database) (opens : Opens left db) (moment : IsMoment (mark old) sitting.at.machine.committed (statement_lines.effect sitting.at line).commits g db).
    in-line sitting line (chip old).still.mark g left db opens (subst (λ (n : ℕ). IsMoment n sitting.at.machine.committed (statement_lines.effect sitting.at line).commits g db) (is.marks old) moment) in
    record {
      fails = record {
        said = said;
        says = subst (λ (texts : List (List ℕ)). IsOneOf texts said) (sym faulty)
            (subst (λ (rows : List Values). IsOneOf (first_texts (map row_text rows)) said) (sym cut.split) (first-rows cut.first cut.rest));
        given = prints-chip is_at given mark chip is said old new cut.printed;
        image = λ image told. let now = moments.now image told in (here (chip new).still.mark image now.0 now.1 now.2).opens;
      };
      moments = λ told. throughout-weaker (chip old) (chip new) _ _ moments (λ g left opens. here g left opens.0 opens.1 opens.2);
    }

-- The outlet failed in it.
line-cut-short : {L : Type 0} (is_at : L → Machine → Type 0) (given : L → Option (List ℕ)) (mark : L → ℕ) (chip : L → Chip) → IsTold is_at given mark chip → (sitting : Sitting) (line : Option (List ℕ)) (holding : Holding) (old new : L)
    → terminal.IsCutShort is_at given sitting.at.machine (statement_lines.effect sitting.at line) holding old new
    → LeavesOpen (IsMoment (mark old) sitting.at.machine.committed (statement_lines.effect sitting.at line).commits) (chip old) (chip new) → Throughout (chip old) (chip new) (λ g left. g ≤ (chip new).still.mark)
    → Failed Outlet term_lines sitting (term_lines.effect sitting line) (chip old) (chip new)
line-cut-short is_at given mark chip is sitting line holding old new cut moments marks =
    let prints = prints-chip is_at given mark chip is cut.said old new cut.printed in
    record {
      fails = record {
        said = cut.said;
        says = (cut.rest, cut.start);
        given = prints;
        image = λ image told. subst (Opens image) (cut.committed ∙ statements-lawful.last sitting.at line) (rw told at (is.opens new cut.machine cut.at));
      };
      moments = λ told.
          let rises = mark-rises cut.said (chip old).still.given (chip new).still.given (chip old).still.mark (chip new).still.mark (marked-chip is_at given mark chip is old) (marked-chip is_at given mark chip is new) prints told in
          throughout-weaker (chip old) (chip new) _ _ (both-throughout (chip old) (chip new) _ _ moments marks)
          (λ g left both. in-answered sitting line (chip old).still.mark g left both.0.0 both.0.1 (subst (λ (n : ℕ). IsMoment n sitting.at.machine.committed (statement_lines.effect sitting.at line).commits g both.0.0) (is.marks old) both.0.2)
          (omega (arith, both.1, rises, ap length cut.start, length-append cut.said cut.rest)));
    }

-- it was answered,
pub heard-answered : {L : Type 0} (is_at : L → Machine → Type 0) (given : L → Option (List ℕ)) (mark : L → ℕ) (chip : L → Chip) → IsTold is_at given mark chip
    → (sitting : Sitting) (line : Option (List ℕ)) (rows : List Values) (refusal : Option Refusal) (holding : Holding) (end : LineEnd) (old new : L)
    → terminal.EndsSo is_at given sitting.at.machine (statement_lines.effect sitting.at line) rows refusal holding end old new
    → LeavesOpen (IsMoment (mark old) sitting.at.machine.committed (statement_lines.effect sitting.at line).commits) (chip old) (chip new) → Throughout (chip old) (chip new) (λ g left. g ≤ (chip new).still.mark)
    → OnOk (heard_as end) (Answered term_lines sitting (term_lines.effect sitting line) (λ next. Sits is_at next.at holding new) (chip old) (chip new))
heard-answered is_at given mark chip is sitting line rows refusal holding ends.Answered old new end moments marks = line-answered is_at given mark chip is sitting line holding old new end.0 moments marks
heard-answered is_at given mark chip is sitting line rows refusal holding (ends.Refused why) old new end moments marks = line-answered is_at given mark chip is sitting line holding old new end.0 moments marks
heard-answered is_at given mark chip is sitting line rows refusal holding ends.Mute old new end moments marks = tt
heard-answered is_at given mark chip is sitting line rows refusal holding ends.SinkFault old new end moments marks = tt

-- and says why it was refused, if it was;
pub heard-refusal : {L : Type 0} (is_at : L → Machine → Type 0) (given : L → Option (List ℕ)) (m : Machine) (does : Effect TerminalState) (rows : List Values) (refusal : Option Refusal) (holding : Holding) (end : LineEnd) (old new : L)
    → terminal.EndsSo is_at given m does rows refusal holding end old new → IfOk (heard_as end) (λ why. why ≡ refusal)
heard-refusal is_at given m does rows refusal holding ends.Answered old new end = sym end.1
heard-refusal is_at given m does rows refusal holding (ends.Refused why) old new end = sym end.1
heard-refusal is_at given m does rows refusal holding ends.Mute old new end = tt
heard-refusal is_at given m does rows refusal holding ends.SinkFault old new end = tt

-- or a device failed in it.
pub heard-failed : {L : Type 0} (is_at : L → Machine → Type 0) (given : L → Option (List ℕ)) (mark : L → ℕ) (chip : L → Chip) → IsTold is_at given mark chip
    → (sitting : Sitting) (line : Option (List ℕ)) (rows : List Values) (refusal : Option Refusal) (holding : Holding) (end : LineEnd) (old new : L)
    → terminal.EndsSo is_at given sitting.at.machine (statement_lines.effect sitting.at line) rows refusal holding end old new → (statement_lines.effect sitting.at line).faulty ≡ first_texts (map row_text rows)
    → LeavesOpen (IsMoment (mark old) sitting.at.machine.committed (statement_lines.effect sitting.at line).commits) (chip old) (chip new) → Throughout (chip old) (chip new) (λ g left. g ≤ (chip new).still.mark)
    → IfErr (heard_as end) (λ stop. Failed stop term_lines sitting (term_lines.effect sitting line) (chip old) (chip new))
heard-failed is_at given mark chip is sitting line rows refusal holding ends.Answered old new end faulty moments marks = tt
heard-failed is_at given mark chip is sitting line rows refusal holding (ends.Refused why) old new end faulty moments marks = tt
heard-failed is_at given mark chip is sitting line rows refusal holding ends.Mute old new end faulty moments marks = line-cut-off is_at given mark chip is sitting line rows old new faulty end moments
heard-failed is_at given mark chip is sitting line rows refusal holding ends.SinkFault old new end faulty moments marks = line-cut-short is_at given mark chip is sitting line holding old new end moments marks

pub faulty-read : (state : TerminalState) (read : Result Statement ScriptFault) → (read_effect state read).faulty ≡ first_texts (map row_text (rows_in state read))
faulty-read state (Ok statement) = refl
faulty-read state (Err fault) = refl

-- The counts of faults of a line that ended so.
quiet-causes : {T : Type 0} (eeprom eeprom_now outlet outlet_now : ℕ) (value : T) → eeprom_now ≡ eeprom → outlet_now ≡ outlet
    → Causes {T = T} (record { eeprom = eeprom; outlet = outlet }) (record { eeprom = eeprom_now; outlet = outlet_now }) (Ok value)
quiet-causes eeprom eeprom_now outlet outlet_now value eeprom_same outlet_same = record {
  quiet = rw (eeprom_same, outlet_same) refl;
  eeprom = λ is. absurd cc;
  outlet_stays = λ is. absurd cc;
  outlet = λ is. absurd cc;
  eeprom_stays = λ is. absurd cc;
  both = λ is. absurd cc;
  both_stay = λ is. absurd cc;
  eeprom_later = omega (arith, eeprom_same);
  outlet_later = omega (arith, outlet_same);
}

pub heard-causes : {L : Type 0} (is_live : L → Bool) (faults sink_faults : L → ℕ) (end : LineEnd) (old new : L) → terminal.EndsBy is_live faults sink_faults end old new
    → Causes (record { eeprom = faults old; outlet = sink_faults old }) (record { eeprom = faults new; outlet = sink_faults new }) (heard_as end)
heard-causes is_live faults sink_faults ends.Answered old new works = quiet-causes (faults old) (faults new) (sink_faults old) (sink_faults new) _ works.faults_same works.sink_same
heard-causes is_live faults sink_faults (ends.Refused why) old new works = quiet-causes (faults old) (faults new) (sink_faults old) (sink_faults new) _ works.faults_same works.sink_same
heard-causes is_live faults sink_faults ends.Mute old new mute = record {
  quiet = tt;
  eeprom = λ is. mute.0.rose;
  outlet_stays = λ is. mute.1;
  outlet = λ is. absurd cc;
  eeprom_stays = λ is. absurd cc;
  both = λ is. absurd cc;
  both_stay = λ is. absurd cc;
  eeprom_later = mute.0.later;
  outlet_later = omega (arith, mute.1);
}
heard-causes is_live faults sink_faults ends.SinkFault old new broke = record {
  quiet = tt;
  eeprom = λ is. absurd cc;
  outlet_stays = λ is. absurd cc;
  outlet = λ is. broke.0.rose;
  eeprom_stays = λ is. broke.0.same;
  both = λ is. absurd cc;
  both_stay = λ is. absurd cc;
  eeprom_later = omega (arith, broke.0.same);
  outlet_later = broke.0.later;
}

-- no device failed: the card answers still
pub heard-live : {L : Type 0} (is_live : L → Bool) (faults sink_faults : L → ℕ) (end : LineEnd) (old new : L) → terminal.EndsBy is_live faults sink_faults end old new → IsTrue (is_live old) → OnOk (heard_as end) (IsTrue (is_live new))
heard-live is_live faults sink_faults ends.Answered old new works live = subst IsTrue (sym works.live) live
heard-live is_live faults sink_faults (ends.Refused why) old new works live = subst IsTrue (sym works.live) live
heard-live is_live faults sink_faults ends.Mute old new mute live = tt
heard-live is_live faults sink_faults ends.SinkFault old new broke live = tt

-- and no line wants memory
pub heard-memory : (end : LineEnd) → IsErrOf (heard_as end) NoMemory → ⊥
heard-memory ends.Answered is = absurd cc
heard-memory (ends.Refused why) is = absurd cc
heard-memory ends.Mute is = absurd cc
heard-memory ends.SinkFault is = absurd cc

-- What a terminal tells of the state that it holds is told of where the run is.
pub read-ends : {L : Type 0} (is_at : L → Machine → Type 0) (given : L → Option (List ℕ)) (state : TerminalState) (channel : ℕ) (octets : List ℕ) (holding : Holding) (end : LineEnd) (old new : L) → length octets ≤ 1000 → channel ≡ state.channel
    → terminal.EndsSo is_at given state.machine (line_effect statement_lines (terminal_at state.machine channel) octets) (rows_in (terminal_at state.machine channel) (statement_of octets)) (refusal_in (terminal_at state.machine channel) (statement_of octets)) holding end
    old new
    → terminal.EndsSo is_at given state.machine (statement_lines.effect state (Some octets)) (rows_in state (statement_of octets)) (refusal_in state (statement_of octets)) holding end old new
read-ends is_at given state channel octets holding end old new short same ended =
    subst (λ (does : Effect TerminalState). terminal.EndsSo is_at given state.machine does (rows_in state (statement_of octets)) (refusal_in state (statement_of octets)) holding end old new) (line-is state octets short)
    (subst (λ (n : ℕ). terminal.EndsSo is_at given state.machine (line_effect statement_lines (terminal_at state.machine n) octets) (rows_in (terminal_at state.machine n) (statement_of octets)) (refusal_in (terminal_at state.machine n) (statement_of octets)) holding
    end old new) same ended)

pub read-moments : (state : TerminalState) (channel mark : ℕ) (octets : List ℕ) (old new : Chip) → length octets ≤ 1000 → channel ≡ state.channel
    → LeavesOpen (IsMoment mark state.machine.committed (line_effect statement_lines (terminal_at state.machine channel) octets).commits) old new
    → LeavesOpen (IsMoment mark state.machine.committed (statement_lines.effect state (Some octets)).commits) old new
read-moments state channel mark octets old new short same moments =
    subst (λ (does : Effect TerminalState). LeavesOpen (IsMoment mark state.machine.committed does.commits) old new) (line-is state octets short)
    (subst (λ (n : ℕ). LeavesOpen (IsMoment mark state.machine.committed (line_effect statement_lines (terminal_at state.machine n) octets).commits) old new) same moments)

pub long-ends : {L : Type 0} (is_at : L → Machine → Type 0) (given : L → Option (List ℕ)) (state : TerminalState) (channel : ℕ) (holding : Holding) (end : LineEnd) (old new : L) → channel ≡ state.channel
    → terminal.EndsSo is_at given state.machine (statement_lines.effect (terminal_at state.machine channel) None) [] (Some TooLong) holding end old new → terminal.EndsSo is_at given state.machine (statement_lines.effect state None) [] (Some TooLong) holding end old new
long-ends is_at given state channel holding end old new same ended =
    subst (λ (n : ℕ). terminal.EndsSo is_at given state.machine (statement_lines.effect (terminal_at state.machine n) None) [] (Some TooLong) holding end old new) same ended

-- a terminal that was just made sits on a card that was just opened
pub sits-opened : {L : Type 0} (is_at : L → Machine → Type 0) (holding : Holding) (link : L) (db : Database) → holding ≡ record { channel = 0; transaction = None } → is_at link (start db) → SitsSo is_at holding link false (opened db)
sits-opened is_at holding link db is at = record { sits = record { at = at; channel = ap (λ (h : Holding). h.channel) is; knows = ap (λ (h : Holding). h.transaction) is }; tells = refl }
