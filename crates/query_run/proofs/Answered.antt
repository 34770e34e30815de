-- A line of queries that is answered on a desk: its text, its moments, and why it ends so.
use Rattle.std.proofs.Common.{◌≡◌, ℕ, ◌≤◌, Bool, true, false, List, [], ◌∷◌, length, Option, Some, None, Result, Ok, Err, IfSome, IsTrue, refl, sym, ◌∙◌, ap, subst, arith}
use Rattle.std.specs.Prelude.{OnOk, OnErr, if◌then◌else◌, codes}
use Rattle.std.specs.List.{AllByRecursion}
use Rattle.eeprom.specs.Chip.{Chip}
use Rattle.eeprom.specs.Fault.{Rose}
use Rattle.eeprom.specs.Output.{Prints}
use Rattle.scql_model.specs.Database.{Database}
use Rattle.scql_model.specs.Machine.{Machine}
use Rattle.card_link.specs.Link.{Holds, HoldsWithin, LeavesOpen}
use Rattle.card_asking.proofs.Moments.{leaves-all, leaves-both, leaves-none}
use Rattle.line_run.specs.declared.line_stop.LineStop.{LineStop}
use Rattle.line_run.specs.declared.line_stop.LineStop.TheVariants.{Eeprom, Outlet, Both, NoMemory}
use Rattle.line_run.specs.Causes.{Causes, Faults}
use Rattle.person.proofs.Texts.{shows-none}
use Rattle.row_join.specs.declared.column.Equality.{Equality}
use Rattle.row_join.specs.Links.{AreWithin}
use Rattle.scql_model.specs.Opens.{Opens}
use Rattle.scql_model.specs.Shown.{Shown, shown_on}
use Rattle.script.specs.declared.fault.ScriptFault.{ScriptFault}
use Rattle.script.specs.Line.{is_nothing}
use Rattle.script.specs.Tokens.{after_blanks}
use Rattle.terminal.specs.Failing.{IsStart}
use Rattle.terminal.proofs.Went.{prints-none}
use Rattle.query.specs.Asked.{Asked}
use Rattle.query.specs.Line.{query_of}
use Rattle.query_run.specs.QueryLines.{asked_refused, asked_text, read_refused, read_text}
use Rattle.query.specs.declared.query.AskedObject.{AskedObject}
use Rattle.query.specs.Facts as facts
use Rattle.query_run.specs.Answering.{AnsweringLeaves, AnswersOver, AnswersSo, IsUnmarked, ShowsCounts, stop_of, told_as}
use Rattle.query_run.specs.declared.unfetched.Unfetched.{Unfetched}
use Rattle.query_run.specs.declared.unfetched.Unfetched.TheVariants as unfetched
use Rattle.query_run.specs.Fetching.{CanBeAsked, EndsFetching, IsStopped, ReadsAs}
use Rattle.query_run.specs.Printing.{Cuts, EndsSaying, Leads, Says}

-- Counts of faults.
counts-same : (eeprom eeprom' outlet outlet' : ℕ) → eeprom' ≡ eeprom → outlet' ≡ outlet → ◌≡◌ {A = Faults} (record { eeprom = eeprom'; outlet = outlet' }) (record { eeprom = eeprom; outlet = outlet })
counts-same eeprom eeprom' outlet outlet' first second = cc

quiet-causes : (eeprom eeprom' outlet outlet' : ℕ) (refused : Bool) → eeprom' ≡ eeprom → outlet' ≡ outlet → Causes {T = Bool} (record { eeprom = eeprom; outlet = outlet }) (record { eeprom = eeprom'; outlet = outlet' }) (Ok refused)
quiet-causes eeprom eeprom' outlet outlet' refused first second = record {
  quiet = counts-same eeprom eeprom' outlet outlet' first second;
  eeprom = λ is. absurd cc;
  outlet_stays = λ is. absurd cc;
  outlet = λ is. absurd cc;
  eeprom_stays = λ is. absurd cc;
  both = λ is. absurd cc;
  both_stay = λ is. absurd cc;
  eeprom_later = omega (arith, first);
  outlet_later = omega (arith, second);
}

outlet-causes : (eeprom eeprom' outlet outlet' : ℕ) → eeprom' ≡ eeprom → Rose outlet outlet' → outlet ≤ outlet' → Causes {T = Bool} (record { eeprom = eeprom; outlet = outlet }) (record { eeprom = eeprom'; outlet = outlet' }) (Err Outlet)
outlet-causes eeprom eeprom' outlet outlet' first rose later = record {
  quiet = tt;
  eeprom = λ is. absurd cc;
  outlet_stays = λ is. absurd cc;
  outlet = λ is. rose;
  eeprom_stays = λ is. first;
  both = λ is. absurd cc;
  both_stay = λ is. absurd cc;
  eeprom_later = omega (arith, first);
  outlet_later = later;
}

eeprom-causes : (eeprom eeprom' outlet outlet' : ℕ) → Rose eeprom eeprom' → eeprom ≤ eeprom' → outlet' ≡ outlet → Causes {T = Bool} (record { eeprom = eeprom; outlet = outlet }) (record { eeprom = eeprom'; outlet = outlet' }) (Err Eeprom)
eeprom-causes eeprom eeprom' outlet outlet' rose later same = record {
  quiet = tt;
  eeprom = λ is. rose;
  outlet_stays = λ is. same;
  outlet = λ is. absurd cc;
  eeprom_stays = λ is. absurd cc;
  both = λ is. absurd cc;
  both_stay = λ is. absurd cc;
  eeprom_later = later;
  outlet_later = omega (arith, same);
}

memory-causes : (eeprom eeprom' outlet outlet' : ℕ) → eeprom' ≡ eeprom → outlet' ≡ outlet → Causes {T = Bool} (record { eeprom = eeprom; outlet = outlet }) (record { eeprom = eeprom'; outlet = outlet' }) (Err NoMemory)
memory-causes eeprom eeprom' outlet outlet' first second = record {
  quiet = tt;
  eeprom = λ is. absurd cc;
  outlet_stays = λ is. absurd cc;
  outlet = λ is. absurd cc;
  eeprom_stays = λ is. absurd cc;
  both = λ is. absurd cc;
  both_stay = λ is. counts-same eeprom eeprom' outlet outlet' first second;
  eeprom_later = omega (arith, first);
  outlet_later = omega (arith, second);
}

-- A text was printed, or its start.
module _ {L E : Type 0} (is_at : L → Machine → Type 0) (is_live : L → Bool) (faults mark : L → ℕ) (chip : L → Chip) (goes_on : L → L → Type 0) (given : L → Option (List ℕ)) (sink_faults : L → ℕ) (said : Result (Unit {0}) E) (text : List ℕ) (refused : Bool) (old new : L)
    (ends : EndsSaying is_at is_live faults mark chip goes_on given sink_faults text said old new) where
  reads-led : (m : Machine) → ReadsAs is_at m old → Leads is_at is_live faults mark chip goes_on old new → ReadsAs is_at m new
  reads-led m r led = record { machine = r.machine; at = led.gives.machine r.machine r.at; committed = r.committed; objects = r.objects }

  told-answers : (m : Machine) (whole : List ℕ) (is_refused : Bool) → text ≡ whole → refused ≡ is_refused → ReadsAs is_at m old → AnswersSo is_at given m whole is_refused (told_as said refused) old new
  told-answers m whole is_refused same tells r = go said ends.says ends.cuts
    where
      go : (said : Result (Unit {0}) E) → OnOk said (Says given sink_faults (Leads is_at is_live faults mark chip goes_on) text old new) → OnErr said (Cuts given sink_faults (Leads is_at is_live faults mark chip goes_on) text old new)
          → AnswersSo is_at given m whole is_refused (told_as said refused) old new
      go (Ok x) says cuts = record { tells = tells; printed = subst (λ (text : List ℕ). Prints text (given old) (given new)) same says.printed; reads = reads-led m r says.led }
      go (Err e) says cuts = subst (λ (text : List ℕ). IsStart text (given old) (given new)) same cuts.start

  told-led : Leads is_at is_live faults mark chip goes_on old new
  told-led = go said ends.says ends.cuts
    where
      go : (said : Result (Unit {0}) E) → OnOk said (Says given sink_faults (Leads is_at is_live faults mark chip goes_on) text old new) → OnErr said (Cuts given sink_faults (Leads is_at is_live faults mark chip goes_on) text old new)
          → Leads is_at is_live faults mark chip goes_on old new
      go (Ok x) says cuts = says.led
      go (Err e) says cuts = cuts.led

  pub told-over : (m : Machine) (whole : List ℕ) (is_refused : Bool) → text ≡ whole → refused ≡ is_refused → ReadsAs is_at m old → AnswersOver is_at given mark chip m whole is_refused (told_as said refused) old new
  told-over m whole is_refused same tells r = record {
    answers = told-answers m whole is_refused same tells r;
    moments = subst (λ (db : Database). LeavesOpen (HoldsWithin (mark old) (mark new) db) (chip old) (chip new)) r.committed (told-led.gives.moments r.machine r.at);
  }

  pub told-later : mark old ≤ mark new
  told-later = told-led.gives.later

  told-unmarked : IsUnmarked mark (told_as said refused) old new
  told-unmarked = go said
    where
      go : (said : Result (Unit {0}) E) → IsUnmarked mark (told_as said refused) old new
      go (Ok x) = tt
      go (Err e) = tt

  told-live : IsTrue (is_live old) → OnOk (told_as said refused) (IsTrue (is_live new))
  told-live live = go said (subst IsTrue (sym told-led.gives.live) live)
    where
      go : (said : Result (Unit {0}) E) → IsTrue (is_live new) → OnOk (told_as said refused) (IsTrue (is_live new))
      go (Ok x) live = live
      go (Err e) live = tt

  told-causes : Causes (record { eeprom = faults old; outlet = sink_faults old }) (record { eeprom = faults new; outlet = sink_faults new }) (told_as said refused)
  told-causes = go said ends.says ends.cuts
    where
      go : (said : Result (Unit {0}) E) → OnOk said (Says given sink_faults (Leads is_at is_live faults mark chip goes_on) text old new) → OnErr said (Cuts given sink_faults (Leads is_at is_live faults mark chip goes_on) text old new)
          → Causes (record { eeprom = faults old; outlet = sink_faults old }) (record { eeprom = faults new; outlet = sink_faults new }) (told_as said refused)
      go (Ok x) says cuts =
          quiet-causes (faults old) (faults new) (sink_faults old) (sink_faults new) refused says.led.gives.faults says.same
      go (Err e) says cuts = outlet-causes (faults old) (faults new) (sink_faults old) (sink_faults new) cuts.led.gives.faults cuts.rose cuts.later

  pub told-leaves : {P : Type 0} (lost : P → Bool) (shown : P → Option (List ℕ)) (person after : P) → IsTrue (is_live old) → ShowsCounts lost shown person after
      → AnsweringLeaves is_live faults sink_faults mark goes_on lost shown (told_as said refused) old new person after
  told-leaves lost shown person after live shows = record {
    unmarked = told-unmarked;
    causes = told-causes;
    live = told-live live;
    goes_on = told-led.goes;
    shows = shows;
  }

-- Behind what was fetched.
module _ {L : Type 0} (is_at : L → Machine → Type 0) (given : L → Option (List ℕ)) (m : Machine) (text : List ℕ) (refused : Bool) (old mid new : L) where
  pub answers-behind : (r : Result Bool LineStop) → given mid ≡ given old → AnswersSo is_at given m text refused r mid new → AnswersSo is_at given m text refused r old new
  answers-behind (Ok was) same a = record { tells = a.tells; printed = subst (λ (before : Option (List ℕ)). Prints text before (given new)) same a.printed; reads = a.reads }
  answers-behind (Err Outlet) same a = subst (λ (before : Option (List ℕ)). IsStart text before (given new)) same a
  answers-behind (Err Both) same a = a
  answers-behind (Err Eeprom) same a = a ∙ same
  answers-behind (Err NoMemory) same a = a ∙ same

pub moments-behind : {L : Type 0} (chip : L → Chip) (mark : L → ℕ) (db : Database) (old mid new : L) → mark mid ≡ mark old → mark mid ≤ mark new → LeavesOpen (Holds (mark old) db) (chip old) (chip mid)
    → LeavesOpen (HoldsWithin (mark mid) (mark new) db) (chip mid) (chip new) → LeavesOpen (HoldsWithin (mark old) (mark new) db) (chip old) (chip new)
moments-behind chip mark db old mid new marked later first second =
    leaves-both chip (HoldsWithin (mark old) (mark new) db) old mid new
    (leaves-all chip (Holds (mark old) db) (HoldsWithin (mark old) (mark new) db) old mid (λ g left is. record { above = omega (arith, is.0); below = omega (arith, is.0, marked, later); same = is.1 }) first)
    (leaves-all chip (HoldsWithin (mark mid) (mark new) db) (HoldsWithin (mark old) (mark new) db) mid new (λ g left is. record { above = omega (arith, is.above, marked); below = is.below; same = is.same }) second)

unmarked-behind : {L : Type 0} (mark : L → ℕ) (r : Result Bool LineStop) (old mid new : L) → mark mid ≡ mark old → IsUnmarked mark r mid new → IsUnmarked mark r old new
unmarked-behind mark (Ok was) old mid new same u = tt
unmarked-behind mark (Err Eeprom) old mid new same u = u ∙ same
unmarked-behind mark (Err Outlet) old mid new same u = tt
unmarked-behind mark (Err Both) old mid new same u = tt
unmarked-behind mark (Err NoMemory) old mid new same u = u ∙ same

causes-behind : (a b c d e f : ℕ) (r : Result Bool LineStop) → c ≡ a → d ≡ b → Causes (record { eeprom = c; outlet = d }) (record { eeprom = e; outlet = f }) r → Causes (record { eeprom = a; outlet = b }) (record { eeprom = e; outlet = f }) r
causes-behind a b c d e f r first second causes = rw (sym first, sym second) causes

pub leaves-behind : {L P : Type 0} (is_live : L → Bool) (faults sink_faults mark : L → ℕ) (goes : L → L → Type 0) (lost : P → Bool) (shown : P → Option (List ℕ)) (r : Result Bool LineStop) (old mid new : L) (person after : P) → faults mid ≡ faults old
    → sink_faults mid ≡ sink_faults old → mark mid ≡ mark old → (goes mid new → goes old new) → AnsweringLeaves is_live faults sink_faults mark goes lost shown r mid new person after
    → AnsweringLeaves is_live faults sink_faults mark goes lost shown r old new person after
leaves-behind is_live faults sink_faults mark goes lost shown r old mid new person after first second marked on leaves = record {
  unmarked = unmarked-behind mark r old mid new marked leaves.unmarked;
  causes = causes-behind (faults old) (sink_faults old) (faults mid) (sink_faults mid) (faults new) (sink_faults new) r first second leaves.causes;
  live = leaves.live;
  goes_on = on leaves.goes_on;
  shows = leaves.shows;
}

-- Where the rows aren't all there nothing was printed.
module _ {L : Type 0} (mark : L → ℕ) (end : Unfetched) (old new : L) (marked : mark new ≡ mark old) where
  pub stopped-over : (is_at : L → Machine → Type 0) (given : L → Option (List ℕ)) (chip : L → Chip) (m : Machine) (text : List ℕ) (refused : Bool) → given new ≡ given old → LeavesOpen (Holds (mark old) m.committed) (chip old) (chip new)
      → AnswersOver is_at given mark chip m text refused (Err (stop_of end)) old new
  stopped-over is_at given chip m text refused same moments = record {
    answers = go end;
    moments = leaves-all chip (Holds (mark old) m.committed) (HoldsWithin (mark old) (mark new) m.committed) old new (λ g left is. record { above = omega (arith, is.0); below = omega (arith, is.0, marked); same = is.1 }) moments;
  }
    where
      go : (end : Unfetched) → AnswersSo is_at given m text refused (Err (stop_of end)) old new
      go (unfetched.Refused word) = same
      go unfetched.Mute = same
      go unfetched.NoMemory = same

  pub stopped-leaves : (A : Type 0) {P : Type 0} (is_live : L → Bool) (faults sink_faults : L → ℕ) (goes : L → L → Type 0) (lost : P → Bool) (shown : P → Option (List ℕ)) (person after : P) → IsStopped end → EndsFetching {A = A} is_live faults (Err end) old new
      → sink_faults new ≡ sink_faults old → goes old new → ShowsCounts lost shown person after → AnsweringLeaves is_live faults sink_faults mark goes lost shown (Err (stop_of end)) old new person after
  stopped-leaves A {P} is_live faults sink_faults goes lost shown person after stopped ends same goes_on shows = record {
    unmarked = unmarked end;
    causes = causes end stopped ends;
    live = tt;
    goes_on = goes_on;
    shows = shows;
  }
    where
      unmarked : (end : Unfetched) → IsUnmarked mark (Err (stop_of end)) old new
      unmarked (unfetched.Refused word) = marked
      unmarked unfetched.Mute = marked
      unmarked unfetched.NoMemory = marked

      causes : (end : Unfetched) → IsStopped end → EndsFetching {A = A} is_live faults (Err end) old new
          → Causes {T = Bool} (record { eeprom = faults old; outlet = sink_faults old }) (record { eeprom = faults new; outlet = sink_faults new }) (Err (stop_of end))
      causes (unfetched.Refused word) stopped ends = absurd stopped
      causes unfetched.Mute stopped ends = eeprom-causes (faults old) (faults new) (sink_faults old) (sink_faults new) ends.rose ends.later same
      causes unfetched.NoMemory stopped ends = memory-causes (faults old) (faults new) (sink_faults old) (sink_faults new) ends.same same

-- the text of a line is one that is told
pub over-is : {L : Type 0} (is_at : L → Machine → Type 0) (given : L → Option (List ℕ)) (mark : L → ℕ) (chip : L → Chip) (m : Machine) (text whole : List ℕ) (refused all : Bool) (r : Result Bool LineStop) (old new : L) → text ≡ whole → refused ≡ all
    → AnswersOver is_at given mark chip m text refused r old new → AnswersOver is_at given mark chip m whole all r old new
over-is is_at given mark chip m text whole refused all r old new first second over =
    subst (λ (text : List ℕ). AnswersOver is_at given mark chip m text all r old new) first (subst (λ (refused : Bool). AnswersOver is_at given mark chip m text refused r old new) second over)

-- A line that isn't nothing is read.
pub asked-read : (s : Shown) (line : List ℕ) (nothing : Bool) (read : Result Asked ScriptFault) → nothing ≡ false → nothing ≡ is_nothing (after_blanks line) → read ≡ query_of line → read_text s read ≡ asked_text s (Some line)
unfolding asked_text
asked-read s line nothing read not is same =
    ap (read_text s) same ∙ sym (ap (λ (b : Bool). if b then [] else read_text s (query_of line)) (sym is ∙ not))

pub refused-read : (s : Shown) (line : List ℕ) (nothing : Bool) (read : Result Asked ScriptFault) → nothing ≡ false → nothing ≡ is_nothing (after_blanks line) → read ≡ query_of line → read_refused s read ≡ asked_refused s (Some line)
unfolding asked_refused
refused-read s line nothing read not is same =
    ap (read_refused s) same ∙ sym (ap (λ (b : Bool). if b then false else read_refused s (query_of line)) (sym is ∙ not))

pub shows-nothing : {P : Type 0} (lost : P → Bool) (shown : P → Option (List ℕ)) (person : P) → ShowsCounts lost shown person person
shows-nothing lost shown person = record { counts = []; shows = shows-none lost shown person }

-- one that is nothing prints nothing
pub nothing-over : {L : Type 0} (is_at : L → Machine → Type 0) (given : L → Option (List ℕ)) (mark : L → ℕ) (chip : L → Chip) (m : Machine) (line : List ℕ) (nothing : Bool) (l : L) → nothing ≡ true → nothing ≡ is_nothing (after_blanks line)
    → mark l ≡ (chip l).still.mark → ((m : Machine) → is_at l m → IfSome (chip l).image (λ image. Opens image m.committed)) → ReadsAs is_at m l
    → AnswersOver is_at given mark chip m (asked_text (shown_on m 0) (Some line)) (asked_refused (shown_on m 0) (Some line)) (Ok false) l l
unfolding asked_text asked_refused
nothing-over is_at given mark chip m line nothing l empty is marks opens r = record {
  answers = record {
    tells = sym (ap (λ (b : Bool). if b then false else read_refused (shown_on m 0) (query_of line)) (sym is ∙ empty));
    printed = subst (λ (text : List ℕ). Prints text (given l) (given l)) (sym (ap (λ (b : Bool). if b then [] else read_text (shown_on m 0) (query_of line)) (sym is ∙ empty))) (prints-none (given l) (given l) refl);
    reads = r;
  };
  moments = leaves-none chip mark (HoldsWithin (mark l) (mark l) m.committed) l r.machine.committed marks (opens r.machine r.at) (record { above = omega arith; below = omega arith; same = r.committed });
}

pub nothing-leaves : {L P : Type 0} (is_live : L → Bool) (faults sink_faults mark : L → ℕ) (goes : L → L → Type 0) (lost : P → Bool) (shown : P → Option (List ℕ)) (l : L) (person : P) → IsTrue (is_live l) → goes l l
    → AnsweringLeaves is_live faults sink_faults mark goes lost shown (Ok false) l l person person
nothing-leaves is_live faults sink_faults mark goes lost shown l person live goes_on = record {
  unmarked = tt;
  causes = quiet-causes (faults l) (faults l) (sink_faults l) (sink_faults l) false refl refl;
  live = live;
  goes_on = goes_on;
  shows = shows-nothing lost shown person;
}

pub text-long : (s : Shown) → codes "error line too long\n" ≡ asked_text s None
unfolding asked_text
text-long s = refl

pub refused-long : (s : Shown) → true ≡ asked_refused s None
unfolding asked_refused
refused-long s = refl

-- What is asked of a query can be asked.
pub all-sent : (objects : List AskedObject) → AllByRecursion facts.CanBeAsked objects → AllByRecursion CanBeAsked objects
all-sent [] all = tt
all-sent (asked ∷ rest) all = (all.0 0 (omega arith), all-sent rest all.1)

pub all-within : (objects : List AskedObject) (equalities : List Equality) → AllByRecursion (facts.AreFetched objects) equalities → AreWithin (length objects) equalities
all-within objects [] all = tt
all-within objects (equality ∷ rest) all = ((all.0.left.object, all.0.right.object), all-within objects rest all.1)
