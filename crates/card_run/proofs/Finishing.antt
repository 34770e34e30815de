-- How the run of a card ends that was opened.
use Rattle.std.proofs.Common.{◌≡◌, ◌⊎◌, ℕ, ◌<◌, ◌≤◌, Bool, true, false, List, [], length, take, slice_index, get_or, get_or-take, Option, Some, None, refl, sym, ap, subst, ◌∙◌, arith, inl, inr}
use Rattle.std.specs.Prelude.{IsSome, IfSome}
use Rattle.std.proofs.lemmas.Bool.{false≢true}
use Rattle.eeprom.specs.Chip.{Chip, Still, Becomes}
use Rattle.scql_model.specs.Database.{Database, IsValid, fresh}
use Rattle.scql_model.specs.Machine.{start}
use Rattle.scql_model.specs.Lines.{Language, lines, run_text, state_after}
use Rattle.scql_model.proofs.FreshCard.{IsValid-fresh}
use Rattle.scql_model.specs.Opens.{Opens}
use Rattle.eeprom.specs.StoreOf.{store_of, is_gate_open, number_at}
use Rattle.eeprom.proofs.Leaves.{Keeps-none, leaves-last, leaves-same, leaves-then}
use Rattle.eeprom.proofs.Moments.{throughout-then}
use Rattle.journal.specs.Journal.{KeepsDirectory}
use Rattle.journal.proofs.Finishing.{keeps-none}
use Rattle.journal.proofs.Outside.{rest-then}
use Rattle.record_store.specs.Recovery.{KeepsStore}
use Rattle.record_store.proofs.Fronts.{Keeps-then}
use Rattle.card.specs.Making.{LeavesMade, OpensAsBefore, OpensToNone}
use Rattle.card.proofs.Starting.{opens-same}
use Rattle.card_run.specs.declared.words.Form.{Form}
use Rattle.card_run.specs.declared.words.Form.TheVariants.{New}
use Rattle.card_run.specs.Beginning.{Begins, BeginsWith, LacksCard, LeavesUntilOpen}
use Rattle.card.specs.Opened.{IsOpenTo}
use Rattle.card_run.specs.Words.{IsWithinLimits}
use Rattle.program.specs.declared.status.Status.{Status}
use Rattle.program.specs.declared.status.Status.TheVariants.{Done, Refused, Eeprom, ReadFault, WriteFault, NoMemory, TooLong}
use Rattle.line_run.specs.declared.line_stop.LineStop.{LineStop}
use Rattle.line_run.specs.declared.line_stop.LineStop.TheVariants as stops
use Rattle.line_input.specs.declared.input.InputEnd.{InputEnd}
use Rattle.line_input.specs.declared.input.InputEnd.TheVariants as ends
use Rattle.program.specs.Numbers.{status_at}
use Rattle.eeprom.specs.Output.{Prints}
use Rattle.program.specs.Numbers.{ends_as}
use Rattle.program.specs.Ends.{AllFaults, EndsBy, RunsTo, reads_all}
use Rattle.program.proofs.Ended.{ends-whole, said-done}
use Rattle.card_run.specs.Ends.{is_of_opened, ends_opening}
use Rattle.line_input.specs.Reading.{longest_input}
use Rattle.line_run.specs.Extent.{RunsInput}
use Rattle.card_run.specs.Run.{IsQuiet, AnswersAll, RunsLines, TellsRefusals}
use Rattle.card_run.proofs.Asking.{eeprom-rose, limits-asked, unopened}

-- an EEPROM that tells its image, which opens to some database, is open to it
pub open_to : (chip : Chip) → IsSome chip.image → IfSome chip.image (λ (image : List ℕ). (db : Database) × Opens image db) → (db : Database) × IsOpenTo chip db
open_to chip told opens = of_image chip.image told opens
  where
    of_image : (o : Option (List ℕ)) → IsSome o → IfSome o (λ (image : List ℕ). (db : Database) × Opens image db) → (db : Database) × ((image : List ℕ) × (o ≡ Some image) × Opens image db)
    of_image None told opens = absurd cc
    of_image (Some image) told opens = (opens.0, (image, refl, opens.1))

-- an EEPROM that is open to a database isn't one that opens to none
pub not_to_none : (chip : Chip) (db : Database) → IsOpenTo chip db → IfSome chip.image OpensToNone → ⊥
not_to_none chip db opens none = subst (λ (o : Option (List ℕ)). IfSome o OpensToNone) opens.1 none db opens.2

-- where a card is lacking none was opened
pub lacks_none : (form : Form) (old mid : Chip) → LacksCard form old → LeavesUntilOpen form old mid → (IsSome old.image → IsSome mid.image) → IfSome mid.image (λ (image : List ℕ). (db : Database) × Opens image db) → ⊥
lacks_none (New n) old mid lacks leaves told opens = lacks
lacks_none form old mid lacks leaves told opens = found mid.image refl (told (subst (λ (o : Option (List ℕ)). IsSome o) (sym lacks.1) refl)) opens
  where
    found : (o : Option (List ℕ)) → mid.image ≡ o → IsSome o → IfSome o (λ (image : List ℕ). (db : Database) × Opens image db) → ⊥
    found None is some opens = absurd cc
    found (Some left) is some opens =
        let at = leaves.keeps.image left is in
        let same : at.0 ≡ lacks.0 = cc (at.1, lacks.1) in
        lacks.2 opens.0 (subst (λ (image : List ℕ). Opens image opens.0) same (opens-same left at.0 at.2 opens.0 opens.1))

-- and what was there keeps its store
pub lacks_keeps : (form : Form) (old new : Chip) → LacksCard form old → LeavesUntilOpen form old new → KeepsStore old new
lacks_keeps (New n) old new lacks leaves = absurd lacks
lacks_keeps form old new lacks leaves = leaves

-- what is told of the whole input is told of this one
becomes-at : (P : List ℕ → List ℕ → Type 0) (start now : Option (List ℕ)) (input left : List ℕ) → start ≡ Some input → now ≡ Some left → Becomes (λ i l. P i l) start now → P input left
becomes-at P start now input left from to becomes =
    let b = becomes left to in
    let same : b.0 ≡ input = cc (b.1, from) in
    subst (λ (i : List ℕ). P i left) same b.2

-- and said the text of its whole input
said-whole : {S X : Type 0} (chip : X → Chip) (eeprom : X → ℕ) (L : Language S) (state : S) (status : Status) (input left : List ℕ) (before : Still) (old new : X) → (chip old).still ≡ before → reads_all status ≡ true
    → RunsTo chip eeprom L state status input left old new → Prints (run_text L state (lines input true)) before.given (chip new).still.given
said-whole {S} {X} chip eeprom L state status input left before old new still whole ran =
    let ended : ran.end ≡ ends.Ended = ends-whole ran.end ran.refused (subst (λ (s : Status). reads_all s ≡ true) ran.ends whole) in
    subst (λ (s : Still). Prints (run_text L state (lines input true)) s.given (chip new).still.given) still
    (said-ended (subst (λ (end : InputEnd LineStop). RunsInput chip eeprom L state end input left old new) ended ran.runs))
  where
    said-ended : RunsInput chip eeprom L state ends.Ended input left old new → Prints (run_text L state (lines input true)) (chip old).still.given (chip new).still.given
    said-ended runs = subst (λ (taken : List (List ℕ)). Prints (run_text L state taken) (chip old).still.given (chip new).still.given) runs.are_taken (said-done chip eeprom L state runs.taken runs.extent old new runs.ends runs.runs)

-- and so, without a fault, it answers all of its input
answers_all : {S X : Type 0} (chip : X → Chip) (eeprom : X → ℕ) (L : Language S) (refused : S → Bool) (state : S) (status : Status) (was now : AllFaults) (input left : List ℕ) (before : Still) (old new : X) → (chip old).still ≡ before → is_of_opened status ≡ true → EndsBy status was now → IsQuiet was now
    → length input ≤ longest_input → (status ≡ TooLong → longest_input < length input) → (reads_all status ≡ true → status ≡ ends_as (refused (state_after L state (lines input true))))
    → RunsTo chip eeprom L state status input left old new → AnswersAll (ends_as (refused (state_after L state (lines input true)))) status (run_text L state (lines input true)) before.given (chip new).still.given
answers_all chip eeprom L refused state Done was now input left before old new still over ends quiet short long closes ran = inl (closes refl, said-whole chip eeprom L state Done input left before old new still refl ran)
answers_all chip eeprom L refused state Refused was now input left before old new still over ends quiet short long closes ran = inl (closes refl, said-whole chip eeprom L state Refused input left before old new still refl ran)
answers_all chip eeprom L refused state TooLong was now input left before old new still over ends quiet short long closes ran = absurd (omega (arith, long refl, short))
answers_all chip eeprom L refused state Eeprom was now input left before old new still over ends quiet short long closes ran = absurd (quiet.eeprom ends.0)
answers_all chip eeprom L refused state ReadFault was now input left before old new still over ends quiet short long closes ran = absurd (quiet.source ends.0)
answers_all chip eeprom L refused state WriteFault was now input left before old new still over ends quiet short long closes ran = absurd (quiet.outlet ends.0)
answers_all chip eeprom L refused state status was now input left before old new still over ends quiet short long closes ran = absurd cc

-- a run whose card wasn't opened read nothing
not_whole : (status : Status) → ends_opening status ≡ true → reads_all status ≡ true → ⊥
not_whole Done opening all = false≢true opening
not_whole Refused opening all = false≢true opening
not_whole status opening all = false≢true all

-- of an input that it didn't read to its end it says that it is too long
ends-longer : (status : Status) (was now : AllFaults) → is_of_opened status ≡ true → EndsBy status was now → IsQuiet was now → (reads_all status ≡ true → ⊥) → status ≡ TooLong
ends-longer Done was now over ends quiet longer = absurd (longer refl)
ends-longer Refused was now over ends quiet longer = absurd (longer refl)
ends-longer TooLong was now over ends quiet longer = refl
ends-longer Eeprom was now over ends quiet longer = absurd (quiet.eeprom ends.0)
ends-longer ReadFault was now over ends quiet longer = absurd (quiet.source ends.0)
ends-longer WriteFault was now over ends quiet longer = absurd (quiet.outlet ends.0)
ends-longer status was now over ends quiet longer = absurd cc

not-longer : (input : List ℕ) → length input ≤ longest_input → longest_input < length input → ⊥
not-longer input short long = absurd (omega (arith, short, long))

-- What a run over lines owes whose card wasn't opened,
pub Lines-unopened : {S T X : Type 0} (chip : X → Chip) (eeprom : X → ℕ) (L : Language S) (refused : S → Bool) (first : Database → S) (form : Form) (status : Status) (source : T) (start end : Option (List ℕ)) (old new : X) (was now : AllFaults) → ends_opening status ≡ true
    → ((db : Database) → Begins form (chip old) db → (status ≡ NoMemory) ⊎ (status ≡ Eeprom)) → EndsBy status was now → (chip new).still ≡ (chip old).still → LeavesUntilOpen form (chip old) (chip new)
    → RunsLines chip eeprom L refused first form status source source start end old new was now
Lines-unopened chip eeprom L refused first form status source start end old new was now opening stopped ends still leaves =
    record {
      begins = λ opened told. absurd (unopened status opening opened);
      whole = λ all. absurd (not_whole status opening all);
      too_long = λ is. absurd (false≢true (subst (λ (s : Status). ends_opening s ≡ true) is opening));
      text = λ db begins quiet input left from to short. elim (stopped db begins) [
        | inl none ↦ inr (none, ap (λ (s : Still). s.given) still)
        | inr failed ↦ absurd (quiet.eeprom (eeprom-rose status was now failed ends))
      ];
      longer = λ db begins quiet input left from to long. elim (stopped db begins) [
        | inl none ↦ inr none
        | inr failed ↦ absurd (quiet.eeprom (eeprom-rose status was now failed ends))
      ];
      refusals = λ db begins all. absurd (not_whole status opening all);
      runs = λ db begins. inl (record { opening = opening; source = refl; given = ap (λ (s : Still). s.given) still; leaves = leaves });
    }

-- and whose card was opened, and then asked
pub Lines-opened : {S T X : Type 0} (chip : X → Chip) (eeprom : X → ℕ) (L : Language S) (refused : S → Bool) (first : Database → S) (form : Form) (status : Status) (source after : T) (start end : Option (List ℕ)) (old mid new : X) (was now : AllFaults) → is_of_opened status ≡ true
    → (IsSome (chip old).image → (db : Database) × Begins form (chip old) db) → (chip mid).still ≡ (chip old).still → eeprom mid ≡ eeprom old → LeavesUntilOpen form (chip old) (chip mid)
    → ((db : Database) → Begins form (chip old) db → IfSome (chip mid).image (λ image. Opens image db))
    → (reads_all status ≡ true → Becomes (λ input left. (left ≡ []) × (length input ≤ longest_input)) start end) → (status ≡ TooLong → Becomes (λ input left. longest_input < length input) start end) → EndsBy status was now
    → ((db : Database) → Begins form (chip old) db → TellsRefusals L refused (first db) status start end)
    → ((db : Database) → Begins form (chip old) db → Becomes (λ input left. RunsTo chip eeprom L (first db) status input left mid new) start end)
    → RunsLines chip eeprom L refused first form status source after start end old new was now
Lines-opened chip eeprom L refused first form status source after start end old mid new was now over begins still counted until opens whole long ends tells runs =
    record {
      begins = λ opened told. begins told;
      whole = whole;
      refusals = tells;
      too_long = long;
      text = λ db begins quiet input left from to short.
          answers_all chip eeprom L refused (first db) status was now input left (chip old).still mid new still over ends quiet short (λ is. becomes-at (λ (i l : List ℕ). longest_input < length i) start end input left from to (long is))
          (λ all. becomes-at (λ (i l : List ℕ). status ≡ ends_as (refused (state_after L (first db) (lines i true)))) start end input left from to (tells db begins all))
          (becomes-at (λ (i l : List ℕ). RunsTo chip eeprom L (first db) status i l mid new) start end input left from to (runs db begins));
      longer = λ db begins quiet input left from to long.
          inl (ends-longer status was now over ends quiet (λ all. not-longer input (becomes-at (λ (i l : List ℕ). (l ≡ []) × (length i ≤ longest_input)) start end input left from to (whole all)).1 long));
      runs = λ db begins. inr (λ left told.
          let last = runs db begins left told in
          (last.0, last.1, record { opened = mid; still = still; quiet = counted; opens = opens db begins; until = until; runs = last.2 }));
    }

-- the database of a run is valid
valid-begun : (form : Form) (chip : Chip) (db : Database) → IsWithinLimits form → Begins form chip db → IsValid db
valid-begun (New n) chip db limits begins = subst IsValid (sym begins.2) (IsValid-fresh n limits.0 limits.1)
valid-begun form chip db limits begins = begins.2.valid

pub valid-beginning : (words : List (List ℕ)) (chip : Chip) (db : Database) → BeginsWith words chip db → IsValid db
valid-beginning words chip db begins = valid-begun begins.form chip db (limits-asked words begins.form begins.asked) begins.begins

pub same_faults : (a b s c d : ℕ) → a ≡ b → c ≡ d
    → (let first : AllFaults = record { eeprom = a; source = s; outlet = c } in let second : AllFaults = record { eeprom = b; source = s; outlet = d } in first ≡ second)
same_faults a b s c d p q = rw (p, q) refl

-- an EEPROM that was open to a database is so after it was opened
pub kept_open : (mid new : Chip) (db : Database) → KeepsStore mid new → IsOpenTo mid db → IfSome new.image (λ (image : List ℕ). Opens image db)
kept_open mid new db keeps opens = found new.image refl
  where
    found : (o : Option (List ℕ)) → new.image ≡ o → IfSome o (λ (image : List ℕ). Opens image db)
    found None is = tt
    found (Some left) is =
        let at = keeps.keeps.image left is in
        let same : opens.0 ≡ at.0 = cc (opens.1, at.1) in
        opens-same opens.0 left (ap store_of same ∙ sym at.2) db opens.2

-- the front of an image says how many cells it has
pub front-cells : (was left : List ℕ) → take 8 left ≡ take 8 was → number_at left 6 ≡ number_at was 6
front-cells was left front = rw (octet 6 (omega arith), octet 7 (omega arith)) refl
  where
    octet : (k : ℕ) → k < 8 → slice_index left k ≡ slice_index was k
    octet k inside = sym (get_or-take 8 left k 0 inside) ∙ ap (λ (xs : List ℕ). get_or xs k 0) front ∙ get_or-take 8 was k 0 inside

-- the octets that an opening keeps, by the image's own number of cells
abbrev pub KeepsOutside : List ℕ → List ℕ → Type 0
KeepsOutside was left = KeepsDirectory (number_at was 6) was left

outside-then : (was mid left : List ℕ) → KeepsOutside was mid → KeepsOutside mid left → KeepsOutside was left
outside-then was mid left first second =
    let cells : number_at mid 6 ≡ number_at was 6 = front-cells was mid first.rest.front in
    let then' : KeepsDirectory (number_at was 6) mid left = subst (λ (n : ℕ). KeepsDirectory n mid left) cells second in
    record { rest = rest-then (number_at was 6) was mid left first.rest then'.rest; same = then'.same ∙ first.same }

-- nothing happens, or more is done
pub keeps_same : (chip : Chip) → KeepsStore chip chip
keeps_same chip = record {
  keeps = Keeps-none _ chip chip refl;
  rest = leaves-same KeepsOutside chip chip refl (λ was. keeps-none (number_at was 6) was);
  closed = nothing chip.image;
}
  where
    nothing : (image : Option (List ℕ)) → IfSome image (λ image. is_gate_open image ≡ false → chip ≡ chip)
    nothing None = tt
    nothing (Some image) = λ closed. refl

keeps_then : (old mid new : Chip) → KeepsStore old mid → KeepsStore mid new → KeepsStore old new
keeps_then old mid new first second = record {
  keeps = Keeps-then store_of old mid new first.keeps second.keeps;
  rest = leaves-then old mid new KeepsOutside KeepsOutside KeepsOutside first.keeps.still (leaves-last KeepsOutside old mid first.rest) outside-then first.rest second.rest;
  closed = both old.image refl first.closed;
}
  where
    both : (image : Option (List ℕ)) → old.image ≡ image → IfSome image (λ image. is_gate_open image ≡ false → mid ≡ old) → IfSome image (λ image. is_gate_open image ≡ false → new ≡ old)
    both None is closed = tt
    both (Some image) is closed = λ shut.
        let same : mid ≡ old = closed shut in
        let told : mid.image ≡ Some image = ap (λ (chip : Chip). chip.image) same ∙ is in
        subst (λ (o : Option (List ℕ)). IfSome o (λ image. is_gate_open image ≡ false → new ≡ mid)) told second.closed shut ∙ same

-- an image that may be left while a card is made, or has the same store as one
made_alike : (n : ℕ) (old : Chip) (left was : List ℕ) → store_of left ≡ store_of was → OpensAsBefore old was ⊎ (OpensToNone was ⊎ Opens was (fresh n)) → OpensAsBefore old left ⊎ (OpensToNone left ⊎ Opens left (fresh n))
made_alike n old left was same (inl before) = inl (before.0, before.1, λ db. (λ opens. (before.2 db).0 (opens-same left was same db opens), λ opens. opens-same was left (sym same) db ((before.2 db).1 opens)))
made_alike n old left was same (inr (inl none)) = inr (inl (λ db opens. none db (opens-same left was same db opens)))
made_alike n old left was same (inr (inr opens)) = inr (inr (opens-same was left (sym same) (fresh n) opens))

made_then : (n : ℕ) (old mid new : Chip) → LeavesMade n old mid → KeepsStore mid new → LeavesMade n old new
made_then n old mid new made keeps = throughout-then old mid new _ made (record {
  later = keeps.keeps.later;
  only = λ t g left since there. elim (keeps.keeps.only t g left since there) [
    | inl before ↦ inl before
    | inr at ↦ inr (let here = made.now at.1 at.2 in (at.0 ∙ here.0, made_alike n old left at.1 at.3 here.1))
  ];
  stays = keeps.keeps.stays;
  now = λ image told.
      let at = keeps.keeps.image image told in
      let here = made.now at.0 at.1 in
      (ap (λ still. still.mark) keeps.keeps.still ∙ here.0, made_alike n old image at.0 at.2 here.1);
})

-- what is left until a card is open, from what is left until it is there
pub until_open : (form asked : Form) (old mid new : Chip) → form ≡ asked → KeepsStore mid new → LeavesUntilOpen form old mid → LeavesUntilOpen asked old new
until_open form asked old mid new same keeps leaves = of_form asked (subst (λ (f : Form). LeavesUntilOpen f old mid) same leaves)
  where
    of_form : (asked : Form) → LeavesUntilOpen asked old mid → LeavesUntilOpen asked old new
    of_form (New n) made = made_then n old mid new made keeps
    of_form other first = keeps_then old mid new first keeps

-- in a language without refusals a run that read all of its input is done
pub never-tells : {S : Type 0} (L : Language S) (state : S) (status : Status) (start end : Option (List ℕ)) → (status ≡ Refused → ⊥)
    → (reads_all status ≡ true → Becomes (λ input left. (left ≡ []) × (length input ≤ longest_input)) start end) → TellsRefusals L (λ m. false) state status start end
never-tells L state Done start end never whole all = λ left told. let b = whole refl left told in (b.0, b.1, refl)
never-tells L state Refused start end never whole all = absurd (never refl)
never-tells L state status start end never whole all = absurd (false≢true all)

-- commands aren't refused
pub never-refused : (end : InputEnd LineStop) → status_at end false ≡ Refused → ⊥
never-refused ends.Ended is = absurd cc
never-refused ends.ReadFault is = absurd cc
never-refused ends.TooLong is = absurd cc
never-refused (ends.Stopped stops.Eeprom) is = absurd cc
never-refused (ends.Stopped stops.Outlet) is = absurd cc
never-refused (ends.Stopped stops.Both) is = absurd cc
never-refused (ends.Stopped stops.NoMemory) is = absurd cc

-- a run of statements tells whether one was refused
pub tells-refused : {S : Type 0} (L : Language S) (state : S) (refused_in : S → Bool) (end : InputEnd LineStop) (refused : Bool) (at : S → Type 0) (start now : Option (List ℕ)) → ((s : S) → at s → refused ≡ refused_in s)
    → (end ≡ ends.Ended → Becomes (λ input left. at (state_after L state (lines input true))) start now) → TellsRefusals L refused_in state (status_at end refused) start now
tells-refused L state refused_in end refused at start now tells ended whole = λ left told.
    let is = ends-whole end refused whole in
    let last = ended is left told in
    (last.0, last.1, ap (λ (e : InputEnd LineStop). status_at e refused) is ∙ ap ends_as (tells (state_after L state (lines last.0 true)) last.2))

-- its end is one of a run whose card was opened, where memory isn't wanting in a line
pub of-opened : (end : InputEnd LineStop) (refused : Bool) → (end ≡ ends.Stopped stops.NoMemory → false ≡ true) → is_of_opened (status_at end refused) ≡ true
of-opened ends.Ended true memory = refl
of-opened ends.Ended false memory = refl
of-opened ends.ReadFault refused memory = refl
of-opened ends.TooLong refused memory = refl
of-opened (ends.Stopped stops.Eeprom) refused memory = refl
of-opened (ends.Stopped stops.Outlet) refused memory = refl
of-opened (ends.Stopped stops.Both) refused memory = refl
of-opened (ends.Stopped stops.NoMemory) refused memory = absurd (false≢true (memory refl))
