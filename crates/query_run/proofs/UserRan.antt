-- A run for a user: the database stays one at each of its moments, and what went before a part of it leaves what was printed and counted.
use Rattle.std.proofs.Common.{◌≡◌, ℕ, zero, suc, true, false, List, [], ◌∷◌, Option, Some, None, refl, sym, ◌∙◌, ap, subst, inl, inr}
use Rattle.std.specs.Prelude.{IsSome}
use Rattle.eeprom.specs.Chip.{Becomes, Chip, Still}
use Rattle.eeprom.specs.Fault.{Rose}
use Rattle.eeprom.specs.StoreOf.{store_of}
use Rattle.eeprom.proofs.Moments.{throughout-then, throughout-weaker}
use Rattle.scql_base.specs.declared.words.StatusWord.{StatusWord}
use Rattle.scql_model.specs.Database.{Database}
use Rattle.scql_model.specs.Heard.{after_commits, commits_of}
use Rattle.scql_model.specs.Lines.{line_step}
use Rattle.scql_model.specs.Machine.{Machine, start}
use Rattle.scql_model.specs.Opens.{Opens}
use Rattle.scql_model.specs.Step.{Answer}
use Rattle.card_link.specs.Link.{Holds, LeavesOpen}
use Rattle.program.specs.declared.status.Status.{Status}
use Rattle.program.specs.Ends.{AllFaults, EndsBy, RunsTo, reads_all}
use Rattle.program.proofs.Ended.{through}
use Rattle.record_store.specs.declared.refusal.OpenRefusal.{OpenRefusal}
use Rattle.record_store.specs.declared.refusal.OpenRefusal.TheVariants as refusals
use Rattle.record_store.specs.Recovery.{KeepsStore}
use Rattle.card.proofs.Starting.{opens-same}
use Rattle.card.specs.Opened.{IsOpenTo}
use Rattle.card_asking.specs.Presenting.{presented}
use Rattle.query_run.specs.QueryLines.{Asking, query_lines}
use Rattle.query_run.specs.Statuses.{program_status, status_of}
use Rattle.query_run.specs.UserRuns.{AnswersFor, AnswersUser, IsWithout, PrintsFor, RunsUser, StaysOpen, TellsRefusal}
use Rattle.query_run.specs.declared.status.QueryStatus.{QueryStatus}
use Rattle.query_run.specs.declared.status.QueryStatus.TheVariants.{TooLong}

-- no line commits anything
none-committed : (state : Asking) (lines : List (List ℕ)) → commits_of query_lines state lines ≡ []
none-committed state [] = refl
none-committed state (line ∷ lines) = none-committed (line_step query_lines state line) lines

none-after : (db : Database) (k : ℕ) → after_commits db [] k ≡ db
none-after db zero = refl
none-after db (suc k) = refl

-- while a user is presented the database is the one before
pub holds-open : {L : Type 0} (chip : L → Chip) (mark : ℕ) (db : Database) (old new : L) → LeavesOpen (Holds mark db) (chip old) (chip new) → StaysOpen db (chip old) (chip new)
holds-open chip mark db old new leaves = throughout-weaker (chip old) (chip new) _ _ leaves (λ g left opens. subst (Opens left) opens.2.1 opens.1)

-- and while lines are answered
pub lines-open : {X : Type 0} (chip : X → Chip) (eeprom : X → ℕ) (m : Machine) (status : Status) (start end : Option (List ℕ)) (old new : X) → IsSome (chip new).still.given → IsSome end
    → Becomes (λ input left. RunsTo chip eeprom query_lines (record { machine = m; refused = false }) status input left old new) start end → StaysOpen m.committed (chip old) (chip new)
lines-open chip eeprom m status start None old new given told runs = absurd cc
lines-open chip eeprom m status start (Some left) old new given told runs =
    let ran = (runs left refl).2.runs in
    throughout-weaker (chip old) (chip new) _ _ (ran.runs.moments given)
    (λ g image kept. subst (Opens image) (ap (λ (commits : List Database). after_commits m.committed commits kept.2.commits) (none-committed _ ran.taken) ∙ none-after m.committed kept.2.commits) kept.2.opens)

pub opens-then : (db : Database) (old mid new : Chip) → StaysOpen db old mid → StaysOpen db mid new → StaysOpen db old new
opens-then db old mid new first second = throughout-then old mid new _ first second

-- and while a card is opened
pub keeps-open : (image : List ℕ) (db : Database) (old new : Chip) → old.image ≡ Some image → Opens image db → KeepsStore old new → StaysOpen db old new
keeps-open image db old new told opens keeps = record {
  later = keeps.keeps.later;
  only = λ t g left since there. elim (keeps.keeps.only t g left since there) [
    | inl before ↦ inl before
    | inr at ↦ inr (same at.1 left at.2 at.3)
  ];
  stays = keeps.keeps.stays;
  now = λ left is. let at = keeps.keeps.image left is in same at.0 left at.1 at.2;
}
  where
    same : (was left : List ℕ) → old.image ≡ Some was → store_of left ≡ store_of was → Opens left db
    same was left is store = opens-same was left (sym store) db (subst (λ (was : List ℕ). Opens was db) (let one : image ≡ was = cc (told, is) in one) opens)

-- A run over what has a bench is one over the bench.
pub answers-through : {X Y T : Type 0} (bench : X → Y) (chip : Y → Chip) (eeprom : Y → ℕ) (answer : Answer) (status : Status) (source after : T) (start end : Option (List ℕ)) (old new : X)
    → AnswersFor (λ (x : X). chip (bench x)) (λ (x : X). eeprom (bench x)) answer status source after start end old new → AnswersFor chip eeprom answer status source after start end (bench old) (bench new)
answers-through bench chip eeprom answer status source after start end old new (inl mute) = inl mute
answers-through bench chip eeprom answer status source after start end old new (inr (inl refused)) = inr (inl refused)
answers-through bench chip eeprom answer status source after start end old new (inr (inr p)) = inr (inr (record {
  done = p.done;
  first = bench p.first;
  silent = p.silent;
  quiet = p.quiet;
  runs = λ left told. let ran = p.runs left told in (ran.0, ran.1, through p.first new bench chip eeprom query_lines (record { machine = answer.machine; refused = false }) status ran.0 left ran.2);
}))

-- A card was opened at the database, nothing was given or counted meanwhile, and the run on it ended so.
pub user-opened : {X Y T : Type 0} (bench : X → Y) (chip : Y → Chip) (eeprom : Y → ℕ) (left : T → Option (List ℕ)) (db : Database) (user : List ℕ) (status : Status) (source after : T) (old : Y) (opened new : X) (is : IsOpenTo (chip old) db)
    → (chip (bench opened)).still ≡ (chip old).still → eeprom (bench opened) ≡ eeprom old → KeepsStore (chip old) (chip (bench opened))
    → AnswersUser (λ (x : X). chip (bench x)) (λ (x : X). eeprom (bench x)) left (start db) user status source after opened new → RunsUser chip eeprom left db user status source after old (bench new)
user-opened bench chip eeprom left db user status source after old opened new is still quiet keeps ran = record {
  runs = inr (record { opened = bench opened; still = still; quiet = quiet; keeps = keeps; answers = answers-through bench chip eeprom (presented (start db) user) status source after (left source) (left after) opened new ran.runs });
  prints = λ whole.
      subst (λ (before : Option (List ℕ)). PrintsFor (presented (start db) user) status source after (left source) (left after) before (chip (bench new)).still.given) (ap (λ (still : Still). still.given) still) (ran.prints whole);
  stays = λ given end. opens-then db (chip old) (chip (bench opened)) (chip (bench new)) (keeps-open is.0 db (chip old) (chip (bench opened)) is.1 is.2 keeps) (ran.stays given end);
}

-- what was counted before it
pub ends-from : (status : Status) (now : AllFaults) (a b c d s : ℕ) → a ≡ c → b ≡ d → EndsBy status (record { eeprom = a; source = s; outlet = b }) now → EndsBy status (record { eeprom = c; source = s; outlet = d }) now
ends-from status now a b c d s same also ends = rw (sym same, sym also) ends

counts-same : (a b c d s : ℕ) → b ≡ a → d ≡ c → ◌≡◌ {A = AllFaults} (record { eeprom = b; source = s; outlet = d }) (record { eeprom = a; source = s; outlet = c })
counts-same a b c d s first second = cc

-- why a card isn't opened whose image opens to a database
pub without-of : (refusal : OpenRefusal) → (refusal ≡ refusals.NotACard → ⊥) → IsWithout (program_status (status_of refusal))
without-of refusals.NoMemory there = inl refl
without-of refusals.NotACard there = absurd (there refl)
without-of refusals.Fault there = inr refl

-- of its input nothing was read then, and no fault of the outlet was counted
pub unopened-short : (refusal : OpenRefusal) → reads_all (program_status (status_of refusal)) ≡ true → ⊥
unopened-short refusals.NoMemory whole = absurd cc
unopened-short refusals.NotACard whole = absurd cc
unopened-short refusals.Fault whole = absurd cc

pub unopened-few : (refusal : OpenRefusal) → status_of refusal ≡ TooLong → ⊥
unopened-few refusals.NoMemory long = absurd cc
unopened-few refusals.NotACard long = absurd cc
unopened-few refusals.Fault long = absurd cc

pub unopened-ends : (refusal : OpenRefusal) (a b c d s : ℕ) → (refusal ≡ refusals.Fault → Rose a b) → ((refusal ≡ refusals.Fault → ⊥) → b ≡ a) → d ≡ c
    → EndsBy (program_status (status_of refusal)) (record { eeprom = a; source = s; outlet = c }) (record { eeprom = b; source = s; outlet = d })
unopened-ends refusals.NoMemory a b c d s rose quiet same = counts-same a b c d s (quiet (λ is. absurd cc)) same
unopened-ends refusals.NotACard a b c d s rose quiet same = counts-same a b c d s (quiet (λ is. absurd cc)) same
unopened-ends refusals.Fault a b c d s rose quiet same = (rose refl, refl, same)

-- a refusal that is told isn't of an input that is too long
pub refused-few : (word : StatusWord) (status : QueryStatus) (before now : Option (List ℕ)) → TellsRefusal word (program_status status) before now → status ≡ TooLong → ⊥
refused-few word status before now tells long = subst (λ (status : QueryStatus). TellsRefusal word (program_status status) before now) long tells
