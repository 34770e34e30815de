-- What a run of `load` makes of a card, and says of it.
use Rattle.std.proofs.Common.{◌≡◌, ◌⊎◌, inl, inr, ℕ, ◌+◌, ◌≤◌, Bool, true, false, List, [], length, Option, refl, sym, ap, subst, ◌∙◌, arith, cond, append-nil}
use Rattle.std.specs.Prelude.{IsSome, IfSome}
use Rattle.eeprom.specs.Chip.{Chip, Still, Throughout, IsInPiece}
use Rattle.eeprom.proofs.Leaves.{at-told}
use Rattle.eeprom.proofs.Moments.{throughout-weaker, throughout-both}
use Rattle.record_store.specs.Recovery.{KeepsStore}
use Rattle.scql_model.specs.Database.{Database}
use Rattle.scql_model.specs.Lines.{state_after}
use Rattle.scql_model.specs.Machine.{start}
use Rattle.scql_model.specs.Opens.{Opens}
use Rattle.card.specs.LiveCardLaws.{opens-at}
use Rattle.planner.specs.StatementLines.{TerminalState, statement_lines}
use Rattle.terminal.specs.Holding.{terminal_at}
use Rattle.terminal.specs.Load.{counts_text, load_counts, load_script, load_text}
use Rattle.program.specs.declared.status.Status.{Status}
use Rattle.program.specs.declared.status.Status.TheVariants as status
use Rattle.line_run.specs.declared.line_stop.LineStop.TheVariants.{Eeprom, Outlet}
use Rattle.card_run.specs.declared.words.Form.TheVariants.{Load}
use Rattle.line_run.specs.Answering.{Failed}
use Rattle.card.specs.Opened.{IsOpenTo}
use Rattle.line_run.specs.CutOff.{IsCutShort}
use Rattle.program.specs.Numbers.{ends_as}
use Rattle.program.specs.Ends.{AllFaults, EndsBy}
use Rattle.card_run.specs.Ends.{ends_opened, ends_opening}
use Rattle.card_run.specs.Loading.{CarriesOut, FailsAmong, IsIn, IsInLines, IsLoaded, Loader, Loads, LoadsTo, script_effect, script_lines, script_refused}
use Rattle.line_run.specs.Moments.{IfGiven, IsInAnswered}
use Rattle.card_run.specs.Run.{AnswersAll, IsQuiet}
use Rattle.eeprom.specs.Output.{Prints}
use Rattle.card_run.proofs.Asking.{eeprom-rose, unopened}
use Rattle.card_run.proofs.LongerRows.{open-told}

-- The script was carried out, and its text went out, or the start of it.

loaded-moments : (k seed : ℕ) (state : TerminalState) (old mid new : Chip) → mid.still ≡ old.still → Throughout old mid (IsInLines state (load_script k seed) old.still.mark) → Throughout mid new (IsInPiece mid new.still.mark)
    → IfSome mid.image (λ image. Opens image (state_after statement_lines state (load_script k seed)).machine.committed) → new.still.mark ≤ mid.still.mark + length (counts_text (load_counts state k seed))
    → Throughout old new (IsInAnswered (script_lines k seed) state (script_effect k seed state) old.still.mark)
loaded-moments k seed state old mid new still script gives opens within =
    let same : mid.still.mark ≡ old.still.mark = ap (λ (s : Still). s.mark) still in
    throughout-both old mid new (IsInLines state (load_script k seed) old.still.mark) (IsInPiece mid new.still.mark) (IsInAnswered (script_lines k seed) state (script_effect k seed state) old.still.mark) script gives
    (λ g left during. record {
      line = record { later = omega (arith, during.0); opens = during.1 };
      within = omega (arith, during.0);
      done = λ past. absurd (omega (arith, past, during.0));
    })
    (λ g left during. record {
      line = record { later = omega (arith, same, during.0); opens = (script.now left during.2).1 };
      within = omega (arith, same, within, during.1);
      done = λ past. at-told (λ image. Opens image (state_after statement_lines state (load_script k seed)).machine.committed) mid.image left during.2 opens;
    })

after-script : {B : Type 0} (chip : B → Chip) (faults : B → ℕ) (k seed : ℕ) (state : TerminalState) (old mid : Loader B) → CarriesOut chip faults (load_script k seed) old mid → IsIn chip state old
    → IfSome (chip mid.card.bench).image (λ image. Opens image (state_after statement_lines state (load_script k seed)).machine.committed)
after-script chip faults k seed state old mid carried sits = opens-at mid.card.card (chip mid.card.bench) (state_after statement_lines state (load_script k seed)).machine (carried.at state sits).at

same-image : (db : Database) (mid new : Chip) → new.image ≡ mid.image → IfSome mid.image (λ image. Opens image db) → IfSome new.image (λ image. Opens image db)
same-image db mid new same opens = subst (λ (o : Option (List ℕ)). IfSome o (λ image. Opens image db)) (sym same) opens

pub loaded : {B : Type 0} (chip : B → Chip) (faults : B → ℕ) (k seed : ℕ) (state : TerminalState) (old mid : Loader B) (new : Chip) (text : List ℕ) → CarriesOut chip faults (load_script k seed) old mid → IsIn chip state old
    → text ≡ counts_text (load_counts state k seed) → Prints text (chip mid.card.bench).still.given new.still.given → new.image ≡ (chip mid.card.bench).image → Throughout (chip mid.card.bench) new (IsInPiece (chip mid.card.bench) new.still.mark)
    → IfGiven new (new.still.mark ≡ (chip mid.card.bench).still.mark + length text) → IsLoaded k seed state (chip old.card.bench) new
loaded chip faults k seed state old mid new text carried sits is prints image gives mark =
    let there = after-script chip faults k seed state old mid carried sits in
    let same : (chip mid.card.bench).still.mark ≡ (chip old.card.bench).still.mark = ap (λ (s : Still). s.mark) carried.passes.still in
    record {
      text = subst (λ (s : Still). Prints (counts_text (load_counts state k seed)) s.given new.still.given) carried.passes.still
          (subst (λ (text : List ℕ). Prints text (chip mid.card.bench).still.given new.still.given) is prints);
      image = same-image _ (chip mid.card.bench) new image there;
      moments = λ told.
          let rises = mark told in
          record {
            mark = omega (arith, rises, same, ap length is);
            moments = loaded-moments k seed state (chip old.card.bench) (chip mid.card.bench) new carried.passes.still (carried.passes.moments state sits) gives there (omega (arith, rises, ap length is));
          };
    }

pub cut-short : {B : Type 0} (chip : B → Chip) (faults : B → ℕ) (k seed : ℕ) (state : TerminalState) (old mid : Loader B) (new : Chip) (text : List ℕ) → CarriesOut chip faults (load_script k seed) old mid → IsIn chip state old
    → text ≡ counts_text (load_counts state k seed) → IsCutShort text (chip mid.card.bench).still.given new.still.given → new.image ≡ (chip mid.card.bench).image
    → Throughout (chip mid.card.bench) new (IsInPiece (chip mid.card.bench) new.still.mark) → IfGiven new (new.still.mark ≤ (chip mid.card.bench).still.mark + length text)
    → Failed Outlet (script_lines k seed) state (script_effect k seed state) (chip old.card.bench) new
cut-short chip faults k seed state old mid new text carried sits is cut image gives within =
    let there = after-script chip faults k seed state old mid carried sits in
    let same = same-image _ (chip mid.card.bench) new image there in
    record {
      fails = record {
        said = cut.said;
        says = (cut.start.0, sym is ∙ cut.start.1);
        given = subst (λ (s : Still). Prints cut.said s.given new.still.given) carried.passes.still cut.given;
        image = λ image told. at-told (λ image. Opens image (state_after statement_lines state (load_script k seed)).machine.committed) new.image image told same;
      };
      moments = λ told.
          let most = within told in
          loaded-moments k seed state (chip old.card.bench) (chip mid.card.bench) new carried.passes.still (carried.passes.moments state sits) gives there (omega (arith, most, ap length is));
    }

nothing-said : (before now : Option (List ℕ)) → now ≡ before → Prints [] before now
nothing-said before now same = λ after told. (after, sym same ∙ told, sym (append-nil after))

-- the EEPROM failed in it
pub script-failed : {B : Type 0} (chip : B → Chip) (faults : B → ℕ) (k seed : ℕ) (state : TerminalState) (old new : Loader B) → FailsAmong chip faults (load_script k seed) old new → IsIn chip state old
    → Failed Eeprom (script_lines k seed) state (script_effect k seed state) (chip old.card.bench) (chip new.card.bench)
script-failed chip faults k seed state old new fails sits =
    let moments = fails.passes.moments state sits in
    record {
      fails = record {
        said = [];
        says = inl refl;
        given = nothing-said (chip old.card.bench).still.given (chip new.card.bench).still.given (ap (λ (s : Still). s.given) fails.passes.still);
        image = λ image told. (moments.now image told).1;
      };
      moments = λ told. throughout-weaker (chip old.card.bench) (chip new.card.bench) _ _ moments (λ g left during. record { later = omega (arith, during.0); opens = during.1 });
    }

-- how it ends
pub loads-as : (k seed : ℕ) (state : TerminalState) (from to : ℕ) (old new : Chip) (refused : Bool) → IsLoaded k seed state old new → script_refused k seed state ≡ refused → LoadsTo k seed (cond refused status.Refused status.Done) state from to old new
loads-as k seed state from to old new true is was = (is, was)
loads-as k seed state from to old new false is was = (is, was)

pub ends-load : (k seed : ℕ) (refused : Bool) → ends_opened (Load k seed) (cond refused status.Refused status.Done) ≡ true
ends-load k seed true = refl
ends-load k seed false = refl

pub ends-quietly : (refused : Bool) (was now : AllFaults) → now ≡ was → EndsBy (cond refused status.Refused status.Done) was now
ends-quietly true was now same = same
ends-quietly false was now same = same

-- What a run of `load` owes.

loads-quiet : (k seed : ℕ) (end : Status) (state : TerminalState) (was now : AllFaults) (old new : Chip) → LoadsTo k seed end state was.eeprom now.eeprom old new → EndsBy end was now → IsQuiet was now
    → AnswersAll (ends_as (script_refused k seed state)) end (counts_text (load_counts state k seed)) old.still.given new.still.given
loads-quiet k seed status.Done state was now old new loads ends quiet = inl (sym (ap ends_as loads.1), loads.0.text)
loads-quiet k seed status.Refused state was now old new loads ends quiet = inl (sym (ap ends_as loads.1), loads.0.text)
loads-quiet k seed status.WriteFault state was now old new loads ends quiet = absurd (quiet.outlet ends.0)
loads-quiet k seed status.Eeprom state was now old new loads ends quiet = absurd (quiet.eeprom ends.0)
loads-quiet k seed end state was now old new loads ends quiet = absurd loads

-- whose card wasn't opened,
pub Loads-unopened : {S : Type 0} (k seed : ℕ) (end : Status) (source : S) (old new : Chip) (was now : AllFaults) → ends_opening end ≡ true → ((db : Database) → IsOpenTo old db → (end ≡ status.NoMemory) ⊎ (end ≡ status.Eeprom))
    → EndsBy end was now → KeepsStore old new → Loads k seed end source source old new was now
Loads-unopened k seed end source old new was now opening stopped ends keeps =
    let given : new.still.given ≡ old.still.given = ap (λ (s : Still). s.given) keeps.keeps.still in
    record {
      source = refl;
      begins = λ opened told. absurd (unopened end opening opened);
      text = λ db opens quiet. elim (stopped db opens) [
        | inl none ↦ inr (none, given)
        | inr failed ↦ absurd (quiet.eeprom (eeprom-rose end was now failed ends))
      ];
      runs = λ db opens. inl (record { opening = opening; source = refl; given = given; leaves = keeps });
    }

-- and whose card was
pub Loads-opened : {S : Type 0} (k seed : ℕ) (end : Status) (source : S) (old mid new : Chip) (was now : AllFaults) → KeepsStore old mid → (IsSome old.image → (db : Database) × IsOpenTo old db)
    → ((db : Database) → IsOpenTo old db → IsOpenTo mid db) → ((db : Database) → IsOpenTo old db → LoadsTo k seed end (terminal_at (start db) 0) was.eeprom now.eeprom mid new) → EndsBy end was now → Loads k seed end source source old new was now
Loads-opened k seed end source old mid new was now keeps begins stays loads ends = record {
  source = refl;
  begins = λ opened told. begins told;
  text = λ db opens quiet.
      subst (λ (s : Still). AnswersAll (ends_as (script_refused k seed (terminal_at (start db) 0))) end (load_text db k seed) s.given new.still.given) keeps.keeps.still
      (loads-quiet k seed end (terminal_at (start db) 0) was now mid new (loads db opens) ends quiet);
  runs = λ db opens. inr (record { opened = mid; until = keeps; opens = open-told mid db (stays db opens); loads = loads db opens });
}
