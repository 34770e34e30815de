-- A load over a card that was opened.
use Rattle.std.proofs.lemmas.Bool.{false≢true}
use Rattle.std.proofs.Common.{◌≡◌, true, ◌+◌, ◌≤◌, ℕ, nat_lt, List, length, ap, sym, subst, ◌∙◌, refl, arith, rules}
use Rattle.eeprom.specs.Chip.{Still, Throughout, IsInPiece}
use Rattle.eeprom.specs.Fault.{Rose}
use Rattle.scql_model.specs.Database.{Database}
use Rattle.scql_model.specs.Machine.{Machine, start}
use Rattle.card.specs.Behind.{KeepsBehind}
use Rattle.card.specs.Card.{IsAt}
use Rattle.card.specs.LiveCard.{IsReadyAt, OnBench}
use Rattle.planner.specs.StatementLines.{TerminalState}
use Rattle.terminal.specs.Holding.{terminal_at}
use Rattle.terminal.specs.Load.{LoadCounts, counts_text, load_counts}
use Rattle.program.specs.declared.status.Status.{Status}
use Rattle.line_run.specs.declared.line_stop.LineStop.TheVariants.{Eeprom, Outlet}
use Rattle.line_run.specs.Answering.{Failed}
use Rattle.line_run.specs.CutOff.{IsCutShort}
use Rattle.program.specs.declared.status.Status.TheVariants as status
use Rattle.program.specs.Ends.{AllFaults, EndsBy}
use Rattle.card_run.specs.Ends.{has_opened}
use Rattle.card_run.specs.Loading.{IsIn, IsLoaded, Loader, LoadsTo, script_effect, script_lines}
use Rattle.line_run.specs.Moments.{IfGiven}
use Rattle.card_run.specs.Progress.{Reached, ShowsLoad}
use Rattle.eeprom.specs.Output.{Prints}
use Rattle.eeprom.proofs.Moments.{gives-throughout}
use Rattle.card_run.specs.Watching.{IsWhole, PassesLoad}
use Rattle.card.specs.GivenMoments.{behind-on}
use Rattle.card_run.proofs.Finishing.{same_faults}
use Rattle.card_run.proofs.LoadedCards.{cut-short, ends-quietly, loaded, loads-as, script-failed}
use Rattle.card_run.proofs.ShownLoads.{shows-load}
use Rattle.card_run.proofs.Sittings.{sits-opened}
use Rattle.card_run.proofs.loading.run_load.Goals as goal
use Rattle.card_run.proofs.loading.run_load.Goals.{After-run_script-counted as Ran, After-end as Ended, After-give as Told}

-- The script was run.

-- the terminal and its card before it, and after it
abbrev first : (g : _) (c : Ran g) → Loader g.row.B.Denot
first g c = record { terminal = c.new.result; card = c.new-2.result; refused = 0 }

abbrev last : (g : _) (c : Ran g) → Loader g.row.B.Denot
last g c = record { terminal = c.run_script-counted.new.self.terminal; card = c.run_script-counted.new.self.card; refused = c.run_script-counted.new.self.refused }

-- it began over the bench that was handed in,
begins : (g : _) (c : Ran g) → (first g c).card.bench ≡ c.args.bench.now
begins g c = ap (λ (l : OnBench g.row.B.Denot). l.bench) c.new-2.ensures

-- from the start of the card's database
sits : (g : _) (c : Ran g) (db : Database) → IsAt c.args.card (g.B.Eeprom.chip c.args.bench.now) (start db) → IsIn g.B.Eeprom.chip (terminal_at (start db) 0) (first g c)
sits g c db at =
    (sits-opened (λ (l : OnBench g.row.B.Denot) (m : Machine). IsReadyAt l.card (g.B.Eeprom.chip l.bench) m) c.new.result c.new-2.result db c.new.ensures (rw (c.new-2.ensures) (record { ready = c.requires; at = at }))).sits

-- and where it gave nothing the outlet's count of faults stayed
outlet_stays : (g : _) (c : Ran g) → (g.B.Eeprom.chip (last g c).card.bench).still ≡ (g.B.Eeprom.chip (first g c).card.bench).still → g.B.Outlet.sink_faults (last g c).card.bench ≡ g.B.Outlet.sink_faults c.args.bench.now
outlet_stays g c still =
    sym (g.met.B.Bench.output (last g c).card.bench).1 ∙ (ap (λ (s : Still). s.sink_faults) still ∙ ((g.met.B.Bench.output (first g c).card.bench).1 ∙ ap g.B.Outlet.sink_faults (begins g c)))

-- what lay behind the card's image stayed
behind : (g : _) (c : Ran g) → KeepsBehind (λ (was : List ℕ). (first g c).card.card.store.chains.cells) (g.B.Eeprom.chip (first g c).card.bench) (g.B.Eeprom.chip (last g c).card.bench)
    → KeepsBehind (λ (was : List ℕ). c.args.card.store.chains.cells) (g.B.Eeprom.chip c.args.bench.now) (g.B.Eeprom.chip (last g c).card.bench)
behind g c keeps = subst (λ (l : OnBench g.row.B.Denot). KeepsBehind (λ (was : List ℕ). l.card.store.chains.cells) (g.B.Eeprom.chip l.bench) (g.B.Eeprom.chip (last g c).card.bench)) c.new-2.ensures keeps

-- Then its text went out, or the start of it.

-- that is the text of what was counted,
said : (g : _) (c : Told g) (state : TerminalState) → IsIn g.B.Eeprom.chip state (record { terminal = c.new.result; card = c.new-2.result; refused = 0 }) → c.deref.result.now ≡ counts_text (load_counts state c.args.rows c.args.seed)
said g c state at =
    let text : c.deref.result.now ≡ c.text_of.result.items = search rules in
    text ∙ (c.text_of.ensures ∙ ap (λ (x : LoadCounts). counts_text x) (c.in-Ok.ensures.counted state at))

-- the image stayed meanwhile,
image_stays : (g : _) (c : Told g) → (g.B.Eeprom.chip c.give.new.bench).image ≡ (g.B.Eeprom.chip c.run_script-counted.new.self.card.bench).image
image_stays g c = subst (λ (b : g.row.B.Denot). (g.B.Eeprom.chip c.give.new.bench).image ≡ (g.B.Eeprom.chip b).image) c.into_bench-bench.ensures.bench c.give.ensures.image

pieces : (g : _) (c : Told g) → Throughout (g.B.Eeprom.chip c.run_script-counted.new.self.card.bench) (g.B.Eeprom.chip c.give.new.bench) (IsInPiece (g.B.Eeprom.chip c.run_script-counted.new.self.card.bench) (g.B.Eeprom.chip c.give.new.bench).still.mark)
pieces g c =
    subst (λ (b : g.row.B.Denot). Throughout (g.B.Eeprom.chip b) (g.B.Eeprom.chip c.give.new.bench) (IsInPiece (g.B.Eeprom.chip b) (g.B.Eeprom.chip c.give.new.bench).still.mark)) c.into_bench-bench.ensures.bench
    (gives-throughout (g.B.Eeprom.chip c.into_bench-bench.result.now) (g.B.Eeprom.chip c.give.new.bench) (g.met.B.Eeprom.clocked c.into_bench-bench.result.now) c.give.ensures.gives)

-- and so did the EEPROM's count of faults, and what lay behind the image
eeprom_stays : (g : _) (c : Told g) → g.B.Eeprom.faults c.run_script-counted.new.self.card.bench ≡ g.B.Eeprom.faults c.args.bench.now → g.B.Eeprom.faults c.give.new.bench ≡ g.B.Eeprom.faults c.args.bench.now
eeprom_stays g c script = c.give.ensures.faults ∙ (ap g.B.Eeprom.faults c.into_bench-bench.ensures.bench ∙ script)

behind_text : (g : _) (c : Told g) → KeepsBehind (λ (was : List ℕ). c.args.card.store.chains.cells) (g.B.Eeprom.chip c.args.bench.now) (g.B.Eeprom.chip c.run_script-counted.new.self.card.bench)
    → KeepsBehind (λ (was : List ℕ). c.args.card.store.chains.cells) (g.B.Eeprom.chip c.args.bench.now) (g.B.Eeprom.chip c.give.new.bench)
behind_text g c script =
    behind-on c.args.card.store.chains.cells c.args.card.store.chains.cells (g.B.Eeprom.chip c.args.bench.now) (g.B.Eeprom.chip c.run_script-counted.new.self.card.bench) (g.B.Eeprom.chip c.give.new.bench) refl script
    (subst (λ (b : g.row.B.Denot). KeepsBehind (λ (was : List ℕ). c.args.card.store.chains.cells) (g.B.Eeprom.chip b) (g.B.Eeprom.chip c.give.new.bench)) c.into_bench-bench.ensures.bench (c.give.ensures.behind (λ (was : List ℕ). c.args.card.store.chains.cells)))

-- The EEPROM failed in the script.

pub returns-in_default-clause-loads : goal.returns-in_default-clause-loads
returns-in_default-clause-loads g c = λ db at.
    let run : Ran g = (goal.at.returns-in_default-clause-loads g c).After-run_script-counted in
    let state : TerminalState = terminal_at (start db) 0 in
    subst (λ (bench : g.row.B.Denot). Failed Eeprom (script_lines c.args.rows c.args.seed) state (script_effect c.args.rows c.args.seed state) (g.B.Eeprom.chip c.args.bench.now) (g.B.Eeprom.chip bench)) (search rules)
    (subst (λ (b : g.row.B.Denot). Failed Eeprom (script_lines c.args.rows c.args.seed) state (script_effect c.args.rows c.args.seed state) (g.B.Eeprom.chip b) (g.B.Eeprom.chip (last g run).card.bench)) (begins g run)
    (script-failed g.B.Eeprom.chip g.B.Eeprom.faults c.args.rows c.args.seed state (first g run) (last g run) c.in_default.ensures.ended.failed (sits g run db at)))

pub returns-in_default-clause-ended : goal.returns-in_default-clause-ended
returns-in_default-clause-ended g c = record {
  status = search rules;
  ends = λ source.
      (let run : Ran g = (goal.at.returns-in_default-clause-ended g c).After-run_script-counted in
      let failed = c.in_default.ensures.ended.failed in
      subst (λ (bench : g.row.B.Denot). Rose (g.B.Eeprom.faults c.args.bench.now) (g.B.Eeprom.faults bench) × (source ≡ source) × (g.B.Outlet.sink_faults bench ≡ g.B.Outlet.sink_faults c.args.bench.now)) (search rules)
      ((subst (λ (b : g.row.B.Denot). Rose (g.B.Eeprom.faults b) (g.B.Eeprom.faults (last g run).card.bench)) (begins g run) failed.rose, refl, outlet_stays g run failed.passes.still)));
}

pub returns-in_default-clause-behind : goal.returns-in_default-clause-behind
returns-in_default-clause-behind g c =
    let run : Ran g = (goal.at.returns-in_default-clause-behind g c).After-run_script-counted in
    subst (λ (bench : g.row.B.Denot). KeepsBehind (λ (was : List ℕ). c.args.card.store.chains.cells) (g.B.Eeprom.chip c.args.bench.now) (g.B.Eeprom.chip bench)) (search rules) (behind g run c.in_default.ensures.ended.failed.passes.lasts.lasts.behind)

-- It was carried out, and its text given.

pub returns-in-Ok-give-clause-loads : goal.returns-in-Ok-give-clause-loads
returns-in-Ok-give-clause-loads g c = λ db at.
    let run : Ran g = (goal.at.returns-in-Ok-give-clause-loads g c).After-run_script-counted in
    let told : Told g = (goal.at.returns-in-Ok-give-clause-loads g c).After-give in
    let state : TerminalState = terminal_at (start db) 0 in
    let here = c.into_bench-bench.ensures.bench in
    let there = sits g run db at in
    let is = loaded g.B.Eeprom.chip g.B.Eeprom.faults c.args.rows c.args.seed state (first g run) (last g run) (g.B.Eeprom.chip c.give.new.bench) c.deref.result.now c.in-Ok.ensures.ended.carried there (said g told state there)
    (subst (λ (b : g.row.B.Denot). Prints c.deref.result.now (g.B.Eeprom.chip b).still.given (g.B.Eeprom.chip c.give.new.bench).still.given) here c.in-Ok-give.ensures.text)
    (image_stays g told) (pieces g told)
    (subst (λ (b : g.row.B.Denot). IfGiven (g.B.Eeprom.chip c.give.new.bench) ((g.B.Eeprom.chip c.give.new.bench).still.mark ≡ (g.B.Eeprom.chip b).still.mark + length c.deref.result.now)) here c.in-Ok-give.ensures.mark) in
    subst (λ (bench : g.row.B.Denot). LoadsTo c.args.rows c.args.seed c.status_of.result state (g.B.Eeprom.faults c.args.bench.now) (g.B.Eeprom.faults bench) (g.B.Eeprom.chip c.args.bench.now) (g.B.Eeprom.chip bench)) (search rules)
    (subst (λ (end : Status). LoadsTo c.args.rows c.args.seed end state (g.B.Eeprom.faults c.args.bench.now) (g.B.Eeprom.faults c.give.new.bench) (g.B.Eeprom.chip c.args.bench.now) (g.B.Eeprom.chip c.give.new.bench)) (sym c.status_of.ensures)
    (loads-as c.args.rows c.args.seed state (g.B.Eeprom.faults c.args.bench.now) (g.B.Eeprom.faults c.give.new.bench) (g.B.Eeprom.chip c.args.bench.now) (g.B.Eeprom.chip c.give.new.bench) (nat_lt 0 c.in-Ok.counts.refused)
    (subst (λ (b : g.row.B.Denot). IsLoaded c.args.rows c.args.seed state (g.B.Eeprom.chip b) (g.B.Eeprom.chip c.give.new.bench)) (begins g run) is) (ap (λ (x : LoadCounts). nat_lt 0 x.refused) (sym (c.in-Ok.ensures.counted state there)))))

pub returns-in-Ok-give-clause-ended : goal.returns-in-Ok-give-clause-ended
returns-in-Ok-give-clause-ended g c = record {
  status = search rules;
  ends = λ source.
      (let run : Ran g = (goal.at.returns-in-Ok-give-clause-ended g c).After-run_script-counted in
      let told : Told g = (goal.at.returns-in-Ok-give-clause-ended g c).After-give in
      let carried = c.in-Ok.ensures.ended.carried in
      let eeprom = eeprom_stays g told (carried.faults_same ∙ ap g.B.Eeprom.faults (begins g run)) in
      let outlet : g.B.Outlet.sink_faults c.give.new.bench ≡ g.B.Outlet.sink_faults c.args.bench.now = c.in-Ok-give.ensures.counts.1 ∙ (ap g.B.Outlet.sink_faults c.into_bench-bench.ensures.bench ∙ outlet_stays g run carried.passes.still) in
      let was : AllFaults = record { eeprom = g.B.Eeprom.faults c.args.bench.now; source = source; outlet = g.B.Outlet.sink_faults c.args.bench.now } in
      let now : AllFaults = record { eeprom = g.B.Eeprom.faults c.give.new.bench; source = source; outlet = g.B.Outlet.sink_faults c.give.new.bench } in
      subst (λ (bench : g.row.B.Denot). EndsBy c.status_of.result was (record { eeprom = g.B.Eeprom.faults bench; source = source; outlet = g.B.Outlet.sink_faults bench })) (search rules)
      (subst (λ (end : Status). EndsBy end was now) (sym c.status_of.ensures)
      (ends-quietly (nat_lt 0 c.in-Ok.counts.refused) was now (same_faults (g.B.Eeprom.faults c.give.new.bench) (g.B.Eeprom.faults c.args.bench.now) source (g.B.Outlet.sink_faults c.give.new.bench) (g.B.Outlet.sink_faults c.args.bench.now) eeprom outlet))));
}

pub returns-in-Ok-give-clause-behind : goal.returns-in-Ok-give-clause-behind
returns-in-Ok-give-clause-behind g c =
    let run : Ran g = (goal.at.returns-in-Ok-give-clause-behind g c).After-run_script-counted in
    let told : Told g = (goal.at.returns-in-Ok-give-clause-behind g c).After-give in
    subst (λ (bench : g.row.B.Denot). KeepsBehind (λ (was : List ℕ). c.args.card.store.chains.cells) (g.B.Eeprom.chip c.args.bench.now) (g.B.Eeprom.chip bench)) (search rules) (behind_text g told (behind g run c.in-Ok.ensures.ended.carried.passes.lasts.lasts.behind))

-- It was carried out, and the outlet failed.

pub returns-in-Err-clause-loads : goal.returns-in-Err-clause-loads
returns-in-Err-clause-loads g c = λ db at.
    let run : Ran g = (goal.at.returns-in-Err-clause-loads g c).After-run_script-counted in
    let told : Told g = (goal.at.returns-in-Err-clause-loads g c).After-give in
    let state : TerminalState = terminal_at (start db) 0 in
    let here = c.into_bench-bench.ensures.bench in
    let there = sits g run db at in
    let is = cut-short g.B.Eeprom.chip g.B.Eeprom.faults c.args.rows c.args.seed state (first g run) (last g run) (g.B.Eeprom.chip c.give.new.bench) c.deref.result.now c.in-Ok.ensures.ended.carried there (said g told state there)
    (subst (λ (b : g.row.B.Denot). IsCutShort c.deref.result.now (g.B.Eeprom.chip b).still.given (g.B.Eeprom.chip c.give.new.bench).still.given) here c.in-Err.ensures.fails)
    (image_stays g told) (pieces g told)
    (subst (λ (b : g.row.B.Denot). IfGiven (g.B.Eeprom.chip c.give.new.bench) ((g.B.Eeprom.chip c.give.new.bench).still.mark ≤ (g.B.Eeprom.chip b).still.mark + length c.deref.result.now)) here c.give.ensures.within) in
    let eeprom = eeprom_stays g told (c.in-Ok.ensures.ended.carried.faults_same ∙ ap g.B.Eeprom.faults (begins g run)) in
    subst (λ (bench : g.row.B.Denot). Failed Outlet (script_lines c.args.rows c.args.seed) state (script_effect c.args.rows c.args.seed state) (g.B.Eeprom.chip c.args.bench.now) (g.B.Eeprom.chip bench) × (g.B.Eeprom.faults bench ≡ g.B.Eeprom.faults c.args.bench.now)) (search rules)
    ((subst (λ (b : g.row.B.Denot). Failed Outlet (script_lines c.args.rows c.args.seed) state (script_effect c.args.rows c.args.seed state) (g.B.Eeprom.chip b) (g.B.Eeprom.chip c.give.new.bench)) (begins g run) is, eeprom))

pub returns-in-Err-clause-ended : goal.returns-in-Err-clause-ended
returns-in-Err-clause-ended g c = record {
  status = search rules;
  ends = λ source.
      (let run : Ran g = (goal.at.returns-in-Err-clause-ended g c).After-run_script-counted in
      let told : Told g = (goal.at.returns-in-Err-clause-ended g c).After-give in
      let carried = c.in-Ok.ensures.ended.carried in
      let eeprom = eeprom_stays g told (carried.faults_same ∙ ap g.B.Eeprom.faults (begins g run)) in
      let outlet : g.B.Outlet.sink_faults c.into_bench-bench.result.now ≡ g.B.Outlet.sink_faults c.args.bench.now = ap g.B.Outlet.sink_faults c.into_bench-bench.ensures.bench ∙ outlet_stays g run carried.passes.still in
      subst (λ (bench : g.row.B.Denot). Rose (g.B.Outlet.sink_faults c.args.bench.now) (g.B.Outlet.sink_faults bench) × (source ≡ source) × (g.B.Eeprom.faults c.args.bench.now ≤ g.B.Eeprom.faults bench)) (search rules)
      ((subst (λ (n : ℕ). Rose n (g.B.Outlet.sink_faults c.give.new.bench)) outlet c.in-Err.ensures.counts.1, refl, omega (arith, eeprom))));
}

pub returns-in-Err-clause-behind : goal.returns-in-Err-clause-behind
returns-in-Err-clause-behind g c =
    let run : Ran g = (goal.at.returns-in-Err-clause-behind g c).After-run_script-counted in
    let told : Told g = (goal.at.returns-in-Err-clause-behind g c).After-give in
    subst (λ (bench : g.row.B.Denot). KeepsBehind (λ (was : List ℕ). c.args.card.store.chains.cells) (g.B.Eeprom.chip c.args.bench.now) (g.B.Eeprom.chip bench)) (search rules) (behind_text g told (behind g run c.in-Ok.ensures.ended.carried.passes.lasts.lasts.behind))

-- What was shown.

ended : (g : _) (c : Ended g) (reached : Reached) (status : Status) → PassesLoad g.P.Person.lost g.P.Person.shown c.args.rows c.args.seed (λ state. IsIn g.B.Eeprom.chip state (record { terminal = c.new.result; card = c.new-2.result; refused = 0 })) c.run_script-counted.new.progress c.args.person.now c.run_script-counted.new.person reached
    → ((db : Database) → IsAt c.args.card (g.B.Eeprom.chip c.args.bench.now) (start db) → IsIn g.B.Eeprom.chip (terminal_at (start db) 0) (record { terminal = c.new.result; card = c.new-2.result; refused = 0 })) → (has_opened status ≡ true → IsWhole c.args.rows reached) → ShowsLoad g.P.Person.lost g.P.Person.shown c.args.rows c.args.seed status (λ db. IsAt c.args.card (g.B.Eeprom.chip c.args.bench.now) (start db)) c.args.person.now c.end.new.person
ended g c reached status passes starts whole =
    shows-load g.P.Person.lost g.P.Person.shown c.args.rows c.args.seed status (λ state. IsIn g.B.Eeprom.chip state (record { terminal = c.new.result; card = c.new-2.result; refused = 0 })) (λ db. IsAt c.args.card (g.B.Eeprom.chip c.args.bench.now) (start db))
    c.run_script-counted.new.progress c.args.person.now c.run_script-counted.new.person c.end.new.person reached passes c.end.ensures starts whole

pub returns-in_default-clause-shows : goal.returns-in_default-clause-shows
returns-in_default-clause-shows g c =
    let until = c.in_default.ensures.shows_until in
    ended g (goal.at.returns-in_default-clause-shows g c).After-end until.0 status.Eeprom until.1 (sits g (goal.at.returns-in_default-clause-shows g c).After-run_script-counted) (λ opened. absurd (false≢true opened))

pub returns-in-Ok-give-clause-shows : goal.returns-in-Ok-give-clause-shows
returns-in-Ok-give-clause-shows g c =
    let all = c.in-Ok.ensures.shows in
    ended g (goal.at.returns-in-Ok-give-clause-shows g c).After-end all.0 c.status_of.result all.1 (sits g (goal.at.returns-in-Ok-give-clause-shows g c).After-run_script-counted) (λ opened. all.2)

pub returns-in-Err-clause-shows : goal.returns-in-Err-clause-shows
returns-in-Err-clause-shows g c =
    let all = c.in-Ok.ensures.shows in
    ended g (goal.at.returns-in-Err-clause-shows g c).After-end all.0 status.WriteFault all.1 (sits g (goal.at.returns-in-Err-clause-shows g c).After-run_script-counted) (λ opened. all.2)
