-- The table is filled, changed and read.
use Rattle.std.proofs.Common.{◌≡◌, [], ◌∷◌, arith, rules}
use Rattle.scql_model.specs.Lines.{state_after}
use Rattle.planner.specs.StatementLines.{TerminalState, statement_lines}
use Rattle.terminal.specs.Load.{change_line, delete_line, filling_lines, load_counts, load_script, select_line}
use Rattle.card_run.specs.Loading.{CarriesOut, IsIn, Loader, refused_in}
use Rattle.card_run.specs.Progress.{Reached}
use Rattle.card_run.specs.Watching.{IsWhole, PassesLoad}
use Rattle.card_run.proofs.LoadedLines.{carries-then, counts-are, fails-first, fails-then, on-err}
use Rattle.card_run.proofs.ShownLoads.{load-changed, load-deleted, load-rows}
use Rattle.card_run.proofs.loading.Loader.run_script.Given as given
use Rattle.card_run.proofs.loading.Loader.run_script.Goals as goal
use Rattle.card_run.proofs.loading.Loader.run_script.Goals.{After-set_changed as Changed, After-set_deleted as Deleted}

pub returns-in_err-fill-clause-ended : goal.returns-in_err-fill-clause-ended
returns-in_err-fill-clause-ended g c = record {
  carried = search rules;
  failed =
      (let old : Loader g.row.B.Denot = record { terminal = c.args.self.now.terminal; card = c.args.self.now.card; refused = c.args.self.now.refused } in
      let filled : Loader g.row.B.Denot = record { terminal = c.fill.new.self.terminal; card = c.fill.new.self.card; refused = c.fill.new.self.refused } in
      on-err c.from_residual.result (fails-first g.B.Eeprom.chip g.B.Eeprom.faults (filling_lines c.args.rows c.args.seed) (change_line ∷ delete_line ∷ select_line ∷ []) old filled c.in_err-fill.ensures.ended.failed));
}

pub returns-in_err-changed-clause-ended : goal.returns-in_err-changed-clause-ended
returns-in_err-changed-clause-ended g c = record {
  carried = search rules;
  failed =
      (let old : Loader g.row.B.Denot = record { terminal = c.args.self.now.terminal; card = c.args.self.now.card; refused = c.args.self.now.refused } in
      let filled : Loader g.row.B.Denot = record { terminal = c.fill.new.self.terminal; card = c.fill.new.self.card; refused = c.fill.new.self.refused } in
      let new : Loader g.row.B.Denot = record { terminal = c.carry_out.new.self.terminal; card = c.carry_out.new.self.card; refused = c.carry_out.new.self.refused } in
      on-err c.from_residual-in_err-changed.result
      (fails-then g.B.Eeprom.chip g.B.Eeprom.faults (filling_lines c.args.rows c.args.seed) (change_line ∷ delete_line ∷ select_line ∷ []) old filled new c.in_ok-fill.ensures.ended.carried (fails-first g.B.Eeprom.chip g.B.Eeprom.faults (change_line ∷ []) (delete_line ∷ select_line ∷ []) filled new c.in_err-changed.ensures.ended.failed)));
}

pub returns-in_err-deleted-clause-ended : goal.returns-in_err-deleted-clause-ended
returns-in_err-deleted-clause-ended g c = record {
  carried = search rules;
  failed =
      (let old : Loader g.row.B.Denot = record { terminal = c.args.self.now.terminal; card = c.args.self.now.card; refused = c.args.self.now.refused } in
      let filled : Loader g.row.B.Denot = record { terminal = c.fill.new.self.terminal; card = c.fill.new.self.card; refused = c.fill.new.self.refused } in
      let changed : Loader g.row.B.Denot = record { terminal = c.carry_out.new.self.terminal; card = c.carry_out.new.self.card; refused = c.carry_out.new.self.refused } in
      let new : Loader g.row.B.Denot = record { terminal = c.carry_out-2.new.self.terminal; card = c.carry_out-2.new.self.card; refused = c.carry_out-2.new.self.refused } in
      on-err c.from_residual-in_err-deleted.result
      (fails-then g.B.Eeprom.chip g.B.Eeprom.faults (filling_lines c.args.rows c.args.seed) (change_line ∷ delete_line ∷ select_line ∷ []) old filled new c.in_ok-fill.ensures.ended.carried
      (fails-then g.B.Eeprom.chip g.B.Eeprom.faults (change_line ∷ []) (delete_line ∷ select_line ∷ []) filled changed new c.in_ok-changed.ensures.ended.carried
      (fails-first g.B.Eeprom.chip g.B.Eeprom.faults (delete_line ∷ []) (select_line ∷ []) changed new c.in_err-deleted.ensures.ended.failed))));
}

pub returns-in_err-rows-clause-ended : goal.returns-in_err-rows-clause-ended
returns-in_err-rows-clause-ended g c = record {
  carried = search rules;
  failed =
      (let old : Loader g.row.B.Denot = record { terminal = c.args.self.now.terminal; card = c.args.self.now.card; refused = c.args.self.now.refused } in
      let filled : Loader g.row.B.Denot = record { terminal = c.fill.new.self.terminal; card = c.fill.new.self.card; refused = c.fill.new.self.refused } in
      let changed : Loader g.row.B.Denot = record { terminal = c.carry_out.new.self.terminal; card = c.carry_out.new.self.card; refused = c.carry_out.new.self.refused } in
      let deleted : Loader g.row.B.Denot = record { terminal = c.carry_out-2.new.self.terminal; card = c.carry_out-2.new.self.card; refused = c.carry_out-2.new.self.refused } in
      let new : Loader g.row.B.Denot = record { terminal = c.carry_out-3.new.self.terminal; card = c.carry_out-3.new.self.card; refused = c.carry_out-3.new.self.refused } in
      on-err c.from_residual-in_err-rows.result
      (fails-then g.B.Eeprom.chip g.B.Eeprom.faults (filling_lines c.args.rows c.args.seed) (change_line ∷ delete_line ∷ select_line ∷ []) old filled new c.in_ok-fill.ensures.ended.carried
      (fails-then g.B.Eeprom.chip g.B.Eeprom.faults (change_line ∷ []) (delete_line ∷ select_line ∷ []) filled changed new c.in_ok-changed.ensures.ended.carried
      (fails-then g.B.Eeprom.chip g.B.Eeprom.faults (delete_line ∷ []) (select_line ∷ []) changed deleted new c.in_ok-deleted.ensures.ended.carried c.in_err-rows.ensures.ended.failed))));
}

pub returns-clause-ended : goal.returns-clause-ended
returns-clause-ended g c = record {
  carried =
      (let old : Loader g.row.B.Denot = record { terminal = c.args.self.now.terminal; card = c.args.self.now.card; refused = c.args.self.now.refused } in
      let filled : Loader g.row.B.Denot = record { terminal = c.fill.new.self.terminal; card = c.fill.new.self.card; refused = c.fill.new.self.refused } in
      let changed : Loader g.row.B.Denot = record { terminal = c.carry_out.new.self.terminal; card = c.carry_out.new.self.card; refused = c.carry_out.new.self.refused } in
      let deleted : Loader g.row.B.Denot = record { terminal = c.carry_out-2.new.self.terminal; card = c.carry_out-2.new.self.card; refused = c.carry_out-2.new.self.refused } in
      let new : Loader g.row.B.Denot = record { terminal = c.carry_out-3.new.self.terminal; card = c.carry_out-3.new.self.card; refused = c.carry_out-3.new.self.refused } in
      carries-then g.B.Eeprom.chip g.B.Eeprom.faults (filling_lines c.args.rows c.args.seed) (change_line ∷ delete_line ∷ select_line ∷ []) old filled new c.in_ok-fill.ensures.ended.carried
      (carries-then g.B.Eeprom.chip g.B.Eeprom.faults (change_line ∷ []) (delete_line ∷ select_line ∷ []) filled changed new c.in_ok-changed.ensures.ended.carried
      (carries-then g.B.Eeprom.chip g.B.Eeprom.faults (delete_line ∷ []) (select_line ∷ []) changed deleted new c.in_ok-deleted.ensures.ended.carried c.in_ok-rows.ensures.ended.carried)));
  failed = tt;
}

pub returns-clause-counted : goal.returns-clause-counted
returns-clause-counted g c = λ state sits.
    let old : Loader g.row.B.Denot = record { terminal = c.args.self.now.terminal; card = c.args.self.now.card; refused = c.args.self.now.refused } in
    let filled : Loader g.row.B.Denot = record { terminal = c.fill.new.self.terminal; card = c.fill.new.self.card; refused = c.fill.new.self.refused } in
    let changed : Loader g.row.B.Denot = record { terminal = c.carry_out.new.self.terminal; card = c.carry_out.new.self.card; refused = c.carry_out.new.self.refused } in
    let deleted : Loader g.row.B.Denot = record { terminal = c.carry_out-2.new.self.terminal; card = c.carry_out-2.new.self.card; refused = c.carry_out-2.new.self.refused } in
    let new : Loader g.row.B.Denot = record { terminal = c.carry_out-3.new.self.terminal; card = c.carry_out-3.new.self.card; refused = c.carry_out-3.new.self.refused } in
    let all : CarriesOut g.B.Eeprom.chip g.B.Eeprom.faults (load_script c.args.rows c.args.seed) old new =
    carries-then g.B.Eeprom.chip g.B.Eeprom.faults (filling_lines c.args.rows c.args.seed) (change_line ∷ delete_line ∷ select_line ∷ []) old filled new c.in_ok-fill.ensures.ended.carried
    (carries-then g.B.Eeprom.chip g.B.Eeprom.faults (change_line ∷ []) (delete_line ∷ select_line ∷ []) filled changed new c.in_ok-changed.ensures.ended.carried
    (carries-then g.B.Eeprom.chip g.B.Eeprom.faults (delete_line ∷ []) (select_line ∷ []) changed deleted new c.in_ok-deleted.ensures.ended.carried c.in_ok-rows.ensures.ended.carried)) in
    let at_filled : TerminalState = state_after statement_lines state (filling_lines c.args.rows c.args.seed) in
    let at_changed : TerminalState = state_after statement_lines at_filled (change_line ∷ []) in
    let at_deleted : TerminalState = state_after statement_lines at_changed (delete_line ∷ []) in
    let in_filled = c.in_ok-fill.ensures.ended.carried.at state sits in
    let in_changed = c.in_ok-changed.ensures.ended.carried.at at_filled in_filled in
    let in_deleted = c.in_ok-deleted.ensures.ended.carried.at at_changed in_changed in
    let counted = all.refused state sits in
    let refused : c.carry_out-3.new.self.refused ≡ refused_in state (load_script c.args.rows c.args.seed) = omega (arith, counted, c.requires.few) in
    counts-are state c.args.rows c.args.seed c.in_ok-rows.rows c.in_ok-changed.changed c.in_ok-deleted.deleted c.carry_out-3.new.self.refused (c.in_ok-rows.ensures.number at_deleted in_deleted) (c.in_ok-changed.ensures.number at_filled in_filled)
    (c.in_ok-deleted.ensures.number at_changed in_changed) refused

-- What was shown.

pub returns-in_err-fill-clause-shows_until : goal.returns-in_err-fill-clause-shows_until
returns-in_err-fill-clause-shows_until g c =
    let until = c.in_err-fill.ensures.shows_until in
    on-err c.from_residual.result (load-rows g.P.Person.lost g.P.Person.shown c.args.rows c.args.seed until.0 _ c.fill.new.progress c.args.person.now c.fill.new.person until.1 until.2)

pub returns-in_err-changed-clause-shows_until : goal.returns-in_err-changed-clause-shows_until
returns-in_err-changed-clause-shows_until g c =
    on-err c.from_residual-in_err-changed.result (load-rows g.P.Person.lost g.P.Person.shown c.args.rows c.args.seed c.args.rows _ c.fill.new.progress c.args.person.now c.fill.new.person (omega arith) c.in_ok-fill.ensures.shows)

-- so many rows were changed as the load changes
changed-rows : (g : given.Over) (c : Changed g) (state : TerminalState) → IsIn g.B.Eeprom.chip state (record { terminal = c.args.self.now.terminal; card = c.args.self.now.card; refused = c.args.self.now.refused })
    → c.in_ok-changed.changed ≡ (load_counts state c.args.rows c.args.seed).changed
changed-rows g c state sits = c.in_ok-changed.ensures.number (state_after statement_lines state (filling_lines c.args.rows c.args.seed)) (c.in_ok-fill.ensures.ended.carried.at state sits)

pub returns-in_err-deleted-clause-shows_until : goal.returns-in_err-deleted-clause-shows_until
returns-in_err-deleted-clause-shows_until g c =
    let run : Changed g = (goal.at.returns-in_err-deleted-clause-shows_until g c).After-set_changed in
    on-err c.from_residual-in_err-deleted.result
    (load-changed g.P.Person.lost g.P.Person.shown c.args.rows c.args.seed c.in_ok-changed.changed _ c.fill.new.progress c.set_changed.new.self c.args.person.now c.fill.new.person c.set_changed.new.person c.in_ok-fill.ensures.shows
    c.set_changed.ensures.rows c.set_changed.ensures.shows (changed-rows g run))

-- and so many deleted
deleted-rows : (g : given.Over) (c : Deleted g) (state : TerminalState) → IsIn g.B.Eeprom.chip state (record { terminal = c.args.self.now.terminal; card = c.args.self.now.card; refused = c.args.self.now.refused })
    → c.in_ok-deleted.deleted ≡ (load_counts state c.args.rows c.args.seed).deleted
deleted-rows g c state sits =
    let filled : TerminalState = state_after statement_lines state (filling_lines c.args.rows c.args.seed) in
    c.in_ok-deleted.ensures.number (state_after statement_lines filled (change_line ∷ [])) (c.in_ok-changed.ensures.ended.carried.at filled (c.in_ok-fill.ensures.ended.carried.at state sits))

whole : (g : given.Over) (c : Deleted g)
    → (reached : Reached)
    × PassesLoad g.P.Person.lost g.P.Person.shown c.args.rows c.args.seed (λ state. IsIn g.B.Eeprom.chip state (record { terminal = c.args.self.now.terminal; card = c.args.self.now.card; refused = c.args.self.now.refused })) c.set_deleted.new.self c.args.person.now c.set_deleted.new.person reached
    × IsWhole c.args.rows reached
whole g c =
    load-deleted g.P.Person.lost g.P.Person.shown c.args.rows c.args.seed c.in_ok-changed.changed c.in_ok-deleted.deleted _ c.fill.new.progress c.set_changed.new.self c.set_deleted.new.self c.args.person.now c.fill.new.person c.set_changed.new.person
    c.set_deleted.new.person c.in_ok-fill.ensures.shows c.set_changed.ensures.rows c.set_changed.ensures.shows
    (λ state sits. c.in_ok-changed.ensures.number (state_after statement_lines state (filling_lines c.args.rows c.args.seed)) (c.in_ok-fill.ensures.ended.carried.at state sits)) c.set_deleted.ensures.rows c.set_deleted.ensures.shows (deleted-rows g c)

pub returns-in_err-rows-clause-shows_until : goal.returns-in_err-rows-clause-shows_until
returns-in_err-rows-clause-shows_until g c =
    let all = whole g (goal.at.returns-in_err-rows-clause-shows_until g c).After-set_deleted in
    on-err c.from_residual-in_err-rows.result (all.0, all.1)

pub returns-clause-shows : goal.returns-clause-shows
returns-clause-shows g c = whole g (goal.at.returns-clause-shows g c).After-set_deleted
