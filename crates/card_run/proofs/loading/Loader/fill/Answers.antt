-- The table is made, and filled.
use Rattle.std.proofs.Common.{ℕ, List, [], ◌∷◌, codes, arith, rules}
use Rattle.scql_model.specs.Lines.{line_step, state_after}
use Rattle.planner.specs.StatementLines.{TerminalState, statement_lines}
use Rattle.terminal.specs.Load.{filling_lines, insert_lines}
use Rattle.card_run.specs.Loading.{IsIn, Loader}
use Rattle.card_run.proofs.LoadedLines.{carries-then, fails-first, fails-then, on-err, on-err-then, on-ok-then}
use Rattle.card_run.proofs.ShownRows.{passes-from, passes-none}
use Rattle.card_run.proofs.loading.Loader.fill.Given as given
use Rattle.card_run.proofs.loading.Loader.fill.Goals as goal
use Rattle.card_run.proofs.loading.Loader.fill.Goals.{After-insert_rows as Inserted}

abbrev present : List ℕ
present = codes "PRESENT OWNER"

abbrev create : List ℕ
create = codes "CREATE TABLE LOAD (K, V)"

pub returns-in_err-carry_out-clause-ended : goal.returns-in_err-carry_out-clause-ended
returns-in_err-carry_out-clause-ended g c = record {
  carried = search rules;
  failed =
      (let old : Loader g.row.B.Denot = record { terminal = c.args.self.now.terminal; card = c.args.self.now.card; refused = c.args.self.now.refused } in
      let new : Loader g.row.B.Denot = record { terminal = c.carry_out.new.self.terminal; card = c.carry_out.new.self.card; refused = c.carry_out.new.self.refused } in
      on-err c.from_residual.result (fails-first g.B.Eeprom.chip g.B.Eeprom.faults (present ∷ []) (create ∷ insert_lines c.args.rows 1 c.args.seed) old new c.in_err-carry_out.ensures.ended.failed));
}

pub returns-in_err-carry_out-2-clause-ended : goal.returns-in_err-carry_out-2-clause-ended
returns-in_err-carry_out-2-clause-ended g c = record {
  carried = search rules;
  failed =
      (let old : Loader g.row.B.Denot = record { terminal = c.args.self.now.terminal; card = c.args.self.now.card; refused = c.args.self.now.refused } in
      let mid : Loader g.row.B.Denot = record { terminal = c.carry_out.new.self.terminal; card = c.carry_out.new.self.card; refused = c.carry_out.new.self.refused } in
      let new : Loader g.row.B.Denot = record { terminal = c.carry_out-2.new.self.terminal; card = c.carry_out-2.new.self.card; refused = c.carry_out-2.new.self.refused } in
      on-err c.from_residual-in_err-carry_out-2.result
      (fails-then g.B.Eeprom.chip g.B.Eeprom.faults (present ∷ []) (create ∷ insert_lines c.args.rows 1 c.args.seed) old mid new c.in_ok-carry_out.ensures.ended.carried
      (fails-first g.B.Eeprom.chip g.B.Eeprom.faults (create ∷ []) (insert_lines c.args.rows 1 c.args.seed) mid new c.in_err-carry_out-2.ensures.ended.failed)));
}

pub returns-clause-ended : goal.returns-clause-ended
returns-clause-ended g c = record {
  carried =
      (let old : Loader g.row.B.Denot = record { terminal = c.args.self.now.terminal; card = c.args.self.now.card; refused = c.args.self.now.refused } in
      let mid : Loader g.row.B.Denot = record { terminal = c.carry_out.new.self.terminal; card = c.carry_out.new.self.card; refused = c.carry_out.new.self.refused } in
      let made : Loader g.row.B.Denot = record { terminal = c.carry_out-2.new.self.terminal; card = c.carry_out-2.new.self.card; refused = c.carry_out-2.new.self.refused } in
      let new : Loader g.row.B.Denot = record { terminal = c.insert_rows.new.self.terminal; card = c.insert_rows.new.self.card; refused = c.insert_rows.new.self.refused } in
      on-ok-then c.insert_rows.result c.insert_rows.ensures.ended.carried
      (λ carried. carries-then g.B.Eeprom.chip g.B.Eeprom.faults (present ∷ []) (create ∷ insert_lines c.args.rows 1 c.args.seed) old mid new c.in_ok-carry_out.ensures.ended.carried
      (carries-then g.B.Eeprom.chip g.B.Eeprom.faults (create ∷ []) (insert_lines c.args.rows 1 c.args.seed) mid made new c.in_ok-carry_out-2.ensures.ended.carried carried)));
  failed =
      (let old : Loader g.row.B.Denot = record { terminal = c.args.self.now.terminal; card = c.args.self.now.card; refused = c.args.self.now.refused } in
      let mid : Loader g.row.B.Denot = record { terminal = c.carry_out.new.self.terminal; card = c.carry_out.new.self.card; refused = c.carry_out.new.self.refused } in
      let made : Loader g.row.B.Denot = record { terminal = c.carry_out-2.new.self.terminal; card = c.carry_out-2.new.self.card; refused = c.carry_out-2.new.self.refused } in
      let new : Loader g.row.B.Denot = record { terminal = c.insert_rows.new.self.terminal; card = c.insert_rows.new.self.card; refused = c.insert_rows.new.self.refused } in
      on-err-then c.insert_rows.result c.insert_rows.ensures.ended.failed
      (λ failed. fails-then g.B.Eeprom.chip g.B.Eeprom.faults (present ∷ []) (create ∷ insert_lines c.args.rows 1 c.args.seed) old mid new c.in_ok-carry_out.ensures.ended.carried
      (fails-then g.B.Eeprom.chip g.B.Eeprom.faults (create ∷ []) (insert_lines c.args.rows 1 c.args.seed) mid made new c.in_ok-carry_out-2.ensures.ended.carried failed)));
}

-- What was shown.

pub returns-in_err-carry_out-clause-shows_until : goal.returns-in_err-carry_out-clause-shows_until
returns-in_err-carry_out-clause-shows_until g c = on-err c.from_residual.result (0, omega arith, passes-none g.P.Person.lost g.P.Person.shown c.args.seed _ c.args.progress.now c.args.person.now c.requires.unshown)

pub returns-in_err-carry_out-2-clause-shows_until : goal.returns-in_err-carry_out-2-clause-shows_until
returns-in_err-carry_out-2-clause-shows_until g c = on-err c.from_residual-in_err-carry_out-2.result (0, omega arith, passes-none g.P.Person.lost g.P.Person.shown c.args.seed _ c.args.progress.now c.args.person.now c.requires.unshown)

-- the table was made before
made : (g : given.Over) (c : Inserted g) (state : TerminalState) → IsIn g.B.Eeprom.chip state (record { terminal = c.args.self.now.terminal; card = c.args.self.now.card; refused = c.args.self.now.refused })
    → IsIn g.B.Eeprom.chip (state_after statement_lines state (filling_lines 0 c.args.seed)) (record { terminal = c.carry_out-2.new.self.terminal; card = c.carry_out-2.new.self.card; refused = c.carry_out-2.new.self.refused })
made g c state sits = c.in_ok-carry_out-2.ensures.ended.carried.at (line_step statement_lines state present) (c.in_ok-carry_out.ensures.ended.carried.at state sits)

pub returns-clause-shows : goal.returns-clause-shows
returns-clause-shows g c =
    let run : Inserted g = (goal.at.returns-clause-shows g c).After-insert_rows in
    on-ok-then c.insert_rows.result c.insert_rows.ensures.shows
    (λ passes. passes-from g.P.Person.lost g.P.Person.shown c.args.seed c.args.rows _ _ c.insert_rows.new.progress c.args.person.now c.insert_rows.new.person (made g run) passes)

pub returns-clause-shows_until : goal.returns-clause-shows_until
returns-clause-shows_until g c =
    let run : Inserted g = (goal.at.returns-clause-shows_until g c).After-insert_rows in
    on-err-then c.insert_rows.result c.insert_rows.ensures.shows_until
    (λ passes. (passes.0, passes.1, passes-from g.P.Person.lost g.P.Person.shown c.args.seed passes.0 _ _ c.insert_rows.new.progress c.args.person.now c.insert_rows.new.person (made g run) passes.2))
