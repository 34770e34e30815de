-- Row after row.
use Rattle.std.proofs.Common.{◌+◌, ℕ, List, ap, sym, ◌∙◌, arith, refl, rules}
use Rattle.card.specs.LiveCardLaws.{opens-at}
use Rattle.eeprom.proofs.Leaves.{at-told}
use Rattle.scql_model.specs.Opens.{Opens}
use Rattle.terminal.specs.Load.{next_number}
use Rattle.card_run.specs.Loading.{Loader}
use Rattle.card_run.proofs.InsertedRows.{few-inserted, inserts-fail, inserts-next, number-next}
use Rattle.card_run.proofs.LoadedLines.{carries-none, on-err}
use Rattle.card_run.proofs.ShownRows.{passes-none, passes-row}
use Rattle.card_run.proofs.loading.Loader.insert_rows.Goals as goal

pub loop-row-init : goal.loop-row-init
loop-row-init g c =
    let loader : Loader g.row.B.Denot = record { terminal = c.args.self.now.terminal; card = c.args.self.now.card; refused = c.args.self.now.refused } in
    record {
      carried = carries-none g.B.Eeprom.chip g.B.Eeprom.faults loader c.requires.live
          (λ state sits image told. at-told (λ (image : List ℕ). Opens image state.machine.committed) (g.B.Eeprom.chip loader.card.bench).image image told (opens-at loader.card.card (g.B.Eeprom.chip loader.card.bench) state.machine sits.at));
      few = omega (arith, c.requires.few);
      value = refl;
      below = search rules;
      shows = passes-none g.P.Person.lost g.P.Person.shown c.args.seed _ c.args.progress.now c.args.person.now c.requires.unshown;
    }

pub loop-row-preserved : goal.loop-row-preserved
loop-row-preserved g c =
    let old : Loader g.row.B.Denot = record { terminal = c.args.self.now.terminal; card = c.args.self.now.card; refused = c.args.self.now.refused } in
    let mid : Loader g.row.B.Denot = record { terminal = c.loop-row.self.terminal; card = c.loop-row.self.card; refused = c.loop-row.self.refused } in
    let new : Loader g.row.B.Denot = record { terminal = c.carry_out.new.self.terminal; card = c.carry_out.new.self.card; refused = c.carry_out.new.self.refused } in
    let carried = inserts-next g.B.Eeprom.chip g.B.Eeprom.faults c.loop-row.row c.args.seed c.loop-row.value c.next_number-value.result _ old mid new (search rules) c.next_number-value.ensures.next c.loop-row.invariant.value c.loop-row.invariant.carried
    c.in_ok-carry_out.ensures.ended.carried in
    record {
      carried = carried;
      few = omega (arith, few-inserted g.B.Eeprom.chip g.B.Eeprom.faults (c.loop-row.row + 1) c.args.seed old new carried, c.requires.few);
      value = c.next_number-value.ensures.next ∙ (ap next_number c.loop-row.invariant.value ∙ sym (number-next c.loop-row.row c.args.seed));
      below = c.next_number-value.ensures.below;
      shows = passes-row g.P.Person.lost g.P.Person.shown g.B.Eeprom.chip g.B.Eeprom.faults c.loop-row.row c.args.seed c.next_number-value.result c.loop-row.value _ old mid new _ c.loop-row.progress c.pass_row.new.self c.args.person.now c.loop-row.person c.pass_row.new.person
          (search rules) c.next_number-value.ensures.next c.loop-row.invariant.value c.loop-row.invariant.carried c.in_ok-carry_out.ensures.ended.carried refl c.loop-row.invariant.shows c.pass_row.ensures.row c.pass_row.ensures.shows;
    }

pub returns-in_err-carry_out-clause-ended : goal.returns-in_err-carry_out-clause-ended
returns-in_err-carry_out-clause-ended g c = record {
  carried = search rules;
  failed =
      (let old : Loader g.row.B.Denot = record { terminal = c.args.self.now.terminal; card = c.args.self.now.card; refused = c.args.self.now.refused } in
      let mid : Loader g.row.B.Denot = record { terminal = c.loop-row.self.terminal; card = c.loop-row.self.card; refused = c.loop-row.self.refused } in
      let new : Loader g.row.B.Denot = record { terminal = c.carry_out.new.self.terminal; card = c.carry_out.new.self.card; refused = c.carry_out.new.self.refused } in
      on-err c.from_residual.result
      (inserts-fail g.B.Eeprom.chip g.B.Eeprom.faults c.args.rows c.loop-row.row c.args.seed c.loop-row.value c.next_number-value.result _ old mid new (search rules) (search rules) c.next_number-value.ensures.next c.loop-row.invariant.value
      c.loop-row.invariant.carried c.in_err-carry_out.ensures.ended.failed));
}

pub returns-in_err-carry_out-clause-shows_until : goal.returns-in_err-carry_out-clause-shows_until
returns-in_err-carry_out-clause-shows_until g c = on-err c.from_residual.result (c.loop-row.row, search rules, c.loop-row.invariant.shows)
