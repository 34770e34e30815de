-- What the terminal says of a line is told to the loader.
use Rattle.std.proofs.Common.{◌+◌, ℕ, Some, None, ap, arith}
use Rattle.card_run.specs.Loading.{Loader}
use Rattle.card_run.proofs.LoadedLines.{carries-line, passes-line}
use Rattle.card_run.proofs.loading.Loader.carry_out.Goals as goal

pub returns-in-Closed-clause-ended : goal.returns-in-Closed-clause-ended
returns-in-Closed-clause-ended g c = record {
  carried =
      (let old : Loader g.row.B.Denot = record { terminal = c.args.self.now.terminal; card = c.args.self.now.card; refused = c.args.self.now.refused } in
      let new : Loader g.row.B.Denot = record { terminal = c.quiet.new.self; card = c.quiet.new.link; refused = c.args.self.now.refused + c.refusals_in.result } in
      carries-line g.B.Eeprom.chip g.B.Eeprom.faults c.args.line.octets.now (Some c.in-Closed.closing) old new
      (passes-line g.B.Eeprom.chip c.args.line.octets.now old new c.quiet.ensures.leaves.goes_on c.quiet.ensures.leaves.keeps (λ m at knows. (c.quiet.ensures.ended m at knows).moments)) c.requires.live c.in-Closed.ensures.leaves.ends_by.live c.in-Closed.ensures.leaves.ends_by.faults_same
      (λ m at knows. let e = (c.in-Closed.ensures.ended m at knows).ends in (e.0, record { at = e.1.at; channel = e.1.channel; knows = e.1.knows }))
      (omega (arith, c.refusals_in.ensures.one)) (ap (λ (n : ℕ). c.args.self.now.refused + n) c.refusals_in.ensures.refused));
  failed = tt;
}

pub returns-in-Faulty-clause-ended : goal.returns-in-Faulty-clause-ended
returns-in-Faulty-clause-ended g c = record {
  carried =
      (let old : Loader g.row.B.Denot = record { terminal = c.args.self.now.terminal; card = c.args.self.now.card; refused = c.args.self.now.refused } in
      let new : Loader g.row.B.Denot = record { terminal = c.quiet.new.self; card = c.quiet.new.link; refused = c.args.self.now.refused } in
      carries-line g.B.Eeprom.chip g.B.Eeprom.faults c.args.line.octets.now None old new
      (passes-line g.B.Eeprom.chip c.args.line.octets.now old new c.quiet.ensures.leaves.goes_on c.quiet.ensures.leaves.keeps (λ m at knows. (c.quiet.ensures.ended m at knows).moments)) c.requires.live c.in-Faulty.ensures.leaves.ends_by.live c.in-Faulty.ensures.leaves.ends_by.faults_same
      (λ m at knows. let e = (c.in-Faulty.ensures.ended m at knows).ends in (e.0, record { at = e.1.at; channel = e.1.channel; knows = e.1.knows }))
      (omega arith) (omega arith));
  failed = tt;
}

pub returns-in-Mute-clause-ended : goal.returns-in-Mute-clause-ended
returns-in-Mute-clause-ended g c = record {
  carried = tt;
  failed =
      (let old : Loader g.row.B.Denot = record { terminal = c.args.self.now.terminal; card = c.args.self.now.card; refused = c.args.self.now.refused } in
      let new : Loader g.row.B.Denot = record { terminal = c.quiet.new.self; card = c.quiet.new.link; refused = c.args.self.now.refused } in
      record {
        passes = passes-line g.B.Eeprom.chip c.args.line.octets.now old new c.quiet.ensures.leaves.goes_on c.quiet.ensures.leaves.keeps (λ m at knows. (c.quiet.ensures.ended m at knows).moments);
        rose = c.in-Mute.ensures.leaves.ends_by.rose;
      });
}
