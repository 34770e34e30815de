use Rattle.std.proofs.Common.{ap, rules}
use Rattle.line_bench.proofs.Told.{writes-entered, writes-wanting}
use Rattle.line_bench.proofs.line_bench.LineBenchEeprom.write.Goals as goal

pub returns-in-Ok : goal.returns-in-Ok
returns-in-Ok c = record {
  entered = search rules;
  writes = record {
    written = search rules;
    writes = writes-entered c.args.self.now _ c.args.at c.args.from.now c.requires c.in-Ok.ensures.entered.done (ap (λ v. v.items) c.in-Ok.ensures.entered.text) c.in-Ok.ensures.faults.texts;
    read = search rules;
    cause = search rules;
  };
}

pub returns-in-Err : goal.returns-in-Err
returns-in-Err c = record {
  entered = search rules;
  writes = record {
    written = search rules;
    writes = writes-wanting c.args.self.now _ c.args.at c.args.from.now c.requires c.in-Err.ensures.entered.wanting (ap (λ v. v.items) c.in-Err.ensures.entered.text) c.in-Err.ensures.faults.texts;
    read = search rules;
    cause = search rules;
  };
}
