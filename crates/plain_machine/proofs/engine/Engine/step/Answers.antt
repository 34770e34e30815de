-- Octets are taken by the sessions, and then they are a refusal, a part that is kept, or a command.
use Rattle.std.proofs.Common.{rules, ap, sym, ◌∙◌}
use Rattle.scql_model.specs.Machine.{Machine}
use Rattle.plain_machine.proofs.TakenMachines.{Taking, done-whole, kept-step, limit-most, open-whole, refused-step, refused-whole, valid-next}
use Rattle.plain_machine.proofs.engine.Engine.step.Goals.{After-take}
use Rattle.plain_machine.proofs.engine.Engine.step.Goals as goal

-- the octets are taken
abbrev taking : (c : After-take) → Taking c.args.self.now c.args.octets.now
taking c = record {
  committed = c.self.inside.committed;
  working = c.self.inside.working;
  transaction = c.self.inside.transaction;
  sessions = c.self.inside.sessions;
  after = c.take.new.self;
  limit = c.limit-limit.result;
  seen = c.self.view_is;
  limited = c.limit-limit.ensures;
  most = limit-most c.self.inside.committed c.args.self.now (ap (λ (m : Machine). m.committed) c.self.view_is) c.requires;
  takes = c.take.ensures.sessions;
}

pub carry_out-requires : goal.carry_out-requires
carry_out-requires c =
    let taken = taking (goal.at.carry_out-requires c).After-take in
    record {
      formed = search rules;
      served = record {
        is_open = open-whole c.args.self.now c.args.octets.now taken c.take.new.command (c.take.ensures.whole c.in-Whole.is);
        valid = valid-next c.args.self.now c.args.octets.now taken c.requires;
      };
    }

pub returns-in-Refused : goal.returns-in-Refused
returns-in-Refused c =
    refused-step c.args.self.now c.args.octets.now (taking (goal.at.returns-in-Refused c).After-take) c.in-Refused.word c.say.new.reply (sym c.in-Refused.is ∙ c.take.ensures.taken) c.say.ensures

pub returns-in-Kept : goal.returns-in-Kept
returns-in-Kept c =
    kept-step c.args.self.now c.args.octets.now (taking (goal.at.returns-in-Kept c).After-take) c.named.result c.finish.new.reply c.finish.new.self
    (sym c.in-Kept.is ∙ c.take.ensures.taken) c.named.ensures c.finish.ensures.reply c.finish.ensures.machine

pub returns-in-Err : goal.returns-in-Err
returns-in-Err c =
    refused-whole c.args.self.now c.args.octets.now (taking (goal.at.returns-in-Err c).After-take) c.take.new.command (c.take.ensures.whole c.in-Whole.is)
    c.in-Err.word c.say-in-Err.new.reply c.carry_out.new.self c.in-Err.ensures.answered c.in-Err.ensures.same c.say-in-Err.ensures

pub returns-in_default : goal.returns-in_default
returns-in_default c =
    done-whole c.args.self.now c.args.octets.now (taking (goal.at.returns-in_default c).After-take) c.take.new.command (c.take.ensures.whole c.in-Whole.is) _ c.in_default.ensures.answered
