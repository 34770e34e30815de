-- A user is deleted by a change, and then its sessions are left.
use Rattle.std.proofs.Common.{rules, ℕ, ◌∙◌, [], Option, Ok, refl, sym, ap, subst}
use Rattle.scql_base.specs.declared.operation.Operation.{Operation}
use Rattle.scql_base.specs.declared.operation.Operation.TheVariants.{DeleteUser}
use Rattle.scql_model.specs.Bound.{octets_changed, or_nothing}
use Rattle.scql_model.specs.Machine.{Machine}
use Rattle.scql_model.specs.Step.{answered, changed}
use Rattle.card.specs.Answering.{Performs}
use Rattle.card.specs.Card.{IsAt}
use Rattle.card.proofs.DeletedSessions.{Performs-deleted, left_after}
use Rattle.card.proofs.ReadingCard.{Performs-err, err-on}
use Rattle.card.proofs.Sides.{StandsOver-sessions}
use Rattle.card.proofs.Transacting.{none-of}
use Rattle.card.proofs.engine.Engine.delete_user.Goals.{After-change}
use Rattle.card.proofs.engine.Engine.delete_user.Goals as goal

-- what the change does
does : (g : _) (c : After-change g) (m : Machine) → IsAt c.args.self.now (g.B.Eeprom.chip c.args.bench.now) m
    → Performs m (answered m (changed m c.args.command.now.channel (DeleteUser c.args.name))) (or_nothing (octets_changed m c.args.command.now.channel c.args.command.now.operation)) [] c.change.result c.change.new.self (g.B.Eeprom.chip c.args.bench.now) (g.B.Eeprom.chip c.change.new.bench)
does g c m from =
    subst (λ (operation : Operation). Performs m (answered m (changed m c.args.command.now.channel operation)) (or_nothing (octets_changed m c.args.command.now.channel c.args.command.now.operation)) [] c.change.result c.change.new.self (g.B.Eeprom.chip c.args.bench.now) (g.B.Eeprom.chip c.change.new.bench))
    c.requires.deletes (c.change.ensures.carries.performs m from)

pub returns-in_err-word : goal.returns-in_err-word
returns-in_err-word g c = record {
  performs = λ m from.
      let w = (goal.at.returns-in_err-word g c).After-change in
      let by = Performs-deleted m c.args.command.now.channel c.args.name (none-of m.transaction c.args.self.now.transaction from.held.transaction c.requires.closed) (or_nothing (octets_changed m c.args.command.now.channel c.args.command.now.operation)) c.change.result c.change.new.self c.change.new.self (g.B.Eeprom.chip c.args.bench.now)
      (g.B.Eeprom.chip c.change.new.bench) (does g w m from) (rw c.in_err-word.was tt) in
      Performs-err _ c.from_residual.ensures.1 by.moments;
  ready = err-on _ _ c.from_residual.result c.from_residual.ensures.1;
  cause = search rules;
  cells = err-on _ _ c.from_residual.result c.from_residual.ensures.1;
  behind = search rules;
}

pub returns-in-Some : goal.returns-in-Some
returns-in-Some g c = record {
  performs = λ m from.
      let w = (goal.at.returns-in-Some g c).After-change in
      let gone = sym c.in-Some.is ∙ c.in_ok-word.ensures.gone m c.args.name from c.requires.closed c.requires.deletes in
      Performs-deleted m c.args.command.now.channel c.args.name (none-of m.transaction c.args.self.now.transaction from.held.transaction c.requires.closed) (or_nothing (octets_changed m c.args.command.now.channel c.args.command.now.operation)) (Ok c.in_ok-word.word) c.change.new.self c.leave.new.self (g.B.Eeprom.chip c.args.bench.now)
      (g.B.Eeprom.chip c.change.new.bench) (rw c.in_ok-word.was at (does g w m from)) (c.leave.ensures ∙ ap (λ (o : Option ℕ). left_after o c.change.new.self) gone);
  ready = (let new = g.B.Eeprom.chip c.change.new.bench in
      StandsOver-sessions c.change.new.self c.leave.new.self new new _ c.leave.ensures refl c.in_ok-word.ensures.carries.ready);
  cause = search rules;
  cells = search rules;
  behind = search rules;
}

pub returns-in_default : goal.returns-in_default
returns-in_default g c = record {
  performs = λ m from.
      let w = (goal.at.returns-in_default g c).After-change in
      let gone = sym c.in_default.is ∙ c.in_ok-word.ensures.gone m c.args.name from c.requires.closed c.requires.deletes in
      Performs-deleted m c.args.command.now.channel c.args.name (none-of m.transaction c.args.self.now.transaction from.held.transaction c.requires.closed) (or_nothing (octets_changed m c.args.command.now.channel c.args.command.now.operation)) (Ok c.in_ok-word.word) c.change.new.self c.change.new.self (g.B.Eeprom.chip c.args.bench.now)
      (g.B.Eeprom.chip c.change.new.bench) (rw c.in_ok-word.was at (does g w m from)) (ap (λ (o : Option ℕ). left_after o c.change.new.self) gone);
  ready = search rules;
  cause = search rules;
  cells = search rules;
  behind = search rules;
}
