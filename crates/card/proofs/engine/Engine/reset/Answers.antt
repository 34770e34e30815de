-- What was committed stays, and channel 0 alone is open.
use Rattle.std.proofs.Common.{rules, None, refl, sym, ap, subst, ◌∙◌}
use Rattle.eeprom.specs.Chip.{Chip}
use Rattle.scql_model.specs.Machine.{Machine}
use Rattle.scql_model.proofs.ValidSteps.{IsValidMachine-start}
use Rattle.card.specs.Card.{Kept, HoldsMachine, IsAt}
use Rattle.card.specs.Sessions.{sessions_of}
use Rattle.card.proofs.Transacting.{HoldsMachine-undone, none-is}
use Rattle.card.proofs.engine.Engine.reset.Goals.{After-forget, then-is_some, else-is_some}
use Rattle.card.proofs.engine.Engine.reset.Goals as goal

-- no transaction is open any more
undone : (c : After-forget) (chip : Chip) (m : Machine) → IsAt c.args.self.now chip m → HoldsMachine c.if-is_some.self chip (record m { transaction = None })
undone c chip m at = elim c.if-is_some.branch [
  | then-is_some w ↦ rw w.self-is (w.undo.ensures.holds chip m at.held)
  | else-is_some w ↦ rw w.self-is (HoldsMachine-undone c.args.self.now c.args.self.now chip m at.held (λ image. refl) refl refl
      (ap (λ (kept : Kept). kept.transaction) (sym c.self.view_is) ∙ none-is c.self.inside.transaction (sym c.is_some.ensures ∙ w.if-is_some.false)))
]

pub returns : goal.returns
returns c = record {
  at = λ chip m at.
      let held = subst (λ (kept : Kept). HoldsMachine kept chip (record m { transaction = None })) (sym c.self-2.view_is) (undone (goal.at.returns c).After-forget chip m at) in record {
        held = record {
          slots = held.slots;
          committed = held.committed;
          limit = held.limit;
          holds = held.holds;
          transaction = held.transaction;
          works = tt;
          sessions = sym (c.first_sessions.ensures m.committed) ∙ ap (sessions_of c.first_sessions.result) (sym c.clear.ensures);
        };
        valid = IsValidMachine-start m.committed at.valid.committed;
      };
  ready = search rules;
  cells = search rules;
}
