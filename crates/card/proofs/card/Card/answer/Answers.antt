-- The engine performs what the machine does, and its card is then at the next machine.
use Rattle.std.proofs.Common.{rules, ◌≡◌, sym, ap, subst, ◌∙◌, inl, inr, arith}
use Rattle.eeprom.specs.Chip.{Chip}
use Rattle.scql_model.specs.Accepting.{Accepts}
use Rattle.scql_model.specs.Bound.{octets_bound}
use Rattle.scql_model.specs.Machine.{Machine}
use Rattle.scql_model.specs.Replies.{Reply}
use Rattle.scql_model.specs.Step.{step}
use Rattle.scql_model.proofs.AnswerWords.{step-costs, step-ends}
use Rattle.scql_model.proofs.CardReads.{reads-step}
use Rattle.scql_model.proofs.FewCommits.{two-step}
use Rattle.scql_model.proofs.LastCommits.{last-step}
use Rattle.scql_model.proofs.NothingWritten.{octets_bound-accepts}
use Rattle.scql_model.proofs.Refusing.{step-accepts_or_leaves}
use Rattle.scql_model.proofs.ValidSteps.{IsValidAnswer-step}
use Rattle.card.specs.Answering.{replied}
use Rattle.card.specs.Card.{IsAt, Kept}
use Rattle.card.proofs.InTurn.{leaves-each}
use Rattle.card.proofs.card.Card.answer.Goals as goal

-- the engine of a card is at its machine
engine-at : (card engine : Kept) (chip : Chip) (m : Machine) → engine ≡ card → IsAt card chip m → IsAt engine chip m
engine-at card engine chip m same at = subst (λ (kept : Kept). IsAt kept chip m) (sym same) at

pub returns-in-Err : goal.returns-in-Err
returns-in-Err g c = record {
  replied = search rules;
  ready = search rules;
  quiet = search rules;
  mute = search rules;
  cause = search rules;
  never_falls = search rules;
  still = search rules;
  moments = λ m at. (c.in-Err.ensures.carries.performs m (engine-at _ _ _ m c.self.view_is at)).moments;
  cells = search rules;
  behind = search rules;
}

pub returns-in-Ok : goal.returns-in-Ok
unfolding octets_bound step
returns-in-Ok g c = record {
  replied = (λ m at is.
      let octets = c.args.command.now in
      let before = engine-at _ _ _ m c.self.view_is at in
      let performs = c.in-Ok.ensures.carries.performs m before in
      let says = performs.step in
      let word = ap (λ (sent : Reply). sent.word) says.reply in
      let valid = (IsValidAnswer-step m octets (λ i. omega (arith, c.type_inv.command i)) at.valid).machine in
      let accepts_so = λ (accepts : Accepts (step m octets).reply.word). subst Accepts (sym word) accepts in
      let reply = ap (λ (sent : Reply). replied sent.body c.in-Ok.word) c.reply.view_is ∙ says.reply in
      record {
        step = record { reply = reply; at = record { held = says.held; valid = valid } };
        in_turn = leaves-each _ _ _ m (step m octets) performs.moments c.in-Ok.ensures.carries.ready.stands says.held valid.committed (last-step m octets) (two-step m octets) (c.in-Ok.ensures.lowered m before);
        unwritten = performs.unwritten;
        refused = elim (step-accepts_or_leaves m octets) [
          | inl accepts ↦ inl (accepts_so accepts)
          | inr leaves ↦ elim (octets_bound-accepts m octets) [
            | inl accepts ↦ inl (accepts_so accepts)
            | inr none ↦ inr (performs.unwritten none, (_, leaves.1, record { held = says.held; valid = valid }))
          ]
        ];
        at_its_end = λ ends. step-ends m octets (sym word ∙ ends);
        costs_a_try = λ left costs. step-costs m octets left (sym word ∙ costs);
        octets_written = performs.octets;
        shown = λ reading are. record { answer = step m octets; given = record { reply = reply; at = record { held = says.held; valid = valid } }; reads = reads-step m octets reading at.valid are };
        octets_read = λ command are. (c.in-Ok.ensures.octets_read m before command are).within;
        least = λ command are. (c.in-Ok.ensures.octets_read m before command are).row;
      });
  ready = search rules;
  quiet = search rules;
  mute = search rules;
  cause = search rules;
  never_falls = search rules;
  still = search rules;
  moments = λ m at. (c.in-Ok.ensures.carries.performs m (engine-at _ _ _ m c.self.view_is at)).moments;
  cells = search rules;
  behind = search rules;
}
