-- The transaction of the channel is committed, if it has one.
use Rattle.std.proofs.Common.{rules, ◌*◌, ◌+◌, false, None, refl, sym, ap, subst, ◌∙◌}
use Rattle.eeprom.specs.Chip.{Becomes, RisesBy}
use Rattle.record_store.specs.Transaction.{Commits, IsCommitted, entries}
use Rattle.record_store.specs.declared.side.Side.TheVariants.{Working}
use Rattle.scql_model.specs.Sessions.{without_pending}
use Rattle.row_index.specs.Index.{Index}
use Rattle.card.specs.Answering.{changing_session}
use Rattle.card.specs.Card.{Kept}
use Rattle.record_table.proofs.AtRest.{slots-committed}
use Rattle.card.proofs.FreeCommands.{own-has, own-none}
use Rattle.card.proofs.ReadingCard.{err-ok, err-on}
use Rattle.card.proofs.Sides.{StandsOver-sessions}
use Rattle.card.proofs.Transacting.{StandsOver-ended, Performs-committed, Performs-half_committed, Performs-no_commit, over-committed}
use Rattle.card.proofs.engine.Engine.commit.Goals as goal

pub returns-then-not-has_transaction : goal.returns-then-not-has_transaction
returns-then-not-has_transaction g c = record {
  performs = λ m at.
      Performs-no_commit c.args.self.now (g.B.Eeprom.chip c.args.bench.now) m c.args.channel.number
      (own-none m.transaction c.args.self.now.transaction c.args.channel.number at.held.transaction (sym c.has_transaction.ensures ∙ c.if-not-has_transaction.true)) c.requires.ready at;
  ready = c.requires.ready;
  cause = search rules;
  cells = refl;
  behind = search rules;
}

pub returns-in_err-commit : goal.returns-in_err-commit
returns-in_err-commit g c = record {
  performs = λ m at.
      let old = g.B.Eeprom.chip c.args.bench.now in
      let new = g.B.Eeprom.chip c.commit.new.bench in
      let has = own-has m.transaction c.args.self.now.transaction c.args.channel.number at.held.transaction (sym c.has_transaction.ensures ∙ c.if-not-has_transaction.false) in
      Performs-half_committed c.args.self.now c.commit.new.self.store c.args.self.now.index old new m c.args.channel.number has.0 c.requires.ready at has.1 has.2
      (subst (λ (kept : Kept). Commits kept.store old new) c.self.view_is c.commit.ensures.moments) c.from_residual.result _ (err-ok _ _ c.from_residual.result c.from_residual.ensures.1);
  ready = err-on _ _ c.from_residual.result c.from_residual.ensures.1;
  cause = search rules;
  cells = err-on _ _ c.from_residual.result c.from_residual.ensures.1;
  behind = search rules;
}

pub returns : goal.returns
returns g c = record {
  performs = λ m at.
      let old = g.B.Eeprom.chip c.args.bench.now in
      let new = g.B.Eeprom.chip c.commit.new.bench in
      let ensures = c.in_ok-commit.ensures in
      let has = own-has m.transaction c.args.self.now.transaction c.args.channel.number at.held.transaction (sym c.has_transaction.ensures ∙ c.if-not-has_transaction.false) in
      Performs-committed c.args.self.now c.commit.new.self.store c.commit.new.self.index old new m c.args.channel.number has.0 c.requires.ready at has.1 has.2
      (subst (λ (kept : Kept). Commits kept.store old new) c.self.view_is c.commit.ensures.moments) c.drop_pending.new.self
      (subst (λ (kept : Kept). Becomes (IsCommitted kept.store c.commit.new.self.store) old.image new.image) c.self.view_is ensures.done) ensures.told
      (ensures.cells ∙ ap (λ (kept : Kept). kept.store.chains.cells) c.self.view_is) (ensures.rows ∙ ap (λ (kept : Kept). kept.store.row_limit) c.self.view_is)
      (subst (λ (kept : Kept). Becomes (RisesBy (4 + 6 * entries kept.store)) old.written new.written) c.self.view_is ensures.octets_written)
      (c.drop_pending.ensures ∙ ap (λ (kept : Kept). changing_session without_pending (record kept { store = c.commit.new.self.store; index = c.commit.new.self.index; transaction = None }) c.args.channel.number) c.self.view_is);
  ready = (let old = g.B.Eeprom.chip c.args.bench.now in
      let new = g.B.Eeprom.chip c.commit.new.bench in
      let ensures = c.in_ok-commit.ensures in
      let store = c.args.self.now.store in
      let commits = subst (λ (kept : Kept). Commits kept.store old new) c.self.view_is c.commit.ensures.moments in
      let done_now = subst (λ (kept : Kept). Becomes (IsCommitted kept.store c.commit.new.self.store) old.image new.image) c.self.view_is ensures.done in
      let cells = ensures.cells ∙ ap (λ (kept : Kept). kept.store.chains.cells) c.self.view_is in
      let rows = ensures.rows ∙ ap (λ (kept : Kept). kept.store.row_limit) c.self.view_is in
      let ended : Kept = record c.args.self.now { store = c.commit.new.self.store; index = c.commit.new.self.index; transaction = None } in
      StandsOver-sessions ended c.drop_pending.new.self new new _
      (c.drop_pending.ensures ∙ ap (λ (kept : Kept). changing_session without_pending (record kept { store = c.commit.new.self.store; index = c.commit.new.self.index; transaction = None }) c.args.channel.number) c.self.view_is) refl
      (StandsOver-ended c.args.self.now ended Working old new c.requires.ready c.requires.ready.works c.requires.ready.live refl ensures.ended (over-committed store c.commit.new.self.store old new c.requires.ready.over commits done_now cells) ensures.told
      (slots-committed store c.commit.new.self.store old new c.requires.ready.over done_now ensures.told) cells rows
      (c.in_ok-commit.ensures.index ∙ ap (λ (kept : Kept). let i : Index = record { cells = kept.index.cells; begun = false; committed = kept.index.working; working = kept.index.working } in i) c.self.view_is)));
  cause = search rules;
  cells = search rules;
  behind = search rules;
}
