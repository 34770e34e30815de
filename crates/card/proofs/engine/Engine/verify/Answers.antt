-- What VERIFY does over the database of the card's machine, it does on the channel.
use Rattle.std.proofs.Common.{rules, ◌≡◌, ◌∙◌, ◌==◌, ℕ, Bool, [], Result, Ok, Err, if◌then◌else◌, sym, ap, subst}
use Rattle.std.specs.Prelude.{IfOk, OnOk}
use Rattle.eeprom.specs.declared.fault.EepromFault.{EepromFault}
use Rattle.scql_base.specs.Words.{done}
use Rattle.scql_base.specs.declared.words.StatusWord.{StatusWord}
use Rattle.scql_model.specs.Bound.{octets_verified, or_nothing}
use Rattle.scql_model.specs.Machine.{Machine}
use Rattle.scql_model.specs.Sessions.{proving}
use Rattle.scql_model.specs.Step.{answered, verified}
use Rattle.db_access.specs.Verifying.{HoldsSecret, verdict}
use Rattle.card.specs.Answering.{Performs, changing_session, settled}
use Rattle.card.specs.Card.{Kept, StandsOver, IsAt}
use Rattle.card.specs.Sessions.{sessions_of}
use Rattle.card.proofs.ReadingCard.{Performs-err, err-on}
use Rattle.card.proofs.Verifying.{StandsOver-proved, StandsOver-verified, IsUnproved, Performs-nobody, Performs-verified, lowered-first, other_number, secret-held, unproved-there}
use Rattle.card.proofs.engine.Engine.verify.Goals.{After-settle, After-verify, then-word, else-word}
use Rattle.card.proofs.engine.Engine.verify.Goals as goal

pub returns-in_default-clause-carries : goal.returns-in_default-clause-carries
returns-in_default-clause-carries g c = record {
  performs = λ m from.
      Performs-nobody c.args.self.now (g.B.Eeprom.chip c.args.bench.now) m c.args.channel.number _ c.args.secret.now c.requires.ready from (sym c.in_default.is ∙ c.unproved_user.ensures);
  ready = c.requires.ready;
  cause = search rules;
  cells = search rules;
  behind = search rules;
}

-- the user who isn't proved, of whom a secret is asked
user : (g : _) (c : After-verify g) (m : Machine) → IsAt c.args.self.now (g.B.Eeprom.chip c.args.bench.now) m → IsUnproved m c.args.channel.number c.in-Some.user
user g c m from = unproved-there c.args.self.now (g.B.Eeprom.chip c.args.bench.now) m c.args.channel.number from.held c.in-Some.user (sym c.in-Some.is ∙ c.unproved_user.ensures)

holds : (g : _) (c : After-verify g) (m : Machine) → IsAt c.args.self.now (g.B.Eeprom.chip c.args.bench.now) m → HoldsSecret c.self.inside.tables.store (g.B.Eeprom.chip c.args.bench.now) m.committed c.in-Some.user
holds g c m from =
    subst (λ (kept : Kept). HoldsSecret kept.store (g.B.Eeprom.chip c.args.bench.now) m.committed c.in-Some.user) (sym c.self.view_is)
    (secret-held c.args.self.now (g.B.Eeprom.chip c.args.bench.now) m c.args.channel.number c.in-Some.user c.args.secret.now c.requires.ready from c.requires.closed (user g c m from))

-- what commits nothing and is answered writes nothing
unwritten : (P Q : Type 0) (result : Result StatusWord EepromFault) → OnOk result (P → Q) → P → OnOk result Q
unwritten P Q (Ok word) on p = on p
unwritten P Q (Err fault) on p = tt

performs : (g : _) (c : After-verify g) (m : Machine) (after : Kept) → IsAt c.args.self.now (g.B.Eeprom.chip c.args.bench.now) m
    → IfOk c.verify.result (λ word. let next : Kept = record c.args.self.now { store = c.verify.new.store } in after ≡ settled word (if word.word == done.word then changing_session proving next c.args.channel.number else next) c.args.channel.number)
    → Performs m (answered m (verified m c.args.channel.number c.args.secret.now)) (or_nothing (octets_verified m c.args.channel.number c.args.secret.now)) [] c.verify.result after (g.B.Eeprom.chip c.args.bench.now) (g.B.Eeprom.chip c.verify.new.bench)
performs g c m after from set =
    let v = c.verify.ensures.verifies m.committed (holds g c m from) in
    Performs-verified c.args.self.now (g.B.Eeprom.chip c.args.bench.now) m c.args.channel.number c.in-Some.user c.args.secret.now c.requires.ready from c.requires.closed (user g c m from) c.verify.new.store (g.B.Eeprom.chip c.verify.new.bench) c.verify.result after
    v.word v.rests v.moments
    (unwritten ((verdict m.committed c.in-Some.user c.args.secret.now).commits ≡ []) (g.B.Eeprom.chip c.verify.new.bench ≡ g.B.Eeprom.chip c.args.bench.now) c.verify.result v.unwritten) v.octets set

pub returns-in_err-word-clause-carries : goal.returns-in_err-word-clause-carries
returns-in_err-word-clause-carries g c = record {
  performs = λ m from.
      let w = (goal.at.returns-in_err-word-clause-carries g c).After-verify in
      let by = performs g w m c.args.self.now from (rw c.in_err-word.was tt) in
      Performs-err _ c.from_residual.ensures.1 by.moments;
  ready = err-on _ _ c.from_residual.result c.from_residual.ensures.1;
  cause = search rules;
  cells = err-on _ _ c.from_residual.result c.from_residual.ensures.1;
  behind = search rules;
}

-- the card once VERIFY has ended, before it is settled
chosen : (g : _) (c : After-settle g) → (let next : Kept = record c.args.self.now { store = c.verify.new.store } in c.if-word.self ≡ (if c.in_ok-word.word.word == done.word then changing_session proving next c.args.channel.number else next))
chosen g c =
    let next : Kept = record c.args.self.now { store = c.verify.new.store } in
    elim c.if-word.branch [
      | then-word w ↦ w.self-is ∙ (w.prove.ensures ∙ (ap (λ (kept : Kept). changing_session proving (record kept { store = c.verify.new.store }) c.args.channel.number) c.self.view_is
          ∙ ap (λ (n : ℕ). if n == done.word then changing_session proving next c.args.channel.number else next) (sym w.if-word.true)))
      | else-word w ↦ w.self-is ∙ (ap (λ (kept : Kept). let after : Kept = record kept { store = c.verify.new.store } in after) c.self.view_is
          ∙ ap (λ (b : Bool). if b then changing_session proving next c.args.channel.number else next) (sym (other_number c.in_ok-word.word.word done.word w.if-word.false)))
    ]

settles : (g : _) (c : After-settle g) → (let next : Kept = record c.args.self.now { store = c.verify.new.store } in c.settle.new.self ≡ settled c.in_ok-word.word (if c.in_ok-word.word.word == done.word then changing_session proving next c.args.channel.number else next) c.args.channel.number)
settles g c = c.settle.ensures ∙ ap (λ (kept : Kept). settled c.in_ok-word.word kept c.args.channel.number) (chosen g c)

pub returns-clause-carries : goal.returns-clause-carries
returns-clause-carries g c = record {
  performs = λ m from.
      let w = (goal.at.returns-clause-carries g c).After-verify in
      let v = c.in_ok-word.ensures.verifies m.committed (holds g w m from) in
      Performs-verified c.args.self.now (g.B.Eeprom.chip c.args.bench.now) m c.args.channel.number c.in-Some.user c.args.secret.now c.requires.ready from c.requires.closed (user g w m from) c.verify.new.store (g.B.Eeprom.chip c.verify.new.bench) (Ok c.in_ok-word.word) c.settle.new.self
      v.word v.rests v.moments v.unwritten v.octets (settles g c);
  ready = (let old = g.B.Eeprom.chip c.args.bench.now in
      let new = g.B.Eeprom.chip c.verify.new.bench in
      let before : Kept = record { store = c.self.inside.tables.store; index = c.self.inside.tables.index; sessions = sessions_of c.self.inside.sessions.value c.self.inside.chains.value; transaction = c.self.inside.transaction; found = c.self.inside.found.value; live = c.self.inside.live } in
      let ready : StandsOver before old = subst (λ (kept : Kept). StandsOver kept old) (sym c.self.view_is) c.requires.ready in
      let next = StandsOver-verified before c.verify.new.store old new ready (ap (λ (kept : Kept). kept.transaction) c.self.view_is ∙ c.requires.closed) c.in_ok-word.ensures.goes_on c.in_ok-word.ensures.holds c.in_ok-word.ensures.rows in
      subst (λ (kept : Kept). StandsOver kept new) (sym (settles g c))
      (StandsOver-proved (record c.args.self.now { store = c.verify.new.store }) new c.in_ok-word.word c.args.channel.number (c.in_ok-word.word.word == done.word)
      (subst (λ (kept : Kept). StandsOver (record kept { store = c.verify.new.store }) new) c.self.view_is next)));
  cause = search rules;
  cells = search rules;
  behind = search rules;
}

pub returns-clause-lowered : goal.returns-clause-lowered
returns-clause-lowered g c = λ m from.
    let w = (goal.at.returns-clause-lowered g c).After-verify in
    let held = holds g w m from in
    lowered-first c.args.self.now (g.B.Eeprom.chip c.args.bench.now) m c.args.channel.number c.in-Some.user c.args.secret.now c.requires.ready from c.requires.closed (user g w m from) c.verify.new.store (g.B.Eeprom.chip c.verify.new.bench) (Ok c.in_ok-word.word)
    (c.in_ok-word.ensures.verifies m.committed held).word (λ holder stored. c.in_ok-word.ensures.lowered m.committed holder held stored)
