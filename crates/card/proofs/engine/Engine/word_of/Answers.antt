-- What was taken with the card's open channels and chains is what the machine takes with its own.
use Rattle.std.proofs.Common.{rules, ◌≡◌, ◌≤◌, ◌∙◌, ℕ, min, List, [], ◌∷◌, drop, length, map, Option, is_some, ap, Ok, Err, refl, sym, subst, arith}
use Rattle.std.specs.Prelude.{OnOk, option_and_then}
use Rattle.eeprom.specs.Chip.{Keeps}
use Rattle.eeprom.specs.StoreOf.{image_size}
use Rattle.eeprom.proofs.Leaves.{Keeps-none}
use Rattle.scql_base.specs.declared.words.StatusWord.{StatusWord}
use Rattle.scql_base.specs.Words.{done}
use Rattle.scql_model.specs.Bound.{octets_bound}
use Rattle.scql_model.specs.Form.{Form, form_of}
use Rattle.scql_model.specs.Accepting.{channel_named}
use Rattle.scql_model.specs.Machine.{Machine, Session, open_channels}
use Rattle.scql_model.specs.Sessions.{command_chain}
use Rattle.scql_model.specs.Operations.{operations}
use Rattle.scql_model.specs.Replies.{said}
use Rattle.scql_model.specs.Step.{Answer, answered, carried_out, done_with, step}
use Rattle.scql_model.specs.WellFormed.{FitsCard}
use Rattle.apdu_chain.specs.Chaining.{chain_on}
use Rattle.apdu_chain.proofs.TakenForms.{taken_at, outcome_of, octets_taken, octets-whole, taken-committed, taken-refused, taken-kept, length-after, named-taken, outcome-whole, fits-taken, kept-untaken, refused-untaken}
use Rattle.card.specs.Card.{Kept, IsAt, IsReady}
use Rattle.card.specs.Answering.{HoldsAnswer, LeavesFirstOfTwo, Performs}
use Rattle.card.specs.Sessions.{sessions_of}
use Rattle.card.proofs.ReadingCosts.{on-then, reads-taken, reads-untaken}
use Rattle.card.proofs.TakenForms.{form-card, step-taken, IsAt-taken, bound-taken, open-taken}
use Rattle.card.proofs.Performing.{HoldsAnswer-done, Performs-found, Performs-from, Performs-unwritten}
use Rattle.card.proofs.Sides.{IsReady-none, IsReady-sessions, StandsOver-sessions}
use Rattle.card.proofs.SeenSessions.{parts-unseen}
use Rattle.card.specs.Sessions.{proved_stamp}
use Rattle.card.specs.declared.found.Found.{Found}
use Rattle.scql_model.specs.Machine as machine
use Rattle.card.proofs.engine.Engine.word_of.Goals.{After-take}
use Rattle.card.proofs.engine.Engine.word_of.Goals as goal

-- no row limit is above the largest
rows : (limit own : ℕ) → limit ≤ 1020 → limit ≡ own → min limit 1020 ≡ own
rows limit own most is = omega (arith, most, is)

-- the card once octets were taken
abbrev after_take : (g : _) → After-take g → Kept
after_take g c = record { store = c.self.inside.tables.store; index = c.self.inside.tables.index; sessions = sessions_of c.self.inside.sessions.value c.take.new.self; transaction = c.self.inside.transaction; found = c.self.inside.found.value; live = c.self.inside.live }

-- what they are
abbrev form : (g : _) → After-take g → Form
form g c = form_of operations c.args.octets.now c.open_channels-channels.result (chain_on c.self.inside.chains.value) (min c.row_limit.result 1020)

steps : (g : _) (c : After-take g) (m : Machine) → IsAt c.args.self.now (g.B.Eeprom.chip c.args.bench.now) m
    → step m c.args.octets.now ≡ answered (taken_at m (form g c)) (outcome_of (taken_at m (form g c)) (form g c))
steps g c m at =
    step-taken c.args.self.now (g.B.Eeprom.chip c.args.bench.now) m c.args.octets.now c.open_channels-channels.result c.self.inside.sessions.value c.self.inside.chains.value (min c.row_limit.result 1020) at
    c.open_channels-channels.ensures (ap (λ (kept : Kept). kept.sessions) (sym c.self.view_is)) (rows c.row_limit.result _ c.row_limit.ensures.most (c.row_limit.ensures.limit ∙ ap (λ (kept : Kept). kept.store.row_limit) c.self.view_is))

bounds : (g : _) (c : After-take g) (m : Machine) → IsAt c.args.self.now (g.B.Eeprom.chip c.args.bench.now) m → octets_bound m c.args.octets.now ≡ octets_taken (taken_at m (form g c)) (form g c)
bounds g c m at =
    bound-taken c.args.self.now (g.B.Eeprom.chip c.args.bench.now) m c.args.octets.now c.open_channels-channels.result c.self.inside.sessions.value c.self.inside.chains.value (min c.row_limit.result 1020) at
    c.open_channels-channels.ensures (ap (λ (kept : Kept). kept.sessions) (sym c.self.view_is)) (rows c.row_limit.result _ c.row_limit.ensures.most (c.row_limit.ensures.limit ∙ ap (λ (kept : Kept). kept.store.row_limit) c.self.view_is))

at-taken : (g : _) (c : After-take g) (m : Machine) → IsAt c.args.self.now (g.B.Eeprom.chip c.args.bench.now) m → IsAt (after_take g c) (g.B.Eeprom.chip c.args.bench.now) (taken_at m (form g c))
at-taken g c m at =
    IsAt-taken c.self.inside.tables.store c.self.inside.tables.index c.self.inside.transaction c.self.inside.found.value c.self.inside.live c.self.inside.sessions.value c.self.inside.chains.value c.take.new.self c.args.self.now (g.B.Eeprom.chip c.args.bench.now) m (form g c) at c.self.view_is (rw c.deref_mut.ensures.value at c.take.ensures.chains)

-- nothing is written for what is no command, nor said
unwritten : (g : _) (c : After-take g) (m : Machine) (answer : Answer) (word : StatusWord) (after : Kept) → IsAt c.args.self.now (g.B.Eeprom.chip c.args.bench.now) m
    → answered (taken_at m (form g c)) (outcome_of (taken_at m (form g c)) (form g c)) ≡ answer → HoldsAnswer answer (said word) after (g.B.Eeprom.chip c.args.bench.now) → c.without_body.new.reply.body ≡ []
    → Performs m (step m c.args.octets.now) (octets_bound m c.args.octets.now) c.without_body.new.reply.body (Ok word) after (g.B.Eeprom.chip c.args.bench.now) (g.B.Eeprom.chip c.args.bench.now)
unwritten g c m answer word after at is says empty =
    let chip = g.B.Eeprom.chip c.args.bench.now in
    subst (λ (answer : Answer). Performs m answer (octets_bound m c.args.octets.now) c.without_body.new.reply.body (Ok word) after chip chip) (sym (steps g c m at ∙ is))
    (subst (λ (body : List ℕ). Performs m answer (octets_bound m c.args.octets.now) body (Ok word) after chip chip) (sym empty)
    (Performs-unwritten c.args.self.now after chip chip m answer (octets_bound m c.args.octets.now) [] (Ok word) c.requires.ready.stands at refl says))

-- a card is ready still once octets were taken
ready-taken : (g : _) (c : After-take g) → IsReady (after_take g c) (g.B.Eeprom.chip c.args.bench.now)
ready-taken g c =
    let chip = g.B.Eeprom.chip c.args.bench.now in
    let same = ap length (rw c.deref_mut.ensures.value at c.take.ensures.chains) ∙ length-after c.self.inside.chains.value (form g c) in
    let before : Kept = record { store = c.self.inside.tables.store; index = c.self.inside.tables.index; sessions = sessions_of c.self.inside.sessions.value c.self.inside.chains.value; transaction = c.self.inside.transaction; found = c.self.inside.found.value; live = c.self.inside.live } in
    IsReady-sessions before chip (sessions_of c.self.inside.sessions.value c.take.new.self)
    (λ channel. ap (option_and_then proved_stamp) (parts-unseen (λ (s : machine.Session). s.user) (λ chain next s. refl) c.self.inside.sessions.value c.self.inside.chains.value c.take.new.self channel same))
    (λ channel. parts-unseen (λ (s : machine.Session). s.reading.cursor) (λ chain next s. refl) c.self.inside.sessions.value c.self.inside.chains.value c.take.new.self channel same)
    (subst (λ (kept : Kept). IsReady kept chip) (sym c.self.view_is) c.requires.ready)

pub carry_out-requires : goal.carry_out-requires
carry_out-requires g c = record {
  ready = ready-taken g (goal.at.carry_out-requires g c).After-take;
  formed = search rules;
  fits = subst (λ (limit : ℕ). FitsCard limit c.take.new.command.operation)
      (rows c.row_limit.result _ c.row_limit.ensures.most c.row_limit.ensures.limit)
      (fits-taken c.args.octets.now c.open_channels-channels.result (chain_on c.self.inside.chains.value) (min c.row_limit.result 1020) c.take.new.command (λ i. omega (arith, c.type_inv.octets i)) (omega arith) ((rw c.deref_mut.ensures.value at c.take.ensures.whole) c.in-Whole.is));
  opened = open-taken c.args.octets.now c.open_channels-channels.result c.self.inside.sessions.value c.self.inside.chains.value c.take.new.self (min c.row_limit.result 1020) c.take.new.command
      (c.open_channels-channels.ensures ∙ ap (λ (kept : Kept). map (λ (s : Option Session). is_some s) kept.sessions) (sym c.self.view_is)) (rw c.deref_mut.ensures.value at c.take.ensures.chains) ((rw c.deref_mut.ensures.value at c.take.ensures.whole) c.in-Whole.is);
}

-- Nothing is committed by what is no command.
pub returns-in-Refused-clause-carries : goal.returns-in-Refused-clause-carries
returns-in-Refused-clause-carries g c = record {
  performs = λ m at.
      let w = (goal.at.returns-in-Refused-clause-carries g c).After-take in
      let next = taken_at m (form g w) in
      unwritten g w m (answered next (Err c.in-Refused.word)) c.in-Refused.word (after_take g w) at (ap (answered next) (taken-refused next (form g w) c.in-Refused.word (sym c.in-Refused.is ∙ (rw c.deref_mut.ensures.value at c.take.ensures.taken))))
      (record { reply = refl; held = (at-taken g w m at).held }) c.without_body.ensures;
  ready = ready-taken g (goal.at.returns-in-Refused-clause-carries g c).After-take;
  cause = search rules;
  cells = search rules;
  behind = Keeps-none (drop (image_size c.args.self.now.store.chains.cells)) (g.B.Eeprom.chip c.args.bench.now) (g.B.Eeprom.chip c.args.bench.now) refl;
}

pub returns-in-Refused-clause-lowered : goal.returns-in-Refused-clause-lowered
returns-in-Refused-clause-lowered g c = λ m at first second rest twice.
    let w = (goal.at.returns-in-Refused-clause-lowered g c).After-take in
    let next = taken_at m (form g w) in
    let is : step m c.args.octets.now ≡ answered next (Err c.in-Refused.word) = steps g w m at ∙ ap (answered next) (taken-refused next (form g w) c.in-Refused.word (sym c.in-Refused.is ∙ (rw c.deref_mut.ensures.value at c.take.ensures.taken))) in
    let none : [] ≡ first ∷ second ∷ rest = sym (ap (λ (answer : Answer). answer.commits) is) ∙ twice in
    absurd cc

pub returns-in-Kept-clause-carries : goal.returns-in-Kept-clause-carries
returns-in-Kept-clause-carries g c = record {
  performs = λ m at.
      let w = (goal.at.returns-in-Kept-clause-carries g c).After-take in
      let next = taken_at m (form g w) in
      let channel = channel_named c.args.octets.now in
      let chip = g.B.Eeprom.chip c.args.bench.now in
      subst (λ (kept : Kept). Performs m (step m c.args.octets.now) (octets_bound m c.args.octets.now) c.without_body.new.reply.body (Ok done) (record kept { found = c.forget.new.self }) chip chip) (sym c.self-in-Kept.view_is)
      (Performs-found m _ _ c.without_body.new.reply.body done c.drop_pending.new.self c.forget.new.self chip chip
      (unwritten g w m (done_with next channel []) done c.drop_pending.new.self at
      (ap (answered next) (taken-kept next c.args.octets.now (form g w) (named-taken c.args.octets.now c.open_channels-channels.result (chain_on c.self.inside.chains.value) (min c.row_limit.result 1020)) (sym c.in-Kept.is ∙ (rw c.deref_mut.ensures.value at c.take.ensures.taken))))
      (HoldsAnswer-done (after_take g w) c.drop_pending.new.self chip next channel [] (at-taken g w m at).held (rw (sym c.channel_named.ensures) c.drop_pending.ensures)) c.without_body.ensures));
  ready = (let chip = g.B.Eeprom.chip c.args.bench.now in
      let w = (goal.at.returns-in-Kept-clause-carries g c).After-take in
      subst (λ (kept : Kept). IsReady (record kept { found = c.forget.new.self }) chip) (sym c.self-in-Kept.view_is)
      (IsReady-none c.drop_pending.new.self c.forget.new.self chip (ap (λ (f : Found). f.last) c.forget.ensures)
      (StandsOver-sessions (after_take g w) c.drop_pending.new.self chip chip _ c.drop_pending.ensures refl (ready-taken g w).stands)));
  cause = search rules;
  cells = search rules;
  behind = Keeps-none (drop (image_size c.args.self.now.store.chains.cells)) (g.B.Eeprom.chip c.args.bench.now) (g.B.Eeprom.chip c.args.bench.now) refl;
}

pub returns-in-Kept-clause-lowered : goal.returns-in-Kept-clause-lowered
returns-in-Kept-clause-lowered g c = λ m at first second rest twice.
    let w = (goal.at.returns-in-Kept-clause-lowered g c).After-take in
    let next = taken_at m (form g w) in
    let is : step m c.args.octets.now ≡ done_with next (channel_named c.args.octets.now) [] =
    steps g w m at ∙ ap (answered next) (taken-kept next c.args.octets.now (form g w) (named-taken c.args.octets.now c.open_channels-channels.result (chain_on c.self.inside.chains.value) (min c.row_limit.result 1020)) (sym c.in-Kept.is ∙ (rw c.deref_mut.ensures.value at c.take.ensures.taken))) in
    let none : [] ≡ first ∷ second ∷ rest = sym (ap (λ (answer : Answer). answer.commits) is) ∙ twice in
    absurd cc

pub returns-in-Whole-clause-carries : goal.returns-in-Whole-clause-carries
returns-in-Whole-clause-carries g c = record {
  performs = λ m at.
      let w = (goal.at.returns-in-Whole-clause-carries g c).After-take in
      let next = taken_at m (form g w) in
      let most = bounds g w m at ∙ octets-whole next (form g w) c.take.new.command ((rw c.deref_mut.ensures.value at c.take.ensures.whole) c.in-Whole.is) in
      let is = steps g w m at ∙ ap (answered next) (outcome-whole next (form g w) c.take.new.command ((rw c.deref_mut.ensures.value at c.take.ensures.whole) c.in-Whole.is)) in
      subst (λ (answer : Answer). Performs m answer (octets_bound m c.args.octets.now) c.carry_out.new.reply.body c.carry_out.result c.carry_out.new.self (g.B.Eeprom.chip c.args.bench.now) (g.B.Eeprom.chip c.carry_out.new.bench)) (sym is)
      (subst (λ (most : ℕ). Performs m (answered next (carried_out next c.take.new.command)) most c.carry_out.new.reply.body c.carry_out.result c.carry_out.new.self (g.B.Eeprom.chip c.args.bench.now) (g.B.Eeprom.chip c.carry_out.new.bench)) (sym most)
      (Performs-from m next _ _ c.carry_out.new.reply.body c.carry_out.result c.carry_out.new.self (g.B.Eeprom.chip c.args.bench.now) (g.B.Eeprom.chip c.carry_out.new.bench) (taken-committed m (form g w))
      (c.carry_out.ensures.carries.performs next (at-taken g w m at))));
  ready = search rules;
  cause = search rules;
  cells = search rules;
  behind = subst (λ (kept : Kept). Keeps (drop (image_size kept.store.chains.cells)) (g.B.Eeprom.chip c.args.bench.now) (g.B.Eeprom.chip c.carry_out.new.bench)) c.self.view_is c.carry_out.ensures.carries.behind;
}

pub returns-in-Whole-clause-lowered : goal.returns-in-Whole-clause-lowered
returns-in-Whole-clause-lowered g c = λ m at.
    let w = (goal.at.returns-in-Whole-clause-lowered g c).After-take in
    let next = taken_at m (form g w) in
    let is = steps g w m at ∙ ap (answered next) (outcome-whole next (form g w) c.take.new.command ((rw c.deref_mut.ensures.value at c.take.ensures.whole) c.in-Whole.is)) in
    subst (λ (answer : Answer). OnOk c.carry_out.result (LeavesFirstOfTwo answer (g.B.Eeprom.chip c.args.bench.now) (g.B.Eeprom.chip c.carry_out.new.bench))) (sym is)
    (c.carry_out.ensures.lowered next (at-taken g w m at))

-- What is read, by what was taken.
forms : (g : _) (c : After-take g) (m : Machine) → IsAt c.args.self.now (g.B.Eeprom.chip c.args.bench.now) m
    → form_of operations c.args.octets.now (open_channels m) (command_chain m) m.committed.limit ≡ form g c
forms g c m at =
    form-card c.args.self.now (g.B.Eeprom.chip c.args.bench.now) m c.args.octets.now c.open_channels-channels.result c.self.inside.sessions.value c.self.inside.chains.value (min c.row_limit.result 1020) at
    c.open_channels-channels.ensures (ap (λ (kept : Kept). kept.sessions) (sym c.self.view_is)) (rows c.row_limit.result _ c.row_limit.ensures.most (c.row_limit.ensures.limit ∙ ap (λ (kept : Kept). kept.store.row_limit) c.self.view_is))

pub returns-in-Refused-clause-octets_read : goal.returns-in-Refused-clause-octets_read
returns-in-Refused-clause-octets_read g c = λ m at.
    let w = (goal.at.returns-in-Refused-clause-octets_read g c).After-take in
    reads-untaken m c.args.octets.now _ _ (form g w) (forms g w m at) (refused-untaken (form g w) c.in-Refused.word (sym c.in-Refused.is ∙ (rw c.deref_mut.ensures.value at c.take.ensures.taken)))

pub returns-in-Kept-clause-octets_read : goal.returns-in-Kept-clause-octets_read
returns-in-Kept-clause-octets_read g c = λ m at.
    let w = (goal.at.returns-in-Kept-clause-octets_read g c).After-take in
    reads-untaken m c.args.octets.now _ _ (form g w) (forms g w m at) (kept-untaken (form g w) (sym c.in-Kept.is ∙ (rw c.deref_mut.ensures.value at c.take.ensures.taken)))

pub returns-in-Whole-clause-octets_read : goal.returns-in-Whole-clause-octets_read
returns-in-Whole-clause-octets_read g c = λ m at.
    let w = (goal.at.returns-in-Whole-clause-octets_read g c).After-take in
    let named = named-taken c.args.octets.now c.open_channels-channels.result (chain_on c.self.inside.chains.value) (min c.row_limit.result 1020) in
    on-then c.carry_out.result (λ reads. reads-taken m c.args.octets.now _ _ (form g w) c.take.new.command (forms g w m at) ((rw c.deref_mut.ensures.value at c.take.ensures.whole) c.in-Whole.is) named reads)
    (c.carry_out.ensures.octets_read (taken_at m (form g w)) (at-taken g w m at))
