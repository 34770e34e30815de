-- What the session of the channel reads is what the machine's does.
use Rattle.std.proofs.Common.{rules, drop, ◌≡◌, ◌∙◌, ℕ, Option, None, Ok, refl, sym, ap, subst, arith}
use Rattle.std.specs.Prelude.{IfSome, Some, slice_index_or, slice_set}
use Rattle.std.proofs.lemmas.Bool.{false≢true}
use Rattle.eeprom.specs.Chip.{Chip}
use Rattle.scql_model.specs.Cursors.{StandsOn}
use Rattle.scql_model.specs.Database.{Database}
use Rattle.scql_model.specs.Machine.{Reading, actor, base}
use Rattle.db_read.specs.Searched.{octets_for_reading}
use Rattle.scql_model.specs.Sessions.{cursor_of, reading_of, reading_so}
use Rattle.scql_model.specs.Step.{answered, carried_out}
use Rattle.record_store.specs.declared.side.Side.{Side}
use Rattle.record_table.specs.Making.{IsHeld}
use Rattle.db_read.specs.Scan as scans
use Rattle.db_read.specs.Scan.{IsRightFor}
use Rattle.card.specs.Answering.{HoldsAnswer, changing_session, replied}
use Rattle.card.specs.Card.{Kept, IsReady}
use Rattle.card.specs.Waiting.{side_of}
use Rattle.card.specs.ReadCosts.{ReadsOctets}
use Rattle.card.specs.Reading.{move_to}
use Rattle.card.specs.Sessions as opened
use Rattle.card.specs.Sessions.{cursor_on, proved_user, reading_in, session_on, sessions_of}
use Rattle.card.specs.declared.found.Found.{Found}
use Rattle.card.proofs.CarryingOut.{CarriesOut-unwritten}
use Rattle.eeprom.specs.StoreOf.{image_size}
use Rattle.eeprom.proofs.Leaves.{Keeps-none}
use Rattle.card.proofs.Performing.{HoldsMachine-found, Performs-found, Performs-unwritten, actor-at}
use Rattle.card.proofs.Sides.{IsHeld-base, IsReady-read, StandsOver-found}
use Rattle.card.proofs.ReadingCosts.{acted-read, reads-there}
use Rattle.card.proofs.ReadingCard.{HoldsAnswer-read, err-ok, err-on, move-there, of_database, reading-card, reads-command, reads-so}
use Rattle.card.proofs.SeenSessions.{card-changed, closed-none, cursor-seen, index-there}
use Rattle.card.proofs.engine.Engine.read.Goals.{After-read}
use Rattle.card.proofs.engine.Engine.read.Goals as goal

-- the card once it is known who acts
abbrev now : (g : _) → After-read g → Kept
now g c = record c.args.self.now { found = c.actor_reading.new.self.found }

view : (g : _) (c : After-read g) → record { store = c.self.inside.tables.store; index = c.self.inside.tables.index; sessions = sessions_of c.self.inside.sessions.value c.self.inside.chains.value; transaction = c.self.inside.transaction; found = c.self.inside.found.value; live = c.self.inside.live } ≡ now g c
view g c = c.self.view_is ∙ c.in_ok-actor.ensures.kept

-- its session
session-there : (g : _) (c : After-read g) → slice_index_or c.self.inside.sessions.value c.args.command.now.channel None ≡ Some c.in-Some.session
session-there g c =
    rw c.from.ensures at (index-there c.self.inside.sessions.value c.from.result c.index-deref_mut-from.result (omega (arith, c.from.ensures, c.requires.asked.formed.channel, c.self.invariant.0)) (rw c.deref_mut.ensures.value at c.index-deref_mut-from.is) ∙ (c.index-deref_mut-from.is ∙ c.in-Some.is))

-- what its side holds
held-there : (g : _) (c : After-read g) (db : Database) → IsHeld c.args.self.now.store (side_of c.args.self.now.transaction c.args.command.now.channel) (g.B.Eeprom.chip c.args.bench.now) db
    → IsHeld c.self.inside.tables.store c.side-side.result (g.B.Eeprom.chip c.actor_reading.new.bench) db
held-there g c db held =
    let channel = c.args.command.now.channel in
    let old = g.B.Eeprom.chip c.args.bench.now in
    let before = subst (λ (kept : Kept). IsHeld kept.store (side_of kept.transaction channel) old db) (sym c.in_ok-actor.ensures.kept) held in
    let inside = subst (λ (kept : Kept). IsHeld kept.store (side_of c.actor_reading.new.self.transaction channel) old db) (sym c.self.view_is) before in
    subst (λ (chip : Chip). IsHeld c.self.inside.tables.store c.side-side.result chip db) (sym c.in_ok-actor.ensures.frame.same) (subst (λ (side : Side). IsHeld c.self.inside.tables.store side old db) (sym c.side-side.ensures) inside)

-- what was found is right for its cursor
right-there : (g : _) (c : After-read g) (db : Database) → IsHeld c.args.self.now.store (side_of c.args.self.now.transaction c.args.command.now.channel) (g.B.Eeprom.chip c.args.bench.now) db
    → IsRightFor db c.in_ok-actor.actor c.deref_mut-2.result.now.scan c.in-Some.session.cursor
right-there g c db held =
    let channel = c.args.command.now.channel in
    let who = c.in_ok-actor.actor in
    let cursors = ap (λ (kept : Kept). cursor_on kept.sessions channel) (sym (view g c))
    ∙ cursor-seen c.self.inside.sessions.value c.self.inside.chains.value channel c.in-Some.session (c.self.invariant.0 ∙ sym c.self.invariant.1) (session-there g c) in
    subst (λ (scan : Option scans.Found). IsRightFor db who scan c.in-Some.session.cursor)
    (sym (ap (λ (kept : Kept). kept.found.scan) c.self.view_is) ∙ ap (λ (found : Found). found.scan) (sym c.deref_mut-2.ensures.value))
    (subst (IsRightFor db who c.actor_reading.new.self.found.scan) cursors (c.in_ok-actor.ensures.right db held))

-- the session that has read
set-there : (g : _) (c : After-read g) → c.read.new.session.user ≡ c.in-Some.session.user
    → record { store = c.self.inside.tables.store; index = c.self.inside.tables.index; sessions = sessions_of (slice_set c.self.inside.sessions.value c.from.result (Some c.read.new.session)) c.self.inside.chains.value; transaction = c.self.inside.transaction; found = c.self.inside.found.value; live = c.self.inside.live }
    ≡ changing_session (reading_so (reading_in c.read.new.session)) (now g c) c.args.command.now.channel
set-there g c user =
    rw c.from.ensures (card-changed (reading_so (reading_in c.read.new.session)) c.self.inside.tables.store c.self.inside.tables.index c.self.inside.transaction c.self.inside.found.value c.self.inside.live c.self.inside.sessions.value c.self.inside.chains.value c.args.command.now.channel
    c.in-Some.session c.read.new.session (now g c) (view g c) (λ chain. reads-so c.read.new.session c.in-Some.session user chain) (session-there g c))

pub returns-in_err-actor-clause-carries : goal.returns-in_err-actor-clause-carries
returns-in_err-actor-clause-carries g c = CarriesOut-unwritten c.requires.asked.ready.stands c.in_err-actor.ensures.frame.same (λ m from. err-ok _ _ c.from_residual.result c.from_residual.ensures.1) (err-on _ _ c.from_residual.result c.from_residual.ensures.1) (search rules) (err-on _ _ c.from_residual.result c.from_residual.ensures.1)

pub returns-in_err-word-clause-carries : goal.returns-in_err-word-clause-carries
returns-in_err-word-clause-carries g c = CarriesOut-unwritten c.requires.asked.ready.stands (search rules) (λ m from. err-ok _ _ c.from_residual-in_err-word.result c.from_residual-in_err-word.ensures.1) (err-on _ _ c.from_residual-in_err-word.result c.from_residual-in_err-word.ensures.1) (search rules) (err-on _ _ c.from_residual-in_err-word.result c.from_residual-in_err-word.ensures.1)

pub unreachable-requires : goal.unreachable-requires
unreachable-requires g c =
    let there = index-there c.self.inside.sessions.value c.from.result c.index-deref_mut-from.result (omega (arith, c.from.ensures, c.requires.asked.formed.channel, c.self.invariant.0)) (rw c.deref_mut.ensures.value at c.index-deref_mut-from.is) ∙ (c.index-deref_mut-from.is ∙ c.in_default.is) in
    let closed = rw c.from.ensures at (closed-none c.self.inside.sessions.value c.self.inside.chains.value c.from.result there) in
    false≢true (sym closed ∙ (ap (λ (kept : Kept). opened.is_open kept.sessions c.args.command.now.channel) (c.self.view_is ∙ c.in_ok-actor.ensures.kept) ∙ c.requires.asked.opened))

pub returns-clause-carries : goal.returns-clause-carries
returns-clause-carries g c = record {
  performs = λ m from.
      let args = c.args.self.now in
      let old = g.B.Eeprom.chip c.args.bench.now in
      let command = c.args.command.now in
      let channel = command.channel in
      let session = c.in-Some.session in
      let after = c.read.new.session in
      let w = (goal.at.returns-clause-carries g c).After-read in
      let db = base m channel in
      let held = IsHeld-base args old m channel c.requires.asked.ready.stands from in
      let at = HoldsMachine-found args c.actor_reading.new.self.found old m from.held in
      let seen = reading-card (now g w) old m c.self.inside.sessions.value c.self.inside.chains.value channel session at (ap (λ (kept : Kept). kept.sessions) (sym (view g w))) (c.self.invariant.0 ∙ sym c.self.invariant.1) (session-there g w) in
      let who = actor-at args old m channel (proved_user (session_on args.sessions channel)) from.held refl ∙ sym (c.in_ok-actor.ensures.actor db held) in
      let cursors = of_database db session.cursor (subst (λ (reading : Reading). IfSome reading.cursor (StandsOn db)) seen (from.valid.readings channel).cursor) in
      let reads = reads-command command c.requires.asked.formed c.requires.reads in
      let moves = c.in_ok-word.ensures.moves db (held-there g w db held) cursors (right-there g w db held) in
      let kept : Kept = record { store = c.self.inside.tables.store; index = c.self.inside.tables.index; sessions = sessions_of (slice_set c.self.inside.sessions.value c.from.result (Some after)) c.self.inside.chains.value; transaction = c.self.inside.transaction; found = c.self.inside.found.value; live = c.self.inside.live } in
      rw (c.deref_mut.ensures.value, c.deref_mut-4.ensures.value) (Performs-found m _ _ c.read.new.reply.body c.in_ok-word.word kept _ old _
      (Performs-unwritten args kept old _ m _ _ c.read.new.reply.body (Ok c.in_ok-word.word) c.requires.asked.ready.stands from (search rules)
      (subst (λ (chip : Chip). HoldsAnswer (answered m (carried_out m command)) (replied c.read.new.reply.body c.in_ok-word.word) kept chip) (search rules)
      (HoldsAnswer-read (now g w) kept old m command reads.0 c.read.new.reply.body c.in_ok-word.word (reading_in after) at reads.1
      (move-there db db c.in_ok-actor.actor (actor m channel) (reading_in session) (reading_of m channel) reads.0 (move_to c.read.new.reply.body c.in_ok-word.word after.cursor after.pending) refl who seen (moves reads.0 reads.1))
      (set-there g w c.in_ok-word.ensures.user)))));
  ready = (let args = c.args.self.now in
      let old = g.B.Eeprom.chip c.args.bench.now in
      let command = c.args.command.now in
      let channel = command.channel in
      let session = c.in-Some.session in
      let after = c.read.new.session in
      let w = (goal.at.returns-clause-carries g c).After-read in
      let found : Found = record { last = Some (record { channel = channel; actor = c.in_ok-actor.actor }); scan = c.read.new.scan } in
      let kept : Kept = record { store = c.self.inside.tables.store; index = c.self.inside.tables.index; sessions = sessions_of (slice_set c.self.inside.sessions.value c.from.result (Some after)) c.self.inside.chains.value; transaction = c.self.inside.transaction; found = c.self.inside.found.value; live = c.self.inside.live } in
      rw (c.deref_mut.ensures.value, c.deref_mut-4.ensures.value) (subst (λ (chip : Chip). IsReady (record kept { found = found }) chip) (search rules) (subst (λ (kept : Kept). IsReady (record kept { found = found }) old) (sym (set-there g w c.in_ok-word.ensures.user))
      (IsReady-read (now g w) old channel (reading_in after) c.in_ok-actor.actor c.read.new.scan (StandsOver-found args c.actor_reading.new.self.found old c.requires.asked.ready.stands)
      (λ db held. c.in_ok-actor.ensures.actor db held) (λ db held. c.in_ok-word.ensures.right db (held-there g w db held) (right-there g w db held))))));
  cause = search rules;
  cells = search rules;
  behind = Keeps-none (drop (image_size c.args.self.now.store.chains.cells)) (g.B.Eeprom.chip c.args.bench.now) _ (search rules);
}

pub returns-in_err-actor-clause-octets_read : goal.returns-in_err-actor-clause-octets_read
returns-in_err-actor-clause-octets_read g c = λ m from. err-on _ _ c.from_residual.result c.from_residual.ensures.1

pub returns-clause-octets_read : goal.returns-clause-octets_read
returns-clause-octets_read g c = λ m from asked is.
    let args = c.args.self.now in
    let old = g.B.Eeprom.chip c.args.bench.now in
    let command = c.args.command.now in
    let channel = command.channel in
    let session = c.in-Some.session in
    let w = (goal.at.returns-clause-octets_read g c).After-read in
    let db = base m channel in
    let side = side_of args.transaction channel in
    let a : Option ℕ = g.B.Eeprom.octets_read c.args.bench.now in
    let b : Option ℕ = g.B.Eeprom.octets_read c.actor_reading.new.bench in
    let d : Option ℕ = g.B.Eeprom.octets_read c.read.new.reader.bench.now in
    let held = IsHeld-base args old m channel c.requires.asked.ready.stands from in
    let at = HoldsMachine-found args c.actor_reading.new.self.found old m from.held in
    let seen = reading-card (now g w) old m c.self.inside.sessions.value c.self.inside.chains.value channel session at (ap (λ (kept : Kept). kept.sessions) (sym (view g w))) (c.self.invariant.0 ∙ sym c.self.invariant.1) (session-there g w) in
    let who = actor-at args old m channel (proved_user (session_on args.sessions channel)) from.held refl ∙ sym (c.in_ok-actor.ensures.actor db held) in
    let cursors = of_database db session.cursor (subst (λ (reading : Reading). IfSome reading.cursor (StandsOn db)) seen (from.valid.readings channel).cursor) in
    subst (λ (octets : Option ℕ). ReadsOctets (octets_for_reading db (actor m channel) (cursor_of m channel) asked) db (actor m channel) (reading_of m channel) asked a octets) (search rules)
    (reads-there db c.in_ok-actor.actor (actor m channel) (reading_in session) (reading_of m channel) asked a d who seen
    (acted-read db c.in_ok-actor.actor (reading_in session) asked a b d (c.in_ok-actor.ensures.octets_read db held)
    (c.in_ok-word.ensures.octets_read db (held-there g w db held) cursors (right-there g w db held) asked is)))
