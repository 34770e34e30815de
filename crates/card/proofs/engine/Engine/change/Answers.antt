-- A change of a channel is one of the machine's, within its transaction or in one of its own.
use Rattle.std.proofs.Common.{rules, ◌≡◌, ◌∙◌, ◌==◌, ℕ, Bool, true, false, Option, Some, Ok, is_some, refl, sym, ap, subst, drop, arith, if◌then◌else◌}
use Rattle.std.specs.Prelude.{IfOk, IfSome, not}
use Rattle.std.proofs.lemmas.Bool.{false≢true}
use Rattle.eeprom.specs.Chip.{Keeps}
use Rattle.eeprom.specs.StoreOf.{image_size}
use Rattle.record_store.specs.declared.side.Side.{Side}
use Rattle.record_store.specs.declared.side.Side.TheVariants.{Committed, Working}
use Rattle.scql_model.specs.Changing.{edits_of}
use Rattle.scql_model.specs.Cursors.{IsCursorOf}
use Rattle.scql_model.specs.Database.{Database}
use Rattle.scql_model.specs.Transactions.{for_others}
use Rattle.record_table.specs.Listed.{slots_of}
use Rattle.record_table.specs.Making.{GoesOn, IsHeld}
use Rattle.card.specs.Answering.{settled}
use Rattle.record_table.specs.AtRest.{IsAtRest}
use Rattle.db_read.specs.Scan as scans
use Rattle.db_read.specs.Scan.{IsRightFor}
use Rattle.card.specs.Card.{FindsAgain, Kept, StandsOver}
use Rattle.card.specs.Acting.{acting}
use Rattle.card.specs.Changing.{Changes, ConcludesWithin, KeepsCatalog}
use Rattle.card.specs.Sessions as opened
use Rattle.card.specs.Waiting.{keeps_waiting, side_of}
use Rattle.card.specs.declared.found.Found.{Found}
use Rattle.card.proofs.FoundAgain.{found-at_once, found-within}
use Rattle.card.proofs.ReadingCard.{Performs-err, cursor-card, err-on}
use Rattle.card.proofs.SeenSessions.{closed-none, cursor-seen, index-there}
use Rattle.card.proofs.Sides.{StandsOver-found, StandsOver-idle, StandsOver-settled, StandsOver-within}
use Rattle.card.proofs.Performing.{HoldsMachine-found, IsAtRest-at}
use Rattle.card.proofs.Transacting.{Performs-at_once, Performs-in_transaction}
use Rattle.card.proofs.engine.Engine.change.Goals.{in-None+in_ok-word-in-None, in-Some-transaction+in_ok-word-in-Some-transaction}
use Rattle.card.proofs.engine.Engine.change.Goals as goal

-- a channel that isn't kept waiting for an open transaction has it, and works on its side
side-own : (transaction : Option ℕ) (own channel : ℕ) → transaction ≡ Some own → keeps_waiting for_others transaction channel ≡ false → side_of transaction channel ≡ Working
side-own transaction own channel is mine = rw is (of (own == channel) (rw is at mine))
  where
    of : (same : Bool) → not same ≡ false → (if same then Working else Committed) ≡ Working
    of true free = refl
    of false free = absurd (false≢true (sym free))

pub unreachable-requires : goal.unreachable-requires
unreachable-requires g c =
    let there = index-there c.self.inside.sessions.value c.from.result c.index-sessions-from.result (omega (arith, c.from.ensures, c.requires.asked.formed.channel, c.self.invariant.0)) (rw c.deref-sessions.ensures at c.index-sessions-from.is) ∙ (c.index-sessions-from.is ∙ c.in_default.is) in
    let closed = rw c.from.ensures at (closed-none c.self.inside.sessions.value c.self.inside.chains.value c.from.result there) in
    false≢true (sym closed ∙ (ap (λ (kept : Kept). opened.is_open kept.sessions c.args.command.now.channel) (c.self.view_is ∙ c.known_actor-known.ensures.kept) ∙ c.requires.asked.opened))

pub returns-in_err-word-in-None-clause-carries : goal.returns-in_err-word-in-None-clause-carries
returns-in_err-word-in-None-clause-carries g c = record {
  performs = λ m from.
      let old = g.B.Eeprom.chip c.args.bench.now in
      let new = g.B.Eeprom.chip c.change.new.bench in
      let there = index-there c.self.inside.sessions.value c.from.result c.index-sessions-from.result (omega (arith, c.from.ensures, c.requires.asked.formed.channel, c.self.invariant.0)) (rw c.deref-sessions.ensures at c.index-sessions-from.is) ∙ (c.index-sessions-from.is ∙ c.in-Some.is) in
      let reads = cursor-card c.args.self.now old m c.self.inside.sessions.value c.self.inside.chains.value c.args.command.now.channel c.in-Some.session from (ap (λ (kept : Kept). kept.sessions) (sym (c.self.view_is ∙ c.known_actor-known.ensures.kept))) (c.self.invariant.0 ∙ sym c.self.invariant.1)
      (rw c.from.ensures at there) in
      let by = Performs-at_once (record c.args.self.now { found = c.known_actor-known.new.self.found }) (record c.args.self.now { found = c.known_actor-known.new.self.found }) c.change.new.tables.store c.change.new.tables.index old new m c.args.command.now.channel c.args.command.now.operation c.proved_user-user.result c.in-Some.session.cursor c.change.result (StandsOver-found c.args.self.now c.known_actor-known.new.self.found old c.requires.asked.ready.stands) (record { held = HoldsMachine-found c.args.self.now c.known_actor-known.new.self.found old m from.held; valid = from.valid })
      (ap (λ (kept : Kept). kept.transaction) (sym (c.self.view_is ∙ c.known_actor-known.ensures.kept)) ∙ c.in-None.is) (c.proved_user-user.ensures ∙ ap (λ (kept : Kept). opened.proved_user (opened.session_on kept.sessions c.args.command.now.channel)) c.known_actor-known.ensures.kept) reads (rw c.in_err-word-in-None.was tt)
      (subst (λ (kept : Kept). (db : Database) → IsAtRest kept.store old db → IfSome c.in-Some.session.cursor (IsCursorOf db)
      → Changes db (edits_of db (acting db c.proved_user-user.result) c.in-Some.session.cursor c.args.command.now.operation) c.change.result c.change.new.tables.store old new) (c.self.view_is ∙ c.known_actor-known.ensures.kept) c.change.ensures.changes) in
      Performs-err _ c.from_residual.ensures.1 by.moments;
  ready = err-on _ _ c.from_residual.result c.from_residual.ensures.1;
  cause = search rules;
  cells = err-on _ _ c.from_residual.result c.from_residual.ensures.1;
  behind = search rules;
}

pub returns-in_err-word-in-Some-transaction-clause-carries : goal.returns-in_err-word-in-Some-transaction-clause-carries
returns-in_err-word-in-Some-transaction-clause-carries g c = record {
  performs = λ m from.
      let old = g.B.Eeprom.chip c.args.bench.now in
      let new = g.B.Eeprom.chip c.change_within.new.bench in
      let there = index-there c.self.inside.sessions.value c.from.result c.index-sessions-from.result (omega (arith, c.from.ensures, c.requires.asked.formed.channel, c.self.invariant.0)) (rw c.deref-sessions.ensures at c.index-sessions-from.is) ∙ (c.index-sessions-from.is ∙ c.in-Some.is) in
      let reads = cursor-card c.args.self.now old m c.self.inside.sessions.value c.self.inside.chains.value c.args.command.now.channel c.in-Some.session from (ap (λ (kept : Kept). kept.sessions) (sym (c.self.view_is ∙ c.known_actor-known.ensures.kept))) (c.self.invariant.0 ∙ sym c.self.invariant.1)
      (rw c.from.ensures at there) in
      let by = Performs-in_transaction (record c.args.self.now { found = c.known_actor-known.new.self.found }) (record c.args.self.now { found = c.known_actor-known.new.self.found }) c.change_within.new.tables.store c.change_within.new.tables.index old new m c.args.command.now.channel c.in-Some-transaction.field-0 c.args.command.now.operation c.proved_user-user.result c.in-Some.session.cursor
      c.change_within.result (StandsOver-found c.args.self.now c.known_actor-known.new.self.found old c.requires.asked.ready.stands) (record { held = HoldsMachine-found c.args.self.now c.known_actor-known.new.self.found old m from.held; valid = from.valid }) (ap (λ (kept : Kept). kept.transaction) (sym (c.self.view_is ∙ c.known_actor-known.ensures.kept)) ∙ c.in-Some-transaction.is) c.requires.mine (c.proved_user-user.ensures ∙ ap (λ (kept : Kept). opened.proved_user (opened.session_on kept.sessions c.args.command.now.channel)) c.known_actor-known.ensures.kept) reads (rw c.in_err-word-in-Some-transaction.was tt)
      (subst (λ (kept : Kept). (db : Database) → IsHeld kept.store Working old db → IfSome c.in-Some.session.cursor (IsCursorOf db)
      → IfOk c.change_within.result (λ word. ConcludesWithin db (edits_of db (acting db c.proved_user-user.result) c.in-Some.session.cursor c.args.command.now.operation) word kept.store c.change_within.new.tables.store old new)) (c.self.view_is ∙ c.known_actor-known.ensures.kept) c.change_within.ensures.changes)
      (rw c.in_err-word-in-Some-transaction.was tt) (rw c.in_err-word-in-Some-transaction.was tt) c.change_within.ensures.moments in
      Performs-err _ c.from_residual-in_err-word-in-Some-transaction.ensures.1 by.moments;
  ready = err-on _ _ c.from_residual-in_err-word-in-Some-transaction.result c.from_residual-in_err-word-in-Some-transaction.ensures.1;
  cause = search rules;
  cells = err-on _ _ c.from_residual-in_err-word-in-Some-transaction.result c.from_residual-in_err-word-in-Some-transaction.ensures.1;
  behind = search rules;
}

pub returns-clause-carries : goal.returns-clause-carries
returns-clause-carries g c = record {
  performs = λ m from.
      let old = g.B.Eeprom.chip c.args.bench.now in
      let there = index-there c.self.inside.sessions.value c.from.result c.index-sessions-from.result (omega (arith, c.from.ensures, c.requires.asked.formed.channel, c.self.invariant.0)) (rw c.deref-sessions.ensures at c.index-sessions-from.is) ∙ (c.index-sessions-from.is ∙ c.in-Some.is) in
      let reads = cursor-card c.args.self.now old m c.self.inside.sessions.value c.self.inside.chains.value c.args.command.now.channel c.in-Some.session from (ap (λ (kept : Kept). kept.sessions) (sym (c.self.view_is ∙ c.known_actor-known.ensures.kept))) (c.self.invariant.0 ∙ sym c.self.invariant.1)
      (rw c.from.ensures at there) in
      elim c.match-transaction.branch [
        | in-None+in_ok-word-in-None w ↦ (
            let new = g.B.Eeprom.chip w.change.new.bench in
            let word = w.in_ok-word-in-None.word in
            rw (w.bench-is, w.word-is) (Performs-at_once (record c.args.self.now { found = c.known_actor-known.new.self.found }) c.settle.new.self w.change.new.tables.store w.change.new.tables.index old new m c.args.command.now.channel c.args.command.now.operation c.proved_user-user.result c.in-Some.session.cursor (Ok word) (StandsOver-found c.args.self.now c.known_actor-known.new.self.found old c.requires.asked.ready.stands) (record { held = HoldsMachine-found c.args.self.now c.known_actor-known.new.self.found old m from.held; valid = from.valid })
            (ap (λ (kept : Kept). kept.transaction) (sym (c.self.view_is ∙ c.known_actor-known.ensures.kept)) ∙ w.in-None.is) (c.proved_user-user.ensures ∙ ap (λ (kept : Kept). opened.proved_user (opened.session_on kept.sessions c.args.command.now.channel)) c.known_actor-known.ensures.kept) reads
            ((rw (w.word-is, w.self-inside-is, w.change.ensures.scan_same, c.deref_mut.ensures.value) at c.settle.ensures) ∙ ap (λ (kept : Kept). settled word (record kept { store = w.change.new.tables.store; index = w.change.new.tables.index }) c.args.command.now.channel) (c.self.view_is ∙ c.known_actor-known.ensures.kept))
            (subst (λ (kept : Kept). (db : Database) → IsAtRest kept.store old db → IfSome c.in-Some.session.cursor (IsCursorOf db)
            → Changes db (edits_of db (acting db c.proved_user-user.result) c.in-Some.session.cursor c.args.command.now.operation) (Ok word) w.change.new.tables.store old new) (c.self.view_is ∙ c.known_actor-known.ensures.kept) w.in_ok-word-in-None.ensures.changes)))
        | in-Some-transaction+in_ok-word-in-Some-transaction w ↦ (
            let new = g.B.Eeprom.chip w.change_within.new.bench in
            let word = w.in_ok-word-in-Some-transaction.word in
            rw (w.bench-is, w.word-is) (Performs-in_transaction (record c.args.self.now { found = c.known_actor-known.new.self.found }) c.settle.new.self w.change_within.new.tables.store w.change_within.new.tables.index old new m c.args.command.now.channel w.in-Some-transaction.field-0 c.args.command.now.operation c.proved_user-user.result c.in-Some.session.cursor
            (Ok word) (StandsOver-found c.args.self.now c.known_actor-known.new.self.found old c.requires.asked.ready.stands) (record { held = HoldsMachine-found c.args.self.now c.known_actor-known.new.self.found old m from.held; valid = from.valid }) (ap (λ (kept : Kept). kept.transaction) (sym (c.self.view_is ∙ c.known_actor-known.ensures.kept)) ∙ w.in-Some-transaction.is) c.requires.mine (c.proved_user-user.ensures ∙ ap (λ (kept : Kept). opened.proved_user (opened.session_on kept.sessions c.args.command.now.channel)) c.known_actor-known.ensures.kept) reads
            ((rw (w.word-is, w.self-inside-is, w.change_within.ensures.scan_same, c.deref_mut.ensures.value) at c.settle.ensures) ∙ ap (λ (kept : Kept). settled word (record kept { store = w.change_within.new.tables.store; index = w.change_within.new.tables.index }) c.args.command.now.channel) (c.self.view_is ∙ c.known_actor-known.ensures.kept))
            (subst (λ (kept : Kept). (db : Database) → IsHeld kept.store Working old db → IfSome c.in-Some.session.cursor (IsCursorOf db)
            → ConcludesWithin db (edits_of db (acting db c.proved_user-user.result) c.in-Some.session.cursor c.args.command.now.operation) word kept.store w.change_within.new.tables.store old new) (c.self.view_is ∙ c.known_actor-known.ensures.kept) w.in_ok-word-in-Some-transaction.ensures.changes)
            (subst (λ (kept : Kept). slots_of w.change_within.new.tables.store Committed new ≡ slots_of kept.store Committed old) (c.self.view_is ∙ c.known_actor-known.ensures.kept) w.in_ok-word-in-Some-transaction.ensures.committed)
            (subst (λ (kept : Kept). GoesOn kept.store w.change_within.new.tables.store old new) (c.self.view_is ∙ c.known_actor-known.ensures.kept) w.in_ok-word-in-Some-transaction.ensures.goes_on) w.in_ok-word-in-Some-transaction.ensures.moments))
      ];
  ready = (let old = g.B.Eeprom.chip c.args.bench.now in
      elim c.match-transaction.branch [
        | in-None+in_ok-word-in-None w ↦ (
            let changed : Kept = record (record c.args.self.now { found = c.known_actor-known.new.self.found }) { store = w.change.new.tables.store; index = w.change.new.tables.index } in
            let is = (rw (w.word-is, w.self-inside-is, w.change.ensures.scan_same, c.deref_mut.ensures.value) at c.settle.ensures) ∙ ap (λ (kept : Kept). settled w.in_ok-word-in-None.word (record kept { store = w.change.new.tables.store; index = w.change.new.tables.index }) c.args.command.now.channel) (c.self.view_is ∙ c.known_actor-known.ensures.kept) in
            let new = g.B.Eeprom.chip w.change.new.bench in
            let ensures = w.in_ok-word-in-None.ensures in
            rw w.bench-is (subst (λ (kept : Kept). StandsOver kept new) (sym is) (StandsOver-settled w.in_ok-word-in-None.word changed c.args.command.now.channel new
            (StandsOver-idle changed new c.requires.asked.ready.stands.live (ap (λ (kept : Kept). kept.transaction) (sym (c.self.view_is ∙ c.known_actor-known.ensures.kept)) ∙ w.in-None.is) ensures.idle ensures.ends.stand.over ensures.holds (ensures.ends.stand.together ∙ ensures.idle) ensures.ends.stand.index))))
        | in-Some-transaction+in_ok-word-in-Some-transaction w ↦ (
            let changed : Kept = record (record c.args.self.now { found = c.known_actor-known.new.self.found }) { store = w.change_within.new.tables.store; index = w.change_within.new.tables.index } in
            let is = (rw (w.word-is, w.self-inside-is, w.change_within.ensures.scan_same, c.deref_mut.ensures.value) at c.settle.ensures) ∙ ap (λ (kept : Kept). settled w.in_ok-word-in-Some-transaction.word (record kept { store = w.change_within.new.tables.store; index = w.change_within.new.tables.index }) c.args.command.now.channel) (c.self.view_is ∙ c.known_actor-known.ensures.kept) in
            let new = g.B.Eeprom.chip w.change_within.new.bench in
            let ensures = w.in_ok-word-in-Some-transaction.ensures in
            let ready = StandsOver-found c.args.self.now c.known_actor-known.new.self.found old c.requires.asked.ready.stands in
            let there : is_some c.args.self.now.transaction ≡ true = ap is_some (ap (λ (kept : Kept). kept.transaction) (sym (c.self.view_is ∙ c.known_actor-known.ensures.kept)) ∙ w.in-Some-transaction.is) in
            let goes_on = subst (λ (kept : Kept). GoesOn kept.store w.change_within.new.tables.store old new) (c.self.view_is ∙ c.known_actor-known.ensures.kept) ensures.goes_on in
            rw w.bench-is (subst (λ (kept : Kept). StandsOver kept new) (sym is) (StandsOver-settled w.in_ok-word-in-Some-transaction.word changed c.args.command.now.channel new
            (StandsOver-within (record c.args.self.now { found = c.known_actor-known.new.self.found }) w.change_within.new.tables.store w.change_within.new.tables.index old new ready there
            goes_on (subst (λ (kept : Kept). slots_of w.change_within.new.tables.store Committed new ≡ slots_of kept.store Committed old) (c.self.view_is ∙ c.known_actor-known.ensures.kept) ensures.committed)
            ensures.works (ensures.ends.stand.together ∙ (goes_on.begun ∙ (ready.begun ∙ there))) ensures.ends.stand.index))))
      ]);
  cause = search rules;
  cells = search rules;
  behind = (elim c.match-transaction.branch [
    | in-None+in_ok-word-in-None w ↦ rw w.bench-is (subst (λ (kept : Kept). Keeps (drop (image_size kept.store.chains.cells)) (g.B.Eeprom.chip c.args.bench.now) (g.B.Eeprom.chip w.change.new.bench)) (c.self.view_is ∙ c.known_actor-known.ensures.kept) w.change.ensures.ends.behind)
    | in-Some-transaction+in_ok-word-in-Some-transaction w ↦ rw w.bench-is (subst (λ (kept : Kept). Keeps (drop (image_size kept.store.chains.cells)) (g.B.Eeprom.chip c.args.bench.now) (g.B.Eeprom.chip w.change_within.new.bench)) (c.self.view_is ∙ c.known_actor-known.ensures.kept) w.change_within.ensures.ends.behind)
  ]);
}

pub returns-clause-found : goal.returns-clause-found
returns-clause-found g c = λ rows.
    let old = g.B.Eeprom.chip c.args.bench.now in
    elim c.match-transaction.branch [
      | in-None+in_ok-word-in-None w ↦ (
          let word = w.in_ok-word-in-None.word in
          let new = g.B.Eeprom.chip w.change.new.bench in
          let is = (rw (w.word-is, w.self-inside-is, w.change.ensures.scan_same, c.deref_mut.ensures.value) at c.settle.ensures) ∙ ap (λ (kept : Kept). settled word (record kept { store = w.change.new.tables.store; index = w.change.new.tables.index }) c.args.command.now.channel) (c.self.view_is ∙ c.known_actor-known.ensures.kept) in
          rw w.bench-is (subst (λ (kept : Kept). FindsAgain kept new) (sym is)
          (found-at_once word (record c.args.self.now { found = c.known_actor-known.new.self.found }) w.change.new.tables.store w.change.new.tables.index c.args.command.now.channel old new (ap (λ (kept : Kept). kept.transaction) (sym (c.self.view_is ∙ c.known_actor-known.ensures.kept)) ∙ w.in-None.is)
          (subst (λ (kept : Kept). KeepsCatalog Committed kept.store w.change.new.tables.store old new) (c.self.view_is ∙ c.known_actor-known.ensures.kept) (w.in_ok-word-in-None.ensures.catalog rows)) (subst (λ (kept : Kept). FindsAgain kept old) c.known_actor-known.ensures.kept (c.known_actor-known.ensures.found old c.requires.asked.ready.found)))))
      | in-Some-transaction+in_ok-word-in-Some-transaction w ↦ (
          let word = w.in_ok-word-in-Some-transaction.word in
          let new = g.B.Eeprom.chip w.change_within.new.bench in
          let ensures = w.in_ok-word-in-Some-transaction.ensures in
          let is = (rw (w.word-is, w.self-inside-is, w.change_within.ensures.scan_same, c.deref_mut.ensures.value) at c.settle.ensures) ∙ ap (λ (kept : Kept). settled word (record kept { store = w.change_within.new.tables.store; index = w.change_within.new.tables.index }) c.args.command.now.channel) (c.self.view_is ∙ c.known_actor-known.ensures.kept) in
          rw w.bench-is (subst (λ (kept : Kept). FindsAgain kept new) (sym is)
          (found-within word (record c.args.self.now { found = c.known_actor-known.new.self.found }) w.change_within.new.tables.store w.change_within.new.tables.index c.args.command.now.channel w.in-Some-transaction.field-0 old new (ap (λ (kept : Kept). kept.transaction) (sym (c.self.view_is ∙ c.known_actor-known.ensures.kept)) ∙ w.in-Some-transaction.is)
          (subst (λ (kept : Kept). KeepsCatalog Working kept.store w.change_within.new.tables.store old new) (c.self.view_is ∙ c.known_actor-known.ensures.kept) (ensures.catalog rows))
          (subst (λ (kept : Kept). slots_of w.change_within.new.tables.store Committed new ≡ slots_of kept.store Committed old) (c.self.view_is ∙ c.known_actor-known.ensures.kept) ensures.committed)
          (subst (λ (kept : Kept). GoesOn kept.store w.change_within.new.tables.store old new) (c.self.view_is ∙ c.known_actor-known.ensures.kept) ensures.goes_on) (subst (λ (kept : Kept). FindsAgain kept old) c.known_actor-known.ensures.kept (c.known_actor-known.ensures.found old c.requires.asked.ready.found)))))
    ]

pub change-requires-clause-right : goal.change-requires-clause-right
change-requires-clause-right g c = λ db held.
    let old = g.B.Eeprom.chip c.args.bench.now in
    let channel = c.args.command.now.channel in
    let view = c.self.view_is ∙ c.known_actor-known.ensures.kept in
    let there = index-there c.self.inside.sessions.value c.from.result c.index-sessions-from.result (omega (arith, c.from.ensures, c.requires.asked.formed.channel, c.self.invariant.0)) (rw c.deref-sessions.ensures at c.index-sessions-from.is) ∙ (c.index-sessions-from.is ∙ c.in-Some.is) in
    let cursors = ap (λ (kept : Kept). opened.cursor_on kept.sessions channel) (sym view)
    ∙ cursor-seen c.self.inside.sessions.value c.self.inside.chains.value channel c.in-Some.session (c.self.invariant.0 ∙ sym c.self.invariant.1) (rw c.from.ensures at there) in
    let user = c.proved_user-user.ensures ∙ ap (λ (kept : Kept). opened.proved_user (opened.session_on kept.sessions channel)) c.known_actor-known.ensures.kept in
    let side : side_of c.args.self.now.transaction channel ≡ Committed = ap (λ (own : Option ℕ). side_of own channel) (ap (λ (kept : Kept). kept.transaction) (sym view) ∙ c.in-None.is) in
    let here = subst (λ (side : Side). IsHeld c.args.self.now.store side old db) (sym side) (subst (λ (kept : Kept). IsHeld kept.store Committed old db) view held) in
    subst (λ (user : Option ℕ). IsRightFor db (acting db user) c.deref_mut.result.now.scan c.in-Some.session.cursor) (sym user)
    (subst (λ (scan : Option scans.Found). IsRightFor db (acting db (opened.proved_user (opened.session_on c.args.self.now.sessions channel))) scan c.in-Some.session.cursor)
    (ap (λ (kept : Kept). kept.found.scan) (sym c.self.view_is) ∙ ap (λ (f : Found). f.scan) (sym c.deref_mut.ensures.value))
    (subst (IsRightFor db (acting db (opened.proved_user (opened.session_on c.args.self.now.sessions channel))) c.known_actor-known.new.self.found.scan) cursors (c.known_actor-known.ensures.right old db c.requires.asked.ready.found here)))

pub change_within-requires-clause-right : goal.change_within-requires-clause-right
change_within-requires-clause-right g c = λ db held.
    let old = g.B.Eeprom.chip c.args.bench.now in
    let channel = c.args.command.now.channel in
    let view = c.self.view_is ∙ c.known_actor-known.ensures.kept in
    let there = index-there c.self.inside.sessions.value c.from.result c.index-sessions-from.result (omega (arith, c.from.ensures, c.requires.asked.formed.channel, c.self.invariant.0)) (rw c.deref-sessions.ensures at c.index-sessions-from.is) ∙ (c.index-sessions-from.is ∙ c.in-Some.is) in
    let cursors = ap (λ (kept : Kept). opened.cursor_on kept.sessions channel) (sym view)
    ∙ cursor-seen c.self.inside.sessions.value c.self.inside.chains.value channel c.in-Some.session (c.self.invariant.0 ∙ sym c.self.invariant.1) (rw c.from.ensures at there) in
    let user = c.proved_user-user.ensures ∙ ap (λ (kept : Kept). opened.proved_user (opened.session_on kept.sessions channel)) c.known_actor-known.ensures.kept in
    let side : side_of c.args.self.now.transaction channel ≡ Working = side-own c.args.self.now.transaction c.in-Some-transaction.field-0 channel (ap (λ (kept : Kept). kept.transaction) (sym view) ∙ c.in-Some-transaction.is) c.requires.mine in
    let here = subst (λ (side : Side). IsHeld c.args.self.now.store side old db) (sym side) (subst (λ (kept : Kept). IsHeld kept.store Working old db) view held) in
    subst (λ (user : Option ℕ). IsRightFor db (acting db user) c.deref_mut.result.now.scan c.in-Some.session.cursor) (sym user)
    (subst (λ (scan : Option scans.Found). IsRightFor db (acting db (opened.proved_user (opened.session_on c.args.self.now.sessions channel))) scan c.in-Some.session.cursor)
    (ap (λ (kept : Kept). kept.found.scan) (sym c.self.view_is) ∙ ap (λ (f : Found). f.scan) (sym c.deref_mut.ensures.value))
    (subst (IsRightFor db (acting db (opened.proved_user (opened.session_on c.args.self.now.sessions channel))) c.known_actor-known.new.self.found.scan) cursors (c.known_actor-known.ensures.right old db c.requires.asked.ready.found here)))

pub change-requires-clause-known : goal.change-requires-clause-known
change-requires-clause-known g c = λ db held.
    let old = g.B.Eeprom.chip c.args.bench.now in
    let channel = c.args.command.now.channel in
    let view = c.self.view_is ∙ c.known_actor-known.ensures.kept in
    let user = c.proved_user-user.ensures ∙ ap (λ (kept : Kept). opened.proved_user (opened.session_on kept.sessions channel)) c.known_actor-known.ensures.kept in
    let side : side_of c.args.self.now.transaction channel ≡ Committed = ap (λ (own : Option ℕ). side_of own channel) (ap (λ (kept : Kept). kept.transaction) (sym view) ∙ c.in-None.is) in
    let here = subst (λ (side : Side). IsHeld c.args.self.now.store side old db) (sym side) (subst (λ (kept : Kept). IsHeld kept.store Committed old db) view held) in
    rw user (c.known_actor-known.ensures.actor old db c.requires.asked.ready.found here)

pub change_within-requires-clause-known : goal.change_within-requires-clause-known
change_within-requires-clause-known g c = λ db held.
    let old = g.B.Eeprom.chip c.args.bench.now in
    let channel = c.args.command.now.channel in
    let view = c.self.view_is ∙ c.known_actor-known.ensures.kept in
    let user = c.proved_user-user.ensures ∙ ap (λ (kept : Kept). opened.proved_user (opened.session_on kept.sessions channel)) c.known_actor-known.ensures.kept in
    let side : side_of c.args.self.now.transaction channel ≡ Working = side-own c.args.self.now.transaction c.in-Some-transaction.field-0 channel (ap (λ (kept : Kept). kept.transaction) (sym view) ∙ c.in-Some-transaction.is) c.requires.mine in
    let here = subst (λ (side : Side). IsHeld c.args.self.now.store side old db) (sym side) (subst (λ (kept : Kept). IsHeld kept.store Working old db) view held) in
    rw user (c.known_actor-known.ensures.actor old db c.requires.asked.ready.found here)

pub returns-clause-gone : goal.returns-clause-gone
returns-clause-gone g c = λ m name from closed deletes.
    let old = g.B.Eeprom.chip c.args.bench.now in
    let view = c.self.view_is ∙ c.known_actor-known.ensures.kept in
    elim c.match-transaction.branch [
      | in-None+in_ok-word-in-None w ↦ rw (w.word-is, w.gone-is) (w.in_ok-word-in-None.ensures.gone m.committed name (subst (λ (kept : Kept). IsAtRest kept.store old m.committed) (sym view) (IsAtRest-at c.args.self.now old m c.requires.asked.ready.stands from)) deletes)
      | in-Some-transaction+in_ok-word-in-Some-transaction w ↦ (let other = sym closed ∙ (ap (λ (kept : Kept). kept.transaction) (sym view) ∙ w.in-Some-transaction.is) in absurd cc)
    ]
