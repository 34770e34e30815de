-- What a command does, by the ways in which it ends.
use Rattle.std.proofs.Common.{◌≡◌, ℕ, Bool, true, false, List, [], ◌∷◌, length, Option, Some, None, Result, Ok, Err, if◌then◌else◌, refl, sym, ap, subst, ◌==◌, ◌∙◌, arith}
use Rattle.std.specs.Prelude.{IfOk, IfSome, OnOk, option_and_then, option_map, slice_get, slice_set}
use Rattle.std.specs.Option.{option_map_or, option_flatten}
use Rattle.eeprom.specs.declared.EepromFault.{EepromFault}
use Rattle.eeprom.specs.Chip.{Chip, Becomes, RisesAtMost}
use Rattle.record_store.specs.Held.{Held}
use Rattle.scql_base.specs.declared.cursor.Cursor.{Cursor}
use Rattle.scql_base.specs.declared.cursor.PresentedUser.{PresentedUser}
use Rattle.scql_base.specs.declared.operation.Operation.{Operation}
use Rattle.scql_base.specs.declared.words.Actor.{Actor}
use Rattle.scql_base.specs.declared.words.Actor.TheVariants.{Public}
use Rattle.scql_base.specs.declared.words.StatusWord.{StatusWord}
use Rattle.scql_base.specs.Words.{done}
use Rattle.scql_model.specs.Bound.{octets_changed, or_nothing}
use Rattle.scql_model.specs.Changing.{edits_of, with_edits}
use Rattle.scql_model.specs.Database.{Database}
use Rattle.scql_model.specs.Edits.{Edit, octets_for}
use Rattle.scql_model.specs.Machine.{Machine, Session, Transaction, actor, actor_of, base, session_for, session_of}
use Rattle.scql_model.specs.Refusals.{◌>>=◌}
use Rattle.scql_model.specs.Replies.{said}
use Rattle.scql_model.specs.Sessions as sessions
use Rattle.scql_model.specs.Sessions.{cursor_of, without_pending}
use Rattle.scql_model.specs.Step.{Answer, answered, changed, done_with, session_named, user_presented}
use Rattle.scql_model.proofs.ChangingSessions.{changing_session-set}
use Rattle.scql_model.proofs.OperationLaws.{gives-edits_of}
use Rattle.scql_model.proofs.RefusalWords.{Anything, OrRefuses, behind, gives-with_edits, not_done-refusal}
use Rattle.db_access.specs.Presenting.{session_presented}
use Rattle.db_access.specs.declared.presenting.Presented.{Presented as Found}
use Rattle.card.specs.Answering.{HoldsAnswer, Performs, changing_session, committed_at_once, replied, settled, with_session, with_session_for}
use Rattle.row_index.specs.Index.{Index}
use Rattle.record_table.specs.AtRest.{IsAtRest, LeavesOneOf}
use Rattle.card.specs.Card.{Kept, StandsOver, IsAt, HoldsMachine, WorksOn, committed_slots}
use Rattle.card.specs.declared.found.Found as found
use Rattle.card.specs.Acting.{acting}
use Rattle.card.specs.Changing.{Concludes, Changes, new_of, octets_of, commits_of}
use Rattle.card.specs.Sessions.{proved_stamp, proved_user}
use Rattle.card.proofs.Leaving.{rises-none, unwritten_leaves}
use Rattle.card.proofs.SlotCount.{length-committed_slots}
use Rattle.card.proofs.Told.{if_some-at}
use Rattle.apdu_chain.proofs.CarriedOut.{committed-base}
use Rattle.card.proofs.FreeCommands.{changed-outcome, octets-changed}

-- a command that writes nothing
pub Performs-unwritten : (card new_card : Kept) (old new : Chip) (m : Machine) (answer : Answer) (most : ℕ) (body : List ℕ) (result : Result StatusWord EepromFault) → StandsOver card old → IsAt card old m → new ≡ old
    → IfOk result (λ word. HoldsAnswer answer (replied body word) new_card new) → Performs m answer most body result new_card old new
Performs-unwritten card new_card old new m answer most body result ready at same step = record {
  step = step;
  moments = unwritten_leaves card old new m answer.commits ready at.held at.valid.committed same;
  unwritten = go result;
  octets = risen result;
}
  where
    risen : (r : Result StatusWord EepromFault) → OnOk r (Becomes (RisesAtMost most) old.written new.written)
    risen (Ok word) = rises-none most old new same
    risen (Err fault) = tt

    go : (r : Result StatusWord EepromFault) → OnOk r (most ≡ 0 → new ≡ old)
    go (Ok word) = λ none. same
    go (Err fault) = tt

-- a command from a machine that has committed the same
pub Performs-from : (m next : Machine) (answer : Answer) (most : ℕ) (body : List ℕ) (result : Result StatusWord EepromFault) (card : Kept) (old new : Chip) → next.committed ≡ m.committed
    → Performs next answer most body result card old new → Performs m answer most body result card old new
Performs-from m next answer most body result card old new same performs = record {
  step = performs.step;
  moments = subst (λ (db : Database). LeavesOneOf (db ∷ answer.commits) old new) same performs.moments;
  unwritten = performs.unwritten;
  octets = performs.octets;
}

-- What was found is no part of a machine.
pub HoldsMachine-found : (card : Kept) (kept : found.Found) (chip : Chip) (m : Machine) → HoldsMachine card chip m → HoldsMachine (record card { found = kept }) chip m
HoldsMachine-found card kept chip m at =
    record { slots = at.slots; committed = at.committed; limit = at.limit; holds = at.holds; transaction = at.transaction; works = at.works; sessions = at.sessions }

pub Performs-found : (m : Machine) (answer : Answer) (most : ℕ) (body : List ℕ) (word : StatusWord) (card : Kept) (kept : found.Found) (old new : Chip) → Performs m answer most body (Ok word) card old new
    → Performs m answer most body (Ok word) (record card { found = kept }) old new
Performs-found m answer most body word card kept old new performs = record {
  step = record { reply = performs.step.reply; held = HoldsMachine-found card kept new answer.machine performs.step.held };
  moments = performs.moments;
  unwritten = performs.unwritten;
  octets = performs.octets;
}

-- A card that holds a machine holds the machine's database,
pub IsAtRest-at : (card : Kept) (chip : Chip) (m : Machine) → StandsOver card chip → IsAt card chip m → IsAtRest card.store chip m.committed
unfolding committed_slots
IsAtRest-at card chip m ready from =
    let at = from.held in
    let counted : length at.slots ≡ card.store.chains.cells =
    if_some-at (λ slots. length slots ≡ card.store.chains.cells) (committed_slots card.store chip.image) at.slots at.committed (length-committed_slots card.store chip.image ready.over.stands) in
    record { slots = at.slots; told = at.committed; cells = sym at.holds.cells ∙ counted; limit = at.limit; holds = at.holds; valid = from.valid.committed }

-- and one that holds it, without a transaction, holds the machine.
pub HoldsMachine-rest : (card : Kept) (store : Held) (index : Index) (chip : Chip) (m : Machine) (db : Database) → m.transaction ≡ None → card.transaction ≡ None → m.sessions ≡ card.sessions → IsAtRest store chip db
    → HoldsMachine (record card { store = store; index = index }) chip (record m { committed = db })
unfolding committed_slots
HoldsMachine-rest card store index chip m db none closed sessions rest = record {
  slots = rest.slots;
  committed = rest.told;
  limit = rest.limit;
  holds = rest.holds;
  transaction = ap (option_map (λ (t : Transaction). t.channel)) none ∙ sym closed;
  works = subst (λ (t : Option Transaction). IfSome t (WorksOn store chip rest.slots)) (sym none) tt;
  sessions = sessions;
}

-- The sessions of a card that holds a machine become others, and so do the machine's.
pub HoldsMachine-sessions : (change : List (Option Session) → List (Option Session)) (card : Kept) (chip : Chip) (m : Machine) → HoldsMachine card chip m
    → HoldsMachine (record card { sessions = change card.sessions }) chip (record m { sessions = change m.sessions })
HoldsMachine-sessions change card chip m at = record {
  slots = at.slots;
  committed = at.committed;
  limit = at.limit;
  holds = at.holds;
  transaction = at.transaction;
  works = at.works;
  sessions = ap change at.sessions;
}

-- a channel has this session, or none,
pub HoldsMachine-set : (card : Kept) (chip : Chip) (m : Machine) (channel : ℕ) (session : Option Session) → HoldsMachine card chip m
    → HoldsMachine (with_session card channel session) chip (sessions.with_session m channel session)
HoldsMachine-set card chip m channel session at = HoldsMachine-sessions (λ others. slice_set others channel session) card chip m at

-- or its session changes
pub HoldsMachine-changing : (change : Session → Session) (card : Kept) (chip : Chip) (m : Machine) (channel : ℕ) → HoldsMachine card chip m
    → HoldsMachine (changing_session change card channel) chip (sessions.changing_session change m channel)
HoldsMachine-changing change card chip m channel at =
    HoldsMachine-sessions (λ others. slice_set others channel (option_map change (option_flatten (slice_get others channel)))) card chip m at

-- what is done drops what is pending on its channel
pub HoldsAnswer-done : (card after : Kept) (chip : Chip) (m : Machine) (channel : ℕ) (commits : List Database) → HoldsMachine card chip m → after ≡ changing_session without_pending card channel
    → HoldsAnswer (done_with m channel commits) (said done) after chip
HoldsAnswer-done card after chip m channel commits at is =
    subst (λ (kept : Kept). HoldsAnswer (done_with m channel commits) (said done) kept chip) (sym is) (record { reply = refl; held = HoldsMachine-changing without_pending card chip m channel at })

-- For whom a channel acts, by the stamp of its proved user.
actor-stamped : (db : Database) (o : Option PresentedUser) → option_map_or (actor_of db) o Public ≡ acting db (option_and_then proved_stamp o)
actor-stamped db None = refl
actor-stamped db (Some p) = chosen p.proved
  where
    chosen : (b : Bool) → (if b then acting db (Some p.stamp) else Public) ≡ acting db (if b then Some p.stamp else None)
    chosen true = refl
    chosen false = refl

pub actor-at : (card : Kept) (chip : Chip) (m : Machine) (channel : ℕ) (user : Option ℕ) → HoldsMachine card chip m → user ≡ proved_user (option_flatten (slice_get card.sessions channel))
    → actor m channel ≡ acting (base m channel) user
actor-at card chip m channel user at is =
    let session : session_of m channel ≡ option_flatten (slice_get card.sessions channel) = ap (λ (sessions : List (Option Session)). option_flatten (slice_get sessions channel)) at.sessions in
    actor-stamped (base m channel) (option_and_then (λ (s : Session). s.user) (session_of m channel))
    ∙ ap (acting (base m channel)) (ap proved_user session ∙ sym is)

-- a change for which nothing is written commits nothing
none-committed : (db : Database) (edited : Result (List Edit) StatusWord) → octets_of db edited ≡ 0 → commits_of (new_of db edited) ≡ []
none-committed db (Err word) none = refl
none-committed db (Ok edits) none = of (with_edits db edits) none
  where
    of : (outcome : Result Database StatusWord) → or_nothing (outcome >>= λ (new : Database). Ok (octets_for edits)) ≡ 0 → commits_of outcome ≡ []
    of (Ok new) none = absurd (omega (arith, none))
    of (Err word) none = refl

-- a refusal of a change isn't 9000
pub refused-not_done : (db : Database) (actor : Actor) (cursor : Option Cursor) (operation : Operation) (refused : StatusWord) → new_of db (edits_of db actor cursor operation) ≡ Err refused
    → (refused.word == done.word) ≡ false
refused-not_done db actor cursor operation refused is =
    let gives = behind Anything (edits_of db actor cursor operation) (with_edits db) (gives-edits_of db actor cursor operation) (λ edits _. gives-with_edits db edits) in
    not_done-refusal refused (subst (OrRefuses Anything) is gives)

-- What a change that is committed at once does to the store, it does to the machine. Where it is done, nothing is pending on its channel any more.
pub Performs-changed : (card after : Kept) (store : Held) (index : Index) (old new : Chip) (m : Machine) (channel : ℕ) (operation : Operation) (user : Option ℕ) (result : Result StatusWord EepromFault) → HoldsMachine card old m
    → m.transaction ≡ None → card.transaction ≡ None → user ≡ proved_user (option_flatten (slice_get card.sessions channel)) → IfOk result (λ word. after ≡ settled word (record card { store = store; index = index }) channel)
    → Changes m.committed (edits_of m.committed (acting m.committed user) (cursor_of m channel) operation) result store old new
    → Performs m (answered m (changed m channel operation)) (or_nothing (octets_changed m channel operation)) [] result after old new
Performs-changed card after store index old new m channel operation user result at none closed is ended changes =
    let edited = edits_of m.committed (actor m channel) (cursor_of m channel) operation in
    let by : Changes m.committed edited result store old new
    = subst (λ (who : Actor). Changes m.committed (edits_of m.committed who (cursor_of m channel) operation) result store old new) (sym (actor-at card old m channel user at is ∙ ap (λ (db : Database). acting db user) (committed-base m channel none))) changes in
    subst (λ (o : Result Answer StatusWord). Performs m (answered m o) (or_nothing (octets_changed m channel operation)) [] result after old new)
    (sym (changed-outcome m channel operation none))
    (subst (λ (most : ℕ). Performs m (answered m (committed_at_once m channel (new_of m.committed edited))) most [] result after old new)
    (sym (octets-changed m channel operation none)) (record {
      step = each result ended by.step;
      moments = subst (λ (dbs : List Database). LeavesOneOf (m.committed ∷ dbs) old new) (sym (committed (new_of m.committed edited))) by.moments;
      unwritten = idle result edited by.unwritten;
      octets = by.octets;
    }))
  where
    concluded : (outcome : Result Database StatusWord) (word : StatusWord) → ((refused : StatusWord) → outcome ≡ Err refused → (refused.word == done.word) ≡ false)
        → after ≡ settled word (record card { store = store; index = index }) channel → Concludes m.committed outcome word store new → HoldsAnswer (answered m (committed_at_once m channel outcome)) (said word) after new
    concluded (Ok db) word refuses ended concludes =
        let there : (word.word == done.word) ≡ true = ap (λ (w : StatusWord). w.word == done.word) concludes.0 in
        let dropped = rw there at ended in
        subst (λ (w : StatusWord). HoldsAnswer (answered m (committed_at_once m channel (Ok db))) (said w) after new) (sym concludes.0)
        (HoldsAnswer-done (record card { store = store; index = index }) after new (record m { committed = db }) channel (db ∷ []) (HoldsMachine-rest card store index new m db none closed at.sessions concludes.1) dropped)
    concluded (Err refused) word refuses ended concludes =
        let there : (word.word == done.word) ≡ false = ap (λ (w : StatusWord). w.word == done.word) concludes.0 ∙ refuses refused refl in
        let stays = rw there at ended in
        record {
          reply = ap said concludes.0;
          held = subst (λ (kept : Kept). HoldsMachine kept new m) (sym stays) (HoldsMachine-rest card store index new m m.committed none closed at.sessions concludes.1);
        }

    each : (r : Result StatusWord EepromFault) → IfOk r (λ word. after ≡ settled word (record card { store = store; index = index }) channel)
        → IfOk r (λ word. Concludes m.committed (new_of m.committed (edits_of m.committed (actor m channel) (cursor_of m channel) operation)) word store new)
        → IfOk r (λ word. HoldsAnswer (answered m (committed_at_once m channel (new_of m.committed (edits_of m.committed (actor m channel) (cursor_of m channel) operation)))) (replied [] word) after new)
    each (Ok word) ended holds =
        concluded (new_of m.committed (edits_of m.committed (actor m channel) (cursor_of m channel) operation)) word
        (λ refused is. refused-not_done m.committed (actor m channel) (cursor_of m channel) operation refused is) ended holds
    each (Err fault) ended holds = tt

    committed : (outcome : Result Database StatusWord) → (answered m (committed_at_once m channel outcome)).commits ≡ commits_of outcome
    committed (Ok db) = refl
    committed (Err refused) = refl

    idle : (r : Result StatusWord EepromFault) (edited : Result (List Edit) StatusWord) → OnOk r (commits_of (new_of m.committed edited) ≡ [] → new ≡ old) → OnOk r (octets_of m.committed edited ≡ 0 → new ≡ old)
    idle (Ok word) edited same = λ none. same (none-committed m.committed edited none)
    idle (Err fault) edited same = tt

-- PRESENT USER, by who was found.
module _ (card : Kept) (old new : Chip) (m : Machine) (channel : ℕ) (name : List ℕ) (found : Found) (at : HoldsMachine card old m) (none : m.transaction ≡ None) (same : new ≡ old) (is : session_presented found ≡ session_named m.committed name) where
  presented-by : (outcome : Result Session StatusWord) → session_presented found ≡ outcome → user_presented m channel name ≡ (outcome >>= λ session. Ok (done_with (sessions.with_session m channel (Some session)) channel []))
  presented-by outcome was =
      ap (λ (db : Database). session_named db name >>= λ (session : Session). Ok (done_with (sessions.with_session m channel (Some session)) channel [])) (committed-base m channel none)
      ∙ ap (λ (o : Result Session StatusWord). o >>= λ (session : Session). Ok (done_with (sessions.with_session m channel (Some session)) channel [])) (sym is ∙ was)

  -- nobody has the name
  pub HoldsAnswer-unknown : (word : StatusWord) → session_presented found ≡ Err word → HoldsAnswer (answered m (user_presented m channel name)) (said word) card new
  HoldsAnswer-unknown word was =
      subst (λ (chip : Chip). HoldsAnswer (answered m (user_presented m channel name)) (said word) card chip) (sym same)
      (subst (λ (o : Result Answer StatusWord). HoldsAnswer (answered m o) (said word) card old) (sym (presented-by (Err word) was)) (record { reply = refl; held = at }))

  -- the session of the channel is a new one
  pub HoldsAnswer-presented : (after : Kept) (user : Option PresentedUser) → after ≡ with_session_for card channel user → session_presented found ≡ Ok (session_for user)
      → HoldsAnswer (answered m (user_presented m channel name)) (said done) after new
  HoldsAnswer-presented after user set was =
      let next : Machine = sessions.with_session m channel (Some (session_for user)) in
      let dropped : sessions.changing_session sessions.without_pending next channel ≡ next = changing_session-set sessions.without_pending m channel (Some (session_for user)) in
      subst (λ (kept : Kept). HoldsAnswer (answered m (user_presented m channel name)) (said done) kept new) (sym set)
      (subst (λ (chip : Chip). HoldsAnswer (answered m (user_presented m channel name)) (said done) (with_session_for card channel user) chip) (sym same)
      (subst (λ (o : Result Answer StatusWord). HoldsAnswer (answered m o) (said done) (with_session_for card channel user) old) (sym (presented-by (Ok (session_for user)) was))
      (record { reply = refl; held = subst (HoldsMachine (with_session_for card channel user) old) (sym dropped) (HoldsMachine-set card old m channel (Some (session_for user)) at) })))
