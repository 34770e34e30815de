-- DELETE USER on a card that holds a machine: it is a change, and then the sessions of the user are left.
use Rattle.std.proofs.Common.{◌≡◌, ◌<◌, ◌∙◌, ℕ, zero, suc, ◌==◌, Bool, true, false, List, [], ◌∷◌, ◌++◌, drop, get_or, length, map, set, take, arith, Option, Some, None, Result, Ok, Err, refl, sym, ap, subst}
use Rattle.std.specs.Prelude.{IfOk, option_map}
use Rattle.eeprom.specs.Chip.{Chip}
use Rattle.eeprom.specs.declared.EepromFault.{EepromFault}
use Rattle.scql_base.specs.declared.cursor.Cursor.{Cursor}
use Rattle.scql_base.specs.declared.operation.Operation.TheVariants.{DeleteUser}
use Rattle.scql_base.specs.declared.records.User.{User}
use Rattle.scql_base.specs.declared.words.Actor.{Actor}
use Rattle.scql_base.specs.declared.words.StatusWord.{StatusWord}
use Rattle.scql_base.specs.Words.{done, not_found}
use Rattle.scql_model.specs.Changing.{edits_of}
use Rattle.scql_model.specs.Database.{Database, user_named}
use Rattle.scql_model.specs.Machine.{Chain, Machine, Session, actor, base}
use Rattle.scql_model.specs.Refusals.{◌>>=◌, or_refused}
use Rattle.scql_model.specs.Replies.{Reply}
use Rattle.scql_model.specs.Sessions.{cursor_of, left_by, without_user}
use Rattle.scql_model.specs.Step.{Answer, answered, changed, user_and_sessions_deleted}
use Rattle.scql_model.specs.Users.{user_deleted}
use Rattle.card.specs.Answering.{HoldsAnswer, Performs, committed_at_once, replied}
use Rattle.card.specs.Card.{Kept, HoldsMachine}
use Rattle.card.specs.Changing.{gone_after, new_of}
use Rattle.card.specs.Proved.{presents}
use Rattle.card.specs.declared.found.Found.{Found}
use Rattle.card.specs.Sessions.{left_session, session_seen, sessions_of}
use Rattle.card.specs.declared.session.Session.{Session as Kept_session}
use Rattle.record_store.specs.Held.{Held}
use Rattle.row_index.specs.Index.{Index}
use Rattle.card.proofs.Performing.{HoldsMachine-sessions, refused-not_done}
use Rattle.apdu_chain.proofs.CarriedOut.{committed-base}
use Rattle.card.proofs.FreeCommands.{changed-outcome}

-- One session more is changed, of all in turn.
pub mapped-more : {X : Type 0} (f : X → X) (xs : List X) (i : ℕ) (d : X) → i < length xs
    → set (map f (take i xs) ++ drop i xs) i (f (get_or (map f (take i xs) ++ drop i xs) i d)) ≡ map f (take (suc i) xs) ++ drop (suc i) xs
mapped-more f [] i d lt = absurd (omega (arith, lt))
mapped-more f (x ∷ xs) zero d lt = refl
mapped-more f (x ∷ xs) (suc i) d lt = ap (λ rest. f x ∷ rest) (mapped-more f xs i d (omega (arith, lt)))

-- A session of the program that is left is seen as one that is.
left-seen : (stamp : ℕ) (chain : Option Chain) (s : Kept_session) → session_seen chain (left_session stamp s) ≡ left_by stamp (session_seen chain s)
left-seen stamp chain s = of (presents stamp s.user) refl
  where
    of : (b : Bool) → presents stamp s.user ≡ b → session_seen chain (left_session stamp s) ≡ left_by stamp (session_seen chain s)
    of true is = rw is refl
    of false is = rw is refl

sessions_of-left : (stamp : ℕ) (sessions : List (Option Kept_session)) (chains : List (Option Chain)) → sessions_of (map (option_map (left_session stamp)) sessions) chains ≡ map (option_map (left_by stamp)) (sessions_of sessions chains)
sessions_of-left stamp [] chains = refl
sessions_of-left stamp (session ∷ sessions) [] = refl
sessions_of-left stamp (None ∷ sessions) (chain ∷ chains) = ap (λ rest. None ∷ rest) (sessions_of-left stamp sessions chains)
sessions_of-left stamp (Some s ∷ sessions) (chain ∷ chains) =
    ap (λ (seen : Session). Some seen ∷ sessions_of (map (option_map (left_session stamp)) sessions) chains) (left-seen stamp chain s)
    ∙ ap (λ rest. Some (left_by stamp (session_seen chain s)) ∷ rest) (sessions_of-left stamp sessions chains)

pub card-left : (stamp : ℕ) (store : Held) (index : Index) (transaction : Option ℕ) (found : Found) (live : Bool) (sessions after : List (Option Kept_session)) (chains : List (Option Chain)) (card : Kept) → record { store = store; index = index; sessions = sessions_of sessions chains; transaction = transaction; found = found; live = live } ≡ card
    → after ≡ map (option_map (left_session stamp)) sessions
    → record { store = store; index = index; sessions = sessions_of after chains; transaction = transaction; found = found; live = live } ≡ record card { sessions = map (option_map (left_by stamp)) card.sessions }
card-left stamp store index transaction found live sessions after chains card is set =
    ap (λ (seen : List (Option Session)). let kept : Kept = record { store = store; index = index; sessions = seen; transaction = transaction; found = found; live = live } in kept)
    (ap (λ (after : List (Option Kept_session)). sessions_of after chains) set ∙ sessions_of-left stamp sessions chains)
    ∙ ap (λ (kept : Kept). record kept { sessions = map (option_map (left_by stamp)) kept.sessions }) is

-- a card whose sessions of a user are left
abbrev pub left_card : ℕ → Kept → Kept
left_card stamp card = record card { sessions = map (option_map (left_by stamp)) card.sessions }

HoldsMachine-left : (card : Kept) (chip : Chip) (m : Machine) (stamp : ℕ) → HoldsMachine card chip m → HoldsMachine (left_card stamp card) chip (without_user m stamp)
HoldsMachine-left card chip m stamp at = HoldsMachine-sessions (map (option_map (left_by stamp))) card chip m at

-- the card after a change, where the user of this stamp is gone, or none
abbrev pub left_after : Option ℕ → Kept → Kept
left_after (Some stamp) card = left_card stamp card
left_after None card = card

-- a user who isn't there isn't deleted
deleted-nobody : (db : Database) (actor : Actor) (cursor : Option Cursor) (name : List ℕ) → user_named db.users name ≡ None → new_of db (edits_of db actor cursor (DeleteUser name)) ≡ Err not_found
unfolding edits_of user_deleted
deleted-nobody db actor cursor name none = rw none refl

module _ (m : Machine) (channel : ℕ) (name : List ℕ) (none : m.transaction ≡ None) where
  -- what DELETE USER does with an answer
  abbrev leaving : Option User → Answer → Result Answer StatusWord
  leaving found answer = or_refused found not_found >>= λ (u : User). Ok (record answer { machine = without_user answer.machine u.stamp })

  abbrev outcome : Result Database StatusWord
  outcome = new_of m.committed (edits_of m.committed (actor m channel) (cursor_of m channel) (DeleteUser name))

  changed-so : (r : Result Database StatusWord) → outcome ≡ r → changed m channel (DeleteUser name) ≡ committed_at_once m channel r
  changed-so r is = changed-outcome m channel (DeleteUser name) none ∙ ap (committed_at_once m channel) is

  deleted-so : (r : Result Database StatusWord) (found : Option User) → outcome ≡ r → user_named m.committed.users name ≡ found → user_and_sessions_deleted m channel name ≡ (committed_at_once m channel r >>= leaving found)
  deleted-so r found is named =
      ap (λ (answer : Result Answer StatusWord). answer >>= leaving (user_named (base m channel).users name)) (changed-so r is)
      ∙ ap (λ (o : Option User). committed_at_once m channel r >>= leaving o) (ap (λ (db : Database). user_named db.users name) (committed-base m channel none) ∙ named)

  -- a refusal is that of the change, and leaves the sessions
  refused-so : (word : StatusWord) (card after : Kept) (new : Chip) (sent : StatusWord) → outcome ≡ Err word → HoldsAnswer (answered m (changed m channel (DeleteUser name))) (replied [] sent) card new
      → after ≡ left_after (gone_after m.committed name sent None) card → after ≡ card
  refused-so word card after new sent is holds set =
      let said_so : sent ≡ word = ap (λ (reply : Reply). reply.word) holds.reply ∙ ap (λ (r : Result Answer StatusWord). (answered m r).reply.word) (changed-so (Err word) is) in
      let other : (sent.word == done.word) ≡ false = ap (λ (w : StatusWord). w.word == done.word) said_so ∙ refused-not_done m.committed (actor m channel) (cursor_of m channel) (DeleteUser name) word is in
      set ∙ rw other refl

  module _ (most : ℕ) (result : Result StatusWord EepromFault) (card after : Kept) (old new : Chip)
      (performs : Performs m (answered m (changed m channel (DeleteUser name))) most [] result card old new) (set : IfOk result (λ word. after ≡ left_after (gone_after m.committed name word None) card)) where
    refused : (word : StatusWord) → outcome ≡ Err word → Performs m (answered m (user_and_sessions_deleted m channel name)) most [] result after old new
    refused word is =
        let same : answered m (changed m channel (DeleteUser name)) ≡ answered m (user_and_sessions_deleted m channel name) = ap (answered m) (changed-so (Err word) is) ∙ sym (ap (answered m) (deleted-so (Err word) _ is refl)) in
        subst (λ (answer : Answer). Performs m answer most [] result after old new) same
        (record { step = each result performs.step set; moments = performs.moments; unwritten = performs.unwritten; octets = performs.octets })
      where
        each : (r : Result StatusWord EepromFault) → IfOk r (λ sent. HoldsAnswer (answered m (changed m channel (DeleteUser name))) (replied [] sent) card new) → IfOk r (λ sent. after ≡ left_after (gone_after m.committed name sent None) card)
            → IfOk r (λ sent. HoldsAnswer (answered m (changed m channel (DeleteUser name))) (replied [] sent) after new)
        each (Ok sent) holds set =
            let still = refused-so word card after new sent is holds set in
            subst (λ (kept : Kept). HoldsAnswer (answered m (changed m channel (DeleteUser name))) (replied [] sent) kept new) (sym still) holds
        each (Err fault) holds set = tt

    deleted : (db : Database) (u : User) → outcome ≡ Ok db → user_named m.committed.users name ≡ Some u → Performs m (answered m (user_and_sessions_deleted m channel name)) most [] result after old new
    deleted db u is named =
        let was : answered m (changed m channel (DeleteUser name)) ≡ answered m (committed_at_once m channel (Ok db)) = ap (answered m) (changed-so (Ok db) is) in
        let so : answered m (user_and_sessions_deleted m channel name) ≡ answered m (committed_at_once m channel (Ok db) >>= leaving (Some u)) = ap (answered m) (deleted-so (Ok db) (Some u) is named) in
        let by = subst (λ (answer : Answer). Performs m answer most [] result card old new) was performs in
        subst (λ (answer : Answer). Performs m answer most [] result after old new) (sym so)
        (record { step = each result by.step set; moments = by.moments; unwritten = by.unwritten; octets = by.octets })
      where
        each : (r : Result StatusWord EepromFault) → IfOk r (λ sent. HoldsAnswer (answered m (committed_at_once m channel (Ok db))) (replied [] sent) card new) → IfOk r (λ sent. after ≡ left_after (gone_after m.committed name sent None) card)
            → IfOk r (λ sent. HoldsAnswer (answered m (committed_at_once m channel (Ok db) >>= leaving (Some u))) (replied [] sent) after new)
        each (Ok sent) holds set =
            let right : sent ≡ done = ap (λ (reply : Reply). reply.word) holds.reply in
            let last : after ≡ left_card u.stamp card = set ∙ rw (right, named) refl in
            record {
              reply = holds.reply;
              held = subst (λ (kept : Kept). HoldsMachine kept new (answered m (committed_at_once m channel (Ok db) >>= leaving (Some u))).machine) (sym last)
                  (HoldsMachine-left card new (answered m (committed_at_once m channel (Ok db))).machine u.stamp holds.held);
            }
        each (Err fault) holds set = tt

    pub Performs-deleted : Performs m (answered m (user_and_sessions_deleted m channel name)) most [] result after old new
    Performs-deleted = of outcome refl (user_named m.committed.users name) refl
      where
        of : (r : Result Database StatusWord) → outcome ≡ r → (found : Option User) → user_named m.committed.users name ≡ found
            → Performs m (answered m (user_and_sessions_deleted m channel name)) most [] result after old new
        of (Err word) is found named = refused word is
        of (Ok db) is (Some u) named = deleted db u is named
        of (Ok db) is None named = (let none = sym is ∙ deleted-nobody m.committed (actor m channel) (cursor_of m channel) name named in absurd cc)
