-- A step spares tries: each database that it commits leaves a user no more to lose than the one before it, or restores the tries, which comes
-- of VERIFY with the right secret alone.
use Rattle.std.proofs.Common.{◌≡◌, ◌≢◌, ℕ, zero, suc, ◌-◌, ◌≤◌, ◌==◌, Bool, true, false, List, [], ◌∷◌, Option, Some, None, Result, Ok, Err, not, is_some, if◌then◌else◌, refl, sym, ap, subst, ◌∙◌, inl, inr, arith}
use Rattle.std.specs.Prelude.{IfOk, IfSome}
use Rattle.std.specs.Option.{option_map_or}
use Rattle.std.specs.Str.{bytes_eq}
use Rattle.std.proofs.lemmas.Bool.{cases_Bool, eqb-true, not-true, false≢true}
use Rattle.scql_base.specs.declared.words.StatusWord.{StatusWord}
use Rattle.scql_base.specs.declared.cursor.PresentedUser.{PresentedUser}
use Rattle.scql_base.specs.declared.records.TheConstants.User.{ALL_TRIES}
use Rattle.scql_base.specs.declared.records.User.{User}
use Rattle.scql_base.specs.declared.operation.Command.{Command}
use Rattle.scql_base.specs.declared.operation.Operation.{Operation}
use Rattle.scql_base.specs.declared.operation.Operation.TheVariants.{DeclareCursor, OpenCursor, Next, Fetch, FetchNext, GetResponse, DeleteUser, Begin, Commit, Rollback, PresentUser, Verify, OpenChannel, CloseChannel}
use Rattle.scql_base.specs.Words.{authentication_blocked, channel_not_supported, conditions_not_satisfied, function_not_supported, not_found}
use Rattle.scql_model.specs.Refusals.{◌>>=◌, or_refused, provided}
use Rattle.scql_model.specs.Replies.{Reply}
use Rattle.scql_model.specs.Database.{Database, user_named, user_stamped}
use Rattle.scql_model.specs.Machine.{Machine, Session, Transaction, open_channels, base_of, base, actor}
use Rattle.scql_model.specs.Sessions.{changing_session, command_chain, cursor_of, without_chain, user_of, is_channel_open, least_closed, without_user}
use Rattle.scql_model.specs.Transactions.{own_transaction, waits, for_others, is_kept_waiting}
use Rattle.scql_model.specs.Operations.{kind_of, operations}
use Rattle.scql_model.specs.Form.{Form, refused, refused_on, part_on, a_command, form_of}
use Rattle.scql_model.specs.ReadingCommands.{ReadingCommand, reading_command}
use Rattle.scql_model.specs.Edits.{Edit}
use Rattle.scql_model.specs.Changing.{edits_of, with_edits, transaction_after}
use Rattle.scql_model.specs.Answering.{AreCommand, ComparesRight}
use Rattle.scql_model.specs.Lines.{LineContent, too_long, nothing, resets, not_hexadecimal, command, content_of, content_effect, command_lines}
use Rattle.scql_model.specs.Step.{Answer, answered, reading_done, changed_to, changed, user_and_sessions_deleted, session_named, with_tries, secret_right, secret_wrong, verified, channel_opened, channel_closed, operated, carried_out, stepped, step}
use Rattle.scql_model.specs.Tries.{restores, how_many, IsGuarded, AreSpared, IsGuardedWork, IsGuardedMachine, SparesTries}
use Rattle.scql_model.proofs.FormedCommands.{not_refused, not_unless}
use Rattle.scql_model.proofs.LastCommits.{of_outcome}
use Rattle.scql_model.proofs.LongerLists.{find-passes}
use Rattle.scql_model.proofs.ReadingSteps.{ended-user}
use Rattle.scql_model.proofs.SparingEdits.{Spares, Restores, spared-unrestored, spares-with_edits, spares-lowered, restores-user}
use Rattle.scql_model.proofs.ValidSteps.{bound-ok, no_other, none_open, others-any, own-parts, base-own}

-- An answer leaves a guarded machine, and spares tries in what it commits; where it restores them there is a reason.
pub record IsSparing (stamp : ℕ) (db : Database) (Reason : Type 0) (answer : Answer) : Type 0 where
  pub machine : IsGuardedMachine stamp answer.machine
  pub commits : AreSpared stamp db answer.commits
  pub restored : 1 ≤ how_many (restores stamp) db answer.commits → Reason

-- sessions guard nothing
pub guarded-sessions : (stamp : ℕ) (m : Machine) (sessions : List (Option Session)) → IsGuardedMachine stamp m → IsGuardedMachine stamp (record m { sessions = sessions })
guarded-sessions stamp m sessions guarded = record { committed = guarded.committed; transaction = guarded.transaction }

-- where no transaction is open, the committed database alone is to be guarded
pub guarded-closed : (stamp : ℕ) (m : Machine) (db : Database) → m.transaction ≡ None → IsGuarded stamp db → IsGuardedMachine stamp (record m { committed = db })
guarded-closed stamp m db none guarded = record { committed = guarded; transaction = subst (λ (t : Option Transaction). IfSome t (IsGuardedWork stamp db)) (sym none) tt }

-- a transaction that goes on with no more to lose
pub guarded-further : (stamp : ℕ) (committed : Database) (t : Transaction) (edits : List Edit) (db : Database) → IsGuardedWork stamp committed t → Spares stamp t.working db
    → IsGuardedWork stamp committed (transaction_after committed t edits db)
guarded-further stamp committed t edits db work further = record { working = further.guarded; spared = (let more = further.spared in let so_far = work.spared in omega arith) }

-- an open transaction works on what is guarded
pub guarded-own : (stamp : ℕ) (m : Machine) (channel : ℕ) (t : Transaction) → own_transaction m.transaction channel ≡ Some t → IsGuardedMachine stamp m → IsGuardedWork stamp m.committed t
guarded-own stamp m channel t own guarded = subst (λ (o : Option Transaction). IfSome o (IsGuardedWork stamp m.committed)) (own-parts m.transaction channel t own).0 guarded.transaction

-- a transaction that begins has as much to lose as the committed database
pub guarded-begun : (stamp : ℕ) (committed : Database) (channel : ℕ) → IsGuarded stamp committed → IsGuardedWork stamp committed (record { channel = channel; working = committed; touched = [] })
guarded-begun stamp committed channel guarded = record { working = guarded; spared = omega arith }

-- what a channel reads and changes is guarded
guarded-base : (stamp : ℕ) (m : Machine) (channel : ℕ) → IsGuardedMachine stamp m → IsGuarded stamp (base m channel)
guarded-base stamp m channel guarded = go m.transaction guarded.transaction
  where
    either : (t : Transaction) (b : Bool) → IsGuardedWork stamp m.committed t → IsGuarded stamp (if b then t.working else m.committed)
    either t true work = work.working
    either t false work = guarded.committed

    go : (t : Option Transaction) → IfSome t (IsGuardedWork stamp m.committed) → IsGuarded stamp (base_of t m.committed channel)
    go None work = guarded.committed
    go (Some t) work = either t (t.channel == channel) work

module _ (stamp : ℕ) (Reason : Type 0) where
  -- nothing is committed, and the sessions alone change
  sparing-none : (db : Database) (m : Machine) (sessions : List (Option Session)) (reply : Reply) → IsGuardedMachine stamp m
      → IsSparing stamp db Reason (record { reply = reply; machine = record m { sessions = sessions }; commits = [] })
  sparing-none db m sessions reply guarded = record { machine = guarded-sessions stamp m sessions guarded; commits = tt; restored = λ (some : 1 ≤ 0). absurd (omega arith) }

  -- one database is committed that leaves no more to lose
  sparing-one : (db : Database) (m : Machine) (sessions : List (Option Session)) (reply : Reply) (new : Database) → IsGuardedMachine stamp m → Spares stamp db new
      → IsSparing stamp db Reason (record { reply = reply; machine = record m { sessions = sessions }; commits = new ∷ [] })
  sparing-one db m sessions reply new guarded spares = record {
    machine = guarded-sessions stamp m sessions guarded;
    commits = ((spares.guarded, inr spares.spared), tt);
    restored = λ some. absurd (let none = rw (spared-unrestored stamp db new spares.spared) at some in omega arith);
  }

  -- a change
  sparing-changed : (m : Machine) (channel : ℕ) (operation : Operation) → IsGuardedMachine stamp m → is_kept_waiting for_others m.transaction channel ≡ false
      → IfOk (changed m channel operation) (IsSparing stamp m.committed Reason)
  sparing-changed m channel operation guarded free =
      bound-ok (IsSparing stamp m.committed Reason) (edits_of (base m channel) (actor m channel) (cursor_of m channel) operation) _ (λ edits made.
      bound-ok (IsSparing stamp m.committed Reason) (with_edits (base m channel) edits) _ (λ db ok.
      to edits db (spares-with_edits stamp (base m channel) (actor m channel) (cursor_of m channel) operation edits db made ok (guarded-base stamp m channel guarded)) (own_transaction m.transaction channel) refl))
    where
      to : (edits : List Edit) (db : Database) → Spares stamp (base m channel) db → (own : Option Transaction) → own_transaction m.transaction channel ≡ own
          → IsSparing stamp m.committed Reason (changed_to m channel edits db own)
      to edits db spares None is =
          let none = no_other m.transaction channel is free in
          let from_committed : Spares stamp m.committed db = subst (λ (t : Option Transaction). Spares stamp (base_of t m.committed channel) db) none spares in
          sparing-one m.committed (record m { committed = db }) _ _ db (guarded-closed stamp m db none from_committed.guarded) from_committed
      to edits db spares (Some t) is =
          let work = guarded-own stamp m channel t is guarded in
          let further : Spares stamp t.working db = subst (λ (from : Database). Spares stamp from db) (base-own m channel t is) spares in
          sparing-none m.committed (record m { transaction = Some (transaction_after m.committed t edits db) }) _ _ (record {
            committed = guarded.committed;
            transaction = guarded-further stamp m.committed t edits db work further;
          })

  sparing-deleted : (m : Machine) (channel : ℕ) (name : List ℕ) → IsGuardedMachine stamp m → is_kept_waiting for_others m.transaction channel ≡ false
      → IfOk (user_and_sessions_deleted m channel name) (IsSparing stamp m.committed Reason)
  sparing-deleted m channel name guarded free = go (changed m channel (DeleteUser name)) (sparing-changed m channel (DeleteUser name) guarded free)
    where
      go : (r : Result Answer StatusWord) → IfOk r (IsSparing stamp m.committed Reason)
          → IfOk (r >>= λ (answer : Answer). or_refused (user_named (base m channel).users name) not_found >>= λ (u : User). Ok (record answer { machine = without_user answer.machine u.stamp })) (IsSparing stamp m.committed Reason)
      go (Err word) is = tt
      go (Ok answer) is = of_outcome (IsSparing stamp m.committed Reason) (or_refused (user_named (base m channel).users name) not_found) _ (λ u. record {
        machine = guarded-sessions stamp answer.machine _ is.machine;
        commits = is.commits;
        restored = is.restored;
      })

  -- a transaction
  sparing-begun : (m : Machine) (channel : ℕ) → IsGuardedMachine stamp m → IfOk (operated m channel Begin) (IsSparing stamp m.committed Reason)
  sparing-begun m channel guarded =
      of_outcome (IsSparing stamp m.committed Reason) (provided (not (is_some m.transaction)) conditions_not_satisfied) _ (λ _.
      sparing-none m.committed (record m { transaction = Some (record { channel = channel; working = m.committed; touched = [] }) }) _ _
      (record { committed = guarded.committed; transaction = guarded-begun stamp m.committed channel guarded.committed }))

  sparing-committed : (m : Machine) (channel : ℕ) → IsGuardedMachine stamp m → IfOk (operated m channel Commit) (IsSparing stamp m.committed Reason)
  sparing-committed m channel guarded =
      bound-ok (IsSparing stamp m.committed Reason) (or_refused (own_transaction m.transaction channel) conditions_not_satisfied) _ (λ t is.
      let work = guarded-own stamp m channel t (not_refused (own_transaction m.transaction channel) conditions_not_satisfied t is) guarded in
      sparing-one m.committed (record m { committed = t.working; transaction = None }) _ _ t.working (record { committed = work.working; transaction = tt })
      (record { guarded = work.working; spared = work.spared }))

  sparing-rolled_back : (m : Machine) (channel : ℕ) → IsGuardedMachine stamp m → IfOk (operated m channel Rollback) (IsSparing stamp m.committed Reason)
  sparing-rolled_back m channel guarded =
      of_outcome (IsSparing stamp m.committed Reason) (or_refused (own_transaction m.transaction channel) conditions_not_satisfied) _ (λ _.
      sparing-none m.committed (record m { transaction = None }) _ _ (record { committed = guarded.committed; transaction = tt }))

  -- MANAGE CHANNEL
  sparing-opened : (m : Machine) (channel number : ℕ) → IsGuardedMachine stamp m → IfOk (channel_opened m channel number) (IsSparing stamp m.committed Reason)
  sparing-opened m channel zero guarded = of_outcome (IsSparing stamp m.committed Reason) (or_refused (least_closed m) function_not_supported) _ (λ number. sparing-none m.committed m _ _ guarded)
  sparing-opened m channel (suc n) guarded =
      of_outcome (IsSparing stamp m.committed Reason) (provided (not (is_channel_open m (suc n))) conditions_not_satisfied) _ (λ _. sparing-none m.committed m _ _ guarded)

  sparing-closed : (m : Machine) (channel number : ℕ) → IsGuardedMachine stamp m → IfOk (channel_closed m channel number) (IsSparing stamp m.committed Reason)
  sparing-closed m channel number guarded =
      of_outcome (IsSparing stamp m.committed Reason) (provided (is_channel_open m number) channel_not_supported) _ (λ _.
      of_outcome (IsSparing stamp m.committed Reason) (provided (not (is_some (own_transaction m.transaction number))) conditions_not_satisfied) _ (λ _.
      sparing-none m.committed m _ _ guarded))

  -- VERIFY
  module _ (m : Machine) (guarded : IsGuardedMachine stamp m) (outside : m.transaction ≡ None) (u : User) (stored : user_stamped m.committed.users u.stamp ≡ Some u) where
    lowered : Spares stamp m.committed (with_tries m.committed u (u.tries - 1))
    lowered = spares-lowered stamp m.committed u (u.tries - 1) stored (omega arith) guarded.committed

    restored : Restores stamp u (with_tries m.committed u (u.tries - 1)) (with_tries m.committed u ALL_TRIES)
    restored = restores-user stamp m.committed u stored guarded.committed

    sparing-wrong : IsSparing stamp m.committed Reason (secret_wrong m u)
    sparing-wrong = sparing-one m.committed (record m { committed = with_tries m.committed u (u.tries - 1) }) m.sessions _ _ (guarded-closed stamp m _ outside lowered.guarded) lowered

    sparing-right : (channel : ℕ) → (u.stamp ≡ stamp → Reason) → IsSparing stamp m.committed Reason (secret_right m channel u)
    sparing-right channel reason = record {
      machine = guarded-sessions stamp (record m { committed = with_tries m.committed u ALL_TRIES }) _ (guarded-closed stamp m (with_tries m.committed u ALL_TRIES) outside restored.guarded);
      commits = ((lowered.guarded, inr lowered.spared), ((restored.guarded, restored.spared), tt));
      restored = λ some. elim (cases_Bool (u.stamp == stamp)) [
        | inl t ↦ reason (eqb-true u.stamp stamp t)
        | inr f ↦ absurd (let none = rw (
          spared-unrestored stamp m.committed (with_tries m.committed u (u.tries - 1)) lowered.spared,
          spared-unrestored stamp (with_tries m.committed u (u.tries - 1)) (with_tries m.committed u ALL_TRIES) (restored.other f),
        ) at some in omega arith)
      ];
    }

  sparing-verified : (m : Machine) (c : Command) (secret : List ℕ) → c.operation ≡ Verify secret → IsGuardedMachine stamp m → m.transaction ≡ None → (ComparesRight stamp m c → Reason)
      → IfOk (verified m c.channel secret) (IsSparing stamp m.committed Reason)
  sparing-verified m c secret verifies guarded outside reason =
      bound-ok (IsSparing stamp m.committed Reason) (or_refused (user_of m c.channel) conditions_not_satisfied) _ (λ p at.
      bound-ok (IsSparing stamp m.committed Reason) (provided (not p.proved) conditions_not_satisfied) _ (λ x unproved.
      bound-ok (IsSparing stamp m.committed Reason) (or_refused (user_stamped m.committed.users p.stamp) conditions_not_satisfied) _ (λ u is.
      bound-ok (IsSparing stamp m.committed Reason) (provided (not (u.tries == 0)) authentication_blocked) _ (λ y had.
      let stored = not_refused (user_stamped m.committed.users p.stamp) conditions_not_satisfied u is in
      let same : u.stamp ≡ p.stamp = eqb-true u.stamp p.stamp (find-passes (λ (v : User). v.stamp == p.stamp) m.committed.users u stored) in
      go p u (not_refused (user_of m c.channel) conditions_not_satisfied p at) (not-true p.proved (not_unless (not p.proved) conditions_not_satisfied x unproved)) stored same
      (subst (λ (n : ℕ). user_stamped m.committed.users n ≡ Some u) (sym same) stored)
      (λ (none : u.tries ≡ 0). false≢true (ap (λ (n : ℕ). not (n == 0)) (sym none) ∙ not_unless (not (u.tries == 0)) authentication_blocked y had)) (bytes_eq secret u.secret) refl))))
    where
      go : (p : PresentedUser) (u : User) → user_of m c.channel ≡ Some p → p.proved ≡ false → user_stamped m.committed.users p.stamp ≡ Some u → u.stamp ≡ p.stamp
          → user_stamped m.committed.users u.stamp ≡ Some u → u.tries ≢ 0 → (b : Bool) → bytes_eq secret u.secret ≡ b
          → IsSparing stamp m.committed Reason (if b then secret_right m c.channel u else secret_wrong m u)
      go p u at unproved stored same also had true is = sparing-right m guarded outside u also c.channel (λ here. reason (record {
        secret = secret;
        verifies = verifies;
        outside = outside;
        who = p;
        presented = at;
        stamped = sym same ∙ here;
        unproved = unproved;
        user = u;
        stored = stored;
        had_tries = had;
        right = is;
      }))
      go p u at unproved stored same also had false is = sparing-wrong m guarded outside u also

  -- Each operation that doesn't read.
  sparing-operated : (m : Machine) (c : Command) (operation : Operation) → c.operation ≡ operation → IsGuardedMachine stamp m → (ComparesRight stamp m c → Reason)
      → is_kept_waiting (waits (kind_of operation)) m.transaction c.channel ≡ false → IfOk (operated m c.channel operation) (IsSparing stamp m.committed Reason)
  unfolding edits_of
  sparing-operated m c Begin is guarded reason free = sparing-begun m c.channel guarded
  sparing-operated m c Commit is guarded reason free = sparing-committed m c.channel guarded
  sparing-operated m c Rollback is guarded reason free = sparing-rolled_back m c.channel guarded
  sparing-operated m c (PresentUser name) is guarded reason free =
      of_outcome (IsSparing stamp m.committed Reason) (session_named (base m c.channel) name) _ (λ session. sparing-none m.committed m _ _ guarded)
  sparing-operated m c (DeleteUser name) is guarded reason free = sparing-deleted m c.channel name guarded (others-any m.transaction c.channel free)
  sparing-operated m c (Verify secret) is guarded reason free = sparing-verified m c secret is guarded (none_open m.transaction c.channel free) reason
  sparing-operated m c (OpenChannel number) is guarded reason free = sparing-opened m c.channel number guarded
  sparing-operated m c (CloseChannel number) is guarded reason free = sparing-closed m c.channel (if number == 0 then c.channel else number) guarded
  sparing-operated m c (DeclareCursor object columns conditions) is guarded reason free = tt
  sparing-operated m c OpenCursor is guarded reason free = tt
  sparing-operated m c Next is guarded reason free = tt
  sparing-operated m c Fetch is guarded reason free = tt
  sparing-operated m c FetchNext is guarded reason free = tt
  sparing-operated m c GetResponse is guarded reason free = tt
  sparing-operated m c operation is guarded reason free = sparing-changed m c.channel operation guarded free

  sparing-carried_out : (m : Machine) (c : Command) → IsGuardedMachine stamp m → (ComparesRight stamp m c → Reason) → IfOk (carried_out m c) (IsSparing stamp m.committed Reason)
  sparing-carried_out m c guarded reason =
      bound-ok (IsSparing stamp m.committed Reason) (provided (not (is_kept_waiting (waits (kind_of c.operation)) m.transaction c.channel)) conditions_not_satisfied) _ (λ x free.
      either (reading_command c.operation c.le)
      (not-true (is_kept_waiting (waits (kind_of c.operation)) m.transaction c.channel) (not_unless (not (is_kept_waiting (waits (kind_of c.operation)) m.transaction c.channel)) conditions_not_satisfied x free)))
    where
      either : (reads : Option ReadingCommand) → is_kept_waiting (waits (kind_of c.operation)) m.transaction c.channel ≡ false
          → IfOk (option_map_or (λ reads. Ok (reading_done m c.channel reads)) reads (operated m c.channel c.operation)) (IsSparing stamp m.committed Reason)
      either None free = sparing-operated m c c.operation refl guarded reason free
      either (Some reads) free = sparing-none m.committed m _ _ guarded

  sparing-answered : (m : Machine) (sessions : List (Option Session)) (outcome : Result Answer StatusWord) → IsGuardedMachine stamp m → IfOk outcome (IsSparing stamp m.committed Reason)
      → IsSparing stamp m.committed Reason (answered (record m { sessions = sessions }) outcome)
  sparing-answered m sessions (Ok answer) guarded is = is
  sparing-answered m sessions (Err word) guarded is = sparing-none m.committed m sessions _ guarded

  sparing-stepped : (m : Machine) (form : Form) → IsGuardedMachine stamp m → ((c : Command) → form ≡ a_command c → ComparesRight stamp m c → Reason) → IsSparing stamp m.committed Reason (stepped m form)
  sparing-stepped m (refused word) guarded reason = sparing-none m.committed m m.sessions _ guarded
  sparing-stepped m (refused_on channel word) guarded reason = sparing-none m.committed m _ _ guarded
  sparing-stepped m (part_on channel kind octets) guarded reason = sparing-none m.committed m _ _ guarded
  sparing-stepped m (a_command c) guarded reason =
      let ended : Machine = changing_session without_chain m c.channel in
      sparing-answered m ended.sessions (carried_out ended c) guarded (sparing-carried_out ended c (guarded-sessions stamp m ended.sessions guarded) (λ right. reason c refl (record {
        secret = right.secret;
        verifies = right.verifies;
        outside = right.outside;
        who = right.who;
        presented = sym (ended-user m c.channel) ∙ right.presented;
        stamped = right.stamped;
        unproved = right.unproved;
        user = right.user;
        stored = right.stored;
        had_tries = right.had_tries;
        right = right.right;
      })))

-- A step: where it restores tries, its octets are VERIFY with the right secret.
pub spared-step : (stamp : ℕ) (m : Machine) (octets : List ℕ) → IsGuardedMachine stamp m
    → IsSparing stamp m.committed (AreCommand m octets (ComparesRight stamp)) (step m octets)
unfolding step
spared-step stamp m octets guarded =
    sparing-stepped stamp (AreCommand m octets (ComparesRight stamp)) m (form_of operations octets (open_channels m) (command_chain m) m.committed.limit) guarded
    (λ c read right. record { command = c; read = read; is = right })

pub restored-step : (m : Machine) (octets : List ℕ) (stamp : ℕ) → IsGuardedMachine stamp m
    → 1 ≤ how_many (restores stamp) m.committed (step m octets).commits → AreCommand m octets (ComparesRight stamp)
restored-step m octets stamp guarded = (spared-step stamp m octets guarded).restored

-- So it is with lines of commands.
spared-content : (stamp : ℕ) (m : Machine) (content : LineContent) → IsGuardedMachine stamp m
    → IsGuardedMachine stamp (content_effect m content).next × AreSpared stamp m.committed (content_effect m content).commits
unfolding step
spared-content stamp m too_long guarded = (guarded, tt)
spared-content stamp m nothing guarded = (guarded, tt)
spared-content stamp m resets guarded = (record { committed = guarded.committed; transaction = tt }, tt)
spared-content stamp m not_hexadecimal guarded = (guarded, tt)
spared-content stamp m (command octets) guarded = let sparing = spared-step stamp m octets guarded in (sparing.machine, sparing.commits)

pub commands-spare : SparesTries command_lines
commands-spare = record {
  machine = λ stamp m line guarded. (spared-content stamp m (content_of line) guarded).0;
  commits = λ stamp m line guarded. (spared-content stamp m (content_of line) guarded).1;
}
