-- A step keeps a machine valid, and each database that it commits is valid.
use Rattle.std.proofs.Common.{◌≡◌, ℕ, zero, suc, ◌-◌, ◌<◌, ◌≤◌, ◌^◌, ◌==◌, ◌&&◌, Bool, true, false, not, List, [], ◌∷◌, length, map, Option, Some, None, option_map, is_some, Result, Ok, Err, if◌then◌else◌, refl, ap, sym, subst, ◌∙◌, inl, inr, arith}
use Rattle.std.specs.Prelude.{IfOk, IfSome, nat_lt, option_and_then, slice_get, slice_set}
use Rattle.std.specs.List.{AllByRecursion}
use Rattle.std.specs.Option.{option_flatten, option_map_or}
use Rattle.std.specs.Str.{bytes_eq}
use Rattle.std.proofs.lemmas.Bool.{cases_Bool, and_parts, eqb-true, false≢true, ne_eqb, not-true, le-leb, leb-true}
use Rattle.std.proofs.lemmas.Option.{none-some, same_Some}
use Rattle.scql_base.specs.declared.words.StatusWord.{StatusWord}
use Rattle.scql_base.specs.declared.cursor.PresentedUser.{PresentedUser}
use Rattle.scql_base.specs.declared.records.User.{User}
use Rattle.scql_base.specs.declared.operation.Command.{Command}
use Rattle.scql_base.specs.declared.operation.Operation.{Operation}
use Rattle.scql_base.specs.declared.operation.Operation.TheVariants.{DeclareCursor, OpenCursor, Next, Fetch, FetchNext, GetResponse, DeleteUser, Begin, Commit, Rollback, PresentUser, Verify, OpenChannel, CloseChannel}
use Rattle.scql_base.specs.Words.{authentication_blocked, channel_not_supported, conditions_not_satisfied, function_not_supported, not_found}
use Rattle.scql_model.specs.Records.{is_tries, is_secret, user_record}
use Rattle.scql_base.specs.Name.{is_name}
use Rattle.scql_model.specs.Refusals.{◌>>=◌, or_refused, provided}
use Rattle.scql_model.specs.Database.{Database, IsValid, public_name, user_named, user_stamped, is_named}
use Rattle.scql_model.specs.Machine.{Machine, Session, Transaction, no_reading, new_session, session_for, session_of, open_channels, base_of, base, actor, start}
use Rattle.scql_model.specs.Sessions.{with_session, changing_session, command_chain, cursor_of, without_chain, without_pending, without_cursor, proving, presented, reading_of, user_of, reading_so, with_part, is_of_user, left_by, without_user, is_channel_open, least_closed}
use Rattle.scql_model.specs.Transactions.{own_transaction, waits, for_others, for_any, is_kept_waiting}
use Rattle.scql_model.specs.Operations.{operations, kind_of, is_for_channel}
use Rattle.scql_model.specs.Form.{Form, refused, refused_on, part_on, a_command, form_of}
use Rattle.scql_model.specs.ReadingCommands.{ReadingCommand, reading_command}
use Rattle.scql_model.specs.Edits.{Edit}
use Rattle.scql_model.specs.Changing.{edits_of, with_edits, transaction_after}
use Rattle.scql_model.specs.WellFormed.{HasForm, FitsCard}
use Rattle.scql_model.specs.Moves.{move_of}
use Rattle.scql_model.specs.Cursors.{IsCursorOf, StandsOn, Follows}
use Rattle.scql_model.specs.ValidMachine.{HasSecret, IsPresentedIn, ArePresentedIn, IsReadingOf, IsValidWork, IsValidMachine}
use Rattle.scql_model.specs.Step.{Answer, answered, done_with, reading_done, changed_to, changed, user_and_sessions_deleted, session_named, with_tries, secret_right, secret_wrong, verified, channel_opened, channel_closed, operated, carried_out, stepped, step}
use Rattle.scql_model.proofs.Acting.{IsActorOf-actor}
use Rattle.scql_model.proofs.AddedUser.{users_below}
use Rattle.scql_model.proofs.ChangeLaws.{AreMade-with_edits}
use Rattle.scql_model.proofs.ChangedLists.{each-weaker, found-each}
use Rattle.scql_model.proofs.ChangedUsers.{IsValid-with_tries}
use Rattle.scql_model.proofs.FieldLaws.{AreOctets}
use Rattle.scql_model.proofs.FormedCommands.{not_refused, not_unless, sound-operations, IsWellFormed-form_of}
use Rattle.scql_model.proofs.Keeping.{key-found}
use Rattle.scql_model.proofs.KeepsRows.{within_largest}
use Rattle.scql_model.proofs.OperationLaws.{IsValid-edits_of, Follows-edits_of, presented-edits_of}
use Rattle.scql_model.proofs.LastCommits.{of_outcome}
use Rattle.scql_model.proofs.LongerLists.{find-all}
use Rattle.scql_model.proofs.ReadFits.{FitsCard-form_of}
use Rattle.scql_model.proofs.CursorsStand.{HasChosen, HasChosen-reading_command, IsReadingOf-follows, IsReadingOf-move_of, no_reading-of}
use Rattle.scql_model.proofs.ObjectsFollow.{Follows-itself, Follows-through}
use Rattle.scql_model.proofs.UsersFollow.{presented-with_tries}

-- The users of sessions.
abbrev pub Presents : Database → Option Session → Type 0
Presents db session = IfSome (option_and_then (λ (s : Session). s.user) session) (IsPresentedIn db)

all-set : {X : Type 0} (P : X → Type 0) (xs : List X) (i : ℕ) (x : X) → AllByRecursion P xs → P x → AllByRecursion P (slice_set xs i x)
all-set P [] i x all is = tt
all-set P (y ∷ ys) zero x all is = (is, all.1)
all-set P (y ∷ ys) (suc i) x all is = (all.0, all-set P ys i x all.1 is)

all-get : {X : Type 0} (P : Option X → Type 0) (xs : List (Option X)) (i : ℕ) → AllByRecursion P xs → P None → P (option_flatten (slice_get xs i))
all-get P [] i all none = none
all-get P (x ∷ xs) zero all none = all.0
all-get P (x ∷ xs) (suc i) all none = all-get P xs i all.1 none

all-map : {X : Type 0} (P : X → Type 0) (f : X → X) (xs : List X) → ((x : X) → P x → P (f x)) → AllByRecursion P xs → AllByRecursion P (map f xs)
all-map P f [] each all = tt
all-map P f (x ∷ xs) each all = (each x all.0, all-map P f xs each all.1)

if_some-weaker : {X : Type 0} (P Q : X → Type 0) (o : Option X) → ((x : X) → P x → Q x) → IfSome o P → IfSome o Q
if_some-weaker P Q None more is = tt
if_some-weaker P Q (Some x) more is = more x is

-- who is presented in one database is in another
are_presented-in : (db new : Database) (sessions : List (Option Session)) → ((p : PresentedUser) → IsPresentedIn db p → IsPresentedIn new p) → ArePresentedIn db sessions → ArePresentedIn new sessions
are_presented-in db new sessions each are =
    each-weaker (Presents db) (Presents new) sessions (λ session is. if_some-weaker (IsPresentedIn db) (IsPresentedIn new) (option_and_then (λ (s : Session). s.user) session) each is) are

-- What sessions read.
abbrev ReadsIn : Database → Option Session → Type 0
ReadsIn db session = IsReadingOf db (option_map_or (λ (s : Session). s.reading) session no_reading)

-- what each session reads, of the database of its channel
abbrev AreReading : (ℕ → Database) → List (Option Session) → Type 0
AreReading db sessions = (channel : ℕ) → ReadsIn (db channel) (option_flatten (slice_get sessions channel))

reading-set : (db : ℕ → Database) (sessions : List (Option Session)) (channel : ℕ) (session : Option Session)
    → ((other : ℕ) → (other ≡ channel → ⊥) → ReadsIn (db other) (option_flatten (slice_get sessions other))) → ReadsIn (db channel) session → AreReading db (slice_set sessions channel session)
reading-set db [] channel session others here other = no_reading-of (db other)
reading-set db (s ∷ sessions) zero session others here zero = here
reading-set db (s ∷ sessions) zero session others here (suc other) = others (suc other) (λ (same : suc other ≡ zero). omega arith)
reading-set db (s ∷ sessions) (suc channel) session others here zero = others zero (λ (same : zero ≡ suc channel). omega arith)
reading-set db (s ∷ sessions) (suc channel) session others here (suc other) =
    reading-set (λ n. db (suc n)) sessions channel session (λ n apart. others (suc n) (λ (same : suc n ≡ suc channel). apart (omega arith))) here other

reading-map : (db : ℕ → Database) (change : Session → Session) (sessions : List (Option Session)) → ((db : Database) (s : Session) → IsReadingOf db s.reading → IsReadingOf db (change s).reading)
    → AreReading db sessions → AreReading db (map (option_map change) sessions)
reading-map db change [] keeps are channel = no_reading-of (db channel)
reading-map db change (None ∷ sessions) keeps are zero = no_reading-of (db zero)
reading-map db change (Some s ∷ sessions) keeps are zero = keeps (db zero) s (are zero)
reading-map db change (s ∷ sessions) keeps are (suc channel) = reading-map (λ n. db (suc n)) change sessions keeps (λ n. are (suc n)) channel

-- Channel 0 is open.
abbrev IsBasicOpen : List (Option Session) → Type 0
IsBasicOpen sessions = is_some (option_flatten (slice_get sessions 0)) ≡ true

-- it stays so where another channel has another session, or this one has one
basic-set : (sessions : List (Option Session)) (channel : ℕ) (session : Option Session) → (channel ≡ 0 → is_some session ≡ true) → IsBasicOpen sessions → IsBasicOpen (slice_set sessions channel session)
basic-set [] channel session here first = first
basic-set (s ∷ sessions) zero session here first = here refl
basic-set (s ∷ sessions) (suc channel) session here first = first

-- a session that changes is there still
basic-changed : (change : Session → Session) (sessions : List (Option Session)) (channel : ℕ) → IsBasicOpen sessions → IsBasicOpen (slice_set sessions channel (option_map change (option_flatten (slice_get sessions channel))))
basic-changed change [] channel first = first
basic-changed change (None ∷ sessions) zero first = first
basic-changed change (Some s ∷ sessions) zero first = refl
basic-changed change (s ∷ sessions) (suc channel) first = first

basic-map : (change : Session → Session) (sessions : List (Option Session)) → IsBasicOpen sessions → IsBasicOpen (map (option_map change) sessions)
basic-map change [] first = first
basic-map change (None ∷ sessions) first = first
basic-map change (Some s ∷ sessions) first = refl

reading-follows : (db new : ℕ → Database) (sessions : List (Option Session)) → ((channel : ℕ) → Follows (db channel) (new channel)) → AreReading db sessions → AreReading new sessions
reading-follows db new sessions follows are channel = IsReadingOf-follows (db channel) (new channel) _ (follows channel) (are channel)

-- a machine whose sessions alone are other ones
valid-sessions : (m : Machine) (sessions : List (Option Session)) → ((db : Database) → ArePresentedIn db m.sessions → ArePresentedIn db sessions) → AreReading (base m) sessions → IsBasicOpen sessions → IsValidMachine m
    → IsValidMachine (record m { sessions = sessions })
valid-sessions m sessions each reading basic valid = record {
  committed = valid.committed;
  presented = each m.committed valid.presented;
  transaction = if_some-weaker (IsValidWork m) (IsValidWork (record m { sessions = sessions })) m.transaction
      (λ t (work : IsValidWork m t). record { working = work.working; limit = work.limit; follows = work.follows; presented = each t.working work.presented }) valid.transaction;
  readings = reading;
  basic = basic;
}

-- the session of a channel is none, a new one, or one of the same user
valid-with_session : (m : Machine) (channel : ℕ) (session : Option Session) → ((db : Database) → ArePresentedIn db m.sessions → Presents db session) → ReadsIn (base m channel) session
    → IsBasicOpen (slice_set m.sessions channel session) → IsValidMachine m → IsValidMachine (with_session m channel session)
valid-with_session m channel session is reads basic valid =
    valid-sessions m (slice_set m.sessions channel session) (λ db are. all-set (Presents db) m.sessions channel session are (is db are))
    (reading-set (base m) m.sessions channel session (λ other _. valid.readings other) reads) basic valid

pub valid-changing : (m : Machine) (channel : ℕ) (change : Session → Session) → ((db : Database) (s : Session) → Presents db (Some s) → Presents db (Some (change s)))
    → ((s : Session) → IsReadingOf (base m channel) s.reading → IsReadingOf (base m channel) (change s).reading) → IsValidMachine m → IsValidMachine (changing_session change m channel)
valid-changing m channel change keeps reads valid =
    valid-with_session m channel (option_map change (session_of m channel)) (λ db are. go db (session_of m channel) (all-get (Presents db) m.sessions channel are tt))
    (read (session_of m channel) (valid.readings channel)) (basic-changed change m.sessions channel valid.basic) valid
  where
    go : (db : Database) (session : Option Session) → Presents db session → Presents db (option_map change session)
    go db None is = tt
    go db (Some s) is = keeps db s is

    read : (session : Option Session) → ReadsIn (base m channel) session → ReadsIn (base m channel) (option_map change session)
    read None is = is
    read (Some s) is = reads s is

-- what was pending is so no more
no_pending : (db : Database) (s : Session) → IsReadingOf db s.reading → IsReadingOf db (without_pending s).reading
no_pending db s is = record { cursor = is.cursor; pending = λ _. refl }

-- An answer leaves a valid machine, and commits valid databases.
pub record IsValidAnswer (answer : Answer) : Type 0 where
  pub machine : IsValidMachine answer.machine
  pub commits : AllByRecursion IsValid answer.commits

valid-done : (m : Machine) (channel : ℕ) (commits : List Database) → IsValidMachine m → AllByRecursion IsValid commits → IsValidAnswer (done_with m channel commits)
valid-done m channel commits valid each = record { machine = valid-changing m channel without_pending (λ db s is. is) (no_pending (base m channel)) valid; commits = each }

-- What a channel reads and changes is valid.
pub record IsValidBase (m : Machine) (db : Database) : Type 0 where
  pub valid : IsValid db
  limit : db.limit ≡ m.committed.limit
  follows : Follows m.committed db
  presented : ArePresentedIn db m.sessions

pub valid-base : (m : Machine) (channel : ℕ) → IsValidMachine m → IsValidBase m (base m channel)
valid-base m channel valid = go m.transaction valid.transaction
  where
    committed : IsValidBase m m.committed
    committed = record { valid = valid.committed; limit = refl; follows = Follows-itself m.committed; presented = valid.presented }

    either : (t : Transaction) (b : Bool) → IsValidWork m t → IsValidBase m (if b then t.working else m.committed)
    either t true work = record { valid = work.working; limit = work.limit; follows = work.follows; presented = work.presented }
    either t false work = committed

    go : (t : Option Transaction) → IfSome t (IsValidWork m) → IsValidBase m (base_of t m.committed channel)
    go None work = committed
    go (Some t) work = either t (t.channel == channel) work

-- the cursor of a channel has columns of its database
pub cursor-base : (m : Machine) (channel : ℕ) → IsValidMachine m → IfSome (cursor_of m channel) (IsCursorOf (base m channel))
cursor-base m channel valid = if_some-weaker (StandsOn (base m channel)) (IsCursorOf (base m channel)) (cursor_of m channel) (λ c stands. stands.columns) (valid.readings channel).cursor

-- reading
valid-reading : (m : Machine) (channel : ℕ) (command : ReadingCommand) → HasChosen command → IsValidMachine m → IsValidAnswer (reading_done m channel command)
valid-reading m channel command chosen valid = record {
  machine = valid-changing m channel (reading_so (move_of (base m channel) (actor m channel) (reading_of m channel) command).after) (λ db s is. is)
      (λ s _. IsReadingOf-move_of (base m channel) (actor m channel) (reading_of m channel) (valid-base m channel valid).valid (valid.readings channel) command chosen) valid;
  commits = tt;
}

-- what comes of a value comes of an outcome
pub bound-ok : {A B : Type 0} (P : B → Type 0) (r : Result A StatusWord) (f : A → Result B StatusWord) → ((x : A) → r ≡ Ok x → IfOk (f x) P) → IfOk (r >>= f) P
bound-ok P (Ok x) f each = each x refl
bound-ok P (Err word) f each = tt

-- what waits for the transactions of others, or for any
pub no_other : (t : Option Transaction) (channel : ℕ) → own_transaction t channel ≡ None → is_kept_waiting for_others t channel ≡ false → t ≡ None
no_other None channel own free = refl
no_other (Some t) channel own free =
    elim (cases_Bool (t.channel == channel)) [
      | inl e ↦ absurd (none-some t (sym (rw e at own)))
      | inr f ↦ absurd (let wrong : true ≡ false = rw f at free in cc)
    ]

pub none_open : (t : Option Transaction) (channel : ℕ) → is_kept_waiting for_any t channel ≡ false → t ≡ None
none_open None channel free = refl
none_open (Some t) channel free = absurd cc

pub others-any : (t : Option Transaction) (channel : ℕ) → is_kept_waiting for_any t channel ≡ false → is_kept_waiting for_others t channel ≡ false
others-any None channel free = refl
others-any (Some t) channel free = absurd cc

-- where no transaction is open all channels read what is committed
reading-committed : (m : Machine) (db : Database) → m.transaction ≡ None → Follows m.committed db → IsValidMachine m → AreReading (base_of m.transaction db) m.sessions
reading-committed m db none follows valid =
    subst (λ (t : Option Transaction). AreReading (base_of t db) m.sessions) (sym none)
    (reading-follows (λ _. m.committed) (λ _. db) m.sessions (λ _. follows)
    (subst (λ (t : Option Transaction). AreReading (base_of t m.committed) m.sessions) none valid.readings))

-- an open one is its channel's own
pub own-parts : (o : Option Transaction) (channel : ℕ) (t : Transaction) → own_transaction o channel ≡ Some t → (o ≡ Some t) × ((t.channel == channel) ≡ true)
own-parts None channel t own = absurd (none-some t own)
own-parts (Some other) channel t own =
    elim (cases_Bool (other.channel == channel)) [
      | inl e ↦ (let same : other ≡ t = same_Some other t (rw e at own) in (ap Some same, subst (λ (t : Transaction). (t.channel == channel) ≡ true) same e))
      | inr f ↦ absurd (none-some t (rw f at own))
    ]

-- its channel reads what it works on
pub base-own : (m : Machine) (channel : ℕ) (t : Transaction) → own_transaction m.transaction channel ≡ Some t → base m channel ≡ t.working
base-own m channel t own = let parts = own-parts m.transaction channel t own in rw (parts.0, parts.1) refl

-- where it goes on, its channel alone reads another database
reading-working : (m : Machine) (channel : ℕ) (t : Transaction) (db : Database) → own_transaction m.transaction channel ≡ Some t → Follows t.working db → IsValidMachine m
    → (new : Transaction) → new.channel ≡ t.channel → new.working ≡ db → AreReading (base_of (Some new) m.committed) m.sessions
reading-working m channel t db own follows valid new there works =
    reading-follows (base_of (Some t) m.committed) (base_of (Some new) m.committed) m.sessions
    (λ other. rw (there, works) (either (t.channel == other)))
    (subst (λ (o : Option Transaction). AreReading (base_of o m.committed) m.sessions) (own-parts m.transaction channel t own).0 valid.readings)
  where
    either : (b : Bool) → Follows (if b then t.working else m.committed) (if b then db else m.committed)
    either true = follows
    either false = Follows-itself m.committed

-- Changes.
valid-changed : (m : Machine) (channel : ℕ) (operation : Operation) → IsValidMachine m → HasForm operation → FitsCard m.committed.limit operation → is_kept_waiting for_others m.transaction channel ≡ false
    → IfOk (changed m channel operation) IsValidAnswer
valid-changed m channel operation valid form fits free =
    bound-ok IsValidAnswer (edits_of (base m channel) (actor m channel) (cursor_of m channel) operation) _ (λ edits made.
    bound-ok IsValidAnswer (with_edits (base m channel) edits) _ (λ db ok. to edits db made ok (own_transaction m.transaction channel) refl))
  where
    to : (edits : List Edit) (db : Database) → edits_of (base m channel) (actor m channel) (cursor_of m channel) operation ≡ Ok edits → with_edits (base m channel) edits ≡ Ok db
        → (own : Option Transaction) → own_transaction m.transaction channel ≡ own → IsValidAnswer (changed_to m channel edits db own)
    to edits db made ok own is = go own is
      where
        before : IsValidBase m (base m channel)
        before = valid-base m channel valid

        new : IsValid db
        new = IsValid-edits_of (base m channel) (actor m channel) (cursor_of m channel) operation edits db before.valid (IsActorOf-actor m channel) form
            (subst (λ (limit : ℕ). FitsCard limit operation) (sym before.limit) fits) made ok

        users : ArePresentedIn db m.sessions
        users = are_presented-in (base m channel) db m.sessions
            (λ p is. subst (λ (db : Database). IsPresentedIn db p) (sym (AreMade-with_edits (base m channel) edits db ok).is)
            (presented-edits_of (base m channel) (actor m channel) (cursor_of m channel) operation edits p made is)) before.presented

        follows : Follows (base m channel) db
        follows = subst (Follows (base m channel)) (sym (AreMade-with_edits (base m channel) edits db ok).is) (Follows-edits_of (base m channel) (actor m channel) (cursor_of m channel) operation edits made)

        go : (own : Option Transaction) → own_transaction m.transaction channel ≡ own → IsValidAnswer (changed_to m channel edits db own)
        go None is = valid-done (record m { committed = db }) channel (db ∷ []) (record {
          committed = new;
          presented = users;
          transaction = subst (λ (t : Option Transaction). IfSome t (IsValidWork (record m { committed = db }))) (sym (no_other m.transaction channel is free)) tt;
          readings = let none = no_other m.transaction channel is free in
              reading-committed m db none (subst (λ (t : Option Transaction). Follows (base_of t m.committed channel) db) none follows) valid;
          basic = valid.basic;
        }) (new, tt)
        go (Some t) is = valid-done (record m { transaction = Some (transaction_after m.committed t edits db) }) channel [] (record {
          committed = valid.committed;
          presented = valid.presented;
          transaction = record {
            working = new;
            limit = (AreMade-with_edits (base m channel) edits db ok).limit ∙ before.limit;
            follows = Follows-through m.committed (base m channel) db before.follows follows;
            presented = users;
          };
          readings = reading-working m channel t db is (subst (λ (from : Database). Follows from db) (base-own m channel t is) follows) valid (transaction_after m.committed t edits db) refl refl;
          basic = valid.basic;
        }) tt

-- a user who is deleted is presented nowhere any more
valid-deleted : (m : Machine) (channel : ℕ) (name : List ℕ) → IsValidMachine m → HasForm (DeleteUser name) → is_kept_waiting for_others m.transaction channel ≡ false
    → IfOk (user_and_sessions_deleted m channel name) IsValidAnswer
valid-deleted m channel name valid form free = go (changed m channel (DeleteUser name)) (valid-changed m channel (DeleteUser name) valid form tt free)
  where
    left : (stamp : ℕ) (db : Database) (session : Option Session) → Presents db session → Presents db (option_map (left_by stamp) session)
    left stamp db None is = tt
    left stamp db (Some s) is = either (is_of_user stamp s)
      where
        either : (b : Bool) → Presents db (Some (if b then without_cursor (record s { user = None }) else s))
        either true = tt
        either false = is

    leaves : (stamp : ℕ) (db : Database) (s : Session) → IsReadingOf db s.reading → IsReadingOf db (left_by stamp s).reading
    leaves stamp db s is = either (is_of_user stamp s)
      where
        either : (b : Bool) → IsReadingOf db (if b then without_cursor (record s { user = None }) else s).reading
        either true = no_reading-of db
        either false = is

    go : (r : Result Answer StatusWord) → IfOk r IsValidAnswer
        → IfOk (r >>= λ (answer : Answer). or_refused (user_named (base m channel).users name) not_found >>= λ (u : User). Ok (record answer { machine = without_user answer.machine u.stamp })) IsValidAnswer
    go (Err word) is = tt
    go (Ok answer) is = of_outcome IsValidAnswer (or_refused (user_named (base m channel).users name) not_found) _ (λ u. record {
      machine = valid-sessions answer.machine (map (option_map (left_by u.stamp)) answer.machine.sessions)
          (λ db are. all-map (Presents db) (option_map (left_by u.stamp)) answer.machine.sessions (left u.stamp db) are)
          (reading-map (base answer.machine) (left_by u.stamp) answer.machine.sessions (leaves u.stamp) is.machine.readings) (basic-map (left_by u.stamp) answer.machine.sessions is.machine.basic) is.machine;
      commits = is.commits;
    })

-- Transactions.
valid-begun : (m : Machine) (channel : ℕ) → IsValidMachine m → IfOk (operated m channel Begin) IsValidAnswer
valid-begun m channel valid =
    bound-ok IsValidAnswer (provided (not (is_some m.transaction)) conditions_not_satisfied) _ (λ x is.
    let begun : Transaction = record { channel = channel; working = m.committed; touched = [] } in
    valid-done (record m { transaction = Some begun }) channel [] (record {
      committed = valid.committed;
      presented = valid.presented;
      transaction = record { working = valid.committed; limit = refl; follows = Follows-itself m.committed; presented = valid.presented };
      readings = reading-follows (base m) (base_of (Some begun) m.committed) m.sessions (λ other. same (none m.transaction (not-true (is_some m.transaction) (not_unless (not (is_some m.transaction)) conditions_not_satisfied x is))) other) valid.readings;
      basic = valid.basic;
    }) tt)
  where
    none : (t : Option Transaction) → is_some t ≡ false → t ≡ None
    none None closed = refl
    none (Some t) closed = absurd (false≢true (sym closed))

    either : (b : Bool) → Follows m.committed (if b then m.committed else m.committed)
    either true = Follows-itself m.committed
    either false = Follows-itself m.committed

    same : m.transaction ≡ None → (other : ℕ) → Follows (base m other) (if channel == other then m.committed else m.committed)
    same closed other = subst (λ (t : Option Transaction). Follows (base_of t m.committed other) (if channel == other then m.committed else m.committed)) (sym closed) (either (channel == other))

valid-committed : (m : Machine) (channel : ℕ) → IsValidMachine m → IfOk (operated m channel Commit) IsValidAnswer
valid-committed m channel valid =
    bound-ok IsValidAnswer (or_refused (own_transaction m.transaction channel) conditions_not_satisfied) _ (λ t is.
    let own = own-parts m.transaction channel t (not_refused (own_transaction m.transaction channel) conditions_not_satisfied t is) in
    let work : IsValidWork m t = subst (λ (o : Option Transaction). IfSome o (IsValidWork m)) own.0 valid.transaction in
    valid-done (record m { committed = t.working; transaction = None }) channel (t.working ∷ []) (record {
      committed = work.working;
      presented = work.presented;
      transaction = tt;
      readings = reading-follows (base_of (Some t) m.committed) (λ _. t.working) m.sessions (λ other. either t work.follows (t.channel == other))
          (subst (λ (o : Option Transaction). AreReading (base_of o m.committed) m.sessions) own.0 valid.readings);
      basic = valid.basic;
    }) (work.working, tt))
  where
    either : (t : Transaction) → Follows m.committed t.working → (b : Bool) → Follows (if b then t.working else m.committed) t.working
    either t follows true = Follows-itself t.working
    either t follows false = follows

valid-rolled_back : (m : Machine) (channel : ℕ) → IsValidMachine m → IfOk (operated m channel Rollback) IsValidAnswer
valid-rolled_back m channel valid =
    bound-ok IsValidAnswer (or_refused (own_transaction m.transaction channel) conditions_not_satisfied) _ (λ t is.
    let own = own-parts m.transaction channel t (not_refused (own_transaction m.transaction channel) conditions_not_satisfied t is) in
    let session = session_of m channel in
    valid-done (changing_session without_cursor (record m { transaction = None }) channel) channel [] (record {
      committed = valid.committed;
      presented = all-set (Presents m.committed) m.sessions channel (option_map without_cursor session) valid.presented (presents session (all-get (Presents m.committed) m.sessions channel valid.presented tt));
      transaction = tt;
      readings = reading-set (λ _. m.committed) m.sessions channel (option_map without_cursor session)
          (λ other apart. elsewhere t own.0 other (elsewhere_not t channel other own.1 apart)) (nothing session);
      basic = basic-changed without_cursor m.sessions channel valid.basic;
    }) tt)
  where
    presents : (session : Option Session) → Presents m.committed session → Presents m.committed (option_map without_cursor session)
    presents None is = tt
    presents (Some s) is = is

    nothing : (session : Option Session) → ReadsIn m.committed (option_map without_cursor session)
    nothing None = no_reading-of m.committed
    nothing (Some s) = no_reading-of m.committed

    elsewhere_not : (t : Transaction) (channel other : ℕ) → (t.channel == channel) ≡ true → (other ≡ channel → ⊥) → (t.channel == other) ≡ false
    elsewhere_not t channel other own apart = let here = eqb-true t.channel channel own in ne_eqb t.channel other (λ (same : t.channel ≡ other). apart (omega arith))

    elsewhere : (t : Transaction) → m.transaction ≡ Some t → (other : ℕ) → (t.channel == other) ≡ false → ReadsIn m.committed (session_of m other)
    elsewhere t is other not_own =
        let read = subst (λ (o : Option Transaction). ReadsIn (base_of o m.committed other) (session_of m other)) is (valid.readings other) in
        rw not_own at read

-- PRESENT USER: who is found has the secret that it has
presents-named : (db : Database) (name : List ℕ) (session : Session) → IsValid db → session_named db name ≡ Ok session → Presents db (Some session)
presents-named db name session valid is = go (bytes_eq name public_name) is
  where
    unproved : (u : User) → (length u.secret == 0) ≡ false → user_stamped db.users u.stamp ≡ Some u → IfSome (user_stamped db.users u.stamp) HasSecret
    unproved u some found = rw found some

    user : (u : User) → user_named db.users name ≡ Some u → Presents db (Some (session_for (Some (presented u))))
    user u found = record {
      stamp = found-each (λ (v : User). v.stamp < db.next) (is_named name) db.users u (users_below db valid) found;
      secret = λ some. unproved u some (key-found (λ (v : User). v.stamp) (is_named name) db.users u valid.users.rises found);
    }

    named : (found : Option User) → user_named db.users name ≡ found → (or_refused found not_found >>= λ (u : User). Ok (session_for (Some (presented u)))) ≡ Ok session → Presents db (Some session)
    named None found is = absurd cc
    named (Some u) found is =
        let same : session_for (Some (presented u)) ≡ session = cc in
        subst (λ (s : Session). Presents db (Some s)) same (user u found)

    go : (b : Bool) → (if b then Ok new_session else (or_refused (user_named db.users name) not_found >>= λ (u : User). Ok (session_for (Some (presented u))))) ≡ Ok session → Presents db (Some session)
    go true is = let same : new_session ≡ session = cc in subst (λ (s : Session). Presents db (Some s)) same tt
    go false is = named (user_named db.users name) refl is

-- and nothing is read yet
reads-named : (db : Database) (name : List ℕ) (session : Session) → session_named db name ≡ Ok session → session.reading ≡ no_reading
reads-named db name session is = go (bytes_eq name public_name) is
  where
    named : (found : Option User) → (or_refused found not_found >>= λ (u : User). Ok (session_for (Some (presented u)))) ≡ Ok session → session.reading ≡ no_reading
    named None is = absurd cc
    named (Some u) is = let same : session_for (Some (presented u)) ≡ session = cc in ap (λ (s : Session). s.reading) (sym same)

    go : (b : Bool) → (if b then Ok new_session else (or_refused (user_named db.users name) not_found >>= λ (u : User). Ok (session_for (Some (presented u))))) ≡ Ok session → session.reading ≡ no_reading
    go true is = let same : new_session ≡ session = cc in ap (λ (s : Session). s.reading) (sym same)
    go false is = named (user_named db.users name) is

valid-presented : (m : Machine) (channel : ℕ) (name : List ℕ) → IsValidMachine m → is_kept_waiting for_any m.transaction channel ≡ false → IfOk (operated m channel (PresentUser name)) IsValidAnswer
valid-presented m channel name valid free =
    bound-ok IsValidAnswer (session_named (base m channel) name) _ (λ session is. valid-done (with_session m channel (Some session)) channel [] (machine session is) tt)
  where
    none : m.transaction ≡ None
    none = none_open m.transaction channel free

    machine : (session : Session) → session_named (base m channel) name ≡ Ok session → IsValidMachine (with_session m channel (Some session))
    machine session is = record {
      committed = valid.committed;
      presented = all-set (Presents m.committed) m.sessions channel (Some session) valid.presented
          (presents-named m.committed name session valid.committed (ap (λ (t : Option Transaction). session_named (base_of t m.committed channel) name) (sym none) ∙ is));
      transaction = subst (λ (t : Option Transaction). IfSome t (IsValidWork (with_session m channel (Some session)))) (sym none) tt;
      readings = reading-set (base m) m.sessions channel (Some session) (λ other _. valid.readings other)
          (subst (IsReadingOf (base m channel)) (sym (reads-named (base m channel) name session is)) (no_reading-of (base m channel)));
      basic = basic-set m.sessions channel (Some session) (λ _. refl) valid.basic;
    }

-- VERIFY: a user who isn't proved has a secret, and so may have fewer tries
module _ (m : Machine) (valid : IsValidMachine m) (none : m.transaction ≡ None) (p : PresentedUser) (u : User)
    (stored : user_stamped m.committed.users p.stamp ≡ Some u) (secret : HasSecret u) where
  valid-tries : (tries : ℕ) → is_tries tries ≡ true → IsValid (with_tries m.committed u tries)
  valid-tries tries few = IsValid-with_tries m.committed (λ (v : User). v.stamp == p.stamp) u tries valid.committed stored few secret

  valid-with_tries : (tries : ℕ) → is_tries tries ≡ true → IsValidMachine (record m { committed = with_tries m.committed u tries })
  valid-with_tries tries few = record {
    committed = valid-tries tries few;
    presented = are_presented-in m.committed (with_tries m.committed u tries) m.sessions (λ q is. presented-with_tries m.committed u tries q secret is) valid.presented;
    transaction = subst (λ (t : Option Transaction). IfSome t (IsValidWork (record m { committed = with_tries m.committed u tries }))) (sym none) tt;
    readings = reading-committed m (with_tries m.committed u tries) none (record { next = (Follows-itself m.committed).next; objects = (Follows-itself m.committed).objects }) valid;
    basic = valid.basic;
  }

  fewer : is_tries (u.tries - 1) ≡ true
  fewer =
      let fits = find-all user_record.fits (λ (v : User). v.stamp == p.stamp) m.committed.users u valid.committed.users.limits stored in
      let a = and_parts (nat_lt u.stamp (2 ^ 32)) (nat_lt u.owner (2 ^ 32) && (is_tries u.tries && (is_name u.name && is_secret u.secret))) fits in
      let b = and_parts (nat_lt u.owner (2 ^ 32)) (is_tries u.tries && (is_name u.name && is_secret u.secret)) a.1 in
      let c = and_parts (is_tries u.tries) (is_name u.name && is_secret u.secret) b.1 in
      let most = leb-true u.tries 3 c.0 in
      le-leb (u.tries - 1) 3 (omega arith)

  valid-compared : (channel : ℕ) (b : Bool) → IsValidAnswer (if b then secret_right m channel u else secret_wrong m u)
  valid-compared channel true =
      let restored : Machine = record m { committed = with_tries m.committed u 3 } in
      valid-done (changing_session proving restored channel) channel (with_tries m.committed u (u.tries - 1) ∷ with_tries m.committed u 3 ∷ [])
      (valid-changing restored channel proving (λ db s is. proved db s.user is) (λ s is. is) (valid-with_tries 3 refl)) (valid-tries (u.tries - 1) fewer, (valid-tries 3 refl, tt))
    where
      proved : (db : Database) (user : Option PresentedUser) → IfSome user (IsPresentedIn db) → IfSome (option_map (λ (p : PresentedUser). record p { proved = true }) user) (IsPresentedIn db)
      proved db None is = tt
      proved db (Some q) is = record { stamp = is.stamp; secret = λ unproved. absurd (false≢true (sym unproved)) }
  valid-compared channel false = record { machine = valid-with_tries (u.tries - 1) fewer; commits = (valid-tries (u.tries - 1) fewer, tt) }

valid-verified : (m : Machine) (channel : ℕ) (secret : List ℕ) → IsValidMachine m → is_kept_waiting for_any m.transaction channel ≡ false → IfOk (verified m channel secret) IsValidAnswer
valid-verified m channel secret valid free =
    bound-ok IsValidAnswer (or_refused (user_of m channel) conditions_not_satisfied) _ (λ p at.
    bound-ok IsValidAnswer (provided (not p.proved) conditions_not_satisfied) _ (λ x unproved.
    bound-ok IsValidAnswer (or_refused (user_stamped m.committed.users p.stamp) conditions_not_satisfied) _ (λ u is.
    of_outcome IsValidAnswer (provided (not (u.tries == 0)) authentication_blocked) _ (λ _.
    let stored = not_refused (user_stamped m.committed.users p.stamp) conditions_not_satisfied u is in
    let who : IsPresentedIn m.committed p = subst (λ (o : Option PresentedUser). IfSome o (IsPresentedIn m.committed)) (not_refused (user_of m channel) conditions_not_satisfied p at)
    (all-get (Presents m.committed) m.sessions channel valid.presented tt) in
    let has : HasSecret u = subst (λ (o : Option User). IfSome o HasSecret) stored (who.secret (not-true p.proved (not_unless (not p.proved) conditions_not_satisfied x unproved))) in
    valid-compared m valid (none_open m.transaction channel free) p u stored has channel (bytes_eq secret u.secret)))))

-- MANAGE CHANNEL
valid-opened : (m : Machine) (channel number : ℕ) → IsValidMachine m → IfOk (channel_opened m channel number) IsValidAnswer
valid-opened m channel zero valid = of_outcome IsValidAnswer (or_refused (least_closed m) function_not_supported) _ (λ number.
    let done = valid-done (with_session m number (Some new_session)) channel [] (valid-with_session m number (Some new_session) (λ db are. tt) (no_reading-of (base m number)) (basic-set m.sessions number (Some new_session) (λ _. refl) valid.basic) valid) tt in
    record { machine = done.machine; commits = tt })
valid-opened m channel (suc n) valid = of_outcome IsValidAnswer (provided (not (is_channel_open m (suc n))) conditions_not_satisfied) _ (λ _.
    valid-done (with_session m (suc n) (Some new_session)) channel [] (valid-with_session m (suc n) (Some new_session) (λ db are. tt) (no_reading-of (base m (suc n))) (basic-set m.sessions (suc n) (Some new_session) (λ _. refl) valid.basic) valid) tt)

valid-closed : (m : Machine) (channel number : ℕ) → (number ≡ 0 → ⊥) → IsValidMachine m → IfOk (channel_closed m channel number) IsValidAnswer
valid-closed m channel number other valid =
    of_outcome IsValidAnswer (provided (is_channel_open m number) channel_not_supported) _ (λ _.
    of_outcome IsValidAnswer (provided (not (is_some (own_transaction m.transaction number))) conditions_not_satisfied) _ (λ _.
    valid-done (with_session m number None) channel [] (valid-with_session m number None (λ db are. tt) (no_reading-of (base m number)) (basic-set m.sessions number None (λ zero. absurd (other zero)) valid.basic) valid) tt))

-- a channel closes its own, or another one, but never channel 0
closes-other : (channel number : ℕ) → not (channel == 0 && number == 0) ≡ true → (if number == 0 then channel else number) ≡ 0 → ⊥
closes-other channel number closed is = go (number == 0) refl is
  where
    go : (own : Bool) → (number == 0) ≡ own → (if own then channel else number) ≡ 0 → ⊥
    go true at is = false≢true (subst (λ (n : ℕ). not (n == 0 && true) ≡ true) is (subst (λ (b : Bool). not (channel == 0 && b) ≡ true) at closed))
    go false at is = false≢true (sym (subst (λ (n : ℕ). (n == 0) ≡ false) is at))

-- Each operation that doesn't read.
valid-operated : (m : Machine) (channel : ℕ) (operation : Operation) → IsValidMachine m → HasForm operation → FitsCard m.committed.limit operation → is_for_channel channel (kind_of operation) ≡ true
    → is_kept_waiting (waits (kind_of operation)) m.transaction channel ≡ false → IfOk (operated m channel operation) IsValidAnswer
unfolding edits_of
valid-operated m channel Begin valid form fits closed free = valid-begun m channel valid
valid-operated m channel Commit valid form fits closed free = valid-committed m channel valid
valid-operated m channel Rollback valid form fits closed free = valid-rolled_back m channel valid
valid-operated m channel (PresentUser name) valid form fits closed free = valid-presented m channel name valid free
valid-operated m channel (DeleteUser name) valid form fits closed free = valid-deleted m channel name valid form (others-any m.transaction channel free)
valid-operated m channel (Verify secret) valid form fits closed free = valid-verified m channel secret valid free
valid-operated m channel (OpenChannel number) valid form fits closed free = valid-opened m channel number valid
valid-operated m channel (CloseChannel number) valid form fits closed free = valid-closed m channel (if number == 0 then channel else number) (closes-other channel number closed) valid
valid-operated m channel (DeclareCursor object columns conditions) valid form fits closed free = tt
valid-operated m channel OpenCursor valid form fits closed free = tt
valid-operated m channel Next valid form fits closed free = tt
valid-operated m channel Fetch valid form fits closed free = tt
valid-operated m channel FetchNext valid form fits closed free = tt
valid-operated m channel GetResponse valid form fits closed free = tt
valid-operated m channel operation valid form fits closed free = valid-changed m channel operation valid form fits free

valid-carried_out : (m : Machine) (c : Command) → IsValidMachine m → HasForm c.operation → FitsCard m.committed.limit c.operation → is_for_channel c.channel (kind_of c.operation) ≡ true → IfOk (carried_out m c) IsValidAnswer
valid-carried_out m c valid form fits closed =
    bound-ok IsValidAnswer (provided (not (is_kept_waiting (waits (kind_of c.operation)) m.transaction c.channel)) conditions_not_satisfied) _ (λ x free.
    either (reading_command c.operation c.le) refl
    (not-true (is_kept_waiting (waits (kind_of c.operation)) m.transaction c.channel) (not_unless (not (is_kept_waiting (waits (kind_of c.operation)) m.transaction c.channel)) conditions_not_satisfied x free)))
  where
    either : (command : Option ReadingCommand) → reading_command c.operation c.le ≡ command → is_kept_waiting (waits (kind_of c.operation)) m.transaction c.channel ≡ false
        → IfOk (option_map_or (λ command. Ok (reading_done m c.channel command)) command (operated m c.channel c.operation)) IsValidAnswer
    either None is free = valid-operated m c.channel c.operation valid form fits closed free
    either (Some command) is free = valid-reading m c.channel command (HasChosen-reading_command c.operation c.le command form is) valid

valid-answered : (m : Machine) (outcome : Result Answer StatusWord) → IsValidMachine m → IfOk outcome IsValidAnswer → IsValidAnswer (answered m outcome)
valid-answered m (Ok answer) valid is = is
valid-answered m (Err word) valid is = record { machine = valid; commits = tt }

-- a command of a channel ends its chain
pub valid-ended : (m : Machine) (channel : ℕ) → IsValidMachine m → IsValidMachine (changing_session without_chain m channel)
valid-ended m channel valid = valid-changing m channel without_chain (λ db s is. is) (λ s is. is) valid

pub valid-stepped : (m : Machine) (form : Form) → IsValidMachine m → ((c : Command) → form ≡ a_command c → HasForm c.operation × FitsCard m.committed.limit c.operation × (is_for_channel c.channel (kind_of c.operation) ≡ true)) → IsValidAnswer (stepped m form)
valid-stepped m (refused word) valid right = record { machine = valid; commits = tt }
valid-stepped m (refused_on channel word) valid right = record { machine = valid-ended m channel valid; commits = tt }
valid-stepped m (part_on channel kind octets) valid right =
    valid-done (changing_session (with_part kind octets) m channel) channel [] (valid-changing m channel (with_part kind octets) (λ db s is. is) (λ s is. is) valid) tt
valid-stepped m (a_command c) valid right =
    let ended : Machine = changing_session without_chain m c.channel in
    let fields = right c refl in
    valid-answered ended (carried_out ended c) (valid-ended m c.channel valid) (valid-carried_out ended c (valid-ended m c.channel valid) fields.0 fields.1 fields.2)

-- A step.
pub IsValidAnswer-step : (m : Machine) (octets : List ℕ) → AreOctets octets → IsValidMachine m → IsValidAnswer (step m octets)
unfolding step
IsValidAnswer-step m octets are valid =
    valid-stepped m (form_of operations octets (open_channels m) (command_chain m) m.committed.limit) valid (λ c read.
    let formed = IsWellFormed-form_of operations octets (open_channels m) (command_chain m) m.committed.limit c sound-operations are most read in (
      formed.form,
      FitsCard-form_of operations octets (open_channels m) (command_chain m) m.committed.limit c sound-operations are most read,
      formed.closed,
    ))
  where
    most : m.committed.limit ≤ 1020
    most = leb-true m.committed.limit 1020 (within_largest m.committed m.committed.limit valid.committed (le-leb m.committed.limit m.committed.limit (omega arith)))

-- the machine with which a card begins
pub IsValidMachine-start : (db : Database) → IsValid db → IsValidMachine (start db)
IsValidMachine-start db valid = record { committed = valid; presented = (tt, (tt, (tt, (tt, tt)))); transaction = tt; readings = none; basic = refl }
  where
    none : AreReading (λ _. db) (start db).sessions
    none zero = no_reading-of db
    none (suc zero) = no_reading-of db
    none (suc (suc zero)) = no_reading-of db
    none (suc (suc (suc zero))) = no_reading-of db
    none (suc (suc (suc (suc channel)))) = no_reading-of db
