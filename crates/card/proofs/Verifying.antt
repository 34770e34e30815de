-- VERIFY on a channel of a card that holds a machine.
use Rattle.std.proofs.Common.{◌≡◌, ◌≢◌, ◌∙◌, ℕ, zero, suc, ◌-◌, ◌*◌, ◌==◌, not, Bool, true, false, List, [], ◌∷◌, length, is_some, Option, Some, None, Result, Ok, Err, if◌then◌else◌, refl, sym, ap, subst, inl, inr, arith}
use Rattle.std.specs.Prelude.{IfOk, IfSome, OnOk, option_and_then, slice_get}
use Rattle.std.specs.Option.{option_flatten}
use Rattle.std.proofs.lemmas.Bool.{eqb-true}
use Rattle.std.proofs.lemmas.Option.{none-some, same_Some}
use Rattle.eeprom.specs.Chip.{Chip, Becomes, RisesAtMost}
use Rattle.eeprom.specs.declared.EepromFault.{EepromFault}
use Rattle.record_store.specs.Held.{Held}
use Rattle.record_store.specs.declared.side.Side.{Side}
use Rattle.record_store.specs.declared.side.Side.TheVariants.{Committed}
use Rattle.record_table.specs.AtRest.{IsAtRest, LeavesOnce, LeavesOneOf}
use Rattle.record_table.specs.Listed.{slots_of}
use Rattle.record_table.specs.Making.{GoesOn, KeepsRows}
use Rattle.scql_base.specs.declared.cursor.PresentedUser.{PresentedUser}
use Rattle.scql_base.specs.declared.records.User.{User}
use Rattle.scql_base.specs.declared.words.StatusWord.{StatusWord}
use Rattle.std.specs.Str.{bytes_eq}
use Rattle.scql_base.specs.Words.{authentication_blocked, conditions_not_satisfied, done}
use Rattle.scql_model.specs.Edits.{of_user, changing, octets_for}
use Rattle.scql_model.specs.Refusals.{◌>>=◌, or_refused, provided}
use Rattle.scql_model.specs.Bound.{octets_verified, or_nothing}
use Rattle.scql_model.specs.Database.{Database, user_stamped}
use Rattle.scql_model.specs.Machine.{Machine, Session}
use Rattle.scql_model.specs.Replies.{said, Reply}
use Rattle.scql_model.specs.Sessions as sessions
use Rattle.scql_model.specs.Sessions.{proving, user_of, without_pending}
use Rattle.scql_model.specs.Step.{Answer, answered, compared, secret_right, secret_wrong, verified, with_tries}
use Rattle.scql_model.specs.ValidMachine.{ArePresentedIn, HasSecret, IsPresentedIn}
use Rattle.db_access.specs.Verifying.{HoldsSecret, octets_for_verdict, verdict}
use Rattle.db_access.proofs.OnChannels.{AnswersOn, octets-unproved, said-verified, twice-verified, verified-nobody, verified-proved, verified-unproved, with_database}
use Rattle.card.specs.Answering.{HoldsAnswer, LeavesFirstOfTwo, Performs, changing_session, replied, settled}
use Rattle.card.specs.Card.{Kept, StandsOver, HoldsMachine, IsAt}
use Rattle.card.specs.Sessions.{unproved_stamp, unproved_user}
use Rattle.card.proofs.IndexedStore.{HoldsSome-changed, Indexes-on}
use Rattle.card.proofs.Performing.{HoldsMachine-changing, HoldsMachine-rest, IsAtRest-at, Performs-unwritten}
use Rattle.card.proofs.Sides.{StandsOver-idle, StandsOver-sessions, StandsOver-settled}
use Rattle.card.proofs.Transacting.{none-of}

-- who is presented on a channel is a user of the database
presented-on : (db : Database) (sessions : List (Option Session)) (channel : ℕ) (p : PresentedUser) → ArePresentedIn db sessions
    → option_and_then (λ (s : Session). s.user) (option_flatten (slice_get sessions channel)) ≡ Some p → IsPresentedIn db p
presented-on db [] channel p are at = absurd (none-some p at)
presented-on db (session ∷ sessions) zero p are at = subst (λ (o : Option PresentedUser). IfSome o (IsPresentedIn db)) at are.0
presented-on db (session ∷ sessions) (suc channel) p are at = presented-on db sessions channel p are.1 at

-- who is presented there and isn't proved, by the stamp
pub record IsUnproved (m : Machine) (channel stamp : ℕ) : Type 0 where
  pub who : PresentedUser
  pub presented : user_of m channel ≡ Some who
  pub unproved : who.proved ≡ false
  pub stamped : who.stamp ≡ stamp

module _ (card : Kept) (old : Chip) (m : Machine) (channel : ℕ) (at : HoldsMachine card old m) where
  -- the channel of the machine has the user of the card's
  unproved-at : (user : Option ℕ) → user ≡ unproved_user (option_flatten (slice_get card.sessions channel)) → option_and_then unproved_stamp (user_of m channel) ≡ user
  unproved-at user is = ap (λ (sessions : List (Option Session)). unproved_user (option_flatten (slice_get sessions channel))) at.sessions ∙ sym is

  pub unproved-there : (stamp : ℕ) → Some stamp ≡ unproved_user (option_flatten (slice_get card.sessions channel)) → IsUnproved m channel stamp
  unproved-there stamp is = of (user_of m channel) refl (unproved-at (Some stamp) is)
    where
      by_proof : (p : PresentedUser) → user_of m channel ≡ Some p → (proved : Bool) → p.proved ≡ proved → (if proved then None else Some p.stamp) ≡ Some stamp → IsUnproved m channel stamp
      by_proof p there true proved is = absurd (none-some stamp is)
      by_proof p there false unproved is = record { who = p; presented = there; unproved = unproved; stamped = same_Some p.stamp stamp is }

      of : (o : Option PresentedUser) → user_of m channel ≡ o → option_and_then unproved_stamp o ≡ Some stamp → IsUnproved m channel stamp
      of None there is = absurd (none-some stamp is)
      of (Some p) there is = by_proof p there p.proved refl is

  -- nobody is presented there, or who is proved
  pub verified-none : (secret : List ℕ) → None ≡ unproved_user (option_flatten (slice_get card.sessions channel)) → verified m channel secret ≡ Err conditions_not_satisfied
  verified-none secret is = of (user_of m channel) refl (unproved-at None is)
    where
      by_proof : (p : PresentedUser) → user_of m channel ≡ Some p → (proved : Bool) → p.proved ≡ proved → (if proved then None else Some p.stamp) ≡ None → verified m channel secret ≡ Err conditions_not_satisfied
      by_proof p there true proved is = verified-proved m channel secret p there proved
      by_proof p there false unproved is = absurd (none-some p.stamp (sym is))

      of : (o : Option PresentedUser) → user_of m channel ≡ o → option_and_then unproved_stamp o ≡ None → verified m channel secret ≡ Err conditions_not_satisfied
      of None there is = verified-nobody m channel secret there
      of (Some p) there is = by_proof p there p.proved refl is

-- it is refused there
pub Performs-nobody : (card : Kept) (old : Chip) (m : Machine) (channel most : ℕ) (secret : List ℕ) → StandsOver card old → IsAt card old m → None ≡ unproved_user (option_flatten (slice_get card.sessions channel))
    → Performs m (answered m (verified m channel secret)) most [] (Ok conditions_not_satisfied) card old old
Performs-nobody card old m channel most secret ready from none =
    Performs-unwritten card card old old m (answered m (verified m channel secret)) most [] (Ok conditions_not_satisfied) ready from refl
    (subst (λ (outcome : Result Answer StatusWord). HoldsAnswer (answered m outcome) (said conditions_not_satisfied) card old) (sym (verified-none card old m channel from.held secret none)) (record { reply = refl; held = from.held }))

-- where nothing may be written nothing is committed
none-verified : (m : Machine) (channel : ℕ) (secret : List ℕ) → or_nothing (octets_verified m channel secret) ≡ 0 → (answered m (verified m channel secret)).commits ≡ []
none-verified m channel secret = of_user (user_of m channel)
  where
    cells : User → ℕ
    cells u = octets_for (changing (of_user u) ∷ [])

    of_secret : (u : User) (right : Bool) → length (if right then secret_right m channel u else secret_wrong m u).commits * cells u ≡ 0 → (if right then secret_right m channel u else secret_wrong m u).commits ≡ []
    of_secret u true none = absurd (omega (arith, none))
    of_secret u false none = absurd (omega (arith, none))

    of_stored : (stored : Option User) (unproved : Bool)
        → or_nothing (provided unproved conditions_not_satisfied >>= (λ _. or_refused stored conditions_not_satisfied >>= λ (u : User). provided (not (u.tries == 0)) authentication_blocked >>= λ _. Ok (compared m channel secret u))
        >>= λ (answer : Answer). or_refused stored conditions_not_satisfied >>= λ (u : User). Ok (length answer.commits * cells u)) ≡ 0
        → (answered m (provided unproved conditions_not_satisfied >>= λ _. or_refused stored conditions_not_satisfied >>= λ (u : User). provided (not (u.tries == 0)) authentication_blocked >>= λ _. Ok (compared m channel secret u))).commits ≡ []
    of_stored stored false none = refl
    of_stored None true none = refl
    of_stored (Some u) true none = of_left u (not (u.tries == 0)) none
      where
        of_left : (u : User) (left : Bool) → or_nothing (provided left authentication_blocked >>= (λ _. Ok (compared m channel secret u)) >>= λ (answer : Answer). Ok (length answer.commits * cells u)) ≡ 0
            → (answered m (provided left authentication_blocked >>= λ _. Ok (compared m channel secret u))).commits ≡ []
        of_left u true none = of_secret u (bytes_eq secret u.secret) none
        of_left u false none = refl

    of_user : (who : Option PresentedUser)
        → or_nothing (or_refused who conditions_not_satisfied >>= (λ (p : PresentedUser). provided (not p.proved) conditions_not_satisfied >>= λ _. or_refused (user_stamped m.committed.users p.stamp) conditions_not_satisfied
        >>= λ (u : User). provided (not (u.tries == 0)) authentication_blocked >>= λ _. Ok (compared m channel secret u))
        >>= λ (answer : Answer). or_refused who conditions_not_satisfied >>= λ (p : PresentedUser). or_refused (user_stamped m.committed.users p.stamp) conditions_not_satisfied >>= λ (u : User). Ok (length answer.commits * cells u)) ≡ 0
        → (answered m (or_refused who conditions_not_satisfied >>= λ (p : PresentedUser). provided (not p.proved) conditions_not_satisfied >>= λ _. or_refused (user_stamped m.committed.users p.stamp) conditions_not_satisfied
        >>= λ (u : User). provided (not (u.tries == 0)) authentication_blocked >>= λ _. Ok (compared m channel secret u))).commits ≡ []
    of_user None none = refl
    of_user (Some p) none = of_stored (user_stamped m.committed.users p.stamp) (not p.proved) none

-- numbers that are different
pub other_number : (n m : ℕ) → n ≢ m → (n == m) ≡ false
other_number n m other = of (n == m) refl
  where
    of : (b : Bool) → (n == m) ≡ b → b ≡ false
    of true is = absurd (other (eqb-true n m is))
    of false is = refl

-- a word other than 9000
other_word : (word : StatusWord) → word ≢ done → (word.word == done.word) ≡ false
other_word word other = other_number word.word done.word (λ same. other (ap (λ (n : ℕ). let w : StatusWord = record { word = n } in w) same))

module _ (card : Kept) (old : Chip) (m : Machine) (channel stamp : ℕ) (secret : List ℕ) (ready : StandsOver card old) (from : IsAt card old m) (closed : card.transaction ≡ None) (user : IsUnproved m channel stamp) where
  abbrev answer : Answer
  answer = answered m (verified m channel secret)

  -- a secret is asked of the user
  pub secret-held : HoldsSecret card.store old m.committed stamp
  secret-held = record {
    rest = IsAtRest-at card old m ready from;
    secret = subst (λ (stamp : ℕ). IfSome (user_stamped m.committed.users stamp) HasSecret) user.stamped ((presented-on m.committed m.sessions channel user.who from.valid.presented user.presented).secret user.unproved);
  }

  -- the answer is what VERIFY comes to over the database
  on : AnswersOn m channel answer (verdict m.committed stamp secret)
  on = subst (λ (stamp : ℕ). AnswersOn m channel answer (verdict m.committed stamp secret)) user.stamped (verified-unproved m channel secret user.who user.presented user.unproved)

  word-on : (word : StatusWord) → word ≡ (verdict m.committed stamp secret).reply.word → word ≡ answer.reply.word
  word-on word same = same ∙ sym (ap (λ (reply : Reply). reply.word) on.reply)

  -- a card with the store of its database holds the answer, once the right secret has proved the user
  step-verified : (store : Held) (new : Chip) (after : Kept) (word : StatusWord) → word ≡ (verdict m.committed stamp secret).reply.word → IsAtRest store new (verdict m.committed stamp secret).machine.committed
      → (let next : Kept = record card { store = store } in after ≡ settled word (if word.word == done.word then changing_session proving next channel else next) channel) → HoldsAnswer answer (replied [] word) after new
  step-verified store new after word same rest set =
      let next : Kept = record card { store = store } in
      let db = (verdict m.committed stamp secret).machine.committed in
      let is = word-on word same in
      let reply = ap said is ∙ sym (said-verified m channel secret) in
      let held : HoldsMachine next new (with_database m db) = HoldsMachine-rest card store card.index new m db (none-of m.transaction card.transaction from.held.transaction closed) closed from.held.sessions rest in
      elim on.machine [
        | inl proves ↦
            let right : word ≡ done = is ∙ proves.0 in
            let last : after ≡ changing_session without_pending (changing_session proving next channel) channel = set ∙ rw right refl in
            record {
              reply = reply;
              held = subst (λ (kept : Kept). HoldsMachine kept new answer.machine) (sym last)
                  (subst (HoldsMachine (changing_session without_pending (changing_session proving next channel) channel) new) (sym proves.1)
                  (HoldsMachine-changing without_pending (changing_session proving next channel) new (sessions.changing_session proving (with_database m db) channel) channel
                  (HoldsMachine-changing proving next new (with_database m db) channel held)));
            }
        | inr others ↦
            let wrong : (word.word == done.word) ≡ false = other_word word (λ right. others.0 (sym is ∙ right)) in
            let last : after ≡ next = set ∙ rw wrong refl in
            record {
              reply = reply;
              held = subst (λ (kept : Kept). HoldsMachine kept new answer.machine) (sym last) (subst (HoldsMachine next new) (sym others.1) held);
            }
      ]

  module _ (store : Held) (new : Chip) (result : Result StatusWord EepromFault) where
    -- What VERIFY does over the database, it does on the channel.
    pub Performs-verified : (after : Kept) → IfOk result (λ word. word ≡ (verdict m.committed stamp secret).reply.word) → OnOk result (IsAtRest store new (verdict m.committed stamp secret).machine.committed)
        → LeavesOneOf (m.committed ∷ (verdict m.committed stamp secret).commits) old new → ((verdict m.committed stamp secret).commits ≡ [] → OnOk result (new ≡ old))
        → OnOk result (Becomes (RisesAtMost (octets_for_verdict m.committed stamp secret)) old.written new.written)
        → IfOk result (λ word. let next : Kept = record card { store = store } in after ≡ settled word (if word.word == done.word then changing_session proving next channel else next) channel)
        → Performs m answer (or_nothing (octets_verified m channel secret)) [] result after old new
    Performs-verified after words rests moments unwritten octets set = record {
      step = each result words rests set;
      moments = subst (λ (dbs : List Database). LeavesOneOf (m.committed ∷ dbs) old new) (sym on.commits) moments;
      unwritten = still result unwritten;
      octets = subst (λ (most : ℕ). OnOk result (Becomes (RisesAtMost most) old.written new.written))
          (ap (λ (stamp : ℕ). octets_for_verdict m.committed stamp secret) (sym user.stamped) ∙ sym (octets-unproved m channel secret user.who user.presented user.unproved)) octets;
    }
      where
        each : (r : Result StatusWord EepromFault) → IfOk r (λ word. word ≡ (verdict m.committed stamp secret).reply.word) → OnOk r (IsAtRest store new (verdict m.committed stamp secret).machine.committed)
            → IfOk r (λ word. let next : Kept = record card { store = store } in after ≡ settled word (if word.word == done.word then changing_session proving next channel else next) channel)
            → IfOk r (λ word. HoldsAnswer answer (replied [] word) after new)
        each (Ok word) same rest set = step-verified store new after word same rest set
        each (Err fault) same rest set = tt

        still : (r : Result StatusWord EepromFault) → ((verdict m.committed stamp secret).commits ≡ [] → OnOk r (new ≡ old)) → OnOk r (or_nothing (octets_verified m channel secret) ≡ 0 → new ≡ old)
        still (Ok word) unwritten = λ none. unwritten (sym on.commits ∙ none-verified m channel secret none)
        still (Err fault) unwritten = tt

    -- and where it commits twice, the first may have been left
    pub lowered-first : IfOk result (λ word. word ≡ (verdict m.committed stamp secret).reply.word)
        → ((holder : User) → user_stamped m.committed.users stamp ≡ Some holder → IfOk result (λ word. word ≡ done → LeavesOnce (with_tries m.committed holder (holder.tries - 1)) old new))
        → OnOk result (LeavesFirstOfTwo answer old new)
    lowered-first words lowered = of result words lowered
      where
        of : (r : Result StatusWord EepromFault) → IfOk r (λ word. word ≡ (verdict m.committed stamp secret).reply.word)
            → ((holder : User) → user_stamped m.committed.users stamp ≡ Some holder → IfOk r (λ word. word ≡ done → LeavesOnce (with_tries m.committed holder (holder.tries - 1)) old new)) → OnOk r (LeavesFirstOfTwo answer old new)
        of (Err fault) same left = tt
        of (Ok word) same left = λ first second rest twice.
            let both = twice-verified m channel secret first second rest twice in
            let who : both.who ≡ user.who = same_Some both.who user.who (sym both.presented ∙ user.presented) in
            let stored : user_stamped m.committed.users stamp ≡ Some both.user = ap (user_stamped m.committed.users) (sym (ap (λ (p : PresentedUser). p.stamp) who ∙ user.stamped)) ∙ both.stored in
            subst (λ (db : Database). LeavesOnce db old new) (sym both.lowered) (left both.user stored (word-on word same ∙ both.is_done))

-- The card is ready again.
pub StandsOver-verified : (card : Kept) (store : Held) (old new : Chip) → StandsOver card old → card.transaction ≡ None → GoesOn card.store store old new → ((db : Database) → IsAtRest card.store old db → (next : Database) × IsAtRest store new next)
    → ((side : Side) → KeepsRows (slots_of card.store side old) (slots_of store side new)) → StandsOver (record card { store = store }) new
StandsOver-verified card store old new ready closed goes_on holds rows =
    let idle : card.store.begun ≡ false = ready.begun ∙ ap is_some closed in
    StandsOver-idle (record card { store = store }) new ready.live closed (goes_on.begun ∙ idle) goes_on.over (HoldsSome-changed store card.store Committed old new ready.holds goes_on.told holds) (ready.index_begun ∙ ap is_some closed)
    (Indexes-on card.index card.store store old new ready.index goes_on (goes_on.begun ∙ idle) rows)

pub StandsOver-proved : (card : Kept) (chip : Chip) (word : StatusWord) (channel : ℕ) (right : Bool) → StandsOver card chip → StandsOver (settled word (if right then changing_session proving card channel else card) channel) chip
StandsOver-proved card chip word channel true ready = StandsOver-settled word (changing_session proving card channel) channel chip (StandsOver-sessions card (changing_session proving card channel) chip chip _ refl refl ready)
StandsOver-proved card chip word channel false ready = StandsOver-settled word card channel chip ready
