-- VERIFY on a channel of a machine, by what it comes to over the machine's database.
use Rattle.std.proofs.Common.{◌≡◌, ◌≢◌, ◌⊎◌, ℕ, ◌-◌, ◌==◌, Bool, true, false, not, List, [], ◌∷◌, Option, Some, None, Result, Ok, Err, if◌then◌else◌, refl, sym, ap, ◌∙◌, inl, inr, arith}
use Rattle.std.specs.Prelude.{IfOk}
use Rattle.std.specs.Str.{bytes_eq}
use Rattle.std.proofs.lemmas.Bool.{eqb-true}
use Rattle.scql_base.specs.declared.cursor.PresentedUser.{PresentedUser}
use Rattle.scql_base.specs.declared.records.User.{User}
use Rattle.scql_base.specs.declared.words.StatusWord.{StatusWord}
use Rattle.scql_base.specs.Words.{authentication_blocked, conditions_not_satisfied, done, tries_left}
use Rattle.scql_model.specs.Bound.{octets_verified, or_nothing}
use Rattle.scql_model.specs.Database.{Database, user_stamped}
use Rattle.scql_model.specs.Machine.{Machine}
use Rattle.scql_model.specs.Sessions.{changing_session, proving, user_of, without_pending}
use Rattle.scql_model.specs.Refusals.{or_refused, provided}
use Rattle.scql_model.specs.Replies.{said}
use Rattle.scql_model.specs.Step.{Answer, answered, secret_right, secret_wrong, verified, with_tries}
use Rattle.scql_model.proofs.FormedCommands.{bound, not_refused}
use Rattle.scql_model.proofs.LastCommits.{of_outcome}
use Rattle.scql_model.proofs.RefusalWords.{plain-done}
use Rattle.db_access.specs.Verifying.{octets_for_verdict, presenting, verdict}
use Rattle.db_access.proofs.Verdicts.{verdict-blocked, verdict-none, verdict-right, verdict-wrong}

-- the machine with another database
abbrev pub with_database : Machine → Database → Machine
with_database m db = record m { committed = db }

-- The answer on the channel is that of the database; its user is proved where that is done.
pub record AnswersOn (m : Machine) (channel : ℕ) (answer of_database : Answer) : Type 0 where
  pub reply : answer.reply ≡ of_database.reply
  pub commits : answer.commits ≡ of_database.commits
  pub machine : ((answer.reply.word ≡ done) × (answer.machine ≡ changing_session without_pending (changing_session proving (with_database m of_database.machine.committed) channel) channel))
      ⊎ ((answer.reply.word ≢ done) × (answer.machine ≡ with_database m of_database.machine.committed))

-- where nobody is presented, or the user is proved
pub verified-nobody : (m : Machine) (channel : ℕ) (secret : List ℕ) → user_of m channel ≡ None → verified m channel secret ≡ Err conditions_not_satisfied
verified-nobody m channel secret none = rw none refl

pub verified-proved : (m : Machine) (channel : ℕ) (secret : List ℕ) (p : PresentedUser) → user_of m channel ≡ Some p → p.proved ≡ true → verified m channel secret ≡ Err conditions_not_satisfied
verified-proved m channel secret p at proved = rw (at, proved) refl

refused_word : conditions_not_satisfied ≢ done
refused_word same = omega (arith, ap (λ (w : StatusWord). w.word) same)

blocked_word : authentication_blocked ≢ done
blocked_word same = omega (arith, ap (λ (w : StatusWord). w.word) same)

module _ (m : Machine) (channel : ℕ) where
  -- the answer proves nobody
  unproving : (answer of_database : Answer) (word : StatusWord) (dbs : List Database) (other : Machine) → word ≢ done → answer ≡ record { reply = said word; machine = with_database m other.committed; commits = dbs }
      → of_database ≡ record { reply = said word; machine = other; commits = dbs } → AnswersOn m channel answer of_database
  unproving answer of_database word dbs other apart is of = record {
    reply = ap (λ (a : Answer). a.reply) is ∙ sym (ap (λ (a : Answer). a.reply) of);
    commits = ap (λ (a : Answer). a.commits) is ∙ sym (ap (λ (a : Answer). a.commits) of);
    machine = inr (
      (λ same. apart (sym (ap (λ (a : Answer). a.reply.word) is) ∙ same)),
      ap (λ (a : Answer). a.machine) is ∙ ap (λ (a : Answer). with_database m a.machine.committed) (sym of),
    );
  }

  -- it proves the user
  proves : (stamp : ℕ) (u : User) (answer of_database : Answer) → answer ≡ secret_right m channel u → of_database ≡ secret_right (presenting m.committed stamp) 0 u → AnswersOn m channel answer of_database
  proves stamp u answer of_database is of = record {
    reply = ap (λ (a : Answer). a.reply) is ∙ sym (ap (λ (a : Answer). a.reply) of);
    commits = ap (λ (a : Answer). a.commits) is ∙ sym (ap (λ (a : Answer). a.commits) of);
    machine = inl (
      ap (λ (a : Answer). a.reply.word) is,
      ap (λ (a : Answer). a.machine) is ∙ ap (λ (a : Answer). changing_session without_pending (changing_session proving (with_database m a.machine.committed) channel) channel) (sym of),
    );
  }

  module _ (secret : List ℕ) (p : PresentedUser) (at : user_of m channel ≡ Some p) (unproved : p.proved ≡ false) where
    -- where a user is presented who isn't proved
    pub verified-unproved : AnswersOn m channel (answered m (verified m channel secret)) (verdict m.committed p.stamp secret)
    verified-unproved = found (user_stamped m.committed.users p.stamp) refl
      where
        compared : (u : User) → user_stamped m.committed.users p.stamp ≡ Some u → (u.tries == 0) ≡ false → (right : Bool) → bytes_eq secret u.secret ≡ right
            → AnswersOn m channel (answered m (verified m channel secret)) (verdict m.committed p.stamp secret)
        compared u is some true right =
            proves p.stamp u (answered m (verified m channel secret)) (verdict m.committed p.stamp secret) (rw (at, unproved, is, some, right) refl) (verdict-right m.committed p.stamp secret u is some right)
        compared u is some false wrong =
            unproving (answered m (verified m channel secret)) (verdict m.committed p.stamp secret) (tries_left (u.tries - 1)) (with_tries m.committed u (u.tries - 1) ∷ [])
            (with_database (presenting m.committed p.stamp) (with_tries m.committed u (u.tries - 1))) (λ same. plain-done.1 (u.tries - 1) (sym same)) (rw (at, unproved, is, some, wrong) refl) (verdict-wrong m.committed p.stamp secret u is some wrong)

        tried : (u : User) → user_stamped m.committed.users p.stamp ≡ Some u → (none : Bool) → (u.tries == 0) ≡ none → AnswersOn m channel (answered m (verified m channel secret)) (verdict m.committed p.stamp secret)
        tried u is true none =
            unproving (answered m (verified m channel secret)) (verdict m.committed p.stamp secret) authentication_blocked [] (presenting m.committed p.stamp) blocked_word (rw (at, unproved, is, none) refl)
            (verdict-blocked m.committed p.stamp secret u is (eqb-true u.tries 0 none))
        tried u is false some = compared u is some (bytes_eq secret u.secret) refl

        found : (o : Option User) → user_stamped m.committed.users p.stamp ≡ o → AnswersOn m channel (answered m (verified m channel secret)) (verdict m.committed p.stamp secret)
        found None none =
            unproving (answered m (verified m channel secret)) (verdict m.committed p.stamp secret) conditions_not_satisfied [] (presenting m.committed p.stamp) refused_word (rw (at, unproved, none) refl) (verdict-none m.committed p.stamp secret none)
        found (Some u) is = tried u is (u.tries == 0) refl

    -- so many octets are written at most
    pub octets-unproved : or_nothing (octets_verified m channel secret) ≡ octets_for_verdict m.committed p.stamp secret
    octets-unproved = found (user_stamped m.committed.users p.stamp) refl
      where
        compared : (u : User) → user_stamped m.committed.users p.stamp ≡ Some u → (u.tries == 0) ≡ false → (right : Bool) → bytes_eq secret u.secret ≡ right → or_nothing (octets_verified m channel secret) ≡ octets_for_verdict m.committed p.stamp secret
        compared u is some true right = rw (at, unproved, is, some, right) refl
        compared u is some false wrong = rw (at, unproved, is, some, wrong) refl

        tried : (u : User) → user_stamped m.committed.users p.stamp ≡ Some u → (none : Bool) → (u.tries == 0) ≡ none → or_nothing (octets_verified m channel secret) ≡ octets_for_verdict m.committed p.stamp secret
        tried u is true none = rw (at, unproved, is, none) refl
        tried u is false some = compared u is some (bytes_eq secret u.secret) refl

        found : (o : Option User) → user_stamped m.committed.users p.stamp ≡ o → or_nothing (octets_verified m channel secret) ≡ octets_for_verdict m.committed p.stamp secret
        found None none = rw (at, unproved, none) refl
        found (Some u) is = tried u is (u.tries == 0) refl

-- VERIFY answers a word alone.
pub said-verified : (m : Machine) (channel : ℕ) (secret : List ℕ) → (answered m (verified m channel secret)).reply ≡ said (answered m (verified m channel secret)).reply.word
said-verified m channel secret = go (verified m channel secret) says
  where
    Says : Answer → Type 0
    Says answer = answer.reply ≡ said answer.reply.word

    compared : (u : User) (right : Bool) → Says (if right then secret_right m channel u else secret_wrong m u)
    compared u true = refl
    compared u false = refl

    says : IfOk (verified m channel secret) Says
    says =
        of_outcome Says (or_refused (user_of m channel) conditions_not_satisfied) _ (λ p.
        of_outcome Says (provided (not p.proved) conditions_not_satisfied) _ (λ _.
        of_outcome Says (or_refused (user_stamped m.committed.users p.stamp) conditions_not_satisfied) _ (λ u.
        of_outcome Says (provided (not (u.tries == 0)) authentication_blocked) _ (λ _. compared u (bytes_eq secret u.secret)))))

    go : (r : Result Answer StatusWord) → IfOk r Says → Says (answered m r)
    go (Ok answer) is = is
    go (Err word) is = refl

-- What commits twice is done, and its first database has one try less.
pub record CommitsTwice (m : Machine) (channel : ℕ) (answer : Answer) (first : Database) : Type 0 where
  pub who : PresentedUser
  pub presented : user_of m channel ≡ Some who
  pub user : User
  pub stored : user_stamped m.committed.users who.stamp ≡ Some user
  pub lowered : first ≡ with_tries m.committed user (user.tries - 1)
  pub is_done : answer.reply.word ≡ done

pub twice-verified : (m : Machine) (channel : ℕ) (secret : List ℕ) (first second : Database) (rest : List Database) → (answered m (verified m channel secret)).commits ≡ first ∷ second ∷ rest
    → CommitsTwice m channel (answered m (verified m channel secret)) first
twice-verified m channel secret first second rest twice = go (verified m channel secret) refl twice
  where
    compared : (p : PresentedUser) (u : User) → user_of m channel ≡ Some p → user_stamped m.committed.users p.stamp ≡ Some u → (right : Bool)
        → (if right then secret_right m channel u else secret_wrong m u).commits ≡ first ∷ second ∷ rest → CommitsTwice m channel (if right then secret_right m channel u else secret_wrong m u) first
    compared p u at stored true is = record { who = p; presented = at; user = u; stored = stored; lowered = cc; is_done = refl }
    compared p u at stored false is = absurd cc

    go : (r : Result Answer StatusWord) → verified m channel secret ≡ r → (answered m r).commits ≡ first ∷ second ∷ rest → CommitsTwice m channel (answered m r) first
    go (Err word) is twice = absurd cc
    go (Ok answer) is twice =
        bound (or_refused (user_of m channel) conditions_not_satisfied) _ answer is (λ p at is.
        bound (provided (not p.proved) conditions_not_satisfied) _ answer is (λ _ _ is.
        bound (or_refused (user_stamped m.committed.users p.stamp) conditions_not_satisfied) _ answer is (λ u stored is.
        bound (provided (not (u.tries == 0)) authentication_blocked) _ answer is (λ _ _ is.
        let same : (if bytes_eq secret u.secret then secret_right m channel u else secret_wrong m u) ≡ answer = cc in
        rw (sym same) (compared p u (not_refused (user_of m channel) conditions_not_satisfied p at) (not_refused (user_stamped m.committed.users p.stamp) conditions_not_satisfied u stored) (bytes_eq secret u.secret)
        (ap (λ (a : Answer). a.commits) same ∙ twice))))))
