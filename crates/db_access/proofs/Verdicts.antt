-- What VERIFY comes to, by the user that was found and what was committed.
use Rattle.std.proofs.Common.{◌≡◌, ℕ, ◌*◌, ◌-◌, ◌==◌, true, false, List, [], ◌∷◌, eqb, Option, Some, None, Result, Ok, Err, refl, sym, ap, subst, ◌∙◌, inl, inr, arith}
use Rattle.std.specs.Prelude.{IfSome, if◌then◌else◌}
use Rattle.std.specs.Result.{IsErrAnd}
use Rattle.std.specs.Str.{bytes_eq}
use Rattle.std.proofs.lemmas.Bool.{cases_Bool, eq-eqb, le-ltb}
use Rattle.eeprom.specs.Chip.{Chip, Still}
use Rattle.eeprom.specs.Slots.{Rises, replaced}
use Rattle.eeprom.specs.declared.fault.EepromFault.{EepromFault}
use Rattle.eeprom.proofs.Moments.{throughout-then, throughout-weaker}
use Rattle.eeprom.proofs.Leaves.{Keeps-none}
use Rattle.record_store.specs.Held.{Held}
use Rattle.record_store.specs.declared.side.Side.{Side}
use Rattle.record_store.specs.declared.side.Side.TheVariants.{Committed}
use Rattle.scql_base.specs.Words.{authentication_blocked, conditions_not_satisfied, done, tries_left}
use Rattle.scql_base.specs.declared.records.TheConstants.User.{ALL_TRIES}
use Rattle.scql_base.specs.declared.records.User.{User}
use Rattle.scql_base.specs.declared.words.StatusWord.{StatusWord}
use Rattle.scql_model.specs.Database.{Database, IsValid, user_stamped, weight}
use Rattle.scql_model.specs.Edits.{applied, changing, lacks_room, octets_for}
use Rattle.scql_model.specs.Opens.{Opens}
use Rattle.scql_model.specs.Records.{of_user}
use Rattle.scql_model.specs.Replies.{said}
use Rattle.scql_model.specs.Step.{Answer, secret_right, secret_wrong, with_tries}
use Rattle.catalog_codec.specs.Catalog.{user_kind}
use Rattle.record_table.specs.AtRest.{IsAtRest, LeavesOneOf, Replaces}
use Rattle.record_table.specs.Listed.{at_slot, listed, slots_of}
use Rattle.record_table.specs.Making.{IsHeld, stop_answer}
use Rattle.record_table.specs.declared.stop.Stop.{Stop}
use Rattle.record_table.specs.declared.stop.Stop.TheVariants.{Refused, Fault}
use Rattle.record_table.proofs.AtRest.{leaves-kept}
use Rattle.db_access.specs.Verifying.{Verifies, VerifiesUnrefused, octets_for_verdict, presenting, verdict}

-- the user of a stamp that was found on a side is the database's
pub stamped-held : (store : Held) (side : Side) (chip : Chip) (db : Database) (stamp : ℕ) (found : Option User) → IsHeld store side chip db
    → IfSome (slots_of store side chip) (λ slots. Rises user_kind.key (listed user_kind slots) → found ≡ user_stamped (listed user_kind slots) stamp) → user_stamped db.users stamp ≡ found
stamped-held store side chip db stamp found held there =
    let here = subst (λ o. IfSome o (λ slots. Rises user_kind.key (listed user_kind slots) → found ≡ user_stamped (listed user_kind slots) stamp)) held.told there in
    let users : listed user_kind held.slots ≡ db.users = held.holds.users in
    sym (here (subst (Rises user_kind.key) (sym users) held.valid.users.rises) ∙ ap (λ (users : List User). user_stamped users stamp) users)

-- an element that takes the place of another, and then one of the same key
replaced-twice : {X : Type 0} (key : X → ℕ) (x y : X) (xs : List X) → key x ≡ key y → replaced key y (replaced key x xs) ≡ replaced key y xs
replaced-twice key x y [] same = refl
replaced-twice key x y (z ∷ xs) same =
    elim (cases_Bool (eqb (key z) (key x))) [
      | inl t ↦ (let now : eqb (key z) (key y) ≡ true = subst (λ k. eqb (key z) k ≡ true) same t in
          rw (t, eq-eqb (key x) (key y) same, now) (ap (λ xs. y ∷ xs) (replaced-twice key x y xs same)))
      | inr f ↦ rw f (ap (λ xs. (if eqb (key z) (key y) then y else z) ∷ xs) (replaced-twice key x y xs same))
    ]

-- the last tries count
pub tries-twice : (db : Database) (u : User) (first second : ℕ) → with_tries (with_tries db u first) u second ≡ with_tries db u second
tries-twice db u first second =
    ap (λ (users : List User). record db { users = users }) (replaced-twice (λ (v : User). v.stamp) (record u { tries = first }) (record u { tries = second }) db.users refl)

-- where the database with another user is valid, there is room for that one
pub room-changed : (db : Database) (u : User) → IsValid (applied db (changing (of_user u) ∷ [])) → lacks_room db (changing (of_user u) ∷ []) ≡ false
room-changed db u valid =
    let new = applied db (changing (of_user u) ∷ []) in
    le-ltb new.cells (weight new) valid.stored.room

-- all tries are given back after one less was committed
pub restores : {T : Type 0} (db : Database) (u : User) (slot : ℕ) (old new : Held) (before after : Chip) (result : Result T Stop)
    → ((db : Database) (was : User) → IsAtRest old before db → IfSome (slots_of old Committed before) (λ slots. Some was ≡ at_slot user_kind slot slots) → was.stamp ≡ u.stamp
    → lacks_room db (changing (of_user (record u { tries = ALL_TRIES })) ∷ []) ≡ false → IsValid (with_tries db u ALL_TRIES)
    → Replaces db (with_tries db u ALL_TRIES) (octets_for (changing (of_user (record u { tries = ALL_TRIES })) ∷ [])) result new before after)
    → (first : ℕ) → IsAtRest old before (with_tries db u first) → IfSome (slots_of old Committed before) (λ slots. Some (record u { tries = first }) ≡ at_slot user_kind slot slots) → IsValid (with_tries db u ALL_TRIES)
    → Replaces (with_tries db u first) (with_tries db u ALL_TRIES) (octets_for (changing (of_user u) ∷ [])) result new before after
restores db u slot old new before after result replaces first rest there valid =
    let twice = tries-twice db u first ALL_TRIES in
    let valid_twice : IsValid (with_tries (with_tries db u first) u ALL_TRIES) = subst IsValid (sym twice) valid in
    subst (λ (next : Database). Replaces (with_tries db u first) next (octets_for (changing (of_user u) ∷ [])) result new before after) twice
    (replaces (with_tries db u first) (record u { tries = first }) rest there refl (room-changed (with_tries db u first) (record u { tries = ALL_TRIES }) valid_twice) valid_twice)

module _ (db : Database) (stamp : ℕ) (secret : List ℕ) where
  -- The model's answers.
  pub verdict-none : user_stamped db.users stamp ≡ None → verdict db stamp secret ≡ record { reply = said conditions_not_satisfied; machine = presenting db stamp; commits = [] }
  verdict-none none = rw none refl

  module _ (u : User) (found : user_stamped db.users stamp ≡ Some u) where
    pub verdict-blocked : u.tries ≡ 0 → verdict db stamp secret ≡ record { reply = said authentication_blocked; machine = presenting db stamp; commits = [] }
    verdict-blocked none = rw (found, none) refl

    pub verdict-wrong : (u.tries == 0) ≡ false → bytes_eq secret u.secret ≡ false → verdict db stamp secret ≡ secret_wrong (presenting db stamp) u
    verdict-wrong some wrong = rw (found, some, wrong) refl

    pub verdict-right : (u.tries == 0) ≡ false → bytes_eq secret u.secret ≡ true → verdict db stamp secret ≡ secret_right (presenting db stamp) 0 u
    verdict-right some right = rw (found, some, right) refl

    pub octets-wrong : (u.tries == 0) ≡ false → bytes_eq secret u.secret ≡ false → octets_for_verdict db stamp secret ≡ 1 * octets_for (changing (of_user u) ∷ [])
    octets-wrong some wrong = rw (found, some, wrong) refl

    pub octets-right : (u.tries == 0) ≡ false → bytes_eq secret u.secret ≡ true → octets_for_verdict db stamp secret ≡ 2 * octets_for (changing (of_user u) ∷ [])
    octets-right some right = rw (found, some, right) refl

    -- whatever the secret is, one try less is committed first
    pub commits-first : (u.tries == 0) ≡ false → (more : List Database) × ((verdict db stamp secret).commits ≡ with_tries db u (u.tries - 1) ∷ more)
    commits-first some = elim (cases_Bool (bytes_eq secret u.secret)) [
      | inl right ↦ (with_tries db u ALL_TRIES ∷ [], ap (λ (a : Answer). a.commits) (verdict-right some right))
      | inr wrong ↦ ([], ap (λ (a : Answer). a.commits) (verdict-wrong some wrong))
    ]

-- a user's record is as long with other tries
pub octets-tries : (u : User) (tries : ℕ) → octets_for (changing (of_user (record u { tries = tries })) ∷ []) ≡ octets_for (changing (of_user u) ∷ [])
octets-tries u tries = refl

-- What a power loss leaves where one database is committed after another.
leaves-more : (a b : Database) (more : List Database) (old new : Chip) → LeavesOneOf (a ∷ b ∷ []) old new → LeavesOneOf (a ∷ b ∷ more) old new
leaves-more a b more old new leaves = throughout-weaker old new _ _ leaves (λ g left at. (
  at.0,
  elim at.1 [
    | inl first ↦ inl first
    | inr rest ↦ elim rest [
      | inl second ↦ inr (inl second)
      | inr none ↦ absurd none
    ]
  ],
))

leaves-both : (a b c : Database) (old mid new : Chip) → mid.still ≡ old.still → LeavesOneOf (a ∷ b ∷ []) old mid → LeavesOneOf (b ∷ c ∷ []) mid new → LeavesOneOf (a ∷ b ∷ c ∷ []) old new
leaves-both a b c old mid new still first second =
    throughout-then old mid new _ (leaves-more a b (c ∷ []) old mid first) (throughout-weaker mid new _ _ second (λ g left at. (at.0 ∙ ap (λ (s : Still). s.mark) still, inr at.1)))

-- How VERIFY ends, where the store held the database, and where this is the model's answer.
module _ (db : Database) (answer : Answer) (most : ℕ) (old : Chip) where
  -- nothing is written
  pub Unrefused-unwritten : (stamp : ℕ) (word : StatusWord) (store : Held) (new : Chip) → answer ≡ record { reply = said word; machine = presenting db stamp; commits = [] } → IsAtRest store new db → new ≡ old
      → ((was : List ℕ) → old.image ≡ Some was → Opens was db) → VerifiesUnrefused db answer most (Ok word) store old new
  Unrefused-unwritten stamp word store new is rest same opens = record {
    verifies = record {
      word = ap (λ (a : Answer). a.reply.word) (sym is);
      rests = subst (λ (a : Answer). IsAtRest store new a.machine.committed) (sym is) rest;
      moments = leaves-kept old new db answer.commits opens (Keeps-none _ old new same);
      unwritten = λ none. same;
      octets = λ after told. (after, subst (λ (chip : Chip). chip.written ≡ Some after) same told, omega arith);
    };
    unrefused = λ word refused. cc;
  }

  -- it stopped
  stopped : (result : Result StatusWord Stop) (stop : Stop) (store : Held) (new : Chip) → IsErrAnd result (λ given. given ≡ stop) → ((word : StatusWord) → stop ≡ Refused word → ⊥)
      → LeavesOneOf (db ∷ answer.commits) old new → VerifiesUnrefused db answer most result store old new
  stopped (Ok word) stop store new gives unrefused leaves = absurd gives
  stopped (Err given) stop store new gives unrefused leaves = record {
    verifies = record { word = tt; rests = tt; moments = leaves; unwritten = tt; octets = tt };
    unrefused = λ word refused. unrefused word (sym gives ∙ (let same : given ≡ Refused word = cc in same));
  }

  -- a device failed before anything was written
  pub Unrefused-failed : (result : Result StatusWord Stop) (store : Held) (new : Chip) → IsErrAnd result (λ given. given ≡ Fault) → new ≡ old → ((was : List ℕ) → old.image ≡ Some was → Opens was db) → VerifiesUnrefused db answer most result store old new
  Unrefused-failed result store new gives same opens = stopped result Fault store new gives (λ word refused. cc) (leaves-kept old new db answer.commits opens (Keeps-none _ old new same))

  module _ (lowered : Database) (few : ℕ) where
    -- in the first commit
    pub Unrefused-stopped : {T : Type 0} (part : Result T Stop) (stop : Stop) (result : Result StatusWord Stop) (store : Held) (new : Chip) (more : List Database) → answer.commits ≡ lowered ∷ more → part ≡ Err stop
        → IsErrAnd result (λ given. given ≡ stop) → Replaces db lowered few part store old new → VerifiesUnrefused db answer most result store old new
    Unrefused-stopped part stop result store new more commits is gives first =
        stopped result stop store new gives (λ word refused. first.unrefused word (is ∙ ap (λ stop. Err stop) refused))
        (subst (λ (dbs : List Database). LeavesOneOf (db ∷ dbs) old new) (sym commits) (leaves-more db lowered more old new first.moments))

    -- behind it, for the secret is wrong
    pub Unrefused-wrong : {T : Type 0} (x : T) (stamp : ℕ) (u : User) (word : StatusWord) (store : Held) (new : Chip) → answer ≡ secret_wrong (presenting db stamp) u → lowered ≡ with_tries db u (u.tries - 1) → word ≡ tries_left (u.tries - 1)
        → most ≡ 1 * few → Replaces db lowered few (Ok x) store old new → VerifiesUnrefused db answer most (Ok word) store old new
    Unrefused-wrong x stamp u word store new is lower says octets first = record {
      verifies = record {
        word = says ∙ ap (λ (a : Answer). a.reply.word) (sym is);
        rests = subst (λ (a : Answer). IsAtRest store new a.machine.committed) (sym is) (subst (λ (d : Database). IsAtRest store new d) lower first.rests);
        moments = subst (λ (dbs : List Database). LeavesOneOf (db ∷ dbs) old new) (ap (λ (d : Database). d ∷ []) lower ∙ ap (λ (a : Answer). a.commits) (sym is)) first.moments;
        unwritten = λ none. absurd (let wrong : with_tries db u (u.tries - 1) ∷ [] ≡ [] = ap (λ (a : Answer). a.commits) (sym is) ∙ none in cc);
        octets = λ after told. (let wrote = first.octets after told in (wrote.0, wrote.1, omega (arith, wrote.2, octets)));
      };
      unrefused = λ word refused. cc;
    }

    module _ (restored : Database) {S T : Type 0} (x : S) (mid_store : Held) (mid : Chip) (first : Replaces db lowered few (Ok x) mid_store old mid) (still : mid.still ≡ old.still) where
      -- in the second commit
      pub Unrefused-stopped_again : (part : Result T Stop) (stop : Stop) (result : Result StatusWord Stop) (store : Held) (new : Chip) → answer.commits ≡ lowered ∷ restored ∷ [] → part ≡ Err stop
          → IsErrAnd result (λ given. given ≡ stop) → Replaces lowered restored few part store mid new → VerifiesUnrefused db answer most result store old new
      Unrefused-stopped_again part stop result store new commits is gives second =
          stopped result stop store new gives (λ word refused. second.unrefused word (is ∙ ap (λ stop. Err stop) refused))
          (subst (λ (dbs : List Database). LeavesOneOf (db ∷ dbs) old new) (sym commits) (leaves-both db lowered restored old mid new still first.moments second.moments))

      -- behind it
      pub Unrefused-right : (y : T) (stamp : ℕ) (u : User) (store : Held) (new : Chip) → answer ≡ secret_right (presenting db stamp) 0 u → lowered ≡ with_tries db u (u.tries - 1) → restored ≡ with_tries db u ALL_TRIES
          → most ≡ 2 * few → Replaces lowered restored few (Ok y) store mid new → VerifiesUnrefused db answer most (Ok done) store old new
      Unrefused-right y stamp u store new is lower restore octets second = record {
        verifies = record {
          word = ap (λ (a : Answer). a.reply.word) (sym is);
          rests = subst (λ (a : Answer). IsAtRest store new a.machine.committed) (sym is) (subst (λ (d : Database). IsAtRest store new d) restore second.rests);
          moments = subst (λ (dbs : List Database). LeavesOneOf (db ∷ dbs) old new) (ap (λ (d : Database). d ∷ restored ∷ []) lower ∙ (ap (λ (d : Database). with_tries db u (u.tries - 1) ∷ d ∷ []) restore ∙ ap (λ (a : Answer). a.commits) (sym is)))
              (leaves-both db lowered restored old mid new still first.moments second.moments);
          unwritten = λ none. absurd (let wrong : with_tries db u (u.tries - 1) ∷ with_tries db u ALL_TRIES ∷ [] ≡ [] = ap (λ (a : Answer). a.commits) (sym is) ∙ none in cc);
          octets = λ after told.
              let later = second.octets after told in
              let sooner = first.octets later.0 later.1 in
              (sooner.0, sooner.1, omega (arith, later.2, sooner.2, octets));
        };
        unrefused = λ word refused. cc;
      }

-- What is tried is answered so: the word, or that a device failed, for nothing was refused.
abbrev pub answer_to : Result StatusWord Stop → Result StatusWord EepromFault
answer_to (Ok word) = Ok word
answer_to (Err stop) = stop_answer stop

pub Verifies-answered : (db : Database) (answer : Answer) (most : ℕ) (tried : Result StatusWord Stop) (result : Result StatusWord EepromFault) (store : Held) (old new : Chip) → result ≡ answer_to tried → VerifiesUnrefused db answer most tried store old new
    → Verifies db answer most result store old new
Verifies-answered db answer most tried result store old new is tries = subst (λ (result : Result StatusWord EepromFault). Verifies db answer most result store old new) (sym is) (of tried tries)
  where
    of : (tried : Result StatusWord Stop) → VerifiesUnrefused db answer most tried store old new → Verifies db answer most (answer_to tried) store old new
    of (Ok word) tries = (let v = tries.verifies in record { word = v.word; rests = v.rests; moments = v.moments; unwritten = v.unwritten; octets = v.octets })
    of (Err (Refused word)) tries = absurd (tries.unrefused word refl)
    of (Err Fault) tries = record { word = tt; rests = tt; moments = tries.verifies.moments; unwritten = tt; octets = tt }
