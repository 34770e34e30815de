-- What a card does within a transaction, and with one as a whole.
use Rattle.std.proofs.Common.{◌≡◌, ℕ, ◌≤◌, ◌+◌, ◌*◌, ◌==◌, true, false, List, [], ◌∷◌, length, Option, Some, None, is_some, option_map, Result, Ok, Err, refl, sym, ap, subst, ◌∙◌, inl, inr, arith}
use Rattle.std.specs.Prelude.{IfOk, IfSome, OnOk, IsTrue, slice_get}
use Rattle.std.specs.Option.{option_flatten}
use Rattle.std.proofs.lemmas.Bool.{false≢true}
use Rattle.std.proofs.lemmas.Option.{none-some}
use Rattle.eeprom.specs.Frame.{HasRoom}
use Rattle.eeprom.specs.declared.EepromFault.{EepromFault}
use Rattle.eeprom.specs.Chip.{Chip, Still, Becomes, Keeps, RisesAtMost, RisesBy}
use Rattle.eeprom.specs.StoreOf.{image_size, store_of}
use Rattle.eeprom.proofs.Leaves.{Keeps-none}
use Rattle.record_store.specs.Held.{Held, contents, IsOver, StandsFor}
use Rattle.record_store.specs.Transaction.{begun_from, entries, Commits, IsCommitted}
use Rattle.record_store.specs.declared.side.Side.{Side}
use Rattle.record_store.specs.declared.side.Side.TheVariants.{Committed, Working}
use Rattle.scql_base.specs.declared.cursor.Cursor.{Cursor}
use Rattle.scql_base.specs.declared.operation.Operation.{Operation}
use Rattle.scql_base.specs.declared.words.Actor.{Actor}
use Rattle.scql_base.specs.declared.words.StatusWord.{StatusWord}
use Rattle.scql_base.specs.Words.{conditions_not_satisfied, done}
use Rattle.scql_model.specs.Bound.{octets_changed, octets_committed, or_nothing}
use Rattle.scql_model.specs.Changing.{edits_of, transaction_after, with_edits}
use Rattle.scql_model.specs.Database.{Database, IsValid}
use Rattle.scql_model.specs.Edits.{Edit, applied, cells_written, lacks_room, octets_for_cells, octets_for_commit}
use Rattle.scql_model.specs.Machine.{Machine, Transaction, actor, base}
use Rattle.scql_model.specs.Opens.{Holds}
use Rattle.scql_model.specs.Refusals.{◌>>=◌}
use Rattle.scql_model.specs.Replies.{said}
use Rattle.scql_model.specs.Sessions.{cursor_of, without_pending}
use Rattle.scql_model.specs.Step.{Answer, answered, changed, done_with, transaction_begun, transaction_committed}
use Rattle.scql_model.specs.Transactions.{for_others, own_transaction}
use Rattle.scql_model.specs.Cursors.{IsCursorOf}
use Rattle.scql_model.specs.ValidMachine.{IsValidWork}
use Rattle.record_table.specs.Listed.{slots_of}
use Rattle.record_table.specs.Making.{GoesOn, IsHeld, Makes}
use Rattle.row_index.specs.Index.{Index, side_rows}
use Rattle.record_table.specs.Touching.{IsTouched}
use Rattle.card.specs.Answering.{HoldsAnswer, Performs, changing_session, replied, settled}
use Rattle.record_table.specs.AtRest.{IsAtRest, LeavesOneOf}
use Rattle.card.specs.Card.{Kept, HoldsMachine, HoldsSome, IsAt, StandsOver, WorksOn, committed_slots}
use Rattle.card.specs.Acting.{acting}
use Rattle.card.specs.Changing.{Changes, ConcludesWithin, new_of}
use Rattle.card.specs.Waiting.{keeps_waiting}
use Rattle.card.specs.Sessions.{proved_user}
use Rattle.record_table.proofs.AtRest.{held-same, leaves-committed, leaves-kept, opens-rest, same-slots, slots-committed}
use Rattle.apdu_chain.proofs.CarriedOut.{base-own, changed-own, committed-base, outcome_with}
use Rattle.card.proofs.FreeCommands.{own-open}
use Rattle.card.proofs.Leaving.{rises-none}
use Rattle.card.proofs.IndexedStore.{Indexes-ended}
use Rattle.card.proofs.Performing.{HoldsAnswer-done, HoldsMachine-rest, IsAtRest-at, Performs-changed, Performs-unwritten, actor-at, refused-not_done}
use Rattle.card.proofs.Sides.{HoldsSome-same, IsHeld-works, StandsOver-idle}
use Rattle.record_table.proofs.TouchedRecords.{IsTouched-after, IsTouched-begun, entries-touched}

-- Within a transaction nothing is committed.
within-commits : (m : Machine) (channel : ℕ) (t : Transaction) (edited : Result (List Edit) StatusWord) → (answered m (outcome_with m channel (Some t) edited)).commits ≡ []
within-commits m channel t (Err word) = refl
within-commits m channel t (Ok edits) = of (with_edits (base m channel) edits)
  where
    of : (outcome : Result Database StatusWord)
        → (answered m (outcome >>= λ (db : Database). Ok (done_with (record m { transaction = Some (transaction_after m.committed t edits db) }) channel []))).commits ≡ []
    of (Ok db) = refl
    of (Err word) = refl

-- a refusal is the outcome, and nothing may be written for it
within-refused : (m : Machine) (channel : ℕ) (t : Transaction) (edited : Result (List Edit) StatusWord) (word : StatusWord) → new_of (base m channel) edited ≡ Err word
    → outcome_with m channel (Some t) edited ≡ Err word
within-refused m channel t (Err other) word is = cc
within-refused m channel t (Ok edits) word is = rw is refl

-- edits for which there is room make this of the machine
within-made : (m : Machine) (channel : ℕ) (t : Transaction) (edits : List Edit) → lacks_room (base m channel) edits ≡ false
    → outcome_with m channel (Some t) (Ok edits) ≡ Ok (done_with (record m { transaction = Some (transaction_after m.committed t edits (applied (base m channel) edits)) }) channel [])
within-made m channel t edits room = rw room refl

-- so many octets may be written for a change within a transaction
octets-within : (m : Machine) (channel : ℕ) (operation : Operation) (t : Transaction) (edits : List Edit) → own_transaction m.transaction channel ≡ Some t
    → edits_of (base m channel) (actor m channel) (cursor_of m channel) operation ≡ Ok edits → lacks_room (base m channel) edits ≡ false
    → or_nothing (octets_changed m channel operation) ≡ octets_for_cells (cells_written edits)
octets-within m channel operation t edits own is room = rw (is, room, own) refl

-- A card that holds a machine holds it still where its store and its EEPROM are the same.
HoldsMachine-still : (card after : Kept) (old new : Chip) (m : Machine) → after.store ≡ card.store → after.sessions ≡ card.sessions → after.transaction ≡ card.transaction → new ≡ old → HoldsMachine card old m → HoldsMachine after new m
HoldsMachine-still card after old new m store sessions transaction same at = subst (λ (chip : Chip). HoldsMachine after chip m) (sym same) (record {
  slots = at.slots;
  committed = ap (λ (s : Held). committed_slots s old.image) store ∙ at.committed;
  limit = at.limit ∙ sym (ap (λ (s : Held). s.row_limit) store);
  holds = at.holds;
  transaction = at.transaction ∙ sym transaction;
  works = subst (λ (s : Held). IfSome m.transaction (WorksOn s old at.slots)) (sym store) at.works;
  sessions = at.sessions ∙ sym sessions;
})

-- A card that holds a machine holds it on, with another working database, where a change within its transaction was made.
module _ (card : Kept) (store : Held) (index : Index) (old new : Chip) (m : Machine) (channel : ℕ) (t : Transaction) (ready : StandsOver card old) (at : IsAt card old m) (is : m.transaction ≡ Some t)
    (own : own_transaction m.transaction channel ≡ Some t) where
  works : WorksOn card.store old at.held.slots t
  works = subst (λ (o : Option Transaction). IfSome o (WorksOn card.store old at.held.slots)) is at.held.works

  base-is : base m channel ≡ t.working
  base-is = base-own m channel t is own

  valid-work : IsValidWork m t
  valid-work = subst (λ (o : Option Transaction). IfSome o (IsValidWork m)) is at.valid.transaction

  held-work : IsHeld card.store Working old t.working
  held-work = IsHeld-works card old at.held.slots t ready works valid-work.working

  HoldsMachine-made : (edits : List Edit) → Makes (base m channel) edits card.store store old new → GoesOn card.store store old new → slots_of store Committed new ≡ slots_of card.store Committed old
      → HoldsMachine (record card { store = store; index = index }) new (record m { transaction = Some (transaction_after m.committed t edits (applied (base m channel) edits)) })
  unfolding committed_slots
  HoldsMachine-made edits makes goes_on stays = record {
    slots = at.held.slots;
    committed = stays ∙ at.held.committed;
    limit = at.held.limit ∙ sym goes_on.rows;
    holds = at.held.holds;
    transaction = ap (option_map (λ (t : Transaction). t.channel)) (sym is) ∙ at.held.transaction;
    works = record {
      slots = makes.held.slots;
      told = makes.held.told;
      limit = makes.held.limit;
      holds = makes.held.holds;
      touched = IsTouched-after m.committed (base m channel) (applied (base m channel) edits) t.touched edits at.held.slots works.slots makes.held.slots card.store store old at.held.committed works.told at.held.holds at.valid.committed
          (subst (Holds works.slots) (sym base-is) works.holds) makes.held.holds ((IsAtRest-at card old m ready at).cells ∙ (sym held-work.cells ∙ ap (λ (db : Database). db.cells) (sym base-is)))
          (subst (λ (db : Database). m.committed.next ≤ db.next) (sym base-is) valid-work.follows.next) works.touched (makes.touches works.slots makes.held.slots works.told makes.held.told);
    };
    sessions = at.held.sessions;
  }

  -- What a change within the transaction does to the store, it does to the machine.
  pub Performs-within : (after : Kept) (operation : Operation) (user : Option ℕ) (result : Result StatusWord EepromFault) → user ≡ proved_user (option_flatten (slice_get card.sessions channel))
      → IfOk result (λ word. after ≡ settled word (record card { store = store; index = index }) channel)
      → IfOk result (λ word. ConcludesWithin (base m channel) (edits_of (base m channel) (acting (base m channel) user) (cursor_of m channel) operation) word card.store store old new)
      → OnOk result (slots_of store Committed new ≡ slots_of card.store Committed old) → OnOk result (GoesOn card.store store old new) → Keeps store_of old new
      → Performs m (answered m (changed m channel operation)) (or_nothing (octets_changed m channel operation)) [] result after old new
  Performs-within after operation user result who ended concludes stays goes_on keeps =
      let edited = edits_of (base m channel) (actor m channel) (cursor_of m channel) operation in
      let acts = actor-at card old m channel user at.held who in
      let concluded = subst (λ (actor : Actor). IfOk result (λ word. ConcludesWithin (base m channel) (edits_of (base m channel) actor (cursor_of m channel) operation) word card.store store old new)) (sym acts) concludes in
      subst (λ (o : Result Answer StatusWord). Performs m (answered m o) (or_nothing (octets_changed m channel operation)) [] result after old new) (sym (changed-own m channel operation (Some t) own)) (record {
        step = each result ended concluded stays goes_on;
        moments = subst (λ (dbs : List Database). LeavesOneOf (m.committed ∷ dbs) old new) (sym (within-commits m channel t edited))
            (leaves-kept old new m.committed [] (opens-rest card.store old m.committed ready.over (IsAtRest-at card old m ready at)) keeps);
        unwritten = idle result concluded;
        octets = bounded result concluded;
      })
    where
      edited : Result (List Edit) StatusWord
      edited = edits_of (base m channel) (actor m channel) (cursor_of m channel) operation

      each : (r : Result StatusWord EepromFault) → IfOk r (λ word. after ≡ settled word (record card { store = store; index = index }) channel)
          → IfOk r (λ word. ConcludesWithin (base m channel) edited word card.store store old new) → OnOk r (slots_of store Committed new ≡ slots_of card.store Committed old) → OnOk r (GoesOn card.store store old new)
          → IfOk r (λ word. HoldsAnswer (answered m (outcome_with m channel (Some t) edited)) (replied [] word) after new)
      each (Err fault) ended concluded stays goes_on = tt
      each (Ok word) ended concluded stays goes_on = elim concluded [
        | inl made ↦ (
            let there : (word.word == done.word) ≡ true = ap (λ (w : StatusWord). w.word == done.word) made.2 in
            let dropped = rw there at ended in
            subst (λ (w : StatusWord). HoldsAnswer (answered m (outcome_with m channel (Some t) edited)) (said w) after new) (sym made.2)
            (subst (λ (o : Result Answer StatusWord). HoldsAnswer (answered m o) (said done) after new) (sym (ap (outcome_with m channel (Some t)) made.1 ∙ within-made m channel t made.0 made.3.room))
            (HoldsAnswer-done (record card { store = store; index = index }) after new (record m { transaction = Some (transaction_after m.committed t made.0 (applied (base m channel) made.0)) }) channel []
            (HoldsMachine-made made.0 made.3 goes_on stays) dropped)))
        | inr refused ↦ (
            let there : (word.word == done.word) ≡ false = refused-not_done (base m channel) (actor m channel) (cursor_of m channel) operation word refused.0 in
            let stayed = rw there at ended in
            subst (λ (o : Result Answer StatusWord). HoldsAnswer (answered m o) (said word) after new) (sym (within-refused m channel t edited word refused.0)) (record {
              reply = refl;
              held = subst (λ (kept : Kept). HoldsMachine kept new m) (sym stayed) (HoldsMachine-still card (record card { store = store; index = index }) old new m refused.1 refl refl refused.2 at.held);
            }))
      ]

      idle : (r : Result StatusWord EepromFault) → IfOk r (λ word. ConcludesWithin (base m channel) edited word card.store store old new) → OnOk r (or_nothing (octets_changed m channel operation) ≡ 0 → new ≡ old)
      idle (Err fault) concluded = tt
      idle (Ok word) concluded = λ none. elim concluded [
        | inl made ↦ made.3.unwritten (let no_octets = sym (octets-within m channel operation t made.0 own made.1 made.3.room) ∙ none in omega (arith, no_octets))
        | inr refused ↦ refused.2
      ]

      bounded : (r : Result StatusWord EepromFault) → IfOk r (λ word. ConcludesWithin (base m channel) edited word card.store store old new)
          → OnOk r (Becomes (RisesAtMost (or_nothing (octets_changed m channel operation))) old.written new.written)
      bounded (Err fault) concluded = tt
      bounded (Ok word) concluded = elim concluded [
        | inl made ↦ subst (λ (most : ℕ). Becomes (RisesAtMost most) old.written new.written) (sym (octets-within m channel operation t made.0 own made.1 made.3.room)) made.3.octets
        | inr refused ↦ rises-none _ old new refused.2
      ]

pub none-is : {X : Type 0} (o : Option X) → is_some o ≡ false → o ≡ None
none-is None is = refl
none-is (Some x) is = absurd (false≢true (sym is))

-- Without a channel that has it there is no open transaction.
pub none-of : (t : Option Transaction) (own : Option ℕ) → option_map (λ (t : Transaction). t.channel) t ≡ own → own ≡ None → t ≡ None
none-of None own is none = refl
none-of (Some t) own is none = absurd (none-some t.channel (sym none ∙ sym is))

-- What comes of a change that is committed at once, by the cursor that the session has,
pub Performs-at_once : (card after : Kept) (store : Held) (index : Index) (old new : Chip) (m : Machine) (channel : ℕ) (operation : Operation) (user : Option ℕ) (cursor : Option Cursor) (result : Result StatusWord EepromFault)
    → StandsOver card old → IsAt card old m → card.transaction ≡ None → user ≡ proved_user (option_flatten (slice_get card.sessions channel)) → (cursor_of m channel ≡ cursor) × IfSome cursor (IsCursorOf (base m channel))
    → IfOk result (λ word. after ≡ settled word (record card { store = store; index = index }) channel)
    → ((db : Database) → IsAtRest card.store old db → IfSome cursor (IsCursorOf db) → Changes db (edits_of db (acting db user) cursor operation) result store old new)
    → Performs m (answered m (changed m channel operation)) (or_nothing (octets_changed m channel operation)) [] result after old new
Performs-at_once card after store index old new m channel operation user cursor result ready at closed who reads ended changes =
    let none = none-of m.transaction card.transaction at.held.transaction closed in
    let by = changes m.committed (IsAtRest-at card old m ready at) (subst (λ (db : Database). IfSome cursor (IsCursorOf db)) (committed-base m channel none) reads.1) in
    Performs-changed card after store index old new m channel operation user result at.held none closed who ended
    (subst (λ (cursor : Option Cursor). Changes m.committed (edits_of m.committed (acting m.committed user) cursor operation) result store old new) (sym reads.0) by)

-- and of one within the channel's transaction.
pub Performs-in_transaction : (card after : Kept) (store : Held) (index : Index) (old new : Chip) (m : Machine) (channel own : ℕ) (operation : Operation) (user : Option ℕ) (cursor : Option Cursor) (result : Result StatusWord EepromFault)
    → StandsOver card old → IsAt card old m → card.transaction ≡ Some own → keeps_waiting for_others card.transaction channel ≡ false → user ≡ proved_user (option_flatten (slice_get card.sessions channel))
    → (cursor_of m channel ≡ cursor) × IfSome cursor (IsCursorOf (base m channel)) → IfOk result (λ word. after ≡ settled word (record card { store = store; index = index }) channel)
    → ((db : Database) → IsHeld card.store Working old db → IfSome cursor (IsCursorOf db) → IfOk result (λ word. ConcludesWithin db (edits_of db (acting db user) cursor operation) word card.store store old new))
    → OnOk result (slots_of store Committed new ≡ slots_of card.store Committed old) → OnOk result (GoesOn card.store store old new) → Keeps store_of old new
    → Performs m (answered m (changed m channel operation)) (or_nothing (octets_changed m channel operation)) [] result after old new
Performs-in_transaction card after store index old new m channel own operation user cursor result ready at open' others who reads ended concludes stays goes_on keeps = of m.transaction refl
  where
    of : (t : Option Transaction) → m.transaction ≡ t → Performs m (answered m (changed m channel operation)) (or_nothing (octets_changed m channel operation)) [] result after old new
    of None is = absurd (none-some own (sym (ap (option_map (λ (t : Transaction). t.channel)) is) ∙ (at.held.transaction ∙ open')))
    of (Some t) is =
        let has : own_transaction m.transaction channel ≡ Some t = ap (λ (o : Option Transaction). own_transaction o channel) is ∙ own-open t card.transaction channel (sym (ap (option_map (λ (t : Transaction). t.channel)) is) ∙ at.held.transaction) others in
        let work : IsValidWork m t = subst (λ (o : Option Transaction). IfSome o (IsValidWork m)) is at.valid.transaction in
        let works : WorksOn card.store old at.held.slots t = subst (λ (o : Option Transaction). IfSome o (WorksOn card.store old at.held.slots)) is at.held.works in
        let held : IsHeld card.store Working old (base m channel) = subst (λ (db : Database). IsHeld card.store Working old db) (sym (base-own m channel t is has)) (IsHeld-works card old at.held.slots t ready works work.working) in
        Performs-within card store index old new m channel t ready at is has after operation user result who ended
        (subst (λ (cursor : Option Cursor). IfOk result (λ word. ConcludesWithin (base m channel) (edits_of (base m channel) (acting (base m channel) user) cursor operation) word card.store store old new)) (sym reads.0)
        (concludes (base m channel) held reads.1)) stays goes_on keeps

-- BEGIN.
pub begun-answer : (m : Machine) (channel : ℕ) → m.transaction ≡ None
    → transaction_begun m channel ≡ Ok (done_with (record m { transaction = Some (record { channel = channel; working = m.committed; touched = [] }) }) channel [])
begun-answer m channel none = rw none refl

some-of : (t : Option Transaction) (own : Option ℕ) → option_map (λ (t : Transaction). t.channel) t ≡ own → is_some own ≡ true → is_some t ≡ true
some-of None own is some = ap is_some is ∙ some
some-of (Some t) own is some = refl

pub HoldsAnswer-begun : (card after : Kept) (store : Held) (index : Index) (chip : Chip) (m : Machine) (channel : ℕ) → card.transaction ≡ None → IsAt card chip m → store ≡ begun_from card.store
    → ((image : List ℕ) → contents store Working image ≡ contents card.store Committed image) → ((image : List ℕ) → contents store Committed image ≡ contents card.store Committed image)
    → after ≡ changing_session without_pending (record card { store = store; index = index; transaction = Some channel }) channel
    → HoldsAnswer (answered m (transaction_begun m channel)) (said done) after chip
unfolding committed_slots
HoldsAnswer-begun card after store index chip m channel closed at is starts stays ended =
    let next : Machine = record m { transaction = Some (record { channel = channel; working = m.committed; touched = [] }) } in
    let begun : Kept = record card { store = store; index = index; transaction = Some channel } in
    subst (λ (o : Result Answer StatusWord). HoldsAnswer (answered m o) (said done) after chip) (sym (begun-answer m channel (none-of m.transaction card.transaction at.held.transaction closed)))
    (HoldsAnswer-done begun after chip next channel [] (record {
      slots = at.held.slots;
      committed = same-slots store card.store Committed Committed chip stays ∙ at.held.committed;
      limit = at.held.limit ∙ sym (ap (λ (s : Held). s.row_limit) is);
      holds = at.held.holds;
      transaction = refl;
      works = record {
        slots = at.held.slots;
        told = same-slots store card.store Working Committed chip starts ∙ at.held.committed;
        limit = at.held.limit ∙ sym (ap (λ (s : Held). s.row_limit) is);
        holds = at.held.holds;
        touched = subst (λ (s : Held). IsTouched [] at.held.slots at.held.slots s) (sym is) (IsTouched-begun at.held.slots m.committed card.store at.held.holds at.valid.committed);
      };
      sessions = at.held.sessions;
    }) ended)

-- The end of a transaction: the slots of one side are committed.
pub StandsOver-ended : (card after : Kept) (side : Side) (old new : Chip) → StandsOver card old → HoldsSome card.store side old → IsTrue after.live → after.transaction ≡ None → after.store.begun ≡ false → IsOver after.store new
    → is_some new.image ≡ is_some old.image → slots_of after.store Committed new ≡ slots_of card.store side old → after.store.chains.cells ≡ card.store.chains.cells → after.store.row_limit ≡ card.store.row_limit
    → after.index ≡ record { cells = card.index.cells; begun = false; committed = side_rows card.index side; working = side_rows card.index side } → StandsOver after new
StandsOver-ended card after side old new ready holds live none idle over told same cells rows index =
    StandsOver-idle after new live none idle over (HoldsSome-same after.store card.store Committed side old new holds told same cells rows) (ap (λ (i : Index). i.begun) index)
    (Indexes-ended card.index after.index side card.store after.store old new ready.index index idle cells same)

-- a store that was committed is over its EEPROM,
pub over-committed : (store after : Held) (old new : Chip) → IsOver store old → Commits store old new → Becomes (IsCommitted store after) old.image new.image → after.chains.cells ≡ store.chains.cells → IsOver after new
over-committed store after old new over commits done_now cells = record {
  room = subst (λ (n : ℕ). HasRoom n new) (sym cells) (subst (λ (still : Still). image_size store.chains.cells ≤ still.size) (sym commits.still) over.room);
  stands = told new.image refl;
}
  where
    told : (o : Option (List ℕ)) → new.image ≡ o → IfSome o (StandsFor after)
    told None is = tt
    told (Some image) is = (done_now image is).2.stands

-- What is left once a transaction was dropped.
pub HoldsMachine-undone : (card after : Kept) (chip : Chip) (m : Machine) → HoldsMachine card chip m → ((image : List ℕ) → contents after.store Committed image ≡ contents card.store Committed image)
    → after.store.row_limit ≡ card.store.row_limit → after.sessions ≡ card.sessions → after.transaction ≡ None → HoldsMachine after chip (record m { transaction = None })
unfolding committed_slots
HoldsMachine-undone card after chip m at stays rows sessions none = record {
  slots = at.slots;
  committed = same-slots after.store card.store Committed Committed chip stays ∙ at.committed;
  limit = at.limit ∙ sym rows;
  holds = at.holds;
  transaction = sym none;
  works = tt;
  sessions = at.sessions ∙ sym sessions;
}

-- COMMIT.
committed-answer : (m : Machine) (channel : ℕ) (t : Transaction) → own_transaction m.transaction channel ≡ Some t
    → transaction_committed m channel ≡ Ok (done_with (record m { committed = t.working; transaction = None }) channel (t.working ∷ []))
committed-answer m channel t own = rw own refl

committed-refused : (m : Machine) (channel : ℕ) → own_transaction m.transaction channel ≡ None → transaction_committed m channel ≡ Err conditions_not_satisfied
committed-refused m channel none = rw none refl

octets-of_commit : (m : Machine) (channel : ℕ) (t : Transaction) → own_transaction m.transaction channel ≡ Some t → or_nothing (octets_committed m channel) ≡ octets_for_commit (length t.touched)
octets-of_commit m channel t own = rw own refl

pub Performs-no_commit : (card : Kept) (chip : Chip) (m : Machine) (channel : ℕ) → own_transaction m.transaction channel ≡ None → StandsOver card chip → IsAt card chip m
    → Performs m (answered m (transaction_committed m channel)) (or_nothing (octets_committed m channel)) [] (Ok conditions_not_satisfied) card chip chip
Performs-no_commit card chip m channel none ready at =
    Performs-unwritten card card chip chip m _ _ [] (Ok conditions_not_satisfied) ready at refl
    (subst (λ (o : Result Answer StatusWord). HoldsAnswer (answered m o) (said conditions_not_satisfied) card chip) (sym (committed-refused m channel none)) (record { reply = refl; held = at.held }))

module _ (card : Kept) (store : Held) (index : Index) (old new : Chip) (m : Machine) (channel : ℕ) (t : Transaction) (ready : StandsOver card old) (at : IsAt card old m) (is : m.transaction ≡ Some t)
    (own : own_transaction m.transaction channel ≡ Some t) (commits : Commits card.store old new) where
  work : WorksOn card.store old at.held.slots t
  work = subst (λ (o : Option Transaction). IfSome o (WorksOn card.store old at.held.slots)) is at.held.works

  valid-work' : IsValid t.working
  valid-work' = (subst (λ (o : Option Transaction). IfSome o (IsValidWork m)) is at.valid.transaction).working

  held' : IsHeld card.store Working old t.working
  held' = IsHeld-works card old at.held.slots t ready work valid-work'

  rest' : IsHeld card.store Committed old m.committed
  rest' = IsAtRest-at card old m ready at

  few : entries card.store ≤ length t.touched
  unfolding committed_slots
  few = entries-touched m.committed t.working t.touched at.held.slots work.slots card.store old ready.over at.held.committed work.told at.held.holds at.valid.committed work.holds valid-work' work.touched

  between : LeavesOneOf (m.committed ∷ (answered m (transaction_committed m channel)).commits) old new
  between = subst (λ (o : Result Answer StatusWord). LeavesOneOf (m.committed ∷ (answered m o).commits) old new) (sym (committed-answer m channel t own))
      (leaves-committed card.store old old new m.committed t.working (opens-rest card.store old m.committed ready.over rest') (Keeps-none store_of old old refl) rest' held' commits)

  -- a commit that fails leaves the one database or the other
  pub Performs-half_committed : (result : Result StatusWord EepromFault) (after : Kept) → IfOk result (λ _. ⊥) → Performs m (answered m (transaction_committed m channel)) (or_nothing (octets_committed m channel)) [] result after old new
  Performs-half_committed (Ok word) after failed = absurd failed
  Performs-half_committed (Err fault) after failed = record { step = tt; moments = between; unwritten = tt; octets = tt }

  -- and one that is done makes the working database the committed one
  pub Performs-committed : (after : Kept) → Becomes (IsCommitted card.store store) old.image new.image → is_some new.image ≡ is_some old.image → store.chains.cells ≡ card.store.chains.cells
      → store.row_limit ≡ card.store.row_limit → Becomes (RisesBy (4 + 6 * entries card.store)) old.written new.written
      → after ≡ changing_session without_pending (record card { store = store; index = index; transaction = None }) channel
      → Performs m (answered m (transaction_committed m channel)) (or_nothing (octets_committed m channel)) [] (Ok done) after old new
  Performs-committed after done_now told cells rows rises ended =
      let next : Machine = record m { transaction = None } in
      let closed : Kept = record card { transaction = None } in
      let rest : IsAtRest store new t.working = held-same card.store store Working Committed old new t.working held' (slots-committed card.store store old new ready.over done_now told) cells rows in
      record {
        step = subst (λ (o : Result Answer StatusWord). HoldsAnswer (answered m o) (said done) after new) (sym (committed-answer m channel t own))
            (HoldsAnswer-done (record closed { store = store; index = index }) after new (record next { committed = t.working }) channel (t.working ∷ [])
            (HoldsMachine-rest closed store index new next t.working refl refl at.held.sessions rest) ended);
        moments = between;
        unwritten = λ none. absurd (let most = sym (octets-of_commit m channel t own) ∙ none in omega (arith, most));
        octets = subst (λ (most : ℕ). Becomes (RisesAtMost most) old.written new.written) (sym (octets-of_commit m channel t own)) (λ after told.
            let last = rises after told in
            (last.0, last.1, omega (arith, last.2, few)));
      }
