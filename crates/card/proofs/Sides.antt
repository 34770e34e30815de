-- The sides of the store of a card that is at a machine.
use Rattle.std.proofs.Common.{◌≡◌, ◌==◌, ℕ, Bool, true, false, List, length, Option, Some, None, is_some, option_map, if◌then◌else◌, refl, sym, ap, subst, ◌∙◌, inl, inr}
use Rattle.std.specs.Prelude.{IfSome, IsTrue, option_and_then}
use Rattle.std.proofs.lemmas.Bool.{cases_Bool, false≢true}
use Rattle.std.proofs.lemmas.Option.{same_Some}
use Rattle.eeprom.specs.Chip.{Chip}
use Rattle.eeprom.specs.StoreOf.{Slots}
use Rattle.record_store.specs.Held.{Held, IsOver}
use Rattle.record_store.specs.declared.side.Side.{Side}
use Rattle.record_store.specs.declared.side.Side.TheVariants.{Committed, Working}
use Rattle.record_table.specs.Listed.{slots_of}
use Rattle.record_table.specs.Making.{GoesOn, IsHeld}
use Rattle.row_index.specs.Index.{Index, Indexes}
use Rattle.scql_base.specs.declared.words.StatusWord.{StatusWord}
use Rattle.scql_base.specs.Words.{done}
use Rattle.scql_model.specs.Database.{Database, IsValid}
use Rattle.scql_model.specs.Sessions.{without_pending}
use Rattle.scql_model.specs.Machine.{Machine, Session, Transaction, base, base_of}
use Rattle.scql_model.specs.ValidMachine.{IsValidWork}
use Rattle.card.specs.Answering.{changing_session, settled}
use Rattle.db_read.specs.Scan as scans
use Rattle.db_read.specs.Scan.{IsRightFor}
use Rattle.scql_base.specs.declared.words.Actor.{Actor}
use Rattle.scql_model.specs.Sessions.{reading_so}
use Rattle.scql_model.specs.Machine.{Reading}
use Rattle.card.specs.Acting.{acting}
use Rattle.card.specs.Card.{Kept, StandsOver, IsAt, IsReady, IsStillFound, HoldsSome, WorksOn}
use Rattle.card.specs.Sessions.{cursor_on, proved_user, session_on}
use Rattle.card.specs.declared.found.Found.{Found}
use Rattle.card.specs.declared.found.ChannelActor.{ChannelActor}
use Rattle.card.proofs.SeenSessions.{changed-on}
use Rattle.card.specs.Waiting.{side_of}
use Rattle.record_table.proofs.AtRest.{held-same}
use Rattle.record_table.proofs.Steps.{told-image}
use Rattle.card.proofs.IndexedStore.{working-idle}
use Rattle.card.proofs.Performing.{IsAtRest-at}

-- where slots are told, a side holds some database
pub some-held : (store : Held) (side : Side) (chip : Chip) → HoldsSome store side chip → (image : List ℕ) → chip.image ≡ Some image → (db : Database) × IsHeld store side chip db
some-held store side chip holds image is = subst (λ (o : Option (List ℕ)). IfSome o (λ image. (db : Database) × IsHeld store side chip db)) is holds

-- a side that holds a database has as many slots as cells
length-held : (store : Held) (side : Side) (chip : Chip) (db : Database) (slots : Slots) → IsHeld store side chip db → slots_of store side chip ≡ Some slots → length slots ≡ store.chains.cells
length-held store side chip db slots held told = ap length (sym (same_Some held.slots slots (sym held.told ∙ told))) ∙ (held.holds.cells ∙ held.cells)

-- The working side of a card holds the database that its transaction works on.
pub IsHeld-works : (card : Kept) (chip : Chip) (committed : Slots) (t : Transaction) → StandsOver card chip → WorksOn card.store chip committed t → IsValid t.working → IsHeld card.store Working chip t.working
IsHeld-works card chip committed t ready works valid =
    let image = told-image card.store Working chip works.slots works.told in
    let some = some-held card.store Working chip ready.works image.0 image.1 in
    record {
      slots = works.slots;
      told = works.told;
      cells = sym works.holds.cells ∙ length-held card.store Working chip some.0 works.slots some.1 works.told;
      limit = works.limit;
      holds = works.holds;
      valid = valid;
    }

-- A channel's side holds what the channel reads and changes.
pub IsHeld-base : (card : Kept) (chip : Chip) (m : Machine) (channel : ℕ) → StandsOver card chip → IsAt card chip m → IsHeld card.store (side_of card.transaction channel) chip (base m channel)
IsHeld-base card chip m channel ready at =
    subst (λ (own : Option ℕ). IsHeld card.store (side_of own channel) chip (base m channel)) at.held.transaction (each m.transaction at.held.works at.valid.transaction)
  where
    either : (t : Transaction) (b : Bool) → WorksOn card.store chip at.held.slots t → IsValidWork m t → IsHeld card.store (if b then Working else Committed) chip (if b then t.working else m.committed)
    either t true works valid = IsHeld-works card chip at.held.slots t ready works valid.working
    either t false works valid = let rest : IsHeld card.store Committed chip m.committed = IsAtRest-at card chip m ready at in rest

    each : (t : Option Transaction) → IfSome t (WorksOn card.store chip at.held.slots) → IfSome t (IsValidWork m)
        → IsHeld card.store (side_of (option_map (λ (t : Transaction). t.channel) t) channel) chip (base_of t m.committed channel)
    each None works valid = let rest : IsHeld card.store Committed chip m.committed = IsAtRest-at card chip m ready at in rest
    each (Some t) works valid = either t (t.channel == channel) works valid

-- A side that has the slots of another holds what that one holds.
pub HoldsSome-same : (store other : Held) (side from : Side) (old new : Chip) → HoldsSome other from old → is_some new.image ≡ is_some old.image → slots_of store side new ≡ slots_of other from old
    → store.chains.cells ≡ other.chains.cells → store.row_limit ≡ other.row_limit → HoldsSome store side new
HoldsSome-same store other side from old new holds told same cells rows = of old.image new.image holds told
  where
    of : (was now : Option (List ℕ)) → IfSome was (λ image. (db : Database) × IsHeld other from old db) → is_some now ≡ is_some was → IfSome now (λ image. (db : Database) × IsHeld store side new db)
    of was None holds told = tt
    of (Some image) (Some now) holds told = (holds.0, held-same other store from side old new holds.0 holds.1 same cells rows)
    of None (Some now) holds told = absurd (false≢true (sym told))

-- Without a transaction a card is ready that holds a database.
pub StandsOver-idle : (card : Kept) (chip : Chip) → IsTrue card.live → card.transaction ≡ None → card.store.begun ≡ false → IsOver card.store chip → HoldsSome card.store Committed chip → card.index.begun ≡ false
    → Indexes card.index card.store chip → StandsOver card chip
StandsOver-idle card chip live none idle over holds index_idle index = record {
  live = live;
  begun = idle ∙ sym (ap is_some none);
  over = over;
  holds = holds;
  works = HoldsSome-same card.store card.store Working Committed chip chip holds refl (working-idle card.store chip idle) refl refl;
  index_begun = index_idle ∙ sym (ap is_some none);
  index = index;
}

-- A card is ready still where nothing but sessions changed.
pub StandsOver-sessions : (card after : Kept) (old new : Chip) (sessions : List (Option Session)) → after ≡ record card { sessions = sessions } → new ≡ old → StandsOver card old → StandsOver after new
StandsOver-sessions card after old new sessions is same ready = subst (λ (kept : Kept). StandsOver kept new) (sym is) (subst (λ (chip : Chip). StandsOver (record card { sessions = sessions }) chip) (sym same) (record {
  live = ready.live;
  begun = ready.begun;
  over = ready.over;
  holds = ready.holds;
  works = ready.works;
  index_begun = ready.index_begun;
  index = ready.index;
}))

-- or where a channel's command was settled.
pub StandsOver-settled : (word : StatusWord) (card : Kept) (channel : ℕ) (chip : Chip) → StandsOver card chip → StandsOver (settled word card channel) chip
StandsOver-settled word card channel chip ready = elim (cases_Bool (word.word == done.word)) [
  | inl e ↦ rw e (StandsOver-sessions card (changing_session without_pending card channel) chip chip _ refl refl ready)
  | inr f ↦ rw f ready
]

-- Within a transaction a card stays ready whose working side goes on, and whose committed one stays.
pub StandsOver-within : (card : Kept) (store : Held) (index : Index) (old new : Chip) → StandsOver card old → is_some card.transaction ≡ true → GoesOn card.store store old new
    → slots_of store Committed new ≡ slots_of card.store Committed old → HoldsSome store Working new
    → IsTrue index.begun → Indexes index store new → StandsOver (record card { store = store; index = index }) new
StandsOver-within card store index old new ready there goes_on stays works begun stands = record {
  live = ready.live;
  begun = goes_on.begun ∙ ready.begun;
  over = goes_on.over;
  holds = HoldsSome-same store card.store Committed Committed old new ready.holds goes_on.told stays goes_on.cells goes_on.rows;
  works = works;
  index_begun = begun ∙ sym there;
  index = stands;
}

-- What was found is no part of what a card stands over,
pub StandsOver-found : (card : Kept) (found : Found) (chip : Chip) → StandsOver card chip → StandsOver (record card { found = found }) chip
StandsOver-found card found chip stands = record {
  live = stands.live;
  begun = stands.begun;
  over = stands.over;
  holds = stands.holds;
  works = stands.works;
  index_begun = stands.index_begun;
  index = stands.index;
}

-- and where nothing was found the card is ready.
pub IsReady-none : (card : Kept) (found : Found) (chip : Chip) → found.last ≡ None → StandsOver card chip → IsReady (record card { found = found }) chip
IsReady-none card found chip none stands = record {
  stands = StandsOver-found card found chip stands;
  found = subst (λ (last : Option ChannelActor). IfSome last (IsStillFound (record card { found = found }) chip)) (sym none) tt;
}

-- A card is ready still whose sessions have the same users and cursors.
pub IsReady-sessions : (card : Kept) (chip : Chip) (sessions : List (Option Session)) → ((channel : ℕ) → proved_user (session_on sessions channel) ≡ proved_user (session_on card.sessions channel))
    → ((channel : ℕ) → cursor_on sessions channel ≡ cursor_on card.sessions channel) → IsReady card chip → IsReady (record card { sessions = sessions }) chip
IsReady-sessions card chip sessions users cursors ready = record { stands = StandsOver-sessions card (record card { sessions = sessions }) chip chip sessions refl refl ready.stands; found = each card.found.last ready.found }
  where
    each : (o : Option ChannelActor) → IfSome o (IsStillFound card chip) → IfSome o (IsStillFound (record card { sessions = sessions }) chip)
    each None is = tt
    each (Some last) is = record {
      actor = λ db held. is.actor db held ∙ ap (acting db) (sym (users last.channel));
      scan = λ db held. subst (IsRightFor db last.actor card.found.scan) (sym (cursors last.channel)) (is.scan db held);
    }

-- A card is ready whose channel has read, for who acts on it, where what was found is right for the cursor.
pub IsReady-read : (card : Kept) (chip : Chip) (channel : ℕ) (reading : Reading) (actor : Actor) (scan : Option scans.Found) → StandsOver card chip
    → ((db : Database) → IsHeld card.store (side_of card.transaction channel) chip db → actor ≡ acting db (proved_user (session_on card.sessions channel)))
    → ((db : Database) → IsHeld card.store (side_of card.transaction channel) chip db → IsRightFor db actor scan reading.cursor)
    → IsReady (record (changing_session (reading_so reading) card channel) { found = record { last = Some (record { channel = channel; actor = actor }); scan = scan } }) chip
IsReady-read card chip channel reading actor scan stands acts right = record {
  stands = StandsOver-found read found chip (StandsOver-sessions card read chip chip read.sessions refl refl stands);
  found = record {
    actor = λ db held. acts db held ∙ ap (acting db) (sym (ap proved_user (changed-on (reading_so reading) card.sessions channel) ∙ user (session_on card.sessions channel)));
    scan = λ db held. subst (λ (s : Option Session). IsRightFor db actor scan (option_and_then (λ (s : Session). s.reading.cursor) s)) (sym (changed-on (reading_so reading) card.sessions channel))
        (cursor db (session_on card.sessions channel) (right db held));
  };
}
  where
    read : Kept
    read = changing_session (reading_so reading) card channel

    found : Found
    found = record { last = Some (record { channel = channel; actor = actor }); scan = scan }

    user : (s : Option Session) → proved_user (option_map (reading_so reading) s) ≡ proved_user s
    user None = refl
    user (Some s) = refl

    cursor : (db : Database) (s : Option Session) → IsRightFor db actor scan reading.cursor → IsRightFor db actor scan (option_and_then (λ (s : Session). s.reading.cursor) (option_map (reading_so reading) s))
    cursor db None is = tt
    cursor db (Some s) is = is
