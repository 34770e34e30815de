-- What was found is found again while the catalog stays.
use Rattle.std.proofs.Common.{◌≡◌, ◌==◌, ℕ, zero, suc, Bool, true, false, List, [], ◌∷◌, Option, Some, None, option_map, if◌then◌else◌, refl, sym, ap, subst, ◌∙◌, inl, inr}
use Rattle.std.specs.Prelude.{IfSome, option_and_then, slice_set}
use Rattle.std.proofs.lemmas.Bool.{cases_Bool}
use Rattle.eeprom.specs.Chip.{Chip}
use Rattle.record_store.specs.Held.{Held}
use Rattle.record_store.specs.declared.side.Side.TheVariants.{Committed, Working}
use Rattle.row_index.specs.Index.{Index}
use Rattle.scql_base.specs.Words.{done}
use Rattle.scql_base.specs.declared.cursor.Cursor.{Cursor}
use Rattle.scql_base.specs.declared.records.Object.{Object}
use Rattle.scql_base.specs.declared.words.Actor.{Actor}
use Rattle.scql_base.specs.declared.words.StatusWord.{StatusWord}
use Rattle.scql_model.specs.Database.{Database}
use Rattle.scql_model.specs.Machine as machine
use Rattle.scql_model.specs.Resolving.{resolved_of}
use Rattle.scql_model.specs.Rights.{appears, holds}
use Rattle.scql_model.specs.Sessions.{without_pending}
use Rattle.record_table.specs.Listed.{slots_of}
use Rattle.record_table.specs.Making.{GoesOn}
use Rattle.record_table.proofs.AtRest.{held-same}
use Rattle.db_read.specs.Scan.{Found, GoesOver, GoesOverTold, IsFor, IsRightFor}
use Rattle.card.specs.Acting.{acting}
use Rattle.card.specs.Answering.{changing_session, settled}
use Rattle.card.specs.Card.{FindsAgain, IsStillFound, Kept}
use Rattle.card.specs.Changing.{HaveSameCatalog, KeepsCatalog}
use Rattle.card.specs.Sessions.{cursor_on, proved_user, session_on}
use Rattle.card.specs.Waiting.{side_of}
use Rattle.card.specs.declared.found.ChannelActor.{ChannelActor}

-- for whom a user acts is said in the catalog
acts-same : (db next : Database) (user : Option ℕ) → HaveSameCatalog db next → acting db user ≡ acting next user
acts-same db next None same = refl
acts-same db next (Some stamp) same = rw same.users refl

-- and so is what a cursor goes over.
goes-on : (db next : Database) (actor : Actor) (c : Cursor) (p : Found) → HaveSameCatalog db next → GoesOver db actor c p → GoesOver next actor c p
unfolding holds appears
goes-on db next actor c p same is = record {
  seen = is.seen;
  selects = rw (same.objects, same.grants) is.selects;
  resolved = subst (λ (objects : List Object). resolved_of objects p.object.stamp ≡ Some is.seen) (sym same.objects) is.resolved;
  table = is.table;
  all = is.all;
  places = is.places;
  conditions = is.conditions;
  filters = is.filters;
  few = is.few;
}

goes-on-told : (db next : Database) (actor : Actor) (c : Cursor) (p : Found) → HaveSameCatalog db next → GoesOverTold db actor c p → GoesOverTold next actor c p
unfolding holds appears
goes-on-told db next actor c p same is = record {
  selects = rw (same.objects, same.grants) is.selects;
  all = is.all;
  places = is.places;
  conditions = is.conditions;
  few = is.few;
}

still-for : (db next : Database) (actor : Actor) (c : Cursor) (p : Found) → HaveSameCatalog db next → IsFor db actor c p → IsFor next actor c p
still-for db next actor c p same is = record {
  table = λ rows. goes-on db next actor c p same (is.table rows);
  told = λ told. goes-on-told db next actor c p same (is.told told);
}

still-right : (db next : Database) (actor : Actor) (scan : Option Found) (cursor : Option Cursor) → HaveSameCatalog db next → IsRightFor db actor scan cursor → IsRightFor next actor scan cursor
still-right db next actor scan None same is = is
still-right db next actor None (Some c) same is = is
still-right db next actor (Some p) (Some c) same is = still-for db next actor c p same is

-- A store whose every side keeps its catalog takes the place of a card's.
found-stored : (card : Kept) (store : Held) (index : Index) (old new : Chip) → ((channel : ℕ) → KeepsCatalog (side_of card.transaction channel) card.store store old new)
    → FindsAgain card old → FindsAgain (record card { store = store; index = index }) new
found-stored card store index old new keeps again = each card.found.last again
  where
    each : (o : Option ChannelActor) → IfSome o (IsStillFound card old) → IfSome o (IsStillFound (record card { store = store; index = index }) new)
    each None is = tt
    each (Some last) is = record {
      actor = λ next after.
          let was = keeps last.channel next after in
          is.actor was.0 was.1 ∙ acts-same was.0 next (proved_user (session_on card.sessions last.channel)) was.2;
      scan = λ next after.
          let was = keeps last.channel next after in
          still-right was.0 next last.actor card.found.scan (cursor_on card.sessions last.channel) was.2 (is.scan was.0 was.1);
    }

-- what a session is besides what is pending on its channel
unsettled : {X : Type 0} (part : Option machine.Session → X) → ((s : Option machine.Session) → part (option_map without_pending s) ≡ part s) → (sessions : List (Option machine.Session)) (channel other : ℕ)
    → part (session_on (slice_set sessions channel (option_map without_pending (session_on sessions channel))) other) ≡ part (session_on sessions other)
unsettled {X} part same [] channel other = refl
unsettled {X} part same (s ∷ sessions) zero zero = same s
unsettled {X} part same (s ∷ sessions) zero (suc other) = refl
unsettled {X} part same (s ∷ sessions) (suc channel) zero = refl
unsettled {X} part same (s ∷ sessions) (suc channel) (suc other) = unsettled part same sessions channel other

same-user : (s : Option machine.Session) → proved_user (option_map without_pending s) ≡ proved_user s
same-user None = refl
same-user (Some s) = refl

abbrev cursor_in : Option machine.Session → Option Cursor
cursor_in s = option_and_then (λ (s : machine.Session). s.reading.cursor) s

same-cursor : (s : Option machine.Session) → cursor_in (option_map without_pending s) ≡ cursor_in s
same-cursor None = refl
same-cursor (Some s) = refl

found-settled : (word : StatusWord) (card : Kept) (channel : ℕ) (chip : Chip) → FindsAgain card chip → FindsAgain (settled word card channel) chip
found-settled word card channel chip again = elim (cases_Bool (word.word == done.word)) [
  | inl e ↦ rw e (each card.found.last again)
  | inr f ↦ rw f again
]
  where
    each : (o : Option ChannelActor) → IfSome o (IsStillFound card chip) → IfSome o (IsStillFound (changing_session without_pending card channel) chip)
    each None is = tt
    each (Some last) is = record {
      actor = λ db held. is.actor db held ∙ ap (acting db) (sym (unsettled proved_user same-user card.sessions channel last.channel));
      scan = λ db held. subst (IsRightFor db last.actor card.found.scan) (sym (unsettled cursor_in same-cursor card.sessions channel last.channel)) (is.scan db held);
    }

-- What a card found it finds again once rows changed, outside of a transaction
pub found-at_once : (word : StatusWord) (card : Kept) (store : Held) (index : Index) (channel : ℕ) (old new : Chip) → card.transaction ≡ None → KeepsCatalog Committed card.store store old new
    → FindsAgain card old → FindsAgain (settled word (record card { store = store; index = index }) channel) new
found-at_once word card store index channel old new none keeps again =
    found-settled word (record card { store = store; index = index }) channel new (found-stored card store index old new (λ channel. rw none keeps) again)

-- and within one.
pub found-within : (word : StatusWord) (card : Kept) (store : Held) (index : Index) (channel own : ℕ) (old new : Chip) → card.transaction ≡ Some own → KeepsCatalog Working card.store store old new
    → slots_of store Committed new ≡ slots_of card.store Committed old → GoesOn card.store store old new
    → FindsAgain card old → FindsAgain (settled word (record card { store = store; index = index }) channel) new
found-within word card store index channel own old new is keeps stays goes_on again =
    found-settled word (record card { store = store; index = index }) channel new (found-stored card store index old new (λ channel. rw is (either (own == channel))) again)
  where
    either : (working : Bool) → KeepsCatalog (if working then Working else Committed) card.store store old new
    either true = keeps
    either false = λ next after. (next, held-same store card.store Committed Committed new old next after (sym stays) (sym goes_on.cells) (sym goes_on.rows), record { users = refl; objects = refl; grants = refl })
