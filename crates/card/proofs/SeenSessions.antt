-- The sessions and the chains of a card, as the model sees them.
use Rattle.std.proofs.Common.{◌≡◌, ◌<◌, ℕ, zero, suc, Bool, true, false, List, [], ◌∷◌, get_or, length, Option, Some, None, is_some, refl, ap, sym, ◌∙◌, arith}
use Rattle.std.specs.Prelude.{map, option_map, option_and_then, slice_get, slice_index_or, slice_set}
use Rattle.std.specs.Option.{option_flatten}
use Rattle.std.proofs.lemmas.Option.{none-some, same_Some}
use Rattle.std.proofs.lemmas.Bool.{false≢true}
use Rattle.record_store.specs.Held.{Held}
use Rattle.apdu_chain.specs.Chaining.{chain_on}
use Rattle.scql_model.specs.Machine as machine
use Rattle.scql_model.specs.Machine.{Chain}
use Rattle.row_index.specs.Index.{Index}
use Rattle.card.specs.Card.{Kept}
use Rattle.card.specs.declared.found.Found.{Found}
use Rattle.card.specs.Sessions.{cursor_on, is_open, session_on, session_seen, sessions_of}
use Rattle.card.specs.Answering.{changing_session, with_session}
use Rattle.card.specs.declared.session.Session.{Session}

-- an element that is there is so whatever else would be
pub index-there : {X : Type 0} (xs : List (Option X)) (i : ℕ) (x : Option X) → i < length xs → x ≡ get_or xs i x → slice_index_or xs i None ≡ x
index-there [] i x lt is = absurd (omega (arith, lt))
index-there (y ∷ ys) zero x lt is = sym is
index-there (y ∷ ys) (suc i) x lt is = index-there ys i x (omega (arith, lt)) is

-- and is set to what it was
pub set-again : {X : Type 0} (xs : List (Option X)) (i : ℕ) (x : Option X) → slice_set xs i (get_or xs i x) ≡ xs
set-again [] i x = refl
set-again (y ∷ ys) zero x = refl
set-again (y ∷ ys) (suc i) x = ap (λ rest. y ∷ rest) (set-again ys i x)

-- which of four channels have a session
pub four-sessions : (sessions : List (Option Session)) (a b c d : Option Session) → length sessions ≡ 4
    → is_some (get_or sessions 0 a) ∷ is_some (get_or sessions 1 b) ∷ is_some (get_or sessions 2 c) ∷ is_some (get_or sessions 3 d) ∷ []
    ≡ map (λ (s : Option Session). is_some s) sessions
four-sessions [] a b c d four = absurd cc
four-sessions (first ∷ []) a b c d four = absurd cc
four-sessions (first ∷ second ∷ []) a b c d four = absurd cc
four-sessions (first ∷ second ∷ third ∷ []) a b c d four = absurd cc
four-sessions (first ∷ second ∷ third ∷ fourth ∷ []) a b c d four = refl
four-sessions (first ∷ second ∷ third ∷ fourth ∷ fifth ∷ rest) a b c d four = absurd (omega (arith, four))

-- a channel with a session is open
open-sessions : (sessions : List (Option Session)) (chains : List (Option Chain)) → length sessions ≡ length chains
    → map (λ (s : Option Session). is_some s) sessions ≡ map (λ (s : Option machine.Session). is_some s) (sessions_of sessions chains)
open-sessions [] chains same = refl
open-sessions (session ∷ sessions) [] same = absurd cc
open-sessions (None ∷ sessions) (chain ∷ chains) same = ap (λ rest. false ∷ rest) (open-sessions sessions chains cc)
open-sessions (Some session ∷ sessions) (chain ∷ chains) same = ap (λ rest. true ∷ rest) (open-sessions sessions chains cc)

-- the user of a session is the program's
user-seen : (sessions : List (Option Session)) (chains : List (Option Chain)) (channel : ℕ) → length sessions ≡ length chains
    → option_and_then (λ (s : machine.Session). s.user) (option_flatten (slice_get (sessions_of sessions chains) channel)) ≡ option_and_then (λ (s : Session). s.user) (slice_index_or sessions channel None)
user-seen [] chains channel same = refl
user-seen (session ∷ sessions) [] channel same = absurd cc
user-seen (None ∷ sessions) (chain ∷ chains) zero same = refl
user-seen (Some session ∷ sessions) (chain ∷ chains) zero same = refl
user-seen (session ∷ sessions) (chain ∷ chains) (suc channel) same = user-seen sessions chains channel cc

-- the same of a card
module _ (store : Held) (index : Index) (transaction : Option ℕ) (found : Found) (live : Bool) (sessions : List (Option Session)) (chains : List (Option Chain)) (card : Kept) (is : record { store = store; index = index; sessions = sessions_of sessions chains; transaction = transaction; found = found; live = live } ≡ card) where
  pub open-card : length sessions ≡ length chains → map (λ (s : Option Session). is_some s) sessions ≡ map (λ (s : Option machine.Session). is_some s) card.sessions
  open-card same = open-sessions sessions chains same ∙ ap (λ (kept : Kept). map (λ (s : Option machine.Session). is_some s) kept.sessions) is

  pub user-card : length sessions ≡ length chains → (channel : ℕ) (session : Session) → slice_index_or sessions channel None ≡ Some session
      → option_and_then (λ (s : machine.Session). s.user) (option_flatten (slice_get card.sessions channel)) ≡ session.user
  user-card same channel session there =
      ap (λ (kept : Kept). option_and_then (λ (s : machine.Session). s.user) (option_flatten (slice_get kept.sessions channel))) (sym is)
      ∙ (user-seen sessions chains channel same
      ∙ ap (λ (s : Option Session). option_and_then (λ (s : Session). s.user) s) there)

-- an open channel's session has the parts of its channel
pub chain-seen : (sessions : List (Option Session)) (chains : List (Option Chain)) (channel : ℕ)
    → slice_get (map (λ (s : Option machine.Session). is_some s) (sessions_of sessions chains)) channel ≡ Some true
    → option_and_then (λ (s : machine.Session). s.chain) (option_flatten (slice_get (sessions_of sessions chains) channel)) ≡ chain_on chains channel
chain-seen [] chains channel is = absurd (none-some true is)
chain-seen (session ∷ sessions) [] channel is = absurd (none-some true is)
chain-seen (None ∷ sessions) (chain ∷ chains) zero is = absurd (false≢true (same_Some _ true is))
chain-seen (Some session ∷ sessions) (chain ∷ chains) zero is = refl
chain-seen (session ∷ sessions) (chain ∷ chains) (suc channel) is = chain-seen sessions chains channel is

-- What changes the parts of a channel changes them in its session.
pub sessions_of-chain : (change : machine.Session → machine.Session) (next : Option Chain → Option Chain)
    → ((chain : Option Chain) (s : Session) → session_seen (next chain) s ≡ change (session_seen chain s))
    → (sessions : List (Option Session)) (chains : List (Option Chain)) (channel : ℕ)
    → sessions_of sessions (slice_set chains channel (next (chain_on chains channel)))
    ≡ slice_set (sessions_of sessions chains) channel (option_map change (option_flatten (slice_get (sessions_of sessions chains) channel)))
sessions_of-chain change next seen [] chains channel = refl
sessions_of-chain change next seen (session ∷ sessions) [] channel = refl
sessions_of-chain change next seen (None ∷ sessions) (chain ∷ chains) zero = refl
sessions_of-chain change next seen (Some session ∷ sessions) (chain ∷ chains) zero = ap (λ (s : machine.Session). Some s ∷ sessions_of sessions chains) (seen chain session)
sessions_of-chain change next seen (session ∷ sessions) (chain ∷ chains) (suc channel) =
    ap (λ rest. option_map (session_seen chain) session ∷ rest) (sessions_of-chain change next seen sessions chains channel)

-- A new session of a channel has no parts, and a closed channel has no session.
sessions_of-new : (sessions : List (Option Session)) (chains : List (Option Chain)) (channel : ℕ) (set : Option Session)
    → sessions_of (slice_set sessions channel set) (slice_set chains channel None) ≡ slice_set (sessions_of sessions chains) channel (option_map (session_seen None) set)
sessions_of-new [] chains channel set = refl
sessions_of-new (session ∷ sessions) [] zero set = refl
sessions_of-new (session ∷ sessions) [] (suc channel) set = refl
sessions_of-new (session ∷ sessions) (chain ∷ chains) zero set = refl
sessions_of-new (session ∷ sessions) (chain ∷ chains) (suc channel) set =
    ap (λ rest. option_map (session_seen chain) session ∷ rest) (sessions_of-new sessions chains channel set)

-- whose parts change, has its session still
pub open-parts : (sessions : List (Option Session)) (chains after : List (Option Chain)) (channel : ℕ) → length after ≡ length chains
    → slice_get (map (λ (s : Option machine.Session). is_some s) (sessions_of sessions chains)) channel ≡ Some true → is_open (sessions_of sessions after) channel ≡ true
open-parts [] chains after channel same is = absurd (none-some true is)
open-parts (session ∷ sessions) [] after channel same is = absurd (none-some true is)
open-parts (session ∷ sessions) (chain ∷ chains) [] channel same is = absurd cc
open-parts (None ∷ sessions) (chain ∷ chains) (next ∷ after) zero same is = absurd (false≢true (same_Some _ true is))
open-parts (Some session ∷ sessions) (chain ∷ chains) (next ∷ after) zero same is = refl
open-parts (session ∷ sessions) (chain ∷ chains) (next ∷ after) (suc channel) same is = open-parts sessions chains after channel (cc) is

-- and its cursor
pub cursor-seen : (sessions : List (Option Session)) (chains : List (Option Chain)) (channel : ℕ) (session : Session) → length sessions ≡ length chains → slice_index_or sessions channel None ≡ Some session
    → cursor_on (sessions_of sessions chains) channel ≡ session.cursor
cursor-seen [] chains channel session same there = absurd (none-some session there)
cursor-seen (s ∷ sessions) [] channel session same there = absurd cc
cursor-seen (s ∷ sessions) (chain ∷ chains) zero session same there = ap (λ (s : Option Session). option_and_then (λ (s : machine.Session). s.reading.cursor) (option_map (session_seen chain) s)) there
cursor-seen (s ∷ sessions) (chain ∷ chains) (suc channel) session same there = cursor-seen sessions chains channel session (cc) there

-- and what doesn't tell of its parts stays
pub parts-unseen : {X : Type 0} (told : machine.Session → Option X) → ((chain next : Option Chain) (s : Session) → told (session_seen chain s) ≡ told (session_seen next s))
    → (sessions : List (Option Session)) (chains after : List (Option Chain)) (channel : ℕ) → length after ≡ length chains
    → option_and_then told (session_on (sessions_of sessions after) channel) ≡ option_and_then told (session_on (sessions_of sessions chains) channel)
parts-unseen told stays [] chains after channel same = refl
parts-unseen told stays (session ∷ sessions) [] [] channel same = refl
parts-unseen told stays (session ∷ sessions) [] (next ∷ after) channel same = absurd cc
parts-unseen told stays (session ∷ sessions) (chain ∷ chains) [] channel same = absurd cc
parts-unseen told stays (None ∷ sessions) (chain ∷ chains) (next ∷ after) zero same = refl
parts-unseen told stays (Some session ∷ sessions) (chain ∷ chains) (next ∷ after) zero same = stays next chain session
parts-unseen told stays (session ∷ sessions) (chain ∷ chains) (next ∷ after) (suc channel) same = parts-unseen told stays sessions chains after channel (cc)

-- the session that changes is that of the channel
pub changed-on : (change : machine.Session → machine.Session) (sessions : List (Option machine.Session)) (channel : ℕ)
    → session_on (slice_set sessions channel (option_map change (session_on sessions channel))) channel ≡ option_map change (session_on sessions channel)
changed-on change [] channel = refl
changed-on change (session ∷ sessions) zero = refl
changed-on change (session ∷ sessions) (suc channel) = changed-on change sessions channel

-- a channel without a session isn't open
pub closed-none : (sessions : List (Option Session)) (chains : List (Option Chain)) (channel : ℕ) → slice_index_or sessions channel None ≡ None → is_open (sessions_of sessions chains) channel ≡ false
closed-none [] chains channel there = refl
closed-none (session ∷ sessions) [] channel there = refl
closed-none (session ∷ sessions) (chain ∷ chains) zero there = ap (λ (s : Option Session). is_some (option_map (session_seen chain) s)) there
closed-none (session ∷ sessions) (chain ∷ chains) (suc channel) there = closed-none sessions chains channel there

-- What changes a session of the program, and not its parts, changes the session that is seen.
sessions_of-changed : (change : machine.Session → machine.Session) (new : Session) (sessions : List (Option Session)) (chains : List (Option Chain)) (channel : ℕ) (old : Session)
    → ((chain : Option Chain) → session_seen chain new ≡ change (session_seen chain old)) → slice_index_or sessions channel None ≡ Some old
    → sessions_of (slice_set sessions channel (Some new)) chains ≡ slice_set (sessions_of sessions chains) channel (option_map change (option_flatten (slice_get (sessions_of sessions chains) channel)))
sessions_of-changed change new [] chains channel old seen there = absurd cc
sessions_of-changed change new (session ∷ sessions) [] zero old seen there = refl
sessions_of-changed change new (session ∷ sessions) [] (suc channel) old seen there = refl
sessions_of-changed change new (session ∷ sessions) (chain ∷ chains) zero old seen there =
    ap (λ (s : machine.Session). Some s ∷ sessions_of sessions chains) (seen chain)
    ∙ ap (λ (s : Option Session). option_map change (option_map (session_seen chain) s) ∷ sessions_of sessions chains) (sym there)
sessions_of-changed change new (session ∷ sessions) (chain ∷ chains) (suc channel) old seen there =
    ap (λ rest. option_map (session_seen chain) session ∷ rest) (sessions_of-changed change new sessions chains channel old seen there)

-- where a channel is closed, nothing changes
sessions_of-none : (change : machine.Session → machine.Session) (sessions : List (Option Session)) (chains : List (Option Chain)) (channel : ℕ) → slice_index_or sessions channel None ≡ None
    → sessions_of sessions chains ≡ slice_set (sessions_of sessions chains) channel (option_map change (option_flatten (slice_get (sessions_of sessions chains) channel)))
sessions_of-none change [] chains channel there = refl
sessions_of-none change (session ∷ sessions) [] channel there = refl
sessions_of-none change (session ∷ sessions) (chain ∷ chains) zero there =
    ap (λ (s : Option Session). option_map (session_seen chain) s ∷ sessions_of sessions chains) there
    ∙ ap (λ (s : Option Session). option_map change (option_map (session_seen chain) s) ∷ sessions_of sessions chains) (sym there)
sessions_of-none change (session ∷ sessions) (chain ∷ chains) (suc channel) there =
    ap (λ rest. option_map (session_seen chain) session ∷ rest) (sessions_of-none change sessions chains channel there)

-- the same of a card
pub card-changed : (change : machine.Session → machine.Session) (store : Held) (index : Index) (transaction : Option ℕ) (found : Found) (live : Bool) (sessions : List (Option Session)) (chains : List (Option Chain)) (channel : ℕ) (old new : Session) (card : Kept)
    → record { store = store; index = index; sessions = sessions_of sessions chains; transaction = transaction; found = found; live = live } ≡ card
    → ((chain : Option Chain) → session_seen chain new ≡ change (session_seen chain old)) → slice_index_or sessions channel None ≡ Some old
    → record { store = store; index = index; sessions = sessions_of (slice_set sessions channel (Some new)) chains; transaction = transaction; found = found; live = live } ≡ changing_session change card channel
card-changed change store index transaction found live sessions chains channel old new card is seen there =
    ap (λ (changed : List (Option machine.Session)). let kept : Kept = record { store = store; index = index; sessions = changed; transaction = transaction; found = found; live = live } in kept)
    (sessions_of-changed change new sessions chains channel old seen there)
    ∙ ap (λ (kept : Kept). changing_session change kept channel) is

pub card-none : (change : machine.Session → machine.Session) (store : Held) (index : Index) (transaction : Option ℕ) (found : Found) (live : Bool) (sessions : List (Option Session)) (chains : List (Option Chain)) (channel : ℕ) (card : Kept)
    → record { store = store; index = index; sessions = sessions_of sessions chains; transaction = transaction; found = found; live = live } ≡ card → slice_index_or sessions channel None ≡ None
    → card ≡ changing_session change card channel
card-none change store index transaction found live sessions chains channel card is there =
    sym is
    ∙ (ap (λ (changed : List (Option machine.Session)). let kept : Kept = record { store = store; index = index; sessions = changed; transaction = transaction; found = found; live = live } in kept)
    (sessions_of-none change sessions chains channel there)
    ∙ ap (λ (kept : Kept). changing_session change kept channel) is)

pub sessions_of-set : (store : Held) (index : Index) (transaction : Option ℕ) (found : Found) (live : Bool) (sessions : List (Option Session)) (chains left : List (Option Chain)) (channel : ℕ) (set : Option Session) → (card : Kept)
    → record { store = store; index = index; sessions = sessions_of sessions chains; transaction = transaction; found = found; live = live } ≡ card → left ≡ slice_set chains channel None
    → record { store = store; index = index; sessions = sessions_of (slice_set sessions channel set) left; transaction = transaction; found = found; live = live } ≡ with_session card channel (option_map (session_seen None) set)
sessions_of-set store index transaction found live sessions chains left channel set card is ended =
    let seen = λ (changed : List (Option machine.Session)). let kept : Kept = record { store = store; index = index; sessions = changed; transaction = transaction; found = found; live = live } in kept in
    ap (λ (left : List (Option Chain)). seen (sessions_of (slice_set sessions channel set) left)) ended
    ∙ (ap seen (sessions_of-new sessions chains channel set)
    ∙ ap (λ (kept : Kept). with_session kept channel (option_map (session_seen None) set)) is)
