-- The sessions and the chains of the program, as the model sees them.
use Rattle.std.proofs.Common.{◌≡◌, ◌<◌, ◌==◌, ℕ, zero, suc, Bool, true, false, List, [], ◌∷◌, ◌++◌, drop, get_or, length, map, set, take, Option, Some, None, is_some, refl, ap, sym, ◌∙◌, arith}
use Rattle.std.specs.Prelude.{option_map, slice_index_or, slice_set}
use Rattle.std.specs.Option.{option_map_or}
use Rattle.std.proofs.lemmas.Bool.{false≢true}
use Rattle.scql_base.specs.declared.cursor.PresentedUser.{PresentedUser}
use Rattle.apdu_chain.specs.Chaining.{chain_on}
use Rattle.scql_model.specs.Machine as machine
use Rattle.scql_model.specs.Machine.{Chain}
use Rattle.scql_model.specs.Sessions.{left_by}
use Rattle.plain_machine.specs.Sessions.{are_open, changed_on, left_session, reading_on, session_on, session_seen, sessions_of}
use Rattle.plain_machine.specs.declared.session.Session.{Session}

-- an element that is there is so whatever else would be
pub index-there : {X : Type 0} (xs : List (Option X)) (i : ℕ) (x : Option X) → i < length xs → x ≡ get_or xs i x → slice_index_or xs i None ≡ x
index-there [] i x lt is = absurd (omega (arith, lt))
index-there (y ∷ ys) zero x lt is = sym is
index-there (y ∷ ys) (suc i) x lt is = index-there ys i x (omega (arith, lt)) is

-- and is set to what it was
pub set-again : {X : Type 0} (xs : List (Option X)) (i : ℕ) (x : Option X) → slice_set xs i (get_or xs i x) ≡ xs
set-again [] i x = refl
set-again (y ∷ ys) zero x = refl
set-again (y ∷ ys) (suc i) x = ap (λ rest. y ∷ rest) (set-again ys i x)

-- one session more is changed, of all in turn
pub mapped-more : {X : Type 0} (f : X → X) (xs : List X) (i : ℕ) (d : X) → i < length xs
    → set (map f (take i xs) ++ drop i xs) i (f (get_or (map f (take i xs) ++ drop i xs) i d)) ≡ map f (take (suc i) xs) ++ drop (suc i) xs
mapped-more f [] i d lt = absurd (omega (arith, lt))
mapped-more f (x ∷ xs) zero d lt = refl
mapped-more f (x ∷ xs) (suc i) d lt = ap (λ rest. f x ∷ rest) (mapped-more f xs i d (omega (arith, lt)))

-- which of four channels have a session
pub four-sessions : (sessions : List (Option Session)) (a b c d : Option Session) → length sessions ≡ 4
    → is_some (get_or sessions 0 a) ∷ is_some (get_or sessions 1 b) ∷ is_some (get_or sessions 2 c) ∷ is_some (get_or sessions 3 d) ∷ [] ≡ map (λ (s : Option Session). is_some s) sessions
four-sessions [] a b c d four = absurd cc
four-sessions (first ∷ []) a b c d four = absurd cc
four-sessions (first ∷ second ∷ []) a b c d four = absurd cc
four-sessions (first ∷ second ∷ third ∷ []) a b c d four = absurd cc
four-sessions (first ∷ second ∷ third ∷ fourth ∷ []) a b c d four = refl
four-sessions (first ∷ second ∷ third ∷ fourth ∷ fifth ∷ rest) a b c d four = absurd (omega (arith, four))

-- a channel with a session is open
pub open-sessions : (sessions : List (Option Session)) (chains : List (Option Chain)) → length sessions ≡ length chains → map (λ (s : Option Session). is_some s) sessions ≡ are_open (sessions_of sessions chains)
open-sessions [] chains same = refl
open-sessions (session ∷ sessions) [] same = absurd cc
open-sessions (None ∷ sessions) (chain ∷ chains) same = ap (λ rest. false ∷ rest) (open-sessions sessions chains cc)
open-sessions (Some session ∷ sessions) (chain ∷ chains) same = ap (λ rest. true ∷ rest) (open-sessions sessions chains cc)

-- the session of a channel is the program's, with the parts of the channel
pub seen-on : (sessions : List (Option Session)) (chains : List (Option Chain)) (channel : ℕ) (there : Option Session) → length sessions ≡ length chains → slice_index_or sessions channel None ≡ there
    → session_on (sessions_of sessions chains) channel ≡ option_map (session_seen (chain_on chains channel)) there
seen-on [] chains channel there many is = rw (sym is) refl
seen-on (session ∷ sessions) [] channel there many is = absurd cc
seen-on (None ∷ sessions) (chain ∷ chains) zero there many is = rw (sym is) refl
seen-on (Some session ∷ sessions) (chain ∷ chains) zero there many is = rw (sym is) refl
seen-on (session ∷ sessions) (chain ∷ chains) (suc channel) there many is = seen-on sessions chains channel there (cc) is

-- what a channel reads where a session was just set
pub new-reading : (sessions : List (Option Session)) (chains : List (Option Chain)) (channel : ℕ) (old new : Session) → length sessions ≡ length chains → slice_index_or sessions channel None ≡ Some old
    → reading_on (sessions_of (slice_set sessions channel (Some new)) chains) channel ≡ new.reading
new-reading [] chains channel old new many is = absurd cc
new-reading (session ∷ sessions) [] channel old new many is = absurd cc
new-reading (session ∷ sessions) (chain ∷ chains) zero old new many is = refl
new-reading (session ∷ sessions) (chain ∷ chains) (suc channel) old new many is = new-reading sessions chains channel old new (cc) is

-- What changes a session of the program, and not its parts, changes the session that is seen.
pub seen-changed : (change : machine.Session → machine.Session) (old new : Session) (sessions : List (Option Session)) (chains : List (Option Chain)) (channel : ℕ)
    → ((chain : Option Chain) → session_seen chain new ≡ change (session_seen chain old)) → slice_index_or sessions channel None ≡ Some old
    → sessions_of (slice_set sessions channel (Some new)) chains ≡ changed_on change (sessions_of sessions chains) channel
seen-changed change old new [] chains channel seen there = absurd cc
seen-changed change old new (session ∷ sessions) [] zero seen there = refl
seen-changed change old new (session ∷ sessions) [] (suc channel) seen there = refl
seen-changed change old new (session ∷ sessions) (chain ∷ chains) zero seen there =
    ap (λ (s : machine.Session). Some s ∷ sessions_of sessions chains) (seen chain)
    ∙ ap (λ (s : Option Session). option_map change (option_map (session_seen chain) s) ∷ sessions_of sessions chains) (sym there)
seen-changed change old new (session ∷ sessions) (chain ∷ chains) (suc channel) seen there =
    ap (λ rest. option_map (session_seen chain) session ∷ rest) (seen-changed change old new sessions chains channel seen there)

-- where a channel is closed, nothing changes
pub seen-none : (change : machine.Session → machine.Session) (sessions : List (Option Session)) (chains : List (Option Chain)) (channel : ℕ) → slice_index_or sessions channel None ≡ None
    → sessions_of sessions chains ≡ changed_on change (sessions_of sessions chains) channel
seen-none change [] chains channel there = refl
seen-none change (session ∷ sessions) [] channel there = refl
seen-none change (session ∷ sessions) (chain ∷ chains) zero there =
    ap (λ (s : Option Session). option_map (session_seen chain) s ∷ sessions_of sessions chains) there
    ∙ ap (λ (s : Option Session). option_map change (option_map (session_seen chain) s) ∷ sessions_of sessions chains) (sym there)
seen-none change (session ∷ sessions) (chain ∷ chains) (suc channel) there =
    ap (λ rest. option_map (session_seen chain) session ∷ rest) (seen-none change sessions chains channel there)

-- A new session of a channel has no parts, and a closed channel has no session.
pub seen-set : (sessions : List (Option Session)) (chains : List (Option Chain)) (channel : ℕ) (session : Option Session)
    → sessions_of (slice_set sessions channel session) (slice_set chains channel None) ≡ slice_set (sessions_of sessions chains) channel (option_map (session_seen None) session)
seen-set [] chains channel session = refl
seen-set (s ∷ sessions) [] zero session = refl
seen-set (s ∷ sessions) [] (suc channel) session = refl
seen-set (s ∷ sessions) (chain ∷ chains) zero session = refl
seen-set (s ∷ sessions) (chain ∷ chains) (suc channel) session = ap (λ rest. option_map (session_seen chain) s ∷ rest) (seen-set sessions chains channel session)

-- A session of the program that is left is seen as one that is.
pub seen-left : (stamp : ℕ) (sessions : List (Option Session)) (chains : List (Option Chain)) → sessions_of (map (option_map (left_session stamp)) sessions) chains ≡ map (option_map (left_by stamp)) (sessions_of sessions chains)
seen-left stamp [] chains = refl
seen-left stamp (session ∷ sessions) [] = refl
seen-left stamp (None ∷ sessions) (chain ∷ chains) = ap (λ rest. None ∷ rest) (seen-left stamp sessions chains)
seen-left stamp (Some s ∷ sessions) (chain ∷ chains) =
    ap (λ (seen : machine.Session). Some seen ∷ sessions_of (map (option_map (left_session stamp)) sessions) chains) (left (option_map_or (λ (p : PresentedUser). p.stamp == stamp) s.user false) refl)
    ∙ ap (λ rest. Some (left_by stamp (session_seen chain s)) ∷ rest) (seen-left stamp sessions chains)
  where
    left : (b : Bool) → option_map_or (λ (p : PresentedUser). p.stamp == stamp) s.user false ≡ b → session_seen chain (left_session stamp s) ≡ left_by stamp (session_seen chain s)
    left true is = rw is refl
    left false is = rw is refl

-- The session of a channel as the program finds it, where it stands at its place.
module _ (sessions : List (Option Session)) (chains : List (Option Chain)) (seen : List (Option machine.Session)) (channel : ℕ) (at : Option Session)
    (four : (length sessions ≡ 4) × (length chains ≡ 4)) (few : channel < 4) (is : sessions_of sessions chains ≡ seen) (there : at ≡ get_or sessions channel at) where
  many : length sessions ≡ length chains
  many = four.0 ∙ sym four.1

  place : (found : Option Session) → get_or sessions channel at ≡ found → slice_index_or sessions channel None ≡ found
  place found finds = index-there sessions channel at (omega (arith, few, four.0)) there ∙ (there ∙ finds)

  -- It is the one that is seen on the channel,
  pub found-session : (found : Option Session) → get_or sessions channel at ≡ found → session_on seen channel ≡ option_map (session_seen (chain_on chains channel)) found
  found-session found finds = ap (λ (seen : List (Option machine.Session)). session_on seen channel) (sym is) ∙ seen-on sessions chains channel found many (place found finds)

  -- so an open channel has one,
  pub found-none : get_or sessions channel at ≡ None → is_some (session_on seen channel) ≡ true → ⊥
  found-none finds open-there = false≢true (sym (ap (λ (s : Option machine.Session). is_some s) (found-session None finds)) ∙ open-there)

  -- which reads what the channel reads.
  pub found-reading : (s : Session) → get_or sessions channel at ≡ Some s → reading_on seen channel ≡ s.reading
  found-reading s finds = ap (λ (s : Option machine.Session). option_map_or (λ (s : machine.Session). s.reading) s machine.no_reading) (found-session (Some s) finds)

  -- Where another one takes its place, the one that is seen changes,
  pub found-changed : (change : machine.Session → machine.Session) (old new : Session) → get_or sessions channel at ≡ Some old → ((chain : Option Chain) → session_seen chain new ≡ change (session_seen chain old))
      → sessions_of (slice_set sessions channel (Some new)) chains ≡ changed_on change seen channel
  found-changed change old new finds changes =
      seen-changed change old new sessions chains channel changes (place (Some old) finds) ∙ ap (λ (seen : List (Option machine.Session)). changed_on change seen channel) is

  -- and what the channel reads,
  pub found-new : (old new : Session) → get_or sessions channel at ≡ Some old → reading_on (sessions_of (slice_set sessions channel (Some new)) chains) channel ≡ new.reading
  found-new old new finds = new-reading sessions chains channel old new many (place (Some old) finds)

  -- and where there is none, nothing does.
  pub none-changed : (change : machine.Session → machine.Session) → get_or sessions channel at ≡ None → sessions_of (slice_set sessions channel (get_or sessions channel at)) chains ≡ changed_on change seen channel
  none-changed change finds =
      ap (λ (sessions : List (Option Session)). sessions_of sessions chains) (set-again sessions channel at)
      ∙ (seen-none change sessions chains channel (place None finds) ∙ ap (λ (seen : List (Option machine.Session)). changed_on change seen channel) is)
