-- What changes of sessions leave as it was.
use Rattle.std.proofs.Common.{◌≡◌, ℕ, zero, suc, List, [], ◌∷◌, Option, Some, None, option_map, refl, sym, ap, ◌∙◌}
use Rattle.std.specs.Prelude.{slice_get, slice_set, IfSome}
use Rattle.std.specs.Option.{option_flatten}
use Rattle.scql_base.specs.declared.cursor.PresentedUser.{PresentedUser}
use Rattle.scql_model.specs.Machine.{Machine, Session, session_for, session_of}
use Rattle.scql_model.specs.Sessions.{IsIdle, AreIdle, with_session, changing_session}

-- an element that is set to what it was
set-same : {A : Type 0} (xs : List (Option A)) (i : ℕ) → slice_set xs i (option_flatten (slice_get xs i)) ≡ xs
set-same [] i = refl
set-same (x ∷ xs) zero = refl
set-same (x ∷ xs) (suc i) = ap (λ rest. x ∷ rest) (set-same xs i)

-- an element that is set, and then changed
set-changed : {A : Type 0} (change : A → A) (xs : List (Option A)) (i : ℕ) (x : Option A)
    → slice_set (slice_set xs i x) i (option_map change (option_flatten (slice_get (slice_set xs i x) i))) ≡ slice_set xs i (option_map change x)
set-changed change [] i x = refl
set-changed change (y ∷ ys) zero x = refl
set-changed change (y ∷ ys) (suc i) x = ap (λ rest. y ∷ rest) (set-changed change ys i x)

-- a change that leaves a channel's session leaves the machine
pub changing_session-same : (change : Session → Session) (m : Machine) (channel : ℕ) → option_map change (session_of m channel) ≡ session_of m channel
    → changing_session change m channel ≡ m
changing_session-same change m channel same =
    ap (λ (session : Option Session). with_session m channel session) same
    ∙ ap (λ (sessions : List (Option Session)). let n : Machine = record m { sessions = sessions } in n) (set-same m.sessions channel)

-- a session that is set, and then changed
pub changing_session-set : (change : Session → Session) (m : Machine) (channel : ℕ) (session : Option Session)
    → changing_session change (with_session m channel session) channel ≡ with_session m channel (option_map change session)
changing_session-set change m channel session =
    ap (λ (sessions : List (Option Session)). let n : Machine = record m { sessions = sessions } in n) (set-changed change m.sessions channel session)

pub idle-at : (sessions : List (Option Session)) (channel : ℕ) → AreIdle sessions → IfSome (option_flatten (slice_get sessions channel)) IsIdle
idle-at [] channel are = tt
idle-at (s ∷ sessions) zero are = are.0
idle-at (s ∷ sessions) (suc channel) are = idle-at sessions channel are.1

-- what leaves each idle session leaves a machine whose sessions are idle
pub changing_session-idle : (change : Session → Session) → ((user : Option PresentedUser) → change (session_for user) ≡ session_for user)
    → (m : Machine) (channel : ℕ) → AreIdle m.sessions → changing_session change m channel ≡ m
changing_session-idle change stays m channel are = changing_session-same change m channel (same (session_of m channel) (idle-at m.sessions channel are))
  where
    same : (s : Option Session) → IfSome s IsIdle → option_map change s ≡ s
    same None is = refl
    same (Some s) is = ap Some (ap change is ∙ (stays s.user ∙ sym is))
