-- What becomes of the sessions by octets that are taken.
use Rattle.std.proofs.Common.{◌≡◌, ℕ, zero, suc, Bool, true, List, [], ◌∷◌, Option, Some, None, refl, ap, subst}
use Rattle.std.specs.Prelude.{option_map, slice_get, slice_set}
use Rattle.std.proofs.lemmas.Bool.{false≢true}
use Rattle.std.proofs.lemmas.Option.{none-some, same_Some}
use Rattle.scql_model.specs.Form.{Form, refused, refused_on, part_on, a_command, form_of}
use Rattle.scql_model.specs.Machine as machine
use Rattle.scql_model.specs.Machine.{Chain}
use Rattle.scql_model.specs.Operations.{operations}
use Rattle.scql_model.specs.Sessions.{with_part, without_chain}
use Rattle.apdu_chain.specs.Chaining.{chain_on, chains_after}
use Rattle.apdu_chain.proofs.TakenForms.{form_of-open}
use Rattle.plain_machine.specs.Sessions.{are_open, chain_in, changed_on, session_seen, sessions_after, sessions_of}
use Rattle.plain_machine.specs.declared.session.Session.{Session}

-- an open channel's session has the parts of its channel
chain-seen : (sessions : List (Option Session)) (chains : List (Option Chain)) (channel : ℕ) → slice_get (are_open (sessions_of sessions chains)) channel ≡ Some true
    → chain_on chains channel ≡ chain_in (sessions_of sessions chains) channel
chain-seen [] chains channel is = absurd (none-some true is)
chain-seen (session ∷ sessions) [] channel is = absurd (none-some true is)
chain-seen (None ∷ sessions) (chain ∷ chains) zero is = absurd (false≢true (same_Some _ true is))
chain-seen (Some session ∷ sessions) (chain ∷ chains) zero is = refl
chain-seen (session ∷ sessions) (chain ∷ chains) (suc channel) is = chain-seen sessions chains channel is

-- what changes the parts of a channel changes them in its session
seen-parts : (change : machine.Session → machine.Session) (next : Option Chain → Option Chain) → ((chain : Option Chain) (s : Session) → session_seen (next chain) s ≡ change (session_seen chain s))
    → (sessions : List (Option Session)) (chains : List (Option Chain)) (channel : ℕ)
    → sessions_of sessions (slice_set chains channel (next (chain_on chains channel))) ≡ changed_on change (sessions_of sessions chains) channel
seen-parts change next seen [] chains channel = refl
seen-parts change next seen (session ∷ sessions) [] channel = refl
seen-parts change next seen (None ∷ sessions) (chain ∷ chains) zero = refl
seen-parts change next seen (Some session ∷ sessions) (chain ∷ chains) zero = ap (λ (s : machine.Session). Some s ∷ sessions_of sessions chains) (seen chain session)
seen-parts change next seen (session ∷ sessions) (chain ∷ chains) (suc channel) = ap (λ rest. option_map (session_seen chain) session ∷ rest) (seen-parts change next seen sessions chains channel)

-- octets are the same by the sessions as by the chains
pub form-seen : (octets : List ℕ) (sessions : List (Option Session)) (chains : List (Option Chain)) (channels : List Bool) (limit : ℕ) (seen : List (Option machine.Session)) → sessions_of sessions chains ≡ seen → channels ≡ are_open seen
    → form_of operations octets channels (chain_on chains) limit ≡ form_of operations octets (are_open seen) (chain_in seen) limit
form-seen octets sessions chains channels limit seen is told =
    rw told
    (subst (λ (seen : List (Option machine.Session)). form_of operations octets (are_open seen) (chain_on chains) limit ≡ form_of operations octets (are_open seen) (chain_in seen) limit) is
    (form_of-open operations octets (are_open (sessions_of sessions chains)) (chain_on chains) (chain_in (sessions_of sessions chains)) limit (chain-seen sessions chains)))

-- and change both alike
pub seen-taken : (sessions : List (Option Session)) (chains : List (Option Chain)) (form : Form) → sessions_of sessions (chains_after chains form) ≡ sessions_after (sessions_of sessions chains) form
seen-taken sessions chains (refused word) = refl
seen-taken sessions chains (refused_on channel word) = seen-parts without_chain (λ chain. None) (λ chain s. refl) sessions chains channel
seen-taken sessions chains (part_on channel kind octets) = seen-parts (with_part kind octets) (λ chain. (with_part kind octets (session_seen chain (record { user = None; reading = machine.no_reading }))).chain) (λ chain s. refl) sessions chains channel
seen-taken sessions chains (a_command c) = seen-parts without_chain (λ chain. None) (λ chain s. refl) sessions chains c.channel
