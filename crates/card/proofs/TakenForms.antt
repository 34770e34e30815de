-- What becomes of a card by what was taken of octets, before a command is carried out.
use Rattle.std.proofs.Common.{◌≡◌, ℕ, Bool, true, List, [], ◌∷◌, ◌++◌, length, Option, Some, None, is_some, refl, sym, ap, subst, ◌∙◌}
use Rattle.std.specs.Prelude.{IfSome, map, option_map, slice_get, slice_set}
use Rattle.eeprom.specs.Chip.{Chip}
use Rattle.scql_base.specs.declared.operation.Command.{Command}
use Rattle.scql_model.specs.Machine.{Machine, Session as Seen, Chain, Transaction, open_channels}
use Rattle.scql_model.specs.Sessions.{changing_session, command_chain, without_chain, with_part}
use Rattle.scql_model.specs.Operations.{operations}
use Rattle.scql_model.specs.Form.{Form, refused, refused_on, part_on, a_command, form_of, parts_of}
use Rattle.scql_model.specs.Bound.{octets_bound}
use Rattle.scql_model.specs.Database.{Database}
use Rattle.scql_model.specs.Opens.{Holds}
use Rattle.scql_model.specs.Step.{answered, step}
use Rattle.scql_model.proofs.FormedParts.{IfSome-read_on, read_on}
use Rattle.apdu_chain.specs.Chaining.{chain_on, chains_after}
use Rattle.apdu_chain.proofs.TakenForms.{bound-read, form_of-open, length-after, octets_taken, outcome_of, step-read, taken_at, taken-committed, taken-transaction, valid-taken}
use Rattle.record_store.specs.Held.{Held}
use Rattle.row_index.specs.Index.{Index}
use Rattle.card.specs.Card.{Kept, HoldsMachine, IsAt, WorksOn}
use Rattle.card.specs.Sessions as opened
use Rattle.card.specs.declared.found.Found.{Found}
use Rattle.card.specs.Sessions.{sessions_of}
use Rattle.card.specs.declared.session.Session.{Session}
use Rattle.card.proofs.SeenSessions.{chain-seen, open-parts, sessions_of-chain}

taken-sessions : (sessions : List (Option Session)) (chains : List (Option Chain)) (m : Machine) (form : Form) → m.sessions ≡ sessions_of sessions chains
    → (taken_at m form).sessions ≡ sessions_of sessions (chains_after chains form)
taken-sessions sessions chains m form is = by_form form
  where
    seen : (change : Seen → Seen) (next : Option Chain → Option Chain) (channel : ℕ)
        → sessions_of sessions (slice_set chains channel (next (chain_on chains channel))) ≡ (changing_session change (record m { sessions = sessions_of sessions chains }) channel).sessions
        → (changing_session change m channel).sessions ≡ sessions_of sessions (slice_set chains channel (next (chain_on chains channel)))
    seen change next channel changed = ap (λ (sessions : List (Option Seen)). (changing_session change (record m { sessions = sessions }) channel).sessions) is ∙ sym changed

    by_form : (form : Form) → (taken_at m form).sessions ≡ sessions_of sessions (chains_after chains form)
    by_form (refused word) = is
    by_form (refused_on channel word) = seen without_chain (λ _. None) channel (sessions_of-chain without_chain (λ _. None) (λ chain s. refl) sessions chains channel)
    by_form (a_command c) = seen without_chain (λ _. None) c.channel (sessions_of-chain without_chain (λ _. None) (λ chain s. refl) sessions chains c.channel)
    by_form (part_on channel kind octets) =
        let next = λ (chain : Option Chain). let more : Chain = record { operation = kind; parts = parts_of kind chain ++ octets ∷ [] } in Some more in
        seen (with_part kind octets) next channel (sessions_of-chain (with_part kind octets) next (λ chain s. refl) sessions chains channel)

-- card and EEPROM are at the next machine, once octets were taken
pub IsAt-taken : (store : Held) (index : Index) (transaction : Option ℕ) (found : Found) (live : Bool) (sessions : List (Option Session)) (chains after : List (Option Chain)) (card : Kept) (chip : Chip) (m : Machine) (form : Form) → IsAt card chip m
    → record { store = store; index = index; sessions = sessions_of sessions chains; transaction = transaction; found = found; live = live } ≡ card → after ≡ chains_after chains form
    → IsAt (record { store = store; index = index; sessions = sessions_of sessions after; transaction = transaction; found = found; live = live }) chip (taken_at m form)
IsAt-taken store index transaction found live sessions chains after card chip m form at seen is =
    let was = subst (λ (kept : Kept). HoldsMachine kept chip m) (sym seen) at.held in
    record {
      held = record {
        slots = was.slots;
        committed = was.committed;
        limit = ap (λ (db : Database). db.limit) (taken-committed m form) ∙ was.limit;
        holds = subst (Holds was.slots) (sym (taken-committed m form)) was.holds;
        transaction = ap (option_map (λ (t : Transaction). t.channel)) (taken-transaction m form) ∙ was.transaction;
        works = subst (λ (t : Option Transaction). IfSome t (WorksOn store chip was.slots)) (sym (taken-transaction m form)) was.works;
        sessions = taken-sessions sessions chains m form was.sessions ∙ ap (sessions_of sessions) (sym is);
      };
      valid = valid-taken m form at.valid;
    }

-- What the machine reads is what is read with the card's open channels and chains.
pub form-card : (card : Kept) (chip : Chip) (m : Machine) (octets : List ℕ) (channels : List Bool) (sessions : List (Option Session)) (chains : List (Option Chain)) (limit : ℕ) → IsAt card chip m
    → channels ≡ map (λ (s : Option Seen). is_some s) card.sessions → card.sessions ≡ sessions_of sessions chains → limit ≡ card.store.row_limit
    → form_of operations octets (open_channels m) (command_chain m) m.committed.limit ≡ form_of operations octets channels (chain_on chains) limit
form-card card chip m octets channels sessions chains limit at are_open seen is =
    let opened : open_channels m ≡ channels = ap (map (λ (s : Option Seen). is_some s)) at.held.sessions ∙ sym are_open in
    form_of-open operations octets (open_channels m) (command_chain m) (chain_on chains) m.committed.limit (chain-at (at.held.sessions ∙ seen))
    ∙ (ap (form_of operations octets (open_channels m) (chain_on chains)) (at.held.limit ∙ sym is)
    ∙ ap (λ (channels : List Bool). form_of operations octets channels (chain_on chains) limit) opened)
  where
    chain-at : m.sessions ≡ sessions_of sessions chains → (channel : ℕ) → slice_get (open_channels m) channel ≡ Some true → command_chain m channel ≡ chain_on chains channel
    chain-at is channel open' =
        ap (λ (s : List (Option Seen)). command_chain (record m { sessions = s }) channel) is
        ∙ chain-seen sessions chains channel (subst (λ (s : List (Option Seen)). slice_get (map (λ (s : Option Seen). is_some s) s) channel ≡ Some true) is open')

-- The step to octets, from what was taken of them.
pub step-taken : (card : Kept) (chip : Chip) (m : Machine) (octets : List ℕ) (channels : List Bool) (sessions : List (Option Session)) (chains : List (Option Chain)) (limit : ℕ) → IsAt card chip m
    → channels ≡ map (λ (s : Option Seen). is_some s) card.sessions → card.sessions ≡ sessions_of sessions chains → limit ≡ card.store.row_limit
    → (let form = form_of operations octets channels (chain_on chains) limit in step m octets ≡ answered (taken_at m form) (outcome_of (taken_at m form) form))
step-taken card chip m octets channels sessions chains limit at are_open seen is =
    step-read m octets (form_of operations octets channels (chain_on chains) limit) (form-card card chip m octets channels sessions chains limit at are_open seen is)

pub bound-taken : (card : Kept) (chip : Chip) (m : Machine) (octets : List ℕ) (channels : List Bool) (sessions : List (Option Session)) (chains : List (Option Chain)) (limit : ℕ) → IsAt card chip m
    → channels ≡ map (λ (s : Option Seen). is_some s) card.sessions → card.sessions ≡ sessions_of sessions chains → limit ≡ card.store.row_limit
    → (let form = form_of operations octets channels (chain_on chains) limit in octets_bound m octets ≡ octets_taken (taken_at m form) form)
bound-taken card chip m octets channels sessions chains limit at are_open seen is =
    bound-read m octets (form_of operations octets channels (chain_on chains) limit) (form-card card chip m octets channels sessions chains limit at are_open seen is)

-- and its channel is open still
pub open-taken : (octets : List ℕ) (channels : List Bool) (sessions : List (Option Session)) (chains after : List (Option Chain)) (limit : ℕ) (c : Command)
    → (let form = form_of operations octets channels (chain_on chains) limit in channels ≡ map (λ (s : Option Seen). is_some s) (sessions_of sessions chains)
    → after ≡ chains_after chains form → form ≡ a_command c → opened.is_open (sessions_of sessions after) c.channel ≡ true)
open-taken octets channels sessions chains after limit c are_open is whole =
    let form : Form = form_of operations octets channels (chain_on chains) limit in
    let read : slice_get channels c.channel ≡ Some true = subst (λ (form : Form). IfSome (read_on form) (λ channel. slice_get channels channel ≡ Some true)) whole
    (IfSome-read_on operations octets channels (chain_on chains) limit) in
    open-parts sessions chains after c.channel (ap length is ∙ length-after chains form) (subst (λ (channels : List Bool). slice_get channels c.channel ≡ Some true) are_open read)
