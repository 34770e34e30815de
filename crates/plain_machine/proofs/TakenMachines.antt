-- A machine whose sessions took octets.
use Rattle.std.proofs.Common.{◌≡◌, ◌≤◌, ℕ, zero, suc, true, false, List, [], ◌∷◌, map, min, Option, Some, None, Result, Ok, Err, is_some, refl, ap, subst, sym, ◌∙◌, arith}
use Rattle.std.specs.Prelude.{IfSome, option_map, slice_get, slice_set}
use Rattle.std.specs.Option.{option_flatten}
use Rattle.std.proofs.lemmas.Bool.{false≢true, le-leb, leb-true}
use Rattle.std.proofs.lemmas.Option.{none-some, same_Some}
use Rattle.scql_base.specs.declared.operation.Command.{Command}
use Rattle.scql_base.specs.declared.words.StatusWord.{StatusWord}
use Rattle.scql_base.specs.Words.{done}
use Rattle.scql_model.specs.Accepting.{channel_named}
use Rattle.scql_model.specs.Database.{Database}
use Rattle.scql_model.specs.Form.{Form, refused, refused_on, part_on, a_command, form_of}
use Rattle.scql_model.specs.Machine.{Machine, Session, open_channels}
use Rattle.scql_model.specs.Operations.{operations}
use Rattle.scql_model.specs.ReadingCommands.{Move}
use Rattle.scql_model.specs.Replies.{Reply, said}
use Rattle.scql_model.specs.Sessions.{changing_session, command_chain, is_channel_open, without_chain, without_pending}
use Rattle.scql_model.specs.Step.{Answer, answered, carried_out, done_with, step}
use Rattle.scql_model.specs.Touched.{without_touched}
use Rattle.scql_model.specs.ValidMachine.{IsValidMachine}
use Rattle.scql_model.proofs.FormedParts.{IfSome-read_on, read_on}
use Rattle.scql_model.proofs.KeepsRows.{within_largest}
use Rattle.apdu_chain.specs.declared.chains.Taken.TheVariants as taken
use Rattle.apdu_chain.specs.Chaining.{taken_of}
use Rattle.apdu_chain.proofs.TakenForms.{named-taken, outcome-whole, outcome_of, step-read, taken-kept, taken-refused, taken_at, valid-taken}
use Rattle.plain_machine.specs.Answers.{left_by_answer, machine_seen, outcome_left}
use Rattle.plain_machine.specs.Sessions.{are_open, chain_in, sessions_after}

-- a machine that is seen touches nothing
pub settled : (committed working : Database) (transaction : Option ℕ) (sessions : List (Option Session)) → without_touched (machine_seen committed working transaction sessions) ≡ machine_seen committed working transaction sessions
settled committed working None sessions = refl
settled committed working (Some own) sessions = refl

-- with the sessions after octets it is the machine that took them
seen-at : (committed working : Database) (transaction : Option ℕ) (sessions : List (Option Session)) (form : Form)
    → machine_seen committed working transaction (sessions_after sessions form) ≡ taken_at (machine_seen committed working transaction sessions) form
seen-at committed working transaction sessions (refused word) = refl
seen-at committed working transaction sessions (refused_on channel word) = refl
seen-at committed working transaction sessions (part_on channel kind octets) = refl
seen-at committed working transaction sessions (a_command c) = refl

-- a channel stays open where its session changes
stays-open : (change : Session → Session) (sessions : List (Option Session)) (channel : ℕ) → slice_get (map (λ (s : Option Session). is_some s) sessions) channel ≡ Some true
    → is_some (option_flatten (slice_get (slice_set sessions channel (option_map change (option_flatten (slice_get sessions channel)))) channel)) ≡ true
stays-open change [] channel is = absurd (none-some true is)
stays-open change (None ∷ sessions) zero is = absurd (false≢true (same_Some false true is))
stays-open change (Some session ∷ sessions) zero is = refl
stays-open change (session ∷ sessions) (suc channel) is = stays-open change sessions channel is

-- a card's limit is within the largest row
pub limit-most : (committed : Database) (m : Machine) → committed ≡ m.committed → IsValidMachine m → committed.limit ≤ 1020
limit-most committed m is valid =
    let most : m.committed.limit ≤ 1020 = leb-true m.committed.limit 1020 (within_largest m.committed m.committed.limit valid.committed (le-leb m.committed.limit m.committed.limit (omega arith))) in
    subst (λ (db : Database). db.limit ≤ 1020) (sym is) most

-- a machine, and its sessions before and after they took octets
pub record Taking (m : Machine) (octets : List ℕ) : Type 0 where
  pub committed : Database
  pub working : Database
  pub transaction : Option ℕ
  pub sessions : List (Option Session)
  pub after : List (Option Session)
  pub limit : ℕ
  pub seen : machine_seen committed working transaction sessions ≡ m
  pub limited : limit ≡ committed.limit
  pub most : committed.limit ≤ 1020
  pub takes : after ≡ sessions_after sessions (form_of operations octets (are_open sessions) (chain_in sessions) (min limit 1020))

module _ (m : Machine) (octets : List ℕ) (t : Taking m octets) where
  -- what the octets are
  abbrev its : Form
  its = form_of operations octets (are_open t.sessions) (chain_in t.sessions) (min t.limit 1020)

  -- the machine that took them
  abbrev next : Machine
  next = machine_seen t.committed t.working t.transaction t.after

  next-taken : next ≡ taken_at m its
  next-taken =
      ap (machine_seen t.committed t.working t.transaction) t.takes
      ∙ (seen-at t.committed t.working t.transaction t.sessions its
      ∙ ap (λ (m : Machine). taken_at m its) t.seen)

  form-its : form_of operations octets (open_channels m) (command_chain m) m.committed.limit ≡ its
  form-its =
      let same : t.committed.limit ≡ min t.limit 1020 = omega (arith, t.limited, t.most) in
      subst (λ (m : Machine). form_of operations octets (open_channels m) (command_chain m) m.committed.limit ≡ its) t.seen
      (ap (form_of operations octets (are_open t.sessions) (chain_in t.sessions)) same)

  -- The step to the octets.
  steps : step m octets ≡ answered next (outcome_of next its)
  steps = step-read m octets its form-its ∙ ap (λ (m : Machine). answered m (outcome_of m its)) (sym next-taken)

  next-settled : without_touched next ≡ next
  next-settled = settled t.committed t.working t.transaction t.after

  -- A refusal,
  pub refused-step : (word : StatusWord) (reply : Reply) → taken.Refused word ≡ taken_of its → reply ≡ said word
      → (let move : Move Machine = record { reply = reply; after = next } in move ≡ left_by_answer (step m octets))
  refused-step word reply is says =
      let move : Move Machine = record { reply = reply; after = next } in
      let left : move ≡ left_by_answer (answered next (Err word)) = cc (says, next-settled) in
      left ∙ ap left_by_answer (ap (answered next) (sym (taken-refused next its word is)) ∙ sym steps)

  -- a part that is kept,
  pub kept-step : (channel : ℕ) (reply : Reply) (new : Machine) → taken.Kept ≡ taken_of its → channel ≡ channel_named octets → reply ≡ said done → new ≡ changing_session without_pending next channel
      → (let move : Move Machine = record { reply = reply; after = new } in move ≡ left_by_answer (step m octets))
  kept-step channel reply new is named says leaves =
      let move : Move Machine = record { reply = reply; after = new } in
      let stays : new ≡ without_touched (changing_session without_pending next (channel_named octets)) =
      leaves ∙ (ap (changing_session without_pending next) named ∙ ap (λ (m : Machine). changing_session without_pending m (channel_named octets)) (sym next-settled)) in
      let left : move ≡ left_by_answer (answered next (Ok (done_with next (channel_named octets) []))) = cc (says, stays) in
      left ∙ ap left_by_answer (ap (answered next) (sym (taken-kept next octets its (named-taken octets (are_open t.sessions) (chain_in t.sessions) (min t.limit 1020)) is)) ∙ sym steps)

  -- and a command that is refused, or carried out.
  module _ (c : Command) (whole : its ≡ a_command c) where
    steps-whole : step m octets ≡ answered next (carried_out next c)
    steps-whole = steps ∙ ap (answered next) (outcome-whole next its c whole)

    pub refused-whole : (word : StatusWord) (reply : Reply) (new : Machine) → Err word ≡ outcome_left (carried_out next c) → new ≡ next → reply ≡ said word
        → (let move : Move Machine = record { reply = reply; after = new } in move ≡ left_by_answer (step m octets))
    refused-whole word reply new is same says = go (carried_out next c) is ∙ sym (ap left_by_answer steps-whole)
      where
        go : (outcome : Result Answer StatusWord) → Err word ≡ outcome_left outcome → (let move : Move Machine = record { reply = reply; after = new } in move ≡ left_by_answer (answered next outcome))
        go (Ok answer) is = absurd cc
        go (Err other) is = let same_word : word ≡ other = cc in cc (says, same, next-settled, same_word)

    pub done-whole : (move : Move Machine) → Ok move ≡ outcome_left (carried_out next c) → move ≡ left_by_answer (step m octets)
    done-whole move is = go (carried_out next c) is ∙ sym (ap left_by_answer steps-whole)
      where
        go : (outcome : Result Answer StatusWord) → Ok move ≡ outcome_left outcome → move ≡ left_by_answer (answered next outcome)
        go (Ok answer) is = cc
        go (Err other) is = absurd cc

    -- Its channel is open, at a valid machine.
    pub open-whole : is_channel_open next c.channel ≡ true
    open-whole =
        let read : slice_get (are_open t.sessions) c.channel ≡ Some true = subst (λ (form : Form). IfSome (read_on form) (λ channel. slice_get (are_open t.sessions) channel ≡ Some true)) whole
        (IfSome-read_on operations octets (are_open t.sessions) (chain_in t.sessions) (min t.limit 1020)) in
        let at : next ≡ changing_session without_chain (machine_seen t.committed t.working t.transaction t.sessions) c.channel = next-taken ∙ (ap (taken_at m) whole ∙ ap (λ (m : Machine). changing_session without_chain m c.channel) (sym t.seen)) in
        ap (λ (m : Machine). is_channel_open m c.channel) at ∙ stays-open without_chain t.sessions c.channel read

  pub valid-next : IsValidMachine m → IsValidMachine next
  valid-next valid = subst IsValidMachine (sym next-taken) (valid-taken m its valid)
