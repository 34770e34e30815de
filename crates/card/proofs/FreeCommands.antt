-- What commands do at a machine of a card, where no open transaction keeps them waiting.
use Rattle.std.proofs.Common.{◌≡◌, ◌==◌, ℕ, true, false, not, List, Option, Some, None, option_map, Result, Ok, Err, refl, ap, sym, subst, ◌∙◌, inl, inr}
use Rattle.std.specs.Option.{option_map_or}
use Rattle.std.proofs.lemmas.Bool.{cases_Bool}
use Rattle.scql_base.specs.declared.words.StatusWord.{StatusWord}
use Rattle.scql_base.specs.declared.words.Actor.{Actor}
use Rattle.scql_base.specs.declared.operation.Operation.{Operation}
use Rattle.scql_base.specs.declared.operation.Operation.TheVariants as asks
use Rattle.scql_model.specs.Refusals.{◌>>=◌}
use Rattle.scql_model.specs.Database.{Database}
use Rattle.scql_model.specs.Machine.{Machine, Transaction, base_of, base, actor}
use Rattle.scql_model.specs.Sessions.{cursor_of}
use Rattle.scql_model.specs.Transactions.{Waits, for_none, for_others, for_any, is_kept_waiting, own_transaction, waits}
use Rattle.scql_model.specs.Operations.{kind_of}
use Rattle.scql_model.specs.Edits.{Edit}
use Rattle.scql_model.specs.Bound.{octets_for_change, octets_changed, octets_operated, octets_carried_out, or_nothing}
use Rattle.scql_model.specs.Changing.{edits_of, with_edits}
use Rattle.scql_model.specs.ReadingCommands.{reading_command}
use Rattle.scql_model.specs.Step.{changed_to, changed, reading_done, operated, carried_out}
use Rattle.apdu_chain.proofs.CarriedOut.{carried_out-free, committed-base, octets_carried_out-free}
use Rattle.card.specs.Answering.{committed_at_once}
use Rattle.card.specs.Changing.{new_of, octets_of}
use Rattle.card.specs.Waiting.{has_own, keeps_waiting}
use Rattle.card.proofs.OtherCommands.{is_changing}

-- the channel of a transaction tells what it keeps waiting
pub waiting-at : (w : Waits) (t : Option Transaction) (own : Option ℕ) (channel : ℕ) → option_map (λ (t : Transaction). t.channel) t ≡ own → is_kept_waiting w t channel ≡ keeps_waiting w own channel
waiting-at w t own channel is = subst (λ (own : Option ℕ). is_kept_waiting w t channel ≡ keeps_waiting w own channel) is (of w t)
  where
    of : (w : Waits) (t : Option Transaction) → is_kept_waiting w t channel ≡ keeps_waiting w (option_map (λ (t : Transaction). t.channel) t) channel
    of w None = refl
    of for_none (Some t) = refl
    of for_others (Some t) = refl
    of for_any (Some t) = refl

-- what waits for any finds none, where it isn't kept waiting
pub none-open : (t : Option Transaction) (own : Option ℕ) (channel : ℕ) → option_map (λ (t : Transaction). t.channel) t ≡ own → keeps_waiting for_any own channel ≡ false → t ≡ None
none-open None own channel is free = refl
none-open (Some t) own channel is free = absurd (let wrong : true ≡ false = subst (λ (own : Option ℕ). keeps_waiting for_any own channel ≡ false) (sym is) free in cc)

-- what waits for those of others finds none or its own
pub own-open : (t : Transaction) (own : Option ℕ) (channel : ℕ) → option_map (λ (t : Transaction). t.channel) (Some t) ≡ own → keeps_waiting for_others own channel ≡ false → own_transaction (Some t) channel ≡ Some t
own-open t own channel is free =
    let there : not (t.channel == channel) ≡ false = subst (λ (own : Option ℕ). keeps_waiting for_others own channel ≡ false) (sym is) free in
    elim (cases_Bool (t.channel == channel)) [
      | inl e ↦ rw e refl
      | inr f ↦ absurd (let wrong : true ≡ false = rw f at there in cc)
    ]

-- A channel's own transaction is the open one, and another channel has none.
pub own-has : (t : Option Transaction) (own : Option ℕ) (channel : ℕ) → option_map (λ (t : Transaction). t.channel) t ≡ own → has_own own channel ≡ true → (open' : Transaction) × (t ≡ Some open') × (own_transaction t channel ≡ Some open') × ((open'.channel == channel) ≡ true)
own-has None own channel is has = absurd (let wrong : false ≡ true = subst (λ (own : Option ℕ). has_own own channel ≡ true) (sym is) has in cc)
own-has (Some t) own channel is has =
    let there : (t.channel == channel) ≡ true = subst (λ (own : Option ℕ). has_own own channel ≡ true) (sym is) has in
    (t, refl, rw there refl, there)

pub own-none : (t : Option Transaction) (own : Option ℕ) (channel : ℕ) → option_map (λ (t : Transaction). t.channel) t ≡ own → has_own own channel ≡ false → own_transaction t channel ≡ None
own-none None own channel is has = refl
own-none (Some t) own channel is has = let there : (t.channel == channel) ≡ false = subst (λ (own : Option ℕ). has_own own channel ≡ false) (sym is) has in rw there refl

-- Nothing that waits for any is kept waiting without one.
pub any-none : (own : Option ℕ) (channel : ℕ) → keeps_waiting for_any own channel ≡ false → own ≡ None
any-none None channel free = refl
any-none (Some own) channel free = absurd cc

-- A change is carried out as one, where it isn't DELETE USER, and nothing else is written for it.
pub carried_out-changes : (m : Machine) (channel : ℕ) (operation : Operation) (le : Option ℕ) → is_changing (kind_of operation) ≡ true → ((name : List ℕ) → operation ≡ asks.DeleteUser name → ⊥)
    → is_kept_waiting (waits (kind_of operation)) m.transaction channel ≡ false → carried_out m (record { channel = channel; operation = operation; le = le }) ≡ changed m channel operation
carried_out-changes m channel operation le changes other free = carried_out-free m channel operation le free ∙ of operation changes other
  where
    of : (operation : Operation) → is_changing (kind_of operation) ≡ true → ((name : List ℕ) → operation ≡ asks.DeleteUser name → ⊥)
        → option_map_or (λ command. Ok (reading_done m channel command)) (reading_command operation le) (operated m channel operation) ≡ changed m channel operation
    of (asks.DeleteUser name) is other = absurd (other name refl)
    of operation is other = cc

pub octets-carried_out : (m : Machine) (channel : ℕ) (operation : Operation) (le : Option ℕ) → is_changing (kind_of operation) ≡ true → is_kept_waiting (waits (kind_of operation)) m.transaction channel ≡ false
    → octets_carried_out m (record { channel = channel; operation = operation; le = le }) ≡ octets_changed m channel operation
octets-carried_out m channel operation le changes free = octets_carried_out-free m channel operation le free ∙ of operation changes
  where
    of : (operation : Operation) → is_changing (kind_of operation) ≡ true → octets_operated m channel operation ≡ octets_changed m channel operation
    of asks.Commit is = absurd cc
    of (asks.Verify secret) is = absurd cc
    of operation is = refl

-- such a change waits for the transactions of other channels
pub waits-changes : (operation : Operation) → is_changing (kind_of operation) ≡ true → ((name : List ℕ) → operation ≡ asks.DeleteUser name → ⊥) → waits (kind_of operation) ≡ for_others
waits-changes (asks.DeleteUser name) is other = absurd (other name refl)
waits-changes operation is other = cc

-- what becomes of the machine by a change that is committed at once
pub changed-outcome : (m : Machine) (channel : ℕ) (operation : Operation) → m.transaction ≡ None
    → changed m channel operation ≡ committed_at_once m channel (new_of m.committed (edits_of m.committed (actor m channel) (cursor_of m channel) operation))
changed-outcome m channel operation none =
    of_edits (edits_of (base m channel) (actor m channel) (cursor_of m channel) operation)
    ∙ ap (λ (db : Database). committed_at_once m channel (new_of db (edits_of db (actor m channel) (cursor_of m channel) operation))) (committed-base m channel none)
  where
    made : (edits : List Edit) (db : Database) → Ok (changed_to m channel edits db (own_transaction m.transaction channel)) ≡ committed_at_once m channel (Ok db)
    made edits db = ap Ok (ap (λ (t : Option Transaction). changed_to m channel edits db (own_transaction t channel)) none)

    of_database : (edits : List Edit) (r : Result Database StatusWord)
        → (r >>= λ (db : Database). Ok (changed_to m channel edits db (own_transaction m.transaction channel))) ≡ committed_at_once m channel r
    of_database edits (Ok db) = made edits db
    of_database edits (Err word) = refl

    of_edits : (r : Result (List Edit) StatusWord)
        → (r >>= λ (edits : List Edit). with_edits (base m channel) edits >>= λ (db : Database). Ok (changed_to m channel edits db (own_transaction m.transaction channel)))
        ≡ committed_at_once m channel (new_of (base m channel) r)
    of_edits (Ok edits) = of_database edits (with_edits (base m channel) edits)
    of_edits (Err word) = refl

-- and how many octets are written for it
pub octets-changed : (m : Machine) (channel : ℕ) (operation : Operation) → m.transaction ≡ None
    → or_nothing (octets_changed m channel operation) ≡ octets_of m.committed (edits_of m.committed (actor m channel) (cursor_of m channel) operation)
octets-changed m channel operation none =
    ap (λ (t : Option Transaction). octets_in t (actor m channel)) none
  where
    octets_in : Option Transaction → Actor → ℕ
    octets_in t who =
        or_nothing (edits_of (base_of t m.committed channel) who (cursor_of m channel) operation >>= λ (edits : List Edit).
        with_edits (base_of t m.committed channel) edits >>= λ (new : Database). Ok (octets_for_change (own_transaction t channel) edits))
