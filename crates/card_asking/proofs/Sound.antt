-- What a statement's meaning gives.
use Rattle.std.proofs.Common.{◌≡◌, ◌⊎◌, ℕ, Bool, true, false, List, [], Option, Some, None, Result, Ok, Err, if◌then◌else◌, refl, sym, subst, inl, inr}
use Rattle.std.specs.List.{AllByRecursion}
use Rattle.scql_base.specs.declared.words.StatusWord.{StatusWord}
use Rattle.scql_base.specs.declared.condition.Condition.{Condition}
use Rattle.scql_base.specs.declared.operation.Operation.{Operation}
use Rattle.scql_base.specs.Words.{channel_not_supported}
use Rattle.scql_model.specs.Database.{IsValid}
use Rattle.scql_model.specs.Machine.{Machine, Transaction, base}
use Rattle.scql_model.specs.Sessions.{is_channel_open}
use Rattle.scql_model.specs.Matching.{Columns, Values}
use Rattle.scql_model.specs.Records.{is_row}
use Rattle.scql_model.specs.Transactions.{own_transaction}
use Rattle.card_link.specs.Link.{HasValidData}
use Rattle.script.specs.declared.statement.Statement.{Statement}
use Rattle.script.specs.declared.statement.Statement.TheVariants.{Blank, Single, Select, UpdateRows, DeleteRows, OpenNumber, CloseNumber, UseNumber, Reset}
use Rattle.script.specs.Commands.{CanBeSent}
use Rattle.planner.specs.declared.closing.Closing.TheVariants.{Refused}
use Rattle.planner.specs.Meaning.{Meaning, Declared, Changed, declared, ended, selects_all, changed_by, changed_outside, committed_after, changed_in, on_open, begun, meaning}
use Rattle.planner.specs.Readings.{IsSelect}
use Rattle.planner.proofs.Statements.{select-rows}
use Rattle.card_asking.proofs.Meant.{base-valid}

-- What a meaning gives: rows that are rows, and either these or commits.
pub record IsSound (x : Meaning) : Type 0 where
  pub formed : AllByRecursion (λ (values : Values). is_row values ≡ true) x.rows
  pub either : (x.commits ≡ []) ⊎ (x.rows ≡ [])

no-rows : (x : Meaning) → x.rows ≡ [] → IsSound x
no-rows x none = record { formed = subst (AllByRecursion (λ (values : Values). is_row values ≡ true)) (sym none) tt; either = inr none }

changed-rows : (m : Machine) (channel : ℕ) (operation : Operation) (d : Result Declared StatusWord) (own : Option Transaction) → (changed_by m channel operation d own).rows ≡ []
changed-rows m channel operation (Err word) (Some t) = refl
changed-rows m channel operation (Ok d) (Some t) = refl
changed-rows m channel operation d None = outside m.transaction d
  where
    committed : (d : Declared) (c : Changed) (refusal : Option StatusWord) → (committed_after m channel d c refusal).rows ≡ []
    committed d c None = refl
    committed d c (Some word) = refl

    outside : (t : Option Transaction) (d : Result Declared StatusWord) → (changed_outside m channel operation d t).rows ≡ []
    outside (Some t) d = refl
    outside None (Err word) = refl
    outside None (Ok d) = committed d (changed_in m channel operation d (begun m channel)) (changed_in m channel operation d (begun m channel)).refusal

on-open-rows : (m : Machine) (channel : ℕ) (x : Meaning) → x.rows ≡ [] → (on_open m channel x).rows ≡ []
on-open-rows m channel x none = go (is_channel_open m channel)
  where
    go : (b : Bool) → (if b then x else ended (Refused channel_not_supported) m channel).rows ≡ []
    go true = none
    go false = refl

-- a SELECT commits nothing
pub select-commits : (m : Machine) (channel : ℕ) (object : List ℕ) (columns : Columns) (conditions : List Condition) → (meaning m channel (Select object columns conditions)).commits ≡ []
unfolding meaning
select-commits m channel object columns conditions = go (is_channel_open m channel) (declared m channel object columns conditions)
  where
    go : (b : Bool) (d : Result Declared StatusWord) → (if b then selects_all m channel d else ended (Refused channel_not_supported) m channel).commits ≡ []
    go true (Err word) = refl
    go true (Ok d) = refl
    go false d = refl

pub select-sound : (m : Machine) (channel : ℕ) (object : List ℕ) (columns : Columns) (conditions : List Condition) → IsValid (base m channel) → CanBeSent channel (Select object columns conditions)
    → IsSound (meaning m channel (Select object columns conditions))
unfolding meaning
select-sound m channel object columns conditions valid can = record { formed = formed (is_channel_open m channel) refl; either = inl (select-commits m channel object columns conditions) }
  where
    formed : (b : Bool) → is_channel_open m channel ≡ b → AllByRecursion (λ (values : Values). is_row values ≡ true) (on_open m channel (selects_all m channel (declared m channel object columns conditions))).rows
    formed true is = (select-rows m channel object columns conditions is valid can.commands.0.formed.form.1).formed
    formed false is =
        subst (λ b. AllByRecursion (λ (values : Values). is_row values ≡ true) (if b then selects_all m channel (declared m channel object columns conditions) else ended (Refused channel_not_supported) m channel).rows) (sym is) tt

-- a SELECT alone gives rows
pub select-or-none : (m : Machine) (channel : ℕ) (s : Statement) → IsSelect s ⊎ ((meaning m channel s).rows ≡ [])
unfolding meaning
select-or-none m channel (Select object columns conditions) = inl tt
select-or-none m channel (UpdateRows object changes conditions) = inr (on-open-rows m channel _ (changed-rows m channel _ (declared m channel object [] conditions) (own_transaction m.transaction channel)))
select-or-none m channel (DeleteRows object conditions) = inr (on-open-rows m channel _ (changed-rows m channel _ (declared m channel object [] conditions) (own_transaction m.transaction channel)))
select-or-none m channel Blank = inr refl
select-or-none m channel (Single operation) = inr refl
select-or-none m channel (OpenNumber number) = inr refl
select-or-none m channel (CloseNumber number) = inr refl
select-or-none m channel (UseNumber number) = inr refl
select-or-none m channel Reset = inr refl

pub sound : (m : Machine) (channel : ℕ) (s : Statement) → HasValidData m → CanBeSent channel s → IsSound (meaning m channel s)
sound m channel s over can = go (select-or-none m channel s)
  where
    select : (s : Statement) → IsSelect s → CanBeSent channel s → IsSound (meaning m channel s)
    select (Select object columns conditions) is can = select-sound m channel object columns conditions (base-valid m channel over) can
    select s is can = absurd is

    go : IsSelect s ⊎ ((meaning m channel s).rows ≡ []) → IsSound (meaning m channel s)
    go (inl is) = select s is can
    go (inr none) = no-rows (meaning m channel s) none
