-- Every statement runs to its meaning.
use Rattle.std.proofs.Common.{◌≡◌, ℕ, ◌≤◌, ◌==◌, not, Bool, true, false, List, [], Option, Some, None, is_some, Result, Ok, Err, if◌then◌else◌, refl, sym, ◌∙◌, ap, subst, lit≤}
use Rattle.std.proofs.lemmas.List.{length-map}
use Rattle.scql_base.specs.declared.words.StatusWord.{StatusWord}
use Rattle.scql_base.specs.declared.condition.Condition.{Condition}
use Rattle.scql_base.specs.declared.operation.Operation.{Operation}
use Rattle.scql_base.specs.declared.operation.Operation.TheVariants.{DeclareCursor, Update, Delete}
use Rattle.scql_base.specs.Words.{channel_not_supported}
use Rattle.scql_model.specs.Database.{IsValid}
use Rattle.scql_model.specs.Machine.{Machine, Session, Transaction, session_of, base}
use Rattle.scql_model.specs.Sessions.{is_channel_open}
use Rattle.scql_model.specs.Transactions.{own_transaction}
use Rattle.scql_model.specs.Matching.{Columns}
use Rattle.scql_model.specs.Objects.{StampedRow}
use Rattle.scql_model.specs.Parameters.{are_chosen_columns}
use Rattle.scql_model.proofs.ReadingIsShown.{IsReadable-valid}
use Rattle.script.specs.declared.statement.Statement.{Statement}
use Rattle.script.specs.declared.statement.Statement.TheVariants.{Blank, Single, Select, UpdateRows, DeleteRows, OpenNumber, CloseNumber, UseNumber, Reset}
use Rattle.script.specs.Commands.{asking, IsSendable, CanBeSent}
use Rattle.planner.specs.declared.closing.Closing.TheVariants.{Refused}
use Rattle.planner.specs.declared.stage.Stage.TheVariants.{Start}
use Rattle.planner.specs.Meaning.{Meaning, Declared, declared, ended, selects_all, changed_inside, changed_at_once, changed_outside, changed_by, changes_all, on_open, meaning}
use Rattle.planner.specs.Planned.{Planned, started}
use Rattle.planner.specs.Running.{AreRows, IsBrief, IsOfRows, RunsTo, RunsToMeaning, shown}
use Rattle.planner.proofs.Brief.{brief-runs}
use Rattle.planner.proofs.Closed.{closed-run}
use Rattle.planner.proofs.Changed.{ChangesBy}
use Rattle.planner.proofs.Selected.{select-open}
use Rattle.planner.proofs.Selecting.{SelectEnds}
use Rattle.planner.proofs.Settled.{runs-to}
use Rattle.planner.proofs.ShownRows.{AreDeclared, declared-formed}
use Rattle.planner.proofs.Transacted.{CountsFew, runs-inside, runs-outside, runs-against}

-- UPDATE and DELETE FROM on an open channel
module _ (m : Machine) (channel : ℕ) (s : Session) (near : channel ≤ 3) (there : session_of m channel ≡ Some s)
    (statement : Statement) (object : List ℕ) (conditions : List Condition) (operation : Operation) (by : ChangesBy statement object conditions operation)
    (can : IsSendable (asking channel operation)) (can_declare : IsSendable (asking channel (DeclareCursor object [] conditions))) (valid : IsValid (base m channel)) where
  abbrev found : Result Declared StatusWord
  found = declared m channel object [] conditions

  abbrev plan_for : Bool → Planned
  plan_for inside = record { statement = statement; channel = channel; own = not inside; stage = Start; rows = 0; responses = 0; row = [] }

  counts : CountsFew m channel s near there statement object conditions operation by can can_declare found
  counts = go found (declared-formed m channel object [] conditions valid refl)
    where
      go : (d : Result Declared StatusWord) → AreDeclared (base m channel) valid d → CountsFew m channel s near there statement object conditions operation by can can_declare d
      go (Err word) are = tt
      go (Ok d) are = are.few

  abbrev Runs : Bool → Meaning → Type 0
  Runs inside x = SelectEnds m None (plan_for inside) (shown x)

  abbrev is_inside : Bool
  is_inside = is_some (own_transaction m.transaction channel)

  abbrev all_changed : Meaning
  all_changed = changes_all m channel operation found

  changes-run : Runs is_inside all_changed
  changes-run = go m.transaction refl
    where
      with' : (t : Transaction) → m.transaction ≡ Some t → (mine : Bool) → (t.channel == channel) ≡ mine → Runs is_inside all_changed
      with' t is true own =
          let inside : is_inside ≡ true =
          ap (λ (t : Option Transaction). is_some (own_transaction t channel)) is ∙ ap (λ mine. let x : Option Transaction = if mine then Some t else None in is_some x) own in
          let same : all_changed ≡ changed_inside m channel operation t found =
          ap (λ (t : Option Transaction). changed_by m channel operation found (own_transaction t channel)) is
          ∙ ap (λ mine. changed_by m channel operation found (if mine then Some t else None)) own in
          subst (λ inside. Runs inside all_changed) (sym inside) (subst (Runs true) (sym same)
          (runs-inside m channel s near there statement object conditions operation by can can_declare t is own (IsReadable-valid (base m channel) valid) counts))
      with' t is false other =
          let inside : is_inside ≡ false =
          ap (λ (t : Option Transaction). is_some (own_transaction t channel)) is ∙ ap (λ mine. let x : Option Transaction = if mine then Some t else None in is_some x) other in
          let same : all_changed ≡ changed_outside m channel operation found (Some t) =
          ap (λ (t : Option Transaction). changed_by m channel operation found (own_transaction t channel)) is
          ∙ (ap (λ mine. changed_by m channel operation found (if mine then Some t else None)) other ∙ ap (changed_outside m channel operation found) is) in
          subst (λ inside. Runs inside all_changed) (sym inside) (subst (Runs false) (sym same)
          (runs-against m channel s near there statement object conditions operation by can can_declare t is other))

      go : (t : Option Transaction) → m.transaction ≡ t → Runs is_inside all_changed
      go None none =
          let inside : is_inside ≡ false = ap (λ (t : Option Transaction). is_some (own_transaction t channel)) none in
          let same : all_changed ≡ changed_at_once m channel operation found =
          ap (λ (t : Option Transaction). changed_by m channel operation found (own_transaction t channel)) none ∙ ap (changed_outside m channel operation found) none in
          subst (λ inside. Runs inside all_changed) (sym inside) (subst (Runs false) (sym same)
          (runs-outside m channel s near there statement object conditions operation by can can_declare none (IsReadable-valid (base m channel) valid) counts))
      go (Some t) is = with' t is (t.channel == channel) refl

  pub changes-open : RunsTo m (plan_for is_inside) (shown (on_open m channel all_changed))
  changes-open =
      subst (λ (x : Meaning). RunsTo m (plan_for is_inside) (shown x))
      (sym (ap (λ (session : Option Session). if is_some session then all_changed else ended (Refused channel_not_supported) m channel) there))
      (runs-to m (plan_for is_inside) (shown all_changed) changes-run)

-- the rows of a SELECT
pub select-rows : (m : Machine) (channel : ℕ) (object : List ℕ) (columns : Columns) (conditions : List Condition) → is_channel_open m channel ≡ true → IsValid (base m channel)
    → are_chosen_columns columns ≡ true → AreRows (meaning m channel (Select object columns conditions)).rows
unfolding meaning
select-rows m channel object columns conditions is_open valid chosen =
    subst (λ (x : Meaning). AreRows x.rows)
    (sym (ap (λ opened. if opened then selects_all m channel (declared m channel object columns conditions) else ended (Refused channel_not_supported) m channel) is_open))
    (go (declared m channel object columns conditions) (declared-formed m channel object columns conditions valid chosen))
  where
    go : (d : Result Declared StatusWord) → AreDeclared (base m channel) valid d → AreRows (selects_all m channel d).rows
    go (Err word) are = record { few = lit≤ tt; formed = tt }
    go (Ok d) are = record { few = subst (λ n. n ≤ 2048) (sym (length-map d.rows (λ (r : StampedRow). r.values))) are.few; formed = are.formed }

module _ (m : Machine) (channel : ℕ) (valid : IsValid (base m channel)) where
  abbrev Meant : Statement → Type 0
  Meant s = RunsToMeaning m channel s

  brief : (s : Statement) → IsBrief s → Meant s
  brief s is =
      runs-to m (started s channel (is_some (own_transaction m.transaction channel))) (shown (meaning m channel s))
      (record { steps = 2; runs = λ n. brief-runs n m channel (is_some (own_transaction m.transaction channel)) s is })

  closed : (s : Statement) → IsOfRows s → CanBeSent channel s → is_channel_open m channel ≡ false → Meant s
  closed s is can none =
      runs-to m (started s channel (is_some (own_transaction m.transaction channel))) (shown (meaning m channel s))
      (record { steps = 2; runs = λ n. closed-run m n channel (is_some (own_transaction m.transaction channel)) s is can none })

  of-session : (s : Statement) (session : Option Session) → session_of m channel ≡ session → (is_some (session_of m channel) ≡ false → Meant s) → ((x : Session) → session_of m channel ≡ Some x → Meant s) → Meant s
  of-session s None is none some = none (ap (λ (x : Option Session). is_some x) is)
  of-session s (Some x) is none some = some x is

  pub statement-runs : (s : Statement) → CanBeSent channel s → Meant s
  unfolding meaning
  statement-runs (Select object columns conditions) can =
      of-session (Select object columns conditions) (session_of m channel) refl (closed (Select object columns conditions) tt can) (λ x there.
      let is_open : is_channel_open m channel ≡ true = ap (λ (x : Option Session). is_some x) there in
      select-open m channel object columns conditions (is_some (own_transaction m.transaction channel)) is_open can (IsReadable-valid (base m channel) valid)
      (select-rows m channel object columns conditions is_open valid can.commands.0.formed.form.1))
  statement-runs (UpdateRows object changes conditions) can =
      of-session (UpdateRows object changes conditions) (session_of m channel) refl (closed (UpdateRows object changes conditions) tt can) (λ x there.
      changes-open m channel x can.within there (UpdateRows object changes conditions) object conditions (Update changes)
      (record { begins = λ p. refl; declares = λ p. refl; reaches = λ p. refl; changes = tt }) can.commands.1.1.1.0 can.commands.1.0 valid)
  statement-runs (DeleteRows object conditions) can =
      of-session (DeleteRows object conditions) (session_of m channel) refl (closed (DeleteRows object conditions) tt can) (λ x there.
      changes-open m channel x can.within there (DeleteRows object conditions) object conditions Delete
      (record { begins = λ p. refl; declares = λ p. refl; reaches = λ p. refl; changes = tt }) can.commands.1.1.1.0 can.commands.1.0 valid)
  statement-runs Blank can = brief Blank tt
  statement-runs (Single operation) can = brief (Single operation) tt
  statement-runs (OpenNumber number) can = brief (OpenNumber number) tt
  statement-runs (CloseNumber number) can = brief (CloseNumber number) tt
  statement-runs (UseNumber number) can = brief (UseNumber number) tt
  statement-runs Reset can = brief Reset tt
