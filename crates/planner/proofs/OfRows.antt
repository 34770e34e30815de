-- What holds of each way in which a statement of rows may end holds of its meaning.
use Rattle.std.proofs.Common.{◌≡◌, ℕ, Bool, true, false, [], Option, Some, None, Result, Ok, Err, if◌then◌else◌, refl}
use Rattle.scql_base.specs.declared.words.StatusWord.{StatusWord}
use Rattle.scql_base.specs.declared.operation.Operation.{Operation}
use Rattle.scql_base.specs.declared.operation.Operation.TheVariants.{Update, Delete}
use Rattle.scql_base.specs.Words.{channel_not_supported, conditions_not_satisfied}
use Rattle.scql_model.specs.Machine.{Machine, Transaction}
use Rattle.scql_model.specs.Sessions.{is_channel_open}
use Rattle.scql_model.specs.Transactions.{own_transaction}
use Rattle.script.specs.declared.statement.Statement.{Statement}
use Rattle.script.specs.declared.statement.Statement.TheVariants.{Select, UpdateRows, DeleteRows}
use Rattle.planner.specs.declared.closing.Closing.TheVariants.{Refused}
use Rattle.planner.specs.Meaning.{Meaning, Declared, declared, ended, refused_on, rolled_back, selects_all, changed_by, changed_inside, changed_outside, committed_after, changed_in, on_open, begun, meaning}
use Rattle.planner.specs.Running.{IsOfRows}

pub record HoldsOfRows (P : Meaning → Type 0) (m : Machine) (channel : ℕ) : Type 0 where
  -- the channel isn't open, or the statement is refused before a row is changed
  pub closed : P (ended (Refused channel_not_supported) m channel)
  pub refused : (word : StatusWord) → P (refused_on m channel word)
  pub selected : (d : Declared) → P (selects_all m channel (Ok d))
  -- rows are changed in the channel's transaction; or in one of the statement's own, which is rolled back or committed
  pub inside : (operation : Operation) (t : Transaction) (d : Declared) → own_transaction m.transaction channel ≡ Some t → P (changed_inside m channel operation t (Ok d))
  pub rolled : (word : StatusWord) → P (rolled_back m channel word)
  pub committed : (operation : Operation) (d : Declared) → m.transaction ≡ None → P (committed_after m channel d (changed_in m channel operation d (begun m channel)) None)

module _ (P : Meaning → Type 0) (m : Machine) (channel : ℕ) (h : HoldsOfRows P m channel) where
  of-open : (x : Meaning) → P x → P (on_open m channel x)
  of-open x holds = go (is_channel_open m channel)
    where
      go : (opened : Bool) → P (if opened then x else ended (Refused channel_not_supported) m channel)
      go true = holds
      go false = h.closed

  of-selects : (d : Result Declared StatusWord) → P (selects_all m channel d)
  of-selects (Err word) = h.refused word
  of-selects (Ok d) = h.selected d

  of-changes : (operation : Operation) (d : Result Declared StatusWord) → P (changed_by m channel operation d (own_transaction m.transaction channel))
  of-changes operation d = go (own_transaction m.transaction channel) refl d
    where
      done : (d : Declared) (refusal : Option StatusWord) → m.transaction ≡ None → P (committed_after m channel d (changed_in m channel operation d (begun m channel)) refusal)
      done d None none = h.committed operation d none
      done d (Some word) none = h.rolled word

      outside : (t : Option Transaction) → m.transaction ≡ t → (d : Result Declared StatusWord) → P (changed_outside m channel operation d t)
      outside (Some t) is d = h.refused conditions_not_satisfied
      outside None is (Err word) = h.rolled word
      outside None is (Ok d) = done d (changed_in m channel operation d (begun m channel)).refusal is

      go : (own : Option Transaction) → own_transaction m.transaction channel ≡ own → (d : Result Declared StatusWord) → P (changed_by m channel operation d own)
      go (Some t) is (Err word) = h.refused word
      go (Some t) is (Ok d) = h.inside operation t d is
      go None is d = outside m.transaction refl d

  pub of-rows : (s : Statement) → IsOfRows s → P (meaning m channel s)
  unfolding meaning
  of-rows (Select object columns conditions) is = of-open _ (of-selects (declared m channel object columns conditions))
  of-rows (UpdateRows object changes conditions) is = of-open _ (of-changes (Update changes) (declared m channel object [] conditions))
  of-rows (DeleteRows object conditions) is = of-open _ (of-changes Delete (declared m channel object [] conditions))
  of-rows s is = absurd is
