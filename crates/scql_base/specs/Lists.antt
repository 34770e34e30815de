-- Which names, conditions and changes are a list that a command or a record may have.
use Rattle.std.specs.Prelude.{◌≡◌, ℕ, ◌≤◌, true, List, length, map}
use Rattle.std.specs.List.{list_all}
use Rattle.scql_base.specs.Name.{is_name}
use Rattle.scql_base.specs.Row.{is_narrow}
use Rattle.scql_base.specs.declared.changes.Change.{Change}
use Rattle.scql_base.specs.declared.condition.Condition.{Condition}
use Rattle.scql_base.specs.declared.name_list.TheConstants.NameList as NameList
use Rattle.scql_base.specs.declared.conditions.TheConstants.Conditions as Conditions
use Rattle.scql_base.specs.declared.changes.TheConstants.Changes as Changes

pub record AreNames (names : List (List ℕ)) : Type 0 where
  pub count : length names ≤ NameList.MOST
  pub each : list_all is_name names ≡ true

pub record AreConditions (conditions : List Condition) : Type 0 where
  pub count : length conditions ≤ Conditions.MOST
  pub columns : list_all (λ condition. is_name condition.column) conditions ≡ true
  pub values : list_all (λ condition. is_narrow condition.value) conditions ≡ true

-- changes are pairs of a column and its new value
pub record AreChanges (changes : List (List ℕ × List ℕ)) : Type 0 where
  pub count : length changes ≤ Changes.MOST
  pub columns : list_all (λ change. is_name change.0) changes ≡ true
  pub values : list_all (λ change. is_narrow change.1) changes ≡ true

-- the changes that a list gives
pub record GivesChanges (held : List (List ℕ × List ℕ)) (given : List Change) : Type 0 where
  pub changes : map (λ (change : Change). change.pair) given ≡ held
  pub list : AreChanges held
