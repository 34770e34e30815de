-- A condition among those of a view.
use Rattle.scql_base.specs.declared.condition.Condition.{Condition}
use Rattle.scql_base.specs.Name.{is_name}
use Rattle.scql_base.specs.Row.{is_narrow}
use Rattle.scql_model.specs.Fields.{Field, ◌then◌, letter, text, as_record}
use Rattle.scql_model.specs.Records.{comparison_code, comparison_of, to_condition, from_condition}

-- column, comparison, value
abbrev pub condition : Field Condition
condition = as_record to_condition from_condition (text is_name then letter comparison_code comparison_of then text is_narrow)
