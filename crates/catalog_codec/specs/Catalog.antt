-- The kinds of records.
use Rattle.std.specs.Prelude.{ℕ, ◌==◌, ◌||◌}
use Rattle.scql_base.specs.declared.counter.TheConstants.Counter.{MARK as counter_mark}
use Rattle.scql_base.specs.declared.records.TheConstants.User.{MARK as user_mark}
use Rattle.scql_base.specs.declared.records.TheConstants.Object.{TABLE_MARK, VIEW_MARK, DICTIONARY_MARK}
use Rattle.scql_base.specs.declared.records.TheConstants.Grant.{MARK as grant_mark}
use Rattle.scql_base.specs.declared.records.TheConstants.RowRecord.{MARK as row_mark}
use Rattle.scql_base.specs.declared.records.User.{User}
use Rattle.scql_base.specs.declared.records.Object.{Object}
use Rattle.scql_base.specs.declared.records.Grant.{Grant}
use Rattle.scql_base.specs.declared.records.RowRecord.{RowRecord}
use Rattle.scql_model.specs.Records.{counter_record, user_record, object_record, grant_record, row_record}
use Rattle.catalog_codec.specs.Kinds.{Kind}

-- the counter, whose key is the next stamp
abbrev pub counter_kind : Kind ℕ
counter_kind = record { marks = λ mark. mark == counter_mark; form = counter_record; key = λ next. next }

abbrev pub user_kind : Kind User
user_kind = record { marks = λ mark. mark == user_mark; form = user_record; key = λ (u : User). u.stamp }

-- tables, views and dictionaries
abbrev pub object_kind : Kind Object
object_kind = record { marks = λ mark. mark == TABLE_MARK || mark == VIEW_MARK || mark == DICTIONARY_MARK; form = object_record; key = λ (o : Object). o.stamp }

abbrev pub grant_kind : Kind Grant
grant_kind = record { marks = λ mark. mark == grant_mark; form = grant_record; key = λ (g : Grant). g.stamp }

abbrev pub row_kind : Kind RowRecord
row_kind = record { marks = λ mark. mark == row_mark; form = row_record; key = λ (r : RowRecord). r.stamp }
