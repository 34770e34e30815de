use Rattle.scql_model.proofs.Depths.{contents_of-table, contents_of-view, contents_of-dictionary}
use Rattle.scql_model.proofs.laws.views.contents_are_those_of_the_kind.Goals as goal

pub returns-clause-table : goal.returns-clause-table
returns-clause-table c = λ db o columns is kind. contents_of-table db o is columns kind

pub returns-clause-view : goal.returns-clause-view
returns-clause-view c = λ db o base columns conditions is kind deep. contents_of-view db o is base columns conditions kind deep

pub returns-clause-dictionary : goal.returns-clause-dictionary
returns-clause-dictionary c = λ db o subject is kind. contents_of-dictionary db o is subject kind
