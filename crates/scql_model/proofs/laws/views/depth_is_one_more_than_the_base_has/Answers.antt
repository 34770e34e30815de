use Rattle.scql_model.proofs.Depths.{depth_of-table, depth_of-view, depth_of-too_deep, depth_of-dictionary, depth_of-most}
use Rattle.scql_model.proofs.laws.views.depth_is_one_more_than_the_base_has.Goals as goal

pub returns-clause-table : goal.returns-clause-table
returns-clause-table c = λ objects o columns is kind. depth_of-table objects o is columns kind

pub returns-clause-view : goal.returns-clause-view
returns-clause-view c = λ objects o base depth columns conditions is kind deep less. depth_of-view objects o is base columns conditions kind depth deep less

pub returns-clause-too_deep : goal.returns-clause-too_deep
returns-clause-too_deep c = λ objects o base columns conditions is kind deep. depth_of-too_deep objects o is base columns conditions kind deep

pub returns-clause-dictionary : goal.returns-clause-dictionary
returns-clause-dictionary c = λ objects o subject is kind. depth_of-dictionary objects o is subject kind

pub returns-clause-most : goal.returns-clause-most
returns-clause-most c = depth_of-most
