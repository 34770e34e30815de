use Rattle.scql_model.proofs.AnswerWords.{step-ends, step-costs}
use Rattle.scql_model.proofs.laws.answers.an_answer_says_what_it_changes.Goals as goal

pub returns-clause-at_its_end : goal.returns-clause-at_its_end
returns-clause-at_its_end c = step-ends

pub returns-clause-costs_a_try : goal.returns-clause-costs_a_try
returns-clause-costs_a_try c = step-costs
