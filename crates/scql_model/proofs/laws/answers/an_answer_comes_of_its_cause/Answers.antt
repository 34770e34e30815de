use Rattle.scql_model.proofs.AnswerWords.{step-comes_to_end, end-step, step-compares_wrong, try-step}
use Rattle.scql_model.proofs.laws.answers.an_answer_comes_of_its_cause.Goals as goal

pub returns-clause-at_its_end : goal.returns-clause-at_its_end
returns-clause-at_its_end c = λ m octets. (step-comes_to_end m octets, end-step m octets)

pub returns-clause-costs_a_try : goal.returns-clause-costs_a_try
returns-clause-costs_a_try c = λ m octets. (step-compares_wrong m octets, try-step m octets)
