-- Languages of lines joined as one, so that power cycles in different ones are one life.
use Rattle.scql_model.specs.Lines.{Effect, Language}

-- what a line of one of the languages does, as one of all
abbrev pub effect_in : {I : Type 0} {S : I → Type 0} (i : I) → Effect (S i) → Effect ((i : I) × S i)
effect_in i does = record { text = does.text; next = (i, does.next); commits = does.commits; faulty = does.faulty }

-- a state is one of some language, and lines are that one's
abbrev pub joined_lines : {I : Type 0} {S : I → Type 0} → ((i : I) → Language (S i)) → Language ((i : I) × S i)
joined_lines languages = record {
  machine = λ state. (languages state.0).machine state.1;
  effect = λ state line. effect_in state.0 ((languages state.0).effect state.1 line);
}
