-- What a person is shown of a run over a rack: which reader is current before each line.
use Rattle.std.specs.Prelude.{ℕ, ◌+◌, List, [], ◌∷◌, ◌++◌, Option, codes}
use Rattle.rack_run.specs.Carrying.{own_statement, selected_by}

-- the digit of the current reader's number, and a mark behind it
abbrev pub prompt : ℕ → List ℕ
prompt current = (0x30 + current) ∷ codes "> "

-- the reader that is current behind lines
abbrev pub current_after : ℕ → List (Option (List ℕ)) → ℕ
current_after current [] = current
current_after current (line ∷ lines) = current_after (selected_by (own_statement line) current) lines

-- a prompt behind each line
abbrev pub prompts_behind : ℕ → List (Option (List ℕ)) → List ℕ
prompts_behind current [] = []
prompts_behind current (line ∷ lines) = prompt (selected_by (own_statement line) current) ++ prompts_behind (selected_by (own_statement line) current) lines

-- and one before the first line
abbrev pub prompts : ℕ → List (Option (List ℕ)) → List ℕ
prompts current lines = prompt current ++ prompts_behind current lines
