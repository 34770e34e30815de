-- The language of statements: a line ends at the last database that it commits, and what has no text commits nothing.
use Rattle.std.proofs.Common.{◌≡◌, ◌⊎◌, ℕ, ◌≤◌, Bool, true, false, List, [], ◌∷◌, ◌++◌, length, map, Option, Some, None, Result, Ok, Err, if◌then◌else◌, refl, ◌∙◌, ap, inl, inr, arith, length-append, codes}
use Rattle.std.specs.List.{concat}
use Rattle.std.specs.Fmt.{decimal}
use Rattle.hex.specs.Hex.{encode_upper}
use Rattle.scql_base.specs.declared.words.StatusWord.{StatusWord}
use Rattle.scql_base.specs.declared.operation.Command.{Command}
use Rattle.scql_base.specs.declared.operation.Operation.TheVariants.{OpenChannel, CloseChannel}
use Rattle.scql_model.specs.Database.{Database}
use Rattle.scql_model.specs.Heard.{IsLawful, after_commits}
use Rattle.scql_model.specs.Machine.{Machine}
use Rattle.scql_model.specs.Spelling.{part_octets}
use Rattle.scql_model.specs.Step.{step}
use Rattle.scql_model.proofs.LastCommits.{last-step}
use Rattle.script.specs.declared.fault.ScriptFault.{ScriptFault}
use Rattle.script.specs.declared.statement.Statement.{Statement}
use Rattle.script.specs.declared.statement.Statement.TheVariants.{Blank, Single, OpenNumber, CloseNumber, UseNumber, Reset}
use Rattle.script.specs.Commands.{asking}
use Rattle.script.specs.Line.{statement_of}
use Rattle.planner.specs.declared.closing.Closing.{Closing}
use Rattle.planner.specs.declared.closing.Closing.TheVariants.{Nothing, Fine, Rows, Cut, Refused}
use Rattle.planner.specs.Words.{is_refusal}
use Rattle.planner.specs.Meaning.{Meaning, answer_to, meaning}
use Rattle.planner.specs.Text.{row_text, word_octets, closing_text, meaning_text}
use Rattle.planner.specs.StatementLines.{TerminalState, read_effect, statement_effect, statement_lines}
use Rattle.planner.proofs.InTurn.{answer-holds}
use Rattle.planner.proofs.OfRows.{HoldsOfRows, of-rows}

-- the database after all of some commits
abbrev pub after_all : Database → List Database → Database
after_all db commits = after_commits db commits (length commits)

pub after-append : (db : Database) (xs ys : List Database) → after_all db (xs ++ ys) ≡ after_all (after_all db xs) ys
after-append db [] ys = refl
after-append db (x ∷ xs) ys = after-append x xs ys

-- The database after a command is the last that it committed.
pub last-answer : (m : Machine) (c : Command) → after_all m.committed (answer_to m c).commits ≡ (answer_to m c).machine.committed
last-answer m c =
    answer-holds (λ n answer. after_all n.committed answer.commits ≡ answer.machine.committed) c (λ n place. last-step n (part_octets c place)) (λ n place next last.
    after-append n.committed (step n (part_octets c place)).commits next.commits ∙ (ap (λ (db : Database). after_all db next.commits) (last-step n (part_octets c place)) ∙ last)) m

-- So it is after a statement.
abbrev IsLast : Machine → Meaning → Type 0
IsLast m x = after_all m.committed x.commits ≡ x.machine.committed

last-rows : (m : Machine) (channel : ℕ) → HoldsOfRows (IsLast m) m channel
last-rows m channel = record {
  closed = refl;
  refused = λ word. refl;
  selected = λ d. refl;
  inside = λ operation t d is. refl;
  rolled = λ word. refl;
  committed = λ operation d none. refl;
}

pub last-meaning : (m : Machine) (channel : ℕ) (s : Statement) → IsLast m (meaning m channel s)
unfolding meaning
last-meaning m channel Blank = refl
last-meaning m channel (Single operation) = last-answer m (asking channel operation)
last-meaning m channel (OpenNumber number) = last-answer m (asking 0 (OpenChannel number))
last-meaning m channel (CloseNumber number) = last-answer m (asking 0 (CloseChannel number))
last-meaning m channel (UseNumber number) = refl
last-meaning m channel Reset = refl
last-meaning m channel s = of-rows (IsLast m) m channel (last-rows m channel) s tt

-- What has no closing line commits nothing.
abbrev IsSaid : Closing → Type 0
IsSaid Nothing = ⊥
IsSaid closing = Unit {0}

abbrev IsSilent : Meaning → Type 0
IsSilent x = (x.commits ≡ []) ⊎ IsSaid x.closing

said-single : (word : StatusWord) → IsSaid (if is_refusal word then Refused word else Fine)
said-single word = go (is_refusal word)
  where
    go : (b : Bool) → IsSaid (if b then Refused word else Fine)
    go true = tt
    go false = tt

silent-rows : (m : Machine) (channel : ℕ) → HoldsOfRows IsSilent m channel
silent-rows m channel = record {
  closed = inr tt;
  refused = λ word. inr tt;
  selected = λ d. inr tt;
  inside = λ operation t d is. inl refl;
  rolled = λ word. inr tt;
  committed = λ operation d none. inr tt;
}

silent-meaning : (m : Machine) (channel : ℕ) (s : Statement) → IsSilent (meaning m channel s)
unfolding meaning
silent-meaning m channel Blank = inl refl
silent-meaning m channel (Single operation) = inr (said-single (answer_to m (asking channel operation)).reply.word)
silent-meaning m channel (OpenNumber number) = inr (said-single (answer_to m (asking 0 (OpenChannel number))).reply.word)
silent-meaning m channel (CloseNumber number) = inr (said-single (answer_to m (asking 0 (CloseChannel number))).reply.word)
silent-meaning m channel (UseNumber number) = inl refl
silent-meaning m channel Reset = inl refl
silent-meaning m channel s = of-rows IsSilent m channel (silent-rows m channel) s tt

said-closing : (closing : Closing) → IsSaid closing → 1 ≤ length (closing_text closing)
said-closing Nothing said = absurd said
said-closing Fine said = omega arith
said-closing (Rows number) said = omega (arith, length-append (codes "rows ") (decimal number ++ codes "\n"))
said-closing (Cut number) said = omega (arith, length-append (codes "rows ") (decimal number ++ codes "\n"))
said-closing (Refused word) said = omega (arith, length-append (codes "refused ") (encode_upper (word_octets word) ++ codes "\n"))

silent-text : (x : Meaning) → IsSilent x → length (meaning_text x) ≡ 0 → length x.commits ≡ 0
silent-text x (inl none) empty = ap length none
silent-text x (inr said) empty = absurd (omega (arith, said-closing x.closing said, length-append (concat (map row_text x.rows)) (closing_text x.closing), empty))

last-read : (state : TerminalState) (r : Result Statement ScriptFault) → (let does = read_effect state r in after_all state.machine.committed does.commits ≡ does.next.machine.committed)
last-read state (Err fault) = refl
last-read state (Ok s) = last-meaning state.machine state.channel s

silent-read : (state : TerminalState) (r : Result Statement ScriptFault) → (let does = read_effect state r in length does.text ≡ 0 → length does.commits ≡ 0)
silent-read state (Err fault) none = refl
silent-read state (Ok s) none = silent-text (meaning state.machine state.channel s) (silent-meaning state.machine state.channel s) none

last-line : (state : TerminalState) (line : Option (List ℕ)) → (let does = statement_effect state line in after_all state.machine.committed does.commits ≡ does.next.machine.committed)
last-line state None = refl
last-line state (Some line) = last-read state (statement_of line)

silent-line : (state : TerminalState) (line : Option (List ℕ)) → (let does = statement_effect state line in length does.text ≡ 0 → length does.commits ≡ 0)
silent-line state None none = refl
silent-line state (Some line) none = silent-read state (statement_of line) none

pub statements-lawful : IsLawful statement_lines
statements-lawful = record {
  last = λ state line. last-line state line;
  silent = λ state line. silent-line state line;
}
