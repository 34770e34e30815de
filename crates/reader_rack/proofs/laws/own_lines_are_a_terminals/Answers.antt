use Rattle.reader_rack.proofs.Owned.{own-lines, run-text}
use Rattle.reader_rack.proofs.laws.own_lines_are_a_terminals.Goals as goal

pub returns-clause-own : goal.returns-clause-own
returns-clause-own c = λ number rack state turns holds sound. own-lines number turns rack state holds sound

pub returns-clause-terminal : goal.returns-clause-terminal
returns-clause-terminal c = λ state lines. run-text lines state
