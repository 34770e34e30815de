-- Each command of the statement that a line is can be sent.
use Rattle.std.proofs.Common.{◌≡◌, ℕ, Bool, true, false, List, Option, Some, None, Ok, Err, IfSome, IfOk, if◌then◌else◌, refl, codes}
use Rattle.script.specs.declared.fault.ScriptFault.TheVariants.{TooLarge}
use Rattle.script.specs.declared.statement.Statement.{Statement}
use Rattle.script.specs.declared.statement.Statement.TheVariants.{Blank}
use Rattle.script.specs.Tokens.{Token, after_blanks, tokens_of}
use Rattle.script.specs.Reading.{is_end, gives, fault}
use Rattle.script.specs.Grammar as grammar
use Rattle.script.specs.Grammar.{at_end, whole}
use Rattle.script.specs.Sizes.{is_too_large}
use Rattle.script.specs.Line.{is_nothing, judged, statement_of}
use Rattle.script.specs.Commands.{CanAlwaysBeSent}
use Rattle.script.proofs.Formed.{RuleGives, after-reads, bind-reads}
use Rattle.script.proofs.Sendable.{IsFormed, formed-sent}
use Rattle.script.proofs.StatementRules.{statement-lawful}

at_end-reads : (s : Statement) → IsFormed s → RuleGives IsFormed (grammar.at_end s)
unfolding at_end
at_end-reads s is = record { found = λ tokens. go tokens (is_end tokens) }
  where
    go : (tokens : List Token) (ended : Bool) → IfSome (if ended then gives s tokens else fault tokens).0 IsFormed
    go tokens true = is
    go tokens false = tt

pub whole-reads : RuleGives IsFormed grammar.whole
unfolding whole
whole-reads =
    bind-reads IsFormed IsFormed grammar.statement _ statement-lawful.reads
    (λ s is. after-reads IsFormed (codes ";") (grammar.at_end s) (grammar.at_end s) (at_end-reads s is) (at_end-reads s is))

pub statement_of-sent : (line : List ℕ) → IfOk (statement_of line) CanAlwaysBeSent
statement_of-sent line = go (is_nothing (after_blanks line)) (grammar.whole (tokens_of line)).0 (grammar.whole (tokens_of line)).1 (whole-reads.found (tokens_of line))
  where
    small : (s : Statement) (large : Bool) → is_too_large s ≡ large → IsFormed s → IfOk (if large then Err TooLarge else Ok s) CanAlwaysBeSent
    small s true is form = tt
    small s false is form = λ channel few. formed-sent channel s few form is

    read : (s : Option Statement) (rest : List Token) → IfSome s IsFormed → IfOk (judged line s rest) CanAlwaysBeSent
    read None rest form = tt
    read (Some s) rest form = small s (is_too_large s) refl form

    go : (nothing : Bool) (s : Option Statement) (rest : List Token) → IfSome s IsFormed → IfOk (if nothing then Ok Blank else judged line s rest) CanAlwaysBeSent
    go true s rest form = λ channel few. formed-sent channel Blank few tt refl
    go false s rest form = read s rest form
