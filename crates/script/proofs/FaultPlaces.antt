-- The place of a fault: what stands before it is the beginning of a statement, and with it of none.
use Rattle.std.proofs.Common.{◌≡◌, Bool, true, false, List, [], ◌∷◌, Option, Some, None, refl, ◌∙◌, ap, codes}
use Rattle.script.specs.declared.statement.Statement.{Statement}
use Rattle.script.specs.Tokens.{Token}
use Rattle.script.specs.Reading.{is_end, after}
use Rattle.script.specs.Grammar as grammar
use Rattle.script.specs.Grammar.{at_end, whole}
use Rattle.script.specs.Place.{IsAtFault, IsBegun}
use Rattle.script.proofs.Locality.{Read, IsLocal, turned, taken, is_end-same, after-local, bind-local}
use Rattle.script.proofs.Completing.{Begun, IsCompleted, after-completed}
use Rattle.script.proofs.Sendable.{IsFormed}
use Rattle.script.proofs.StatementRules.{statement-lawful}

at_end-by : (statement : Statement) (tokens : List Token) (end : Bool) → is_end tokens ≡ end
    → Read Statement (grammar.at_end statement) tokens (grammar.at_end statement tokens).0 (grammar.at_end statement tokens).1
unfolding at_end
at_end-by statement tokens true is = turned (grammar.at_end statement) tokens (Some statement) tokens (rw is refl) (record {
  before = [];
  split = refl;
  again = λ others same. let is' = is_end-same others tokens same ∙ is in rw is' refl;
})
at_end-by statement tokens false is = turned (grammar.at_end statement) tokens None tokens (rw is refl) (record {
  before = [];
  split = refl;
  again = λ others same. let is' = is_end-same others tokens same ∙ is in rw is' refl;
})

at_end-local : (statement : Statement) → IsLocal Statement (grammar.at_end statement)
at_end-local statement = record { reads = λ tokens. at_end-by statement tokens (is_end tokens) refl }

at_end-begun : (s : Statement) (tokens rest : List Token) → grammar.at_end s tokens ≡ (None, rest) → Begun (grammar.at_end s) tokens rest
unfolding at_end
at_end-begun s [] rest is =
    let none : Some s ≡ None = ap (λ (p : Option Statement × List Token). p.0) is in absurd (cc)
at_end-begun s (token ∷ tokens) rest is = record { before = []; split = ap (λ (p : Option Statement × List Token). p.1) is; others = []; statement = s; made = refl }

at_end-completed : (s : Statement) → IsCompleted (grammar.at_end s)
unfolding at_end
at_end-completed s = record { others = []; statement = s; made = refl; begun = at_end-begun s }

whole-local : IsLocal Statement grammar.whole
unfolding whole
whole-local =
    bind-local IsFormed _ _ statement-lawful.local statement-lawful.reads
    (λ statement formed. after-local (codes ";") _ _ refl (at_end-local statement) (at_end-local statement))

whole-completed : IsCompleted grammar.whole
unfolding whole
whole-completed =
    statement-lawful.completes.goes_on (λ s. after (codes ";") (grammar.at_end s) (grammar.at_end s))
    (λ s formed. after-completed (codes ";") (grammar.at_end s) (grammar.at_end s) refl refl (at_end-completed s) (at_end-completed s))

pub first_fault : (tokens rest : List Token) → grammar.whole tokens ≡ (None, rest) → IsAtFault tokens rest
first_fault tokens rest is =
    let read = taken grammar.whole tokens None rest is (whole-local.reads tokens) in
    record { before = read.before; split = read.split; never = λ others same. ap (λ (p : Option Statement × List Token). p.0) (read.again others same) }

pub begun_before_fault : (tokens rest : List Token) → grammar.whole tokens ≡ (None, rest) → IsBegun tokens rest
begun_before_fault tokens rest is =
    let b = whole-completed.begun tokens rest is in record { before = b.before; split = b.split; others = b.others; statement = b.statement; made = b.made }
