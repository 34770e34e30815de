-- What the rules of the grammar read: names.
use Rattle.std.proofs.Common.{ℕ, ◌≤◌, List, [], ◌∷◌, ◌++◌, length, Bool, true, false, IfSome, if◌then◌else◌, codes, lit≤}
use Rattle.std.specs.List.{AllByRecursion}
use Rattle.scql_base.specs.Name.{IsName}
use Rattle.script.specs.Tokens.{Token}
use Rattle.script.specs.Reading.{Rule, is_end, fault, gives, ◌>>=◌, the}
use Rattle.script.specs.Grammar.{name}
use Rattle.script.proofs.Formed.{RuleGives, Anything, gives-reads, after-reads, bind-reads, the-reads, listed-reads}
use Rattle.script.proofs.PartRules.{name-reads}
use Rattle.query.specs.declared.written.Named.{Named}
use Rattle.query.specs.declared.written.Source.{Source}
use Rattle.query.specs.declared.written.Pair.{Pair}
use Rattle.query.specs.Written.{Written}
use Rattle.query.specs.Grammar as grammar
use Rattle.query.specs.Grammar.{here, named, with_named, columns, source, sources, with_pair, pairs, where_pairs, order_by, query, at_end, whole}
use Rattle.query.proofs.Gaining.{IsNamed, AreNamed, each-added}

here-reads : RuleGives (Anything ℕ) here
unfolding here
here-reads = record { found = λ tokens. tt }

worded : {A : Type 0} (P : A → Type 0) (text : List ℕ) (f : Unit {0} → Rule A) → RuleGives P (f tt) → RuleGives P (the text >>= f)
worded P text f so = bind-reads (Anything (Unit {0})) P (the text) f (the-reads text) (λ sign any. so)

named-reads : RuleGives IsNamed grammar.named
unfolding named
named-reads =
    bind-reads (Anything ℕ) IsNamed here _ here-reads (λ left any. bind-reads IsName IsNamed name _ name-reads (λ object is-object. worded IsNamed (codes ".") _
    (bind-reads IsName IsNamed name _ name-reads (λ column is-column. gives-reads IsNamed (record { object = object; column = column; left = left }) (record { object = is-object; column = is-column })))))

abbrev pub EachNamed : List Named → Type 0
EachNamed columns = AllByRecursion IsNamed columns

columns-reads : RuleGives EachNamed grammar.columns
unfolding columns with_named
columns-reads =
    listed-reads (λ k columns. EachNamed columns) EachNamed 15 (codes ",") grammar.with_named []
    (λ k columns are. bind-reads IsNamed EachNamed grammar.named _ named-reads (λ column is. gives-reads EachNamed (columns ++ column ∷ []) (each-added IsNamed columns column are is)))
    (λ k columns some few are. are) (lit≤ tt) tt

-- an object's name
abbrev pub IsSource : Source → Type 0
IsSource source = IsName source.object

source-reads : RuleGives IsSource grammar.source
unfolding source
source-reads =
    bind-reads (Anything ℕ) IsSource here _ here-reads (λ left any. bind-reads IsName IsSource name _ name-reads (λ object is. gives-reads IsSource (record { object = object; left = left }) is))

-- two or three of them
pub record AreSources (sources : List Source) : Type 0 where
  pub each : AllByRecursion IsSource sources
  pub some : 2 ≤ length sources
  pub few : length sources ≤ 3

sources-reads : RuleGives AreSources grammar.sources
unfolding sources
sources-reads =
    bind-reads IsSource AreSources grammar.source _ source-reads (λ first is-first. worded AreSources (codes ",") _ (bind-reads IsSource AreSources grammar.source _ source-reads (λ second is-second.
    after-reads AreSources (codes ",") (grammar.source >>= λ third. gives (first ∷ second ∷ third ∷ [])) (gives (first ∷ second ∷ []))
    (bind-reads IsSource AreSources grammar.source _ source-reads (λ third is-third.
    gives-reads AreSources (first ∷ second ∷ third ∷ []) (record { each = (is-first, (is-second, (is-third, tt))); some = lit≤ tt; few = lit≤ tt })))
    (gives-reads AreSources (first ∷ second ∷ []) (record { each = (is-first, (is-second, tt)); some = lit≤ tt; few = lit≤ tt })))))

abbrev pub EachPair : List Pair → Type 0
EachPair pairs = AllByRecursion AreNamed pairs

pairs-reads : RuleGives EachPair grammar.pairs
unfolding pairs with_pair
pairs-reads =
    listed-reads (λ k pairs. EachPair pairs) EachPair 8 (codes "AND") grammar.with_pair []
    (λ k pairs are. bind-reads IsNamed EachPair grammar.named _ named-reads (λ first is-first. worded EachPair (codes "=") _ (bind-reads IsNamed EachPair grammar.named _ named-reads (λ second is-second.
    gives-reads EachPair (pairs ++ record { first = first; second = second } ∷ []) (each-added AreNamed pairs (record { first = first; second = second }) are (record { first = is-first; second = is-second }))))))
    (λ k pairs some few are. are) (lit≤ tt) tt

where_pairs-reads : RuleGives EachPair grammar.where_pairs
unfolding where_pairs
where_pairs-reads = after-reads EachPair (codes "WHERE") grammar.pairs (gives []) pairs-reads (gives-reads EachPair [] tt)

order_by-reads : RuleGives EachNamed grammar.order_by
unfolding order_by
order_by-reads =
    after-reads EachNamed (codes "ORDER") (the (codes "BY") >>= λ _. grammar.columns) (gives []) (worded EachNamed (codes "BY") _ columns-reads) (gives-reads EachNamed [] tt)

-- Each name of a written query is one, and two or three objects stand in FROM.
pub record IsNamedQuery (written : Written) : Type 0 where
  pub selected : EachNamed written.selected
  pub sources : AreSources written.sources
  pub pairs : EachPair written.pairs
  pub order : EachNamed written.order

query-reads : RuleGives IsNamedQuery grammar.query
unfolding query
query-reads =
    worded IsNamedQuery (codes "SELECT") _ (bind-reads EachNamed IsNamedQuery grammar.columns _ columns-reads (λ selected are-selected. worded IsNamedQuery (codes "FROM") _
    (bind-reads AreSources IsNamedQuery grammar.sources _ sources-reads (λ sources are-sources. bind-reads EachPair IsNamedQuery grammar.where_pairs _ where_pairs-reads (λ pairs are-pairs.
    bind-reads EachNamed IsNamedQuery grammar.order_by _ order_by-reads (λ order are-order. gives-reads IsNamedQuery (record { selected = selected; sources = sources; pairs = pairs; order = order })
    (record { selected = are-selected; sources = are-sources; pairs = are-pairs; order = are-order })))))))

at_end-reads : (written : Written) → IsNamedQuery written → RuleGives IsNamedQuery (grammar.at_end written)
unfolding at_end
at_end-reads written is = record { found = λ tokens. go (is_end tokens) tokens }
  where
    go : (end : Bool) (tokens : List Token) → IfSome (if end then gives written tokens else fault tokens).0 IsNamedQuery
    go true tokens = is
    go false tokens = tt

pub whole-reads : RuleGives IsNamedQuery grammar.whole
unfolding whole
whole-reads =
    bind-reads IsNamedQuery IsNamedQuery grammar.query _ query-reads
    (λ written is. after-reads IsNamedQuery (codes ";") (grammar.at_end written) (grammar.at_end written) (at_end-reads written is) (at_end-reads written is))
