-- A grant that is told is taken in, and any other passed over.
use Rattle.std.proofs.Common.{refl, sym, ◌∙◌, arith}
use Rattle.catalog_codec.specs.Catalog.{grant_kind}
use Rattle.record_table.proofs.ReadingCosts.{ReadsSide-none, ReadsSide-told}
use Rattle.record_table.proofs.Scan.{nearest-passed, nearest-taken}
use Rattle.dictionaries.specs.Told.{tells_of_grant}
use Rattle.dictionaries.proofs.grants.nearest_told.Goals as goal

pub returns-in_default-clause-nearest : goal.returns-in_default-clause-nearest
returns-in_default-clause-nearest g c = λ db held rest. rw c.in_default.is refl

pub returns-then-branch-clause-nearest : goal.returns-then-branch-clause-nearest
returns-then-branch-clause-nearest g c = λ db held rest.
    rw c.in-Some.is (nearest-taken grant_kind.key c.args.stamp (tells_of_grant db c.args.owner) c.args.nearest c.in-Some.grant _ (sym (c.in_ok-is_told.ensures.told db held) ∙ c.if-branch.true) c.nearer_of.ensures rest)

pub returns-else-branch-clause-nearest : goal.returns-else-branch-clause-nearest
returns-else-branch-clause-nearest g c = λ db held rest.
    rw c.in-Some.is (nearest-passed grant_kind.key c.args.stamp (tells_of_grant db c.args.owner) c.args.nearest c.in-Some.grant (sym (c.in_ok-is_told.ensures.told db held) ∙ c.if-branch.false) rest)

pub returns-in_default-clause-reads : goal.returns-in_default-clause-reads
returns-in_default-clause-reads g c = ReadsSide-none

pub returns-then-branch-clause-reads : goal.returns-then-branch-clause-reads
returns-then-branch-clause-reads g c = ReadsSide-told c.in_ok-is_told.ensures.reads (λ slots. omega arith)

pub returns-else-branch-clause-reads : goal.returns-else-branch-clause-reads
returns-else-branch-clause-reads g c = ReadsSide-told c.in_ok-is_told.ensures.reads (λ slots. omega arith)
