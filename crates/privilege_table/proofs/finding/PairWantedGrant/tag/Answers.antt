-- The tag of a grant's record is that of its object and its grantee.
use Rattle.std.proofs.Common.{◌≡◌, ℕ, true, sym, subst}
use Rattle.record_store.specs.Tags.{is_tagged}
use Rattle.record_store.specs.declared.tags.Tag.TheVariants.{Name}
use Rattle.record_table.specs.TagLaws.{paired-grants}
use Rattle.privilege_table.proofs.finding.PairWantedGrant.tag.Goals as goal

pub returns-clause-right : goal.returns-clause-right
returns-clause-right c = λ octets grant read is.
    subst (λ (tag : ℕ). is_tagged (Name tag) octets ≡ true) (sym c.pair_tag.ensures) (paired-grants c.args.self.now.object c.args.self.now.grantee octets grant read is)
