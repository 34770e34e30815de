-- The tag of a user's record is that of its name.
use Rattle.std.proofs.Common.{◌≡◌, ℕ, true, sym, ap, ◌∙◌, subst}
use Rattle.record_store.specs.Tags.{is_tagged, name_tag}
use Rattle.record_store.specs.declared.tags.Tag.TheVariants.{Name}
use Rattle.record_table.specs.TagLaws.{named-users}
use Rattle.user_table.proofs.finding.NamedWantedUser.tag.Goals as goal

pub returns-clause-right : goal.returns-clause-right
returns-clause-right c = λ octets user read is.
    subst (λ (tag : ℕ). is_tagged (Name tag) octets ≡ true) (sym (c.name_tag.ensures ∙ ap name_tag c.octets.ensures.octets)) (named-users c.args.self.now.0 octets user read is)
