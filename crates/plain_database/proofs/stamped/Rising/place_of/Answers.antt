-- The closure gives a record's stamp.
use Rattle.std.proofs.Common.{◌∙◌, rules}
use Rattle.std.proofs.lemmas.List.Sorted.{answers_always}
use Rattle.plain_database.proofs.RisingStamps.{place-searched}
use Rattle.plain_database.proofs.stamped.Rising.place_of.Goals as goal

pub returns-clause-place : goal.returns-clause-place
returns-clause-place g c =
    let facts = c.binary_search_by_key.ensures in
    let by_key = facts.position g.R.Stamped.stamp_of (answers_always _ _ _ (λ f a r h called. search rules)) in
    c.ok.ensures.value ∙ place-searched g.R.Stamped.stamp_of c.args.stamp c.args.self.now.records.now c.binary_search_by_key.result c.args.self.now.rises facts.bound by_key
