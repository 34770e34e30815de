-- What is read is within the limits.
use Rattle.std.proofs.Common.{ap, rules, ◌∙◌}
use Rattle.std.specs.List.{list_all}
use Rattle.scql_base.specs.declared.records.Grant.{Grant}
use Rattle.scql_model.specs.Database.{Database}
use Rattle.scql_model.specs.Records.{grant_record}
use Rattle.plain_image.proofs.Limits.{all-put}
use Rattle.plain_image.proofs.filling.put_grant.Goals as goal

pub returns-in_ok-put_grant-in-Some : goal.returns-in_ok-put_grant-in-Some
returns-in_ok-put_grant-in-Some c = record {
  known = search rules;
  put = search rules;
  limits = λ all. ap (λ (db : Database). list_all grant_record.fits db.grants) c.in_ok-put_grant-in-Some.ensures.put
      ∙ all-put grant_record.fits (λ (x : Grant). x.stamp) c.in-Some.grant c.args.database.now.grants (c.in-Some.ensures.found.0) all;
}
