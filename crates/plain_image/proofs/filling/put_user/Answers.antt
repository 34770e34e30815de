-- What is read is within the limits.
use Rattle.std.proofs.Common.{ap, rules, ◌∙◌}
use Rattle.std.specs.List.{list_all}
use Rattle.scql_base.specs.declared.records.User.{User}
use Rattle.scql_model.specs.Database.{Database}
use Rattle.scql_model.specs.Records.{user_record}
use Rattle.plain_image.proofs.Limits.{all-put}
use Rattle.plain_image.proofs.filling.put_user.Goals as goal

pub returns-in_ok-put_user-in-Some : goal.returns-in_ok-put_user-in-Some
returns-in_ok-put_user-in-Some c = record {
  known = search rules;
  put = search rules;
  limits = λ all. ap (λ (db : Database). list_all user_record.fits db.users) c.in_ok-put_user-in-Some.ensures.put
      ∙ all-put user_record.fits (λ (x : User). x.stamp) c.in-Some.user c.args.database.now.users (c.in-Some.ensures.found.0) all;
}
