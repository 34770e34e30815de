-- What is read is within the limits.
use Rattle.std.proofs.Common.{ap, rules, ◌∙◌}
use Rattle.std.specs.List.{list_all}
use Rattle.scql_base.specs.declared.records.Object.{Object}
use Rattle.scql_model.specs.Database.{Database}
use Rattle.scql_model.specs.Records.{object_fits}
use Rattle.plain_image.proofs.Limits.{all-put}
use Rattle.plain_image.proofs.filling.put_object.Goals as goal

pub returns-in_ok-put_object-in-Some : goal.returns-in_ok-put_object-in-Some
returns-in_ok-put_object-in-Some c = record {
  known = search rules;
  put = search rules;
  limits = λ all. ap (λ (db : Database). list_all object_fits db.objects) c.in_ok-put_object-in-Some.ensures.put
      ∙ all-put object_fits (λ (x : Object). x.stamp) c.in-Some.object c.args.database.now.objects (c.in-Some.ensures.found.0) all;
}
