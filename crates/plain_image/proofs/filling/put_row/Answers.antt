-- What is read is within the limits.
use Rattle.std.proofs.Common.{ap, rules, ◌∙◌}
use Rattle.std.specs.List.{list_all}
use Rattle.scql_base.specs.declared.records.RowRecord.{RowRecord}
use Rattle.scql_model.specs.Database.{Database}
use Rattle.scql_model.specs.Records.{row_record}
use Rattle.plain_image.proofs.Limits.{all-put}
use Rattle.plain_image.proofs.filling.put_row.Goals as goal

pub returns-in_ok-put_row-in-Some : goal.returns-in_ok-put_row-in-Some
returns-in_ok-put_row-in-Some c = record {
  known = search rules;
  put = search rules;
  limits = λ all. ap (λ (db : Database). list_all row_record.fits db.rows) c.in_ok-put_row-in-Some.ensures.put
      ∙ all-put row_record.fits (λ (x : RowRecord). x.stamp) c.in-Some.row c.args.database.now.rows (c.in-Some.ensures.found.0) all;
}
