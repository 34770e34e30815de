use Rattle.std.proofs.Common.{◌≡◌, Some, sym, ◌∙◌, rules}
use Rattle.scql_base.specs.declared.operation.Operation.TheVariants.{Insert}
use Rattle.scql_model.specs.Machine.{actor}
use Rattle.script.specs.Commands.{asking}
use Rattle.card_asking.proofs.Moments.{leaves-all}
use Rattle.table_copy.specs.Copy.{row_copied}
use Rattle.table_copy.specs.Filling.{InsertsSo}
use Rattle.card_asking.proofs.Moments.{one-alone}
use Rattle.table_copy.proofs.Ending.{unless-dest_mute}
use Rattle.table_copy.proofs.Transacting.{filling-after, insert-silent, inserts-so}
use Rattle.table_copy.proofs.dest.insert.Goals as goal

pub returns-in-Some : goal.returns-in-Some
returns-in-Some g c = record {
  inserts = λ d db row copies octets form.
      let found : Some c.in-Some.command ≡ Some (asking 0 (Insert c.args.table.now row)) = sym c.in-Some.is ∙ c.insertion.ensures.row row octets form in
      let same : c.in-Some.command ≡ asking 0 (Insert c.args.table.now row) = cc in
      unless-dest_mute (λ r. InsertsSo g.L.CardLink.is_at d db (row_copied d.committed.limit (actor d 0) c.args.table.now db row) r c.put.new.dest) c.put.result tt (λ heard.
      inserts-so d db copies.machine copies.copies c.args.table.now row (rw same at c.in-Some.ensures.inserts.sendable) g.L.CardLink.is_at c.put.new.reply c.put.result c.put.new.dest
      (((rw same at c.put.ensures.answers) copies.machine copies.at).comes heard) (c.put.ensures.done heard));
  fills = λ d filling.
      let inserts = c.in-Some.ensures.inserts in
      let copies = filling.copies in
      record {
        fills = λ heard.
            filling-after g.L.CardLink.is_at d filling.db _ c.put.result c.put.new.dest
            (inserts-so d filling.db copies.machine copies.copies c.args.table.now inserts.row (rw inserts.is at inserts.sendable) g.L.CardLink.is_at c.put.new.reply c.put.result c.put.new.dest
            (((rw inserts.is at c.put.ensures.answers) copies.machine copies.at).comes heard) (c.put.ensures.done heard))
            heard;
        moments =
            leaves-all g.L.CardLink.chip _ _ c.args.dest.now c.put.new.dest
            (λ n left is. one-alone (g.L.CardLink.mark c.args.dest.now) copies.machine.committed d.committed _ n left
            (insert-silent d filling.db copies.machine copies.copies c.args.table.now inserts.row (rw inserts.is at inserts.sendable)) copies.copies.committed is)
            ((rw inserts.is at c.put.ensures.answers) copies.machine copies.at).moments;
      };
  leaves = search rules;
}
