use Rattle.std.proofs.Common.{◌∙◌, ap, length}
use Rattle.scql_base.specs.Row.{row_size}
use Rattle.scql_base.specs.Strings.{strings_of}
use Rattle.scql_base.proofs.RowOctets.{row_size-spelled}
use Rattle.scql_base.proofs.row.Row.size.Goals as goal

pub returns : goal.returns
returns c =
    c.len.ensures.value ∙ (ap length c.self.invariant.1 ∙ (row_size-spelled (strings_of c.self.inside.octets.items) ∙ ap row_size c.self.view_is))
