-- Its octets are read as a row.
use Rattle.std.proofs.Common.{◌≡◌, None, option_map, rules, ap, ◌∙◌}
use Rattle.row_index.specs.Places.{place_of}
use Rattle.card.proofs.SpelledKinds.{place-spelled}
use Rattle.card.proofs.spelled_record.SpelledRecord.place.Goals as goal

pub returns-in_err-row : goal.returns-in_err-row
returns-in_err-row c =
    let none : c.from_residual.result ≡ None = search rules in
    none ∙ ap (option_map (place_of c.self.inside.slot)) c.in_err-row.ensures.value ∙ place-spelled c.self.inside.slot c.self.inside.octets.now c.args.self.now c.self.invariant.0 c.self.view_is
