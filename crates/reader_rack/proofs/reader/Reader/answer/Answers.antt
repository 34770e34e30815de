use Rattle.std.proofs.Common.{false, Option, sym, ◌∙◌, ap}
use Rattle.std.specs.Option.{option_map_or}
use Rattle.reader_rack.specs.declared.reader.Reader.{Reader}
use Rattle.reader_rack.proofs.Lined.{reader-unheard}
use Rattle.reader_rack.proofs.reader.Reader.answer.Goals.{in_default-via-in-Some+else-live, in_default-via-in_default}
use Rattle.reader_rack.proofs.reader.Reader.answer.Goals as goal

pub returns-in_default-clause-ends : goal.returns-in_default-clause-ends
returns-in_default-clause-ends g c =
    let with : Option g.row.L.Denot → Reader g.row.L.Denot = λ link. record { link = link; aside = c.args.self.now.aside; terminal = c.args.self.now.terminal } in
    elim c.in_default.branch [
      | in_default-via-in-Some+else-live w ↦ reader-unheard g.L.CardLink.is_at g.L.CardLink.is_live c.args.line.octets.now c.args.self.now c.in_default.self c.answer_unheard.result _ _
          (w.self-is ∙ ap with (sym w.in-Some.is))
          (ap (λ (link : Option g.row.L.Denot). option_map_or g.L.CardLink.is_live link false) w.in-Some.is ∙ (sym w.live.ensures ∙ w.if-live.false))
          c.answer_unheard.ensures.ends
      | in_default-via-in_default w ↦ reader-unheard g.L.CardLink.is_at g.L.CardLink.is_live c.args.line.octets.now c.args.self.now c.in_default.self c.answer_unheard.result _ _
          w.self-is
          (ap (λ (link : Option g.row.L.Denot). option_map_or g.L.CardLink.is_live link false) w.in_default.is)
          c.answer_unheard.ensures.ends
    ]
