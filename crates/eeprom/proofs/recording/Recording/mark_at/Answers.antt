use Rattle.std.proofs.Common.{◌≡◌, List, [], length, slice_get, sym, ◌∙◌, ap, arith}
use Rattle.std.proofs.lemmas.List.{nil_from_length}
use Rattle.eeprom.specs.declared.recording.Event.{Event}
use Rattle.eeprom.proofs.Replayed.{marks_of, mark_past}
use Rattle.eeprom.proofs.recording.Recording.mark_at.Goals as goal

pub returns : goal.returns
returns c =
    let none : length c.loop-left.left.now ≡ 0 = omega arith in
    let empty : c.loop-left.left.now ≡ [] = nil_from_length _ none in
    sym (mark_past c.args.self.now.first.items c.args.self.now.events.items c.args.write ∙ c.loop-left.invariant ∙ ap (λ (left : List Event). slice_get (marks_of left) c.loop-left.before) empty)
