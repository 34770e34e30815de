use Rattle.std.proofs.Common.{ap, sym, ◌∙◌, rules}
use Rattle.eeprom.specs.Recorded.{replayed}
use Rattle.eeprom.specs.declared.recording.Event.TheVariants.{Give}
use Rattle.eeprom.proofs.Replayed.{behind, replays-given, fits-given, tells-given}
use Rattle.eeprom.proofs.recording.Recording.give.Goals as goal

pub invariant_of-self-2 : goal.invariant_of-self-2
invariant_of-self-2 c =
    let first = c.args.self.now.first.items in
    let events = c.args.self.now.events.items in
    let more = behind events c.reserve.new.self.items c.push_reserved.new.self.items (Give c.len-from.result c.len.result) c.reserve.ensures.items c.push_reserved.ensures.items in
    record {
      replays = replays-given first c.args.self.now.image.items events c.len-from.result c.len.result c.args.self.now.replays ∙ ap (replayed first) (sym more);
      fits = fits-given _ events c.push_reserved.new.self.items c.len-from.result c.len.result c.args.self.now.fits more;
    }

pub returns : goal.returns
returns c =
    let events = c.args.self.now.events.items in
    let more = behind events c.reserve.new.self.items c.push_reserved.new.self.items (Give c.len-from.result c.len.result) c.reserve.ensures.items c.push_reserved.ensures.items in
    record {
      ok = tells-given c.args.self.now.first.items c.args.self.now.image.items c.args.self.now.output.items c.extend_from_slice.new.self.items c.args.octets.now events c.push_reserved.new.self.items c.len-from.result c.len.result
          c.args.self.now.replays (c.len-from.ensures ∙ c.args.self.now.output.ok.0) (c.len.ensures ∙ c.extend_from_slice.new.self.ok.0) c.in_ok-extend_from_slice.ensures.items more;
      err = search rules;
    }
