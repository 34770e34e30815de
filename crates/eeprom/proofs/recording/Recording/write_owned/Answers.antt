use Rattle.std.proofs.Common.{◌∙◌, rules}
use Rattle.eeprom.specs.declared.recording.Written.{Written}
use Rattle.eeprom.specs.declared.recording.Event.TheVariants.{Write}
use Rattle.eeprom.proofs.Replayed.{behind, written_back, replays-more, fits-more, tells-written}
use Rattle.eeprom.proofs.recording.Recording.write_owned.Goals as goal

pub invariant_of-self-2 : goal.invariant_of-self-2
invariant_of-self-2 c =
    let first = c.args.self.now.first.items in
    let image = c.args.self.now.image.items in
    let events = c.args.self.now.events.items in
    let w : Written = record { at = c.args.at; octets = c.args.octets; mark = c.len.result } in
    let more = behind events c.reserve.new.self.items c.push_reserved.new.self.items (Write w) c.reserve.ensures.items c.push_reserved.ensures.items in
    record {
      replays = replays-more first image _ events c.push_reserved.new.self.items w c.args.self.now.replays
          (written_back image c.deref_mut.result.now c.write_over.new.image c.args.octets.items c.deref.result.now c.args.self.now.image.len c.args.at c.args.self.now.image.ok.0 c.deref_mut.ensures.value c.deref.ensures.value c.write_over.ensures c.requires)
          more;
      fits = fits-more first image events c.push_reserved.new.self.items w c.args.self.now.replays c.args.self.now.fits c.requires more;
    }

pub returns : goal.returns
returns c =
    let image = c.args.self.now.image.items in
    let events = c.args.self.now.events.items in
    let w : Written = record { at = c.args.at; octets = c.args.octets; mark = c.len.result } in
    let more = behind events c.reserve.new.self.items c.push_reserved.new.self.items (Write w) c.reserve.ensures.items c.push_reserved.ensures.items in
    record {
      ok = tells-written c.args.self.now.first.items image _ c.args.self.now.output.items events c.push_reserved.new.self.items w c.args.self.now.replays (c.len.ensures ∙ c.args.self.now.output.ok.0)
          (written_back image c.deref_mut.result.now c.write_over.new.image c.args.octets.items c.deref.result.now c.args.self.now.image.len c.args.at c.args.self.now.image.ok.0 c.deref_mut.ensures.value c.deref.ensures.value c.write_over.ensures c.requires)
          more;
      err = search rules;
    }
