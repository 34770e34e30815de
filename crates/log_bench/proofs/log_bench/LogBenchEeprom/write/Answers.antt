use Rattle.std.proofs.Common.{◌∙◌, ◌+◌, [], ◌∷◌, ◌++◌, ap, refl, rules, length, slice_range, ℕ, List}
use Rattle.eeprom.proofs.PutBack.{written_over}
use Rattle.log_bench.specs.LogBench.{image_of, log_of, first_of}
use Rattle.log_bench.specs.Writes.{Write}
use Rattle.log_bench.proofs.Logged.{first-logged, replays-logged, fits-logged, writes-logged, writes-nothing}
use Rattle.log_bench.proofs.log_bench.LogBenchEeprom.write.Goals as goal

pub returns-in-Err : goal.returns-in-Err
returns-in-Err c =
    let was = c.args.self.now in
    let same = c.in-Err.ensures.err in
    record {
      logged = search rules;
      fits = search rules;
      wanting = search rules;
      writes = record {
        written = search rules;
        writes = writes-nothing (image_of was) (first_of was) c.args.from.now (log_of was) _ c.args.at was.octets_written c.saturating_add-self.result c.requires same refl c.saturating_add-self.ensures;
        read = search rules;
        cause = search rules;
      };
    }

pub invariant_of-self : goal.invariant_of-self
invariant_of-self c =
    let was = c.args.self.now in
    let octets = c.args.from.now in
    let image = written_over was.image was.image c.args.at octets c.deref_mut.result.now c.write_over.new.image refl c.deref_mut.ensures.value c.write_over.ensures c.requires in
    let log = c.in-Ok.ensures.ok ∙ ap (λ (image : List ℕ). (let xs : List Write = log_of was ++ record { at = c.args.at; octets = octets; replaced = slice_range image c.args.at (c.args.at + length octets) } ∷ [] in xs)) c.deref.ensures.value in
    record {
      fits = fits-logged (log_of was) _ (image_of was) _ octets c.args.at was.fits was.replays c.requires image log;
      replays = replays-logged (log_of was) _ (image_of was) _ octets c.args.at was.replays c.requires image log;
    }

pub returns-in-Ok : goal.returns-in-Ok
returns-in-Ok c =
    let was = c.args.self.now in
    let octets = c.args.from.now in
    let image = written_over was.image was.image c.args.at octets c.deref_mut.result.now c.write_over.new.image refl c.deref_mut.ensures.value c.write_over.ensures c.requires in
    let log = c.in-Ok.ensures.ok ∙ ap (λ (image : List ℕ). (let xs : List Write = log_of was ++ record { at = c.args.at; octets = octets; replaced = slice_range image c.args.at (c.args.at + length octets) } ∷ [] in xs)) c.deref.ensures.value in
    let first = first-logged (log_of was) _ (image_of was) _ octets c.args.at c.requires image log in
    let w : Write = record { at = c.args.at; octets = octets; replaced = slice_range (image_of was) c.args.at (c.args.at + length octets) } in
    record {
      logged = record { image = image; log = log; first = first };
      fits = search rules;
      wanting = search rules;
      writes = record {
        written = search rules;
        writes = writes-logged (image_of was) _ (first_of was) _ (log_of was) _ w was.octets_written c.saturating_add-self.result c.requires image log first was.replays c.saturating_add-self.ensures;
        read = search rules;
        cause = search rules;
      };
    }
