-- Before the first slot nothing is claimed, and the image begins as a store's.
use Rattle.std.proofs.Common.{◌≡◌, ℕ, ◌*◌, length, replicate, ap, sym, subst, ◌∙◌, arith, rules}
use Rattle.std.proofs.lemmas.List.{length-replicate}
use Rattle.cell_store.specs.Cells.{Cells}
use Rattle.record_store.specs.Opening.{ReadsFront}
use Rattle.record_store.specs.Tags.{Tags}
use Rattle.record_store.specs.Touched.{none_touched}
use Rattle.record_store.proofs.OpeningSlots.{sound-begun, stands-begun}
use Rattle.record_store.proofs.Replaying.{front-read, reads-front, reads-nothing}
use Rattle.record_store.proofs.opening.Opening.new.Goals.{After-close_gate, After-read_directory, In_ok-chains}
use Rattle.record_store.proofs.opening.Opening.new.Goals as goal

pub invariant_of-result : goal.invariant_of-result
invariant_of-result g c =
    let header = c.in_ok-header.header in
    let range = c.in_ok-header.ensures.range in
    let cells = ap (λ (store : Cells). store.cells) c.in_ok-chains.ensures in
    let filled : c.in_ok-first_octets.first_octets.items ≡ replicate (2 * header.cells) 0 = search rules in
    let tags_are = c.in_ok-tags.ensures in
    let copied : c.in_ok-working.working.items ≡ c.in_ok-committed.committed.items = search rules in (
      copied,
      ap (λ (tags : Tags). tags.working) tags_are ∙ sym (ap (λ (tags : Tags). tags.committed) tags_are),
      record { none = c.in_ok-touched.ensures ∙ ap none_touched (sym cells); room_is = omega (arith, cells, c.in_ok-entries.ensures.capacity); searched = c.in_ok-common_runs.ensures ∙ sym cells },
      sound-begun header.cells header.row_limit c.in_ok-committed.committed.items _ _ c.in_ok-chains.chains c.in_ok-chains.ensures range.few range.many range.rows c.in_ok-committed.ensures.count (ap (length {A = ℕ}) filled ∙ length-replicate {A = ℕ} (2 * header.cells) 0)
          (record { names = ap (λ (tags : Tags). length tags.committed.names) tags_are ∙ length-replicate {A = ℕ} header.cells 0; stamps = ap (λ (tags : Tags). length tags.committed.stamps) tags_are ∙ length-replicate {A = ℕ} header.cells 0 }),
    )

cells : (g : _) (c : In_ok-chains g) → c.in_ok-chains.chains.cells ≡ c.in_ok-header.header.cells
cells g c = ap (λ (store : Cells). store.cells) c.in_ok-chains.ensures

-- by then no record was read
front : (g : _) (c : After-read_directory g) → ReadsFront c.in_ok-header.header.cells (g.B.Eeprom.chip c.args.bench.now).image (g.B.Eeprom.octets_read c.args.bench.now) (g.B.Eeprom.octets_read c.read_directory.new.bench)
front g c =
    reads-front c.in_ok-header.header _ (g.B.Eeprom.chip c.args.bench.now).image (g.B.Eeprom.octets_read c.args.bench.now) (g.B.Eeprom.octets_read c.read_header.new.bench) (g.B.Eeprom.octets_read c.close_gate.new.bench)
    (g.B.Eeprom.octets_read c.read_directory.new.bench) c.in_ok-header.ensures.range c.in_ok-header.ensures.header c.read_header.ensures.reads.octets_read c.close_gate.ensures.most_read c.close_gate.ensures.octets_read c.read_directory.ensures.reads.octets_read

pub returns : goal.returns
returns g c = record {
  begins = search rules;
  weight = search rules;
  over =
      let size : (g.B.Eeprom.chip c.read_directory.new.bench).still.size ≡ (g.B.Eeprom.chip c.args.bench.now).still.size =
      ap (λ chip. chip.still.size) c.read_directory.ensures.reads.frame.same ∙ (ap (λ still. still.size) c.close_gate.ensures.frame.store.keeps.still ∙ ap (λ chip. chip.still.size) c.read_header.ensures.reads.frame.same) in record {
        room = omega (arith, cells g c, c.in_ok-header.ensures.range.room, size);
        stands = rw (c.read_directory.ensures.reads.frame.same) (stands-begun c.in_ok-header.header c.in_ok-committed.committed.items _ _ c.in_ok-chains.chains (g.B.Eeprom.chip c.close_gate.new.bench).image c.in_ok-chains.ensures
            c.in_ok-close_gate.ensures.header c.in_ok-committed.ensures.directory);
      };
  told = search rules;
  octets_read =
      front-read c.in_ok-header.header c.in_ok-chains.chains.cells (g.B.Eeprom.chip c.args.bench.now).image (g.B.Eeprom.octets_read c.args.bench.now) (g.B.Eeprom.octets_read c.read_header.new.bench)
      (g.B.Eeprom.octets_read c.close_gate.new.bench) (g.B.Eeprom.octets_read c.read_directory.new.bench) (cells g c) c.in_ok-header.ensures.header c.in_ok-header.ensures.octets_read c.in_ok-close_gate.ensures.octets_read
      c.in_ok-committed.ensures.octets_read;
  reads_front =
      subst (λ (n : ℕ). ReadsFront n (g.B.Eeprom.chip c.args.bench.now).image (g.B.Eeprom.octets_read c.args.bench.now) (g.B.Eeprom.octets_read c.read_directory.new.bench)) (sym (cells g (goal.at.returns g c).In_ok-chains))
      (front g (goal.at.returns g c).After-read_directory);
  most_read = search rules;
  no_memory = search rules;
  not_a_card = search rules;
  frame = search rules;
}

pub returns-in_err-close_gate : goal.returns-in_err-close_gate
returns-in_err-close_gate g c = record {
  begins = search rules;
  weight = search rules;
  over = search rules;
  told = search rules;
  octets_read = search rules;
  reads_front = search rules;
  most_read = search rules;
  no_memory = λ _. (
    c.in_ok-header.header.cells,
    reads-front c.in_ok-header.header _ (g.B.Eeprom.chip c.args.bench.now).image (g.B.Eeprom.octets_read c.args.bench.now) (g.B.Eeprom.octets_read c.read_header.new.bench) (g.B.Eeprom.octets_read c.close_gate.new.bench)
        (g.B.Eeprom.octets_read c.close_gate.new.bench) c.in_ok-header.ensures.range c.in_ok-header.ensures.header c.read_header.ensures.reads.octets_read c.close_gate.ensures.most_read c.close_gate.ensures.octets_read (reads-nothing _ _),
  );
  not_a_card = search rules;
  frame = search rules;
}

pub returns-in_err-committed : goal.returns-in_err-committed
returns-in_err-committed g c = record {
  begins = search rules;
  weight = search rules;
  over = search rules;
  told = search rules;
  octets_read = search rules;
  reads_front = search rules;
  most_read = search rules;
  no_memory = λ _. (c.in_ok-header.header.cells, front g (goal.at.returns-in_err-committed g c).After-read_directory);
  not_a_card = search rules;
  frame = search rules;
}

pub returns-in_err-working : goal.returns-in_err-working
returns-in_err-working g c = record {
  begins = search rules;
  weight = search rules;
  over = search rules;
  told = search rules;
  octets_read = search rules;
  reads_front = search rules;
  most_read = search rules;
  no_memory = λ _. (c.in_ok-header.header.cells, front g (goal.at.returns-in_err-working g c).After-read_directory);
  not_a_card = search rules;
  frame = search rules;
}

pub returns-in_err-first_octets : goal.returns-in_err-first_octets
returns-in_err-first_octets g c = record {
  begins = search rules;
  weight = search rules;
  over = search rules;
  told = search rules;
  octets_read = search rules;
  reads_front = search rules;
  most_read = search rules;
  no_memory = λ _. (c.in_ok-header.header.cells, front g (goal.at.returns-in_err-first_octets g c).After-read_directory);
  not_a_card = search rules;
  frame = search rules;
}

pub returns-in_err-tags : goal.returns-in_err-tags
returns-in_err-tags g c = record {
  begins = search rules;
  weight = search rules;
  over = search rules;
  told = search rules;
  octets_read = search rules;
  reads_front = search rules;
  most_read = search rules;
  no_memory = λ _. (c.in_ok-header.header.cells, front g (goal.at.returns-in_err-tags g c).After-read_directory);
  not_a_card = search rules;
  frame = search rules;
}

pub returns-in_err-touched : goal.returns-in_err-touched
returns-in_err-touched g c = record {
  begins = search rules;
  weight = search rules;
  over = search rules;
  told = search rules;
  octets_read = search rules;
  reads_front = search rules;
  most_read = search rules;
  no_memory = λ _. (c.in_ok-header.header.cells, front g (goal.at.returns-in_err-touched g c).After-read_directory);
  not_a_card = search rules;
  frame = search rules;
}

pub returns-in_err-entries : goal.returns-in_err-entries
returns-in_err-entries g c = record {
  begins = search rules;
  weight = search rules;
  over = search rules;
  told = search rules;
  octets_read = search rules;
  reads_front = search rules;
  most_read = search rules;
  no_memory = λ _. (c.in_ok-header.header.cells, front g (goal.at.returns-in_err-entries g c).After-read_directory);
  not_a_card = search rules;
  frame = search rules;
}

pub returns-in_err-common_runs : goal.returns-in_err-common_runs
returns-in_err-common_runs g c = record {
  begins = search rules;
  weight = search rules;
  over = search rules;
  told = search rules;
  octets_read = search rules;
  reads_front = search rules;
  most_read = search rules;
  no_memory = λ _. (c.in_ok-header.header.cells, front g (goal.at.returns-in_err-common_runs g c).After-read_directory);
  not_a_card = search rules;
  frame = search rules;
}

pub returns-in_err-chains : goal.returns-in_err-chains
returns-in_err-chains g c = record {
  begins = search rules;
  weight = search rules;
  over = search rules;
  told = search rules;
  octets_read = search rules;
  reads_front = search rules;
  most_read = search rules;
  no_memory = λ _. (c.in_ok-header.header.cells, front g (goal.at.returns-in_err-chains g c).After-read_directory);
  not_a_card = search rules;
  frame = search rules;
}
