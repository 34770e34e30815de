use Rattle.std.proofs.Common.{◌≡◌, ◌*◌, ℕ, Some, length, IfSome, refl, sym, ap, ◌∙◌, rules, arith, subst, length-append}
use Rattle.eeprom.specs.StoreOf.{payload_of, longest_chain, cell_size}
use Rattle.cell_store.specs.Cells.{Cells, cells_from}
use Rattle.cell_store.specs.Claims.{TakesChain}
use Rattle.cell_store.specs.Claiming.{record_cells}
use Rattle.cell_store.proofs.Claiming.{Claiming, Claiming-start, Claiming-more, Claiming-taken, Claiming-on, Claiming-record, Claiming-takes, Claiming-linked, longer-none, longer-counted, no-length}
use Rattle.cell_store.proofs.Counting.{told-count, count-short, record_cells-append}
use Rattle.cell_store.proofs.Reading.{reads-more, reads-less, reads-then, reads-whole}
use Rattle.cell_store.proofs.Walking.{Walked-start, Walked-more, Walked-end}
use Rattle.cell_store.proofs.claims.claim_cells.Goals.{In-Some, After-loop-cell}
use Rattle.cell_store.proofs.claims.claim_cells.Goals as goal

-- the first payload says how many cells the record has
front : (g : _) (c : In-Some g) → record_cells c.claim_cell.new.payload.items ≡ Some c.in-Some.count
front g c = ap record_cells (sym c.as_slice.ensures.value) ∙ sym c.in-Some.ensures

-- it is that of the first cell
told : (g : _) (c : In-Some g) → IfSome (g.B.Eeprom.chip c.args.bench.now).image (λ image. record_cells (payload_of image c.args.cells c.args.first) ≡ Some c.in-Some.count)
told g c =
    told-count (g.B.Eeprom.chip c.args.bench.now).image c.args.cells c.args.first c.claim_cell.new.payload.items (Some c.in-Some.count) (rw c.clear.ensures at c.in_ok-next.ensures.cell.payload) (front g c)

-- all cells were claimed behind the loop
at-end : (g : _) (c : After-loop-cell g) → c.loop-cell._cell ≡ c.in-Some.count
at-end g c = omega (arith, c.loop-cell-test.false, c.loop-cell.auto._cell-end, (count-short c.loop-cell.payload.items c.in-Some.count c.loop-cell.invariant.front).0)

pub loop-cell-init : goal.loop-cell-init
loop-cell-init g c =
    let start : Cells = cells_from c.args.cells c.args.used.now c.args.links.now in
    let now : Cells = cells_from c.args.cells c.claim_cell.new.used c.claim_cell.new.links in
    let image = (g.B.Eeprom.chip c.args.bench.now).image in
    let more = c.in_ok-next.ensures.cell.appends in
    let empty : length c.clear.new.self.items ≡ 0 = ap (length {A = ℕ}) c.clear.ensures in
    record {
      claiming = Claiming-more start start now image c.args.first 0 c.args.first c.in_ok-next.next c.requires.covers.used_count c.requires.covers.links_count refl c.in_ok-next.ensures.claims c.in_ok-next.ensures.cell.link (Claiming-start start image c.args.first);
      walked = Walked-more c.args.cells c.args.first c.args.first c.clear.new.self.items c.claim_cell.new.payload.items 0 c.in_ok-next.next image c.requires.fits.many c.in_ok-next.ensures.claims.inside
          c.in_ok-next.ensures.cell.link c.in_ok-next.ensures.cell.payload (Walked-start c.args.cells c.args.first c.clear.new.self.items image c.clear.ensures);
      size = rw (more.2) (omega (arith, length-append c.clear.new.self.items more.0, more.1, empty));
      front = front g c;
      read = c.in_ok-next.ensures.octets_read;
      used = c.claim_cell.ensures.covers.used_count;
      links = c.claim_cell.ensures.covers.links_count;
      same = search rules;
      faults = search rules;
    }

pub loop-cell-preserved : goal.loop-cell-preserved
loop-cell-preserved g c =
    let start : Cells = cells_from c.args.cells c.args.used.now c.args.links.now in
    let now : Cells = cells_from c.args.cells c.loop-cell.used c.loop-cell.links in
    let new : Cells = cells_from c.args.cells c.claim_cell-in-loop-cell.new.used c.claim_cell-in-loop-cell.new.links in
    let image = (g.B.Eeprom.chip c.args.bench.now).image in
    let inv = c.loop-cell.invariant in
    let more = c.in_ok-next-2.ensures.cell.appends in
    record {
      claiming = Claiming-more start now new image c.args.first c.loop-cell._cell c.loop-cell.next c.in_ok-next-2.next c.requires.covers.used_count inv.links refl c.in_ok-next-2.ensures.claims (rw inv.same at c.in_ok-next-2.ensures.cell.link) inv.claiming;
      walked = Walked-more c.args.cells c.args.first c.loop-cell.next c.loop-cell.payload.items c.claim_cell-in-loop-cell.new.payload.items c.loop-cell._cell c.in_ok-next-2.next image c.requires.fits.many c.in_ok-next-2.ensures.claims.inside
          (rw inv.same at c.in_ok-next-2.ensures.cell.link) (rw inv.same at c.in_ok-next-2.ensures.cell.payload) inv.walked;
      size = rw (more.2) (omega (arith, length-append c.loop-cell.payload.items more.0, more.1, inv.size));
      front = rw (more.2) (record_cells-append c.loop-cell.payload.items more.0 (omega (arith, inv.size)) ∙ inv.front);
      read = reads-more c.loop-cell._cell (g.B.Eeprom.octets_read c.args.bench.now) (g.B.Eeprom.octets_read c.loop-cell.bench) (g.B.Eeprom.octets_read c.claim_cell-in-loop-cell.new.bench) inv.read c.in_ok-next-2.ensures.octets_read;
      used = c.claim_cell-in-loop-cell.ensures.covers.used_count;
      links = c.claim_cell-in-loop-cell.ensures.covers.links_count;
      same = search rules;
      faults = search rules;
    }

pub returns-then-next : goal.returns-then-next
returns-then-next g c = record {
  claims = record {
    takes =
        let start : Cells = cells_from c.args.cells c.args.used.now c.args.links.now in
        let now : Cells = cells_from c.args.cells c.loop-cell.used c.loop-cell.links in
        let end = at-end g (goal.at.returns-then-next g c).After-loop-cell in
        let short = count-short c.loop-cell.payload.items c.in-Some.count c.loop-cell.invariant.front in
        subst (TakesChain start now c.args.first) end (Claiming-takes start now (g.B.Eeprom.chip c.args.bench.now).image c.args.first c.loop-cell._cell c.loop-cell.next c.requires.covers.links_count c.loop-cell.invariant.links c.if-next.true
        (omega (arith, end, short.1)) c.loop-cell.invariant.claiming);
    linked =
        Claiming-linked (cells_from c.args.cells c.args.used.now c.args.links.now) (cells_from c.args.cells c.loop-cell.used c.loop-cell.links) (g.B.Eeprom.chip c.args.bench.now).image c.args.first c.loop-cell._cell c.loop-cell.next c.requires.covers.used_count
        c.loop-cell.invariant.claiming;
    «record» =
        let start : Cells = cells_from c.args.cells c.args.used.now c.args.links.now in
        let now : Cells = cells_from c.args.cells c.loop-cell.used c.loop-cell.links in
        let image = (g.B.Eeprom.chip c.args.bench.now).image in
        let at = (goal.at.returns-then-next g c).In-Some in
        let end = at-end g (goal.at.returns-then-next g c).After-loop-cell in
        let short = count-short c.loop-cell.payload.items c.in-Some.count c.loop-cell.invariant.front in
        Claiming-record start now image c.args.first c.in-Some.count c.loop-cell.next c.requires.fits.many c.loop-cell.invariant.links c.requires.covers.used_count c.if-next.true short.0 (told g at)
        (subst (λ (count : ℕ). Claiming start now image c.args.first count c.loop-cell.next) end c.loop-cell.invariant.claiming);
    octets_read = rw (at-end g (goal.at.returns-then-next g c).After-loop-cell) at c.loop-cell.invariant.read;
    most_read =
        let short = count-short c.loop-cell.payload.items c.in-Some.count c.loop-cell.invariant.front in
        reads-whole c.loop-cell._cell (cell_size * longest_chain) (g.B.Eeprom.octets_read c.args.bench.now) (g.B.Eeprom.octets_read c.loop-cell.bench) (omega (arith, at-end g (goal.at.returns-then-next g c).After-loop-cell, short.1)) c.loop-cell.invariant.read;
    bad_chain = search rules;
    frame = search rules;
  };
  payload =
      Walked-end c.args.cells c.args.first c.loop-cell.next c.loop-cell.payload.items c.loop-cell._cell longest_chain (g.B.Eeprom.chip c.args.bench.now).image (omega (arith, c.if-next.true)) c.loop-cell.invariant.walked;
  count = search rules;
  size = c.loop-cell.invariant.size ∙ ap (λ (k : ℕ). 30 * k) (at-end g (goal.at.returns-then-next g c).After-loop-cell);
  covers = search rules;
}

pub returns-in_err-next : goal.returns-in_err-next
returns-in_err-next g c = record {
  claims = record {
    takes = search rules;
    linked = search rules;
    «record» = search rules;
    octets_read = search rules;
    most_read = reads-less 32 (cell_size * longest_chain) (g.B.Eeprom.octets_read c.args.bench.now) (g.B.Eeprom.octets_read c.claim_cell.new.bench) (omega arith) c.claim_cell.ensures.reads.octets_read;
    bad_chain = λ refused.
        let start : Cells = cells_from c.args.cells c.args.used.now c.args.links.now in
        let image = (g.B.Eeprom.chip c.args.bench.now).image in
        Claiming-taken start start image c.args.first 0 c.args.first c.requires.fits.many c.requires.covers.used_count (longer-none image c.args.cells c.args.first) (c.in_err-next.ensures.taken (search rules)) (Claiming-start start image c.args.first);
    frame = search rules;
  };
  payload = search rules;
  count = search rules;
  size = search rules;
  covers = search rules;
}

pub returns-in_default : goal.returns-in_default
returns-in_default g c = record {
  claims = record {
    takes = search rules;
    linked = search rules;
    «record» = search rules;
    octets_read = search rules;
    most_read = reads-less 32 (cell_size * longest_chain) (g.B.Eeprom.octets_read c.args.bench.now) (g.B.Eeprom.octets_read c.claim_cell.new.bench) (omega arith) c.claim_cell.ensures.reads.octets_read;
    bad_chain = λ _.
        let start : Cells = cells_from c.args.cells c.args.used.now c.args.links.now in
        let image = (g.B.Eeprom.chip c.args.bench.now).image in
        no-length start image c.args.first (told-count image c.args.cells c.args.first c.claim_cell.new.payload.items _ (rw c.clear.ensures at c.in_ok-next.ensures.cell.payload) (ap record_cells (sym c.as_slice.ensures.value) ∙ (sym c.record_cells.ensures ∙ c.in_default.is)));
    frame = search rules;
  };
  payload = search rules;
  count = search rules;
  size = search rules;
  covers = search rules;
}

pub returns-in_err-next-2 : goal.returns-in_err-next-2
returns-in_err-next-2 g c = record {
  claims = record {
    takes = search rules;
    linked = search rules;
    «record» = search rules;
    octets_read = search rules;
    most_read =
        let short = count-short c.loop-cell.payload.items c.in-Some.count c.loop-cell.invariant.front in
        reads-then c.loop-cell._cell 32 (cell_size * longest_chain) (g.B.Eeprom.octets_read c.args.bench.now) (g.B.Eeprom.octets_read c.loop-cell.bench) (g.B.Eeprom.octets_read c.claim_cell-in-loop-cell.new.bench) (omega (arith, c.loop-cell-test.true, short.1))
        c.loop-cell.invariant.read c.claim_cell-in-loop-cell.ensures.reads.octets_read;
    bad_chain = λ refused.
        let start : Cells = cells_from c.args.cells c.args.used.now c.args.links.now in
        let now : Cells = cells_from c.args.cells c.loop-cell.used c.loop-cell.links in
        let image = (g.B.Eeprom.chip c.args.bench.now).image in
        let at = (goal.at.returns-in_err-next-2 g c).In-Some in
        Claiming-taken start now image c.args.first c.loop-cell._cell c.loop-cell.next c.requires.fits.many c.requires.covers.used_count (longer-counted image c.args.cells c.args.first c.loop-cell._cell c.in-Some.count (told g at) c.loop-cell-test.true)
        (c.in_err-next-2.ensures.taken (search rules)) c.loop-cell.invariant.claiming;
    frame = search rules;
  };
  payload = search rules;
  count = search rules;
  size = search rules;
  covers = search rules;
}

pub returns-else-next : goal.returns-else-next
returns-else-next g c = record {
  claims = record {
    takes = search rules;
    linked = search rules;
    «record» = search rules;
    octets_read = search rules;
    most_read =
        let short = count-short c.loop-cell.payload.items c.in-Some.count c.loop-cell.invariant.front in
        reads-whole c.loop-cell._cell (cell_size * longest_chain) (g.B.Eeprom.octets_read c.args.bench.now) (g.B.Eeprom.octets_read c.loop-cell.bench) (omega (arith, at-end g (goal.at.returns-else-next g c).After-loop-cell, short.1)) c.loop-cell.invariant.read;
    bad_chain = λ _.
        let start : Cells = cells_from c.args.cells c.args.used.now c.args.links.now in
        let now : Cells = cells_from c.args.cells c.loop-cell.used c.loop-cell.links in
        let image = (g.B.Eeprom.chip c.args.bench.now).image in
        let at = (goal.at.returns-else-next g c).In-Some in
        let end = at-end g (goal.at.returns-else-next g c).After-loop-cell in
        Claiming-on start now image c.args.first c.in-Some.count c.loop-cell.next c.requires.fits.many c.if-next.false (told g at)
        (subst (λ (count : ℕ). Claiming start now image c.args.first count c.loop-cell.next) end c.loop-cell.invariant.claiming);
    frame = search rules;
  };
  payload = search rules;
  count = search rules;
  size = search rules;
  covers = search rules;
}
