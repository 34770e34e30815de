-- Each row goes where it stands among those before it.
use Rattle.std.proofs.Common.{refl, subst, sym, ◌∙◌}
use Rattle.row_index.specs.declared.place.RowPlace.{RowPlace}
use Rattle.row_index.proofs.Filling.{filled-all, filled-more, filled-none}
use Rattle.row_index.proofs.side_rows.SideRows.fill.Goals as goal

pub loop-place-init : goal.loop-place-init
loop-place-init c = record { cells = refl; filled = filled-none c.args.self.now.cells c.args.stamps.now c.args.places.now c.args.self.now.rows c.requires.none }

pub loop-place-preserved : goal.loop-place-preserved
loop-place-preserved c =
    let done = c.put-at.ensures in
    let cells = c.loop-place.invariant.cells in
    record {
      cells = done.cells ∙ cells;
      filled = filled-more c.args.self.now.cells c.args.stamps.now c.args.places.now c.loop-place.self.rows c.put-at.new.self.rows c.loop-place.place-index _ (record { stamp = 0; table = 0; slot = 0 }) c.put-at.result
          c.loop-place-test.true refl c.loop-place.invariant.filled (rw cells at done.there) done.placed done.fits;
    }

pub returns : goal.returns
returns c =
    record { cells = c.loop-place.invariant.cells; filled = filled-all c.args.self.now.cells c.args.stamps.now c.args.places.now c.loop-place.self.rows c.loop-place.place-index c.loop-place-test.false c.loop-place.invariant.filled }
