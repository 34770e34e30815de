-- The record stands at the place of its stamp.
use Rattle.std.proofs.Common.{refl, sym}
use Rattle.eeprom.specs.Slots.{has}
use Rattle.plain_database.proofs.RisingStamps.{find-no_place, find-place}
use Rattle.plain_database.proofs.stamped.Rising.find.Goals as goal

pub returns-in_err-place : goal.returns-in_err-place
returns-in_err-place g c =
    let found = find-no_place (has g.R.Stamped.stamp_of c.args.stamp) c.args.self.now.records.now (rw c.in_err-place.was at c.place_of.ensures.place) in
    rw (c.from_residual.ensures, found) refl

pub returns : goal.returns
returns g c =
    sym (find-place (has g.R.Stamped.stamp_of c.args.stamp) c.args.self.now.records.now c.in_ok-place.place c.index-records-place.result (rw c.in_ok-place.was at c.place_of.ensures.place) c.in_ok-place.ensures.within c.index-records-place.is)
