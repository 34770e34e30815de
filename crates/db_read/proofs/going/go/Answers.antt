-- The rows are those that were chosen, of a table or of a dictionary.
use Rattle.std.proofs.Common.{rules, None, refl}
use Rattle.db_read.specs.Told.{TellsRows}
use Rattle.db_read.proofs.Chooses.{chooses-table}
use Rattle.db_read.proofs.ChoosesTold.{chooses-told}
use Rattle.db_read.proofs.MotionLaws.{Advances-ok}
use Rattle.db_read.proofs.going.go.Goals as goal

pub returns-clause-advances : goal.returns-clause-advances
returns-clause-advances g c = λ db actor on held cursor chosen.
    let reader = c.args.reader.now in
    let chip = g.B.Eeprom.chip reader.bench.now in
    let e = c.of-chosen.ensures in
    let kind = (rw c.in_default.is at c.of.ensures.none) refl in
    let chooses = chooses-table reader.store.now reader.side chip db actor on c.args.choice.now held cursor chosen kind c.of-chosen.result e.table e.places e.conditions e.filters in
    let advances = Advances-ok reader.store.now reader.side chip db held actor on _ _ chooses _ _ _ _ _ _ _ c.move_over-2.ensures.goes c.move_over-2.ensures.read in
    search rules

pub returns-in-Some-clause-advances : goal.returns-in-Some-clause-advances
returns-in-Some-clause-advances g c = λ db actor on held cursor chosen.
    let reader = c.args.reader.now in
    let chip = g.B.Eeprom.chip reader.bench.now in
    let e = c.in-Some.ensures in
    let chooses = chooses-told reader.store.now reader.side chip db actor on c.args.choice.now held cursor chosen c.in-Some.told e.dictionary.0 e.dictionary.1 e.columns.0 e.columns.1 in
    let advances = Advances-ok reader.store.now reader.side chip db held actor on (TellsRows c.in-Some.told reader.store.now reader.side chip) None chooses c.args.motion c.args.place.now c.move_over.new.place c.move_over.new.out
    (g.B.Eeprom.octets_read reader.bench.now) (g.B.Eeprom.octets_read c.move_over.new.rows.reader.now.bench.now) c.move_over.result c.move_over.ensures.goes c.move_over.ensures.read in
    search rules
