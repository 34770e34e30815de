-- With which database a run begins that makes its card, or finds it there.
use Rattle.std.proofs.Common.{ℕ, List, refl, rules, subst, sym}
use Rattle.eeprom.specs.Image.{overwrite}
use Rattle.card.specs.Card.{fresh_card}
use Rattle.card.specs.GivenMoments.{behind-same}
use Rattle.card_run.specs.declared.words.Form.{Form}
use Rattle.card_run.specs.Beginning.{LeavesUntilOpen}
use Rattle.card_run.specs.Behind.{run_cells}
use Rattle.card_run.proofs.Behind.{behind-new, cells-new, cells-there}
use Rattle.card_run.proofs.Preparing.{all-prepared, begins-new, began-new, begins-there, lacks-there, leaves-there, opens-there, there-new, there-same}
use Rattle.card_run.proofs.opening.prepare.Goals as goal

pub returns-in-New-clause-prepared : goal.returns-in-New-clause-prepared
returns-in-New-clause-prepared g c =
    let old = g.B.Eeprom.chip c.args.bench.now in
    let new = g.B.Eeprom.chip c.format.new.bench in
    let make = λ (image : List ℕ). overwrite image 0 (fresh_card c.in-New.cells) in
    all-prepared g.B.Eeprom.chip c.args.form c.args.bench.now c.format.new.bench c.format.result
    (begins-new c.format.result old new c.args.form c.in-New.cells make c.in-New.is c.format.ensures.image c.format.ensures.fresh)
    (began-new c.format.result _ old new c.args.form c.in-New.cells make c.in-New.is c.format.ensures.image c.format.ensures.too_small)
    (search rules)
    (there-new g.B.Eeprom.chip c.format.result c.args.form c.in-New.cells c.args.bench.now c.format.new.bench c.in-New.is c.format.ensures.moments c.format.ensures.fresh)
    (search rules)
    (cells-new c.format.result old new c.args.form c.in-New.cells c.in-New.is (search rules) c.format.ensures.image)

pub returns-in-New-clause-leaves : goal.returns-in-New-clause-leaves
returns-in-New-clause-leaves g c =
    let old = g.B.Eeprom.chip c.args.bench.now in
    let new = g.B.Eeprom.chip c.format.new.bench in
    record {
      until = record {
        leaves = subst (λ (form : Form). LeavesUntilOpen form old new) (sym c.in-New.is) c.format.ensures.moments;
        behind = behind-new c.args.form c.in-New.cells old new c.in-New.is c.format.ensures.behind;
        still = c.format.ensures.still;
      };
      too_small = search rules;
      unchanged = search rules;
      quiet = search rules;
    }

pub returns-in-Apdu-clause-prepared : goal.returns-in-Apdu-clause-prepared
returns-in-Apdu-clause-prepared g c =
    let old = g.B.Eeprom.chip c.args.bench.now in
    record {
      begins = λ db begins. opens-there c.args.form old db c.in-Apdu.is begins;
      began = λ db opens. (db, begins-there c.args.form old db c.in-Apdu.is opens);
      told = λ told. told;
      there = there-same g.B.Eeprom.chip c.args.form c.args.bench.now c.in-Apdu.is;
      lacks = λ told none. lacks-there c.args.form old c.in-Apdu.is told none;
      cells = cells-there c.args.form old.image c.in-Apdu.is;
    }

pub returns-in-Apdu-clause-leaves : goal.returns-in-Apdu-clause-leaves
returns-in-Apdu-clause-leaves g c =
    let old = g.B.Eeprom.chip c.args.bench.now in
    record {
      until = record { leaves = leaves-there c.args.form old c.in-Apdu.is; behind = behind-same (run_cells c.args.form) old old refl; still = refl };
      too_small = search rules;
      unchanged = search rules;
      quiet = search rules;
    }
