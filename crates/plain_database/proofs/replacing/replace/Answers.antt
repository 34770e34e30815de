use Rattle.std.proofs.Common.{sym}
use Rattle.plain_database.proofs.ReplacedRecords.{replaced-None, replaced-Some}
use Rattle.plain_database.proofs.replacing.replace.Goals as goal

pub returns-in-Some-clause-items : goal.returns-in-Some-clause-items
returns-in-Some-clause-items g c =
    let found = rw (c.stamp.ensures, c.deref.ensures.value) at c.in-Some.ensures.place in
    replaced-Some g.R.Stamped.stamp_of c.args.entry c.args.records.now.items c.in-Some.at c.requires.rises (sym found)

pub returns-in-None-clause-items : goal.returns-in-None-clause-items
returns-in-None-clause-items g c =
    let found = rw (c.stamp.ensures, c.deref.ensures.value) at c.in-None.ensures.place in
    replaced-None g.R.Stamped.stamp_of c.args.entry c.args.records.now.items (sym found)
