-- The name of the object that is found.
use Rattle.std.proofs.Common.{Some, ap, ◌∙◌}
use Rattle.dictionaries.specs.Told.{name_or_none}
use Rattle.record_store.specs.declared.tags.Tag.TheVariants.{Stamp}
use Rattle.catalog_codec.specs.Catalog.{object_kind}
use Rattle.dictionaries.proofs.ToldRows.{object-named}
use Rattle.dictionaries.proofs.names.object_name.Goals as goal
use Rattle.record_table.proofs.TaggedSearches.{tagged-fewer}
use Rattle.record_table.proofs.ReadingCosts.{FindsStampInto-reads, ReadsSide-told}

pub returns-clause-name : goal.returns-clause-name
returns-clause-name g c = λ db held. ap name_or_none c.name_of_object.ensures ∙ object-named c.args.reader.now.store.now c.args.reader.now.side (g.B.Eeprom.chip c.args.reader.now.bench.now) db c.args.stamp c.find_stamp_into.new.place held c.in_ok-find_stamp_into.ensures.found

pub returns-clause-reads : goal.returns-clause-reads
returns-clause-reads g c = ReadsSide-told (FindsStampInto-reads c.in_ok-find_stamp_into.ensures) (tagged-fewer object_kind (Some (Stamp c.args.stamp)))
