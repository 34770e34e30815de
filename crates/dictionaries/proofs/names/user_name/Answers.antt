-- The name of the user that is found.
use Rattle.std.proofs.Common.{Some, ap, ◌∙◌}
use Rattle.dictionaries.specs.Told.{name_or_none}
use Rattle.record_store.specs.declared.tags.Tag.TheVariants.{Stamp}
use Rattle.catalog_codec.specs.Catalog.{user_kind}
use Rattle.dictionaries.proofs.ToldRows.{user-named}
use Rattle.dictionaries.proofs.names.user_name.Goals as goal
use Rattle.record_table.proofs.TaggedSearches.{tagged-fewer}
use Rattle.record_table.proofs.ReadingCosts.{FindsStamp-reads, ReadsSide-told}

pub returns-clause-name : goal.returns-clause-name
returns-clause-name g c = λ db held. ap name_or_none c.name_of_user.ensures ∙ user-named c.args.reader.now.store.now c.args.reader.now.side (g.B.Eeprom.chip c.args.reader.now.bench.now) db c.args.stamp _ held c.in_ok-found.ensures.found

pub returns-clause-reads : goal.returns-clause-reads
returns-clause-reads g c = ReadsSide-told (FindsStamp-reads c.in_ok-found.ensures) (tagged-fewer user_kind (Some (Stamp c.args.stamp)))
