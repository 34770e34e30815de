-- The owner of a grant is that of its object.
use Rattle.std.proofs.Common.{Some, ap, ◌∙◌}
use Rattle.scql_model.specs.Dictionaries.{tells_of}
use Rattle.record_store.specs.declared.tags.Tag.TheVariants.{Stamp}
use Rattle.catalog_codec.specs.Catalog.{object_kind}
use Rattle.dictionaries.proofs.ToldRows.{object-owned}
use Rattle.dictionaries.proofs.grants.is_told.Goals as goal
use Rattle.record_table.proofs.TaggedSearches.{tagged-fewer}
use Rattle.record_table.proofs.ReadingCosts.{FindsStampInto-reads, ReadsSide-none, ReadsSide-told}

pub returns-clause-told : goal.returns-clause-told
returns-clause-told g c = λ db held.
    c.of.ensures ∙ ap (tells_of c.args.owner) (c.owner_of.ensures ∙ object-owned c.args.reader.now.store.now c.args.reader.now.side (g.B.Eeprom.chip c.args.reader.now.bench.now) db c.args.grant.now.object c.find_stamp_into.new.place held c.in_ok-find_stamp_into.ensures.found)

pub returns-then-all-clause-reads : goal.returns-then-all-clause-reads
returns-then-all-clause-reads g c = ReadsSide-none

pub returns-clause-reads : goal.returns-clause-reads
returns-clause-reads g c = ReadsSide-told (FindsStampInto-reads c.in_ok-find_stamp_into.ensures) (tagged-fewer object_kind (Some (Stamp c.args.grant.now.object)))
