-- For PUBLIC nothing is read.
use Rattle.std.proofs.Common.{Some}
use Rattle.catalog_codec.specs.Catalog.{user_kind}
use Rattle.record_store.specs.Tags.{name_tag}
use Rattle.record_store.specs.declared.tags.Tag.TheVariants.{Name}
use Rattle.record_table.specs.Asking.{slots_asked}
use Rattle.record_table.specs.Tagged.{cells_tagged}
use Rattle.record_table.proofs.ReadingCosts.{reads-none}
use Rattle.db_access.proofs.creating.is_taken.Goals as goal

pub returns-clause-octets_read : goal.returns-clause-octets_read
returns-clause-octets_read g c = rw c.copy.ensures at c.in_ok-user.ensures.octets_read

pub returns-then-eq-clause-octets_read : goal.returns-then-eq-clause-octets_read
returns-then-eq-clause-octets_read g c = reads-none (cells_tagged user_kind (Some (Name (name_tag c.args.name.now)))) (slots_asked c.args.reader.now) (g.B.Eeprom.octets_read c.args.reader.now.bench.now)
