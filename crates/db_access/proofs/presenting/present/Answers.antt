-- Who has the name, if it isn't PUBLIC, is the user that was found.
use Rattle.std.proofs.Common.{Some, ◌≡◌, false, sym, ap, ◌∙◌}
use Rattle.std.specs.Prelude.{option_map}
use Rattle.std.specs.Str.{bytes_eq}
use Rattle.record_store.specs.declared.side.Side.TheVariants.{Committed}
use Rattle.scql_model.specs.Database.{public_name}
use Rattle.catalog_codec.specs.Catalog.{user_kind}
use Rattle.record_store.specs.Tags.{name_tag}
use Rattle.record_store.specs.declared.tags.Tag.TheVariants.{Name}
use Rattle.record_table.specs.Listed.{slots_of}
use Rattle.record_table.specs.Tagged.{cells_tagged}
use Rattle.record_table.proofs.ReadingCosts.{reads-none}
use Rattle.db_access.proofs.NamedUser.{named-held, session-found, session-none}
use Rattle.db_access.proofs.presenting.present.Goals as goal

pub returns-in-Some-clause-presented : goal.returns-in-Some-clause-presented
returns-in-Some-clause-presented g c = λ db held.
    let other : bytes_eq c.args.name public_name ≡ false = rw c.octets.ensures.octets at (sym c.eq.ensures ∙ c.if-eq.false) in
    let named = named-held c.args.store.now Committed (g.B.Eeprom.chip c.args.bench.now) db c.args.name _ held c.in_ok-found.ensures.first in
    let found = named ∙ ap (option_map (λ found. found.value)) c.in-Some.is in
    rw (c.is_empty.ensures, c.as_slice.ensures.octets) (sym (session-found db c.args.name c.in-Some.field-0.value other found))

pub returns-in-None-clause-presented : goal.returns-in-None-clause-presented
returns-in-None-clause-presented g c = λ db held.
    let other : bytes_eq c.args.name public_name ≡ false = rw c.octets.ensures.octets at (sym c.eq.ensures ∙ c.if-eq.false) in
    let named = named-held c.args.store.now Committed (g.B.Eeprom.chip c.args.bench.now) db c.args.name _ held c.in_ok-found.ensures.first in
    sym (session-none db c.args.name other (named ∙ ap (option_map (λ found. found.value)) c.in-None.is))

pub returns-then-eq-clause-octets_read : goal.returns-then-eq-clause-octets_read
returns-then-eq-clause-octets_read g c = reads-none (cells_tagged user_kind (Some (Name (name_tag c.args.name)))) (slots_of c.args.store.now Committed (g.B.Eeprom.chip c.args.bench.now)) (g.B.Eeprom.octets_read c.args.bench.now)
