-- The grantee is the user that was found, if it isn't PUBLIC.
use Rattle.std.proofs.Common.{rules, ◌≡◌, false, sym, ap, ◌∙◌}
use Rattle.std.specs.Prelude.{option_map}
use Rattle.std.specs.Str.{bytes_eq}
use Rattle.scql_model.specs.Database.{public_name}
use Rattle.db_access.proofs.NamedUser.{named-held}
use Rattle.db_access.proofs.PairsFound.{grantee-found, grantee-none}
use Rattle.db_access.proofs.pairs.find_grantee.Goals as goal

pub returns-in-Some : goal.returns-in-Some
returns-in-Some g c = record {
  answers = λ db held.
      let other : bytes_eq c.args.name public_name ≡ false = rw c.octets.ensures.octets at (sym c.eq.ensures ∙ c.if-eq.false) in
      let named = named-held c.args.reader.now.store.now c.args.reader.now.side (g.B.Eeprom.chip c.args.reader.now.bench.now) db c.args.name _ held c.in_ok-found.ensures.first in
      grantee-found db c.args.name _ other (named ∙ ap (option_map (λ found. found.value)) c.in-Some.is);
  goes_on = search rules;
  frame = search rules;
}

pub returns-in-None : goal.returns-in-None
returns-in-None g c = record {
  answers = λ db held.
      let other : bytes_eq c.args.name public_name ≡ false = rw c.octets.ensures.octets at (sym c.eq.ensures ∙ c.if-eq.false) in
      let named = named-held c.args.reader.now.store.now c.args.reader.now.side (g.B.Eeprom.chip c.args.reader.now.bench.now) db c.args.name _ held c.in_ok-found.ensures.first in
      rw c.refused.ensures (grantee-none db c.args.name other (named ∙ ap (option_map (λ found. found.value)) c.in-None.is));
  goes_on = search rules;
  frame = search rules;
}
