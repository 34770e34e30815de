-- A card is opened exactly where the image opens to a database, and is then at its start.
use Rattle.std.proofs.Common.{◌≡◌, ◌∙◌, ℕ, false, List, Option, None, refl, rules, sym, subst}
use Rattle.std.specs.Prelude.{IfSome}
use Rattle.eeprom.specs.Chip.{Becomes}
use Rattle.eeprom.specs.StoreOf.{is_gate_open}
use Rattle.record_store.proofs.Replaying.{kept-image}
use Rattle.scql_model.specs.Database.{Database}
use Rattle.scql_model.specs.Machine.{start}
use Rattle.scql_model.specs.Opens.{Opens}
use Rattle.card.specs.Card.{IsAt, IsReady, Kept}
use Rattle.card.specs.Opening.{ReadsCard}
use Rattle.card.proofs.Sides.{StandsOver-idle}
use Rattle.card.proofs.Leaving.{behind-opened}
use Rattle.card.proofs.Starting.{opened, starts_at, opens-same}
use Rattle.card.proofs.card.Card.open.Goals as goal

pub returns-in_err-opened : goal.returns-in_err-opened
returns-in_err-opened g c = record {
  opens = search rules;
  opened = (λ db told. record {
    starts = search rules;
    octets_read = search rules;
  });
  ready = search rules;
  cells = search rules;
  most_read = search rules;
  no_memory = search rules;
  not_a_card = search rules;
  recovers = search rules;
  behind = behind-opened (g.B.Eeprom.chip c.args.bench.now) (g.B.Eeprom.chip c.open_records.new.bench) c.in_err-opened.ensures.frame.store;
  fault = search rules;
  quiet = search rules;
  never_falls = search rules;
}

pub returns : goal.returns
returns g c = record {
  opens = search rules;
  opened = (λ db told.
      let old = g.B.Eeprom.chip c.args.bench.now in
      let new = g.B.Eeprom.chip c.open_records.new.bench in
      let store = c.in_ok-opened.opened.tables.store in
      let made = opened store c.in_ok-opened.opened.tables.index (record { last = None; scan = None }) c.new.result.sessions in
      let reads = λ (o : Option (List ℕ)). IfSome o (λ image. is_gate_open image ≡ false → Becomes (ReadsCard db) (g.B.Eeprom.octets_read c.args.bench.now) (g.B.Eeprom.octets_read c.open_records.new.bench)) in record {
        starts = subst (λ (kept : Kept). IsAt kept new (start db)) (sym c.new.ensures.kept)
            (subst (λ (o : Option (List ℕ)). IfSome o (λ image. (d : Database) → Opens image d → IsAt made new (start d))) told.1
            (kept-image (λ image. (d : Database) → Opens image d → IsAt made new (start d)) (λ image. (d : Database) → Opens image d → IsAt made new (start d)) old new c.in_ok-opened.ensures.frame.store.keeps c.in_ok-opened.ensures.told
            (λ left was same starts d opens. starts d (opens-same was left (sym same) d opens))
            (starts_at store c.in_ok-opened.opened.tables.index (record { last = None; scan = None }) c.new.result.sessions new new.image c.new.ensures.starts refl c.in_ok-opened.ensures.stored)) db told.2);
        octets_read = subst reads (sym told.1)
            (subst (λ (o : Option (List ℕ)). IfSome o (λ image. (d : Database) → Opens image d → is_gate_open image ≡ false → Becomes (ReadsCard d) (g.B.Eeprom.octets_read c.args.bench.now) (g.B.Eeprom.octets_read c.open_records.new.bench))) told.1
            c.in_ok-opened.ensures.octets_read db told.2);
      });
  ready = (let new = g.B.Eeprom.chip c.open_records.new.bench in
      let e = c.in_ok-opened.ensures in
      let made = opened c.in_ok-opened.opened.tables.store c.in_ok-opened.opened.tables.index (record { last = None; scan = None }) c.new.result.sessions in
      subst (λ (kept : Kept). IsReady kept new) (sym c.new.ensures.kept) (record { stands = StandsOver-idle made new refl refl e.idle e.stand.over e.holds (e.stand.together ∙ e.idle) e.stand.index; found = tt }));
  cells = search rules;
  most_read = search rules;
  no_memory = search rules;
  not_a_card = search rules;
  recovers = search rules;
  behind = behind-opened (g.B.Eeprom.chip c.args.bench.now) (g.B.Eeprom.chip c.open_records.new.bench) c.in_ok-opened.ensures.frame.store;
  fault = search rules;
  quiet = search rules;
  never_falls = search rules;
}
