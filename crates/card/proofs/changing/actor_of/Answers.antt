-- Who was found is who acts.
use Rattle.std.proofs.Common.{rules, ◌≡◌, Some, None}
use Rattle.card.proofs.ChangingOperations.{acting-found, stamped-user}
use Rattle.card.proofs.ReadingCosts.{actor-read}
use Rattle.card.proofs.changing.actor_of.Goals as goal

pub returns-in-Some-2-clause-actor : goal.returns-in-Some-2-clause-actor
returns-in-Some-2-clause-actor g c = λ db held.
    rw c.in-Some.is (acting-found c.args.store.now c.args.side (g.B.Eeprom.chip c.args.bench.now) db c.in-Some.stamp (Some c.in-Some-2.found.value) held (rw c.in-Some-2.is at c.in_ok-found.ensures.found))

pub returns-in-None-clause-actor : goal.returns-in-None-clause-actor
returns-in-None-clause-actor g c = λ db held.
    rw c.in-Some.is (acting-found c.args.store.now c.args.side (g.B.Eeprom.chip c.args.bench.now) db c.in-Some.stamp None held (rw c.in-None.is at c.in_ok-found.ensures.found))

pub returns-in-Some-2-clause-octets_read : goal.returns-in-Some-2-clause-octets_read
returns-in-Some-2-clause-octets_read g c = λ db held.
    let still : g.B.Eeprom.octets_read c.bench-1.given.0 ≡ g.B.Eeprom.octets_read c.find_stamp.new.reader.bench.now = search rules in
    rw still (actor-read c.args.store.now c.args.side (g.B.Eeprom.chip c.args.bench.now) db c.in-Some.stamp (Some c.in-Some-2.found.value) _ _ held
    (stamped-user c.args.store.now c.args.side (g.B.Eeprom.chip c.args.bench.now) db c.in-Some.stamp (Some c.in-Some-2.found.value) held (rw c.in-Some-2.is at c.in_ok-found.ensures.found)) c.in_ok-found.ensures.octets_read c.in_ok-found.ensures.rises)

pub returns-in-None-clause-octets_read : goal.returns-in-None-clause-octets_read
returns-in-None-clause-octets_read g c = λ db held.
    let still : g.B.Eeprom.octets_read c.bench-1.given.0 ≡ g.B.Eeprom.octets_read c.find_stamp.new.reader.bench.now = search rules in
    rw still (actor-read c.args.store.now c.args.side (g.B.Eeprom.chip c.args.bench.now) db c.in-Some.stamp None _ _ held
    (stamped-user c.args.store.now c.args.side (g.B.Eeprom.chip c.args.bench.now) db c.in-Some.stamp None held (rw c.in-None.is at c.in_ok-found.ensures.found)) c.in_ok-found.ensures.octets_read c.in_ok-found.ensures.rises)
