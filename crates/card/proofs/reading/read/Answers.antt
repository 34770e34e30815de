-- Each reading command moves a session as the model does.
use Rattle.std.proofs.Common.{◌≡◌, ℕ, [], Option, refl, sym, subst}
use Rattle.db_read.specs.Scan.{IsRightFor}
use Rattle.scql_base.specs.declared.operation.Operation.TheVariants as asks
use Rattle.scql_model.specs.Moves.{move_of}
use Rattle.db_read.specs.Searched.{octets_for_operation}
use Rattle.scql_model.specs.ReadingCommands.{ReadingCommand, declare, fetch, fetch_next, next, open_cursor}
use Rattle.card.specs.ReadCosts.{ReadsOctets}
use Rattle.card.specs.Reading.{move_to}
use Rattle.card.specs.Sessions.{reading_in}
use Rattle.card.proofs.ReadingMoves.{MovesSo-fetch, MovesSo-fetch_next, MovesSo-get_response, as-fetch, as-fetch_next, as-get_response, as-said, if_ok-then, move-answered, move-given}
use Rattle.card.proofs.ReadingCosts.{on-then, row-read}
use Rattle.card.proofs.reading.read.Goals as goal

pub returns-in-GetResponse-clause-moves : goal.returns-in-GetResponse-clause-moves
returns-in-GetResponse-clause-moves g c = λ db rest cursor right.
    let before = reading_in c.args.session.now in
    if_ok-then c.give_rest.result (λ word moves. MovesSo-get_response db c.args.actor c.args.command.now before c.unwrap_or-most.result _ c.in-GetResponse.is c.unwrap_or-most.ensures moves)
    (rw c.new-le.ensures at (c.give_rest.ensures.moves db rest))

pub returns-in-GetResponse-clause-octets_read : goal.returns-in-GetResponse-clause-octets_read
returns-in-GetResponse-clause-octets_read g c = λ db held cursor right.
    let before = reading_in c.args.session.now in
    let a : Option ℕ = g.B.Eeprom.octets_read c.args.reader.now.bench.now in
    let b : Option ℕ = g.B.Eeprom.octets_read c.give_rest.new.reader.bench.now in
    on-then c.give_rest.result (λ most. as-get_response (λ (command : ReadingCommand). ReadsOctets (octets_for_operation db c.args.actor before.cursor command) db c.args.actor before command a b) c.args.command.now c.unwrap_or-most.result
    c.in-GetResponse.is c.unwrap_or-most.ensures (record { within = λ _. most; row = λ asks. absurd cc }))
    (rw c.new-le.ensures at (c.give_rest.ensures.octets_read db held))

pub returns-in-GetResponse-clause-right : goal.returns-in-GetResponse-clause-right
returns-in-GetResponse-clause-right g c = λ db held right. subst (IsRightFor db c.args.actor c.args.scan.now) (sym c.give_rest.ensures.cursor) right

pub returns-in_ok-word-in-DeclareCursor-clause-moves : goal.returns-in_ok-word-in-DeclareCursor-clause-moves
returns-in_ok-word-in-DeclareCursor-clause-moves g c = λ db held cursor right.
    let before = reading_in c.args.session.now in
    let word = c.in_ok-word-in-DeclareCursor.word in
    let said = declare c.in-DeclareCursor.object c.in-DeclareCursor.columns c.in-DeclareCursor.conditions in
    rw (c.settle.ensures.body, c.settle.ensures.word) (as-said (λ (command : ReadingCommand). move_of db c.args.actor before command ≡ move_to [] word c.declare.new.cursor c.settle.new.pending) c.args.command.now
    (asks.DeclareCursor c.in-DeclareCursor.object c.in-DeclareCursor.columns c.in-DeclareCursor.conditions) said (λ le. refl) c.in-DeclareCursor.is
    (move-answered db c.args.actor before said word c.declare.new.cursor c.settle.new.pending (rw c.copy.ensures at (c.in_ok-word-in-DeclareCursor.ensures.moved db held before.pending)) c.in_ok-word-in-DeclareCursor.ensures.refused c.settle.ensures.pending))

pub returns-in_ok-word-in-DeclareCursor-clause-octets_read : goal.returns-in_ok-word-in-DeclareCursor-clause-octets_read
returns-in_ok-word-in-DeclareCursor-clause-octets_read g c = λ db held cursor right.
    let before = reading_in c.args.session.now in
    let a : Option ℕ = g.B.Eeprom.octets_read c.args.reader.now.bench.now in
    let b : Option ℕ = g.B.Eeprom.octets_read c.declare.new.reader.bench.now in
    let said = declare c.in-DeclareCursor.object c.in-DeclareCursor.columns c.in-DeclareCursor.conditions in
    as-said (λ (command : ReadingCommand). ReadsOctets (octets_for_operation db c.args.actor before.cursor command) db c.args.actor before command a b) c.args.command.now
    (asks.DeclareCursor c.in-DeclareCursor.object c.in-DeclareCursor.columns c.in-DeclareCursor.conditions) said (λ le. refl) c.in-DeclareCursor.is
    (record { within = λ _. rw c.copy.ensures at (c.in_ok-word-in-DeclareCursor.ensures.octets_read db held); row = λ asks. absurd cc })

pub returns-in_ok-word-in-OpenCursor-clause-moves : goal.returns-in_ok-word-in-OpenCursor-clause-moves
returns-in_ok-word-in-OpenCursor-clause-moves g c = λ db held cursor right.
    let before = reading_in c.args.session.now in
    let word = c.in_ok-word-in-OpenCursor.word in
    let reads = c.in_ok-word-in-OpenCursor.ensures.answers db held cursor right in
    rw (c.settle-in-OpenCursor.ensures.body, c.settle-in-OpenCursor.ensures.word) (as-said (λ (command : ReadingCommand). move_of db c.args.actor before command ≡ move_to [] word c.advance.new.cursor c.settle-in-OpenCursor.new.pending) c.args.command.now asks.OpenCursor open_cursor (λ le. refl) c.in-OpenCursor.is
    (move-answered db c.args.actor before open_cursor word c.advance.new.cursor c.settle-in-OpenCursor.new.pending (reads.moved before.pending) reads.refused c.settle-in-OpenCursor.ensures.pending))

pub returns-in_ok-word-in-OpenCursor-clause-octets_read : goal.returns-in_ok-word-in-OpenCursor-clause-octets_read
returns-in_ok-word-in-OpenCursor-clause-octets_read g c = λ db held cursor right.
    let before = reading_in c.args.session.now in
    let a : Option ℕ = g.B.Eeprom.octets_read c.args.reader.now.bench.now in
    let b : Option ℕ = g.B.Eeprom.octets_read c.advance.new.reader.bench.now in
    as-said (λ (command : ReadingCommand). ReadsOctets (octets_for_operation db c.args.actor before.cursor command) db c.args.actor before command a b) c.args.command.now asks.OpenCursor open_cursor (λ le. refl) c.in-OpenCursor.is
    (record { within = λ on. (c.in_ok-word-in-OpenCursor.ensures.answers db held cursor right).octets_read (on refl); row = λ asks. absurd cc })

pub returns-in_ok-word-in-Next-clause-moves : goal.returns-in_ok-word-in-Next-clause-moves
returns-in_ok-word-in-Next-clause-moves g c = λ db held cursor right.
    let before = reading_in c.args.session.now in
    let word = c.in_ok-word-in-Next.word in
    let reads = c.in_ok-word-in-Next.ensures.answers db held cursor right in
    rw (c.settle-in-Next.ensures.body, c.settle-in-Next.ensures.word) (as-said (λ (command : ReadingCommand). move_of db c.args.actor before command ≡ move_to [] word c.advance-in-Next.new.cursor c.settle-in-Next.new.pending) c.args.command.now asks.Next next (λ le. refl) c.in-Next.is
    (move-answered db c.args.actor before next word c.advance-in-Next.new.cursor c.settle-in-Next.new.pending (reads.moved before.pending) reads.refused c.settle-in-Next.ensures.pending))

pub returns-in_ok-word-in-Next-clause-octets_read : goal.returns-in_ok-word-in-Next-clause-octets_read
returns-in_ok-word-in-Next-clause-octets_read g c = λ db held cursor right.
    let before = reading_in c.args.session.now in
    let a : Option ℕ = g.B.Eeprom.octets_read c.args.reader.now.bench.now in
    let b : Option ℕ = g.B.Eeprom.octets_read c.advance-in-Next.new.reader.bench.now in
    as-said (λ (command : ReadingCommand). ReadsOctets (octets_for_operation db c.args.actor before.cursor command) db c.args.actor before command a b) c.args.command.now asks.Next next (λ le. refl) c.in-Next.is
    (record { within = λ on. (c.in_ok-word-in-Next.ensures.answers db held cursor right).octets_read (on refl); row = λ asks. absurd cc })

pub returns-in_ok-word-in-Fetch-clause-moves : goal.returns-in_ok-word-in-Fetch-clause-moves
returns-in_ok-word-in-Fetch-clause-moves g c = λ db held cursor right.
    let before = reading_in c.args.session.now in
    let le = c.unwrap_or-most.result in
    let reads = c.in_ok-word-in-Fetch.ensures.answers db held cursor right in
    MovesSo-fetch db c.args.actor c.args.command.now before le _ c.in-Fetch.is c.unwrap_or-most.ensures
    (move-given db c.args.actor before (fetch le) le c.in_ok-word-in-Fetch.word c.advance-in-Fetch.new.cursor c.advance-in-Fetch.new.out _ (reads.moved before.pending) reads.refused (rw c.new-le.ensures at (c.give.ensures c.advance-in-Fetch.new.cursor)))

pub returns-in_ok-word-in-Fetch-clause-octets_read : goal.returns-in_ok-word-in-Fetch-clause-octets_read
returns-in_ok-word-in-Fetch-clause-octets_read g c = λ db held cursor right.
    let before = reading_in c.args.session.now in
    let le = c.unwrap_or-most.result in
    let a : Option ℕ = g.B.Eeprom.octets_read c.args.reader.now.bench.now in
    let b : Option ℕ = g.B.Eeprom.octets_read c.advance-in-Fetch.new.reader.bench.now in
    let reads = c.in_ok-word-in-Fetch.ensures.answers db held cursor right in
    let moves = move-given db c.args.actor before (fetch le) le c.in_ok-word-in-Fetch.word c.advance-in-Fetch.new.cursor c.advance-in-Fetch.new.out _ (reads.moved before.pending) reads.refused (rw c.new-le.ensures at (c.give.ensures c.advance-in-Fetch.new.cursor)) in
    as-fetch (λ (command : ReadingCommand). ReadsOctets (octets_for_operation db c.args.actor before.cursor command) db c.args.actor before command a b) c.args.command.now le c.in-Fetch.is c.unwrap_or-most.ensures (record {
      within = λ on. reads.octets_read (on refl);
      row = λ asks on. row-read db c.args.actor before (fetch le) le c.in_ok-word-in-Fetch.word c.advance-in-Fetch.new.cursor c.advance-in-Fetch.new.out _ a b moves (rw c.new-le.ensures at (c.give.ensures c.advance-in-Fetch.new.cursor)) (reads.least on);
    })

pub returns-in_ok-word-in-FetchNext-clause-moves : goal.returns-in_ok-word-in-FetchNext-clause-moves
returns-in_ok-word-in-FetchNext-clause-moves g c = λ db held cursor right.
    let before = reading_in c.args.session.now in
    let le = c.unwrap_or-most.result in
    let reads = c.in_ok-word-in-FetchNext.ensures.answers db held cursor right in
    MovesSo-fetch_next db c.args.actor c.args.command.now before le _ c.in-FetchNext.is c.unwrap_or-most.ensures
    (move-given db c.args.actor before (fetch_next le) le c.in_ok-word-in-FetchNext.word c.advance-in-FetchNext.new.cursor c.advance-in-FetchNext.new.out _ (reads.moved before.pending) reads.refused (rw c.new-le.ensures at (c.give-in-FetchNext.ensures c.advance-in-FetchNext.new.cursor)))

pub returns-in_ok-word-in-FetchNext-clause-octets_read : goal.returns-in_ok-word-in-FetchNext-clause-octets_read
returns-in_ok-word-in-FetchNext-clause-octets_read g c = λ db held cursor right.
    let before = reading_in c.args.session.now in
    let le = c.unwrap_or-most.result in
    let a : Option ℕ = g.B.Eeprom.octets_read c.args.reader.now.bench.now in
    let b : Option ℕ = g.B.Eeprom.octets_read c.advance-in-FetchNext.new.reader.bench.now in
    let reads = c.in_ok-word-in-FetchNext.ensures.answers db held cursor right in
    let moves = move-given db c.args.actor before (fetch_next le) le c.in_ok-word-in-FetchNext.word c.advance-in-FetchNext.new.cursor c.advance-in-FetchNext.new.out _ (reads.moved before.pending) reads.refused (rw c.new-le.ensures at (c.give-in-FetchNext.ensures c.advance-in-FetchNext.new.cursor)) in
    as-fetch_next (λ (command : ReadingCommand). ReadsOctets (octets_for_operation db c.args.actor before.cursor command) db c.args.actor before command a b) c.args.command.now le c.in-FetchNext.is c.unwrap_or-most.ensures (record {
      within = λ on. reads.octets_read (on refl);
      row = λ asks on. row-read db c.args.actor before (fetch_next le) le c.in_ok-word-in-FetchNext.word c.advance-in-FetchNext.new.cursor c.advance-in-FetchNext.new.out _ a b moves (rw c.new-le.ensures at (c.give-in-FetchNext.ensures c.advance-in-FetchNext.new.cursor)) (reads.least on);
    })
