-- The cursor is the one that is declared; a refusal leaves the old one.
use Rattle.std.proofs.Common.{ℕ, List, Option, Ok, sym, ap, ◌∙◌, arith}
use Rattle.eeprom.specs.Chip.{Becomes, RisesAtMost}
use Rattle.scql_base.specs.Words.{done}
use Rattle.scql_base.specs.declared.condition.Condition.{Condition}
use Rattle.scql_base.specs.declared.cursor.Cursor.{Cursor}
use Rattle.scql_base.specs.declared.cursor.Place.{Place}
use Rattle.scql_base.specs.declared.words.Actor.{Actor}
use Rattle.scql_model.specs.Database.{Database}
use Rattle.scql_model.specs.Machine.{Reading}
use Rattle.scql_model.specs.Moves.{moved, moved_to}
use Rattle.scql_model.specs.ReadingCommands.{declare}
use Rattle.views.proofs.Below.{ReadsAtMost}
use Rattle.db_read.specs.Searched.{cells_named, octets_for_operation}
use Rattle.db_read.proofs.Adding.{where-read}
use Rattle.db_read.proofs.Stopping.{answered-stop}
use Rattle.db_read.proofs.declaring.declare.Goals as goal

pub returns-in-Ok-clause-moved : goal.returns-in-Ok-clause-moved
returns-in-Ok-clause-moved g c = λ db held pending.
    c.in-Ok.ensures.declared db held (record { cursor = c.args.cursor.now; pending = pending }) ∙ ap (λ (place : Place). Ok (moved_to place c.in-Ok.declared done)) (sym c.in-Ok.ensures.new)

pub returns-in-Err-clause-moved : goal.returns-in-Err-clause-moved
returns-in-Err-clause-moved g c = λ db held pending.
    let before : Reading = record { cursor = c.args.cursor.now; pending = pending } in
    answered-stop (moved db c.args.actor before (declare c.args.object c.args.columns.now c.args.conditions.now)) c.in-Err.stop c.answer.result c.args.cursor.now c.answer.ensures
    (c.in-Err.ensures.refused db held before)

-- what was read of the object is all
all : (db : Database) (actor : Actor) (cursor : Option Cursor) (object : List ℕ) (columns : List (List ℕ)) (conditions : List Condition) (a b : Option ℕ) → ReadsAtMost (cells_named db actor object) a b
    → Becomes (RisesAtMost (octets_for_operation db actor cursor (declare object columns conditions))) a b
all db actor cursor object columns conditions a b read = λ after told. let own = read after told in (own.0, own.1, omega (arith, own.2))

pub returns-in-Ok-clause-octets_read : goal.returns-in-Ok-clause-octets_read
returns-in-Ok-clause-octets_read g c = λ db held. all db c.args.actor c.args.cursor.now c.args.object c.args.columns.now c.args.conditions.now _ _ (c.in-Ok.ensures.octets_read db held)

pub returns-in-Err-clause-octets_read : goal.returns-in-Err-clause-octets_read
returns-in-Err-clause-octets_read g c = λ db held.
    where-read _ _ c.in-Err.stop c.answer.result c.answer.ensures (c.in-Err.ensures.octets_read db held) (all db c.args.actor c.args.cursor.now c.args.object c.args.columns.now c.args.conditions.now _ _)
