-- How the stop of a part of an operation is one of the operation.
use Rattle.std.proofs.Common.{◌≡◌, true, Option, Result, Ok, Err, sym, subst}
use Rattle.std.specs.Prelude.{IfOk, IfErr, IsErrAnd}
use Rattle.eeprom.specs.declared.fault.EepromFault.{EepromFault}
use Rattle.scql_base.specs.declared.cursor.Cursor.{Cursor}
use Rattle.scql_base.specs.declared.words.Actor.{Actor}
use Rattle.scql_base.specs.declared.words.StatusWord.{StatusWord}
use Rattle.scql_base.specs.declared.records.Object.{Object}
use Rattle.scql_model.specs.Contents.{Contents}
use Rattle.scql_model.specs.Database.{Database}
use Rattle.scql_model.specs.Machine.{Reading}
use Rattle.scql_model.specs.ReadingCommands.{Move}
use Rattle.record_table.specs.Making.{stop_answer}
use Rattle.record_table.specs.declared.stop.Stop.{Stop}
use Rattle.record_table.specs.declared.stop.Stop.TheVariants.{Refused, Fault}
use Rattle.cursor.specs.Moved.{refuses}
use Rattle.db_read.specs.Answered.{Stops, WhereRead, WhereStopped, answered, selectable}
use Rattle.db_read.proofs.Sighted.{asked, asked-Err}

-- a stop is handed on
pub stops-on : {T U : Type 0} (P Q : Stop → Type 0) (from : Result T Stop) (to : Result U Stop) (stop : Stop) → ((s : Stop) → P s → Q s) → from ≡ Err stop → IsErrAnd to (λ given. given ≡ stop) → IfErr from P → IfErr to Q
stops-on P Q from (Ok x) stop more is gives said = absurd gives
stops-on P Q from (Err given) stop more is gives said = (let here : P stop = subst (λ r. IfErr r P) is said in subst Q (sym gives) (more stop here))

-- a refusal
pub stops-refused : {T U : Type 0} (outcome : Result U StatusWord) (result : Result T Stop) (word : StatusWord) → result ≡ Err (Refused word) → outcome ≡ Err word → refuses word ≡ true → IfErr result (Stops outcome)
stops-refused outcome result word is refused out = subst (λ r. IfErr r (Stops outcome)) (sym is) (refused, out)

-- what stops the search for an object stops what comes of it
pub stops-asked : {X : Type 0} (db : Database) (actor : Actor) (seen : Option Object) (f : Object → Contents → Result X StatusWord) (stop : Stop) → Stops (selectable db actor seen) stop → Stops (asked db actor seen f) stop
stops-asked db actor seen f (Refused word) stops = (asked-Err db actor seen f word stops.0, stops.1)
stops-asked db actor seen f Fault stops = tt

-- an operation that stopped answers the refusal, and leaves the cursor
pub answered-stop : (outcome : Result (Move Reading) StatusWord) (stop : Stop) (result : Result StatusWord EepromFault) (cursor : Option Cursor) → result ≡ stop_answer stop → Stops outcome stop
    → IfOk result (λ word. outcome ≡ answered word cursor)
answered-stop outcome (Refused word) result cursor is stops = subst (λ r. IfOk r (λ word. outcome ≡ answered word cursor)) (sym is) (rw stops.1 stops.0)
answered-stop outcome Fault result cursor is stops = subst (λ r. IfOk r (λ word. outcome ≡ answered word cursor)) (sym is) tt

-- What was read where a part stopped or didn't.
where-stopped : (said more : Type 0) (stop : Stop) → (said → more) → WhereStopped stop said → WhereStopped stop more
where-stopped said more (Refused word) weaker read = weaker read
where-stopped said more Fault weaker read = tt

pub where-on : {T U : Type 0} (said more : Type 0) (from : Result T Stop) (to : Result U Stop) (stop : Stop) → from ≡ Err stop → IsErrAnd to (λ given. given ≡ stop) → (said → more) → WhereRead from said → WhereRead to more
where-on said more from (Ok x) stop is gives weaker read = absurd gives
where-on said more from (Err given) stop is gives weaker read =
    let here : WhereStopped stop said = subst (λ r. WhereRead r said) is read in
    where-stopped said more given weaker (subst (λ (s : Stop). WhereStopped s said) (sym gives) here)

pub where-more : {T : Type 0} (said more : Type 0) (result : Result T Stop) → (said → more) → WhereRead result said → WhereRead result more
where-more said more (Ok x) weaker read = weaker read
where-more said more (Err stop) weaker read = where-stopped said more stop weaker read

-- what is said twice
pub where-both : {T : Type 0} (one other : Type 0) (result : Result T Stop) → WhereRead result one → WhereRead result other → WhereRead result (one × other)
where-both one other (Ok x) first second = (first, second)
where-both one other (Err (Refused word)) first second = (first, second)
where-both one other (Err Fault) first second = tt
