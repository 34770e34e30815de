-- How an operation ends whose edits are made after nothing but reads.
use Rattle.std.proofs.Common.{◌≡◌, List, Result, Ok, sym, subst}
use Rattle.eeprom.specs.Chip.{Chip}
use Rattle.record_store.specs.Held.{Held}
use Rattle.record_store.specs.declared.side.Side.TheVariants.{Working}
use Rattle.scql_base.specs.declared.words.StatusWord.{StatusWord}
use Rattle.scql_model.specs.Database.{Database}
use Rattle.scql_model.specs.Edits.{Edit, making}
use Rattle.scql_model.specs.Records.{AnyRecord}
use Rattle.record_table.specs.Making.{Ends, IsHeld, IsValidWith}
use Rattle.record_table.specs.declared.stop.Stop.{Stop}

-- as making it ends, where the record is the one that the operation asks for, and nothing but reads came before
pub Ends-made : {T : Type 0} (db : Database) (made asked : AnyRecord) (outcome : Result (List Edit) StatusWord) (result : Result T Stop) (old new : Held) (before mid after : Chip) → outcome ≡ Ok (making db asked)
    → made ≡ asked → mid ≡ before → IsHeld old Working before db → IsValidWith db (making db asked)
    → (IsHeld old Working mid db → IsValidWith db (making db made) → Ends db (Ok (making db made)) result old new mid after) → Ends db outcome result old new before after
Ends-made db made asked outcome result old new before mid after is same still held valid makes =
    let ends = makes (subst (λ chip. IsHeld old Working chip db) (sym still) held) (subst (λ r. IsValidWith db (making db r)) (sym same) valid) in
    let of_asked = subst (λ r. Ends db (Ok (making db r)) result old new mid after) same ends in
    subst (λ outcome. Ends db outcome result old new before after) (sym is) (subst (λ chip. Ends db (Ok (making db asked)) result old new chip after) still of_asked)

-- as its edits are made
pub Ends-of : {T : Type 0} (db : Database) (edits : List Edit) (outcome : Result (List Edit) StatusWord) (result : Result T Stop) (old new : Held) (before mid after : Chip) → outcome ≡ Ok edits → mid ≡ before
    → Ends db (Ok edits) result old new mid after → Ends db outcome result old new before after
Ends-of db edits outcome result old new before mid after is still ends =
    subst (λ outcome. Ends db outcome result old new before after) (sym is) (subst (λ chip. Ends db (Ok edits) result old new chip after) still ends)
