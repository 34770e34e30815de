-- A question leaves the side that was asked, and its database.
use Rattle.std.proofs.Common.{◌≡◌, Bool, Result, refl, sym, ap, ◌∙◌, subst}
use Rattle.eeprom.specs.declared.device.Eeprom.{Ghosts}
use Rattle.record_store.specs.declared.side_reader.SideReader.{SideReader}
use Rattle.scql_model.specs.Database.{Database}
use Rattle.record_table.specs.Asking.{Asks, Holds, SameSide, slots_asked}
use Rattle.record_table.specs.Listed.{slots_of}
use Rattle.record_table.specs.Making.{IsHeld}

module _ {B : Type 0} {g : Ghosts B} where
  pub SameSide-refl : {reader : SideReader B g} → SameSide reader reader
  SameSide-refl = record { store = refl; side = refl; bench = refl }

  pub SameSide-then : {old mid new : SideReader B g} → SameSide old mid → SameSide mid new → SameSide old new
  SameSide-then one two = record { store = two.store ∙ one.store; side = two.side ∙ one.side; bench = two.bench ∙ one.bench }

  -- The same side of the same store has the same slots, where the EEPROM is the same,
  pub same-slots : {old new : SideReader B g} → SameSide old new → g.chip new.bench.now ≡ g.chip old.bench.now → slots_asked new ≡ slots_asked old
  same-slots {old} {new} same still =
      ap (λ store. slots_of store.now new.side (g.chip new.bench.now)) same.store ∙ (ap (λ side. slots_of old.store.now side (g.chip new.bench.now)) same.side ∙ ap (λ chip. slots_of old.store.now old.side chip) still)

  -- and holds the same database.
  pub same-held : {old new : SideReader B g} {db : Database} → SameSide old new → g.chip new.bench.now ≡ g.chip old.bench.now → Holds old db → Holds new db
  same-held {old} {new} {db} same still held =
      subst (λ store. IsHeld store.now new.side (g.chip new.bench.now) db) (sym same.store)
      (subst (λ side. IsHeld old.store.now side (g.chip new.bench.now) db) (sym same.side)
      (subst (λ chip. IsHeld old.store.now old.side chip db) (sym still) held))

  pub Holds-then : {T E : Type 0} {is_fault : E → Bool} {is_answer : Database → Result T E → Type 0} {old new : SideReader B g} {result : Result T E} {db : Database} → Asks is_fault is_answer old new result → Holds old db → Holds new db
  Holds-then asks held = same-held asks.goes_on asks.frame.same held
