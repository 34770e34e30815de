-- The store is that of the image, once all slots were claimed.
use Rattle.std.proofs.Common.{◌≡◌, ℕ, false, None, IfSome, sym, subst, ◌∙◌, rules}
use Rattle.eeprom.specs.Chip.{Chip, Becomes, RisesBy}
use Rattle.eeprom.specs.StoreOf.{is_gate_open, store_of}
use Rattle.record_store.specs.Opening.{IsOverSoFar, StandsSoFar, front_octets}
use Rattle.record_store.specs.Recovery.{KeepsStore}
use Rattle.record_store.proofs.OpeningSlots.{finished-over, finished-opened, read-told}
use Rattle.record_store.proofs.Replaying.{kept-image}
use Rattle.record_store.proofs.store.Store.open.Goals.{After-finish}
use Rattle.record_store.proofs.store.Store.open.Goals as goal

over : (g : _) (c : After-finish g) → IsOverSoFar c.loop-slot.opening (g.B.Eeprom.chip c.loop-slot.bench)
over g c = subst (IsOverSoFar c.loop-slot.opening) (sym c.loop-slot.invariant.same) c.loop-slot.invariant.opening.over

pub returns : goal.returns
returns g c = record {
  over = finished-over c.loop-slot.opening c.finish.result (g.B.Eeprom.chip c.loop-slot.bench) c.finish.ensures.stands c.finish.ensures.cells (over g c);
  opened = finished-opened c.loop-slot.opening c.finish.result (g.B.Eeprom.chip c.loop-slot.bench).image c.finish.ensures.opened (over g c).stands;
  told = search rules;
  idle = search rules;
  octets_read =
      read-told c.loop-slot.opening c.finish.result (g.B.Eeprom.chip c.args.bench.now) (g.B.Eeprom.chip c.new.new.bench) (g.B.Eeprom.octets_read c.args.bench.now) (g.B.Eeprom.octets_read c.new.new.bench)
      (g.B.Eeprom.octets_read c.loop-slot.bench) c.new.ensures.frame.store.closed c.finish.ensures.opened c.finish.ensures.weight c.finish.ensures.cells
      (subst (λ (chip : Chip). IfSome chip.image (StandsSoFar c.loop-slot.opening)) c.loop-slot.invariant.same (over g c).stands)
      (subst (λ (n : ℕ). IfSome (g.B.Eeprom.chip c.args.bench.now).image (λ image. is_gate_open image ≡ false → Becomes (RisesBy (front_octets n)) (g.B.Eeprom.octets_read c.args.bench.now) (g.B.Eeprom.octets_read c.new.new.bench)))
      (sym c.loop-slot.invariant.opening.cells_are) c.in_ok-opening.ensures.octets_read) c.loop-slot.invariant.opening.read;
  most_read = search rules;
  no_memory = search rules;
  not_a_card = search rules;
  frame = record {
    store = subst (λ (chip : Chip). KeepsStore (g.B.Eeprom.chip c.args.bench.now) chip) (sym c.loop-slot.invariant.same) c.new.ensures.frame.store;
    counts = search rules;
  };
}

pub returns-in_err-opening-2 : goal.returns-in_err-opening-2
returns-in_err-opening-2 g c = record {
  over = search rules;
  opened = search rules;
  told = search rules;
  idle = search rules;
  octets_read = search rules;
  most_read = search rules;
  no_memory = search rules;
  not_a_card = λ refused.
      let none = c.in_err-opening-2.ensures.not_a_card (search rules) in
      kept-image (λ image. store_of image ≡ None) (λ image. store_of image ≡ None) (g.B.Eeprom.chip c.args.bench.now) (g.B.Eeprom.chip c.new.new.bench) c.new.ensures.frame.store.keeps c.in_ok-opening.ensures.told
      (λ left was same none. sym same ∙ none)
      (subst (λ (chip : Chip). IfSome chip.image (λ image. store_of image ≡ None)) c.loop-slot.invariant.same none);
  frame = search rules;
}
