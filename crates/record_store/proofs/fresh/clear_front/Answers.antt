use Rattle.std.proofs.Common.{◌≡◌, ℕ, ◌≤◌, List, Option, Some, None, take, drop, arith, slice_range, refl, sym, ap, subst, ◌∙◌, rules}
use Rattle.std.specs.Prelude.{IfSome}
use Rattle.std.proofs.lemmas.Slice.Eq.{bytes_eq-Decides}
use Rattle.eeprom.specs.Chip.{Chip, Keeps}
use Rattle.record_store.specs.FreshImage.{magic, LeavesCleared}
use Rattle.record_store.proofs.Fronts.{clear_moments}
use Rattle.record_store.proofs.Keeping.{behind-write}
use Rattle.record_store.proofs.fresh.clear_front.Goals.{After-write}
use Rattle.record_store.proofs.fresh.clear_front.Goals as goal

begins : (old new : Option (List ℕ)) (front : List ℕ) → new ≡ old → front ≡ magic → IfSome old (λ image. front ≡ slice_range image 0 4) → IfSome new (λ image. take 4 image ≡ magic)
begins None new front same is read = rw same tt
begins (Some image) new front same is read = rw same (sym read ∙ is)

moments : (g : _) (c : After-write g) → LeavesCleared (g.B.Eeprom.chip c.args.bench.now) (g.B.Eeprom.chip c.write.new.self)
moments g c =
    let same = c.in_ok-read.ensures.frame.same in
    let front : c.read.new.into ≡ magic = (bytes_eq-Decides c.read.new.into magic).0 (sym c.if-eq.ensures) in
    subst (λ (chip : Chip). LeavesCleared chip (g.B.Eeprom.chip c.write.new.self)) same
    (clear_moments _ (g.B.Eeprom.chip c.read.new.self) (g.B.Eeprom.chip c.write.new.self) refl
    (begins (g.B.Eeprom.chip c.args.bench.now).image (g.B.Eeprom.chip c.read.new.self).image c.read.new.into (ap (λ (chip : Chip). chip.image) same) front c.in_ok-read.ensures.octets)
    (g.met.B.Eeprom.clocked c.read.new.self) c.write.ensures.writes)

behind : (g : _) (c : After-write g) (limit : ℕ) → 4 ≤ limit → Keeps (drop limit) (g.B.Eeprom.chip c.args.bench.now) (g.B.Eeprom.chip c.write.new.self)
behind g c limit inside =
    let same = c.in_ok-read.ensures.frame.same in
    subst (λ (chip : Chip). Keeps (drop limit) chip (g.B.Eeprom.chip c.write.new.self)) same
    (behind-write 0 limit _ (g.B.Eeprom.chip c.read.new.self) (g.B.Eeprom.chip c.write.new.self) inside (omega (arith, c.requires.room, ap (λ (chip : Chip). chip.still.size) same)) (g.met.B.Eeprom.sized c.read.new.self) (g.met.B.Eeprom.clocked c.read.new.self) c.write.ensures.writes)

pub returns-in_err-write : goal.returns-in_err-write
returns-in_err-write g c = record {
  cleared = search rules;
  rest = search rules;
  still = search rules;
  moments = moments g (goal.at.returns-in_err-write g c).After-write;
  behind = λ limit inside. behind g (goal.at.returns-in_err-write g c).After-write limit inside;
  cause = search rules;
}

pub returns-in_ok-write : goal.returns-in_ok-write
returns-in_ok-write g c = record {
  cleared = search rules;
  rest = search rules;
  still = search rules;
  moments = moments g (goal.at.returns-in_ok-write g c).After-write;
  behind = λ limit inside. behind g (goal.at.returns-in_ok-write g c).After-write limit inside;
  cause = search rules;
}
