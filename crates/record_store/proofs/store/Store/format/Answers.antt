use Rattle.std.proofs.Common.{◌≡◌, ℕ, List, Option, Some, None, option_map, drop, ap, refl, ◌∙◌, arith, rules}
use Rattle.std.specs.Prelude.{IfSome}
use Rattle.eeprom.specs.Chip.{Keeps}
use Rattle.eeprom.specs.StoreOf.{store_of, fresh_store, image_size}
use Rattle.eeprom.specs.Image.{overwrite}
use Rattle.record_store.specs.FreshImage.{magic, fresh_body, fresh_image, LeavesFormatted}
use Rattle.record_store.proofs.FreshStore.{store-formatted}
use Rattle.eeprom.proofs.Overwrite.{option-front}
use Rattle.record_store.proofs.Fronts.{Keeps-then, body_moments, front_moments}
use Rattle.record_store.proofs.Keeping.{behind-write}
use Rattle.record_store.proofs.store.Store.format.Goals.{After-write_body, After-write}
use Rattle.record_store.proofs.store.Store.format.Goals as goal

image_is : (g : _) (c : goal.In_ok-write g) → (g.B.Eeprom.chip c.write.new.self).image
    ≡ option_map (λ image. overwrite image 0 (fresh_image c.args.cells c.args.first.now c.args.second.now)) (g.B.Eeprom.chip c.args.bench.now).image
image_is g c =
    option-front magic (fresh_body c.args.cells c.args.first.now c.args.second.now) (g.B.Eeprom.chip c.clear_front.new.bench).still.size
    (g.B.Eeprom.chip c.args.bench.now).image (g.B.Eeprom.chip c.clear_front.new.bench).image (g.B.Eeprom.chip c.write_body.new.bench).image
    (g.B.Eeprom.chip c.write.new.self).image (rw c.clear_front.ensures.still (omega arith))
    (g.met.B.Eeprom.sized c.clear_front.new.bench) c.in_ok-clear_front.ensures.rest c.in_ok-write_body.ensures.image c.in_ok-write.ensures.written

of_map : (f : List ℕ → List ℕ) (Q : List ℕ → Type 0) (o : Option (List ℕ)) → IfSome (option_map f o) Q → IfSome o (λ image. Q (f image))
of_map f Q None holds = tt
of_map f Q (Some image) holds = holds

-- with the front written the store is the new one, and before that there is none
moments : (g : _) (c : After-write g) → LeavesFormatted c.args.cells c.args.first.now c.args.second.now (g.B.Eeprom.chip c.args.bench.now) (g.B.Eeprom.chip c.write.new.self)
moments g c =
    let old = g.B.Eeprom.chip c.args.bench.now in
    let cleared = g.B.Eeprom.chip c.clear_front.new.bench in
    let mid = g.B.Eeprom.chip c.write_body.new.bench in
    let written = option_map (λ image. overwrite image 0 magic) mid.image in
    let whole : written ≡ option_map (λ image. overwrite image 0 (fresh_image c.args.cells c.args.first.now c.args.second.now)) old.image =
    option-front magic (fresh_body c.args.cells c.args.first.now c.args.second.now) cleared.still.size old.image cleared.image mid.image written
    (rw c.clear_front.ensures.still (omega arith)) (g.met.B.Eeprom.sized c.clear_front.new.bench) c.in_ok-clear_front.ensures.rest c.in_ok-write_body.ensures.image refl in
    let stored = store-formatted c.args.cells c.args.first.now c.args.second.now old.image written
    c.requires.few c.requires.many c.requires.first.0 c.requires.first.1 c.requires.second.0 c.requires.second.1 whole in
    front_moments c.args.cells c.args.first.now c.args.second.now _ old mid (g.B.Eeprom.chip c.write.new.self) refl (c.write_body.ensures.front.still ∙ c.clear_front.ensures.still)
    (of_map (λ image. overwrite image 0 magic) (λ image. store_of image ≡ Some (fresh_store c.args.cells c.args.first.now c.args.second.now)) mid.image stored)
    (g.met.B.Eeprom.clocked c.write_body.new.bench) c.write.ensures.writes
    (body_moments c.args.cells c.args.first.now c.args.second.now old cleared mid c.clear_front.ensures.still c.in_ok-clear_front.ensures.cleared c.clear_front.ensures.moments c.write_body.ensures.front)

-- nothing is written behind the image
body_behind : (g : _) (c : After-write_body g) → Keeps (drop (image_size c.args.cells)) (g.B.Eeprom.chip c.args.bench.now) (g.B.Eeprom.chip c.write_body.new.bench)
body_behind g c = Keeps-then (drop (image_size c.args.cells)) _ _ _ (c.clear_front.ensures.behind (image_size c.args.cells) (omega arith)) c.write_body.ensures.behind

behind : (g : _) (c : After-write g) → Keeps (drop (image_size c.args.cells)) (g.B.Eeprom.chip c.args.bench.now) (g.B.Eeprom.chip c.write.new.self)
behind g c =
    let before = body_behind g (goal.at.After-write g c).After-write_body in
    Keeps-then (drop (image_size c.args.cells)) (g.B.Eeprom.chip c.args.bench.now) (g.B.Eeprom.chip c.write_body.new.bench) (g.B.Eeprom.chip c.write.new.self) before
    (behind-write 0 (image_size c.args.cells) _ (g.B.Eeprom.chip c.write_body.new.bench) (g.B.Eeprom.chip c.write.new.self) (omega arith) (omega (arith, ap (λ still. still.size) before.still)) (g.met.B.Eeprom.sized c.write_body.new.bench)
    (g.met.B.Eeprom.clocked c.write_body.new.bench) c.write.ensures.writes)

pub returns : goal.returns
returns g c = record {
  image = image_is g c;
  formatted =
      store-formatted c.args.cells c.args.first.now c.args.second.now (g.B.Eeprom.chip c.args.bench.now).image (g.B.Eeprom.chip c.write.new.self).image
      c.requires.few c.requires.many c.requires.first.0 c.requires.first.1 c.requires.second.0 c.requires.second.1 (image_is g c);
  still = search rules;
  moments = moments g (goal.at.returns g c).After-write;
  behind = behind g (goal.at.returns g c).After-write;
  too_small = search rules;
  unchanged = search rules;
  cause = search rules;
}

pub returns-in_err-write_body : goal.returns-in_err-write_body
returns-in_err-write_body g c = record {
  image = search rules;
  formatted = search rules;
  still = search rules;
  moments =
      body_moments c.args.cells c.args.first.now c.args.second.now (g.B.Eeprom.chip c.args.bench.now) (g.B.Eeprom.chip c.clear_front.new.bench) (g.B.Eeprom.chip c.write_body.new.bench) c.clear_front.ensures.still c.in_ok-clear_front.ensures.cleared
      c.clear_front.ensures.moments c.write_body.ensures.front;
  behind = body_behind g (goal.at.returns-in_err-write_body g c).After-write_body;
  too_small = search rules;
  unchanged = search rules;
  cause = search rules;
}

pub returns-in_err-write : goal.returns-in_err-write
returns-in_err-write g c = record {
  image = search rules;
  formatted = search rules;
  still = search rules;
  moments = moments g (goal.at.returns-in_err-write g c).After-write;
  behind = behind g (goal.at.returns-in_err-write g c).After-write;
  too_small = search rules;
  unchanged = search rules;
  cause = search rules;
}

pub returns-in_err-clear_front : goal.returns-in_err-clear_front
returns-in_err-clear_front g c = record {
  image = search rules;
  formatted = search rules;
  still = search rules;
  moments = search rules;
  behind = c.clear_front.ensures.behind (image_size c.args.cells) (omega arith);
  too_small = search rules;
  unchanged = search rules;
  cause = search rules;
}
