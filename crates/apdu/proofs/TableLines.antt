-- The lines of the table, each at its place.
use Rattle.std.proofs.Common.{◌≡◌, ℕ, ◌==◌, ◌&&◌, true, Option, Some, map, slice_get, option_map, refl, ap, sym, subst, ◌∙◌, arith}
use Rattle.std.proofs.lemmas.Option.{slice_get-map, same_Some}
use Rattle.scql_base.specs.declared.operation.Line.{Line}
use Rattle.scql_model.specs.Operations.{line_of, operations}

-- each line of the table is found by its own INS, P1 and P2
found : map (λ (l : Line). line_of operations l.ins l.p1 l.p2) operations ≡ map Some operations
found = refl

-- what is for INS, P1 and P2 has them
same-octets : (x y z ins p1 p2 : ℕ) → (x == ins && y == p1 && z == p2) ≡ true → (x ≡ ins) × (y ≡ p1) × (z ≡ p2)
same-octets x y z ins p1 p2 is = (grind (arith, is), grind (arith, is), grind (arith, is))

-- a line at a place is the one that is found, where it is for INS, P1 and P2
pub line_of-place : (place ins p1 p2 : ℕ) (line : Line) → slice_get operations place ≡ Some line
    → (line.ins == ins && line.p1 == p1 && line.p2 == p2) ≡ true → line_of operations ins p1 p2 ≡ Some line
line_of-place place ins p1 p2 line at is_for =
    let same = same-octets line.ins line.p1 line.p2 ins p1 p2 is_for in
    rw (← same.0, ← same.1, ← same.2) own
  where
    own : line_of operations line.ins line.p1 line.p2 ≡ Some line
    own = same_Some _ _ (subst (λ (there : Option Line). option_map (λ (l : Line). line_of operations l.ins l.p1 l.p2) there ≡ option_map Some there) at
        (sym (slice_get-map (λ (l : Line). line_of operations l.ins l.p1 l.p2) operations place) ∙ (ap (λ lines. slice_get lines place) found ∙ slice_get-map Some operations place)))
